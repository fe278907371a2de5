-- Document 01, "Packing" (K2, K6): the bits that a run length, a prefix and the code inside an
-- interval are written as. They are what "One word" reads (N1, N2, I4, I5), the other way round.
-- Assumes nothing.
use Rattle.std.specs.Prelude.{Bool, cond, List, [], ◌++◌, ℕ, ◌+◌, ◌-◌, ◌/◌, ◌^◌, ltb, eqb}
use Rattle.bits.specs.Bits.{low}
use Rattle.bits.specs.Fields.{unary_field}
use Rattle.fields.specs.Code.{bit_length}

-- a run length (N1): 0 and 1 as that many ones; else its bit length in ones, and the bits under its
-- top bit
unfoldable pub run_field : ℕ → List Bool
run_field n = cond (ltb n 2) (unary_field n) (unary_field (bit_length n) ++ low (bit_length n - 1) n)

-- a prefix (N2, K6): below 16 that many ones; else exactly 16 ones, and what is above 16 as a run
-- length is written
unfoldable pub prefix_field : ℕ → List Bool
prefix_field v = cond (ltb v 16) (unary_field v) (unary_field 16 ++ run_field (v - 16))

-- a code c (I5), where b is the bit length of the interval's last code M and x = 2^b - M - 1: below
-- x in b - 1 bits s = c; else s and t with 2s - x + t = c
unfoldable pub code_bits : ℕ → ℕ → ℕ → List Bool
code_bits b x c = cond (ltb c x) (low (b - 1) c) (low (b - 1) ((c + x) / 2) ++ low 1 (c + x))

-- a code c inside an interval whose last code is M (I4): for M = 0 no bits
unfoldable pub code_field : ℕ → ℕ → List Bool
code_field M c = cond (eqb M 0) [] (code_bits (bit_length M) (2 ^ bit_length M - M - 1) c)
