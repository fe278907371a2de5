-- Document 01, "Log word": what a signed 16-bit log word stands for.
-- Assumes nothing.
use Rattle.std.specs.Prelude.{ℕ, suc, ◌+◌, ◌-◌, ◌*◌, ◌/◌, ◌%◌, ◌^◌, Bool, true, false, leb, ℤ, pos, negsuc, neg_ℤ, get_or}
use Rattle.wrapping.specs.Wrap.{wrap32}
use Rattle.logpack.specs.Exp2Table.{exp2_table}

-- m = 256 + `EXP2_TABLE`[w mod 256]
unfoldable pub mantissa : ℕ → ℕ
mantissa w = 256 + get_or exp2_table (w % 256) 0

-- if e is at most 9, m shifted right by 9 - e; else m shifted left by (e - 9) mod 32, kept to 32
-- bits, read as signed. Where a word is accepted (specs/Reach.antt) e is at most 31, and the shift
-- loses no bit (Q7.1): `shift_exact` in proofs/ReachLaws.antt.
abbrev pub shifted : Bool → ℕ → ℕ → ℤ
shifted true m e = pos (m / 2 ^ (9 - e))
shifted false m e = wrap32 (pos (m * 2 ^ ((e - 9) % 32)))

-- document 01, "Log word" (L1): for w at least 0, from m and e = w div 256
unfoldable pub magnitude : ℕ → ℤ
magnitude w = shifted (leb (w / 256) 9) (mantissa w) (w / 256)

-- document 01, "Log word" (L1, L2): a negative word is worked out from its negation by the same
-- rule, then negated with wrapping; where it is accepted, nothing wraps (Q7.1): `negation_exact`
unfoldable pub log_word : ℤ → ℤ
log_word (pos w) = magnitude w
log_word (negsuc w) = wrap32 (neg_ℤ (magnitude (suc w)))
