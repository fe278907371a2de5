-- What holds of every way in which a word can end: of each sample that it can give, and of each refusal.
-- Assumes nothing.
use mathlib.Core.Path.{◌≡◌, refl}
use mathlib.Core.Bool.{Bool, true, false, cond}
use mathlib.Core.List.{List}
use Prim.Native.Nat.{ℕ, zero, suc, ◌+◌}
use lib.Dec.{ltb, leb, eqb}
use lib.IntN.{ℤ}
use Rattle.std.specs.Prelude.{Option, Some, None, Result, Ok, Err}
use Rattle.answers.specs.declared.Refusal.{Refusal}
use Rattle.answers.specs.declared.Refusal.TheVariants.{Truncated, EndOfStream}
use Rattle.bits.specs.Fields.{unary}
use Rattle.fields.specs.Counts.{counted, then_prefix, escaped, prefix}
use Rattle.word_state.specs.State.{State, on_zeros}
use Rattle.words.specs.Word.{Word, given, refused, on_field, on_prefix}

-- a prefix is read, or is refused in one of two ways
pub data Two : Result (ℕ × ℕ) Refusal → Type 0 where
  value : (v q : ℕ) → Two (Ok (v, q))
  missing : Two (Err Truncated)
  ended : Two (Err EndOfStream)

two_cond : (t : Bool) (a b : Result (ℕ × ℕ) Refusal) → Two a → Two b → Two (cond t a b)
two_cond true a b x y = x
two_cond false a b x y = y

two_then : (f : Option (ℕ × ℕ)) (next : ℕ → ℕ → Result (ℕ × ℕ) Refusal) → ((v q : ℕ) → Two (next v q))
    → Two (then_prefix f next)
two_then (Some (v, q)) next k = k v q
two_then None next k = Two.missing

two_escaped : (bits : List Bool) (c n : ℕ) → Two (escaped bits c n)
unfolding escaped
two_escaped bits c n =
    two_cond (eqb c 33) _ _ Two.ended
    (two_cond (ltb 33 c) _ _ Two.missing
    (two_then (counted bits n c) _ λ v m. two_cond (leb (16 + v) 4294967295) _ _ (Two.value (16 + v) m) Two.missing))

pub two_prefix : (bits : List Bool) (p : ℕ) → Two (prefix bits p)
unfolding prefix
two_prefix bits p =
    two_then (unary bits p) _ λ r q.
    two_cond (ltb r 16) _ _ (Two.value r q) (two_then (unary bits q) _ λ c n. two_escaped bits c n)

-- G of what is given, R of the number of a refusal
abbrev pub Every : (ℤ → ℕ → State → Type 0) → (ℕ → Type 0) → Word → Type 0
Every G R (given v q t z) = G v q t
Every G R (refused c) = R c

module _ (G : ℤ → ℕ → State → Type 0) (R : ℕ → Type 0) (three : R 3) where
  -- a field, and the word that follows from it
  pub every_field : (f : Option (ℕ × ℕ)) (next : ℕ → ℕ → Word) → ((v q : ℕ) → f ≡ Some (v, q) → Every G R (next v q))
      → Every G R (on_field f next)
  every_field (Some (v, q)) next k = k v q refl
  every_field None next k = three

  -- a prefix
  pub every_prefix : R 4 → {f : Result (ℕ × ℕ) Refusal} → Two f → (next : ℕ → ℕ → Word) → ((v q : ℕ) → Every G R (next v q))
      → Every G R (on_prefix f next)
  every_prefix four (Two.value v q) next k = k v q
  every_prefix four Two.ended next k = four
  every_prefix four Two.missing next k = three

  -- of two words, whichever
  pub every_cond : (t : Bool) (a b : Word) → Every G R a → Every G R b → Every G R (cond t a b)
  every_cond true a b x y = x
  every_cond false a b x y = y

  -- a zero, or the rest
  pub every_zeros : (n : ℕ) (a : ℕ → Word) (b : Word) → ((d : ℕ) → Every G R (a d)) → Every G R b
      → Every G R (on_zeros n a b)
  every_zeros zero a b x y = y
  every_zeros (suc d) a b x y = x d
