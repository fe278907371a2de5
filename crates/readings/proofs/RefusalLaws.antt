-- A word is refused with 3 only where a bit is missing or a count or a prefix value is over its
-- cap, with 4 only at a second count of 33, and with no other number; a reading is refused with
-- what its first refused word says.
-- Assumes nothing.
use mathlib.Core.Path.{◌≡◌, refl, sym, ◌∙◌}
use mathlib.Core.Bool.{Bool, true, false, cond}
use mathlib.Core.List.{List, []}
use Prim.Native.Nat.{ℕ, zero, suc, ◌+◌, ◌/◌, ◌%◌, ◌<◌}
use native.Mathlib.Omega.{arith}
use lib.IntN.{pos}
use Rattle.std.specs.Prelude.{Option, Some, None, Result}
use Rattle.answers.specs.declared.Refusal.{Refusal}
use Rattle.bits.specs.Bits.{val, bit_of}
use Rattle.bits.specs.Fields.{get_bits}
use Rattle.fields.specs.Code.{truncated_binary}
use Rattle.fields.specs.Counts.{run_length, prefix}
use Rattle.bits.proofs.ReadLaws.{bits-missing}
use Rattle.fields.proofs.RefusalLaws.{run-refused, prefix-refused, prefix-ended, code-refused}
use Rattle.medians.specs.Interval.{low_of}
use Rattle.word_state.specs.State.{State, due, paid, in_run, unbroken, cleared, flagged, after, run_here, on_zeros}
use Rattle.words.specs.Word.{Word, given, refused, on_field, on_prefix, signed, value, plain, fresh, word}
use Rattle.zones.specs.Report.{none, zone_of}
use Rattle.readings.specs.Reading.{Reading, on_word, more, reading}
use Rattle.readings.specs.Refused.{last_code, Starts, Counts, Why}
use Rattle.readings.proofs.EveryLaws.{Two, two_prefix}
use Rattle.words.proofs.PartLaws.{fresh-word, fresh-run}

module _ (bits : List Bool) (p : ℕ) (s : State) (c : ℕ) where
  -- a reason, under the number that was told
  number : (n : ℕ) → Why bits p s n → refused n ≡ refused c → Why bits p s c
  number n w e = let z : n ≡ c = cc in rw z at w

  -- code and sign
  value-why : (q k : ℕ) (t : State) → due t ≡ due s → Counts bits p s q k → value bits q k t ≡ refused c → Why bits p s c
  unfolding value
  value-why q k t d h e = code (truncated_binary bits q (last_code s k)) refl (rw d at e)
    where
      sign : (x n : ℕ) (f : Option (ℕ × ℕ)) → truncated_binary bits q (last_code s k) ≡ Some (x, n) → get_bits bits n 1 ≡ f
          → on_field f (λ y m. given (signed y (low_of (due s) k + x)) m (after k t) (zone_of k)) ≡ refused c → Why bits p s c
      sign x n (Some (y, m)) a f e = let z : ◌≡◌ {A = ℕ} 0 1 = cc in absurd (omega arith)
      sign x n None a f e = number 3 (Why.no_sign q k x n h a (bits-missing bits n 1 f)) e

      code : (f : Option (ℕ × ℕ)) → truncated_binary bits q (last_code s k) ≡ f
          → on_field f (λ x n. on_field (get_bits bits n 1) λ y m. given (signed y (low_of (due s) k + x)) m (after k t) (zone_of k)) ≡ refused c → Why bits p s c
      code (Some (x, n)) f e = sign x n (get_bits bits n 1) f refl e
      code None f e = number 3 (Why.no_code q k h (code-refused bits q (last_code s k) f)) e

  -- the count
  plain-why : (q : ℕ) → Starts bits p s q → plain bits q (unbroken s) ≡ refused c → Why bits p s c
  unfolding plain unbroken cleared flagged
  plain-why q h e = go s.last_zero refl e
    where
      next : ℕ → ℕ → Word
      next r n = value bits n (r / 2 + val s.last_one) (flagged (bit_of (r % 2)) (unbroken s))

      read : {f : Result (ℕ × ℕ) Refusal} → Two f → prefix bits q ≡ f → s.last_zero ≡ false → on_prefix f next ≡ refused c → Why bits p s c
      read (Two.value r n) f z e = value-why n (r / 2 + val s.last_one) (flagged (bit_of (r % 2)) (unbroken s)) refl (Counts.read q r n h z f) e
      read Two.ended f z e = number 4 (Why.end-of_stream q h z (prefix-ended bits q f)) e
      read Two.missing f z e = number 3 (Why.no_prefix q h z (prefix-refused bits q f)) e

      go : (t : Bool) → s.last_zero ≡ t → cond t (value bits q 0 (cleared (unbroken s))) (on_prefix (prefix bits q) next) ≡ refused c → Why bits p s c
      go true z e = value-why q 0 (cleared (unbroken s)) refl (Counts.held q h z) e
      go false z e = read (two_prefix bits q) refl z e

  -- the run length
  fresh-why : s.debt ≡ 0 → fresh bits p s ≡ refused c → Why bits p s c
  fresh-why d e = go (run_here s) refl
    where
      next : ℕ → ℕ → Word
      next n q = on_zeros n (λ d. given (pos 0) q (in_run d s) none) (plain bits q (unbroken s))

      zeros : (n q : ℕ) → run_here s ≡ true → run_length bits p ≡ Some (n, q) → next n q ≡ refused c → Why bits p s c
      zeros zero q r f e = plain-why q (Starts.behind q d r f) e
      zeros (suc n) q r f e = let z : ◌≡◌ {A = ℕ} 0 1 = cc in absurd (omega arith)

      run : (f : Option (ℕ × ℕ)) → run_here s ≡ true → run_length bits p ≡ f → on_field f next ≡ refused c → Why bits p s c
      run (Some (n, q)) r f e = zeros n q r f e
      run None r f e = number 3 (Why.no_run d r (run-refused bits p f)) e

      go : (t : Bool) → run_here s ≡ t → Why bits p s c
      go true r = run (run_length bits p) r refl (sym (fresh-run bits p s r) ∙ e)
      go false r = plain-why p (Starts.here d r) (sym (fresh-word bits p s r) ∙ e)

  -- the word
  pub word-why : word bits p s ≡ refused c → Why bits p s c
  unfolding word
  word-why e = go s.debt refl e
    where
      go : (n : ℕ) → s.debt ≡ n → on_zeros n (λ d. given (pos 0) p (paid d s) none) (fresh bits p s) ≡ refused c → Why bits p s c
      go zero d e = fresh-why d e
      go (suc n) d e = let z : ◌≡◌ {A = ℕ} 0 1 = cc in absurd (omega arith)

-- a refusal's number is 3 or 4
why-some : {bits : List Bool} {p : ℕ} {s : State} {c : ℕ} → Why bits p s c → 0 < c
why-some (Why.no_run d r n) = omega arith
why-some (Why.no_prefix q h z n) = omega arith
why-some (Why.no_code q k h n) = omega arith
why-some (Why.no_sign q k x n h a m) = omega arith
why-some (Why.end-of_stream q h z n) = omega arith

-- no word is refused with 0
pub word-refused : (bits : List Bool) (p : ℕ) (s : State) (c : ℕ) → word bits p s ≡ refused c → c ≡ 0 → ⊥
word-refused bits p s c e z = omega (arith, why-some (word-why bits p s c e))

-- a refused reading stands at the word that was refused, in the state before it
pub reading-why : (bits : List Bool) (n p : ℕ) (s : State) → 0 < (reading bits n p s).refusal
    → Why bits (reading bits n p s).place (reading bits n p s).state (reading bits n p s).refusal
unfolding reading
reading-why bits zero p s h = absurd (omega arith)
reading-why bits (suc n) p s h = go (word bits p s) refl (reading-why bits n) h
  where
    step : Word → Reading
    step w = on_word w (λ v q t. more v (reading bits n q t)) (λ c. record { refusal = c; samples = []; place = p; state = s })

    go : (w : Word) → word bits p s ≡ w
        → ((q : ℕ) (t : State) → 0 < (reading bits n q t).refusal → Why bits (reading bits n q t).place (reading bits n q t).state (reading bits n q t).refusal)
        → 0 < (step w).refusal → Why bits (step w).place (step w).state (step w).refusal
    go (given v q t z) e ih h = ih q t h
    go (refused c) e ih h = word-why bits p s c e
