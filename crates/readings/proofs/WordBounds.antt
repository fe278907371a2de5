-- What words give is small: each sample is a 32-bit number, a refusal is 3 or 4, and there are no
-- more samples than words.
-- Assumes nothing.
use mathlib.Core.Path.{◌≡◌, refl}
use mathlib.Core.Bool.{Bool, cond}
use mathlib.Core.List.{List, [], ◌∷◌}
use Prim.Native.Nat.{ℕ, zero, suc, ◌+◌, ◌-◌, ◌/◌, ◌%◌, ◌≤◌, ◌<◌}
use native.Mathlib.Omega.{arith}
use lib.IntN.{pos}
use lib.ListN.{length, get_or}
use lib.Signed.{mag}
use Rattle.std.specs.Prelude.{Option, Some, Result}
use Rattle.answers.specs.declared.Refusal.{Refusal}
use Rattle.bits.specs.Bits.{val, bit_of}
use Rattle.bits.specs.Fields.{get_bits}
use Rattle.fields.specs.Counts.{run_length, prefix}
use Rattle.fields.specs.Code.{truncated_binary}
use Rattle.fields.proofs.CodeLaws.{code-most}
use Rattle.medians.specs.Interval.{low_of, high_of}
use Rattle.medians.proofs.IntervalLaws.{ends}
use Rattle.word_state.specs.State.{State, due, paid, in_run, unbroken, cleared, flagged, after, run_due, on_zeros}
use Rattle.words.specs.Word.{Word, given, refused, signed, on_field, on_prefix, value, plain, fresh, word}
use Rattle.zones.specs.Report.{none, zone_of}
use Rattle.readings.specs.Reading.{Reading, on_word, more, reading}
use Rattle.readings.proofs.EveryLaws.{two_prefix, Two, Every, every_field, every_prefix, every_cond, every_zeros}

-- ---- one word

-- a word that gives a 32-bit number, or is refused with at most 4
abbrev SmallWord : Word → Type 0
SmallWord = Every (λ v q t. mag v < 2147483648) (λ c. c ≤ 4)

abbrev small-field : (f : Option (ℕ × ℕ)) (next : ℕ → ℕ → Word) → ((v q : ℕ) → f ≡ Some (v, q) → SmallWord (next v q))
    → SmallWord (on_field f next)
small-field = every_field (λ v q t. mag v < 2147483648) (λ c. c ≤ 4) (omega arith)

abbrev small-prefix : {f : Result (ℕ × ℕ) Refusal} → Two f → (next : ℕ → ℕ → Word) → ((v q : ℕ) → SmallWord (next v q))
    → SmallWord (on_prefix f next)
small-prefix = every_prefix (λ v q t. mag v < 2147483648) (λ c. c ≤ 4) (omega arith) (omega arith)

abbrev small-cond : (t : Bool) (a b : Word) → SmallWord a → SmallWord b → SmallWord (cond t a b)
small-cond = every_cond (λ v q t. mag v < 2147483648) (λ c. c ≤ 4) (omega arith)

abbrev small-zeros : (n : ℕ) (a : ℕ → Word) (b : Word) → ((d : ℕ) → SmallWord (a d)) → SmallWord b
    → SmallWord (on_zeros n a b)
small-zeros = every_zeros (λ v q t. mag v < 2147483648) (λ c. c ≤ 4) (omega arith)

-- the sign bit leaves the magnitude
signed-mag : (t v : ℕ) → mag (signed t v) ≡ v
signed-mag zero v = refl
signed-mag (suc t) v = refl

-- code and sign: the code lies in its interval, which ends below 2 ^ 31
small-value : (bits : List Bool) (p k : ℕ) (s : State) → SmallWord (value bits p k s)
unfolding value
small-value bits p k s =
    let low = low_of (due s) k in
    let last = high_of (due s) k - low_of (due s) k in
    let e = ends (due s) k in
    let sample : ℕ → ℕ → ℕ → Word = λ c t r. given (signed t (low + c)) r (after k s) (zone_of k) in
    small-field (truncated_binary bits p last) (λ c q. on_field (get_bits bits q 1) (sample c)) λ c q read.
    small-field (get_bits bits q 1) (sample c) λ t r one.
    omega (arith, signed-mag t (low + c), e.0, e.1, code-most bits p last c q (omega (arith, e.1)) read)

-- the count before them
small_plain : (bits : List Bool) (p : ℕ) (s : State) → SmallWord (plain bits p s)
unfolding plain
small_plain bits p s =
    let counted : ℕ → ℕ → Word = λ r q. value bits q (r / 2 + val s.last_one) (flagged (bit_of (r % 2)) s) in
    small-cond s.last_zero (value bits p 0 (cleared s)) (on_prefix (prefix bits p) counted) (small-value bits p 0 (cleared s))
    (small-prefix (two_prefix bits p) counted λ r q. small-value bits q (r / 2 + val s.last_one) (flagged (bit_of (r % 2)) s))

-- the run length before those
small-fresh : (bits : List Bool) (p : ℕ) (s : State) → SmallWord (fresh bits p s)
unfolding fresh
small-fresh bits p s =
    let run : ℕ → ℕ → Word = λ m q. on_zeros m (λ d. given (pos 0) q (in_run d s) none) (plain bits q s) in
    small-cond s.run_break (plain bits p (unbroken s)) (cond (run_due s.left s.right s.last_zero s.last_one) (on_field (run_length bits p) run) (plain bits p s)) (small_plain bits p (unbroken s))
    (small-cond (run_due s.left s.right s.last_zero s.last_one) (on_field (run_length bits p) run) (plain bits p s)
    (small-field (run_length bits p) run λ m q e. small-zeros m (λ d. given (pos 0) q (in_run d s) none) (plain bits q s) (λ d. omega arith) (small_plain bits q s))
    (small_plain bits p s))

-- any word
small_word : (bits : List Bool) (p : ℕ) (s : State) → SmallWord (word bits p s)
unfolding word
small_word bits p s = small-zeros s.debt (λ d. given (pos 0) p (paid d s) none) (fresh bits p s) (λ d. omega arith) (small-fresh bits p s)

-- ---- reading

-- the samples of n words, and their refusal
pub record SmallReading (n : ℕ) (r : Reading) : Type 0 where
  pub refusal : r.refusal ≤ 4
  pub most : length r.samples ≤ n
  pub samples : (i : ℕ) → mag (get_or r.samples i (pos 0)) < 2147483648

-- a word, and the reading behind it
small-behind : (bits : List Bool) (n p : ℕ) (s : State) (w : Word) → SmallWord w
    → ((q : ℕ) (t : State) → SmallReading n (reading bits n q t))
    → SmallReading (suc n) (on_word w (λ v q t. more v (reading bits n q t)) (λ c. record { refusal = c; samples = []; place = p; state = s }))
small-behind bits n p s (given v q t z) h rest =
    let r = rest q t in
    record { refusal = r.refusal; most = omega arith; samples = samples }
  where
    samples : (i : ℕ) → mag (get_or (v ∷ (reading bits n q t).samples) i (pos 0)) < 2147483648
    samples zero = h
    samples (suc i) = (rest q t).samples i
small-behind bits n p s (refused c) h rest = record { refusal = h; most = omega arith; samples = λ i. omega arith }

-- any reading
pub small-reading : (bits : List Bool) (n p : ℕ) (s : State) → SmallReading n (reading bits n p s)
unfolding reading
small-reading bits zero p s = record { refusal = omega arith; most = omega arith; samples = λ i. omega arith }
small-reading bits (suc n) p s = small-behind bits n p s (word bits p s) (small_word bits p s) (λ q t. small-reading bits n q t)
