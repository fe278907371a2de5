-- The totals and the channel of the state after a word: a word neither looks at the totals nor changes them,
-- and flips the channel.
-- Assumes nothing.
use mathlib.Core.Path.{◌≡◌, refl}
use mathlib.Core.Bool.{Bool, true, false, cond}
use mathlib.Core.List.{List}
use Prim.Native.Nat.{ℕ, zero, suc, ◌+◌, ◌-◌, ◌/◌, ◌%◌, ◌≤◌}
use native.Mathlib.Omega.{arith}
use lib.IntN.{ℤ}
use Rattle.std.specs.Prelude.{Option, Some, None, Result, Ok, Err}
use Rattle.answers.specs.declared.Refusal.{Refusal}
use Rattle.bits.specs.Bits.{val, bit_of}
use Rattle.bits.specs.Fields.{get_bits}
use Rattle.fields.specs.Counts.{run_length, prefix}
use Rattle.fields.specs.Code.{truncated_binary}
use Rattle.medians.specs.Interval.{low_of, high_of}
use Rattle.word_state.specs.State.{BitsRead, State, flip, due, with_bits, run_due, on_zeros}
use Rattle.word_state.specs.State.{paid, in_run, unbroken, cleared, flagged, after}
use Rattle.words.specs.Word.{Word, given, refused, on_field, on_prefix, value, plain, fresh, word}
use Rattle.zones.specs.Report.{Report}
use Rattle.readings.proofs.EveryLaws.{two_prefix, Every, every_field, every_prefix, every_cond, every_zeros}

-- ---- a word does not look at the totals

-- a word whose state has other totals
abbrev pub on_bits : BitsRead → Word → Word
on_bits b (given v q t z) = given v q (with_bits b t) z
on_bits b (refused c) = refused c

module _ (b : BitsRead) where
  field-bits : (f : Option (ℕ × ℕ)) (n m : ℕ → ℕ → Word) → ((v q : ℕ) → n v q ≡ on_bits b (m v q))
      → on_field f n ≡ on_bits b (on_field f m)
  field-bits (Some (v, q)) n m h = h v q
  field-bits None n m h = refl

  prefix-bits : (f : Result (ℕ × ℕ) Refusal) (n m : ℕ → ℕ → Word) → ((v q : ℕ) → n v q ≡ on_bits b (m v q))
      → on_prefix f n ≡ on_bits b (on_prefix f m)
  prefix-bits (Ok (v, q)) n m h = h v q
  prefix-bits (Err refusal) n m h = refl

  cond-bits : (t : Bool) (x y x' y' : Word) → x ≡ on_bits b x' → y ≡ on_bits b y'
      → cond t x y ≡ on_bits b (cond t x' y')
  cond-bits true x y x' y' h k = h
  cond-bits false x y x' y' h k = k

  zeros-bits : (n : ℕ) (f g : ℕ → Word) (x y : Word) → ((d : ℕ) → f d ≡ on_bits b (g d)) → x ≡ on_bits b y
      → on_zeros n f x ≡ on_bits b (on_zeros n g y)
  zeros-bits zero f g x y h k = k
  zeros-bits (suc d) f g x y h k = h d

  value-bits : (bits : List Bool) (p k : ℕ) (s : State)
      → value bits p k (with_bits b s) ≡ on_bits b (value bits p k s)
  unfolding value after
  value-bits bits p k s =
      field-bits (truncated_binary bits p (high_of (due s) k - low_of (due s) k)) _ _ λ c q.
      field-bits (get_bits bits q 1) _ _ λ t n. refl

  plain-bits : (bits : List Bool) (p : ℕ) (s : State)
      → plain bits p (with_bits b s) ≡ on_bits b (plain bits p s)
  unfolding plain cleared flagged
  plain-bits bits p s =
      cond-bits s.last_zero _ _ _ _ (value-bits bits p 0 (cleared s))
      (prefix-bits (prefix bits p) _ _ λ r q.
      value-bits bits q (r / 2 + val s.last_one) (flagged (bit_of (r % 2)) s))

  fresh-bits : (bits : List Bool) (p : ℕ) (s : State)
      → fresh bits p (with_bits b s) ≡ on_bits b (fresh bits p s)
  unfolding fresh unbroken in_run
  fresh-bits bits p s =
      cond-bits s.run_break _ _ _ _ (plain-bits bits p (unbroken s))
      (cond-bits (run_due s.left s.right s.last_zero s.last_one) _ _ _ _
      (field-bits (run_length bits p) _ _ λ n q. zeros-bits n _ _ _ _ (λ d. refl) (plain-bits bits q s))
      (plain-bits bits p s))

  pub word-bits : (bits : List Bool) (p : ℕ) (s : State)
      → word bits p (with_bits b s) ≡ on_bits b (word bits p s)
  unfolding word paid
  word-bits bits p s = zeros-bits s.debt _ _ _ _ (λ d. refl) (fresh-bits bits p s)

-- ---- nor changes them, and it flips the channel

module _ (c : ℕ) (b : BitsRead) where
  abbrev Kept : ℤ → ℕ → State → Type 0
  Kept v q t = (t.channel ≡ flip c) × (t.bits_read ≡ b)

  abbrev Any : ℕ → Type 0
  Any n = n ≤ 4

  abbrev KeptWord : Word → Type 0
  KeptWord = Every Kept Any

  kept-value : (bits : List Bool) (p k : ℕ) (s : State) → s.channel ≡ c → s.bits_read ≡ b
      → KeptWord (value bits p k s)
  unfolding value after
  kept-value bits p k s h e =
      let last = high_of (due s) k - low_of (due s) k in
      every_field Kept Any (omega arith) (truncated_binary bits p last) _ λ x q i.
      every_field Kept Any (omega arith) (get_bits bits q 1) _ λ t n j. (rw h, e)

  kept-plain : (bits : List Bool) (p : ℕ) (s : State) → s.channel ≡ c → s.bits_read ≡ b
      → KeptWord (plain bits p s)
  unfolding plain cleared flagged
  kept-plain bits p s h e =
      every_cond Kept Any (omega arith) s.last_zero _ _ (kept-value bits p 0 (cleared s) h e)
      (every_prefix Kept Any (omega arith) (omega arith) (two_prefix bits p) _ λ r q.
      kept-value bits q (r / 2 + val s.last_one) (flagged (bit_of (r % 2)) s) h e)

  kept_fresh : (bits : List Bool) (p : ℕ) (s : State) → s.channel ≡ c → s.bits_read ≡ b
      → KeptWord (fresh bits p s)
  unfolding fresh unbroken in_run
  kept_fresh bits p s h e =
      every_cond Kept Any (omega arith) s.run_break _ _ (kept-plain bits p (unbroken s) h e)
      (every_cond Kept Any (omega arith) (run_due s.left s.right s.last_zero s.last_one) _ _
      (every_field Kept Any (omega arith) (run_length bits p) _ λ n q i.
      every_zeros Kept Any (omega arith) n _ _ (λ d. (rw h, e)) (kept-plain bits q s h e))
      (kept-plain bits p s h e))

  kept_word : (bits : List Bool) (p : ℕ) (s : State) → s.channel ≡ c → s.bits_read ≡ b
      → KeptWord (word bits p s)
  unfolding word paid
  kept_word bits p s h e =
      every_zeros Kept Any (omega arith) s.debt _ _ (λ d. (rw h, e)) (kept_fresh bits p s h e)

-- the state after an accepted word: the other channel is due, and the totals are those before it
pub word_keeps : (bits : List Bool) (p q : ℕ) (s t : State) (v : ℤ) (z : Report)
    → word bits p s ≡ given v q t z
    → (t.channel ≡ flip s.channel) × (t.bits_read ≡ s.bits_read)
word_keeps bits p q s t v z e = rw e at (kept_word s.channel s.bits_read bits p s refl refl)
