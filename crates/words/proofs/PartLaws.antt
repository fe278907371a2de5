-- The ways out of each part of a word: what was read on the way makes the part right for every
-- state that holds the numbers it was given.
-- Assumes nothing.
use mathlib.Core.Path.{◌≡◌, refl, sym, ap, ◌∙◌}
use mathlib.Core.Bool.{Bool, true, false, not, cond, ◌&&◌}
use mathlib.Core.List.{List}
use Prim.Native.Nat.{ℕ, zero, suc, ◌+◌, ◌-◌, ◌/◌, ◌%◌, ◌^◌, ◌<◌}
use native.Mathlib.Omega.{arith}
use lib.IntN.{pos}
use lib.Dec.{eqb}
use Rattle.answers.specs.Limits.{max_width}
use Rattle.bits.specs.Bits.{val, bit_of}
use Rattle.bits.specs.Fields.{get_bits}
use Rattle.std.specs.Prelude.{Option, Some, None, Result, Ok, Err}
use Rattle.std.specs.Option.{ok_or}
use Rattle.std.specs.Result.{IsErrAnd}
use Rattle.std.proofs.lemmas.Result.{err_from_is_err_and}
use Rattle.std.specs.Int.{from_bool}
use Rattle.answers.specs.declared.Refusal.{Refusal}
use Rattle.entropy.specs.Medians.{Medians}
use Rattle.bits.proofs.RegisterLaws.{window_shift}
use Rattle.bits.proofs.Window.{window-bits}
use Rattle.fields.specs.Code.{truncated_binary, CodeIn}
use Rattle.fields.specs.Counts.{run_length, prefix}
use Rattle.medians.specs.Interval.{low_of, high_of}
use Rattle.word_state.specs.State.{State, in_run, unbroken, cleared, flagged, run_due, run_here, on_zeros}
use Rattle.answers.proofs.TestLaws.{clash}
use Rattle.word_state.proofs.StateLaws.{zeros-some, same-unbroken}
use Rattle.words.specs.Word.{Word, given, on_field, signed, value, plain, fresh}
use Rattle.zones.specs.Report.{none}
use Rattle.words.specs.Parts.{ValueIs, SignedCodeIs, CountIs, ZeroRunIs}
use Rattle.words.specs.declared.coded.ZeroRun.{ZeroRun}

-- what a missing part makes of the whole: the refusal that it was given
pub missing : {T U : Type 0} (r : Result U Refusal) (o : Option T) {x y : Refusal} → IsErrAnd r (λ z. z ≡ x)
    → ◌≡◌ {A = Result T Refusal} (Err x) (ok_or o y) → o ≡ None → r ≡ Err y
missing {T} r o {x = x} {y = y} h e n =
    let p = err_from_is_err_and r h in
    let f : ◌≡◌ {A = Result T Refusal} (Err x) (Err y) = e ∙ rw n in
    let g : x ≡ y = cc in
    rw (p.1, p.2, g)

-- ---- code and sign, in an interval from lo to hi

module _ (bits : List Bool) (p k : ℕ) (m : Medians) (lo hi : ℕ) (a : lo ≡ low_of m k) (b : hi ≡ high_of m k) where
  -- a missing code
  pub value-no_code : truncated_binary bits p (hi - lo) ≡ None → ValueIs bits p m k None
  unfolding value
  value-no_code e = record { is = λ s d. rw (d, ← a, ← b, e) }

  -- a missing sign
  pub value-no_sign : (c q : ℕ) → truncated_binary bits p (hi - lo) ≡ Some (c, q) → get_bits bits q 1 ≡ None → ValueIs bits p m k None
  unfolding value
  value-no_sign c q e f = record { is = λ s d. rw (d, ← a, ← b, e, f) }

  -- code and sign
  pub value_read : (c q t n : ℕ) → truncated_binary bits p (hi - lo) ≡ Some (c, q) → get_bits bits q 1 ≡ Some (t, n)
      → ValueIs bits p m k (Some (signed t (lo + c), n))
  unfolding value
  value_read c q t n e f = record { is = λ s d. rw (d, ← a, ← b, e, f) }

-- code and sign out of a window that holds both
pub signed_in : (v lo last code used : ℕ) → CodeIn v last code used → last < max_width → SignedCodeIs v lo
    last (signed (v / 2 ^ used % 2) (lo + code)) (used + 1)
signed_in v lo last code used x h =
    let u = x.most 28 h in
    let e : lo + last - lo ≡ last = omega arith in
    record {
      is = λ bits p j w g m k a b.
          let q : p + (used + 1) ≡ p + used + 1 = omega arith in
          let t = window-bits bits (p + used) (j - used) (v / 2 ^ used) 1 (window_shift bits p j v used w (omega arith)) (omega arith) in
          rw q (value_read bits p k m lo (lo + last) a b code (p + used) _ (p + used + 1) (rw e (x.is bits p j w g)) t);
      some = omega arith;
      most = omega arith;
    }

-- ---- the count

-- a flag as a number, and an odd number as a flag
pub flag-is : (b : Bool) → from_bool b ≡ val b
flag-is true = refl
flag-is false = refl

pub odd_is : (n : ℕ) → n < 2 → eqb n 1 ≡ bit_of n
odd_is zero h = refl
odd_is (suc zero) h = refl
odd_is (suc (suc n)) h = absurd (omega arith)

-- last_zero set
pub count-zero : (bits : List Bool) (p : ℕ) (o : Bool) → CountIs bits p true o (Ok (record { ones_count = 0; place = p; last_zero = false; last_one = o }))
unfolding plain cleared
count-zero bits p o = record { is = λ s z e. rw (z, e) }

-- a prefix that was read
pub count-read : (bits : List Bool) (p : ℕ) (o : Bool) (r q : ℕ) → prefix bits p ≡ Ok (r, q)
    → CountIs bits p false o (Ok (record { ones_count = r / 2 + val o; place = q; last_zero = not (bit_of (r % 2)); last_one = bit_of (r % 2) }))
unfolding plain flagged
count-read bits p o r q h = record { is = λ s z e. rw (z, h, e) }

-- a prefix that is refused
pub count_none : (bits : List Bool) (p : ℕ) (o : Bool) (x : Refusal) → prefix bits p ≡ Err x → CountIs bits p false o (Err x)
unfolding plain
count_none bits p o x h = record { is = λ s z e. rw (z, h) }

-- ---- the run length

-- no run length is read: step 3 follows at the same place
pub fresh-word : (bits : List Bool) (p : ℕ) (s : State) → run_here s ≡ false → fresh bits p s ≡ plain bits p (unbroken s)
unfolding fresh
fresh-word bits p s e = go s.run_break (run_due s.left s.right s.last_zero s.last_one) refl e
  where
    read : Word
    read = on_field (run_length bits p) λ n q. on_zeros n (λ d. given (pos 0) q (in_run d s) none) (plain bits q s)

    go : (b d : Bool) → s.run_break ≡ b → (not b && d) ≡ false → cond b (plain bits p (unbroken s)) (cond d read (plain bits p s)) ≡ plain bits p (unbroken s)
    go true d f h = refl
    go false true f h = clash refl h
    go false false f h = ap (plain bits p) (same-unbroken s f)

-- a run length is read
pub fresh-run : (bits : List Bool) (p : ℕ) (s : State) → run_here s ≡ true
    → fresh bits p s ≡ on_field (run_length bits p) (λ n q. on_zeros n (λ d. given (pos 0) q (in_run d s) none) (plain bits q (unbroken s)))
unfolding fresh
fresh-run bits p s e = go s.run_break (run_due s.left s.right s.last_zero s.last_one) refl e
  where
    read : State → Word
    read t = on_field (run_length bits p) λ n q. on_zeros n (λ d. given (pos 0) q (in_run d s) none) (plain bits q t)

    go : (b d : Bool) → s.run_break ≡ b → (not b && d) ≡ true → cond b (plain bits p (unbroken s)) (cond d (read s) (plain bits p s)) ≡ read (unbroken s)
    go true d f h = clash h refl
    go false true f h = ap read (same-unbroken s f)
    go false false f h = clash h refl

-- no run length is read
pub run_skipped : (bits : List Bool) (p : ℕ) → ZeroRunIs bits p false (Ok (ZeroRun.Word p))
run_skipped bits p = record { is = λ s e. sym (fresh-word bits p s e) }

-- a run length that is missing
pub run-missing : (bits : List Bool) (p : ℕ) → run_length bits p ≡ None → ZeroRunIs bits p true (Err Refusal.Truncated)
run-missing bits p h = record { is = λ s e. rw (fresh-run bits p s e, h) }

-- a run length of 0
pub run-zero : (bits : List Bool) (p n q : ℕ) → run_length bits p ≡ Some (n, q) → n ≡ 0 → ZeroRunIs bits p true (Ok (ZeroRun.Word q))
run-zero bits p n q h z = record { is = λ s e. rw (fresh-run bits p s e, h, z) }

-- a run length above 0
pub run-some : (bits : List Bool) (p n q : ℕ) → run_length bits p ≡ Some (n, q) → 0 < n → ZeroRunIs bits p true (Ok (ZeroRun.Run (n - 1) q))
run-some bits p n q h l = record { is = λ s e. rw (fresh-run bits p s e, h) (zeros-some n (λ d. given (pos 0) q (in_run d s) none) (plain bits q (unbroken s)) l) }
