-- The ways of an input: too short, not read, and read.
-- Assumes nothing.
use mathlib.Core.Path.{◌≡◌, sym, ap, ◌∙◌}
use mathlib.Core.Bool.{Bool, true, false, cond}
use mathlib.Core.List.{List}
use Prim.Native.Nat.{ℕ, zero, suc, ◌*◌, ◌≤◌, ◌<◌}
use native.Mathlib.Omega.{arith}
use borrow.Author.Tests.{lt-ltb, le-ltb}
use lib.Dec.{ltb}
use lib.IntN.{ℤ, pos}
use lib.ListN.{length, take, drop, replicate}
use Rattle.std.specs.Prelude.{Result, Ok, Err}
use Rattle.std.specs.Result.{IsErrAnd}
use Rattle.answers.specs.declared.Refusal.{Refusal}
use Rattle.answers.specs.Guard.{unless_refused}
use Rattle.answers.specs.Limits.{max_frames}
use Rattle.answers.specs.Numbers.{number_of}
use Rattle.answers.proofs.GuardLaws.{guard_refused, guard_accepted}
use Rattle.answers.proofs.NumberLaws.{number-positive}
use Rattle.morning_page.specs.Entry.{PageTold, view_page, refuse_page, page_entry}
use Rattle.morning_page.proofs.EntryLaws.{Within, page-within}
use Rattle.morning_text.specs.Input.{head_bytes, frame_count, reading_of, input_entry}
use Rattle.samples.specs.View.{ReadTold}
use Rattle.samples.proofs.EntryLaws.{long_frames}

module _ (t : ℕ) (input storage : List ℕ) where
  -- shorter than its head
  pub input_short : length input < head_bytes → refuse_page storage 1 ≡ input_entry t input storage
  unfolding input_entry
  input_short h = rw (lt-ltb (length input) head_bytes h)

  -- what becomes of a reading
  abbrev paged : ReadTold → PageTold
  paged told = unless_refused told.refusal (refuse_page storage) (page_entry t told.list storage)

  -- not shorter: the reading decides
  input_long : head_bytes ≤ length input → input_entry t input storage ≡ paged (reading_of input)
  unfolding input_entry
  input_long h = rw (le-ltb (length input) head_bytes h)

  -- a reading that tells a refusal
  pub input_refused : (x : Refusal) → head_bytes ≤ length input → (reading_of input).refusal ≡ number_of x
      → refuse_page storage (number_of x) ≡ input_entry t input storage
  input_refused x h e =
      sym (guard_refused (number_of x) (refuse_page storage)
      (page_entry t (reading_of input).list storage) (number-positive x))
      ∙ ap (λ (n : ℕ). unless_refused n (refuse_page storage) (page_entry t (reading_of input).list storage))
      (sym e) ∙ sym (input_long h)

  -- which is passed on
  pub input_passed : (r : Result ℕ Refusal) (x : Refusal) → IsErrAnd r (λ y. y ≡ x) → head_bytes ≤ length input
      → (reading_of input).refusal ≡ number_of x → view_page r storage ≡ input_entry t input storage
  input_passed (Ok written) x p h e = absurd p
  input_passed (Err refusal) x p h e = rw p (input_refused x h e)

  -- too many frames
  pub input_frames : head_bytes ≤ length input → max_frames < frame_count input
      → refuse_page storage 5 ≡ input_entry t input storage
  input_frames h l =
      input_refused Refusal.TooLarge h (ap (λ (r : ReadTold). r.refusal)
      (long_frames (take 12 input) (drop head_bytes input) (frame_count input)
      (replicate (2 * frame_count input) (pos 0)) l))

  -- all words were read
  pub input_read : (told : ReadTold) → head_bytes ≤ length input → told ≡ reading_of input → told.refusal ≡ 0
      → page_entry t told.list storage ≡ input_entry t input storage
  input_read told h e z =
      sym (guard_accepted told.refusal (refuse_page storage) (page_entry t told.list storage) z)
      ∙ ap paged e ∙ sym (input_long h)

  -- of every call: what is written lies within the storage
  pub input_within : Within (input_entry t input storage)
  unfolding input_entry
  input_within = short (ltb (length input) head_bytes)
    where
      list : List ℤ
      list = (reading_of input).list

      read : (n : ℕ) → Within (unless_refused n (refuse_page storage) (page_entry t list storage))
      read zero = page-within t list storage
      read (suc n) = omega arith

      short : (b : Bool) → Within (cond b (refuse_page storage 1) (paged (reading_of input)))
      short true = omega arith
      short false = read (reading_of input).refusal
