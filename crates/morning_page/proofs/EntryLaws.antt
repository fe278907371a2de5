-- Why the entry refuses, and what it leaves.
-- Assumes nothing.
use mathlib.Core.Path.{◌≡◌, refl, sym, ap, ◌∙◌}
use mathlib.Core.List.{List}
use Prim.Native.Nat.{ℕ, zero, suc, ◌≤◌}
use native.Mathlib.Nat.{zero-add}
use native.Mathlib.Omega.{arith}
use lib.IntN.{ℤ}
use lib.ListN.{length, drop, length-append}
use Rattle.answers.specs.declared.Refusal.{Refusal}
use Rattle.std.specs.Prelude.{Result, Ok, Err}
use Rattle.std.specs.Result.{result_unwrap_or}
use Rattle.answers.specs.Guard.{unless_refused}
use Rattle.answers.specs.Numbers.{number_of}
use Rattle.answers.proofs.GuardLaws.{guard_refused, guard_accepted}
use Rattle.answers.proofs.NumberLaws.{number-positive}
use Rattle.decimal.specs.TextPut.{TextPut}
use Rattle.overlay.proofs.OverlayLaws.{overlay_first}
use Rattle.page_lines.specs.Page.{page}
use Rattle.morning_page.specs.Entry.{PageTold, view_page, page_refusal, refuse_page, tell_page, page_entry}

module _ (t : ℕ) (samples : List ℤ) (storage : List ℕ) where
  -- a refusal leaves the storage
  pub page-refused : (x : Refusal) → number_of x ≡ page_refusal (length samples) (length storage)
      → record { refusal = number_of x; written = 0; bytes = storage } ≡ page_entry t samples storage
  unfolding page_entry
  page-refused x e =
      ap (refuse_page storage) e
      ∙ sym (guard_refused (page_refusal (length samples) (length storage)) (refuse_page storage)
      (tell_page storage (page t samples)) (rw (← e) (number-positive x)))

  -- the number that is told is that of the first refusal that applies
  pub page-number : (page_entry t samples storage).refusal ≡ page_refusal (length samples) (length storage)
  unfolding page_entry
  page-number = go (page_refusal (length samples) (length storage))
    where
      go : (n : ℕ) → (unless_refused n (refuse_page storage) (tell_page storage (page t samples))).refusal ≡ n
      go zero = refl
      go (suc n) = refl

  -- what is told where nothing is refused
  pub page-told : page_refusal (length samples) (length storage) ≡ 0
      → page_entry t samples storage ≡ tell_page storage (page t samples)
  unfolding page_entry
  page-told e = guard_accepted (page_refusal (length samples) (length storage)) (refuse_page storage)
      (tell_page storage (page t samples)) e

  -- the page was put into it
  pub page-put : (after : List ℕ) (w : ℕ) → page_refusal (length samples) (length storage) ≡ 0
      → TextPut storage after 0 w (page t samples)
      → record { refusal = 0; written = w; bytes = after } ≡ page_entry t samples storage
  page-put after w e p = rw (p.bytes, p.place ∙ zero-add (length (page t samples))) (sym (page-told e))

-- ---- what is written lies within the storage

abbrev pub Within : PageTold → Type 0
Within told = told.written ≤ length told.bytes

-- of every call, so that a caller can print the bytes that were written
pub page-within : (t : ℕ) (samples : List ℤ) (storage : List ℕ) → Within (page_entry t samples storage)
unfolding page_entry
page-within t samples storage = go (page_refusal (length samples) (length storage))
  where
    text : List ℕ
    text = page t samples

    go : (n : ℕ) → Within (unless_refused n (refuse_page storage) (tell_page storage text))
    go zero = rw (overlay_first storage text) (omega (arith, length-append text (drop (length text) storage)))
    go (suc n) = omega arith

-- and so of what a call answers, 0 where it refuses
pub answer-within : (r : Result ℕ Refusal) (after : List ℕ) (told : PageTold) → view_page r after ≡ told
    → Within told → result_unwrap_or r 0 ≤ length after
answer-within (Ok written) after told e w = rw (← e) at w
answer-within (Err refusal) after told e w = omega arith
