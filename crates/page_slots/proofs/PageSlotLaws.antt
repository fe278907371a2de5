-- The answers of the call, by what the entry told.
-- Assumes nothing.
use mathlib.Core.Path.{◌≡◌, ap, ◌∙◌}
use mathlib.Core.List.{List, [], ◌∷◌}
use Prim.Native.Nat.{ℕ, ◌≤◌, ◌<◌}
use lib.IntN.{ℤ}
use lib.ListN.{length}
use Rattle.std.specs.Prelude.{Ok, Err}
use Rattle.answers.specs.declared.Refusal.{Refusal}
use Rattle.answers.specs.Numbers.{number_of}
use Rattle.morning_page.specs.Entry.{view_page, page_entry}
use Rattle.overlay.specs.Overlay.{overlay}
use Rattle.page_slots.specs.PageSlots.{leave_page, page_call}
use Rattle.slots.proofs.FillLaws.{fill-short, fill-refused, fill-laid}

module _ (samples : List ℤ) (threshold : ℕ) (page answer : List ℕ) where
  pub page-short : length answer < 1
      → record { refusal = 6; list = page; answer = answer } ≡ page_call samples threshold page answer
  unfolding page_call
  page-short h = fill-short 1 page _ answer _ _ h

  pub page-refused : (x : Refusal) (after : List ℕ) → 1 ≤ length answer → view_page (Err x) after ≡ page_entry threshold samples page
      → record { refusal = number_of x; list = after; answer = answer } ≡ page_call samples threshold page answer
  unfolding page_call
  page-refused x after h e = fill-refused 1 page after answer (0 ∷ []) x h ∙ ap (leave_page page answer) e

  pub page-laid : (w : ℕ) (after laid : List ℕ) → 1 ≤ length answer → view_page (Ok w) after ≡ page_entry threshold samples page
      → laid ≡ overlay answer 0 (w ∷ [])
      → record { refusal = 0; list = after; answer = laid } ≡ page_call samples threshold page answer
  unfolding page_call
  page-laid w after laid h e l = fill-laid 1 page after answer (w ∷ []) laid h l ∙ ap (leave_page page answer) e
