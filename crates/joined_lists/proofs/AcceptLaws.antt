-- Which lists and buffers a call accepts, joined and apart (`Accepted` of decorrelation's theorems).
-- Assumes nothing.
use mathlib.Core.Path.{◌≡◌, sym, ◌∙◌}
use mathlib.Core.Bool.{true}
use mathlib.Core.List.{List, ◌++◌}
use Prim.Native.Nat.{◌+◌, ◌≤◌, ◌<◌}
use native.Mathlib.Omega.{arith}
use borrow.Author.Tests.{le-ltb, lt-ltb}
use lib.IntN.{ℤ}
use lib.ListN.{length, length-append}
use Rattle.answers.specs.Limits.{max_elements, max_passes}
use Rattle.answers.proofs.TestLaws.{both}
use Rattle.passes.specs.declared.DecorrPass.{DecorrPass}
use Rattle.passes.specs.declared.Direction.{Direction}
use Rattle.list_tests.specs.Tests.{all_valid, list_number}
use Rattle.decorrelation.specs.Lists.{refuse_list, listed}
use Rattle.decorrelation.proofs.Answers.{number_by_lem}
use Rattle.decorrelation.proofs.Theorems.{Accepted}
use Rattle.joined_lists.proofs.FoldLaws.{valid-joined}

module _ (ps qs : List DecorrPass) (l : List ℤ) where
  -- two lists that are accepted, at most 16 passes together, are accepted joined
  pub joined-accepts : Accepted ps l → all_valid qs ≡ true → length ps + length qs ≤ max_passes → Accepted (ps ++ qs) l
  joined-accepts h v few =
      record { well_made = rw (valid-joined ps qs, h.well_made, v); few = omega (arith, length-append ps qs); short = h.short }

  -- a joined list that is accepted is accepted in parts
  pub parts_accept : Accepted (ps ++ qs) l → Accepted ps l × Accepted qs l
  parts_accept h =
      let v = both (all_valid ps) (all_valid qs) (sym (valid-joined ps qs) ∙ h.well_made) in
      let n : length (ps ++ qs) ≡ length ps + length qs = length-append ps qs in
      (record { well_made = v.0; few = omega (arith, h.few); short = h.short }, record { well_made = v.1; few = omega (arith, h.few); short = h.short })

  -- over 16 passes together are refused with 9, whatever they are
  pub nine_together : (dir : Direction) → length l ≤ max_elements → max_passes < length ps + length qs → listed dir (ps ++ qs) l ≡ refuse_list (ps ++ qs) l 9
  unfolding listed list_number
  nine_together dir short over =
      rw (
        number_by_lem dir (all_valid (ps ++ qs)) (length (ps ++ qs)) (length l),
        le-ltb max_elements (length l) short,
        lt-ltb max_passes (length (ps ++ qs)) (omega (arith, length-append ps qs)),
      )
