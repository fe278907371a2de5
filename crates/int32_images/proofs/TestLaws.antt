-- The test of all samples, one after the other.
-- Assumes nothing.
use mathlib.Core.Path.{◌≡◌, refl, sym, ap, ◌∙◌}
use mathlib.Core.Bool.{Bool, true, false, cond, ◌&&◌}
use mathlib.Core.List.{List}
use Prim.Native.Nat.{ℕ, suc, ◌+◌, ◌-◌, ◌≤◌, ◌<◌}
use native.Mathlib.Numerals.{add-one}
use lib.Dec.{eqb}
use lib.IntN.{ℤ, pos}
use lib.ListN.{length, drop, get_or, drop_of_length-le}
use lib.Seq.{drop-cons}
use mir.Syntax.{w32}
use mir.Val.{SFits}
use Rattle.int32_sample.specs.declared.Redundancy.{Redundancy}
use Rattle.int32_sample.specs.Sample.{low_bits, above}
use Rattle.int32_sample.specs.Setting.{Setting, width, reinsertable}
use Rattle.int32_sample.proofs.ShiftLaws.{above-count}
use Rattle.int32_sample.proofs.SettingLaws.{held, fill, tested}
use Rattle.int32.specs.Deconstruct.{all_reinsertable}

-- what was found of the first i samples, and what is to be found of the others
pub record Tested (s : Setting) (samples : List ℤ) (all : Bool) (i : ℕ) : Type 0 where
  pub here : i ≤ length samples
  pub whole : (all && all_reinsertable s (drop i samples)) ≡ all_reinsertable s samples

nothing-more : (b : Bool) → (b && true) ≡ b
nothing-more true = refl
nothing-more false = refl

regroup : (a b c : Bool) → ((a && b) && c) ≡ (a && (b && c))
regroup true b c = refl
regroup false b c = refl

module _ (s : Setting) (samples : List ℤ) where
  -- one sample more
  pub tested_more : (all found : Bool) (i : ℕ) → i < length samples
      → found ≡ reinsertable s (get_or samples i (pos 0)) → Tested s samples all i
      → Tested s samples (all && found) (i + 1)
  unfolding all_reinsertable
  tested_more all found i h e t =
      let rest = all_reinsertable s (drop (suc i) samples) in
      let d : all_reinsertable s (drop i samples) ≡ (reinsertable s (get_or samples i (pos 0)) && rest) =
      ap (all_reinsertable s) (drop-cons samples i (pos 0) h) in
      rw (add-one i) (record {
        here = h;
        whole = regroup all found rest
            ∙ ap (λ (b : Bool). all && b) (ap (λ (b : Bool). b && rest) e ∙ sym d) ∙ t.whole;
      })

  pub tested-all : (all : Bool) (i : ℕ) → length samples ≤ i → Tested s samples all i
      → all ≡ all_reinsertable s samples
  unfolding all_reinsertable
  tested-all all i h t = sym (nothing-more all) ∙ ap (λ (l : List ℤ). all && all_reinsertable s l)
      (sym (drop_of_length-le samples {i = i} h)) ∙ t.whole

-- the low bits beside those that belong below the rest, as the code compares them
module _ (s : Setting) (r : Redundancy) (y : ℤ) (low n : ℕ) (w : width s ≤ 31) (f : SFits w32 y)
    (e : r ≡ held s) (l : low ≡ low_bits r.count y)
    (q : n ≡ cond (eqb (low_bits 1 (above r.count y)) 0) r.even r.odd) where
  low-is : low ≡ low_bits (width s) y
  low-is = l ∙ ap (λ (x : Redundancy). low_bits x.count y) e

  fill_is : n ≡ fill s (above (width s) y)
  fill_is = q ∙ rw e

  pub compared : eqb low n ≡ reinsertable s y
  compared = rw (low-is, fill_is) (sym (tested s (31 - width s) y (above-count (width s) w) f))
