-- `reading_turns::after_sample` meets its contract, by `onward_from` and `turn_part`.
-- Assumes nothing.
use mathlib.Core.Path.{◌≡◌, refl, ap, ◌∙◌}
use Prim.Native.Nat.{◌%◌}
use native.Mathlib.Omega.{arith}
use borrow.Author.Rules.{rules}
use lib.IntN.{ℤ}
use lib.ListN.{length, set, length-set}
use mir.Facts.{to_z-of_z}
use Rattle.word_state.proofs.StateLaws.{there, length_mapped}
use Rattle.reading_turns.proofs.TurnLaws.{onward_from, turn_part}
use Rattle.reading_turns.proofs.after_sample.Goals as goal

pub returns : goal.returns
returns c =
    let at = c.args.at in
    let sets = set at.medians (at.written % 2) c.adapt.result in
    let l : length at.medians ≡ 2 = search (rules, length_mapped) in
    let n : length sets ≡ 2 = length-set at.medians (at.written % 2) c.adapt.result ∙ l in
    record {
      due = c.adapt.result;
      adapted = rw (there at.medians (at.written % 2) l (omega arith)) at c.adapt.ensures;
      part = search rules;
      to = c.read_short_words-to.result;
      onward = onward_from _ _ _ _ _ _ _
          (ap (λ (z : ℤ). set c.args.out.now at.written z) (to_z-of_z c.ranges.value)) refl
          c.left_bits_after.ensures refl (there sets 0 n (omega arith)) (there sets 1 n (omega arith)) refl refl
          c.read_short_words-to.ensures;
      turn_is = turn_part _ c.read_short_words-to.result.part;
    }
