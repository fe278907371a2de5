-- `one_word::adapted` meets its contract: the set of the channel due is replaced.
-- Assumes nothing.
use borrow.Author.Rules.{rules}
use native.Mathlib.Omega.{arith}
use mathlib.Core.Path.{◌≡◌}
use lib.ListN.{length}
use Rattle.word_state.specs.State.{unbroken, after}
use Rattle.word_state.proofs.StateLaws.{flip_is, length_mapped, there}
use Rattle.readings.proofs.HeldLaws.{replaced}
use Rattle.one_word.proofs.adapted.Goals as goal

pub returns : goal.returns
unfolding after unbroken
returns c =
    let ms = c.args.state.medians in
    let n = c.args.state.next_channel in
    let l : length ms ≡ 2 = search (rules, length_mapped) in
    let e = rw (there ms n l (omega arith)) at c.adapt.ensures in
    let r = replaced ms c.adapt.result n c.args.ones_count l (omega arith) e in
    rw (r.at_left, r.at_right, flip_is n (omega arith))
