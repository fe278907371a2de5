-- `pass_slots` meets its contract.
-- Assumes nothing.
use mathlib.Core.Path.{refl}
use lib.IntN.{pos}
use lib.ListN.{replicate}
use Rattle.made_slots.specs.MadeSlots.{pass_slots}
use Rattle.made_slots.proofs.LaidLaws.{twenty}
use borrow.Author.Rules.{rules}
use Rattle.made_slots.proofs.pass_slots.Goals as goal

pub returns : goal.returns
returns c =
    twenty c.args.p _ (replicate pass_slots (pos 0)) _ _ _ c.lay.ensures c.lay-2.ensures
    c.lay-3.ensures refl (search rules) (search rules) (search rules)
