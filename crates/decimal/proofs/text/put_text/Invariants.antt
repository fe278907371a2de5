-- The loop's invariant: the bytes passed are laid.
-- Assumes nothing.
use lib.ListN.{take}
use Rattle.decimal.specs.TextPut.{TextPut}
use Rattle.decimal.proofs.text.put_text.Given as goal

abbrev pub invariant-loop-byte : goal.invariant-loop-byte
invariant-loop-byte l = TextPut l.initial.out l.out l.at l.place (take l.byte-index l.text)
