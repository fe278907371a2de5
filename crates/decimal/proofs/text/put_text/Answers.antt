-- The loop's invariant: the bytes passed are laid.
-- Assumes nothing.
use mathlib.Core.Path.{◌≡◌}
use mathlib.Core.List.{[], ◌∷◌, ◌++◌}
use Prim.Native.Nat.{◌+◌}
use native.Mathlib.Numerals.{add-one}
use native.Mathlib.Omega.{arith}
use lib.ListN.{take, get_or, length-take}
use lib.Seq.{take-suc, take_all}
use Rattle.decimal.proofs.PutLaws.{put-none, put_on}
use Rattle.decimal.proofs.text.put_text.Goals as goal

pub loop-byte-init : goal.loop-byte-init
loop-byte-init c = put-none _ _

pub put_byte-place-requires : goal.put_byte-place-requires
put_byte-place-requires c =
    let laid = c.loop-byte.invariant.place in
    omega (arith, c.requires, laid, length-take c.loop-byte.byte-index c.args.text.now, c.loop-byte-test.true, c.loop-byte.auto.out)

pub loop-byte-preserved : goal.loop-byte-preserved
loop-byte-preserved c =
    let i = c.loop-byte.byte-index in
    let text = c.args.text.now in
    let t : take (i + 1) text ≡ take i text ++ (get_or text i 0 ∷ []) = rw add-one (take-suc text i 0 c.loop-byte-test.true) in
    rw t (put_on (omega (arith, c.requires)) c.loop-byte.invariant c.put_byte-place.ensures)

pub returns : goal.returns
returns c = rw (take_all c.loop-byte.byte-index c.args.text.now c.loop-byte-test.false) at c.loop-byte.invariant
