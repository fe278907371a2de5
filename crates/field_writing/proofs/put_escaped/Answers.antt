-- `field_writing::put_escaped` meets its contract.
-- Assumes nothing.
use mathlib.Core.Path.{sym, ap, ◌∙◌}
use Prim.Native.Nat.{◌-◌}
use native.Mathlib.Omega.{arith}
use Rattle.bits.specs.Fields.{unary_field}
use Rattle.bits.specs.Laid.{put}
use Rattle.bits.proofs.RoundTrip.{length-unary}
use Rattle.bits.proofs.WriteLaws.{put_two, length_two}
use Rattle.fields.specs.Written.{run_field}
use Rattle.fields.proofs.WrittenLaws.{prefix-escaped}
use Rattle.field_writing.proofs.put_escaped.Goals as goal

pub put_unary-next-requires-clause-room : goal.put_unary-next-requires-clause-room
put_unary-next-requires-clause-room c =
    let v = c.args.prefix in
    omega (arith, length_two (unary_field 16) (run_field (v - 16)) _ (prefix-escaped v (omega arith)))

pub put_run-requires-clause-room : goal.put_run-requires-clause-room
put_run-requires-clause-room c =
    let v = c.args.prefix in
    omega (
      arith,
      c.put_unary-next.ensures.next,
      c.put_unary-next.auto.out,
      length-unary 16,
      length_two (unary_field 16) (run_field (v - 16)) _ (prefix-escaped v (omega arith)),
    )

pub put_run-requires-clause-place : goal.put_run-requires-clause-place
put_run-requires-clause-place c =
    let v = c.args.prefix in
    omega (
      arith,
      c.put_unary-next.ensures.next,
      c.put_unary-next.auto.out,
      length-unary 16,
      length_two (unary_field 16) (run_field (v - 16)) _ (prefix-escaped v (omega arith)),
    )

pub returns-clause-buffer : goal.returns-clause-buffer
returns-clause-buffer c =
    let e = prefix-escaped c.args.prefix (omega arith) in
    c.put_run.ensures.buffer ∙ put_two c.args.out.now _ c.args.at _ (unary_field 16)
    (run_field (c.args.prefix - 16))
    c.put_unary-next.ensures.buffer c.put_unary-next.ensures.next (omega arith) ∙ ap
    (put c.args.out.now c.args.at) (sym e)

pub returns-clause-place : goal.returns-clause-place
returns-clause-place c =
    let e = prefix-escaped c.args.prefix (omega arith) in
    omega (
      arith,
      c.put_unary-next.ensures.next,
      c.put_run.ensures.place,
      length_two (unary_field 16)
          (run_field (c.args.prefix - 16)) _ e,
    )
