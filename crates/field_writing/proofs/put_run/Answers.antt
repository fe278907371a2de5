-- `field_writing::put_run` meets its contract.
-- Assumes nothing.
use native.Mathlib.Omega.{arith}
use mathlib.Core.Path.{sym, ap, ◌∙◌}
use Prim.Native.Nat.{◌-◌}
use lib.ListN.{length}
use Rattle.bits.specs.Bits.{low}
use Rattle.bits.specs.Laid.{put}
use Rattle.bits.specs.Fields.{unary_field}
use Rattle.bits.proofs.WriteLaws.{put_two}
use Rattle.fields.proofs.WrittenLaws.{run_short, RunParts, run_parts}
use Rattle.bits.proofs.RoundTrip.{length-unary}
use Rattle.field_writing.proofs.put_run.Goals as goal

pub overflow_sub-length : goal.overflow_sub-length
overflow_sub-length c = let r : RunParts c.args.run c.bit_length-length.result =
    run_parts _ _ c.if-run-lt2.false (omega arith) c.bit_length-length.ensures in omega arith

pub overflow_sub-result : goal.overflow_sub-result
overflow_sub-result c = let r : RunParts c.args.run c.bit_length-length.result =
    run_parts _ _ c.if-run-lt2.false (omega arith) c.bit_length-length.ensures in omega arith

pub overflow_add-result : goal.overflow_add-result
overflow_add-result c =
    let r : RunParts c.args.run c.bit_length-length.result =
    run_parts _ _ c.if-run-lt2.false (omega arith) c.bit_length-length.ensures in
    omega (arith, c.put_unary-next.ensures.next, length-unary c.bit_length-length.result)

pub put_unary-requires-clause-room : goal.put_unary-requires-clause-room
put_unary-requires-clause-room c = omega (arith, ap length (run_short c.args.run (omega arith)))

pub returns-then-run-lt2-clause-buffer : goal.returns-then-run-lt2-clause-buffer
returns-then-run-lt2-clause-buffer c = rw (run_short c.args.run (omega arith)) c.put_unary.ensures.buffer

pub returns-then-run-lt2-clause-place : goal.returns-then-run-lt2-clause-place
returns-then-run-lt2-clause-place c = rw (run_short c.args.run (omega arith)) c.put_unary.ensures.next

pub put_unary-next-requires-clause-room : goal.put_unary-next-requires-clause-room
put_unary-next-requires-clause-room c =
    let r : RunParts c.args.run c.bit_length-length.result =
    run_parts _ _ c.if-run-lt2.false (omega arith) c.bit_length-length.ensures in omega
    (arith, length-unary c.bit_length-length.result)

pub put_unary-next-requires-clause-count : goal.put_unary-next-requires-clause-count
put_unary-next-requires-clause-count c = let r : RunParts c.args.run c.bit_length-length.result =
    run_parts _ _ c.if-run-lt2.false (omega arith) c.bit_length-length.ensures in omega arith

pub put_bits-requires-clause-room : goal.put_bits-requires-clause-room
put_bits-requires-clause-room c =
    let r : RunParts c.args.run c.bit_length-length.result =
    run_parts _ _ c.if-run-lt2.false (omega arith) c.bit_length-length.ensures in
    omega (
      arith,
      c.put_unary-next.ensures.next,
      c.put_unary-next.auto.out,
      length-unary c.bit_length-length.result,
    )

pub put_bits-requires-clause-place : goal.put_bits-requires-clause-place
put_bits-requires-clause-place c =
    let r : RunParts c.args.run c.bit_length-length.result =
    run_parts _ _ c.if-run-lt2.false (omega arith) c.bit_length-length.ensures in
    omega (arith, c.put_unary-next.ensures.next, length-unary c.bit_length-length.result)

pub put_bits-requires-clause-width : goal.put_bits-requires-clause-width
put_bits-requires-clause-width c = let r : RunParts c.args.run c.bit_length-length.result =
    run_parts _ _ c.if-run-lt2.false (omega arith) c.bit_length-length.ensures in omega arith

pub returns-clause-buffer : goal.returns-clause-buffer
returns-clause-buffer c =
    let b = c.bit_length-length.result in
    let r : RunParts c.args.run c.bit_length-length.result =
    run_parts _ _ c.if-run-lt2.false (omega arith) c.bit_length-length.ensures in
    c.put_bits.ensures
    ∙ put_two c.args.out.now _ c.args.at _ (unary_field b)
    (low (b - 1) c.args.run) c.put_unary-next.ensures.buffer
    c.put_unary-next.ensures.next (omega arith)
    ∙ ap (put c.args.out.now c.args.at) (sym r.parts)

pub returns-clause-place : goal.returns-clause-place
returns-clause-place c = let r : RunParts c.args.run c.bit_length-length.result =
    run_parts _ _ c.if-run-lt2.false (omega arith) c.bit_length-length.ensures in omega
    (arith, c.put_unary-next.ensures.next)
