-- `archive_payloads::copy_payload`: the loop's invariant is that so much of the payload is copied, and the
-- measure what is left of it.
-- Assumes nothing.
use Prim.Native.Nat.{◌-◌}
use Rattle.archive.specs.Places.{recording_at}
use Rattle.archive_payloads.proofs.CopyLaws.{Copied}
use Rattle.archive_payloads.proofs.copy_payload.Given as goal

abbrev pub invariant-loop-done : goal.invariant-loop-done
invariant-loop-done l = Copied (recording_at l.file.bytes.now l.i).payload l.initial.out l.out l.to l.done

abbrev pub decreases-loop-done : goal.decreases-loop-done
decreases-loop-done l = l.payload - l.done
