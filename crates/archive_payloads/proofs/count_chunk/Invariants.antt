-- `archive_payloads::count_chunk`: the loop's invariant is that the walk has come to recording first + m.
-- Assumes nothing.
use Prim.Native.Nat.{◌+◌}
use Rattle.archive_payloads.specs.Kept.{DoneIs}
use Rattle.archive_payloads.proofs.count_chunk.Given as goal

abbrev pub invariant-loop-m : goal.invariant-loop-m
invariant-loop-m l = DoneIs l.file.bytes.now (l.first + l.m) l.now.place l.now.recordings l.now.bytes
