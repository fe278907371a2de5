-- `archive_payloads::lay_chunk`: the loop's invariant is that the walk has come to recording first + m, and
-- that those in force before it are laid.
-- Assumes nothing.
use Prim.Native.Nat.{◌+◌, ◌*◌}
use Rattle.archive.specs.Listing.{listed, payloads}
use Rattle.archive_payloads.specs.Kept.{between, DoneIs}
use Rattle.archive_payloads.proofs.LaidLaws.{Grown}
use Rattle.archive_payloads.proofs.lay_chunk.Given as goal

abbrev pub invariant-loop-m : goal.invariant-loop-m
invariant-loop-m l =
    let file = l.file.bytes.now in
    DoneIs file (l.first + l.m) l.now.place l.now.recordings l.now.bytes
    × Grown l.initial.list l.list (4 * l.initial.now.recordings) (listed (between file l.first l.m))
    × Grown l.initial.out l.out l.initial.now.bytes (payloads (between file l.first l.m))
