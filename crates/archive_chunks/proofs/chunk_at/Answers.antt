-- `archive_chunks::chunk_at` meets its contract.
-- Assumes nothing.
use native.Mathlib.Omega.{arith}
use borrow.Author.Rules.{rules}
use Rattle.archive_keys.specs.Keys.{chunk}
use Rattle.archive.proofs.PlaceLaws.{recordings-few}
use Rattle.archive_chunks.proofs.ChunkLaws.{no_heads, no_marks, chunk-is}
use Rattle.archive_chunks.proofs.chunk_at.Goals as goal

pub chain-requires-clause-heads : goal.chain-requires-clause-heads
chain-requires-clause-heads c = no_heads

pub mark_all-twice-requires-clause-places : goal.mark_all-twice-requires-clause-places
mark_all-twice-requires-clause-places c =
    omega (arith, recordings-few c.args.file.bytes.now c.args.file.sound, c.requires.place.within)

pub mark_all-twice-requires-clause-unmarked : goal.mark_all-twice-requires-clause-unmarked
mark_all-twice-requires-clause-unmarked c = no_marks chunk _

pub returns : goal.returns
returns c =
    let m = c.mark_all-twice.ensures in
    chunk-is _ c.args.file.sound c.load_keys-loaded.ensures m.marks m.met (search rules)
