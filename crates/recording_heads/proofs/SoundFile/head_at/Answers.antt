-- `recording_heads::SoundFile::head_at` meets its contract.
-- Assumes nothing.
use native.Mathlib.Omega.{arith}
use Rattle.archive.specs.Places.{no_recording}
use Rattle.archive.proofs.PlaceLaws.{at_room, at_head, span-at}
use Rattle.recording_heads.proofs.SoundFile.head_at.Goals as goal

pub read_head-requires : goal.read_head-requires
read_head-requires c =
    let a = c.args in
    omega (arith, at_room a.self.bytes.now a.at a.i c.requires.place c.requires.one)

pub returns : goal.returns
returns c =
    let a = c.args in
    let r = c.requires in
    at_head a.self.bytes.now a.at a.i r.place r.one (span-at a.self.sound.in_span a.i no_recording r.one)
    c.read_head.ensures
