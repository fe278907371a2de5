-- Worked cases: a check, a block, and which of three recordings are in force.
-- Assumes nothing.
use mathlib.Core.Path.{◌≡◌, refl}
use mathlib.Core.Bool.{true, false}
use mathlib.Core.List.{[], ◌∷◌}
use lib.ListN.{length, set}
use Rattle.little_endian.specs.LittleEndian.{little_endian, from_little_endian}
use Rattle.archive.specs.Block.{weighted_from, check_of, block_body, block, passes}
use Rattle.archive.specs.Recording.{Recording, head, stream, numbered, recording_bytes, joined}
use Rattle.archive.specs.Faults.{cut, announced_by, used_asked, finished, all_zero, wrong, good, good_blocks}
use Rattle.archive.specs.Listing.{supersedes, superseded, not_superseded, in_force, agree}
use Rattle.archive.specs.Listing.{holds, twice}

-- number 0, two used bytes 1 and 0: 3 x 2 + 5 x 1
two_bytes : check_of (block_body 0 (1 ∷ 0 ∷ [])) ≡ 11
unfolding block_body weighted_from little_endian
two_bytes = refl

-- that block passes, and with its used count altered it does not
its_block : passes (block 0 (1 ∷ 0 ∷ [])) ≡ true
unfolding block block_body weighted_from little_endian from_little_endian
its_block = refl

altered_block : passes (set (block 0 (1 ∷ 0 ∷ [])) 2 3) ≡ false
unfolding block block_body weighted_from little_endian from_little_endian
altered_block = refl

-- house 7, start second 1,000: issue 1, another house, issue 2, issue 0
first : Recording
first = record { house = 7; start = 1000; issue = 1; payload = 5 ∷ [] }

elsewhere : Recording
elsewhere = record { house = 8; start = 1000; issue = 1; payload = [] }

later : Recording
later = record { house = 7; start = 1000; issue = 2; payload = 6 ∷ [] }

earlier : Recording
earlier = record { house = 7; start = 1000; issue = 0; payload = [] }

-- the highest issue is in force, and the other house, in file order
in_force_lem : in_force (first ∷ elsewhere ∷ later ∷ earlier ∷ []) ≡ elsewhere ∷ later ∷ []
unfolding first elsewhere later earlier not_superseded superseded supersedes
in_force_lem = refl

-- a recording twice
once-each : twice (first ∷ elsewhere ∷ later ∷ earlier ∷ []) ≡ false
unfolding first elsewhere later earlier twice holds agree
once-each = refl

repeated : twice (first ∷ later ∷ first ∷ []) ≡ true
unfolding first later twice holds agree
repeated = refl

-- the file of a recording has one block, which is right; without its last byte it is not
one_block : length (recording_bytes first) ≡ 512
unfolding first head stream numbered joined block block_body little_endian
one_block = refl

its_file : good_blocks (recording_bytes first) ≡ 1
unfolding first head stream numbered joined block block_body weighted_from little_endian from_little_endian cut
    announced_by used_asked finished all_zero wrong good
its_file = refl
