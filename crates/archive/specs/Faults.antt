-- Document 02 §9: what is wrong with a block of a file, and the first block that is (Q9.6). The
-- definitions look at the block, at the length that its recording announced, and at how many blocks
-- of that recording stand before it.
-- Assumes nothing.
use Rattle.std.specs.Prelude.{Bool, true, false, not, ◌&&◌, ◌||◌, cond, List, [], ◌∷◌, ℕ, zero, suc, ◌+◌, ◌-◌, ◌*◌, ◌/◌, eqb, leb, ltb, length, take, drop}
use Rattle.answers.specs.Limits.{max_payload_bytes}
use Rattle.archive.specs.Block.{block_bytes, max_used, number_at, number_in, used_in, filling_in, passes}
use Rattle.archive.specs.Recording.{head_bytes}

-- a file as blocks, the last of which may be short
unfoldable pub cut : ℕ → List ℕ → List (List ℕ)
cut zero file = []
cut (suc count) file = take block_bytes file ∷ cut count (drop block_bytes file)

-- how many: a started one counts
abbrev pub blocks_in : List ℕ → ℕ
blocks_in file = (length file + 511) / 512

abbrev pub file_blocks : List ℕ → List (List ℕ)
file_blocks file = cut (blocks_in file) file

-- the payload length that a block announces that begins a recording; the others have that of the first
unfoldable pub announced_by : ℕ → ℕ → List ℕ → ℕ
announced_by announced zero block = number_at block 12 4
announced_by announced (suc before) block = announced

-- the used bytes that a block has to have: 504, or what is left of the stream
unfoldable pub used_asked : ℕ → ℕ → ℕ
used_asked announced before =
    cond (ltb (head_bytes + announced) (max_used * (before + 1)))
    (head_bytes + announced - max_used * before) max_used

-- the block is the last of its recording
unfoldable pub finished : ℕ → ℕ → Bool
finished announced before = leb (head_bytes + announced) (max_used * (before + 1))

-- every one is 0
unfoldable pub all_zero : List ℕ → Bool
all_zero [] = true
all_zero (byte ∷ bytes) = eqb byte 0 && all_zero bytes

-- what is wrong with a block, of a recording of that length, with so many of its blocks before it; and
-- whether it is the file's last: "under 512 bytes, wrong check, a payload length above 4,194,304, a
-- number, count or zero filling other than that length and the blocks before it ask, or the file's last
-- block while its recording is unfinished"
unfoldable pub wrong : Bool → ℕ → ℕ → List ℕ → Bool
wrong last announced before block =
    ltb (length block) block_bytes || not (passes block) || ltb max_payload_bytes announced
    || not (eqb (number_in block) before) || not (eqb (used_in block) (used_asked announced before))
    || not (all_zero (filling_in block)) || (last && not (finished announced before))

-- no block is left
abbrev pub none_left : List (List ℕ) → Bool
none_left [] = true
none_left (block ∷ rest) = false

-- how many blocks of its recording stand before the next block
abbrev pub next_before : ℕ → ℕ → ℕ
next_before announced before = cond (finished announced before) 0 (before + 1)

-- how many blocks are right, up to the first one that is not: so its number, "counted from 0"
unfoldable pub good : ℕ → ℕ → List (List ℕ) → ℕ
good announced before [] = 0
good announced before (block ∷ rest) =
    let l = announced_by announced before block in
    cond (wrong (none_left rest) l before block) 0 (suc (good l (next_before l before) rest))

abbrev pub good_blocks : List ℕ → ℕ
good_blocks file = good 0 0 (file_blocks file)

-- some block is bad
abbrev pub has_bad : List ℕ → Bool
has_bad file = ltb (good_blocks file) (blocks_in file)
