-- Document 02 §9: a recording of an archive, its stream, its blocks, and the file of several (Q9.3).
-- Assumes nothing.
use Rattle.std.specs.Prelude.{List, [], ◌∷◌, ◌++◌, ℕ, zero, suc, ◌+◌, ◌/◌, ◌≤◌, ◌<◌, length, take, drop}
use Rattle.answers.specs.Limits.{max_payload_bytes}
use Rattle.little_endian.specs.LittleEndian.{little_endian, from_little_endian}
use Rattle.archive.specs.Block.{max_used, Bytes, block}

-- whose recording it is, when it started, which issue of it, and its packed payload
pub record Recording : Type 0 where
  pub house : ℕ
  pub start : ℕ
  pub issue : ℕ
  pub payload : List ℕ

-- each number fits its bytes, and the payload is no longer than its limit
pub record InSpan (r : Recording) : Type 0 where
  pub house : r.house < 65536
  pub start : r.start < 4294967296
  pub issue : r.issue < 65536
  pub length : length r.payload ≤ max_payload_bytes
  pub bytes : Bytes r.payload

-- all of a list are
pub data AllInSpan : List Recording → Type 0 where
  none : AllInSpan []
  more : {r : Recording} {rs : List Recording} → InSpan r → AllInSpan rs → AllInSpan (r ∷ rs)

-- the bytes before a payload: "house (2), start second (4), issue (2) and payload length (4)"
abbrev pub head_bytes : ℕ
head_bytes = 12

unfoldable pub head : ℕ → ℕ → ℕ → ℕ → List ℕ
head house start issue length =
    little_endian 2 house ++ little_endian 4 start ++ little_endian 2 issue ++ little_endian 4 length

-- a recording's stream
unfoldable pub stream : Recording → List ℕ
stream r = head r.house r.start r.issue (length r.payload) ++ r.payload

-- the recording whose stream it is
unfoldable pub of_stream : List ℕ → Recording
of_stream s = record {
  house = from_little_endian (take 2 s);
  start = from_little_endian (take 4 (drop 2 s));
  issue = from_little_endian (take 2 (drop 6 s));
  payload = drop head_bytes s;
}

-- the blocks that so many bytes of a stream take, 504 in each
abbrev pub blocks_for : ℕ → ℕ
blocks_for bytes = (bytes + 503) / 504

-- so many blocks of a stream, numbered on: "every block but the last uses 504"
unfoldable pub numbered : ℕ → ℕ → List ℕ → List (List ℕ)
numbered zero number s = []
numbered (suc count) number s = block number (take max_used s) ∷ numbered count (number + 1) (drop max_used s)

-- a recording's blocks: "a recording starts in a block with number 0"
abbrev pub recording_blocks : Recording → List (List ℕ)
recording_blocks r = numbered (blocks_for (length (stream r))) 0 (stream r)

-- the bytes of blocks
unfoldable pub joined : List (List ℕ) → List ℕ
joined [] = []
joined (b ∷ blocks) = b ++ joined blocks

-- what the writer makes of a recording
abbrev pub recording_bytes : Recording → List ℕ
recording_bytes r = joined (recording_blocks r)

-- the file of recordings, one behind the other
unfoldable pub archive_blocks : List Recording → List (List ℕ)
archive_blocks [] = []
archive_blocks (r ∷ rs) = recording_blocks r ++ archive_blocks rs

abbrev pub archive : List Recording → List ℕ
archive rs = joined (archive_blocks rs)
