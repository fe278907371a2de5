-- Document 01, "Proved cases" (C6, C7): how large an input and a text of `wvpair` may be. Code has
-- the same numbers, with their reasons, in src/limits.rt.
-- Assumes nothing.
use Rattle.std.specs.Prelude.{ℕ}

-- 12 entropy bytes and "a 2-byte little-endian frame count" (C6)
abbrev pub head_bytes : ℕ
head_bytes = 14

-- "1,024 frames" (C6, C7)
abbrev pub most_frames : ℕ
most_frames = 1024

-- "28,672 payload bytes" (C6, C7): 28 for each of 1,024 frames
abbrev pub most_payload_bytes : ℕ
most_payload_bytes = 28672

-- no input is read that is longer
abbrev pub largest_input : ℕ
largest_input = 28686

-- no text is longer: 1,024 lines of at most 24 bytes, and an `end` line of at most 18
abbrev pub largest_text : ℕ
largest_text = 24594
