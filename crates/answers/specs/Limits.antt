-- Document 01, "Why each operation says no": how large an input may be. Code has the same numbers,
-- with their reasons, in src/limits.rt.
-- Assumes nothing.
use Rattle.std.specs.Prelude.{ℕ}

-- "over 131,072 frames" (X2, X6)
abbrev pub max_frames : ℕ
max_frames = 131072

-- "over 262,144 elements" (X5): two for each frame
abbrev pub max_elements : ℕ
max_elements = 262144

-- "4,194,304 payload bytes" (X2, X3)
abbrev pub max_payload_bytes : ℕ
max_payload_bytes = 4194304

-- "over 16 passes" (X5)
abbrev pub max_passes : ℕ
max_passes = 16

-- "No sample needs more than 111 bits" (K10)
abbrev pub max_word_bits : ℕ
max_word_bits = 111

-- "under 28 bytes per frame lent" (X6): two samples of 111 bits
abbrev pub bytes_per_frame : ℕ
bytes_per_frame = 28

-- demand 3's span (X6): a residual v, or -v - 1 for a negative one, lies below
abbrev pub residual_span : ℕ
residual_span = 1879048192

-- the largest width of an interval (I1): 2^32 - 1, div 16, plus 1
abbrev pub max_width : ℕ
max_width = 268435456
