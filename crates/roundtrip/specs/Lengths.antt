-- The lengths that reading and packing ask about before the entropy payload (X2, X6): in order, they
-- are refused with neither 5 nor 6.
-- Assumes nothing.
use Rattle.std.specs.Prelude.{◌≡◌, List, ℕ, ◌*◌, ◌≤◌, ℤ, length}
use Rattle.answers.specs.Limits.{max_frames, max_payload_bytes}

-- of reading
pub record ReadLengths (payload : List ℕ) (frames : ℕ) (list : List ℤ) : Type 0 where
  pub frames_few : frames ≤ max_frames
  pub bytes-few : length payload ≤ max_payload_bytes
  pub two_per_frame : length list ≡ 2 * frames

-- of packing
pub record PackLengths (residuals : List ℤ) (frames : ℕ) : Type 0 where
  pub frames_few : frames ≤ max_frames
  pub two_per_frame : length residuals ≡ 2 * frames
