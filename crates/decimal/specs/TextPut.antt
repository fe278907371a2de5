-- A text in a lent buffer: all writers of this crate promise what they leave there by this record.
-- Assumes nothing.
-- ---- for the code alone
use Rattle.std.specs.Prelude.{◌≡◌, List, ℕ, ◌+◌, length}
use Rattle.overlay.specs.Overlay.{overlay}

-- a writer put the text at the place p, and answered the place after it
pub record TextPut (before after : List ℕ) (p next : ℕ) (text : List ℕ) : Type 0 where
  pub bytes : after ≡ overlay before p text
  pub place : next ≡ p + length text
