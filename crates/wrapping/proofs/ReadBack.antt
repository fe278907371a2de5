-- What the code's casts and calls leave: a signed number that is passed, returned or cast is read
-- back from its bits. Assumes nothing.
use mathlib.Core.Path.{◌≡◌}
use Prim.Native.Nat.{ℕ, ◌-◌, ◌<◌}
use native.Mathlib.Omega.{arith}
use lib.IntN.{ℤ}
use mir.Syntax.{w32, w64}
use mir.Val.{to_z, of_z, SFits}
use mir.ValLaws.{to_z-of_z}
use Rattle.wrapping.specs.Wrap.{wrap32}
use Rattle.wrapping.proofs.WrapLaws.{wrap_fits}
use Rattle.wrapping.proofs.RangeLaws.{widen}

-- two complements undo one another
pub not-not : (n : ℕ) → n < 4294967296 → 4294967295 - (4294967295 - n) ≡ n
not-not n h = omega arith

-- a 32-bit number that was cast to 64 bits
pub cast64 : (x : ℤ) → SFits w32 x → to_z w64 (of_z w64 (to_z w32 (of_z w32 x))) ≡ x
cast64 x h = rw (to_z-of_z w32 x h) (to_z-of_z w64 x (widen h))

-- a result of `narrow` that is returned
pub narrowed : (z x y : ℤ) → z ≡ wrap32 x → x ≡ y → to_z w32 (of_z w32 z) ≡ wrap32 y
narrowed z x y e f = rw (e, f) (to_z-of_z w32 (wrap32 y) (wrap_fits y))

-- a signed number read back from its bits
abbrev pub reread : ℤ → ℤ
reread z = to_z w32 (of_z w32 z)
