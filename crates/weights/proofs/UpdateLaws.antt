-- The laws of the weight updates: what the calls of the code leave is what the definitions say.
-- Assumes nothing.
use mathlib.Core.Path.{◌≡◌, refl, ap}
use Prim.Native.Nat.{zero, suc}
use native.Mathlib.Omega.{arith}
use lib.IntN.{ℤ, pos, negsuc, neg_ℤ, ◌+ℤ◌, +ℤ_idr, neg_ℤ-neg_ℤ}
use mir.Syntax.{w32}
use mir.Val.{SFits}
use mir.ValLaws.{to_z-of_z}
use Rattle.wrapping.specs.Wrap.{wrap32}
use Rattle.wrapping.proofs.WrapLaws.{wrap_add, wrap_neg, wrap_id}
use Rattle.wrapping.proofs.ReadBack.{reread}
use Rattle.weights.specs.Weights.{Way, way_of, moved, moved_clip, updated, updated_clip}
use Rattle.weights.specs.Sign.{by_sign, chosen}
use Rattle.weights.proofs.SignLaws.{way-sym, clip_chosen}

-- the step's sign by the two numbers, then the sum
pub stepped : (w d x y : ℤ) → SFits w32 w → SFits w32 d
    → wrap32 (w +ℤ by_sign x (by_sign y d (wrap32 (neg_ℤ d)) (pos 0)) (wrap32 (neg_ℤ (by_sign y d (wrap32 (neg_ℤ d)) (pos 0)))) (pos 0)) ≡ updated w d x y
unfolding updated
stepped w d (pos zero) y h k = rw +ℤ_idr (wrap_id w h)
stepped w d (pos (suc n)) (pos zero) h k = rw +ℤ_idr (wrap_id w h)
stepped w d (pos (suc n)) (pos (suc m)) h k = refl
stepped w d (pos (suc n)) (negsuc m) h k = wrap_add w (neg_ℤ d)
stepped w d (negsuc n) (pos zero) h k = rw (wrap_id (pos 0) (record { sfits = omega arith }), +ℤ_idr) (wrap_id w h)
stepped w d (negsuc n) (pos (suc m)) h k = wrap_add w (neg_ℤ d)
stepped w d (negsuc n) (negsuc m) h k = rw (wrap_neg (neg_ℤ d), neg_ℤ-neg_ℤ) (wrap_add w d)

-- the clipped updates, by what their calls answer
pub clip_raw : (w d x y : ℤ) {u v z : ℤ}
    → u ≡ moved_clip Way.up (reread w) (reread d) → v ≡ moved_clip Way.down (reread w) (reread d) → z ≡ chosen (way_of (reread x) (reread y)) (reread u) (reread v) (reread w)
    → SFits w32 w → SFits w32 d → SFits w32 x → SFits w32 y → SFits w32 u → SFits w32 v → SFits w32 z
    → reread z ≡ updated_clip w d x y
unfolding updated_clip
clip_raw w d x y {u} {v} {z} eu ev ez fw fd fx fy fu fv fz =
    rw (to_z-of_z w32 z fz, ez, to_z-of_z w32 u fu, to_z-of_z w32 v fv, eu, ev, to_z-of_z w32 w fw, to_z-of_z w32 d fd, to_z-of_z w32 x fx, to_z-of_z w32 y fy) (clip_chosen (way_of x y) w d)

-- source and residual may change places
pub updated-sym : (w d x y : ℤ) → updated w d x y ≡ updated w d y x
unfolding updated
updated-sym w d x y = ap (λ k. moved k w d) (way-sym x y)

-- in the clipped update too
pub updated_clip-sym : (w d x y : ℤ) → updated_clip w d x y ≡ updated_clip w d y x
unfolding updated_clip
updated_clip-sym w d x y = ap (λ k. moved_clip k w d) (way-sym x y)
