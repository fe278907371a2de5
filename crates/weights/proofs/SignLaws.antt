-- The laws of choices by signs: by the code's tests, by the sign of a product, by one sign after
-- the other. Assumes nothing.
use mathlib.Core.Path.{◌≡◌, refl}
use Prim.Native.Nat.{zero, suc}
use native.Mathlib.Numerals.{unary_clauses}
use native.Mathlib.Nat.{zero-mul}
use lib.IntN.{ℤ, pos, negsuc, ◌*ℤ◌}
use Rattle.weights.specs.Weights.{Way, way_of, moved_clip}
use Rattle.weights.specs.Sign.{by_sign, chosen}

-- the sign of a product
pub product : (x y u v w : ℤ) → by_sign (x *ℤ y) u v w ≡ chosen (way_of x y) u v w
product (pos zero) (pos m) u v w = rw (zero-mul m)
product (pos zero) (negsuc m) u v w = rw (zero-mul (suc m))
product (pos (suc n)) (pos zero) u v w = simp unary_clauses
product (pos (suc n)) (pos (suc m)) u v w = simp unary_clauses
product (pos (suc n)) (negsuc m) u v w = simp unary_clauses
product (negsuc n) (pos zero) u v w = simp unary_clauses
product (negsuc n) (pos (suc m)) u v w = simp unary_clauses
product (negsuc n) (negsuc m) u v w = simp unary_clauses

-- the way does not tell which of the two is the source
pub way-sym : (x y : ℤ) → way_of x y ≡ way_of y x
way-sym (pos zero) (pos zero) = refl
way-sym (pos zero) (pos (suc m)) = refl
way-sym (pos zero) (negsuc m) = refl
way-sym (pos (suc n)) (pos zero) = refl
way-sym (pos (suc n)) (pos (suc m)) = refl
way-sym (pos (suc n)) (negsuc m) = refl
way-sym (negsuc n) (pos zero) = refl
way-sym (negsuc n) (pos (suc m)) = refl
way-sym (negsuc n) (negsuc m) = refl

-- the clipped update picks among its three outcomes
pub clip_chosen : (k : Way) (w d : ℤ) → chosen k (moved_clip Way.up w d) (moved_clip Way.down w d) w ≡ moved_clip k w d
clip_chosen Way.still w d = refl
clip_chosen Way.up w d = refl
clip_chosen Way.down w d = refl
