-- The wrapping methods of the library, by the definition of a number kept to 32 bits. Assumes nothing.
use mathlib.Core.Path.{◌≡◌, refl, ap, ◌∙◌}
use Prim.Native.Nat.{◌+◌, ◌-◌, ◌*◌, ◌%◌}
use native.Mathlib.Omega.{arith}
use lib.IntN.{ℤ, pos, negsuc, neg_ℤ, ◌+ℤ◌, ◌-ℤ◌, ◌*ℤ◌}
use mir.Syntax.{w32, w64}
use mir.Val.{to_z, of_z, SFits}
use Rattle.std.specs.Int.{int_wrap, int_wrapping_neg}
use Rattle.std.proofs.lemmas.Int.{wrapping_add_is, wrapping_sub_is, wrapping_mul_is, wrapping_neg_is, wrapping_sub_onto}
use mir.ValLaws.{to_z-of_z}
use Rattle.wrapping.proofs.WrapLaws.{wrap_fits}
use Rattle.wrapping.proofs.RangeLaws.{shift_floor, floor_fits}
use Rattle.wrapping.specs.Wrap.{low32, wrap32, floor_div}
use lib.Signed.{shr_z}

wrap-is : (z : ℤ) → int_wrap w32 z ≡ wrap32 z
unfolding int_wrap wrap32 low32
wrap-is (pos n) = refl
wrap-is (negsuc n) = refl

-- a sum
pub sum-is : (a b : ℤ) → SFits w32 a → SFits w32 b → to_z w32 ((of_z w32 a + of_z w32 b) % 4294967296) ≡ wrap32 (a +ℤ b)
sum-is a b f g = wrapping_add_is w32 a b f g ∙ wrap-is (a +ℤ b)

-- a difference
pub difference-is : (a b : ℤ) → SFits w32 a → SFits w32 b → to_z w32 ((of_z w32 a + (4294967296 - of_z w32 b)) % 4294967296) ≡ wrap32 (a -ℤ b)
difference-is a b f g = wrapping_sub_is w32 a b f g ∙ wrap-is (a -ℤ b)

-- a product
pub product-is : (a k : ℤ) → SFits w32 a → SFits w32 k → to_z w32 (of_z w32 a * of_z w32 k % 4294967296) ≡ wrap32 (a *ℤ k)
product-is a k f h = wrapping_mul_is w32 a k f h ∙ wrap-is (a *ℤ k)

-- a product less a number
pub product_less : (a k b : ℤ) → SFits w32 a → SFits w32 k → SFits w32 b
    → to_z w32 ((of_z w32 a * of_z w32 k % 4294967296 + (4294967296 - of_z w32 b)) % 4294967296) ≡ wrap32 (wrap32 (a *ℤ k) -ℤ b)
product_less a k b f h g =
    wrapping_sub_onto w32 (of_z w32 a * of_z w32 k % 4294967296) b (omega arith) g ∙ wrap-is (to_z w32 (of_z w32 a * of_z w32 k % 4294967296) -ℤ b)
    ∙ ap (λ z. wrap32 (z -ℤ b)) (wrapping_mul_is w32 a k f h ∙ wrap-is (a *ℤ k))

-- a negation
pub negation-is : (a : ℤ) → SFits w32 a → int_wrapping_neg w32 a ≡ wrap32 (neg_ℤ a)
negation-is a f = wrapping_neg_is w32 a f ∙ wrap-is (neg_ℤ a)

-- half of a number that was kept to 32 bits
pub half_is : (z : ℤ) → to_z w32 (of_z w32 (shr_z (wrap32 z) 2)) ≡ floor_div (wrap32 z) 2
half_is z = rw (shift_floor (wrap32 z) 2) (to_z-of_z w32 _ (floor_fits w32 (wrap32 z) 2 (wrap_fits z)))

-- a 64-bit number shifted right by 10
pub shifted-is : (x : ℤ) → SFits w64 x → to_z w64 (of_z w64 (shr_z x 1024)) ≡ floor_div x 1024
shifted-is x f = rw (shift_floor x 1024) (to_z-of_z w64 (floor_div x 1024) (floor_fits w64 x 1024 f))
