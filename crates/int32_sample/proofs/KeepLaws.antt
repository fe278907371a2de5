-- A sample that is shifted left without losing a bit comes back by the right shift, and no other
-- does.
-- Assumes nothing.
use mathlib.Core.Path.{◌≡◌, sym, ap, subst, ◌∙◌}
use Prim.Native.Nat.{ℕ, suc, ◌+◌, ◌-◌, ◌*◌, ◌^◌, ◌<◌}
use native.Mathlib.Omega.{arith}
use lib.Arith.{digits_lt, digits_div}
use lib.IntN.{ℤ, pos, negsuc, ◌+ℤ◌, ◌*ℤ◌, +ℤ_idr}
use lib.Pow.{pow-add, pow_pos, shr_lt}
use mir.Syntax.{w32}
use mir.Val.{SFits}
use Rattle.wrapping.specs.Wrap.{floor_div}
use Rattle.wrapping.proofs.WrapLaws.{wrap_id, wrap_fits}
use Rattle.int32_sample.specs.Sample.{below, above}
use Rattle.int32_sample.specs.Setting.{Keeps, PutInTakenOut}
use Rattle.int32_sample.proofs.ShiftLaws.{keep-count, below-fits, sum_neg, floor_sum, apart, low_below}

module _ (i k : ℕ) (e : i + k ≡ 31) where
  half : 2 ^ i * 2 ^ k ≡ 2147483648
  half = sym (pow-add 2 i k) ∙ ap (λ (n : ℕ). 2 ^ n) e

  -- a product and a rest below 2 to the 31 stay there with any rest
  stays : (a n m : ℕ) → n < 2 ^ k → m < 2 ^ k → a * 2 ^ k + n < 2147483648 → a * 2 ^ k + m < 2147483648
  stays a n m h l f =
      let q : a < 2 ^ i =
      subst (λ (x : ℕ). x < 2 ^ i) (digits_div a h)
      (shr_lt {n = a * 2 ^ k + n} i k
      (subst (λ (x : ℕ). a * 2 ^ k + n < x) (sym half ∙ sym (pow-add 2 i k)) f)) in
      subst (λ (x : ℕ). a * 2 ^ k + m < x) half (digits_lt q l)

  -- whichever bits are put in below a sample: it fits, or it does not
  any_fits : (x : ℤ) (n m : ℕ) → n < 2 ^ k → m < 2 ^ k → SFits w32 (x *ℤ pos (2 ^ k) +ℤ pos n)
      → SFits w32 (x *ℤ pos (2 ^ k) +ℤ pos m)
  any_fits (pos a) n m h l f = record { sfits = stays a n m h l f.sfits }
  any_fits (negsuc a) n m h l f =
      let p = 2 ^ k in
      let g : SFits w32 (negsuc (a * p + (p - 1 - n))) = subst (SFits w32) (sum_neg a p n h) f in
      let u : p - 1 - n < p = omega arith in
      let v : p - 1 - m < p = omega arith in
      subst (SFits w32) (sym (sum_neg a p m l))
      (record { sfits = stays a (p - 1 - n) (p - 1 - m) u v g.sfits })

  -- a sample that keeps its bits is not wrapped
  pub below-exact : (n : ℕ) (x : ℤ) → n < 2 ^ k → Keeps k x → below k n x ≡ x *ℤ pos (2 ^ k) +ℤ pos n
  unfolding below
  below-exact n x h q =
      let f : SFits w32 (x *ℤ pos (2 ^ k) +ℤ pos 0) = subst (SFits w32)
      (q ∙ sym (+ℤ_idr (x *ℤ pos (2 ^ k)))) (wrap_fits (x *ℤ pos (2 ^ k))) in
      wrap_id _ (any_fits x 0 n (pow_pos k) h f)

  pub taken_out : (n : ℕ) (x : ℤ) → n < 2 ^ k → Keeps k x → above k (below k n x) ≡ x
  unfolding above
  taken_out n x h q = ap (λ (z : ℤ). floor_div z (2 ^ k)) (below-exact n x h q) ∙ floor_sum x (2 ^ k) n h

  kept : (n : ℕ) (x : ℤ) → n < 2 ^ k → above k (below k n x) ≡ x → Keeps k x
  kept n x h q =
      let y = below k n x in
      let p = x *ℤ pos (2 ^ k) in
      let c : suc i + k ≡ 32 = omega arith in
      let s : p +ℤ pos n ≡ y = sym (ap (λ (z : ℤ). z *ℤ pos (2 ^ k) +ℤ pos n) q)
      ∙ ap (λ (l : ℕ). above k y *ℤ pos (2 ^ k) +ℤ pos l) (sym (low_below (suc i) k c n x h))
      ∙ apart (suc i) k c y in
      let f : SFits w32 (p +ℤ pos n) = subst (SFits w32) (sym s) (below-fits k n x) in
      wrap_id p (subst (SFits w32) (+ℤ_idr p) (any_fits x n 0 h (pow_pos k) f))

pub put_in-taken_out : PutInTakenOut
put_in-taken_out k n x w h = let e = keep-count k w in (taken_out (31 - k) k e n x h, kept (31 - k) k e n x h)
