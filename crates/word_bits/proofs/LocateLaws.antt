-- A walk past the intervals finds where a number lies.
-- Assumes nothing.
use mathlib.Core.Path.{◌≡◌, sym, ap, ◌∙◌}
use Prim.Native.Nat.{ℕ, suc, ◌+◌, ◌-◌, ◌*◌, ◌/◌, ◌%◌, ◌≤◌, ◌<◌}
use native.Mathlib.Nat.{div-add-mod', div-eq_of_lt, lt-div-mul-add}
use native.Mathlib.Decide.{dec_le}
use native.Mathlib.Omega.{arith}
use Rattle.answers.specs.Limits.{residual_span}
use Rattle.entropy.specs.Medians.{Medians, Small, medians_of}
use Rattle.medians.specs.Interval.{g, base, width}
use Rattle.medians.specs.Adaptation.{up, down, adapt}
use Rattle.medians.proofs.AdaptationLaws.{adapt_many}
use Rattle.word_bits.specs.Counts.{count}
use Rattle.word_bits.specs.View.{LocatedIs, Above}
use Rattle.word_bits.specs.declared.Located.{Located}
use Rattle.word_bits.proofs.CountLaws.{closed, closed-first, closed-second, closed-many}
use Rattle.word_bits.proofs.CountLaws.{count-closed, smallest}

-- a number whose count is k lies where k's interval was before the wrap
located : (m : Medians) (v k : ℕ) (r : Located) → Small m → v < residual_span → closed m v ≡ k → r.count ≡ k
    → base m k + r.code ≡ v → r.last ≡ width m k - 1
    → medians_of r.medians ≡ adapt m k → LocatedIs m v r
located m v k r s h e n c l a =
    let i : count m v ≡ k = count-closed m v s h ∙ e in
    let p = rw i at (smallest m v s h).plain in
    record {
      count-is = n ∙ sym i;
      code_is = rw i (omega arith);
      last-is = rw i (omega arith);
      medians_are = a ∙ ap (adapt m) (sym i);
    }

-- a number of a width or more is at least one step past it
some_steps : (x w : ℕ) → w ≤ x → 0 < w → 1 ≤ x / w
some_steps x w h p = go (dec_le 1 (x / w))
  where
    go : Dec (1 ≤ x / w) → 1 ≤ x / w
    go (yes l) = l
    go (no l) =
        let z : x / w ≡ 0 = omega arith in
        let b = rw z at (lt-div-mul-add {a = x} {b = w} p) in
        absurd (omega arith)

-- a set of medians is its three numbers
triple : (m : Medians) (a b c : ℕ) → a ≡ m.m0 → b ≡ m.m1 → c ≡ m.m2 → record { m0 = a; m1 = b; m2 = c } ≡ m
triple m a b c x y z = rw (x, y, z)

-- in the first interval
pub located-first : (m : Medians) (v : ℕ) (r : Located) → Small m → v < residual_span → v < g m.m0
    → r.count ≡ 0 → r.code ≡ v → r.last ≡ g m.m0 - 1
    → (medians_of r.medians).m0 ≡ down 128 m.m0 → (medians_of r.medians).m1 ≡ m.m1
    → (medians_of r.medians).m2 ≡ m.m2 → LocatedIs m v r
unfolding adapt
located-first m v r s h l n c e a b d =
    located m v 0 r s h (closed-first m v l) n (omega arith) e
    (triple (adapt m 0) _ _ _ a b d)

-- in the second
pub located-second : (m : Medians) (v : ℕ) (r : Located) → Small m → v < residual_span → g m.m0 ≤ v
    → v - g m.m0 < g m.m1 → r.count ≡ 1
    → r.code ≡ v - g m.m0 → r.last ≡ g m.m1 - 1
    → (medians_of r.medians).m0 ≡ up 128 m.m0 → (medians_of r.medians).m1 ≡ down 64 m.m1
    → (medians_of r.medians).m2 ≡ m.m2 → LocatedIs m v r
unfolding adapt
located-second m v r s h g l n c e a b d =
    located m v 1 r s h (closed-second m v g (omega arith)) n (omega arith) e
    (triple (adapt m 1) _ _ _ a b d)

module _ (m : Medians) (v rest x y c : ℕ) (a : Above m v rest x y c) (r : Located) where
  -- what lies past the first two intervals
  past_is : v - g m.m0 - g m.m1 ≡ rest
  past_is = omega (arith, a.past)

  -- in the third
  pub located-third : rest < g c → r.count ≡ 2 → r.code ≡ rest → r.last ≡ g c - 1
      → (medians_of r.medians).m0 ≡ x → (medians_of r.medians).m1 ≡ y
      → (medians_of r.medians).m2 ≡ down 32 c → LocatedIs m v r
  unfolding adapt
  located-third l n d e p q t =
      let z : (v - g m.m0 - g m.m1) / g m.m2 ≡ 0 = div-eq_of_lt (omega (arith, a.past, a.third)) in
      located m v 2 r a.small a.span
      (closed-many m v (omega (arith, a.past)) ∙ ap (λ (n : ℕ). suc (suc n)) z) n
      (omega (arith, a.past))
      (e ∙ ap (λ (n : ℕ). g n - 1) a.third)
      (triple (adapt m 2) _ _ _ (p ∙ a.first) (q ∙ a.second)
      (t ∙ ap (down 32) a.third))

  -- beyond it
  pub located-many : g c ≤ rest → r.count ≡ rest / g c + 2 → r.code ≡ rest % g c → r.last ≡ g c - 1
      → (medians_of r.medians).m0 ≡ x → (medians_of r.medians).m1 ≡ y
      → (medians_of r.medians).m2 ≡ up 32 c → LocatedIs m v r
  unfolding adapt
  located-many l n d e p q t =
      let j = rest / g c in
      let z : (v - g m.m0 - g m.m1) / g m.m2 ≡ j = rw (past_is, a.third) in
      let some : 1 ≤ j = some_steps rest (g c) l (omega arith) in
      let f : g m.m0 + g m.m1 + j * g m.m2 + r.code ≡ v =
      rw (← a.third, d) (omega (arith, a.past, div-add-mod' rest (g c))) in
      located m v (suc (suc j)) r a.small a.span
      (closed-many m v (omega (arith, a.past)) ∙ ap (λ (n : ℕ). suc (suc n)) z) (n ∙ omega arith) f
      (e ∙ ap (λ (n : ℕ). g n - 1) a.third)
      (triple _ _ _ _ (p ∙ a.first) (q ∙ a.second) (t ∙ ap (up 32) a.third)
      ∙ sym (adapt_many m (suc (suc j)) (omega arith)))
