-- For every number in the span and all medians of 32 bits there is a smallest count whose interval
-- contains it. A closed form finds it, and its interval meets neither the wrap nor the mask.
-- Assumes nothing.
use mathlib.Core.Path.{◌≡◌, refl, ap}
use mathlib.Core.Bool.{Bool, true, false, cond}
use Prim.Native.Nat.{ℕ, zero, suc, ◌+◌, ◌-◌, ◌*◌, ◌/◌, ◌≤◌, ◌<◌}
use native.Mathlib.Nat.{div-mul-le_self, lt-div-mul-add, mul-le-mul_right, div-le_self}
use native.Mathlib.Omega.{arith}
use borrow.Author.Tests.{lt-ltb, le-ltb, le-leb, leb-true, ltb-true, ltb-false}
use lib.Dec.{ltb, leb}
use Rattle.medians.proofs.IntervalLaws.{width_le}
use Rattle.answers.specs.Limits.{residual_span, max_width}
use Rattle.entropy.specs.Medians.{Medians, Small}
use Rattle.medians.specs.Interval.{g, base, width, low_of, high_of}
use Rattle.answers.proofs.TestLaws.{both}
use Rattle.word_bits.specs.Counts.{contains, least, count}

-- a test that is not true is false
pub untrue : (b : Bool) → (b ≡ true → ⊥) → b ≡ false
untrue true h = absurd (h refl)
untrue false h = refl

-- ---- the smallest number that a test is true of

-- a number that the test is true of, and of none below it, is the smallest one
pub least-is : (p : ℕ → Bool) (n k : ℕ) → k < n → p k ≡ true → ((j : ℕ) → j < k → p j ≡ false) → least p n ≡ k
unfolding least
least-is p zero k h t f = absurd (omega arith)
least-is p (suc n) zero h t f = rw t
least-is p (suc n) (suc k) h t f =
    rw (f 0 (omega arith)) (ap suc (least-is (λ j. p (suc j)) n k (omega arith) t (λ j l. f (suc j) (omega arith))))

-- ---- the closed form

-- the count of v by its place among the intervals
unfoldable pub closed : Medians → ℕ → ℕ
closed m v = cond (ltb v (g m.m0)) 0 (cond (ltb v (g m.m0 + g m.m1)) 1 (suc (suc ((v - g m.m0 - g m.m1) / g m.m2))))

-- below the first width it is 0
pub closed-first : (m : Medians) (v : ℕ) → v < g m.m0 → closed m v ≡ 0
unfolding closed
closed-first m v h = rw (lt-ltb v (g m.m0) h)

-- below the first two it is 1
pub closed-second : (m : Medians) (v : ℕ) → g m.m0 ≤ v → v < g m.m0 + g m.m1 → closed m v ≡ 1
unfolding closed
closed-second m v h l = rw (le-ltb v (g m.m0) h, lt-ltb v (g m.m0 + g m.m1) l)

-- past them it goes by steps of the third width
pub closed-many : (m : Medians) (v : ℕ) → g m.m0 + g m.m1 ≤ v → closed m v ≡ suc (suc ((v - g m.m0 - g m.m1) / g m.m2))
unfolding closed
closed-many m v h = rw (le-ltb v (g m.m0) (omega arith), le-ltb v (g m.m0 + g m.m1) h)

-- v lies between the ends of the interval of k as they are before the wrap; k is no more than v
pub record Within (m : Medians) (k v : ℕ) : Type 0 where
  pub above : base m k ≤ v
  pub below : v < base m k + width m k
  pub most : k ≤ v

-- so it does for the closed form
found : (m : Medians) (v : ℕ) → Within m (closed m v) v
unfolding closed
found m v = first (ltb v (g m.m0)) refl
  where
    last : ℕ
    last = (v - g m.m0 - g m.m1) / g m.m2

    second : (t : Bool) → g m.m0 ≤ v → ltb v (g m.m0 + g m.m1) ≡ t → Within m (cond t 1 (suc (suc last))) v
    second true l e = let h = ltb-true v (g m.m0 + g m.m1) e in record { above = l; below = h; most = omega arith }
    second false l e =
        let h = ltb-false v (g m.m0 + g m.m1) e in
        let a = div-mul-le_self (v - g m.m0 - g m.m1) (g m.m2) in
        let b = lt-div-mul-add {a = v - g m.m0 - g m.m1} {b = g m.m2} (omega arith) in
        let c = div-le_self (v - g m.m0 - g m.m1) (g m.m2) in
        record { above = omega arith; below = omega arith; most = omega arith }

    first : (t : Bool) → ltb v (g m.m0) ≡ t → Within m (cond t 0 (cond (ltb v (g m.m0 + g m.m1)) 1 (suc (suc last)))) v
    first true e = let h = ltb-true v (g m.m0) e in record { above = omega arith; below = omega arith; most = omega arith }
    first false e = second (ltb v (g m.m0 + g m.m1)) (ltb-false v (g m.m0) e) refl

-- ---- intervals

-- the interval of k contains v, and meets neither wrap nor mask
pub record Plain (m : Medians) (k v : ℕ) : Type 0 where
  pub low-is : low_of m k ≡ base m k
  pub high_is : high_of m k ≡ base m k + width m k - 1
  pub room : base m k + width m k ≤ 2147483648
  pub wide : high_of m k - low_of m k < max_width
  pub from : low_of m k ≤ v
  pub upto : v ≤ high_of m k

-- a number in the span that lies within an interval meets neither, under medians of 32 bits
no_wrap : (m : Medians) (k v : ℕ) → Small m → v < residual_span → Within m k v → Plain m k v
unfolding low_of high_of
no_wrap m k v s h w =
    let d = width_le m k s in
    record { low-is = omega arith; high_is = omega arith; room = omega arith; wide = omega arith; from = omega arith; upto = omega arith }

-- an interval ends where the next begins, or before
in_order : (m : Medians) (j k : ℕ) → j < k → base m j + width m j ≤ base m k
in_order m j zero h = absurd (omega arith)
in_order m zero (suc zero) h = omega arith
in_order m zero (suc (suc k)) h = omega arith
in_order m (suc j) (suc zero) h = absurd (omega arith)
in_order m (suc zero) (suc (suc k)) h = omega arith
in_order m (suc (suc j)) (suc (suc k)) h = omega (arith, mul-le-mul_right {m = suc j} {n = k} (g m.m2) (omega arith))

-- such an interval contains it
contained : (m : Medians) (k v : ℕ) → Plain m k v → contains m k v ≡ true
contained m k v p = rw (le-leb (low_of m k) v p.from, le-leb v (high_of m k) p.upto)

-- no interval before that of k contains v
none_below : (m : Medians) (k v : ℕ) → Small m → v < residual_span → Within m k v → (j : ℕ) → j < k → contains m j v ≡ false
unfolding high_of
none_below m k v s h w j l = untrue (contains m j v) (λ t.
    let b = both (leb (low_of m j) v) (leb v (high_of m j)) t in
    let u = leb-true v (high_of m j) b.1 in
    let d = width_le m j s in
    let o = in_order m j k l in
    omega arith)

-- the closed form finds the smallest count
pub count-closed : (m : Medians) (v : ℕ) → Small m → v < residual_span → count m v ≡ closed m v
unfolding count
count-closed m v s h =
    let w = found m v in
    least-is (λ k. contains m k v) (suc v) (closed m v) (omega arith) (contained m (closed m v) v (no_wrap m (closed m v) v s h w)) (none_below m (closed m v) v s h w)

-- document 01 (K3): what the count k of v is. Its interval contains v, within 31 bits; that of no
-- smaller one does; and its prefix is below 2 ^ 32
pub record Smallest (m : Medians) (k v : ℕ) : Type 0 where
  pub within : Within m k v
  pub plain : Plain m k v
  pub contains_it : contains m k v ≡ true
  pub no_less : (j : ℕ) → j < k → contains m j v ≡ false
  pub prefix-fits : 2 * k + 1 < 4294967296

-- every number in the span has one, under all medians of 32 bits
pub smallest : (m : Medians) (v : ℕ) → Small m → v < residual_span → Smallest m (count m v) v
smallest m v s h =
    let w = found m v in
    let p = no_wrap m (closed m v) v s h w in
    rw (count-closed m v s h)
    (record { within = w; plain = p; contains_it = contained m (closed m v) v p; no_less = none_below m (closed m v) v s h w; prefix-fits = omega arith })
