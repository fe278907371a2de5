-- Whether a next word's count is above 0, by the code's test of its magnitude against the first
-- median.
-- Assumes nothing.
use mathlib.Core.Path.{◌≡◌, sym}
use mathlib.Core.Bool.{true, false, cond}
use mathlib.Core.List.{List}
use Prim.Native.Nat.{ℕ, suc, ◌/◌, ◌≤◌, ◌<◌}
use native.Mathlib.Decide.{dec_lt}
use native.Mathlib.Omega.{arith}
use borrow.Author.Tests.{le-leb, leb-true, lt-ltb, le-ltb}
use lib.Dec.{ltb, leb}
use lib.IntN.{ℤ, pos}
use lib.ListN.{length, drop, get_or, drop_of_length-le}
use lib.Seq.{drop-cons}
use lib.Signed.{mag}
use Rattle.entropy.specs.Medians.{Medians, Small}
use Rattle.medians.specs.Interval.{g, low_of, high_of}
use Rattle.answers.proofs.TestLaws.{both}
use Rattle.word_bits.specs.Counts.{contains, least, count}
use Rattle.word_bits.specs.Residuals.{ahead}
use Rattle.word_bits.proofs.CountLaws.{untrue}

-- the first interval holds the numbers below its width
in_first : (m : Medians) (v : ℕ) → Small m → v < g m.m0 → contains m 0 v ≡ true
unfolding low_of high_of
in_first m v s h = rw (le-leb (low_of m 0) v (omega arith), le-leb v (high_of m 0) (omega arith))

-- and no others
out_first : (m : Medians) (v : ℕ) → Small m → g m.m0 ≤ v → contains m 0 v ≡ false
unfolding low_of high_of
out_first m v s h = untrue (contains m 0 v) (λ t. let u = leb-true v (high_of m 0) (both (leb (low_of m 0) v) (leb v (high_of m 0)) t).1 in omega arith)

-- so a count is above 0 exactly past it
count-above : (m : Medians) (v : ℕ) → Small m → ltb (m.m0 / 16) v ≡ ltb 0 (count m v)
unfolding count least
count-above m v s = go (dec_lt (m.m0 / 16) v)
  where
    go : Dec (m.m0 / 16 < v) → ltb (m.m0 / 16) v ≡ ltb 0 (cond (contains m 0 v) 0 (suc (least (λ j. contains m (suc j) v) v)))
    go (yes h) = rw (lt-ltb (m.m0 / 16) v h, out_first m v s (omega arith)) (sym (lt-ltb 0 (suc (least (λ j. contains m (suc j) v) v)) (omega arith)))
    go (no h) = rw (le-ltb (m.m0 / 16) v (omega arith), in_first m v s (omega arith))

-- so the code's test tells whether the next count is above 0
pub ahead-some : (m : Medians) (vs : List ℤ) (i : ℕ) → Small m → i < length vs → ltb (m.m0 / 16) (mag (get_or vs i (pos 0))) ≡ ahead m (drop i vs)
unfolding ahead
ahead-some m vs i s h = rw (drop-cons vs i (pos 0) h) (count-above m (mag (get_or vs i (pos 0))) s)

-- past the last residual it is not
pub ahead-end : (m : Medians) (vs : List ℤ) (i : ℕ) → length vs ≤ i → false ≡ ahead m (drop i vs)
unfolding ahead
ahead-end m vs i h = rw (drop_of_length-le vs {i = i} h)
