-- The walk over the frames of a block: what is found so far, joined to what is left, is the whole.
-- Assumes nothing.
use mathlib.Core.Path.{◌≡◌, refl, ap, ap₂, ◌∙◌}
use mathlib.Core.Bool.{Bool, true, false, cond}
use mathlib.Core.List.{List, [], ◌∷◌}
use Prim.Native.Nat.{ℕ, zero, suc, ◌+◌, ◌-◌, ◌*◌, ◌/◌, ◌%◌, ◌≤◌, ◌<◌, max}
use native.Mathlib.Nat.{add_assoc}
use native.Mathlib.Omega.{arith}
use lib.Bits.{bit_and}
use lib.Dec.{ltb}
use lib.IntN.{ℤ, pos, nat_abs}
use lib.ListN.{length, drop, get_or, length-drop}
use lib.Seq.{drop-cons}
use Rattle.page_block.specs.Heard.{exceeds, is_loud, rises, last_loud_of, Flags, Heard}
use Rattle.page_block.specs.declared.Block.{Block}
use Rattle.page_block.specs.Sound.{lefts, rights, peak}
use Rattle.page_block.proofs.RiseLaws.{exceeds-few, rises-few}
use Rattle.page_block.proofs.SoundLaws.{lefts-few, rights-few}

-- ---- one channel

-- of the samples vs of a channel, after one that is loud or not, `rest` are still to come
pub record Found (t p : ℕ) (vs rest : List ℤ) (top count last : ℕ) : Type 0 where
  pub peak-is : max top (peak rest) ≡ peak vs
  pub clicks_are : count + rises t last rest ≡ rises t p vs
  pub last-is : last_loud_of t last rest ≡ last_loud_of t p vs

module _ (t p : ℕ) (vs : List ℤ) where
  -- before the first sample
  pub found_none : Found t p vs vs 0 0 p
  found_none = record { peak-is = omega arith; clicks_are = omega arith; last-is = refl }

  -- one sample more, at a distance
  pub found-more : (v : ℤ) (rest : List ℤ) (top count last distance top' count' last' : ℕ)
      → Found t p vs (v ∷ rest) top count last
      → distance ≡ nat_abs v → top' ≡ max top distance → last' ≡ exceeds distance t
      → count' ≡ count + exceeds last' last → Found t p vs rest top' count' last'
  unfolding peak rises last_loud_of
  found-more v rest top count last distance top' count' last' f e g h k =
      let l : last' ≡ is_loud t v = h ∙ ap (λ (n : ℕ). exceeds n t) e in
      record {
        peak-is = omega (arith, f.peak-is);
        clicks_are =
            ap₂ (λ (n m : ℕ). n + rises t m rest) (k ∙ ap (λ (n : ℕ). count + exceeds n last) l) l
            ∙ add_assoc count (exceeds (is_loud t v) last) (rises t (is_loud t v) rest) ∙ f.clicks_are;
        last-is = ap (λ (n : ℕ). last_loud_of t n rest) l ∙ f.last-is;
      }

  -- after the last
  pub found_all : (top count last : ℕ) → Found t p vs [] top count last
      → (top ≡ peak vs) × (count ≡ rises t p vs) × (last ≡ last_loud_of t p vs)
  unfolding peak rises last_loud_of
  found_all top count last f = (omega (arith, f.peak-is), omega (arith, f.clicks_are), f.last-is)

-- ---- both channels of a block

-- the frames from the i-th on: that one, and those after it
frames_on : (samples : List ℤ) (i : ℕ) → 2 * i + 1 < length samples
    → drop (2 * i) samples
    ≡ get_or samples (2 * i) (pos 0) ∷ get_or samples (2 * i + 1) (pos 0) ∷ drop (2 * (i + 1)) samples
frames_on samples i h =
    let left = get_or samples (2 * i) (pos 0) in
    let right = get_or samples (2 * i + 1) (pos 0) in
    let n : suc (2 * i) ≡ 2 * i + 1 = omega arith in
    let m : suc (2 * i + 1) ≡ 2 * (i + 1) = omega arith in
    drop-cons samples (2 * i) (pos 0) (omega arith)
    ∙ ap (λ (k : ℕ). left ∷ drop k samples) n
    ∙ ap (λ (l : List ℤ). left ∷ l)
    (drop-cons samples (2 * i + 1) (pos 0) h ∙ ap (λ (k : ℕ). right ∷ drop k samples) m)

-- fewer than two samples are no frame
pub lefts-end : (samples : List ℤ) → length samples < 2 → lefts samples ≡ []
unfolding lefts
lefts-end [] h = refl
lefts-end (l ∷ []) h = refl
lefts-end (l ∷ r ∷ samples) h = absurd (omega arith)

pub rights-end : (samples : List ℤ) → length samples < 2 → rights samples ≡ []
unfolding rights
rights-end [] h = refl
rights-end (l ∷ []) h = refl
rights-end (l ∷ r ∷ samples) h = absurd (omega arith)

-- the channels from the i-th frame on
lefts-on : (samples : List ℤ) (i : ℕ) → 2 * i + 1 < length samples
    → lefts (drop (2 * i) samples) ≡ get_or samples (2 * i) (pos 0) ∷ lefts (drop (2 * (i + 1)) samples)
unfolding lefts
lefts-on samples i h = ap lefts (frames_on samples i h)

rights-on : (samples : List ℤ) (i : ℕ) → 2 * i + 1 < length samples
    → rights (drop (2 * i) samples) ≡ get_or samples (2 * i + 1) (pos 0) ∷ rights (drop (2 * (i + 1)) samples)
unfolding rights
rights-on samples i h = ap rights (frames_on samples i h)

-- ---- both stems in one number

-- two flags are flags
pub flags_are : (a b : ℕ) → a ≤ 1 → b ≤ 1 → Flags (a + 65536 * b)
flags_are a b h l = record { left = omega arith; right = omega arith }

-- what rises at once is at most one for each
pub rises-small : (a b c d : ℕ) → exceeds a b + 65536 * exceeds c d ≤ 65537
rises-small a b c d = omega (arith, exceeds-few a b, exceeds-few c d)

-- a flag, as a test tells it
abbrev flag : Bool → ℕ
flag t = cond t 1 0

flag_is : (n : ℕ) → n ≤ 1 → n ≡ flag (ltb 0 n)
flag_is zero h = refl
flag_is (suc zero) h = refl
flag_is (suc (suc n)) h = absurd (omega arith)

-- the flags of one number without those of another, in all sixteen cases
rises_of : (a b c d : Bool)
    → bit_and (flag a + 65536 * flag b) (4294967295 - (flag c + 65536 * flag d))
    ≡ exceeds (flag a) (flag c) + 65536 * exceeds (flag b) (flag d)
unfolding exceeds
rises_of true true true true = refl
rises_of true true true false = refl
rises_of true true false true = refl
rises_of true true false false = refl
rises_of true false true true = refl
rises_of true false true false = refl
rises_of true false false true = refl
rises_of true false false false = refl
rises_of false true true true = refl
rises_of false true true false = refl
rises_of false true false true = refl
rises_of false true false false = refl
rises_of false false true true = refl
rises_of false false true false = refl
rises_of false false false true = refl
rises_of false false false false = refl

-- so one operation finds what has risen in either stem
pub both-rises : (next last : ℕ) → Flags next → Flags last
    → bit_and next (4294967295 - last)
    ≡ exceeds (next % 65536) (last % 65536) + 65536 * exceeds (next / 65536) (last / 65536)
both-rises next last f g =
    let whole : (n : ℕ) → n ≡ n % 65536 + 65536 * (n / 65536) = λ n. omega arith in
    ap₂ (λ (x y : ℕ). bit_and x (4294967295 - y)) (whole next) (whole last)
    ∙ flagged (next % 65536) (next / 65536) (last % 65536) (last / 65536)
    f.left f.right g.left g.right
  where
    flagged : (a b c d : ℕ) → a ≤ 1 → b ≤ 1 → c ≤ 1 → d ≤ 1
        → bit_and (a + 65536 * b) (4294967295 - (c + 65536 * d)) ≡ exceeds a c + 65536 * exceeds b d
    flagged a b c d h k l m =
        rw (flag_is a h, flag_is b k, flag_is c l, flag_is d m)
        (rises_of (ltb 0 a) (ltb 0 b) (ltb 0 c) (ltb 0 d))

-- the numbers that the walk holds before the i-th frame
pub record Walked (t before : ℕ) (samples : List ℤ) (lp rp clicks last i : ℕ) : Type 0 where
  pub left : Found t (before % 65536) (lefts samples) (lefts (drop (2 * i) samples)) lp (clicks % 65536)
      (last % 65536)
  pub right : Found t (before / 65536) (rights samples) (rights (drop (2 * i) samples)) rp (clicks / 65536)
      (last / 65536)
  pub left-few : clicks % 65536 ≤ i
  pub right-few : clicks / 65536 ≤ i
  pub flags : Flags last
  pub here : 2 * i ≤ length samples

module _ (t before : ℕ) (samples : List ℤ) where
  -- before the first frame
  pub walked_none : Flags before → Walked t before samples 0 0 0 before 0
  walked_none f = record {
    left = found_none t (before % 65536) (lefts samples);
    right = found_none t (before / 65536) (rights samples);
    left-few = omega arith;
    right-few = omega arith;
    flags = f;
    here = omega arith;
  }

  -- one frame more, its samples at the distances l and r
  pub walked_more : (lp rp clicks last i l r lp' rp' next rise : ℕ) → length samples ≤ 2048
      → 2 * i + 1 < length samples → Walked t before samples lp rp clicks last i
      → l ≡ nat_abs (get_or samples (2 * i) (pos 0)) → r ≡ nat_abs (get_or samples (2 * i + 1) (pos 0))
      → lp' ≡ max lp l → rp' ≡ max rp r
      → next ≡ exceeds l t + 65536 * exceeds r t
      → rise ≡ exceeds (next % 65536) (last % 65536) + 65536 * exceeds (next / 65536) (last / 65536)
      → Walked t before samples lp' rp' (clicks + rise) next (i + 1)
  walked_more lp rp clicks last i l r lp' rp' next rise m h w d e f g n k =
      let a = exceeds-few l t in
      let b = exceeds-few r t in
      let x = exceeds-few (next % 65536) (last % 65536) in
      let y = exceeds-few (next / 65536) (last / 65536) in
      let low : next % 65536 ≡ exceeds l t = omega arith in
      let high : next / 65536 ≡ exceeds r t = omega arith in
      let u = w.left-few in
      let v = w.right-few in
      let left-rise : (clicks + rise) % 65536 ≡ clicks % 65536 + exceeds (next % 65536) (last % 65536) =
      omega arith in
      let right-rise : (clicks + rise) / 65536 ≡ clicks / 65536 + exceeds (next / 65536) (last / 65536) =
      omega arith in
      record {
        left = found-more t (before % 65536) (lefts samples) _ _ lp (clicks % 65536) (last % 65536) l lp' _ _
            (rw (lefts-on samples i h) at w.left) d f low left-rise;
        right = found-more t (before / 65536) (rights samples) _ _ rp (clicks / 65536)
            (last / 65536) r rp' _ _ (rw (rights-on samples i h) at w.right) e g high right-rise;
        left-few = omega arith;
        right-few = omega arith;
        flags = record { left = omega arith; right = omega arith };
        here = omega arith;
      }

  -- after the last
  pub walked_all : (lp rp clicks last i : ℕ) → length samples / 2 ≤ i
      → Walked t before samples lp rp clicks last i
      → Heard t before samples
      (record {
        left_peak = lp;
        right_peak = rp;
        left_clicks = clicks % 65536;
        right_clicks = clicks / 65536;
        last_loud = last;
      })
  walked_all lp rp clicks last i h w =
      let short : length (drop (2 * i) samples) < 2 = omega (arith, length-drop (2 * i) samples) in
      let l = found_all t (before % 65536) (lefts samples) lp (clicks % 65536) (last % 65536)
      (rw (lefts-end (drop (2 * i) samples) short) at w.left) in
      let r = found_all t (before / 65536) (rights samples) rp (clicks / 65536) (last / 65536)
      (rw (rights-end (drop (2 * i) samples) short) at w.right) in
      record {
        left-peak = l.0;
        right-peak = r.0;
        left-clicks = l.1;
        right-clicks = r.1;
        flags = w.flags;
        left_loud = l.2;
        right_loud = r.2;
      }

-- a block has at most as many clicks as samples
pub heard-few : (t before : ℕ) (samples : List ℤ) (b : Block) → Heard t before samples b
    → (b.left_clicks ≤ length samples) × (b.right_clicks ≤ length samples)
heard-few t before samples b h = (
  omega (arith, h.left-clicks, rises-few t (before % 65536) (lefts samples), lefts-few samples),
  omega (arith, h.right-clicks, rises-few t (before / 65536) (rights samples), rights-few samples),
)
