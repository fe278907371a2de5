-- A word out of 64 bits: its prefix, its value, and that no run length stands behind it.
-- Assumes nothing.
use mathlib.Core.Path.{◌≡◌, refl, sym, subst, ◌∙◌}
use mathlib.Core.Bool.{Bool, true, false, not, ◌&&◌, and-false}
use mathlib.Core.List.{List, ◌∷◌}
use Prim.Native.Nat.{ℕ, zero, suc, ◌+◌, ◌-◌, ◌*◌, ◌/◌, ◌%◌, ◌^◌, ◌≤◌, ◌<◌}
use native.Mathlib.Omega.{arith}
use borrow.Author.Tests.{not-true, lt-ltb, le-ltb}
use lib.IntN.{ℤ}
use lib.Dec.{leb, eqb}
use lib.Pow.{shr-shr}
use Rattle.bits.specs.Bits.{val, bit_of, low, ones}
use Rattle.bits.specs.Window.{Window}
use Rattle.bits.proofs.RegisterLaws.{window_shift}
use Rattle.entropy.specs.Medians.{Medians, medians_of}
use Rattle.entropy.specs.declared.AdaptiveMedians.{AdaptiveMedians}
use Rattle.fields.proofs.WindowLaws.{few_ones}
use Rattle.medians.specs.Adaptation.{adapt}
use Rattle.medians.specs.Interval.{IntervalIs}
use Rattle.medians.proofs.IntervalLaws.{told-ends}
use Rattle.word_state.specs.State.{run_due}
use Rattle.words.specs.Parts.{SignedCodeIs, ValueIs, PlainIs}
use Rattle.words.specs.declared.coded.Coded.{Coded}
use Rattle.std.specs.Prelude.{Some, None, Ok}
use Rattle.words.proofs.JoinLaws.{plain-sample}
use Rattle.words.proofs.PartLaws.{count-zero, count-read}
use Rattle.short_words.specs.declared.ShortWord.{ShortWord}
use Rattle.short_words.specs.Short.{ones_of, ShortPrefix, ShortWordIs, CountedIs, WordIs}

-- ---- the prefix

-- fewer than two ones are told by two bits
ones-few : (a b : ℕ) (l : List Bool) → a < 2 → b < 2 → (a + 2 * b ≡ 3 → ⊥) → ones (bit_of a ∷ bit_of b ∷ l) ≡ a
unfolding ones
ones-few zero b l ha hb h = refl
ones-few (suc zero) zero l ha hb h = refl
ones-few (suc zero) (suc zero) l ha hb h = absurd (h refl)
ones-few (suc zero) (suc (suc b)) l ha hb h = absurd (omega arith)
ones-few (suc (suc a)) b l ha hb h = absurd (omega arith)

-- so are those of a register
pub few : (w : ℕ) → (w % 4 ≡ 3 → ⊥) → w % 2 ≡ ones_of w
unfolding low
few w h = sym (ones-few (w % 2) (w / 2 % 2) (low 62 (w / 2 / 2)) (omega arith) (omega arith) (λ e. h (omega arith)))

-- a prefix and the interval of a count
pub short-prefix : (w n k lo hi : ℕ) (m : Medians) → n ≡ ones_of w → n < 16 → IntervalIs m k lo hi → ShortPrefix w n lo hi
short-prefix w n k lo hi m e h i =
    let t = told-ends m k lo hi i in
    record { ones_is = e; few = h; ordered = t.ordered; within = t.within; last = t.last }

-- the register behind n ones and a zero
behind-ones : (bits : List Bool) (p w n : ℕ) → Window bits p 64 w → n < 16 → Window bits (p + n + 1) (64 - (n + 1)) (w / 2 ^ 1 / 2 ^ n)
behind-ones bits p w n v h =
    let e : 1 + n ≡ n + 1 = omega arith in
    let q : p + (n + 1) ≡ p + n + 1 = omega arith in
    rw (shr-shr w 1 n, e, sym q) (window_shift bits p 64 w (n + 1) v (omega arith))

-- ---- no run length behind it

-- one of two flags is set
flag-set : (m n : Medians) (b : Bool) → run_due m n (not b) b ≡ false
unfolding run_due
flag-set m n true = and-false (leb m.m0 1 && leb n.m0 1 && not false)
flag-set m n false = go (leb m.m0 1 && leb n.m0 1)
  where
    go : (a : Bool) → (a && false && true) ≡ false
    go true = refl
    go false = refl

-- ---- the word

-- the flags of a prefix, as they are tested for
even : (n : ℕ) → n < 2 → eqb n 0 ≡ not (bit_of n)
even zero h = refl
even (suc zero) h = refl
even (suc (suc n)) h = absurd (omega arith)

odd : (n : ℕ) → n < 2 → eqb n 1 ≡ bit_of n
odd zero h = refl
odd (suc zero) h = refl
odd (suc (suc n)) h = absurd (omega arith)

-- with a prefix of n ones
prefixed : (bits : List Bool) (p w n : ℕ) (m : Medians) (o : Bool) (sample : ℤ) (used : ℕ) → Window bits p 64 w → n ≡ ones_of w → n < 16
    → ValueIs bits (p + n + 1) m (n / 2 + val o) (Some (sample, p + n + 1 + used))
    → PlainIs bits p m false o (Ok (Coded.Sample sample (n / 2 + val o) (p + (used + n + 1)) (not (bit_of (n % 2))) (bit_of (n % 2))))
prefixed bits p w n m o sample used x e h v =
    let q : p + n + 1 + used ≡ p + (used + n + 1) = omega arith in
    rw q at
    (plain-sample bits p m false o _ (count-read bits p o n (p + n + 1) (few_ones bits p w n x e h)) sample (p + n + 1 + used) v)

module _ (w n lo hi : ℕ) (h : ShortPrefix w n lo hi) (after : AdaptiveMedians) (sample : ℤ) (used : ℕ) (t : SignedCodeIs (w / 2 ^ 1 / 2 ^ n) lo (hi - lo) sample used) where
  pub counted_is : CountedIs w n lo hi after (record {
    on = true;
    value = sample;
    used = used + n + 1;
    medians = after;
    last_zero = eqb (n % 2) 0;
    last_one = eqb (n % 2) 1;
  })
  counted_is =
      let d : lo + (hi - lo) ≡ hi = omega (arith, h.ordered) in
      record {
        is = λ due other o i a. record {
          count = n / 2 + val o;
          is = λ bits p v.
              rw (even (n % 2) (omega arith), odd (n % 2) (omega arith))
              (prefixed bits p w n due o sample used v h.ones_is h.few
              (t.is bits (p + n + 1) (64 - (n + 1)) (behind-ones bits p w n v h.few) (omega (arith, h.few)) due (n / 2 + val o) i.low-is (d ∙ i.high_is)));
          adapted = a;
          some = omega arith;
          most = omega (arith, t.most, h.few);
          unbroken = λ x. rw (even (n % 2) (omega arith), odd (n % 2) (omega arith)) (flag-set (medians_of after) other (bit_of (n % 2)));
        };
      }

-- fewer than two ones: the count is 1 where last_one is set, and 0 elsewhere
pub few-counted : (w n lo hi : ℕ) (after : AdaptiveMedians) (r : ShortWord) → CountedIs w n lo hi after r
    → n < 2 → (due other : Medians) (o : Bool) → IntervalIs due (val o) lo hi
    → medians_of after ≡ adapt due (val o) → ShortWordIs w due other false o r
few-counted w n lo hi after r c h due other o i a = let k : n / 2 + val o ≡ val o = omega arith in c.is due other o (rw k i) (rw k a)

-- behind an announced zero
module _ (w lo hi : ℕ) (due other : Medians) (o : Bool) (i : IntervalIs due 0 lo hi) (after : AdaptiveMedians) (a : medians_of after ≡ adapt due 0) (sample : ℤ) (used : ℕ)
    (t : SignedCodeIs w lo (hi - lo) sample used) (run : Bool) (f : run ≡ run_due (medians_of after) other false o) where
  pub announced_is : ShortWordIs w due other true o (record {
    on = not run;
    value = sample;
    used = used;
    medians = after;
    last_zero = false;
    last_one = o;
  })
  announced_is =
      let d : lo + (hi - lo) ≡ hi = omega (arith, (told-ends due 0 lo hi i).ordered) in
      record {
        count = 0;
        is = λ bits p v.
            plain-sample bits p due true o _ (count-zero bits p o) sample (p + used)
            (t.is bits p 64 v (omega arith) due 0 i.low-is (d ∙ i.high_is));
        adapted = a;
        some = t.some;
        most = omega (arith, t.most);
        unbroken = λ x. sym f ∙ not-true run x;
      }

-- ---- given or not

-- with fewer than 16 ones
pub given_counted : (w n : ℕ) (due other : Medians) (o : Bool) (r : ShortWord) → n ≡ ones_of w → n < 16
    → ShortWordIs w due other false o r → WordIs w due other false o (Some r)
given_counted w n due other o r e h p = record {
  fits = sym (rw (sym e) (lt-ltb n _ (omega arith)));
  word = λ x d. let f : r ≡ x = cc in subst (λ (y : ShortWord). ShortWordIs w due other false o y) f p;
}

-- with more
pub not-given : (w n : ℕ) (due other : Medians) (o : Bool) → n ≡ ones_of w → 16 ≤ n → WordIs w due other false o None
not-given w n due other o e h = record {
  fits = sym (rw (sym e) (le-ltb n _ (omega arith)));
  word = λ x d. absurd (let z : ◌≡◌ {A = ℕ} 0 1 = cc in omega arith);
}
