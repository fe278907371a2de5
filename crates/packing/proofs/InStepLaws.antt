-- State and residuals in step: no more zeros are owed than stand next, a set flag tells of the next
-- count, medians have 32 bits; so it stays after each word.
-- Assumes nothing.
use mathlib.Core.Path.{◌≡◌, refl}
use mathlib.Core.Bool.{Bool, true, false, not, cond}
use mathlib.Core.List.{List, ◌∷◌}
use Prim.Native.Nat.{ℕ, zero, suc, ◌≤◌}
use native.Mathlib.Omega.{arith}
use borrow.Author.Tests.{not-true}
use lib.IntN.{ℤ}
use lib.Signed.{mag}
use Rattle.word_bits.proofs.ZeroLaws.{zeros-head}
use Rattle.entropy.proofs.SeedBounds.{none-small}
use Rattle.medians.proofs.AdaptationLaws.{adapt-small}
use Rattle.entropy.specs.Medians.{Medians, Small}
use Rattle.medians.specs.Adaptation.{adapt}
use Rattle.word_state.specs.State.{State, start, due, other, flip, side, paid, in_run, unbroken, cleared, flagged, after, run_due, run_here, on_zeros}
use Rattle.answers.proofs.TestLaws.{clash, both}
use Rattle.word_state.proofs.FlagLaws.{due-flags}
use Rattle.word_bits.specs.Counts.{count}
use Rattle.word_bits.specs.Residuals.{zeros, ahead}
use Rattle.packing.specs.Packing.{Out, behind, silent, value_out, plain_out, fresh_out, word_out}
use Rattle.word_bits.specs.Word.{prefix_of}
use Rattle.fields.specs.Written.{run_field, prefix_field}

-- how the state and the residuals that are left hang together
pub record Inv (s : State) (vs : List ℤ) : Type 0 where
  pub owed : s.debt ≤ zeros vs
  pub zeroed : s.last_zero ≡ true → (s.debt ≡ 0) × (ahead (due s) vs ≡ false)
  pub oned : s.last_one ≡ true → (s.debt ≡ 0) × (ahead (due s) vs ≡ true)
  pub small-left : Small s.left
  pub small-right : Small s.right

-- the state that starts is in step with any list
pub start-inv : (l r : Medians) (vs : List ℤ) → Small l → Small r → Inv (start l r) vs
start-inv l r vs sl sr = record { owed = omega arith; zeroed = λ z. clash z refl; oned = λ z. clash z refl; small-left = sl; small-right = sr }

-- ---- medians

-- one of two sets of 32 bits has 32 bits
side-small : (c : ℕ) {a b : Medians} → Small a → Small b → Small (side c a b)
side-small zero x y = x
side-small (suc c) x y = y

-- the medians due have 32 bits
pub due-small : {s : State} {vs : List ℤ} → Inv s vs → Small (due s)
due-small {s} i = side-small s.channel i.small-left i.small-right

-- and so have the others
pub other-small : {s : State} {vs : List ℤ} → Inv s vs → Small (other s)
other-small {s} i = side-small s.channel i.small-right i.small-left

-- neither flag is set where a run length stands
pub here-flags : (s : State) → run_here s ≡ true → (s.last_zero ≡ false) × (s.last_one ≡ false)
here-flags s e =
    let t = both (not s.run_break) (run_due s.left s.right s.last_zero s.last_one) e in
    due-flags s.left s.right s.last_zero s.last_one t.1

-- ---- each kind of word

-- a zero out of a debt
paid-inv : (d : ℕ) (s : State) (v : ℤ) (vs : List ℤ) → s.debt ≡ suc d → Inv s (v ∷ vs) → Inv (paid d s) vs
unfolding paid
paid-inv d s v vs e i = record {
  owed = (zeros-head v vs d (omega (arith, i.owed))).1;
  zeroed = λ z. absurd (omega (arith, (i.zeroed z).0));
  oned = λ z. absurd (omega (arith, (i.oned z).0));
  small-left = i.small-left;
  small-right = i.small-right;
}

-- the first zero of a run
run-inv : (d : ℕ) (s : State) (v : ℤ) (vs : List ℤ) → run_here s ≡ true → zeros (v ∷ vs) ≡ suc d → Inv (in_run d s) vs
unfolding in_run
run-inv d s v vs e h =
    let f = here-flags s e in
    record {
      owed = (zeros-head v vs d (omega arith)).1;
      zeroed = λ z. clash z f.0;
      oned = λ z. clash z f.1;
      small-left = none-small;
      small-right = none-small;
    }

-- after a word the other channel's medians are due
turns : (c k : ℕ) (l r : Medians) → side (flip c) (side c (adapt l k) l) (side c r (adapt r k)) ≡ side c r l
turns zero k l r = refl
turns (suc c) k l r = refl

-- a word of count k
after-inv : (k : ℕ) (s : State) (vs : List ℤ) → s.debt ≡ 0 → (s.last_zero ≡ true → ahead (other s) vs ≡ false) → (s.last_one ≡ true → ahead (other s) vs ≡ true)
    → Small s.left → Small s.right → Inv (after k s) vs
unfolding after
after-inv k s vs d z o l r =
    let e = turns s.channel k s.left s.right in
    record {
      owed = omega arith;
      zeroed = λ h. (d, rw e (z h));
      oned = λ h. (d, rw e (o h));
      small-left = side-small s.channel (adapt-small s.left k l) l;
      small-right = side-small s.channel r (adapt-small s.right k r);
    }

-- a word with or without its prefix
plain-inv : (s : State) (v : ℤ) (vs : List ℤ) → s.debt ≡ 0 → Inv s (v ∷ vs) → Inv (plain_out s v vs).next vs
unfolding plain_out value_out cleared flagged ahead
plain-inv s v vs d i = go s.last_zero refl
  where
    k : ℕ
    k = count (due s) (mag v)

    b : Bool
    b = ahead (other s) vs

    go : (t : Bool) → s.last_zero ≡ t
        → Inv (cond t (value_out k (cleared s) v) (behind (prefix_field (prefix_of k s.last_one b)) (value_out k (flagged b s) v))).next vs
    go true e = after-inv k (cleared s) vs d (λ f. clash f refl) (λ f. clash (i.oned f).1 (i.zeroed e).1) i.small-left i.small-right
    go false e = after-inv k (flagged b s) vs d (not-true b) (λ g. g) i.small-left i.small-right

-- the same with run_break cleared
unbroken-inv : (s : State) (v : ℤ) (vs : List ℤ) → s.debt ≡ 0 → Inv s (v ∷ vs) → Inv (plain_out (unbroken s) v vs).next vs
unfolding unbroken
unbroken-inv s v vs d i =
    plain-inv (unbroken s) v vs d
    (record { owed = i.owed; zeroed = i.zeroed; oned = i.oned; small-left = i.small-left; small-right = i.small-right })

-- a word with or without a run length
fresh-inv : (s : State) (v : ℤ) (vs : List ℤ) → s.debt ≡ 0 → Inv s (v ∷ vs) → Inv (fresh_out s v vs).next vs
unfolding fresh_out
fresh-inv s v vs d i = here? (run_here s) refl
  where
    n : ℕ
    n = zeros (v ∷ vs)

    out : ℕ → Out
    out m = on_zeros m (λ d. silent (in_run d s)) (plain_out (unbroken s) v vs)

    run : (m : ℕ) → n ≡ m → run_here s ≡ true → Inv (out m).next vs
    run zero e t = unbroken-inv s v vs d i
    run (suc x) e t = run-inv x s v vs t e

    here? : (t : Bool) → run_here s ≡ t → Inv (cond t (behind (run_field n) (out n)) (plain_out (unbroken s) v vs)).next vs
    here? true t = run n refl t
    here? false t = unbroken-inv s v vs d i

-- every word leaves the state in step with the residuals that are left
pub kept : (s : State) (v : ℤ) (vs : List ℤ) → Inv s (v ∷ vs) → Inv (word_out s v vs).next vs
unfolding word_out
kept s v vs i = go s.debt refl
  where
    go : (m : ℕ) → s.debt ≡ m → Inv (on_zeros m (λ d. silent (paid d s)) (fresh_out s v vs)).next vs
    go zero e = fresh-inv s v vs e i
    go (suc d) e = paid-inv d s v vs e i
