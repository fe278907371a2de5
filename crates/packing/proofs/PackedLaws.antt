-- What the definition writes, word by word: the zeros of a debt write nothing, and are passed over
-- at once.
-- Assumes nothing.
use mathlib.Core.Path.{◌≡◌, refl, sym, ap, ◌∙◌}
use mathlib.Core.Bool.{Bool}
use mathlib.Core.List.{List, [], ◌∷◌, ◌++◌, append_assoc, append-nil}
use Prim.Native.Nat.{ℕ, zero, suc, ◌+◌, ◌%◌, ◌≤◌}
use native.Mathlib.Omega.{arith}
use lib.IntN.{ℤ, pos, negsuc}
use lib.ListN.{drop}
use Rattle.word_state.specs.State.{State, flip, paid}
use Rattle.word_state.proofs.StateLaws.{turned}
use Rattle.word_bits.specs.Residuals.{zeros}
use Rattle.packing.specs.Packing.{Out, behind, silent, word_out, packed}

-- w is written, and the first of the residuals that are left is written next
pub packing_on : (w : List Bool) (s : State) (v : ℤ) (vs : List ℤ)
    → behind w (packed s (v ∷ vs)) ≡ behind (w ++ (word_out s v vs).bits) (packed (word_out s v vs).next vs)
unfolding packed
packing_on w s v vs =
    let o = word_out s v vs in
    ap (λ (l : List Bool). record { bits = l; next = (packed o.next vs).next }) (sym (append_assoc w o.bits (packed o.next vs).bits))

-- none is left
pub packing_end : (w : List Bool) (s : State) → behind w (packed s []) ≡ record { bits = w; next = s }
unfolding packed
packing_end w s = ap (λ (l : List Bool). record { bits = l; next = s }) (append-nil w)

-- ---- a debt is paid

-- the zeros of a debt write no bits, and leave all but the channel
pub record Settled (s : State) (l : List ℤ) (d j : ℕ) : Type 0 where
  pub t : State
  pub same : packed s l ≡ packed t (drop d l)
  pub owes : t.debt ≡ 0
  pub left_is : t.left ≡ s.left
  pub right_is : t.right ≡ s.right
  pub zero_is : t.last_zero ≡ s.last_zero
  pub one-is : t.last_one ≡ s.last_one
  pub break_is : t.run_break ≡ s.run_break
  pub channel-is : t.channel ≡ (j + d) % 2

-- a word out of a debt writes nothing
word-paid : (s : State) (v : ℤ) (l : List ℤ) (d : ℕ) → s.debt ≡ suc d → word_out s v l ≡ silent (paid d s)
unfolding word_out
word-paid s v l d e = rw e

-- and so the words behind it are all that is written
packed-paid : (s : State) (v : ℤ) (l : List ℤ) (d : ℕ) → s.debt ≡ suc d → packed s (v ∷ l) ≡ packed (paid d s) l
unfolding packed
packed-paid s v l d e = ap (λ (o : Out). behind o.bits (packed o.next l)) (word-paid s v l d e)

-- so all zeros of a debt are passed over
pub settle : (d j : ℕ) (s : State) (l : List ℤ) → s.debt ≡ d → d ≤ zeros l → s.channel ≡ j % 2 → Settled s l d j
unfolding zeros paid
settle zero j s l e h c = record {
  t = s;
  same = refl;
  owes = e;
  left_is = refl;
  right_is = refl;
  zero_is = refl;
  one-is = refl;
  break_is = refl;
  channel-is = c ∙ omega arith;
}
settle (suc d) j s [] e h c = absurd (omega arith)
settle (suc d) j s (pos (suc n) ∷ l) e h c = absurd (omega arith)
settle (suc d) j s (negsuc n ∷ l) e h c = absurd (omega arith)
settle (suc d) j s (pos zero ∷ l) e h c =
    let r = settle d (j + 1) (paid d s) l refl (omega arith) (ap flip c ∙ turned j) in
    record {
      t = r.t;
      same = packed-paid s (pos 0) l d e ∙ r.same;
      owes = r.owes;
      left_is = r.left_is;
      right_is = r.right_is;
      zero_is = r.zero_is;
      one-is = r.one-is;
      break_is = r.break_is;
      channel-is = r.channel-is ∙ omega arith;
    }
