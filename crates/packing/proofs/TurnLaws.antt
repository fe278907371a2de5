-- A turn of the packing loop writes what the definition writes for its residual, in every state
-- that has its medians and flags.
-- Assumes nothing.
use mathlib.Core.Path.{◌≡◌, refl, sym, ap, ◌∙◌, subst}
use mathlib.Core.Bool.{Bool, true, false, not, cond, ◌&&◌}
use mathlib.Core.List.{List, [], ◌∷◌, ◌++◌, append-nil}
use Prim.Native.Nat.{ℕ, zero, suc, ◌+◌, ◌-◌, ◌*◌, ◌≤◌, ◌<◌}
use native.Mathlib.Omega.{arith}
use lib.IntN.{ℤ}
use lib.ListN.{length}
use lib.Signed.{mag}
use Rattle.bits.specs.Laid.{put}
use Rattle.entropy.specs.Medians.{Medians, medians_of}
use Rattle.medians.specs.Adaptation.{adapt}
use Rattle.word_state.specs.State.{State, due, other, side, flip, in_run, unbroken, cleared, flagged, after, run_due, run_here, on_zeros}
use Rattle.word_state.proofs.FlagLaws.{here-due}
use Rattle.word_bits.specs.Counts.{count}
use Rattle.word_bits.specs.Residuals.{zeros, ahead}
use Rattle.packing.specs.Packing.{Out, behind, silent, value_out, plain_out, fresh_out, word_out}
use Rattle.word_bits.specs.Word.{prefix_of, word_field}
use Rattle.fields.specs.Written.{run_field, prefix_field}
use Rattle.word_bits.specs.View.{WordIs, BeforeIs}
use Rattle.packing.specs.View.{Seen, Next, Turned}
use Rattle.word_bits.specs.declared.Before.{Before}
use Rattle.packing.specs.declared.Turn.{Turn}
use Rattle.word_bits.specs.declared.Word.{Word}
use Rattle.packing.proofs.InStepLaws.{here-flags}
use Rattle.word_bits.proofs.PutLaws.{put_both}

-- ---- the word

-- a word of count k in a state u that differs from s in its flags only
after_next : (k : ℕ) (s u : State) → u.left ≡ s.left → u.right ≡ s.right → u.channel ≡ s.channel → u.debt ≡ s.debt → u.run_break ≡ false
    → Next s (after k u) (adapt (due s) k) u.last_zero u.last_one
unfolding after
after_next k s u l r c d b = record {
  left_is = rw (l, c) (left s.channel);
  right_is = rw (r, c) (right s.channel);
  channel-is = ap flip c;
  owes = d;
  zero_is = refl;
  one-is = refl;
  break_is = b;
}
  where
    left : (n : ℕ) → side n (adapt s.left k) s.left ≡ side n (adapt (side n s.left s.right) k) s.left
    left zero = refl
    left (suc n) = refl

    right : (n : ℕ) → side n s.right (adapt s.right k) ≡ side n s.right (adapt (side n s.left s.right) k)
    right zero = refl
    right (suc n) = refl

-- an answer o of the definition is this word behind the field f
record WordOf (s : State) (v : ℤ) (more last_zero : Bool) (f : List Bool) (o : Out) : Type 0 where
  bits_are : o.bits ≡ f ++ word_field last_zero s.last_one more (due s) v
  next-is : Next s o.next (adapt (due s) (count (due s) (mag v))) (cond last_zero false (not more)) (cond last_zero s.last_one more)

-- a word without a run length is one
plain_word : (s : State) (v : ℤ) (vs : List ℤ) → WordOf s v (ahead (other s) vs) s.last_zero [] (plain_out (unbroken s) v vs)
unfolding plain_out value_out unbroken cleared flagged
plain_word s v vs = go s.last_zero
  where
    k : ℕ
    k = count (due s) (mag v)

    more : Bool
    more = ahead (other s) vs

    go : (t : Bool) → WordOf s v more t []
        (cond t (value_out k (cleared (unbroken s)) v) (behind (prefix_field (prefix_of k s.last_one more)) (value_out k (flagged more (unbroken s)) v)))
    go true = record { bits_are = refl; next-is = after_next k s (cleared (unbroken s)) refl refl refl refl refl }
    go false = record { bits_are = refl; next-is = after_next k s (flagged more (unbroken s)) refl refl refl refl refl }

-- ---- the run length

-- no run length stands before the word
word_bare : (s : State) (v : ℤ) (vs : List ℤ) → s.debt ≡ 0 → run_here s ≡ false → word_out s v vs ≡ plain_out (unbroken s) v vs
unfolding word_out fresh_out
word_bare s v vs e a = rw (e, a)

-- one of n zeros does
word-behind : (s : State) (v : ℤ) (vs : List ℤ) (n : ℕ) → s.debt ≡ 0 → run_here s ≡ true → zeros (v ∷ vs) ≡ n
    → word_out s v vs ≡ behind (run_field (zeros (v ∷ vs))) (on_zeros n (λ d. silent (in_run d s)) (plain_out (unbroken s) v vs))
unfolding word_out fresh_out
word-behind s v vs n e a z = rw (e, a, ← z)

-- it tells of zeros
run_word_lem : (s : State) (v : ℤ) (vs : List ℤ) (d : ℕ) → s.debt ≡ 0 → run_here s ≡ true → zeros (v ∷ vs) ≡ suc d
    → word_out s v vs ≡ record { bits = run_field (zeros (v ∷ vs)); next = in_run d s }
run_word_lem s v vs d e a z =
    word-behind s v vs (suc d) e a z ∙ ap (λ (f : List Bool). record { bits = f; next = in_run d s }) (append-nil (run_field (zeros (v ∷ vs))))

-- it tells of none
word_of : (s : State) (v : ℤ) (vs : List ℤ) (t : Bool) → s.debt ≡ 0 → run_here s ≡ t → cond t (zeros (v ∷ vs)) 0 ≡ 0
    → WordOf s v (ahead (other s) vs) s.last_zero (cond t (run_field (zeros (v ∷ vs))) []) (word_out s v vs)
word_of s v vs true e a z =
    let w = plain_word s v vs in
    subst (λ (o : Out). WordOf s v (ahead (other s) vs) s.last_zero (run_field (zeros (v ∷ vs))) o) (sym (word-behind s v vs 0 e a z))
    (record { bits_are = ap (λ (f : List Bool). run_field (zeros (v ∷ vs)) ++ f) w.bits_are; next-is = w.next-is })
word_of s v vs false e a z =
    subst (λ (o : Out). WordOf s v (ahead (other s) vs) s.last_zero [] o) (sym (word_bare s v vs e a)) (plain_word s v vs)

-- ---- the turn

-- whether a run length stands before the word, as the code asks
abbrev pub asked : Medians → Medians → Bool → Bool → Bool → Bool
asked d o lz lo brk = not brk && run_due d o lz lo

module _ (s : State) (d o : Medians) (lz lo brk : Bool) (v : ℤ) (vs : List ℤ) (seen : Seen s d o lz lo brk) where
  -- it is what the definition asks
  asked_is : run_here s ≡ asked d o lz lo brk
  asked_is = here-due s ∙ rw (seen.due-is, seen.other-is, seen.zero_is, seen.one-is, seen.break_is)

  -- a turn that tells of zeros
  pub turn-run : (before after : List ℕ) (at : ℕ) (b : Before) (r : Turn) → BeforeIs before after at (asked d o lz lo brk) (v ∷ vs) b → 0 < b.run
      → r.place ≡ b.place → r.run ≡ b.run → r.last_zero ≡ lz → r.last_one ≡ lo → Turned before after at s v vs r
  turn-run before after at b r h n p q z w = go (asked d o lz lo brk) refl h
    where
      go : (t : Bool) → (asked d o lz lo brk) ≡ t → BeforeIs before after at t (v ∷ vs) b → Turned before after at s v vs r
      go true e h =
          let t = asked_is ∙ e in
          let i = run_word_lem s v vs (b.run - 1) seen.owes t (omega (arith, h.run_is)) in
          let c = here-flags s t in
          record {
            put_is =
                record {
                  bytes = h.put_is.bytes ∙ ap (λ (x : Out). put before at x.bits) (sym i);
                  place = p ∙ h.put_is.place ∙ ap (λ (x : Out). at + length x.bits) (sym i);
                };
            word = λ k. absurd (omega arith);
            run = λ k.
                record {
                  length-is = q ∙ h.run_is;
                  state-is = ap (λ (x : Out). x.next) i ∙ ap (λ (x : ℕ). in_run (x - 1) s) (sym q);
                  no_zero = c.0;
                  no_one = c.1;
                  zero_is = z ∙ sym seen.zero_is ∙ c.0;
                  one-is = w ∙ sym seen.one-is ∙ c.1;
                };
          }
      go false e h = absurd (omega (arith, h.run_is))

  -- a turn that writes a word
  pub turn-word : (before mid after : List ℕ) (at : ℕ) (b : Before) (u : Word) (r : Turn) → at ≤ 8 * length before → BeforeIs before mid at (asked d o lz lo brk) (v ∷ vs) b
      → b.run ≡ 0 → WordIs mid after b.place d v lz lo (ahead o vs) u → r.place ≡ u.place → r.run ≡ 0 → r.medians ≡ u.medians
      → r.last_zero ≡ cond lz false (not (ahead o vs)) → r.last_one ≡ cond lz lo (ahead o vs) → Turned before after at s v vs r
  turn-word before mid after at b u r l h n w p q x f g =
      let i = word_of s v vs (asked d o lz lo brk) seen.owes asked_is (sym h.run_is ∙ n) in
      let e : word_field s.last_zero s.last_one (ahead (other s) vs) (due s) v ≡ word_field lz lo (ahead o vs) d v =
      rw (seen.due-is, seen.other-is, seen.zero_is, seen.one-is) in
      let k = put_both before mid after at b.place u.place (cond (asked d o lz lo brk) (run_field (zeros (v ∷ vs))) []) (word_field lz lo (ahead o vs) d v) l h.put_is w.put_is in
      let j : (word_out s v vs).bits ≡ cond (asked d o lz lo brk) (run_field (zeros (v ∷ vs))) [] ++ word_field lz lo (ahead o vs) d v =
      i.bits_are ∙ ap (λ (a : List Bool). cond (asked d o lz lo brk) (run_field (zeros (v ∷ vs))) [] ++ a) e in
      let t = i.next-is in
      let m : adapt (due s) (count (due s) (mag v)) ≡ medians_of r.medians =
      ap (λ (a : Medians). adapt a (count a (mag v))) seen.due-is ∙ sym w.medians_are ∙ ap medians_of (sym x) in
      record {
        put_is = record { bytes = k.bytes ∙ ap (put before at) (sym j); place = p ∙ k.place ∙ ap (λ (a : List Bool). at + length a) (sym j) };
        word = λ _.
            record {
              left_is = t.left_is ∙ ap (λ (a : Medians). side s.channel a s.left) m;
              right_is = t.right_is ∙ ap (λ (a : Medians). side s.channel s.right a) m;
              channel-is = t.channel-is;
              owes = t.owes;
              zero_is = t.zero_is ∙ rw (seen.zero_is, seen.other-is) (sym f);
              one-is = t.one-is ∙ rw (seen.zero_is, seen.one-is, seen.other-is) (sym g);
              break_is = t.break_is;
            };
        run = λ a. absurd (omega arith);
      }
