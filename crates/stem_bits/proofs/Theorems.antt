-- Document 02, §8: the theorems of one word.
-- Assumes nothing.
use mathlib.Core.Path.{◌≡◌, refl, sym, ap, ap₂, subst, ◌∙◌}
use mathlib.Core.List.{List, ◌∷◌}
use Prim.Native.Nat.{ℕ, zero, suc, ◌+◌, ◌*◌, ◌-◌, ◌≤◌}
use native.Mathlib.Omega.{arith}
use lib.ListN.{length}
use Rattle.answers.specs.Limits.{max_payload_bytes}
use Rattle.bits.specs.Bits.{bits_of}
use Rattle.word_state.specs.State.{BitsRead, SmallBits, State, plus_bits, charged}
use Rattle.word_state.proofs.BitsLaws.{sum_added}
use Rattle.readings.specs.Costs.{Cost, left_cost, right_cost, by_stem}
use Rattle.readings.proofs.LocalLaws.{word_on}
use Rattle.readings.proofs.TotalLaws.{word_keeps}
use Rattle.one_word.specs.View.{WordTold, one_word}
use Rattle.one_word.proofs.OneLaws.{Accepted, one-accepted, refused_keeps}
use Rattle.one_word.proofs.PlaceLaws.{Ends, inside, still, word-ends, few_bits, total_fits}
use Rattle.stem_bits.specs.History.{fresh, further}
use Rattle.stem_bits.specs.Stems.{TotalsStaySmall, BitsByStem, RefusedKeeps}

-- ---- an accepted word

-- the totals after it
pub record Totals (payload : List ℕ) (p : ℕ) (s : State) (w : WordTold) : Type 0 where
  pub on : p ≤ w.place
  pub totals : w.state.bits_read ≡ plus_bits s.channel (w.place - p) s.bits_read
  pub ends : Ends (bits_of payload) p w.place

pub accepted-totals : (payload : List ℕ) (p : ℕ) (s : State) → Accepted payload p s
    → Totals payload p s (one_word payload p s)
unfolding charged
accepted-totals payload p s a =
    let bits = bits_of payload in
    let kept = word_keeps bits p a.next s a.after a.sample a.report a.is in
    subst (Totals payload p s) (sym a.told) (record {
      on = word_on bits p a.next s a.after a.sample a.report a.is;
      totals = ap (plus_bits s.channel (a.next - p)) kept.1;
      ends = word-ends bits p a.next s a.after a.sample a.report a.is;
    })

-- ---- after a history

-- a word more in front: its bits are its stem's
pub plus-word : (c n : ℕ) (ws : List Cost)
    → plus_bits c n (by_stem ws) ≡ by_stem (record { channel = c; bits = n } ∷ ws)
unfolding left_cost right_cost
plus-word zero n ws = ap₂ (λ (x y : ℕ). record { left = x; right = y }) (omega arith) (omega arith)
plus-word (suc c) n ws = ap₂ (λ (x y : ℕ). record { left = x; right = y }) (omega arith) (omega arith)

-- a place within the longest payload stays there
near : (payload : List ℕ) (p q : ℕ) → length payload ≤ max_payload_bytes → p ≤ 8 * max_payload_bytes
    → Ends (bits_of payload) p q → q ≤ 8 * max_payload_bytes
near payload p q h l (inside e) = omega (arith, few_bits payload h)
near payload p q h l (still e) = omega arith

pub bits-by_stem : BitsByStem
unfolding left_cost right_cost
bits-by_stem left right words p s fresh = record { add-up = refl; each_its_own = refl; few = omega arith }
bits-by_stem left right words p s (further ws p₀ s₀ payload w h f e) =
    let before = bits-by_stem left right ws p₀ s₀ h in
    let a = one-accepted payload p₀ s₀ (ap (λ (w : WordTold). w.refusal) f ∙ e) in
    let t = subst (Totals payload p₀ s₀) f (accepted-totals payload p₀ s₀ a) in
    let n = w.place - p₀ in
    let sum = ap (λ (b : BitsRead). b.left + b.right) t.totals in
    record {
      add-up = omega (arith, sum, sum_added s₀.channel n s₀.bits_read, before.add-up, t.on);
      each_its_own = t.totals ∙ ap (plus_bits s₀.channel n) before.each_its_own
          ∙ plus-word s₀.channel n ws;
      few = near payload p₀ w.place a.few before.few t.ends;
    }

-- ---- every word

-- what is added to one of two totals that are at most the place
small-added : (c n p : ℕ) (b : BitsRead) → SmallBits b → b.left + b.right ≤ p
    → ((x : ℕ) → x ≤ p → x ≤ 4294967295 → x + n ≤ 4294967295) → SmallBits (plus_bits c n b)
small-added zero n p b m h f =
    record { small-left = f b.left (omega arith) m.small-left; small-right = m.small-right }
small-added (suc c) n p b m h f =
    record { small-left = m.small-left; small-right = f b.right (omega arith) m.small-right }

pub totals_stay_small : TotalsStaySmall
totals_stay_small payload p s m = go (one_word payload p s).refusal refl
  where
    go : (n : ℕ) → (one_word payload p s).refusal ≡ n → SmallBits (one_word payload p s).state.bits_read
    go zero e =
        let a = one-accepted payload p s e in
        let t = accepted-totals payload p s a in
        let n = (one_word payload p s).place - p in
        rw t.totals (small-added s.channel n p s.bits_read m a.within (λ x h k.
        rw (ap (λ (w : WordTold). w.place) a.told)
        (total_fits payload p a.next x s a.after a.sample a.report a.few a.is h k)))
    go (suc n) e =
        let k = refused_keeps payload p s (λ z. absurd (omega (arith, z, e))) in
        rw k.0 m

-- a refused word hands back what it got
pub refused-word_keeps : RefusedKeeps
refused-word_keeps = refused_keeps
