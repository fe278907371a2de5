-- What a word makes of where a reading stands: its sample is written, and the locals hold the state after it.
-- Assumes nothing.
use mathlib.Core.Path.{◌≡◌, sym, ap, ◌∙◌}
use mathlib.Core.Bool.{Bool, true, false}
use mathlib.Core.List.{List, [], ◌∷◌, ◌++◌}
use Prim.Native.Nat.{ℕ, zero, suc, ◌+◌, ◌-◌, ◌%◌, ◌<◌}
use native.Mathlib.Numerals.{add-one}
use native.Mathlib.Omega.{arith}
use lib.IntN.{ℤ, pos}
use lib.ListN.{length, take, drop, get_or, set, length-set}
use lib.Seq.{take-suc-set, drop-set-lt, drop-drop}
use Rattle.bits.specs.Bits.{bits_of}
use Rattle.entropy.specs.declared.AdaptiveMedians.{AdaptiveMedians}
use Rattle.entropy.specs.Medians.{medians_of, zero_set}
use Rattle.medians.specs.Adaptation.{adapt}
use Rattle.word_state.specs.State.{State, side, paid}
use Rattle.word_state.proofs.StateLaws.{no_set}
use Rattle.words.specs.Word.{given, word}
use Rattle.words.specs.Parts.{coded_word}
use Rattle.std.specs.Prelude.{Result, Ok}
use Rattle.answers.specs.declared.Refusal.{Refusal}
use Rattle.words.specs.declared.coded.Coded.{Coded}
use Rattle.zones.specs.Report.{Report}
use Rattle.readings.specs.Reading.{reading}
use Rattle.readings.specs.Standing.{prepend, Held, Words}
use Rattle.readings.proofs.ReadingLaws.{reading-on}
use Rattle.readings.proofs.HeldLaws.{held-paid, held-run, held-sample}
use Rattle.readings.proofs.WordLaws.{word-paid}
use Rattle.readings.proofs.LocalLaws.{word_on}
use Rattle.readings.proofs.CostLaws.{left-on, either-stem}

-- a word that stays where it is takes nothing
nothing-taken : (c a p : ℕ) → a + side c (p - p) 0 ≡ a
nothing-taken zero a p = omega arith
nothing-taken (suc c) a p = omega arith

module _ (payload : List ℕ) (out₀ : List ℤ) (s₀ : State) (out : List ℤ) (ms : List AdaptiveMedians) (owed : ℕ) (b z o : Bool) (p a i : ℕ) (l : Words payload out₀ s₀ out ms owed b z o p a i) where
  -- an accepted word: its sample is written, and the locals hold the state after it
  step : (v : ℤ) (q : ℕ) (t : State) (x : Report) (ns : List AdaptiveMedians) (d : ℕ) (b' z' o' : Bool)
      → i < length out
      → word (bits_of payload) p l.state ≡ given v q t x → Held t ns d b' z' o' (i + 1)
      → Words payload out₀ s₀ (set out i v) ns d b' z' o' q (a + side (i % 2) (q - p) 0) (i + 1)
  step v q t x ns d b' z' o' h e g =
      let n = length out₀ - (i + 1) in
      let m : length out₀ - i ≡ suc n = omega (arith, l.same) in
      let c : l.state.channel ≡ i % 2 = l.held.channel-is in
      let on = word_on (bits_of payload) p q l.state t v x e in
      let k : take (i + 1) (set out i v) ≡ take i out ++ v ∷ [] = rw add-one (take-suc-set out i v h) in
      record {
        state = t;
        held = g;
        here = omega (arith, l.same);
        same = length-set out i v ∙ l.same;
        is =
            rw k (sym (reading-on (bits_of payload) n p q l.state t v x (take i out) e)
            ∙ ap (λ (x : ℕ). prepend (take i out) (reading (bits_of payload) x p l.state)) (sym m) ∙ l.is);
        others = drop-set-lt (i + 1) out i v (omega arith) ∙ sym (drop-drop 1 i out)
            ∙ ap (drop 1) l.others ∙ drop-drop 1 i out₀;
        left-bits = omega (arith, rw (m, left-on (bits_of payload) n p q l.state t v x e, c) at l.left-bits);
        part = omega (arith, l.part, either-stem (i % 2) (q - p));
      }

  -- a zero that is owed
  pub words-paid : 0 < owed → i < length out
      → Words payload out₀ s₀ (set out i (pos 0)) ms (owed - 1) b z o p a (i + 1)
  words-paid n h =
      let e = word-paid (bits_of payload) p l.state (omega (arith, l.held.debt-is)) in
      let d : l.state.debt - 1 ≡ owed - 1 = omega (arith, l.held.debt-is) in
      let w = step (pos 0) p (paid (owed - 1) l.state) _ ms (owed - 1) b z o h (rw d at e) (held-paid l.state ms owed b z o i l.held (owed - 1)) in
      rw (nothing-taken (i % 2) a p) at w

  -- the word where none is owed, as it was read
  module _ (r : Result Coded Refusal) (h : i < length out) (c : coded_word l.state r ≡ word (bits_of payload) p
      l.state) where
    pub words-run : (d q : ℕ) → r ≡ Ok (Coded.Run d q)
        → Words payload out₀ s₀ (set out i (pos 0)) (zero_set ∷ zero_set ∷ []) d true z o q (a + side (i % 2) (q - p) 0) (i + 1)
    words-run d q e =
        step (pos 0) q _ _ (zero_set ∷ zero_set ∷ []) d true z o h (sym c ∙ ap (coded_word l.state) e)
        (held-run l.state ms owed b z o i l.held d)

    pub words-sample : (v : ℤ) (k q : ℕ) (z' o' : Bool) (x : AdaptiveMedians) → r ≡ Ok (Coded.Sample v k q z' o')
        → medians_of x ≡ adapt (medians_of (get_or ms (i % 2) no_set)) k
        → Words payload out₀ s₀ (set out i v) (set ms (i % 2) x) owed false z' o' q (a + side (i % 2) (q - p) 0) (i + 1)
    words-sample v k q z' o' x e f =
        step v q _ _ (set ms (i % 2) x) owed false z' o' h (sym c ∙ ap (coded_word l.state) e)
        (held-sample l.state ms owed b z o i l.held k x z' o' f)
