-- The reading loop: its invariant, and what a turn and each way out make of it.
-- Assumes nothing.
use mathlib.Core.Path.{◌≡◌, refl, sym, ap, ap₂, subst, ◌∙◌}
use mathlib.Core.Bool.{Bool, true}
use mathlib.Core.List.{List, [], ◌∷◌, ◌++◌}
use Prim.Native.Nat.{ℕ, zero, suc, ◌+◌, ◌-◌, ◌%◌, ◌≤◌, ◌<◌}
use native.Mathlib.Omega.{arith}
use lib.IntN.{ℤ, pos}
use lib.ListN.{length, take, drop, get_or, set, length-set, take-append-drop}
use lib.Seq.{length-take-le}
use Rattle.bits.specs.Bits.{bits_of}
use Rattle.entropy.specs.declared.AdaptiveMedians.{AdaptiveMedians}
use Rattle.entropy.specs.Medians.{Medians, medians_of, pair_of, zero_set}
use Rattle.medians.specs.Adaptation.{adapt}
use Rattle.overlay.specs.Overlay.{overlay}
use Rattle.overlay.proofs.OverlayLaws.{overlay_first, overlay_none}
use Rattle.word_state.specs.State.{BitsRead, State}
use Rattle.word_state.proofs.StateLaws.{no_set, there}
use Rattle.words.specs.Word.{given, refused, word}
use Rattle.words.specs.Parts.{coded_word}
use Rattle.std.specs.Prelude.{Result, Ok, Err}
use Rattle.answers.specs.declared.Refusal.{Refusal}
use Rattle.answers.specs.Numbers.{number_of}
use Rattle.words.specs.declared.coded.Coded.{Coded}
use Rattle.zones.specs.Report.{Report}
use Rattle.readings.specs.Reading.{Reading, reading}
use Rattle.readings.specs.Costs.{by_stem, left_cost, costs}
use Rattle.readings.specs.Standing.{prepend, Words}
use Rattle.readings.proofs.ReadingLaws.{reading-stop, reading-end}
use Rattle.readings.proofs.CostLaws.{costs-none, costs-stop, both-stems}
use Rattle.readings.proofs.LocalLaws.{word_on}
use Rattle.readings.proofs.StandingLaws.{words-paid, words-run, words-sample}
use Rattle.reading_turns.specs.Zeros.{zeroed}
use Rattle.reading_turns.specs.Turns.{WordAt, AfterRun, AfterSample}
use Rattle.reading_turns.specs.declared.turn.Turn.{Turn}
use Rattle.reading_turns.proofs.ZeroLaws.{zeroed-length, zeroed-next, zeroed_first}
use Rattle.samples.specs.View.{ReadTold, tell_reading}

module _ (payload : List ℕ) (out₀ : List ℤ) (s₀ : State) (out : List ℤ) (ms : List AdaptiveMedians) (owed : ℕ)
    (b z o : Bool) (p a i : ℕ) (l : Words payload out₀ s₀ out ms owed b z o p a i) where
  -- the answer there, with the refusal c: the bits that are not left's are right's
  abbrev told_here : ℕ → ReadTold
  told_here c = record {
    refusal = c;
    bits = p;
    medians = pair_of ms;
    written = i;
    bits_read = record { left = a; right = p - a };
    list = out;
  }

  -- and of the whole reading
  abbrev whole : ReadTold
  whole =
      tell_reading out₀ (costs (bits_of payload) (length out₀) 0 s₀)
      (reading (bits_of payload) (length out₀) 0 s₀)

  -- the bits of both stems, where the words that are left cost nothing
  stems : (n : ℕ) → length out₀ - i ≡ n → costs (bits_of payload) n p l.state ≡ []
      → (reading (bits_of payload) (length out₀) 0 s₀).place ≡ p
      → record { left = a; right = p - a } ≡ by_stem (costs (bits_of payload) (length out₀) 0 s₀)
  unfolding left_cost
  stems n m e f =
      let g = rw (m, e) at l.left-bits in
      let both = both-stems (bits_of payload) (length out₀) 0 s₀ in
      ap₂ (λ (x y : ℕ). record { left = x; right = y }) (omega (arith, g)) (omega (arith, g, both, f))

  -- what the answer tells where the words so far are the whole reading
  told : (c : ℕ) → i ≤ length out
      → record { refusal = c; samples = take i out; place = p; state = l.state } ≡ reading (bits_of payload) (length out₀) 0 s₀
      → (n : ℕ) → length out₀ - i ≡ n → costs (bits_of payload) n p l.state ≡ [] → told_here c ≡ whole
  told c h e rest m none =
      let n : length (take i out) ≡ i = length-take-le i out h in
      let f : out ≡ overlay out₀ 0 (take i out) =
      sym (take-append-drop i out) ∙ ap (λ (x : List ℤ). take i out ++ x) l.others
      ∙ ap (λ (x : ℕ). take i out ++ drop x out₀) (sym n)
      ∙ sym (overlay_first out₀ (take i out)) in
      let b = stems rest m none (sym (ap (λ (r : Reading). r.place) e)) in
      ap₂ (λ (x : ℕ) (y : List ℤ). record { refusal = c; bits = p; medians = pair_of ms; written = x; bits_read = record { left = a; right = p - a }; list = y }) (sym n) f
      ∙ ap₂ (λ (x y : Medians). record { refusal = c; bits = p; medians = record { left = x; right = y }; written = length (take i out); bits_read = record { left = a; right = p - a }; list = overlay out₀ 0 (take i out) })
      (sym l.held.left_is) (sym l.held.right_is)
      ∙ ap (λ (x : BitsRead). record { refusal = c; bits = p; medians = record { left = l.state.left; right = l.state.right }; written = length (take i out); bits_read = x; list = overlay out₀ 0 (take i out) }) b
      ∙ ap (tell_reading out₀ (costs (bits_of payload) (length out₀) 0 s₀)) e

  -- the end of the list
  words-end : length out ≤ i → told_here 0 ≡ whole
  words-end h =
      let m : length out₀ - i ≡ 0 = omega (arith, l.same) in
      told 0 (omega (arith, l.here, l.same)) (sym (reading-end (bits_of payload) p l.state (take i out))
      ∙ ap (λ (x : ℕ). prepend (take i out) (reading (bits_of payload) x p l.state)) (sym m) ∙ l.is)
      0 m (costs-none (bits_of payload) p l.state)

  -- a refused word
  words-stop : (w : ℕ) → i < length out → word (bits_of payload) p l.state ≡ refused w → told_here w ≡ whole
  words-stop w h e =
      let n = length out₀ - (i + 1) in
      let m : length out₀ - i ≡ suc n = omega (arith, l.same) in
      told w (omega arith) (sym (reading-stop (bits_of payload) n p w l.state (take i out) e)
      ∙ ap (λ (x : ℕ). prepend (take i out) (reading (bits_of payload) x p l.state)) (sym m) ∙ l.is)
      (suc n) m (costs-stop (bits_of payload) n p w l.state e)

-- list and numbers may be written otherwise
words_as : (payload : List ℕ) (out₀ : List ℤ) (s₀ : State) (out new : List ℤ) (ms : List AdaptiveMedians) (owed d : ℕ) (b z o : Bool) (p a i j : ℕ)
    → out ≡ new → owed ≡ d → i ≡ j → Words payload out₀ s₀ out ms owed b z o p a i
    → Words payload out₀ s₀ new ms d b z o p a j
words_as payload out₀ s₀ out new ms owed d b z o p a i j g e f l = rw (g, e, f) at l

-- n of the zeros that are owed
words-zeros : (payload : List ℕ) (out₀ : List ℤ) (s₀ : State) (out : List ℤ) (ms : List AdaptiveMedians) (owed : ℕ) (b z o : Bool) (p a i n : ℕ)
    → Words payload out₀ s₀ out ms owed b z o p a i
    → n ≤ owed → i + n ≤ length out → Words payload out₀ s₀ (zeroed out i n) ms (owed - n) b z o p a (i + n)
words-zeros payload out₀ s₀ out ms owed b z o p a i zero l h k =
    words_as payload out₀ s₀ out (zeroed out i 0) ms owed (owed - 0) b z o p a i (i + 0) (sym (overlay_none out i)) (omega arith) (omega arith) l
words-zeros payload out₀ s₀ out ms owed b z o p a i (suc n) l h k =
    let w = words-zeros payload out₀ s₀ out ms owed b z o p a i n l (omega arith) (omega arith) in
    let x = words-paid payload out₀ s₀ (zeroed out i n) ms (owed - n) b z o p a (i + n) w (omega arith) (omega (arith, zeroed-length out i n (omega arith))) in
    words_as payload out₀ s₀ (set (zeroed out i n) (i + n) (pos 0)) (zeroed out i (suc n)) ms (owed - n - 1) (owed - suc n) b z o p a (i + n + 1) (i + suc n)
    (zeroed-next out i n (omega arith)) (omega arith) (omega arith) x

-- two sets are the first and the second
two-sets : (ms : List AdaptiveMedians) → length ms ≡ 2 → ms ≡ get_or ms 0 zero_set ∷ get_or ms 1 zero_set ∷ []
two-sets [] e = absurd (omega arith)
two-sets (a ∷ []) e = absurd (omega arith)
two-sets (a ∷ b ∷ []) e = refl
two-sets (a ∷ b ∷ c ∷ ms) e = absurd (omega arith)

-- ---- the loop

-- between two turns zeros are owed only where the list ends
pub record Loop (payload : List ℕ) (out₀ : List ℤ) (s₀ : State) (out : List ℤ) (t : Turn) : Type 0 where
  pub owed : ℕ
  pub words : Words payload out₀ s₀ out t.medians owed t.run_break t.last_zero t.last_one
      t.bits t.left_bits t.written
  pub settled : t.written < length out → owed ≡ 0

-- the answer of a loop that ends there, with the refusal c
abbrev pub ended : ℕ → Turn → List ℤ → ReadTold
ended c t out = record {
  refusal = c;
  bits = t.bits;
  medians = pair_of t.medians;
  written = t.written;
  bits_read = record { left = t.left_bits; right = t.bits - t.left_bits };
  list = out;
}

module _ (payload : List ℕ) (out₀ : List ℤ) (s₀ : State) (out : List ℤ) (t : Turn)
    (l : Loop payload out₀ s₀ out t) where
  -- what the whole reading tells
  abbrev read_all : ReadTold
  read_all =
      tell_reading out₀ (costs (bits_of payload) (length out₀) 0 s₀)
      (reading (bits_of payload) (length out₀) 0 s₀)

  -- the end of the list
  pub loop_end : length out ≤ t.written
      → ended 0 t out ≡ read_all
  loop_end h = words-end payload out₀ s₀ out _ l.owed _ _ _ _ _ _ l.words h

  module _ (r : Result Coded Refusal) (h : t.written < length out)
      (c : WordAt payload t.bits t.written t.medians t.run_break t.last_zero t.last_one r) where
    -- the word of the state that the turn holds
    read : coded_word l.words.state r ≡ word (bits_of payload) t.bits l.words.state
    read = c.is l.words.state (rw (l.settled h) at l.words.held)

    -- it ends at its place or after it
    pub loop_on : (v : ℤ) (q : ℕ) (u : State) (z : Report) → coded_word l.words.state r ≡ given v q u z
        → t.bits ≤ q
    loop_on v q u z e = word_on (bits_of payload) t.bits q l.words.state u v z (sym read ∙ e)

    -- the zeros of a run, as far as the list goes
    pub loop_run : (d q : ℕ) (after : List ℤ) (x : Turn) → r ≡ Ok (Coded.Run d q) → AfterRun out after t d q x
        → Loop payload out₀ s₀ after x
    loop_run d q after x e a =
        let i = t.written in
        let j = x.written in
        let zs = a.zeros in
        let n = j - (i + 1) in
        let w = words-run payload out₀ s₀ out _ l.owed _ _ _ _ _ i l.words r h read d q e in
        let k : j - i ≡ suc n = omega (arith, zs.some) in
        let m : i + 1 + n ≡ j = omega (arith, zs.some) in
        let y : zeroed (set out i (pos 0)) (i + 1) n ≡ after = zeroed_first out i n h
        ∙ ap (zeroed out i) (sym k) ∙ sym zs.list-is in
        let u = words-zeros payload out₀ s₀ (set out i (pos 0)) (zero_set ∷ zero_set ∷ []) d true _ _ q _
        (i + 1) n w (omega (arith, zs.most))
        (omega (arith, zs.some, zs.within, length-set out i (pos 0))) in
        let g : length after ≡ length out =
        ap length zs.list-is ∙ zeroed-length out i (j - i) (omega (arith, zs.some, zs.within)) in
        subst (λ (y : Turn). Loop payload out₀ s₀ after y) (sym a.turn_is) (record {
          owed = d - n;
          words = rw (y, m) at u;
          settled = λ f. omega (arith, zs.all (rw g at f));
        })

    -- a sample, and the short words after it
    pub loop_sample : (v : ℤ) (k q : ℕ) (z' o' : Bool) (after : List ℤ) (x : Turn)
        → r ≡ Ok (Coded.Sample v k q z' o')
        → AfterSample payload out after t v k q z' o' x → Loop payload out₀ s₀ after x
    loop_sample v k q z' o' after x e a =
        let i = t.written in
        let ms = t.medians in
        let due : medians_of a.due ≡ adapt (medians_of (get_or ms (i % 2) no_set)) k =
        rw (there ms (i % 2) l.words.held.pair (omega arith)) a.adapted in
        let w = words-sample payload out₀ s₀ out ms l.owed _ _ _ _ _ i l.words r h read
        v k q z' o' a.due e due in
        subst (λ (y : Turn). Loop payload out₀ s₀ after y) (sym a.turn_is) (record {
          owed = 0;
          words = a.onward.goes out₀ s₀
              (rw (two-sets (set ms (i % 2) a.due) w.held.pair, l.settled h) at w);
          settled = λ f. refl;
        })

    -- a refused word
    pub loop_stop : (x : Refusal) → r ≡ Err x → ended (number_of x) t out ≡ read_all
    loop_stop x e =
        words-stop payload out₀ s₀ out _ l.owed _ _ _ _ _ _ l.words (number_of x) h (sym read ∙ ap (coded_word l.words.state) e)
