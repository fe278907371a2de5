-- The one-word entry by its refusals, and the word where none applies.
-- Assumes nothing.
use mathlib.Core.Path.{◌≡◌, refl, sym, ap, ◌∙◌}
use mathlib.Core.Bool.{Bool, true, false, cond, not, ◌&&◌, ◌||◌}
use mathlib.Core.List.{List}
use Prim.Native.Nat.{ℕ, ◌+◌, ◌-◌, ◌≤◌, ◌<◌}
use native.Mathlib.Omega.{arith}
use borrow.Author.Tests.{lt-ltb, le-ltb, ltb-false}
use lib.Dec.{ltb}
use lib.IntN.{ℤ, pos}
use lib.ListN.{length, get_or}
use Rattle.std.specs.Prelude.{Result, Ok, Err}
use Rattle.answers.specs.Limits.{max_payload_bytes}
use Rattle.answers.specs.declared.Refusal.{Refusal}
use Rattle.bits.specs.Bits.{bits_of}
use Rattle.entropy.specs.Medians.{medians_of}
use Rattle.word_state.specs.State.{State, with_bits, run_due, plus_bits, charged, exceeds}
use Rattle.word_state.specs.State.{paid, in_run, unbroken, after}
use Rattle.word_state.specs.View.{state_of}
use Rattle.word_state.specs.declared.StereoDecodeState.{StereoDecodeState}
use Rattle.word_state.proofs.BitsLaws.{charged-none, not_exceeded}
use Rattle.word_state.proofs.StateLaws.{no_set, there, picked}
use Rattle.words.specs.Word.{Word, given, refused, word}
use Rattle.words.specs.Parts.{coded_word, CodedIs}
use Rattle.one_word.specs.View.{WordTold, tell_word, charge, word_taken, one_word}
use Rattle.words.specs.declared.coded.Coded.{Coded}
use Rattle.zones.specs.Report.{Report, none}
use Rattle.readings.proofs.RefusalLaws.{word-refused}
use Rattle.readings.proofs.WordLaws.{word-paid, word-fresh}

-- a payload that is too large
pub one-large : (payload : List ℕ) (p : ℕ) (s : State) → max_payload_bytes < length payload
    → tell_word p s (refused 5) ≡ one_word payload p s
unfolding one_word
one-large payload p s h = rw (lt-ltb max_payload_bytes (length payload) h)

-- a channel that is none, or totals that together exceed the place
pub one_state : (payload : List ℕ) (p : ℕ) (s : State) → length payload ≤ max_payload_bytes
    → (ltb 1 s.channel || exceeds s.bits_read p) ≡ true
    → tell_word p s (refused 12) ≡ one_word payload p s
unfolding one_word
one_state payload p s h e = rw (le-ltb max_payload_bytes (length payload) h, e)

-- the word itself
pub one_word_lem : (payload : List ℕ) (p : ℕ) (s : State) (w : Word) → length payload ≤ max_payload_bytes
    → s.channel ≤ 1 → exceeds s.bits_read p ≡ false
    → w ≡ word (bits_of payload) p s → tell_word p s (charge p s w) ≡ one_word payload p s
unfolding one_word
one_word_lem payload p s w h l x e =
    rw (le-ltb max_payload_bytes (length payload) h, le-ltb 1 s.channel l, x)
    (ap (λ (w : Word). tell_word p s (charge p s w)) e)

-- where no zero is owed, the word is what was read
pub word_read : (payload : List ℕ) (p : ℕ) (st : StereoDecodeState) (run : Bool) (r : Result Coded Refusal)
    → st.next_channel ≤ 1 → st.zero_run_pending ≡ 0 → length st.medians ≡ 2
    → run ≡ (not st.run_break && run_due (medians_of (get_or st.medians 0 no_set)) (medians_of (get_or st.medians 1 no_set)) st.last_zero st.last_one)
    → CodedIs (bits_of payload) p run (medians_of (get_or st.medians st.next_channel no_set)) st.last_zero st.last_one r
    → coded_word (state_of st) r ≡ word (bits_of payload) p (state_of st)
word_read payload p st run r l n m e c =
    let ms = st.medians in
    let f = there ms 0 m (omega arith) in
    let g = there ms 1 m (omega arith) in
    let d = ap medians_of (there ms st.next_channel m (omega arith)) in
    c.is (state_of st) (sym (rw (f, g) at e)) (picked ms st.next_channel (omega arith) ∙ sym d) refl refl
    ∙ sym (word-fresh (bits_of payload) p (state_of st) n)

-- the steps of a word leave the totals alone, so they may be charged before them
pub charged-before : (p : ℕ) (s : State) (r : Result Coded Refusal)
    → coded_word (with_bits (plus_bits s.channel (word_taken p r) s.bits_read) s) r
    ≡ charge p s (coded_word s r)
unfolding charged in_run after unbroken
charged-before p s (Ok (Coded.Run d q)) = refl
charged-before p s (Ok (Coded.Sample v k q z o)) = refl
charged-before p s (Err refusal) = refl

-- a zero that was owed takes nothing
pub one-paid : (payload : List ℕ) (p : ℕ) (s : State) → length payload ≤ max_payload_bytes → s.channel ≤ 1
    → exceeds s.bits_read p ≡ false → 0 < s.debt
    → tell_word p s (given (pos 0) p (paid (s.debt - 1) s) none) ≡ one_word payload p s
one-paid payload p s h l x d =
    ap (λ (t : State). tell_word p s (given (pos 0) p t none)) (sym (charged-none _ p (paid (s.debt - 1) s)))
    ∙ one_word_lem payload p s _ h l x (sym (word-paid (bits_of payload) p s d))

-- a refused word hands back the state and the place that it got (Q8.5): neither total grows
pub refused_keeps : (payload : List ℕ) (p : ℕ) (s : State) → let w = one_word payload p s in
    (w.refusal ≡ 0 → ⊥) → (w.state ≡ s) × (w.place ≡ p)
unfolding one_word
refused_keeps payload p s n =
    go (ltb max_payload_bytes (length payload)) (ltb 1 s.channel || exceeds s.bits_read p)
    (word (bits_of payload) p s) n
  where
    go : (b c : Bool) (w : Word)
        → let t = tell_word p s (cond b (refused 5) (cond c (refused 12) (charge p s w))) in
        (t.refusal ≡ 0 → ⊥) → (t.state ≡ s) × (t.place ≡ p)
    go true c w n = (refl, refl)
    go false true w n = (refl, refl)
    go false false (given v q t z) n = absurd (n refl)
    go false false (refused c) n = (refl, refl)

-- an accepted word: nothing was to refuse, and the word at the place was given and charged
pub record Accepted (payload : List ℕ) (p : ℕ) (s : State) : Type 0 where
  pub few : length payload ≤ max_payload_bytes
  pub channel : s.channel ≤ 1
  pub within : s.bits_read.left + s.bits_read.right ≤ p
  pub sample : ℤ
  pub next : ℕ
  pub after : State
  pub report : Report
  pub is : word (bits_of payload) p s ≡ given sample next after report
  pub told : one_word payload p s ≡ tell_word p s (charge p s (given sample next after report))

pub one-accepted : (payload : List ℕ) (p : ℕ) (s : State) → (one_word payload p s).refusal ≡ 0
    → Accepted payload p s
unfolding one_word
one-accepted payload p s e =
    go (ltb max_payload_bytes (length payload)) (ltb 1 s.channel) (exceeds s.bits_read p)
    (word (bits_of payload) p s) refl refl refl refl e
  where
    told : Bool → Bool → Bool → Word → WordTold
    told a b c w = tell_word p s (cond a (refused 5) (cond (b || c) (refused 12) (charge p s w)))

    go : (a b c : Bool) (w : Word) → ltb max_payload_bytes (length payload) ≡ a → ltb 1 s.channel ≡ b
        → exceeds s.bits_read p ≡ c
        → word (bits_of payload) p s ≡ w → (told a b c w).refusal ≡ 0 → Accepted payload p s
    go true b c w i j k f e = absurd (omega arith)
    go false true c w i j k f e = absurd (omega arith)
    go false false true w i j k f e = absurd (omega arith)
    go false false false (given v q t z) i j k f e = record {
      few = omega (arith, ltb-false max_payload_bytes (length payload) i);
      channel = omega (arith, ltb-false 1 s.channel j);
      within = not_exceeded s.bits_read p k;
      sample = v;
      next = q;
      after = t;
      report = z;
      is = f;
      told = rw (i, j, k, f);
    }
    go false false false (refused n) i j k f e = absurd (word-refused (bits_of payload) p s n f e)
