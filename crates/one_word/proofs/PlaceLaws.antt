-- The place after a word: within the payload the word ends within it, and at its end or behind it a
-- word is refused, or is a zero that stays where it is. So a place of 32 bits stays one, and so does a
-- total that is at most the place.
-- Assumes nothing.
use mathlib.Core.Path.{◌≡◌, refl, sym, ap, ◌∙◌}
use mathlib.Core.Bool.{Bool, true, false, cond, ◌||◌}
use mathlib.Core.List.{List}
use Prim.Native.Nat.{ℕ, zero, suc, ◌+◌, ◌-◌, ◌≤◌, ◌<◌}
use native.Mathlib.Omega.{arith}
use borrow.Author.Tests.{ltb-false, leb-true, leb-false}
use lib.Dec.{ltb, leb}
use lib.IntN.{ℤ}
use lib.ListN.{length, get_or, drop_of_length-le}
use Rattle.std.specs.Prelude.{Option, Some, None, Ok, Err}
use Rattle.answers.specs.Limits.{max_payload_bytes}
use Rattle.answers.specs.declared.Refusal.{Refusal}
use Rattle.bits.specs.Bits.{ones, bits_of}
use Rattle.bits.specs.Fields.{get_bits, unary}
use Rattle.bits.proofs.BitLaws.{length-bits}
use Rattle.fields.specs.Counts.{run_length, prefix}
use Rattle.fields.specs.Code.{truncated_binary}
use Rattle.fields.proofs.Local.{field_end}
use Rattle.fields.proofs.LocalLaws.{truncated_binary-local}
use Rattle.medians.specs.Interval.{low_of, high_of}
use Rattle.word_state.specs.State.{SmallBits, State, side, due, cleared, unbroken, after, run_due, exceeds}
use Rattle.word_state.specs.View.{state_of}
use Rattle.word_state.specs.declared.StereoDecodeState.{StereoDecodeState}
use Rattle.word_state.proofs.BitsLaws.{total_of, not_exceeded}
use Rattle.words.specs.Word.{Word, given, refused, on_field, signed, value, plain, fresh, word}
use Rattle.words.specs.Parts.{coded_word}
use Rattle.words.specs.declared.coded.Coded.{Coded}
use Rattle.zones.specs.Report.{Report, zone_of}
use Rattle.one_word.specs.View.{WordTold, view_word, tell_word, charge, bits_taken, EndsAfter, one_word}
use Rattle.one_word.specs.declared.WordAnswer.{WordAnswer}
use Rattle.readings.proofs.WordLaws.{word-paid, word-fresh}
use Rattle.readings.proofs.LocalLaws.{word_on, word-inside}

-- the place of a given word; a refused one has none
abbrev place_of : Word → ℕ
place_of (given v q t z) = q
place_of (refused c) = 0

abbrev is_given : Word → ℕ
is_given (given v q t z) = 1
is_given (refused c) = 0

-- where an accepted word ends: within the payload, or where it was
pub data Ends (a : List Bool) (p q : ℕ) : Type 0 where
  inside : q ≤ length a → Ends a p q
  still : q ≡ p → Ends a p q

-- ---- at the end of the payload and behind it

module _ (a : List Bool) where
  unary-past : (p : ℕ) → length a ≤ p → unary a p ≡ None
  unfolding unary ones
  unary-past p h = rw (drop_of_length-le a h)

  bit_past : (p : ℕ) → length a ≤ p → get_bits a p 1 ≡ None
  unfolding get_bits
  bit_past p h = rw (drop_of_length-le a h)

  run_past : (p : ℕ) → length a ≤ p → run_length a p ≡ None
  unfolding run_length
  run_past p h = rw (unary-past p h)

  prefix-past : (p : ℕ) → length a ≤ p → prefix a p ≡ Err Refusal.Truncated
  unfolding prefix
  prefix-past p h = rw (unary-past p h)

  -- a sample needs its sign
  value-past : (p k : ℕ) (s : State) → length a ≤ p → value a p k s ≡ refused 3
  unfolding value
  value-past p k s h = go (truncated_binary a p (high_of (due s) k - low_of (due s) k)) refl
    where
      go : (f : Option (ℕ × ℕ)) → truncated_binary a p (high_of (due s) k - low_of (due s) k) ≡ f
          → on_field f (λ c q. on_field (get_bits a q 1) λ t n. given (signed t (low_of (due s) k + c)) n (after k s) (zone_of k)) ≡ refused 3
      go (Some (c, q)) e = rw (bit_past q (omega (arith, h, (truncated_binary-local p (high_of (due s) k - low_of (due s) k)).on a q (ap field_end e))))
      go None e = refl

  plain-past : (p : ℕ) (s : State) → length a ≤ p → plain a p s ≡ refused 3
  unfolding plain
  plain-past p s h = rw (value-past p 0 (cleared s) h, prefix-past p h) (either s.last_zero)
    where
      either : (b : Bool) → cond b (refused 3) (refused 3) ≡ refused 3
      either true = refl
      either false = refl

  fresh-past : (p : ℕ) (s : State) → length a ≤ p → fresh a p s ≡ refused 3
  unfolding fresh
  fresh-past p s h =
      rw (plain-past p (unbroken s) h, plain-past p s h, run_past p h) (either s.run_break (run_due s.left s.right s.last_zero s.last_one))
    where
      either : (b c : Bool) → cond b (refused 3) (cond c (refused 3) (refused 3)) ≡ refused 3
      either true c = refl
      either false true = refl
      either false false = refl

  -- an accepted word ends within the payload, or stays where it is
  pub word-ends : (p q : ℕ) (s t : State) (v : ℤ) (z : Report) → word a p s ≡ given v q t z → Ends a p q
  word-ends p q s t v z e = go (leb p (length a)) refl s.debt refl
    where
      go : (b : Bool) → leb p (length a) ≡ b → (d : ℕ) → s.debt ≡ d → Ends a p q
      go true i d j = inside (word-inside a p q s t v z e (leb-true p (length a) i))
      go false i zero j = absurd (omega (arith, ap is_given (sym (fresh-past p s (omega (arith, leb-false p (length a) i))) ∙ sym (word-fresh a p s j) ∙ e)))
      go false i (suc d) j = still (ap place_of (sym e ∙ word-paid a p s (omega arith)))

-- ---- the two entries

-- a payload within its limit has at most 33,554,432 bits
pub few_bits : (payload : List ℕ) → length payload ≤ max_payload_bytes → length (bits_of payload) ≤ 33554432
few_bits payload h = omega (arith, length-bits payload)

-- a place of 32 bits stays one
ends-near : (a : List Bool) (p q : ℕ) → length a ≤ 33554432 → p ≤ 4294967295 → Ends a p q → q ≤ 4294967295
ends-near a p q l h (inside e) = omega arith
ends-near a p q l h (still e) = omega arith

-- and so does a total x that is at most the place (Q8.3): what is added ends within the payload, or is 0
pub total_fits : (payload : List ℕ) (p q x : ℕ) (s t : State) (v : ℤ) (z : Report)
    → length payload ≤ max_payload_bytes
    → word (bits_of payload) p s ≡ given v q t z → x ≤ p → x ≤ 4294967295 → x + (q - p) ≤ 4294967295
total_fits payload p q x s t v z h e l m = go (word-ends (bits_of payload) p q s t v z e)
  where
    go : Ends (bits_of payload) p q → x + (q - p) ≤ 4294967295
    go (inside i) = omega (arith, few_bits payload h)
    go (still i) = omega arith

-- ---- a word as the code read it

module _ (payload : List ℕ) (p : ℕ) (st : StereoDecodeState) where
  -- the word ends at its place or after it
  pub coded-on : (r : Coded) → coded_word (state_of st) (Ok r) ≡ word (bits_of payload) p (state_of st) → EndsAfter p r
  coded-on (Coded.Run d q) e = word_on (bits_of payload) p q (state_of st) _ _ _ (sym e)
  coded-on (Coded.Sample v k q z o) e = word_on (bits_of payload) p q (state_of st) _ _ _ (sym e)

  -- the total of the channel due, as the code's array holds it, and what the word took
  pub coded-fits : (r : Coded) → coded_word (state_of st) (Ok r) ≡ word (bits_of payload) p (state_of st)
      → length payload ≤ max_payload_bytes → exceeds (state_of st).bits_read p ≡ false
      → SmallBits (state_of st).bits_read
      → st.next_channel < 2 → get_or st.bits_read st.next_channel 0 + bits_taken p r < 4294967296
  coded-fits r e h x m c = go r e
    where
      due : ℕ
      due = get_or st.bits_read st.next_channel 0

      at_most : (c x y n : ℕ) → x ≤ n → y ≤ n → side c x y ≤ n
      at_most zero x y n i j = i
      at_most (suc c) x y n i j = j

      -- it is at most the place, and has 32 bits
      low : (n : ℕ) → (state_of st).bits_read.left ≤ n → (state_of st).bits_read.right ≤ n → due ≤ n
      low n i j =
          rw (total_of st.bits_read st.next_channel c) (at_most st.next_channel _ _ n i j)

      some : (q : ℕ) (t : State) (v : ℤ) (z : Report) → word (bits_of payload) p (state_of st) ≡ given v q t z
          → due + (q - p) < 4294967296
      some q t v z e =
          let b = not_exceeded (state_of st).bits_read p x in
          let f = total_fits payload p q due (state_of st) t v z h e (low p (omega arith) (omega arith))
          (low 4294967295 m.small-left m.small-right) in
          omega arith

      go : (r : Coded) → coded_word (state_of st) (Ok r) ≡ word (bits_of payload) p (state_of st)
          → due + bits_taken p r < 4294967296
      go (Coded.Run d q) e = some q _ _ _ (sym e)
      go (Coded.Sample v k q z o) e = some q _ _ _ (sym e)

-- the place after a word that was given a place of 32 bits
word_fits : (payload : List ℕ) (p : ℕ) (s : State) → p ≤ 4294967295 → (one_word payload p s).place ≤ 4294967295
unfolding one_word
word_fits payload p s h =
    go (ltb max_payload_bytes (length payload)) (ltb 1 s.channel || exceeds s.bits_read p)
    (word (bits_of payload) p s) refl refl
  where
    go : (b c : Bool) (w : Word) → ltb max_payload_bytes (length payload) ≡ b → word (bits_of payload) p s ≡ w
        → (tell_word p s (cond b (refused 5) (cond c (refused 12) (charge p s w)))).place ≤ 4294967295
    go true c w e f = h
    go false true w e f = h
    go false false (given v q t z) e f =
        let few = few_bits payload (omega (arith, ltb-false max_payload_bytes (length payload) e)) in
        ends-near (bits_of payload) p q few h (word-ends (bits_of payload) p q s t v z f)
    go false false (refused n) e f = h

-- the place that was told fits its slot
pub place-fits : (payload : List ℕ) (p : ℕ) (s : State) (x : WordAnswer) → view_word x ≡ one_word payload p s
    → p ≤ 4294967295 → x.place ≤ 4294967295
place-fits payload p s x t h = rw (ap (λ (w : WordTold). w.place) t) (word_fits payload p s h)
