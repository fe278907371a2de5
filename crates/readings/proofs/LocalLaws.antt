-- An accepted word, and an accepted reading, depend only on the bits up to the place after them:
-- bytes behind never matter.
-- Assumes nothing.
use mathlib.Core.Path.{◌≡◌, refl, sym, ap, ◌∙◌}
use mathlib.Core.Bool.{Bool, cond}
use mathlib.Core.List.{List, [], ◌++◌}
use Prim.Native.Nat.{ℕ, zero, suc, ◌+◌, ◌-◌, ◌/◌, ◌%◌, ◌≤◌}
use native.Mathlib.Omega.{arith}
use lib.IntN.{ℤ, pos}
use lib.ListN.{length, take}
use lib.Seq.{take-take, take-append-le}
use Rattle.std.specs.Prelude.{Option, Some, None, Result, Ok, Err}
use Rattle.answers.specs.declared.Refusal.{Refusal}
use Rattle.bits.specs.Bits.{val, bit_of, bits_of}
use Rattle.bits.specs.Fields.{get_bits}
use Rattle.bits.proofs.LaidLaws.{bits_append}
use Rattle.fields.specs.Code.{truncated_binary}
use Rattle.fields.specs.Counts.{run_length, prefix}
use Rattle.fields.proofs.Local.{Ended, at, never, field_end, prefix_end, Local, local-still, Split, part, stop, local_then, local-cond}
use Rattle.fields.proofs.LocalLaws.{bits-local, run-local, prefix-local, truncated_binary-local}
use Rattle.medians.specs.Interval.{low_of, high_of}
use Rattle.word_state.specs.State.{State, due, paid, in_run, unbroken, cleared, flagged, after, run_due, on_zeros}
use Rattle.words.specs.Word.{Word, given, refused, on_field, on_prefix, signed, value, plain, fresh, word}
use Rattle.zones.specs.Report.{Report, none, zone_of}
use Rattle.readings.specs.Reading.{Reading, on_word, more, reading}
use Rattle.readings.proofs.RefusalLaws.{word-refused}

-- the place after a word
abbrev word_end : Word → Ended
word_end (given v q t z) = at q
word_end (refused c) = never

-- a field before the rest of a word
field-word : (x : Option (ℕ × ℕ)) → Split field_end word_end on_field x
field-word (Some (v, q)) = part v q refl (λ k. refl)
field-word None = stop (λ k. refl)

-- a prefix before the rest of a word
prefix-word : (x : Result (ℕ × ℕ) Refusal) → Split prefix_end word_end on_prefix x
prefix-word (Ok (v, q)) = part v q refl (λ k. refl)
prefix-word (Err refusal) = stop (λ k. refl)

-- a sample that is known at its place
given-here : (p : ℕ) (v : ℤ) (t : State) (z : Report) → Local word_end p (λ a. given v p t z)
given-here p v t z = local-still word_end p (given v p t z) (λ q e. let y : p ≡ q = cc in sym y)

-- a zero, or the rest
local-zeros : (n p : ℕ) (f : ℕ → Word) (g : List Bool → Word) → ((d : ℕ) → Local word_end p (λ a. f d)) → Local word_end p g → Local word_end p (λ a. on_zeros n f (g a))
local-zeros zero p f g x y = y
local-zeros (suc d) p f g x y = x d

-- ---- the four steps

-- step 4
value_local_lem : (p k : ℕ) (s : State) → Local word_end p (λ a. value a p k s)
unfolding value
value_local_lem p k s =
    local_then field_end word_end on_field field-word p (λ a. truncated_binary a p M) (λ a c q. on_field (get_bits a q 1) (sample c)) (truncated_binary-local p M)
    (λ c q. local_then field_end word_end on_field field-word q (λ a. get_bits a q 1) (λ a. sample c) (bits-local q 1) (λ t n. given-here n (signed t (low_of (due s) k + c)) (after k s) (zone_of k)))
  where
    M : ℕ
    M = high_of (due s) k - low_of (due s) k

    sample : ℕ → ℕ → ℕ → Word
    sample c t n = given (signed t (low_of (due s) k + c)) n (after k s) (zone_of k)

-- step 3
plain_local : (p : ℕ) (s : State) → Local word_end p (λ a. plain a p s)
unfolding plain
plain_local p s =
    local-cond word_end s.last_zero p (λ a. value a p 0 (cleared s)) (λ a. on_prefix (prefix a p) (next a)) (value_local_lem p 0 (cleared s))
    (local_then prefix_end word_end on_prefix prefix-word p (λ a. prefix a p) next (prefix-local p) (λ r q. value_local_lem q (r / 2 + val s.last_one) (flagged (bit_of (r % 2)) s)))
  where
    next : List Bool → ℕ → ℕ → Word
    next a r q = value a q (r / 2 + val s.last_one) (flagged (bit_of (r % 2)) s)

-- step 2
fresh-local : (p : ℕ) (s : State) → Local word_end p (λ a. fresh a p s)
unfolding fresh
fresh-local p s =
    local-cond word_end s.run_break p (λ a. plain a p (unbroken s)) (λ a. cond (run_due s.left s.right s.last_zero s.last_one) (on_field (run_length a p) (next a)) (plain a p s)) (plain_local p (unbroken s))
    (local-cond word_end (run_due s.left s.right s.last_zero s.last_one) p (λ a. on_field (run_length a p) (next a)) (λ a. plain a p s)
    (local_then field_end word_end on_field field-word p (λ a. run_length a p) next (run-local p)
    (λ n q. local-zeros n q (λ d. given (pos 0) q (in_run d s) none) (λ a. plain a q s) (λ d. given-here q (pos 0) (in_run d s) none) (plain_local q s)))
    (plain_local p s))
  where
    next : List Bool → ℕ → ℕ → Word
    next a n q = on_zeros n (λ d. given (pos 0) q (in_run d s) none) (plain a q s)

-- step 1
word-local : (p : ℕ) (s : State) → Local word_end p (λ a. word a p s)
unfolding word
word-local p s = local-zeros s.debt p (λ d. given (pos 0) p (paid d s) none) (λ a. fresh a p s) (λ d. given-here p (pos 0) (paid d s) none) (fresh-local p s)

-- ---- the laws

-- an accepted word: any payload with the same bits up to its place after gives the same sample,
-- place, state and report
pub word-upto : (a b : List Bool) (p q : ℕ) (s t : State) (v : ℤ) (z : Report) → word a p s ≡ given v q t z → take q a ≡ take q b → word b p s ≡ given v q t z
word-upto a b p q s t v z e h = (word-local p s).same a b q (ap word_end e) h ∙ e

-- and its place after is at or behind its place, within the payload
pub word_on : (a : List Bool) (p q : ℕ) (s t : State) (v : ℤ) (z : Report) → word a p s ≡ given v q t z → p ≤ q
word_on a p q s t v z e = (word-local p s).on a q (ap word_end e)

-- and within the payload
pub word-inside : (a : List Bool) (p q : ℕ) (s t : State) (v : ℤ) (z : Report) → word a p s ≡ given v q t z → p ≤ length a → q ≤ length a
word-inside a p q s t v z e h = (word-local p s).inside a q (ap word_end e) h

-- the place after a reading is at or behind its place, within the payload
pub reading-on : (a : List Bool) (n p : ℕ) (s : State) → p ≤ (reading a n p s).place
unfolding reading
reading-on a zero p s = omega arith
reading-on a (suc n) p s = go (word a p s) refl (reading-on a n)
  where
    go : (w : Word) → word a p s ≡ w → ((q : ℕ) (t : State) → q ≤ (reading a n q t).place)
        → p ≤ (on_word w (λ v q t. more v (reading a n q t)) (λ c. record { refusal = c; samples = []; place = p; state = s })).place
    go (given v q t z) e ih = omega (arith, word_on a p q s t v z e, ih q t)
    go (refused c) e ih = omega arith

-- and within the payload
pub reading-inside : (a : List Bool) (n p : ℕ) (s : State) → p ≤ length a → (reading a n p s).place ≤ length a
unfolding reading
reading-inside a zero p s h = h
reading-inside a (suc n) p s h = go (word a p s) refl (reading-inside a n)
  where
    go : (w : Word) → word a p s ≡ w → ((q : ℕ) (t : State) → q ≤ length a → (reading a n q t).place ≤ length a)
        → (on_word w (λ v q t. more v (reading a n q t)) (λ c. record { refusal = c; samples = []; place = p; state = s })).place ≤ length a
    go (given v q t z) e ih = ih q t (word-inside a p q s t v z e h)
    go (refused c) e ih = h

-- an accepted reading: any payload with the same bits up to its place after gives the same
pub reading-upto : (a b : List Bool) (n p : ℕ) (s : State) → (reading a n p s).refusal ≡ 0 → take (reading a n p s).place a ≡ take (reading a n p s).place b
    → reading b n p s ≡ reading a n p s
unfolding reading
reading-upto a b zero p s e h = refl
reading-upto a b (suc n) p s e h = go (word a p s) refl (reading-upto a b n) e h
  where
    step : Word → Reading
    step w = on_word w (λ v q t. more v (reading a n q t)) (λ c. record { refusal = c; samples = []; place = p; state = s })

    go : (w : Word) → word a p s ≡ w
        → ((q : ℕ) (t : State) → (reading a n q t).refusal ≡ 0 → take (reading a n q t).place a ≡ take (reading a n q t).place b → reading b n q t ≡ reading a n q t)
        → (step w).refusal ≡ 0 → take (step w).place a ≡ take (step w).place b → reading b (suc n) p s ≡ step w
    go (given v q t z) f ih e h =
        let le = reading-on a n q t in
        let m = (reading a n q t).place in
        let u : take q a ≡ take q b = sym (take-take q m a le) ∙ ap (take q) h ∙ take-take q m b le in
        rw (word-upto a b p q s t v z f u) (ap (more v) (ih q t e h))
    go (refused c) f ih e h = absurd (word-refused a p s c f e)

-- bytes behind an accepted reading never matter
pub reading-behind : (payload behind : List ℕ) (n : ℕ) (s : State) → (reading (bits_of payload) n 0 s).refusal ≡ 0
    → reading (bits_of (payload ++ behind)) n 0 s ≡ reading (bits_of payload) n 0 s
reading-behind payload behind n s e =
    let a = bits_of payload in
    let m = (reading a n 0 s).place in
    reading-upto a (bits_of (payload ++ behind)) n 0 s e
    (sym (take-append-le m a (bits_of behind) (reading-inside a n 0 s (omega arith))) ∙ ap (take m) (sym (bits_append payload behind)))
