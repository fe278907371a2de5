-- Laws of the definitions of an entropy payload, by its length.
-- Assumes nothing.
use mathlib.Core.Path.{◌≡◌, refl, sym, ap, ◌∙◌}
use Prim.Native.Nat.{ℕ, zero, suc, ◌-◌, ◌<◌}
use native.Mathlib.Omega.{arith}
use mathlib.Core.Bool.{Bool, true, false, cond, ◌||◌}
use mathlib.Core.List.{List, [], ◌∷◌}
use lib.IntN.{ℤ}
use lib.ListN.{length, take, drop, length-drop}
use lib.Seq.{take_all}
use mir.Syntax.{w32}
use mir.ValLaws.{to_z-of_z}
use borrow.Author.Tests.{ne_eqb, eqb-true, eqb-false}
use Rattle.std.specs.Prelude.{Ok}
use Rattle.answers.specs.Guard.{or_else, unless_refused}
use Rattle.answers.specs.Numbers.{outcome_number}
use Rattle.answers.proofs.GuardLaws.{guard_refused, guard_accepted}
use Rattle.answers.proofs.TestLaws.{neither}
use Rattle.logpack.specs.Reach.{out_of_reach, log_word_refusal, log_word_told}
use Rattle.logpack.proofs.Negation.{again}
use Rattle.logpack.proofs.ReachLaws.{told-value, told-fits}
use Rattle.entropy.specs.declared.EntropyInfo.{EntropyInfo}
use Rattle.entropy.specs.declared.SetAnswer.{SetAnswer}
use Rattle.entropy.specs.Entropy.{word_at, word_set, set_out_of_reach, zero_words, mono_info, stereo_info, no_info, is_mono, past_reach, length_refusal, entropy_info, entropy_refusal}
use Rattle.entropy.specs.Sets.{set_refusal, set_told, sets_of, both_refusal, both_told}

-- the answer that a payload calls for
abbrev pub Answers : List ℕ → ℕ → EntropyInfo → Type 0
Answers payload n info = (n ≡ entropy_refusal payload) × (info ≡ entropy_info payload)

-- a mono payload has 6 bytes
pub mono-length : (p : List ℕ) → is_mono p ≡ true → length p ≡ 6
unfolding is_mono
mono-length p e = eqb-true (length p) 6 e

-- ---- what is refused

-- a test for words out of reach, told
abbrev pub told : Bool → ℕ
told past = cond past 17 0

-- two lengths are in order
six-length : (p : List ℕ) → length p ≡ 6 → length_refusal p ≡ 0
six-length p h = rw h

twelve-length : (p : List ℕ) → length p ≡ 12 → length_refusal p ≡ 0
twelve-length p h = rw h

-- there the log words decide; a case for each outcome of their test, so that the order of the two
-- refusals does not matter here
reach_decides : (p : List ℕ) (past : Bool) → length_refusal p ≡ 0 → past_reach p ≡ past → entropy_refusal p ≡ told past
unfolding entropy_refusal
reach_decides p true h e = rw (h, e)
reach_decides p false h e = rw (h, e)

refusal_reach : (p : List ℕ) → length_refusal p ≡ 0 → entropy_refusal p ≡ told (past_reach p)
refusal_reach p h = reach_decides p (past_reach p) h refl

-- the three of 6 bytes
pub past-mono : (p : List ℕ) → length p ≡ 6 → past_reach p ≡ (set_out_of_reach p || false)
unfolding is_mono
past-mono p h = rw h

-- the six of 12
pub past-stereo : (p : List ℕ) → length p ≡ 12 → past_reach p ≡ (set_out_of_reach p || set_out_of_reach (drop 6 p))
unfolding is_mono
past-stereo p h = rw h

pub refusal-mono : (p : List ℕ) → length p ≡ 6 → entropy_refusal p ≡ cond (past_reach p) 17 0
refusal-mono p h = refusal_reach p (six-length p h)

pub refusal-stereo : (p : List ℕ) → length p ≡ 12 → entropy_refusal p ≡ cond (past_reach p) 17 0
refusal-stereo p h = refusal_reach p (twelve-length p h)

-- any other length
pub refusal-length : (p : List ℕ) → (length p ≡ 6 → ⊥) → (length p ≡ 12 → ⊥) → entropy_refusal p ≡ 1
unfolding entropy_refusal
refusal-length p h k = rw (ne_eqb (length p) 6 h, ne_eqb (length p) 12 k)

-- ---- what is told

-- nothing of a refused payload
pub info_refused : (p : List ℕ) → 0 < entropy_refusal p → entropy_info p ≡ no_info
unfolding entropy_info
info_refused p h = guard_refused (entropy_refusal p) (λ number. no_info) (cond (is_mono p) (mono_info p) (stereo_info p)) h

info_accepted : (p : List ℕ) → entropy_refusal p ≡ 0 → entropy_info p ≡ cond (is_mono p) (mono_info p) (stereo_info p)
unfolding entropy_info
info_accepted p e = guard_accepted (entropy_refusal p) (λ number. no_info) (cond (is_mono p) (mono_info p) (stereo_info p)) e

pub info_mono : (p : List ℕ) → length p ≡ 6 → entropy_refusal p ≡ 0 → entropy_info p ≡ mono_info p
unfolding is_mono
info_mono p h e = info_accepted p e ∙ rw h

pub info_stereo : (p : List ℕ) → length p ≡ 12 → entropy_refusal p ≡ 0 → entropy_info p ≡ stereo_info p
unfolding is_mono
info_stereo p h e = info_accepted p e ∙ rw h

by_case : (P : EntropyInfo → Type 0) (n : ℕ) (a : Bool) {x y z : EntropyInfo} → P x → P y → P z → P (unless_refused n (λ number. z) (cond a x y))
by_case P zero true h k l = h
by_case P zero false h k l = k
by_case P (suc n) a h k l = l

-- what holds for the three kinds of payload holds for every one
pub info_cases : (P : EntropyInfo → Type 0) (p : List ℕ) → P (mono_info p) → P (stereo_info p) → P no_info → P (entropy_info p)
unfolding entropy_info
info_cases P p h k l = by_case P (entropy_refusal p) (is_mono p) h k l

-- ---- as the code comes by it

-- of two tests the first refusal, told
or_told : (a b : Bool) → or_else (told a) (told b) ≡ told (a || b)
or_told true b = refl
or_told false b = refl

-- the refusals of a set's three words, one after the other, are the set's
pub set-refused : (bytes : List ℕ) {one two three both all : ℕ} → one ≡ log_word_refusal (word_at bytes 0) → two ≡ log_word_refusal (word_at bytes 2) → three ≡ log_word_refusal (word_at bytes 4)
    → both ≡ or_else one two → all ≡ or_else both three → all ≡ set_refusal bytes
set-refused bytes e f g h k =
    let a = out_of_reach (word_at bytes 0) in
    let b = out_of_reach (word_at bytes 2) in
    let d = out_of_reach (word_at bytes 4) in
    rw (k, h, e, f, g) (ap (λ (n : ℕ). or_else n (told d)) (or_told a b) ∙ or_told (a || b) d)

-- the values of its three words, read back, are what is told of them
pub set_values : (bytes : List ℕ) {one two three : ℤ} → one ≡ log_word_told (word_at bytes 0) → two ≡ log_word_told (word_at bytes 2) → three ≡ log_word_told (word_at bytes 4)
    → again one ∷ again two ∷ again three ∷ [] ≡ set_told bytes
set_values bytes e f g = rw (e, f, g, read (word_at bytes 0), read (word_at bytes 2), read (word_at bytes 4))
  where
    read : (w : ℤ) → again (log_word_told w) ≡ log_word_told w
    read w = to_z-of_z w32 (log_word_told w) (told-fits w)

-- none of a set's words is out of reach
pub record Reached (bytes : List ℕ) : Type 0 where
  pub reached0 : out_of_reach (word_at bytes 0) ≡ false
  pub reached1 : out_of_reach (word_at bytes 2) ≡ false
  pub reached2 : out_of_reach (word_at bytes 4) ≡ false

pub all-reached : (bytes : List ℕ) → set_out_of_reach bytes ≡ false → Reached bytes
all-reached bytes e =
    let a = out_of_reach (word_at bytes 0) in
    let b = out_of_reach (word_at bytes 2) in
    let d = out_of_reach (word_at bytes 4) in
    let all = neither (a || b) d e in
    let two = neither a b all.0 in
    record { reached0 = two.0; reached1 = two.1; reached2 = all.1 }

-- then they are told as the set
set_told_lem : (bytes : List ℕ) → set_out_of_reach bytes ≡ false → set_told bytes ≡ word_set bytes
unfolding word_set
set_told_lem bytes e =
    let r = all-reached bytes e in
    rw (told-value (word_at bytes 0) r.reached0, told-value (word_at bytes 2) r.reached1, told-value (word_at bytes 4) r.reached2)

-- two sets, each refused by its test, or neither and then told
sets-answer : (p : List ℕ) (l r : SetAnswer) (a b : Bool) {n : ℕ} {i : EntropyInfo}
    → outcome_number l.outcome ≡ cond a 17 0 → outcome_number r.outcome ≡ cond b 17 0 → entropy_refusal p ≡ cond (a || b) 17 0
    → ((a || b) ≡ false → sets_of l r ≡ entropy_info p)
    → n ≡ both_refusal l r → i ≡ both_told l r → Answers p n i
sets-answer p l r a b {n} {i} f g e t h k = go a b f g e t
  where
    refused : both_refusal l r ≡ 17 → entropy_refusal p ≡ 17 → Answers p n i
    refused m e =
        (h ∙ m ∙ sym e, k ∙ guard_refused (both_refusal l r) (λ number. no_info) (sets_of l r) (omega (arith, m)) ∙ sym (info_refused p (omega (arith, e))))

    go : (a b : Bool) → outcome_number l.outcome ≡ cond a 17 0 → outcome_number r.outcome ≡ cond b 17 0 → entropy_refusal p ≡ cond (a || b) 17 0
        → ((a || b) ≡ false → sets_of l r ≡ entropy_info p) → Answers p n i
    go true b f g e t = refused (rw f) e
    go false true f g e t = refused (rw (f, g)) e
    go false false f g e t =
        let m : both_refusal l r ≡ 0 = rw (f, g) in
        (h ∙ m ∙ sym e, k ∙ guard_accepted (both_refusal l r) (λ number. no_info) (sets_of l r) m ∙ t refl)

-- a set that is not there
abbrev pub no_set : SetAnswer
no_set = record { outcome = Ok tt; medians = zero_words }

-- 6 bytes; there is no right set
pub mono-answer : (p : List ℕ) (l : SetAnswer) {n : ℕ} {i : EntropyInfo} → is_mono p ≡ true → outcome_number l.outcome ≡ set_refusal p → l.medians ≡ set_told p
    → n ≡ both_refusal l no_set → i ≡ both_told l no_set → Answers p n i
mono-answer p l h f v =
    let six = mono-length p h in
    let e = refusal-mono p six ∙ ap told (past-mono p six) in
    sets-answer p l no_set (set_out_of_reach p) false f refl e
    (λ none. rw (v, set_told_lem p (neither (set_out_of_reach p) false none).0) (sym (info_mono p six (e ∙ ap told none))))

-- 12 bytes; the part from byte 6 is all that is left
pub stereo-answer : (p : List ℕ) (l r : SetAnswer) {n : ℕ} {i : EntropyInfo} → length p ≡ 12 → outcome_number l.outcome ≡ set_refusal p → l.medians ≡ set_told p
    → let part = take (length p - 6) (drop 6 p) in outcome_number r.outcome ≡ set_refusal part → r.medians ≡ set_told part
    → n ≡ both_refusal l r → i ≡ both_told l r → Answers p n i
stereo-answer p l r h f v g w =
    let t : take (length p - 6) (drop 6 p) ≡ drop 6 p = take_all (length p - 6) (drop 6 p) (omega (arith, length-drop 6 p)) in
    let e = refusal-stereo p h ∙ ap told (past-stereo p h) in
    sets-answer p l r (set_out_of_reach p) (set_out_of_reach (drop 6 p)) f (g ∙ ap set_refusal t) e
    (λ none. let both = neither (set_out_of_reach p) (set_out_of_reach (drop 6 p)) none in
    rw (v, w, t, set_told_lem p both.0, set_told_lem (drop 6 p) both.1) (sym (info_stereo p h (e ∙ ap told none))))

-- any other length
pub no_answer : (p : List ℕ) {n : ℕ} {i : EntropyInfo} → is_mono p ≡ false → (length p ≡ 12 → ⊥) → n ≡ 1 → i ≡ no_info → Answers p n i
unfolding is_mono
no_answer p h k f g =
    let e = refusal-length p (eqb-false (length p) 6 h) k in
    (f ∙ sym e, g ∙ sym (info_refused p (omega (arith, e))))
