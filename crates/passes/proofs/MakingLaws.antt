-- The laws of pass making: its answer by each of the code's returns. Assumes nothing.
use mathlib.Core.Path.{◌≡◌, refl}
use mathlib.Core.Bool.{Bool, true, false, cond, ◌&&◌}
use mathlib.Core.List.{List}
use Prim.Native.Nat.{ℕ, zero, suc, ◌≤◌}
use native.Mathlib.Omega.{arith}
use borrow.Author.Tests.{leb-true}
use lib.Dec.{leb, eqb, ltb}
use lib.IntN.{ℤ, pos, negsuc}
use lib.ListN.{length, take}
use mir.Syntax.{w8, w32}
use mir.Val.{SFits, to_z, of_z}
use mir.ValLaws.{to_z-of_z}
use Rattle.wrapping.proofs.ReadBack.{reread}
use Rattle.passes.specs.Terms.{term_of, is_valid, is_cross, is_lag}
use Rattle.passes.specs.Making.{seed_count, ordered, padded, seeded, too_short, seed_length, making_refusal, no_pass, Made, made}
use Rattle.std.specs.Prelude.{Result, Ok, Err}
use Rattle.answers.specs.Numbers.{number_of}
use Rattle.answers.specs.declared.Refusal.{Refusal}
use Rattle.passes.specs.declared.Term.{Term}
use Rattle.passes.specs.declared.Term.TheVariants.{Lag, Seventeen, Eighteen, Invalid}

positive : (n : ℕ) (a b c : Bool) → leb (suc n) 8 ≡ a → seed_count (cond a (Lag (suc n)) (cond b Seventeen (cond c Eighteen Invalid))) ≤ 8
positive n true b c e = leb-true (suc n) 8 e
positive n false true c e = omega arith
positive n false false true e = omega arith
positive n false false false e = omega arith

-- a term takes at most eight samples
pub count_small : (term : ℤ) → seed_count (term_of term) ≤ 8
unfolding term_of
count_small (pos zero) = omega arith
count_small (pos (suc n)) = positive n (leb (suc n) 8) (eqb (suc n) 17) (eqb (suc n) 18) refl
count_small (negsuc zero) = omega arith
count_small (negsuc (suc zero)) = omega arith
count_small (negsuc (suc (suc zero))) = omega arith
count_small (negsuc (suc (suc (suc n)))) = omega arith

-- what a test of a seed tells
short-told : {x : Refusal} (b : Bool) → ◌≡◌ {A = Result Unit Refusal} (cond b (Err Refusal.SeedTooShort) (Ok tt)) (Err x) → (b ≡ true) × (x ≡ Refusal.SeedTooShort)
short-told true e = (refl, cc)
short-told false e = cc

enough-told : (b : Bool) → ◌≡◌ {A = Result Unit Refusal} (cond b (Err Refusal.SeedTooShort) (Ok tt)) (Ok tt) → b ≡ false
enough-told true e = cc
enough-told false e = refl

-- what is known of the term once it is accepted
pub record Known (term : ℤ) (t : Term) (v : Bool) (n : ℕ) : Type 0 where
  pub term_is : t ≡ term_of term
  pub valid-is : v ≡ is_valid t
  pub valid : v ≡ true
  pub count-is : n ≡ seed_count t

module _ (term delta wa wb : ℤ) (sa sb : List ℤ) where
  -- an invalid term
  pub made_invalid : {t : Term} {v : Bool} → t ≡ term_of term → v ≡ is_valid t → v ≡ false → ◌≡◌ {A = Made} (record { refusal = 7; pass = no_pass }) (made term delta wa wb sa sb)
  unfolding made making_refusal
  made_invalid et ev e = let f : is_valid (term_of term) ≡ false = cc in rw f

  -- an A seed that is too short
  pub made-short-a : {t : Term} {v : Bool} {n : ℕ} {a : Result Unit Refusal} {x : Refusal} → Known term t v n → a ≡ seed_length false n (length sa) → a ≡ Err x
      → ◌≡◌ {A = Made} (record { refusal = number_of x; pass = no_pass }) (made term delta wa wb sa sb)
  unfolding made making_refusal
  made-short-a {x = x} k ea e =
      let f : is_valid (term_of term) ≡ true = cc in
      let g : seed_length false (seed_count (term_of term)) (length sa) ≡ Err x = rw (← k.term_is, ← k.count-is, ← ea) e in
      let s = short-told (too_short false (seed_count (term_of term)) (length sa)) g in
      rw (s.1, f, s.0)

  -- a B seed that is too short
  pub made-short-b : {t : Term} {v c : Bool} {n : ℕ} {a b : Result Unit Refusal} {x : Refusal} → Known term t v n → a ≡ seed_length false n (length sa) → a ≡ Ok tt
      → c ≡ is_cross t → b ≡ seed_length (c && ltb 0 (length sa)) n (length sb) → b ≡ Err x
      → ◌≡◌ {A = Made} (record { refusal = number_of x; pass = no_pass }) (made term delta wa wb sa sb)
  unfolding made making_refusal
  made-short-b {x = x} k ea e ec eb j =
      let f : is_valid (term_of term) ≡ true = cc in
      let g : seed_length false (seed_count (term_of term)) (length sa) ≡ Ok tt = rw (← k.term_is, ← k.count-is, ← ea) e in
      let h : seed_length (is_cross (term_of term) && ltb 0 (length sa)) (seed_count (term_of term)) (length sb) ≡ Err x = rw (← k.term_is, ← k.count-is, ← ec, ← eb) j in
      let s = short-told (too_short (is_cross (term_of term) && ltb 0 (length sa)) (seed_count (term_of term)) (length sb)) h in
      rw (s.1, f, enough-told (too_short false (seed_count (term_of term)) (length sa)) g, s.0)

  -- a pass that is made
  pub made-accepted : {t : Term} {v c r : Bool} {n : ℕ} {a b : Result Unit Refusal} {ha hb : List ℤ} → Known term t v n → a ≡ seed_length false n (length sa) → a ≡ Ok tt
      → c ≡ is_cross t → b ≡ seed_length (c && ltb 0 (length sa)) n (length sb) → b ≡ Ok tt
      → r ≡ is_lag t → ha ≡ padded (ordered r (take n sa)) → hb ≡ padded (ordered r (take n sb))
      → SFits w8 term → SFits w32 delta → SFits w32 wa → SFits w32 wb
      → ◌≡◌ {A = Made}
      (record { refusal = 0; pass = record { term = to_z w8 (of_z w8 term); delta = reread delta; weight_a = reread wa; weight_b = reread wb; history_a = ha; history_b = hb } })
      (made term delta wa wb sa sb)
  unfolding made making_refusal seeded
  made-accepted k ea e ec eb j er eha ehb ft fd fa fb =
      let f : is_valid (term_of term) ≡ true = cc in
      let g : seed_length false (seed_count (term_of term)) (length sa) ≡ Ok tt = rw (← k.term_is, ← k.count-is, ← ea) e in
      let h : seed_length (is_cross (term_of term) && ltb 0 (length sa)) (seed_count (term_of term)) (length sb) ≡ Ok tt = rw (← k.term_is, ← k.count-is, ← ec, ← eb) j in
      rw (f, enough-told (too_short false (seed_count (term_of term)) (length sa)) g, enough-told (too_short (is_cross (term_of term) && ltb 0 (length sa)) (seed_count (term_of term)) (length sb)) h, eha, ehb, er, k.count-is, k.term_is, to_z-of_z w8 term ft, to_z-of_z w32 delta fd, to_z-of_z w32 wa fa, to_z-of_z w32 wb fb)
