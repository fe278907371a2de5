-- A field is refused only for a missing bit, or for a count or a value over its cap; a stream ends
-- only at a second count of 33.
-- Assumes nothing.
use mathlib.Core.Path.{◌≡◌, refl, sym}
use mathlib.Core.Bool.{Bool, true, false, cond}
use mathlib.Core.List.{List}
use Prim.Native.Nat.{ℕ, ◌+◌, ◌-◌, ◌*◌, ◌^◌, ◌≤◌}
use native.Mathlib.Omega.{arith}
use borrow.Author.Tests.{leb-false, ltb-true, ltb-false, eqb-true}
use lib.Dec.{ltb, leb, eqb}
use Rattle.std.specs.Prelude.{Option, Some, None, Result, Ok, Err}
use Rattle.answers.specs.declared.Refusal.{Refusal}
use Rattle.answers.specs.declared.Refusal.TheVariants.{Truncated, EndOfStream}
use Rattle.bits.specs.Fields.{get_bits, unary, and_then}
use Rattle.bits.proofs.ReadLaws.{bits-missing, unary-missing}
use Rattle.fields.specs.Counts.{counted, run_length, then_prefix, escaped, prefix}
use Rattle.fields.specs.Code.{bit_length, code_of, truncated_binary}
use Rattle.fields.specs.Refused.{Missing, NoRun, Second, NoPrefix, Ends, NoCode}

-- a value is not missing
value-clash : {X : Type 0} {v q : ℕ} → ◌≡◌ {A = Option (ℕ × ℕ)} (Some (v, q)) None → X
value-clash e = let z : ◌≡◌ {A = ℕ} 0 1 = cc in absurd (omega arith)

-- the number behind a count misses a bit
counted-missing : (bits : List Bool) (q c : ℕ) → counted bits q c ≡ None → Missing bits q (c - 1)
unfolding counted
counted-missing bits q c e = go (ltb c 2) (get_bits bits q (c - 1)) refl e
  where
    go : (t : Bool) (f : Option (ℕ × ℕ)) → get_bits bits q (c - 1) ≡ f → cond {A = Option (ℕ × ℕ)} t (Some (c, q)) (and_then f λ v n. Some (2 ^ (c - 1) + v, n)) ≡ None → Missing bits q (c - 1)
    go true f h e = value-clash e
    go false (Some (v, n)) h e = value-clash e
    go false None h e = bits-missing bits q (c - 1) h

-- the run length
pub run-refused : (bits : List Bool) (p : ℕ) → run_length bits p ≡ None → NoRun bits p
unfolding run_length
run-refused bits p e = go (unary bits p) refl e
  where
    test : (c q : ℕ) (t : Bool) → ltb c 33 ≡ t → unary bits p ≡ Some (c, q) → cond t (counted bits q c) None ≡ None → NoRun bits p
    test c q true h f e = NoRun.missing c q f (counted-missing bits q c e)
    test c q false h f e = NoRun.over c q f (ltb-false c 33 h)

    go : (f : Option (ℕ × ℕ)) → unary bits p ≡ f → and_then f (λ c q. cond (ltb c 33) (counted bits q c) None) ≡ None → NoRun bits p
    go (Some (c, q)) f e = test c q (ltb c 33) refl f e
    go None f e = NoRun.no_zero (unary-missing bits p f)

-- the prefix
prefix-clash : {X : Type 0} {a b : Result (ℕ × ℕ) Refusal} → a ≡ b → (a ≡ Err Truncated) × (b ≡ Err EndOfStream) → X
prefix-clash e h = let x = h.0 in let y = h.1 in let z : ◌≡◌ {A = ℕ} 0 1 = cc in absurd (omega arith)

-- a value is not refused
value_truncated : {X : Type 0} {v q : ℕ} → ◌≡◌ {A = Result (ℕ × ℕ) Refusal} (Ok (v, q)) (Err Truncated) → X
value_truncated e = let z : ◌≡◌ {A = ℕ} 0 1 = cc in absurd (omega arith)

-- a value is not the end
value-ended : {X : Type 0} {v q : ℕ} → ◌≡◌ {A = Result (ℕ × ℕ) Refusal} (Ok (v, q)) (Err EndOfStream) → X
value-ended e = let z : ◌≡◌ {A = ℕ} 0 1 = cc in absurd (omega arith)

module _ (bits : List Bool) (p : ℕ) where
  -- behind a second count
  escaped-refused : (c n : ℕ) → Second bits p c n → escaped bits c n ≡ Err Truncated → NoPrefix bits p
  unfolding escaped
  escaped-refused c n s e = first (eqb c 33) e
    where
      last : (v m : ℕ) (t : Bool) → leb (16 + v) 4294967295 ≡ t → counted bits n c ≡ Some (v, m) → cond {A = Result (ℕ × ℕ) Refusal} t (Ok (16 + v, m)) (Err Truncated) ≡ Err Truncated → NoPrefix bits p
      last v m true h f e = value_truncated e
      last v m false h f e = NoPrefix.value-over c n v m s f (leb-false (16 + v) 4294967295 h)

      third : (f : Option (ℕ × ℕ)) → counted bits n c ≡ f → then_prefix f (λ v m. cond (leb (16 + v) 4294967295) (Ok (16 + v, m)) (Err Truncated)) ≡ Err Truncated → NoPrefix bits p
      third (Some (v, m)) f e = last v m (leb (16 + v) 4294967295) refl f e
      third None f e = NoPrefix.missing c n s (counted-missing bits n c f)

      rest : Result (ℕ × ℕ) Refusal
      rest = then_prefix (counted bits n c) λ v m. cond (leb (16 + v) 4294967295) (Ok (16 + v, m)) (Err Truncated)

      second : (t : Bool) → ltb 33 c ≡ t → cond {A = Result (ℕ × ℕ) Refusal} t (Err Truncated) rest ≡ Err Truncated → NoPrefix bits p
      second true h e = NoPrefix.over c n s (ltb-true 33 c h)
      second false h e = third (counted bits n c) refl e

      first : (t : Bool) → cond {A = Result (ℕ × ℕ) Refusal} t (Err EndOfStream) (cond {A = Result (ℕ × ℕ) Refusal} (ltb 33 c) (Err Truncated) rest) ≡ Err Truncated → NoPrefix bits p
      first true e = prefix-clash (sym e) (refl, refl)
      first false e = second (ltb 33 c) refl e

  -- the stream ends behind a second count
  escaped-ended : (c n : ℕ) → Second bits p c n → escaped bits c n ≡ Err EndOfStream → Ends bits p
  unfolding escaped
  escaped-ended c n s e = first (eqb c 33) refl e
    where
      last : (v m : ℕ) (t : Bool) → cond {A = Result (ℕ × ℕ) Refusal} t (Ok (16 + v, m)) (Err Truncated) ≡ Err EndOfStream → Ends bits p
      last v m true e = value-ended e
      last v m false e = prefix-clash e (refl, refl)

      third : (f : Option (ℕ × ℕ)) → then_prefix f (λ v m. cond (leb (16 + v) 4294967295) (Ok (16 + v, m)) (Err Truncated)) ≡ Err EndOfStream → Ends bits p
      third (Some (v, m)) e = last v m (leb (16 + v) 4294967295) e
      third None e = prefix-clash e (refl, refl)

      rest : Result (ℕ × ℕ) Refusal
      rest = then_prefix (counted bits n c) λ v m. cond (leb (16 + v) 4294967295) (Ok (16 + v, m)) (Err Truncated)

      second : (t : Bool) → cond {A = Result (ℕ × ℕ) Refusal} t (Err Truncated) rest ≡ Err EndOfStream → Ends bits p
      second true e = prefix-clash e (refl, refl)
      second false e = third (counted bits n c) e

      first : (t : Bool) → eqb c 33 ≡ t → cond {A = Result (ℕ × ℕ) Refusal} t (Err EndOfStream) (cond {A = Result (ℕ × ℕ) Refusal} (ltb 33 c) (Err Truncated) rest) ≡ Err EndOfStream → Ends bits p
      first true h e = record { behind = n; second = rw (eqb-true c 33 h) at s }
      first false h e = second (ltb 33 c) e

  -- a prefix that is refused
  pub prefix-refused : prefix bits p ≡ Err Truncated → NoPrefix bits p
  unfolding prefix
  prefix-refused e = go (unary bits p) refl e
    where
      behind : (r q : ℕ) (f : Option (ℕ × ℕ)) → unary bits p ≡ Some (r, q) → 16 ≤ r → unary bits q ≡ f → then_prefix f (escaped bits) ≡ Err Truncated → NoPrefix bits p
      behind r q (Some (c, n)) a h f e = escaped-refused c n (record { first = r; behind = q; read = a; many = h; second = f }) e
      behind r q None a h f e = NoPrefix.no_second-zero r q a h (unary-missing bits q f)

      test : (r q : ℕ) (t : Bool) → ltb r 16 ≡ t → unary bits p ≡ Some (r, q) → cond {A = Result (ℕ × ℕ) Refusal} t (Ok (r, q)) (then_prefix (unary bits q) (escaped bits)) ≡ Err Truncated → NoPrefix bits p
      test r q true h f e = value_truncated e
      test r q false h f e = behind r q (unary bits q) f (ltb-false r 16 h) refl e

      go : (f : Option (ℕ × ℕ)) → unary bits p ≡ f → then_prefix f (λ r q. cond {A = Result (ℕ × ℕ) Refusal} (ltb r 16) (Ok (r, q)) (then_prefix (unary bits q) (escaped bits))) ≡ Err Truncated → NoPrefix bits p
      go (Some (r, q)) f e = test r q (ltb r 16) refl f e
      go None f e = NoPrefix.no_zero (unary-missing bits p f)

  -- a prefix that ends the stream
  pub prefix-ended : prefix bits p ≡ Err EndOfStream → Ends bits p
  unfolding prefix
  prefix-ended e = go (unary bits p) refl e
    where
      behind : (r q : ℕ) (f : Option (ℕ × ℕ)) → unary bits p ≡ Some (r, q) → 16 ≤ r → unary bits q ≡ f → then_prefix f (escaped bits) ≡ Err EndOfStream → Ends bits p
      behind r q (Some (c, n)) a h f e = escaped-ended c n (record { first = r; behind = q; read = a; many = h; second = f }) e
      behind r q None a h f e = prefix-clash e (refl, refl)

      test : (r q : ℕ) (t : Bool) → ltb r 16 ≡ t → unary bits p ≡ Some (r, q) → cond {A = Result (ℕ × ℕ) Refusal} t (Ok (r, q)) (then_prefix (unary bits q) (escaped bits)) ≡ Err EndOfStream → Ends bits p
      test r q true h f e = value-ended e
      test r q false h f e = behind r q (unary bits q) f (ltb-false r 16 h) refl e

      go : (f : Option (ℕ × ℕ)) → unary bits p ≡ f → then_prefix f (λ r q. cond {A = Result (ℕ × ℕ) Refusal} (ltb r 16) (Ok (r, q)) (then_prefix (unary bits q) (escaped bits))) ≡ Err EndOfStream → Ends bits p
      go (Some (r, q)) f e = test r q (ltb r 16) refl f e
      go None f e = prefix-clash e (refl, refl)

-- the code
pub code-refused : (bits : List Bool) (p M : ℕ) → truncated_binary bits p M ≡ None → NoCode bits p M
unfolding truncated_binary code_of
code-refused bits p M e = go (eqb M 0) e
  where
    b : ℕ
    b = bit_length M

    x : ℕ
    x = 2 ^ b - M - 1

    last : (s n : ℕ) (f : Option (ℕ × ℕ)) → get_bits bits n 1 ≡ f → get_bits bits p (b - 1) ≡ Some (s, n) → and_then f (λ t m. Some (2 * s - x + t, m)) ≡ None → NoCode bits p M
    last s n (Some (t, m)) f h e = value-clash e
    last s n None f h e = NoCode.no_extra s n h (bits-missing bits n 1 f)

    test : (s n : ℕ) (t : Bool) → get_bits bits p (b - 1) ≡ Some (s, n) → cond {A = Option (ℕ × ℕ)} t (Some (s, n)) (and_then (get_bits bits n 1) λ t m. Some (2 * s - x + t, m)) ≡ None → NoCode bits p M
    test s n true h e = value-clash e
    test s n false h e = last s n (get_bits bits n 1) refl h e

    head : (f : Option (ℕ × ℕ)) → get_bits bits p (b - 1) ≡ f → and_then f (λ s n. cond {A = Option (ℕ × ℕ)} (ltb s x) (Some (s, n)) (and_then (get_bits bits n 1) λ t m. Some (2 * s - x + t, m))) ≡ None → NoCode bits p M
    head (Some (s, n)) h e = test s n (ltb s x) h e
    head None h e = NoCode.missing (bits-missing bits p (b - 1) h)

    go : (t : Bool) → cond {A = Option (ℕ × ℕ)} t (Some (0, p)) (code_of bits p b x) ≡ None → NoCode bits p M
    go true e = value-clash e
    go false e = head (get_bits bits p (b - 1)) refl e
