-- A field that was read depends only on the bits up to the place after it: what stands behind never
-- matters. So it is of bits and counts, and of each field of a word.
-- Assumes nothing.
use mathlib.Core.Path.{◌≡◌, refl, sym, ap, ◌∙◌}
use mathlib.Core.Bool.{Bool, true, false, cond}
use mathlib.Core.List.{List, [], ◌∷◌}
use Prim.Native.Nat.{ℕ, zero, suc, ◌+◌, ◌-◌, ◌*◌, ◌^◌, ◌≤◌, ◌<◌}
use native.Mathlib.Omega.{arith}
use borrow.Author.Tests.{ltb-true}
use lib.Dec.{ltb, leb, eqb}
use lib.ListN.{length, take, drop, length-drop, length-take}
use lib.Seq.{length-take-le}
use Rattle.std.proofs.lemmas.List.{drop-take}
use Rattle.std.specs.Prelude.{Option, Some, None, Result, Ok, Err}
use Rattle.answers.specs.declared.Refusal.{Refusal}
use Rattle.answers.specs.declared.Refusal.TheVariants.{Truncated, EndOfStream}
use Rattle.bits.specs.Bits.{val, num, ones}
use Rattle.bits.specs.Fields.{get_bits, unary, and_then}
use Rattle.bits.proofs.ReadLaws.{same-field, got, bits-yes, unary-yes}
use Rattle.fields.specs.Counts.{counted, run_length, then_prefix, escaped, prefix}
use Rattle.fields.specs.Code.{bit_length, code_of, truncated_binary}
use Rattle.fields.proofs.Local.{at, field_end, prefix_end, Local, clash, local_then, field-field, field-prefix, local-cond, value-here, value_none, prefix_here, prefix_truncated, prefix-ended}

-- ---- bits and counts

-- the same bits up to p + k are the same k bits at p
part_same : (a b : List Bool) (p k : ℕ) → take (p + k) a ≡ take (p + k) b → take k (drop p a) ≡ take k (drop p b)
part_same a b p k t = sym (drop-take p k a) ∙ ap (drop p) t ∙ drop-take p k b

-- a field that ends has a value
ended : (x : Option (ℕ × ℕ)) (q : ℕ) → field_end x ≡ at q → (v : ℕ) × (x ≡ Some (v, q))
ended (Some (v, m)) q e = let z : m ≡ q = cc in (v, ap (λ (q : ℕ). Some (v, q)) z)
ended None q e = clash e refl

-- a number of bits
pub bits-local : (p k : ℕ) → Local field_end p (λ a. get_bits a p k)
bits-local p k = record { on = on; inside = inside; same = same }
  where
    on : (a : List Bool) (q : ℕ) → field_end (get_bits a p k) ≡ at q → p ≤ q
    on a q e = let x = ended (get_bits a p k) q e in omega (arith, got a p k x.0 q x.1)

    inside : (a : List Bool) (q : ℕ) → field_end (get_bits a p k) ≡ at q → p ≤ length a → q ≤ length a
    inside a q e l = let x = ended (get_bits a p k) q e in omega (arith, got a p k x.0 q x.1, length-drop p a)

    same : (a b : List Bool) (q : ℕ) → field_end (get_bits a p k) ≡ at q → take q a ≡ take q b → get_bits b p k ≡ get_bits a p k
    same a b q e t =
        let x = ended (get_bits a p k) q e in
        let g = got a p k x.0 q x.1 in
        let u = part_same a b p k (rw g.2 at t) in
        let n : length (take k (drop p b)) ≡ k = ap length (sym u) ∙ length-take-le k (drop p a) g.0 in
        bits-yes b p k (omega (arith, length-take k (drop p b))) ∙ ap (λ (l : List Bool). Some (num l, p + k)) (sym u) ∙ sym (bits-yes a p k g.0)

-- what a count that was read tells
pub counted-ones : (a : List Bool) (p c q : ℕ) → unary a p ≡ Some (c, q) → (c ≡ ones (drop p a)) × (c < length (drop p a)) × (q ≡ p + c + 1)
unfolding unary
counted-ones a p c q e = go (ltb (ones (drop p a)) (length (drop p a))) refl e
  where
    go : (t : Bool) → ltb (ones (drop p a)) (length (drop p a)) ≡ t → cond {A = Option (ℕ × ℕ)} t (Some (ones (drop p a), p + ones (drop p a) + 1)) None ≡ Some (c, q)
        → (c ≡ ones (drop p a)) × (c < length (drop p a)) × (q ≡ p + c + 1)
    go true h e =
        let z = same-field e in
        (sym z.0, omega (arith, ltb-true (ones (drop p a)) (length (drop p a)) h), omega arith)
    go false h e = let z : ◌≡◌ {A = ℕ} 0 1 = cc in absurd (omega arith)

-- a zero is not a one
different : {X : Type 0} → false ≡ true → X
different e = let z : ◌≡◌ {A = ℕ} 0 1 = ap val e in absurd (omega arith)

-- the same ones and the same zero behind them are the same count
ones-same : (l m : List Bool) (n : ℕ) → ones l ≡ n → n < length l → take (suc n) l ≡ take (suc n) m → (ones m ≡ n) × (n < length m)
unfolding ones
ones-same [] m n e h t = absurd (omega arith)
ones-same (x ∷ l) [] n e h t = let z = ap length t in absurd (omega arith)
ones-same (false ∷ l) (false ∷ m) n e h t = (e, omega arith)
ones-same (false ∷ l) (true ∷ m) n e h t = let z : false ≡ true = cc in different z
ones-same (true ∷ l) (false ∷ m) n e h t = let z : false ≡ true = cc in different z
ones-same (true ∷ l) (true ∷ m) zero e h t = absurd (omega arith)
ones-same (true ∷ l) (true ∷ m) (suc n) e h t =
    let z : take (suc n) l ≡ take (suc n) m = cc in
    let r = ones-same l m n (omega arith) (omega arith) z in
    (ap suc r.0, omega (arith, r.1))

-- a count of ones
pub unary-local : (p : ℕ) → Local field_end p (λ a. unary a p)
unary-local p = record { on = on; inside = inside; same = same }
  where
    on : (a : List Bool) (q : ℕ) → field_end (unary a p) ≡ at q → p ≤ q
    on a q e = let x = ended (unary a p) q e in omega (arith, counted-ones a p x.0 q x.1)

    inside : (a : List Bool) (q : ℕ) → field_end (unary a p) ≡ at q → p ≤ length a → q ≤ length a
    inside a q e l = let x = ended (unary a p) q e in omega (arith, counted-ones a p x.0 q x.1, length-drop p a)

    same : (a b : List Bool) (q : ℕ) → field_end (unary a p) ≡ at q → take q a ≡ take q b → unary b p ≡ unary a p
    same a b q e t =
        let x = ended (unary a p) q e in
        let c = x.0 in
        let g = counted-ones a p c q x.1 in
        let n : q ≡ p + suc c = omega (arith, g.2) in
        let u = part_same a b p (suc c) (rw n at t) in
        let r = ones-same (drop p a) (drop p b) c (sym g.0) g.1 u in
        unary-yes b p (omega (arith, r.0, r.1)) ∙ ap (λ (k : ℕ). Some (k, p + k + 1)) (r.0 ∙ g.0) ∙ sym (unary-yes a p (omega (arith, g.0, g.1)))

-- ---- the fields of a word

-- the number behind a count
counted-local : (q c : ℕ) → Local field_end q (λ a. counted a q c)
unfolding counted
counted-local q c =
    local-cond field_end (ltb c 2) q (λ a. Some (c, q)) (λ a. and_then (get_bits a q (c - 1)) λ v n. Some (2 ^ (c - 1) + v, n)) (value-here q c)
    (local_then field_end field_end and_then field-field q (λ a. get_bits a q (c - 1)) (λ a v n. Some (2 ^ (c - 1) + v, n)) (bits-local q (c - 1))
    (λ v n. value-here n (2 ^ (c - 1) + v)))

-- a run length
pub run-local : (p : ℕ) → Local field_end p (λ a. run_length a p)
unfolding run_length
run-local p =
    local_then field_end field_end and_then field-field p (λ a. unary a p) (λ a c q. cond (ltb c 33) (counted a q c) None) (unary-local p)
    (λ c q. local-cond field_end (ltb c 33) q (λ a. counted a q c) (λ a. None) (counted-local q c) (value_none q))

-- the value behind a second count
escaped-local : (c q : ℕ) → Local prefix_end q (λ a. escaped a c q)
unfolding escaped
escaped-local c q =
    local-cond prefix_end (eqb c 33) q (λ a. Err EndOfStream) (λ a. cond {A = Result (ℕ × ℕ) Refusal} (ltb 33 c) (Err Truncated) (then_prefix (counted a q c) within)) (prefix-ended q)
    (local-cond prefix_end (ltb 33 c) q (λ a. Err Truncated) (λ a. then_prefix (counted a q c) within) (prefix_truncated q)
    (local_then field_end prefix_end then_prefix field-prefix q (λ a. counted a q c) (λ a. within) (counted-local q c)
    (λ v n. local-cond prefix_end (leb (16 + v) 4294967295) n (λ a. Ok (16 + v, n)) (λ a. Err Truncated) (prefix_here n (16 + v)) (prefix_truncated n))))
  where
    within : ℕ → ℕ → Result (ℕ × ℕ) Refusal
    within v n = cond (leb (16 + v) 4294967295) (Ok (16 + v, n)) (Err Truncated)

-- a prefix
pub prefix-local : (p : ℕ) → Local prefix_end p (λ a. prefix a p)
unfolding prefix
prefix-local p =
    local_then field_end prefix_end then_prefix field-prefix p (λ a. unary a p) (λ a r q. cond {A = Result (ℕ × ℕ) Refusal} (ltb r 16) (Ok (r, q)) (then_prefix (unary a q) (escaped a))) (unary-local p)
    (λ r q. local-cond prefix_end (ltb r 16) q (λ a. Ok (r, q)) (λ a. then_prefix (unary a q) (escaped a)) (prefix_here q r)
    (local_then field_end prefix_end then_prefix field-prefix q (λ a. unary a q) (λ a. escaped a) (unary-local q) escaped-local))

-- a code of b bits or one less
code_local : (p b x : ℕ) → Local field_end p (λ a. code_of a p b x)
unfolding code_of
code_local p b x =
    local_then field_end field_end and_then field-field p (λ a. get_bits a p (b - 1)) rest (bits-local p (b - 1))
    (λ s q. local-cond field_end (ltb s x) q (λ a. Some (s, q)) (λ a. and_then (get_bits a q 1) λ t n. Some (2 * s - x + t, n)) (value-here q s)
    (local_then field_end field_end and_then field-field q (λ a. get_bits a q 1) (λ a t n. Some (2 * s - x + t, n)) (bits-local q 1) (λ t n. value-here n (2 * s - x + t))))
  where
    rest : List Bool → ℕ → ℕ → Option (ℕ × ℕ)
    rest a s q = cond {A = Option (ℕ × ℕ)} (ltb s x) (Some (s, q)) (and_then (get_bits a q 1) λ t n. Some (2 * s - x + t, n))

-- a code in an interval
pub truncated_binary-local : (p M : ℕ) → Local field_end p (λ a. truncated_binary a p M)
unfolding truncated_binary
truncated_binary-local p M =
    local-cond field_end (eqb M 0) p (λ a. Some (0, p)) (λ a. code_of a p (bit_length M) (2 ^ bit_length M - M - 1)) (value-here p 0) (code_local p (bit_length M) (2 ^ bit_length M - M - 1))
