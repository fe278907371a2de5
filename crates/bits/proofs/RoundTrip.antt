-- A field that stands at a place is read as its value and the place after it. `At` splits where
-- fields are joined, so what is written piece by piece is read piece by piece.
-- Assumes nothing.
use mathlib.Core.Path.{◌≡◌, refl, sym, ap, ap₂, ◌∙◌}
use mathlib.Core.Bool.{Bool, true, false}
use mathlib.Core.List.{List, [], ◌∷◌, ◌++◌, append_assoc}
use Prim.Native.Nat.{ℕ, zero, suc, ◌+◌, ◌%◌, ◌^◌, ◌<◌}
use native.Mathlib.Omega.{arith}
use lib.ListN.{length, take, drop, replicate, length-append}
use lib.Seq.{drop-drop, drop-append_seam, take-append_seam}
use Rattle.bits.specs.Bits.{low, num, ones}
use Rattle.bits.specs.Fields.{get_bits, unary, unary_field}
use Rattle.std.specs.Prelude.{Some}
use Rattle.bits.proofs.BitLaws.{length-low, num-low}
use Rattle.bits.proofs.ReadLaws.{bits-yes, unary-yes}

-- the bits f stand at the place p
pub record At (bits : List Bool) (p : ℕ) (f : List Bool) : Type 0 where
  pub rest : List Bool
  pub stands : drop p bits ≡ f ++ rest

-- between what stands before it and what stands behind it
pub at_here : (before f rest : List Bool) → At (before ++ (f ++ rest)) (length before) f
at_here before f rest = record { rest = rest; stands = drop-append_seam before (f ++ rest) }

-- the first of two that are joined
pub at_first : {bits : List Bool} {p : ℕ} (f g : List Bool) → At bits p (f ++ g) → At bits p f
at_first f g a = record { rest = g ++ a.rest; stands = a.stands ∙ append_assoc f g a.rest }

-- the second, behind the first
pub at_second : {bits : List Bool} {p : ℕ} (f g : List Bool) → At bits p (f ++ g) → At bits (p + length f) g
unfolding at_first
at_second {bits} {p} f g a = record {
  rest = a.rest;
  stands = sym (drop-drop (length f) p bits) ∙ ap (drop (length f)) (at_first f g a).stands ∙ drop-append_seam f (g ++ a.rest);
}

-- bits are read as their number
pub bits_at : {bits : List Bool} {p : ℕ} {f : List Bool} → At bits p f → get_bits bits p (length f) ≡ Some (num f, p + length f)
bits_at {bits} {p} {f} a =
    bits-yes bits p (length f) (omega (arith, ap length a.stands, length-append f a.rest))
    ∙ ap (λ (v : ℕ). Some (v, p + length f)) (ap num (ap (take (length f)) a.stands ∙ take-append_seam f a.rest))

-- the low bits of a number are read as its value modulo 2 ^ k
pub low-at : {bits : List Bool} {p : ℕ} (k n : ℕ) → At bits p (low k n) → get_bits bits p k ≡ Some (n % 2 ^ k, p + k)
low-at {bits} {p} k n a = rw (length-low, num-low) at (bits_at a)

-- c ones and a zero begin with c ones, whatever follows, and are not all ones
ones-field : (c : ℕ) (rest : List Bool) → (ones ((replicate c true ++ false ∷ []) ++ rest) ≡ c) × (c < length ((replicate c true ++ false ∷ []) ++ rest))
unfolding ones
ones-field zero rest = (refl, omega arith)
ones-field (suc c) rest = let h = ones-field c rest in (ap suc h.0, omega arith)

-- a count takes a bit more than itself
pub length-unary : (c : ℕ) → length (unary_field c) ≡ c + 1
unfolding unary_field
length-unary zero = refl
length-unary (suc c) = omega (arith, length-unary c)

-- c ones and a zero are read as c
pub unary-at : {bits : List Bool} {p : ℕ} (c : ℕ) → At bits p (unary_field c) → unary bits p ≡ Some (c, p + length (unary_field c))
unfolding unary_field
unary-at {bits} {p} c a =
    let h = ones-field c a.rest in
    let o : ones (drop p bits) ≡ c = ap ones a.stands ∙ h.0 in
    unary-yes bits p (omega (arith, ap length a.stands, h.1)) ∙ ap₂ (λ (v q : ℕ). Some (v, q)) o (omega (arith, length-unary c))
