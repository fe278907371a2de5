-- A literal number cut out of a window of the literal bytes, and the numbers of all samples by their
-- places.
-- Assumes nothing.
use mathlib.Core.Path.{◌≡◌, refl, sym, ap, ◌∙◌}
use mathlib.Core.Bool.{Bool}
use mathlib.Core.List.{List, [], ◌∷◌}
use Prim.Native.Nat.{ℕ, zero, suc, ◌+◌, ◌-◌, ◌*◌, ◌/◌, ◌%◌, ◌^◌, ◌≤◌, min}
use native.Mathlib.Nat.{mod-one, mod-lt, suc-mul}
use native.Mathlib.Omega.{arith}
use lib.IntN.{ℤ}
use lib.ListN.{length, take, drop, length-drop}
use lib.Pow.{pow_pos}
use lib.Seq.{drop-drop}
use mir.Syntax.{w32}
use mir.Val.{Fits}
use Rattle.bits.specs.Bits.{num, bits_of}
use Rattle.bits.specs.Fields.{get_bits}
use Rattle.std.specs.Prelude.{Option, Some, None}
use Rattle.bits.proofs.BitLaws.{length-bits}
use Rattle.bits.proofs.ReadLaws.{bits-yes}
use Rattle.bits.proofs.Window.{tail-window, window-bits}
use Rattle.int32_sample.specs.Sample.{below}
use Rattle.int32_sample.proofs.MachineLaws.{small}
use Rattle.int32.specs.Reassemble.{appended}
use Rattle.int32.proofs.InPlace.{map_from}

none : num [] ≡ 0
unfolding num
none = refl

abbrev value_of : Option (ℕ × ℕ) → ℕ
value_of (Some (v, q)) = v
value_of None = 0

-- a few bits of any number are a number of 32 bits
pub cut_fits : (x k : ℕ) → k ≤ 31 → Fits w32 (x % 2 ^ k)
cut_fits x k h = let l = small k (x % 2 ^ k) h (mod-lt x (pow_pos k)) in record { fits = omega (arith, l) }

-- the bits at a place, from a window that begins with its byte
pub literal-bits : (s : List ℕ) (at k w : ℕ) → k ≤ 31 → at + k ≤ 8 * length s
    → w ≡ num (bits_of (take 8 (drop (at / 8) s)))
    → w / 2 ^ (at % 8) % 2 ^ k ≡ num (take k (drop at (bits_of s)))
literal-bits s at zero w h l e = mod-one (w / 2 ^ (at % 8)) ∙ sym none
literal-bits s at (suc k) w h l e =
    let bits = bits_of s in
    let j = 8 * min 8 (length s - at / 8) - at % 8 in
    let v = tail-window s at w (omega arith) e in
    let g : get_bits bits at (suc k) ≡ Some (w / 2 ^ (at % 8) % 2 ^ suc k, at + suc k) =
    window-bits bits at j (w / 2 ^ (at % 8)) (suc k) v (omega arith) in
    sym (ap value_of g) ∙ ap value_of
    (bits-yes bits at (suc k) (omega (arith, length-drop at bits, length-bits s)))

-- ---- the literal bits of all samples

-- literal bits: those of the place i
abbrev pub append_at : ℕ → List Bool → ℕ → ℤ → ℤ
append_at sent bits i x = below sent (num (take sent (drop (i * sent) bits))) x

appended-at : (sent : ℕ) (bits : List Bool) (i : ℕ) (xs : List ℤ)
    → appended sent (drop (i * sent) bits) xs ≡ map_from (append_at sent bits) i xs
unfolding map_from appended
appended-at sent bits i [] = refl
appended-at sent bits i (x ∷ xs) =
    let d : drop sent (drop (i * sent) bits) ≡ drop (suc i * sent) bits =
    drop-drop sent (i * sent) bits ∙ ap (λ (n : ℕ). drop n bits) (sym (suc-mul i sent)) in
    ap (λ (l : List ℤ). append_at sent bits i x ∷ l)
    (ap (λ (b : List Bool). appended sent b xs) d ∙ appended-at sent bits (suc i) xs)

pub appended-from : (sent : ℕ) (bits : List Bool) (xs : List ℤ)
    → appended sent bits xs ≡ map_from (append_at sent bits) 0 xs
appended-from sent bits xs = let z : 0 * sent ≡ 0 = omega arith in
    ap (λ (n : ℕ). appended sent (drop n bits) xs) (sym z) ∙ appended-at sent bits 0 xs
