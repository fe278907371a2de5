-- What holds of mantissas and log words: their ranges, and the two ways in which a mantissa is
-- shifted.
-- Assumes nothing.
use mathlib.Core.Path.{◌≡◌}
use Prim.Native.Nat.{ℕ, ◌-◌, ◌*◌, ◌/◌, ◌%◌, ◌^◌, ◌<◌, ◌≤◌}
use native.Mathlib.Nat.{div-le_self, pow-le-pow_right, mul-le-mul_left, lt_of_le_of_lt}
use native.Mathlib.Omega.{arith}
use mathlib.Core.Bool.{Bool, true, false}
use lib.Dec.{leb}
use lib.IntN.{ℤ, pos, negsuc}
use mir.Syntax.{w16, w32, w64}
use mir.Val.{SFits, to_z, of_z}
use mir.ValLaws.{to_z_pos, to_z-of_z}
use borrow.Author.Tests.{le-leb, lt-leb}
use Rattle.wrapping.specs.Wrap.{wrap32}
use Rattle.wrapping.proofs.WrapLaws.{wrap_fits}
use Rattle.logpack.specs.LogWord.{mantissa, shifted, magnitude, log_word}
use Rattle.logpack.proofs.TableRule.{entry_byte}

-- a mantissa has nine bits
pub mantissa_lt : (w : ℕ) → mantissa w < 512
unfolding mantissa
mantissa_lt w = omega (arith, entry_byte (w % 256) (omega arith))

-- a mantissa that is shifted right keeps to nine bits
pub shrunk_lt : (w k : ℕ) → mantissa w / 2 ^ k < 512
shrunk_lt w k = lt_of_le_of_lt (div-le_self (mantissa w) (2 ^ k)) (mantissa_lt w)

-- a mantissa that is shifted left by less than 32 keeps to 40 bits
pub grown_lt : (w k : ℕ) → mantissa w * 2 ^ (k % 32) < 1099511627776
grown_lt w k =
    let h : k % 32 ≤ 31 = omega arith in
    let p : 2 ^ (k % 32) ≤ 2 ^ 31 = pow-le-pow_right (omega arith) h in
    let q : mantissa w * 2 ^ (k % 32) ≤ mantissa w * 2147483648 = mul-le-mul_left (mantissa w) p in
    omega (arith, mantissa_lt w)

-- the value of a word with an exponent of at most 9
pub magnitude-right : (w : ℕ) → w / 256 ≤ 9 → magnitude w ≡ pos (mantissa w / 2 ^ (9 - w / 256))
unfolding magnitude
magnitude-right w h = rw (le-leb (w / 256) 9 h)

-- the value of a word with a greater exponent
pub magnitude-left : (w : ℕ) → 9 < w / 256 → magnitude w ≡ wrap32 (pos (mantissa w * 2 ^ ((w / 256 - 9) % 32)))
unfolding magnitude
magnitude-left w h = rw (lt-leb (w / 256) 9 h)

shifted_fits : (b : Bool) (w e : ℕ) → SFits w32 (shifted b (mantissa w) e)
shifted_fits true w e = record { sfits = omega (arith, shrunk_lt w (9 - e)) }
shifted_fits false w e = wrap_fits _

-- a value has 32 bits
pub magnitude-fits : (w : ℕ) → SFits w32 (magnitude w)
unfolding magnitude
magnitude-fits w = shifted_fits (leb (w / 256) 9) w (w / 256)

pub log_word-fits : (z : ℤ) → SFits w32 (log_word z)
unfolding log_word
log_word-fits (pos w) = magnitude-fits w
log_word-fits (negsuc w) = wrap_fits _

-- the value of a word with an exponent above 9, as the code comes by it: at 64 bits, then narrowed
pub left-raw : (w m : ℕ) (r : ℤ) → m ≡ mantissa w → r ≡ wrap32 (to_z w64 (m * 2 ^ ((w / 256 - 9) % 32) % 18446744073709551616)) → 9 < w / 256 → to_z w32 (of_z w32 r) ≡ magnitude w
left-raw w m r e f h =
    let x = mantissa w * 2 ^ ((w / 256 - 9) % 32) in
    let g : x % 18446744073709551616 ≡ x = omega (arith, grown_lt w (w / 256 - 9)) in
    rw (f, e, g, to_z_pos w64 x (omega (arith, grown_lt w (w / 256 - 9))), ← magnitude-left w h) (to_z-of_z w32 (magnitude w) (magnitude-fits w))

-- a word is a number of 32 bits
pub wider : {z : ℤ} → SFits w16 z → SFits w32 z
wider h = record { sfits = omega (arith, h.sfits) }
