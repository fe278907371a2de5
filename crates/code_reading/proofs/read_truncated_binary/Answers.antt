-- `code_reading::read_truncated_binary` meets its contract: what is known of the bit length makes
-- the shift and the differences fit.
-- Assumes nothing.
use native.Mathlib.Omega.{arith}
use mathlib.Core.Path.{◌≡◌}
use Prim.Native.Nat.{ℕ, ◌*◌, ◌%◌, ◌^◌, ◌≤◌, ◌<◌}
use borrow.Author.Tests.{eq-eqb, ne_eqb}
use Rattle.fields.specs.Code.{bit_length, truncated_binary}
use Rattle.bits.proofs.BitLaws.{shl_one}
use Rattle.fields.proofs.LengthLaws.{Long, long, long_le}
use Rattle.code_reading.proofs.read_truncated_binary.Goals as goal

pub returns-then-last-eq0 : goal.returns-then-last-eq0
unfolding truncated_binary
returns-then-last-eq0 c = rw (eq-eqb _ _ c.if-last-eq0.true)

-- what is known of the bit length
len : (m b : ℕ) → b ≡ bit_length m → (m ≡ 0 → ⊥) → m < 2147483648
    → Long m b × (b ≤ 31) × (1 * 2 ^ b % 2 ^ 32 ≡ 2 ^ b)
len m b e n f =
    let l : Long m b = rw e (long m (omega arith) (omega arith)) in
    let h : b ≤ 31 = long_le m b 31 l f in
    (l, h, shl_one b 32 (omega arith))

pub overflow_shl-width : goal.overflow_shl-width
overflow_shl-width c =
    let l = len _ _ c.bit_length-width.ensures c.if-last-eq0.false c.requires.interval in omega arith

pub overflow_sub-width : goal.overflow_sub-width
overflow_sub-width c =
    let l = len _ _ c.bit_length-width.ensures c.if-last-eq0.false c.requires.interval in omega arith

pub overflow_sub-width-2 : goal.overflow_sub-width-2
overflow_sub-width-2 c =
    let l = len _ _ c.bit_length-width.ensures c.if-last-eq0.false c.requires.interval in omega arith

pub returns : goal.returns
unfolding truncated_binary
returns c =
    let l = len _ _ c.bit_length-width.ensures c.if-last-eq0.false c.requires.interval in
    rw (ne_eqb _ _ c.if-last-eq0.false, ← c.bit_length-width.ensures, ← l.2)
    c.read_code.ensures

pub read_code-requires-clause-width : goal.read_code-requires-clause-width
read_code-requires-clause-width c =
    let l = len _ _ c.bit_length-width.ensures c.if-last-eq0.false c.requires.interval in omega arith
