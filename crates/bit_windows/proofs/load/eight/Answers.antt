-- `eight` meets its contract: eight bytes make their number one by one, by `more`. Assumes nothing.
use native.Mathlib.Omega.{arith}
use mathlib.Core.Path.{◌≡◌, refl}
use mathlib.Core.List.{List}
use Prim.Native.Nat.{ℕ, zero, suc, ◌+◌, ◌*◌, ◌^◌, ◌≤◌, ◌<◌}
use lib.ListN.{length, take, drop, get_or}
use Rattle.bits.specs.Bits.{num, bits_of}
use Rattle.bits.proofs.Window.{more, nothing}
use Rattle.bit_windows.proofs.load.eight.Goals as goal

-- the number of j bytes, byte by byte
abbrev bytes : List ℕ → ℕ → ℕ → ℕ
bytes s i zero = 0
bytes s i (suc j) = bytes s i j + get_or s (i + j) 0 * 2 ^ (8 * j)

bytes_are : (s : List ℕ) (i j : ℕ) → i + j ≤ length s → j ≤ 8 → ((k : ℕ) → get_or s k 0 < 256)
    → bytes s i j ≡ num (bits_of (take j (drop i s)))
bytes_are s i zero h l b = nothing (drop i s)
bytes_are s i (suc j) h l b =
    let before = bytes_are s i j (omega arith) (omega arith) b in
    let m = more s i j (bytes s i j) (get_or s (i + j) 0) (omega arith) (omega arith) before refl (b (i + j)) in
    let e : suc j ≡ j + 1 = omega arith in
    rw e m.same

pub returns : goal.returns
returns c =
    let e =
    bytes_are c.args.s.now c.args.i 8 (omega arith) (omega arith) (λ k. omega (arith, c.type_inv.s k)) in
    let z : c.args.i + 0 ≡ c.args.i = omega arith in
    rw (c.from_le_bytes.ensures, ← e, z) (omega arith)
