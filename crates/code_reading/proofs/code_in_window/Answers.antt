-- `code_reading::code_in_window` meets its contract, by `code_in`: what is known of the bit length
-- makes shifts, casts and differences fit.
-- Assumes nothing.
use borrow.Author.Rules.{rules}
use native.Mathlib.Omega.{arith}
use mathlib.Core.Path.{◌≡◌, sym}
use Prim.Native.Nat.{ℕ, ◌-◌, ◌*◌, ◌%◌, ◌^◌, ◌≤◌, ◌<◌}
use native.Mathlib.Nat.{mod-eq_of_lt, mod-lt}
use lib.Pow.{pow_mono, pow_pos}
use Rattle.bits.proofs.BitLaws.{shl_one}
use Rattle.fields.proofs.WindowLaws.{Wide, wide, code_in}
use Rattle.code_reading.proofs.code_in_window.Goals as goal

-- what is known of the bit length b, of the two shifts by b - 1 and of the short code
record Parts (v M b : ℕ) : Type 0 where
  wide_is : Wide M b
  one : 1 * 2 ^ (b - 1) % 2 ^ 64 ≡ 2 ^ (b - 1)
  two : 2 * 2 ^ (b - 1) % 2 ^ 32 ≡ 2 ^ b
  some : 0 < 2 ^ (b - 1)
  most : 2 ^ (b - 1) ≤ 1073741824
  short : v % 2 ^ (b - 1) < 2 ^ (b - 1)

parts : (v M b : ℕ) → Wide M b → Parts v M b
parts v M b w =
    let h : b - 1 ≤ 30 = omega (arith, w.most) in
    record {
      wide_is = w;
      one = shl_one (b - 1) 64 (omega arith);
      two = rw (sym w.twice) (mod-eq_of_lt (omega (arith, w.twice, pow_mono h)));
      some = pow_pos (b - 1);
      most = pow_mono h;
      short = mod-lt v (pow_pos (b - 1));
    }

len : (c : goal.After-bit_length-short_width)
    → let a = c.args in Parts c.args.v c.args.last c.bit_length-short_width.result
len c =
    let a = c.args in
    parts c.args.v c.args.last c.bit_length-short_width.result
    (wide c.args.last c.bit_length-short_width.result (omega arith) c.bit_length-short_width.ensures)

pub overflow_sub-short_width : goal.overflow_sub-short_width
overflow_sub-short_width c = omega (arith, (len (search rules)).wide_is.some)

pub overflow_shl-short : goal.overflow_shl-short
overflow_shl-short c = omega (arith, (len (search rules)).wide_is.most)

pub overflow_cast-short-2 : goal.overflow_cast-short-2
overflow_cast-short-2 c = let l = len (search rules) in rw l.one (omega arith)

pub overflow_shl-extras : goal.overflow_shl-extras
overflow_shl-extras c = omega (arith, (len (search rules)).wide_is.most)

pub overflow_sub-extras : goal.overflow_sub-extras
overflow_sub-extras c = let l = len (search rules) in rw l.two (omega (arith, l.wide_is.above))

pub overflow_sub-extras-2 : goal.overflow_sub-extras-2
overflow_sub-extras-2 c = let l = len (search rules) in rw l.two (omega (arith, l.wide_is.above))

pub overflow_shr-extra : goal.overflow_shr-extra
overflow_shr-extra c = omega (arith, (len (search rules)).wide_is.most)

pub returns : goal.returns
returns c =
    let l = len (search rules) in
    rw (c.chosen.ensures, c.reached.ensures, l.one, l.two)
    (code_in c.args.v c.args.last c.bit_length-short_width.result (omega arith) l.wide_is)

pub chosen-requires-clause-short : goal.chosen-requires-clause-short
chosen-requires-clause-short c = let l = len (search rules) in rw l.one (omega arith)

pub nonzero_rem-short : goal.nonzero_rem-short
nonzero_rem-short c = let l = len (search rules) in rw l.one (omega arith)
