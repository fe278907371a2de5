-- `words::coded::decode_signed_value` meets its contract. A code lies within its interval, so low
-- plus code has 31 bits.
-- Assumes nothing.
use borrow.Author.Rules.{rules}
use native.Mathlib.Omega.{arith}
use mathlib.Core.Path.{◌≡◌, sym, ◌∙◌}
use mathlib.Core.Bool.{Bool}
use mathlib.Core.List.{List}
use Prim.Native.Nat.{ℕ, ◌+◌, ◌-◌, ◌*◌, ◌%◌, ◌<◌}
use mir.Facts.{to_z-of_z}
use mir.Syntax.{w32}
use mir.Val.{SFits}
use Rattle.bits.specs.Bits.{bits_of}
use Rattle.std.specs.Prelude.{Some}
use Rattle.bits.proofs.Window.{place-window}
use Rattle.entropy.specs.Medians.{medians_of}
use Rattle.fields.specs.Code.{truncated_binary}
use Rattle.fields.proofs.CodeLaws.{code-most}
use Rattle.medians.proofs.IntervalLaws.{Ends, told-ends}
use Rattle.words.proofs.PartLaws.{value-no_code, value-no_sign, value_read}
use Rattle.words.proofs.coded.decode_signed_value.Goals as goal

-- low and high are in order and have 31 bits
pub overflow_sub-interval : goal.overflow_sub-interval
overflow_sub-interval c = (told-ends _ _ _ _ c.sample_interval-interval.ensures).ordered

pub signed_code-got-requires-clause-interval : goal.signed_code-got-requires-clause-interval
signed_code-got-requires-clause-interval c =
    let e = told-ends _ _ _ _ c.sample_interval-interval.ensures in
    omega arith

pub signed_code-got-requires-clause-last : goal.signed_code-got-requires-clause-last
signed_code-got-requires-clause-last c = (told-ends _ _ _ _ c.sample_interval-interval.ensures).last

pub overflow_sub-interval-2 : goal.overflow_sub-interval-2
overflow_sub-interval-2 c = (told-ends _ _ _ _ c.sample_interval-interval.ensures).ordered

-- ---- out of a window

pub returns-then-place-payload : goal.returns-then-place-payload
returns-then-place-payload c =
    let s = c.args.payload.now in
    let p = c.args.place in
    let i = c.sample_interval-interval.result in
    let e = told-ends _ _ _ _ c.sample_interval-interval.ensures in
    let f : SFits w32 c.signed_code-got.result.value = search rules in
    let d : i.low + (i.high - i.low) ≡ i.high = omega (arith, e) in
    let w = place-window s p 8 _ (omega arith) (omega arith) c.eight.ensures in
    rw (to_z-of_z f)
    (c.signed_code-got.ensures.is (bits_of s) p (8 * 8 - p % 8) w (omega arith)
    (medians_of c.args.medians) c.args.ones_count
    c.sample_interval-interval.ensures.low-is (d ∙ c.sample_interval-interval.ensures.high_is))

-- ---- field by field

pub returns-in_err-code : goal.returns-in_err-code
returns-in_err-code c =
    let i = c.sample_interval-interval.ensures in
    rw c.from_residual.ensures
    (value-no_code (bits_of c.args.payload.now) c.args.place c.args.ones_count
    (medians_of c.args.medians) _ _ i.low-is i.high_is
    (sym c.read_truncated_binary.ensures ∙ c.in_err-code.was))

pub returns-in_err-sign : goal.returns-in_err-sign
returns-in_err-sign c =
    let i = c.sample_interval-interval.ensures in
    rw c.from_residual-in_err-sign.ensures
    (value-no_sign (bits_of c.args.payload.now) c.args.place c.args.ones_count
    (medians_of c.args.medians) _ _ i.low-is i.high_is
    _ _ (sym c.read_truncated_binary.ensures ∙ c.in_ok-code.was)
    (sym c.get_bit.ensures ∙ c.in_err-sign.was))

pub read_truncated_binary-requires-clause-interval : goal.read_truncated_binary-requires-clause-interval
read_truncated_binary-requires-clause-interval c =
    let e = told-ends _ _ _ _ c.sample_interval-interval.ensures in
    omega arith

-- a code within an interval of 31 bits
sum_lt : (bits : List Bool) (p low high : ℕ) {code next : ℕ} → Ends low high
    → truncated_binary bits p (high - low) ≡ Some (code, next) → low + code < 2147483648
sum_lt bits p low high e f =
    let m = code-most bits p (high - low) _ _ (omega (arith, e)) f in
    omega (arith, e)

pub overflow_add-low : goal.overflow_add-low
overflow_add-low c =
    let e = told-ends _ _ _ _ c.sample_interval-interval.ensures in
    omega (arith, sum_lt _ _ _ _ e (sym c.read_truncated_binary.ensures ∙ c.in_ok-code.was))

pub apply_sign-requires : goal.apply_sign-requires
apply_sign-requires c =
    let e = told-ends _ _ _ _ c.sample_interval-interval.ensures in
    sum_lt _ _ _ _ e (sym c.read_truncated_binary.ensures ∙ c.in_ok-code.was)

pub returns : goal.returns
returns c =
    let i = c.sample_interval-interval.ensures in
    let f : SFits w32 c.apply_sign.result = search rules in
    rw (to_z-of_z f, c.apply_sign.ensures)
    (value_read (bits_of c.args.payload.now) c.args.place c.args.ones_count
    (medians_of c.args.medians) _ _ i.low-is i.high_is
    _ _ _ _ (sym c.read_truncated_binary.ensures ∙ c.in_ok-code.was)
    (sym c.get_bit.ensures ∙ c.in_ok-sign.was))
