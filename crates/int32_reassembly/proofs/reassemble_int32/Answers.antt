-- `int32_reassembly::reassemble_int32` meets its contract: a refusal that the tests found, or the
-- samples completed.
-- Assumes nothing.
use mathlib.Core.Path.{◌≡◌, sym, ap, ap₂, ◌∙◌}
use mathlib.Core.List.{List}
use Prim.Native.Nat.{ℕ, ◌*◌}
use native.Mathlib.Omega.{arith}
use lib.IntN.{ℤ}
use lib.ListN.{length}
use Rattle.std.proofs.lemmas.Result.{err_from_is_err_and}
use Rattle.bits.specs.Bits.{bits_of}
use Rattle.int32.specs.Reassemble.{reassemble_refusal}
use Rattle.int32.proofs.InfoLaws.{few_bits}
use Rattle.int32.proofs.ReassembleLaws.{readable, reassemble_refused, reassemble_accepted, reassemble_length}
use Rattle.int32_reassembly.proofs.reassemble_int32.Goals as goal

pub returns-in_err-reassemble_refusal : goal.returns-in_err-reassemble_refusal
returns-in_err-reassemble_refusal c =
    let p = err_from_is_err_and c.from_residual.result c.from_residual.ensures.1 in
    rw (p.1, p.2) (reassemble_refused _ _ _ _ c.in_err-reassemble_refusal.ensures)

pub put_in-requires : goal.put_in-requires
put_in-requires c =
    let fine : reassemble_refusal c.args.info (length c.args.samples.now) (length c.args.literal.now) ≡ 0 =
    sym c.in_ok-reassemble_refusal.ensures in
    readable _ _ _ fine

pub overflow_cast-result : goal.overflow_cast-result
overflow_cast-result c =
    let fine : reassemble_refusal c.args.info (length c.args.samples.now) (length c.args.literal.now) ≡ 0 =
    sym c.in_ok-reassemble_refusal.ensures in
    -- the samples are as many as before
    let as_many : length c.put_in.new.samples ≡ length c.args.samples.now =
    ap length c.put_in.ensures
    ∙ reassemble_length c.args.info (bits_of c.args.literal.now) c.args.samples.now in
    let r = readable _ _ _ fine in
    rw as_many (record { fits = omega (arith, r.few) })

pub overflow_mul-result : goal.overflow_mul-result
overflow_mul-result c =
    let fine : reassemble_refusal c.args.info (length c.args.samples.now) (length c.args.literal.now) ≡ 0 =
    sym c.in_ok-reassemble_refusal.ensures in
    -- the samples are as many as before
    let as_many : length c.put_in.new.samples ≡ length c.args.samples.now =
    ap length c.put_in.ensures
    ∙ reassemble_length c.args.info (bits_of c.args.literal.now) c.args.samples.now in
    let r = readable _ _ _ fine in
    rw as_many (record { fits = omega (arith, few_bits _ _ r.fields r.few) })

pub returns : goal.returns
returns c =
    let fine : reassemble_refusal c.args.info (length c.args.samples.now) (length c.args.literal.now) ≡ 0 =
    sym c.in_ok-reassemble_refusal.ensures in
    -- the samples are as many as before
    let as_many : length c.put_in.new.samples ≡ length c.args.samples.now =
    ap length c.put_in.ensures
    ∙ reassemble_length c.args.info (bits_of c.args.literal.now) c.args.samples.now in
    ap₂ (λ (m : ℕ) (l : List ℤ). record { refusal = 0; bits = m * c.args.info.sent_bits; samples = l })
    as_many c.put_in.ensures
    ∙ sym (reassemble_accepted c.args.info c.args.samples.now c.args.literal.now fine)
