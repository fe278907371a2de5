-- `int32_reassembly::put_in` meets its contract: literal bits and then redundant ones, or the latter
-- alone.
-- Assumes nothing.
use mathlib.Core.Path.{◌≡◌, sym, ap, ◌∙◌}
use mathlib.Core.List.{map}
use Prim.Native.Nat.{ℕ}
use Rattle.bits.specs.Bits.{bits_of}
use Rattle.int32_sample.specs.declared.Redundancy.{Redundancy}
use Rattle.int32_sample.specs.Setting.{Setting, width, reinsert}
use Rattle.int32.specs.Info.{setting_of}
use Rattle.int32.specs.Reassemble.{appended}
use Rattle.int32.proofs.WideLaws.{appended_fit, appended_nothing, reinserted_nothing}
use Rattle.int32_reassembly.proofs.put_in.Goals as goal

pub returns-then-info-eq0 : goal.returns-then-info-eq0
returns-then-info-eq0 c =
    let e : appended c.args.info.sent_bits (bits_of c.args.literal.now) c.args.samples.now
    ≡ c.args.samples.now =
    ap (λ (k : ℕ). appended k (bits_of c.args.literal.now) c.args.samples.now) c.if-info-eq0.true
    ∙ appended_nothing (bits_of c.args.literal.now) c.args.samples.now
    c.reinsert_redundancy.ensures.read in
    c.reinsert_redundancy.ensures.put
    ∙ ap (λ (s : Setting). map (reinsert s) c.args.samples.now) c.redundant_bits-bits.ensures
    ∙ ap (map (reinsert (setting_of c.args.info))) (sym e)

pub returns-then-redundancy_of-eq0 : goal.returns-then-redundancy_of-eq0
returns-then-redundancy_of-eq0 c =
    let s = setting_of c.args.info in
    let w : width s ≡ 0 = ap width (sym c.redundant_bits-bits.ensures) ∙ sym (ap (λ (r : Redundancy). r.count) c.redundancy_of.ensures)
    ∙ c.if-redundancy_of-eq0.true in
    let e = c.append_literals.ensures in
    e ∙ sym (reinserted_nothing s _ w
    (appended_fit c.args.info.sent_bits (bits_of c.args.literal.now) c.args.samples.now))
