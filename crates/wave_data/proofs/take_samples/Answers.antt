-- `wave_data::take_samples` meets its contract. The loop's invariant: the first i samples are
-- copied.
-- Assumes nothing.
use mathlib.Core.Path.{◌∙◌}
use native.Mathlib.Omega.{arith}
use mir.Facts.{to_z-of_z}
use mir.Syntax.{w16, w32}
use mir.Val.{SFits}
use borrow.Author.Rules.{rules}
use Rattle.wave_data.proofs.SampleLaws.{file_samples_lem}
use Rattle.wave_data.proofs.TakeLaws.{taken_more, taken-all}
use Rattle.wave_data.proofs.take_samples.Goals as goal

pub bounds-samples-i : goal.bounds-samples-i
bounds-samples-i c =
    let n = file_samples_lem c.args.file.now in
    omega (arith, c.requires.room, c.loop-i.invariant.1.same_length)

pub loop-i-preserved : goal.loop-i-preserved
loop-i-preserved c =
    let n = file_samples_lem c.args.file.now in
    let f : SFits w16 c.signed_word.result = search rules in
    let e = c.from.ensures ∙ to_z-of_z f in
    let g : SFits w32 c.from.result = rw e (record { sfits = omega (arith, f.sfits) }) in
    rw (to_z-of_z g) (
      c.loop-i.invariant.0,
      taken_more _ _ c.loop-i.samples c.loop-i.i _ c.requires.room (omega arith) c.loop-i.invariant.1
          (e ∙ c.signed_word.ensures),
    )

pub returns : goal.returns
returns c =
    let n = file_samples_lem c.args.file.now in
    taken-all _ _ _ _ (omega arith) c.loop-i.invariant.1
