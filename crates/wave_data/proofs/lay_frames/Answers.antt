-- `wave_data::lay_frames` meets its contract. The loop's invariant: the first i frames are laid.
-- Assumes nothing.
use Prim.Native.Nat.{ℕ, ◌+◌, ◌*◌, ◌<◌}
use native.Mathlib.Omega.{arith}
use lib.IntN.{ℤ, pos}
use lib.ListN.{length, get_or}
use mathlib.Core.Path.{◌≡◌}
use mathlib.Core.Bool.{true}
use mathlib.Core.List.{List}
use Rattle.wave_data.specs.Data.{within16}
use mir.Facts.{to_z-of_z}
use mir.Syntax.{w16, w32}
use mir.Val.{SFits}
use borrow.Author.Rules.{rules}
use Rattle.spans.proofs.SpanLaws.{within-at}
use Rattle.wave_data.proofs.LayLaws.{laid_none, laid_more}
use Rattle.wave_data.proofs.lay_frames.Goals as goal

-- a sample that was read has 16 bits
sixteen : (samples : List ℤ) → within16 samples ≡ true → (i : ℕ) → i < length samples
    → SFits w16 (get_or samples i (pos 0))
sixteen samples b i h = record { sfits = within-at 32768 samples i b h }

pub overflow_cast-left : goal.overflow_cast-left
overflow_cast-left c =
    let f : SFits w32 (get_or c.args.samples.now (2 * c.loop-i.i) (pos 0)) = search rules in
    rw (to_z-of_z f) (sixteen c.args.samples.now c.requires.within (2 * c.loop-i.i) (omega arith))

pub overflow_cast-right : goal.overflow_cast-right
overflow_cast-right c =
    let f : SFits w32 (get_or c.args.samples.now (2 * c.loop-i.i + 1) (pos 0)) = search rules in
    rw (to_z-of_z f) (sixteen c.args.samples.now c.requires.within (2 * c.loop-i.i + 1) (omega arith))

pub loop-i-preserved : goal.loop-i-preserved
loop-i-preserved c =
    let samples = c.args.samples.now in
    let f : SFits w32 (get_or samples (2 * c.loop-i.i) (pos 0)) = search rules in
    let g : SFits w32 (get_or samples (2 * c.loop-i.i + 1) (pos 0)) = search rules in
    let e = rw (
      to_z-of_z f,
      to_z-of_z (sixteen samples c.requires.within (2 * c.loop-i.i) (omega arith)),
      to_z-of_z g,
      to_z-of_z (sixteen samples c.requires.within (2 * c.loop-i.i + 1) (omega arith)),
    ) at c.lay_frame.ensures in
    laid_more samples _ c.requires.fits c.loop-i.out _ c.loop-i.i (omega arith) c.loop-i.invariant e

pub loop-i-init : goal.loop-i-init
loop-i-init c = laid_none _ _ c.requires.fits
