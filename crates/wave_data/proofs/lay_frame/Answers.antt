-- `wave_data::lay_frame` meets its contract: the bytes of both samples are laid.
-- Assumes nothing.
use mathlib.Core.Path.{ap, ◌∙◌}
use mir.Facts.{to_z-of_z}
use mir.Syntax.{w16}
use mir.Val.{SFits}
use borrow.Author.Rules.{rules}
use Rattle.overlay.specs.Overlay.{overlay}
use Rattle.wave_data.proofs.LayLaws.{frame_is}
use Rattle.wave_data.proofs.lay_frame.Goals as goal

pub returns : goal.returns
returns c =
    let l : SFits w16 c.args.left = search rules in
    let r : SFits w16 c.args.right = search rules in
    c.lay.ensures
    ∙ ap (overlay _ c.args.at) (frame_is c.args.left c.args.right _ _ (rw (to_z-of_z l) at c.signed_bytes.ensures)
    (rw (to_z-of_z r) at c.signed_bytes-2.ensures))
