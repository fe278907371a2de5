-- The store is the text of one byte.
-- Assumes nothing.
use mathlib.Core.Path.{refl}
use Rattle.overlay.proofs.OverlayLaws.{overlay_one}
use Rattle.decimal.proofs.text.put_byte.Goals as goal

pub returns : goal.returns
returns c = record { bytes = overlay_one _ _ _ c.requires; place = refl }
