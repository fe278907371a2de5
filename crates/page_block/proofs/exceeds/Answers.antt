-- `page_block::exceeds` meets its contract.
-- Assumes nothing.
use mathlib.Core.Path.{◌≡◌, refl, ◌∙◌}
use mathlib.Core.Bool.{Bool, true, false, cond}
use mir.Val.{bool_byte}
use Rattle.page_block.specs.Heard.{exceeds}
use Rattle.page_block.proofs.exceeds.Goals as goal

one_or_none : (b : Bool) → bool_byte b ≡ cond b 1 0
one_or_none true = refl
one_or_none false = refl

pub returns : goal.returns
unfolding exceeds
returns c = c.from.ensures ∙ one_or_none _
