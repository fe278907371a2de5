-- `int32_sample::low_bits` meets its contract: the mask keeps the low bits.
-- Assumes nothing.
use mathlib.Core.Path.{◌≡◌, ap, ◌∙◌}
use lib.Bits.{bit_and}
use mir.Syntax.{w32}
use mir.Val.{to_z, of_z}
use mir.ValLaws.{to_z_pos}
use borrow.Author.Rules.{rules}
use Rattle.int32_sample.specs.Sample.{low_bits}
use Rattle.int32_sample.proofs.MachineLaws.{masked, low_small}
use Rattle.int32_sample.proofs.low_bits.Goals as goal

-- the masked sample, which is not negative
low : (c : goal.After-low_bits_mask) →
    to_z w32 (bit_and (of_z w32 c.args.x) c.low_bits_mask.result) ≡ lib.IntN.pos
    (low_bits c.args.count c.args.x)
low c =
    ap (to_z w32) (masked c.args.count (search rules) c.args.x _ (search rules) c.low_bits_mask.ensures)
    ∙ to_z_pos w32 _ (low_small c.args.count (search rules) c.args.x)

pub returns : goal.returns
returns c = rw (low (search rules))
