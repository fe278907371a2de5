-- `wave_file::lay_header` meets its contract. The loop's invariant: the first i fields are laid.
-- Assumes nothing.
use mathlib.Core.Path.{ap, ◌∙◌}
use Prim.Native.Nat.{ℕ, ◌*◌}
use native.Mathlib.Omega.{arith}
use mathlib.Core.List.{List}
use lib.ListN.{get_or}
use Rattle.overlay.specs.Overlay.{overlay}
use Rattle.little_endian.specs.LittleEndian.{little_endian}
use Rattle.wave_file.proofs.HeaderLaws.{header_words_lem, laid_none, laid_more, laid-all}
use Rattle.wave_file.proofs.lay_header.Goals as goal

pub loop-i-init : goal.loop-i-init
loop-i-init c =
    (c.header_words.ensures, laid_none _ _ c.requires.room)

pub loop-i-preserved : goal.loop-i-preserved
loop-i-preserved c =
    let e = c.lay_number.ensures
    ∙ ap (λ (w : List ℕ). overlay c.loop-i.out (4 * c.loop-i.i) (little_endian 4 (get_or w c.loop-i.i 0)))
    c.loop-i.invariant.0 in (
      c.loop-i.invariant.0,
      laid_more _ _ c.requires.room c.loop-i.out _ c.loop-i.i (omega arith) c.loop-i.invariant.1 e,
    )

pub returns : goal.returns
returns c =
    laid-all _ _ c.requires.room _ _ (omega arith) c.loop-i.invariant.1
    ∙ ap (overlay _ 0) (header_words_lem c.args.rate c.args.size)
