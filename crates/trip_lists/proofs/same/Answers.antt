-- `trip_lists::same` meets its contract.
-- Assumes nothing.
use mathlib.Core.Path.{sym, ◌∙◌}
use Rattle.std.specs.Cmp.Rules.{signed_items}
use Rattle.trip_lists.proofs.same.Goals as goal

pub returns : goal.returns
returns c =
    let d = signed_items c.args.a.now c.args.b.now in
    record { told = λ e. c.eq.ensures ∙ d.1 e; true-is = λ e. d.0 (sym c.eq.ensures ∙ e) }
