-- `passes::term_of` meets its contract. Assumes nothing.
use Rattle.std.proofs.Common.{rules, arith}
use Rattle.std.proofs.lemmas.Int.{ints}
use mir.Syntax.{w8}
use mir.ValLaws.{to_z-of_z}
use Rattle.passes.specs.Terms.{term_of}
use Rattle.passes.proofs.TermLaws.{by_bits, lag-valid, none-below, none-above}
use Rattle.passes.proofs.term_of.Goals as goal

pub returns-in-minus1 : goal.returns-in-minus1
unfolding term_of
returns-in-minus1 c = rw (by_bits _ 255 c.ranges.term (search rules))

pub returns-in-minus2 : goal.returns-in-minus2
unfolding term_of
returns-in-minus2 c = rw (by_bits _ 254 c.ranges.term (search rules))

pub returns-in-minus3 : goal.returns-in-minus3
unfolding term_of
returns-in-minus3 c = rw (by_bits _ 253 c.ranges.term (search rules))

pub returns-in-17 : goal.returns-in-17
unfolding term_of
returns-in-17 c = rw (by_bits _ 17 c.ranges.term (search rules))

pub returns-in-18 : goal.returns-in-18
unfolding term_of
returns-in-18 c = rw (by_bits _ 18 c.ranges.term (search rules))

pub returns-in-1-to-8 : goal.returns-in-1-to-8
returns-in-1-to-8 c = rw (to_z-of_z w8 _ c.ranges.term) (lag-valid c.args.term (omega (arith, ints)) (omega (arith, ints)))

pub returns-in_default : goal.returns-in_default
returns-in_default c = none-below c.args.term (omega (arith, ints)) (search rules) (search rules) (search rules)

pub returns-in_default-2 : goal.returns-in_default-2
returns-in_default-2 c = none-above c.args.term (omega (arith, ints)) (search rules) (search rules)
