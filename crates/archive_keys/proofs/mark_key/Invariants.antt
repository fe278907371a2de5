-- `archive_keys::mark_key`: the loop's invariant is that the keys from place j on are looked at, and the next
-- of the key's bucket is at j - 1. The measure is j.
-- Assumes nothing.
use Rattle.archive_keys.proofs.MarkLaws.{Passed}
use Rattle.archive_keys.proofs.mark_key.Given as goal

abbrev pub invariant-loop-j : goal.invariant-loop-j
invariant-loop-j l = Passed l.key l.index l.first l.keys l.count l.initial.marks l.marks l.twice l.j

abbrev pub decreases-loop-j : goal.decreases-loop-j
decreases-loop-j l = l.j
