-- A number below ten is one byte; any other is its tenth part, laid first, and its last digit. The
-- measure is the number.
-- Assumes nothing.
use Rattle.decimal.proofs.number.+put_decimal.Given as goal

abbrev pub decreases-put_decimal : goal.decreases-put_decimal
decreases-put_decimal l = l.n
