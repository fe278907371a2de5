-- `wave_file::lay_header` meets its contract. The loop's invariant: the first i fields are laid.
-- Assumes nothing.
use mathlib.Core.Path.{◌≡◌}
use Rattle.wave_file.specs.Words.{header_words}
use Rattle.wave_file.proofs.HeaderLaws.{Laid}
use Rattle.wave_file.proofs.lay_header.Given as goal

abbrev pub invariant-loop-i : goal.invariant-loop-i
invariant-loop-i l =
    (l.word-items ≡ header_words l.rate l.size) × Laid (header_words l.rate l.size) l.initial.out l.out l.i
