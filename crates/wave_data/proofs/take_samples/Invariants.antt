-- `wave_data::take_samples` meets its contract. The loop's invariant: the first i samples are
-- copied.
-- Assumes nothing.
use mathlib.Core.Path.{◌≡◌}
use Prim.Native.Nat.{◌-◌, ◌/◌}
use lib.ListN.{length}
use Rattle.wave_file.specs.File.{header_bytes}
use Rattle.wave_data.proofs.TakeLaws.{Taken}
use Rattle.wave_data.proofs.take_samples.Given as goal

abbrev pub invariant-loop-i : goal.invariant-loop-i
invariant-loop-i l = (l.count ≡ (length l.file - header_bytes) / 2)
    × Taken l.file l.initial.samples l.samples l.i
