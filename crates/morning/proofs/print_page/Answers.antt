-- The array is never walked: its length is that of so many zeros.
-- Assumes nothing.
use Rattle.std.proofs.Common.{ℕ, sym}
use lib.ListN.{length-replicate}
use Rattle.morning.proofs.print_page.Goals as goal

pub slice_bounds-print_read-end : goal.slice_bounds-print_read-end
slice_bounds-print_read-end g c = sym (length-replicate {A = ℕ} 4194321 0)
