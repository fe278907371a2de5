-- `trip_entry::round_trip` meets its contract.
-- Assumes nothing.
use mathlib.Core.Path.{◌≡◌, sym, ap}
use Prim.Native.Nat.{ℕ, ◌+◌, ◌/◌}
use native.Mathlib.Omega.{arith}
use lib.ListN.{take}
use lib.Seq.{length-take-le}
use Rattle.std.proofs.lemmas.Result.{err_from_is_err_and}
use Rattle.trip_entry.proofs.TripLaws.{trip_length, trip_early, trip_found, trip_span, trip_ends, trip_back}
use Rattle.trip_entry.proofs.round_trip.Goals as goal

pub returns-then-scratch-elements : goal.returns-then-scratch-elements
returns-then-scratch-elements c = trip_length _ _ _ _ _ _ c.if-scratch-elements.true

pub returns-in_err-early_refusal : goal.returns-in_err-early_refusal
returns-in_err-early_refusal c =
    let p = err_from_is_err_and c.from_residual.result c.from_residual.ensures.1 in
    rw (p.1, p.2) (trip_early _ _ _ _ _ _ _ c.if-scratch-elements.false c.in_err-early_refusal.ensures)

-- what analysis refuses was refused before
pub returns-in_err-try_find_residuals : goal.returns-in_err-try_find_residuals
returns-in_err-try_find_residuals c =
    trip_found _ _ c.args.recording.now c.args.entropy.now c.args.scratch.now c.args.packed.now _
    c.in_err-try_find_residuals.ensures.told (sym c.in_ok-early_refusal.ensures)

pub returns-in_err-written : goal.returns-in_err-written
returns-in_err-written c =
    let p = err_from_is_err_and c.from_residual-in_err-written.result c.from_residual-in_err-written.ensures.1 in
    rw (p.1, p.2)
    (trip_span _ _ c.args.recording.now _ _ _ _ _ _ c.if-scratch-elements.false c.in_ok-try_find_residuals.ensures.found
    (sym c.in_ok-early_refusal.ensures) c.in_err-written.ensures)

pub slice_bounds-read_back-end : goal.slice_bounds-read_back-end
slice_bounds-read_back-end c =
    let ends = trip_ends _ _ _ _ _ c.in_ok-written.written c.in_ok-written.ensures in
    omega (arith, c.encode_packed_samples_stereo_from_entropy.auto.out)

pub slice_bounds-read_back-end-2 : goal.slice_bounds-read_back-end-2
slice_bounds-read_back-end-2 c =
    let ends = trip_ends _ _ _ _ _ c.in_ok-written.written c.in_ok-written.ensures in
    sym (length-take-le _ _ (omega (arith, c.encode_packed_samples_stereo_from_entropy.auto.out)))

pub returns : goal.returns
returns c =
    let end : c.div_ceil-end.result ≡ (c.in_ok-written.written.bits + 7) / 8 = omega (arith, c.div_ceil-end.ensures) in
    trip_back _ _ c.args.recording.now _ _ _ c.in_ok-try_find_residuals.ensures.fit _ _ _ _ c.in_ok-written.written _
    c.if-scratch-elements.false c.in_ok-try_find_residuals.ensures.found (sym c.in_ok-early_refusal.ensures)
    c.in_ok-written.ensures
    (ap (λ (n : ℕ). take n c.encode_packed_samples_stereo_from_entropy.new.out) end) c.read_back-same.ensures
