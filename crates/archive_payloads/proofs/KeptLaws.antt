-- The recordings in force, one recording further.
-- Assumes nothing.
use mathlib.Core.Path.{◌≡◌, refl, sym, ap, ◌∙◌}
use mathlib.Core.Bool.{Bool, true, false, cond}
use mathlib.Core.List.{List, [], ◌∷◌, append-nil}
use Prim.Native.Nat.{ℕ, ◌+◌, ◌*◌, ◌≤◌, ◌<◌}
use native.Mathlib.Omega.{arith}
use lib.ListN.{length, length-append}
use Rattle.overlay.specs.Overlay.{overlay}
use Rattle.overlay.proofs.OverlayLaws.{overlay_none}
use Rattle.archive.specs.Recording.{Recording, blocks_for}
use Rattle.archive.specs.Listing.{recordings_of, not_superseded, in_force, listed, payloads}
use Rattle.archive.specs.Places.{HeadOf, recording_at, no_recording}
use Rattle.archive.proofs.ListingLaws.{force-one, one_of, kept_on, kept-few, kept_small}
use Rattle.archive.proofs.ListingLaws.{payloads_append}
use Rattle.archive.proofs.PlaceLaws.{at_next}
use Rattle.archive_payloads.specs.Kept.{kept, between, superseded_at, DoneIs, CountedIs}
use Rattle.archive_payloads.specs.declared.Done.{Done}

module _ (file : List ℕ) (i : ℕ) (one : i < length (recordings_of file)) where
  abbrev r : Recording
  r = recording_at file i

  -- of one recording
  pub between-one : between file i 1 ≡ cond (superseded_at file i) [] (recording_at file i ∷ [])
  between-one = ap (not_superseded (recordings_of file)) (one_of (recordings_of file) i no_recording one)
      ∙ force-one (recordings_of file) r

  module _ (s : Bool) (e : s ≡ superseded_at file i) where
    -- how many, and their bytes
    one-count : length (between file i 1) ≡ cond s 0 1
    one-count = rw (between-one, ← e) (go s)
      where
        go : (t : Bool) → length (cond t [] (recording_at file i ∷ [])) ≡ cond t 0 1
        go true = refl
        go false = refl

    one-bytes : length (payloads (between file i 1)) ≡ cond s 0 (length (recording_at file i).payload)
    unfolding payloads
    one-bytes = rw (between-one, ← e) (go s)
      where
        go : (t : Bool) → length (payloads (cond t [] (recording_at file i ∷ []))) ≡ cond t 0
            (length (recording_at file i).payload)
        go true = refl
        go false = ap length (append-nil (recording_at file i).payload)

    -- a walk one recording further
    pub done_more : {place n b payload : ℕ} → DoneIs file i place n b
        → payload ≡ length (recording_at file i).payload
        → DoneIs file (i + 1) (place + 512 * blocks_for (12 + payload)) (n + cond s 0 1) (b + cond s 0 payload)
    done_more {place} {n} {b} {payload} d p =
        let rs = recordings_of file in
        let k = ap length (kept_on rs i 1) in
        let m = length-append (kept file i) (between file i 1) in
        let c = one-count in
        let ps = ap (λ (l : List Recording). length (payloads l)) (kept_on rs i 1) in
        let pa = ap length (payloads_append (kept file i) (between file i 1)) in
        let pm = length-append (payloads (kept file i)) (payloads (between file i 1)) in
        let q = one-bytes in
        let x = d.counted in
        let y = d.summed in
        let f = d.few in
        let g = d.small in
        rw p (record {
          at = at_next file place i d.at one;
          counted = omega arith;
          summed = omega arith;
          few = few-more s (omega arith);
          small = small-more s (omega arith);
        })
      where
        few-more : (t : Bool) → 512 * n ≤ place → 512 * (n + cond t 0 1) ≤ place + 512 * blocks_for
            (12 + length (recording_at file i).payload)
        few-more true h = omega arith
        few-more false h = omega arith

        small-more : (t : Bool) → b ≤ place → b + cond t 0
            (length (recording_at file i).payload) ≤ place + 512 * blocks_for
            (12 + length (recording_at file i).payload)
        small-more true h = omega arith
        small-more false h = omega arith

  -- ---- a superseded one

  pub skipped_list : (list : List ℕ) (at : ℕ) → superseded_at file i ≡ true
      → list ≡ overlay list at (listed (between file i 1))
  unfolding listed
  skipped_list list at e = rw (between-one, e) (sym (overlay_none list at))

  pub skipped_bytes : (out : List ℕ) (at : ℕ) → superseded_at file i ≡ true
      → out ≡ overlay out at (payloads (between file i 1))
  unfolding payloads
  skipped_bytes out at e = rw (between-one, e) (sym (overlay_none out at))

  -- ---- one in force

  module _ (e : superseded_at file i ≡ false) where
    in_force_lem : between file i 1 ≡ recording_at file i ∷ []
    in_force_lem = between-one ∙ rw e

    pub its_numbers : {h s k n : ℕ} → HeadOf (recording_at file i) h s k n
        → h ∷ s ∷ k ∷ n ∷ [] ≡ listed (between file i 1)
    unfolding listed
    its_numbers x = rw (in_force_lem, x.house, x.start, x.issue, x.payload)

    pub its_bytes : (recording_at file i).payload ≡ payloads (between file i 1)
    unfolding payloads
    its_bytes = rw in_force_lem (sym (append-nil (recording_at file i).payload))

    -- there is room for it
    pub list-room : {place n b : ℕ} → DoneIs file i place n b → (room : ℕ)
        → 4 * length (in_force (recordings_of file)) ≤ room → 4 * n + 4 ≤ room
    list-room d room h =
        let rs = recordings_of file in
        let f = kept-few rs (i + 1) in
        let k = ap length (kept_on rs i 1) in
        let m = length-append (kept file i) (between file i 1) in
        let c = one-count false (sym e) in
        let x = d.counted in
        omega arith

    pub bytes-room : {place n b : ℕ} → DoneIs file i place n b → (room : ℕ)
        → length (payloads (in_force (recordings_of file))) ≤ room
        → b + length (recording_at file i).payload ≤ room
    bytes-room d room h =
        let rs = recordings_of file in
        let f = kept_small rs (i + 1) in
        let ps = ap (λ (l : List Recording). length (payloads l)) (kept_on rs i 1) in
        let pa = ap length (payloads_append (kept file i) (between file i 1)) in
        let pm = length-append (payloads (kept file i)) (payloads (between file i 1)) in
        let q = one-bytes false (sym e) in
        let y = d.summed in
        omega arith

-- ---- a walk's numbers fit

-- a file is no longer than a slice can be
pub walk-room : (file : List ℕ) (i : ℕ) → i < length (recordings_of file) → {place n b payload : ℕ}
    → DoneIs file i place n b
    → payload ≡ length (recording_at file i).payload → length file < 18446744073709551616
    → (b ≤ place) × (n ≤ place) × (place + 512 * blocks_for (12 + payload) < 18446744073709551616)
walk-room file i one {place} {n} {b} {payload} d p h =
    let f = d.few in
    let g = d.small in
    let t = (at_next file place i d.at one).inside in
    rw p (g, omega arith, omega arith)

-- what a step answered is the walk one recording further
pub done-told : (file : List ℕ) (i : ℕ) {done r : Done} {s : Bool} {payload : ℕ}
    → DoneIs file i (done.place + 512 * blocks_for (12 + payload)) (done.recordings + cond s 0 1)
    (done.bytes + cond s 0 payload)
    → CountedIs done s payload r → DoneIs file i r.place r.recordings r.bytes
done-told file i d c = rw (c.place, c.recordings, c.bytes) d

pub done_on : (file : List ℕ) (first m : ℕ) {place n b : ℕ} → DoneIs file (first + m + 1) place n b
    → DoneIs file (first + (m + 1)) place n b
done_on file first m d =
    let e : first + (m + 1) ≡ first + m + 1 = omega arith in
    rw e d
