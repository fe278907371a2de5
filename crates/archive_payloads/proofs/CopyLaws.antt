-- A payload, copied block by block.
-- Assumes nothing.
use mathlib.Core.Path.{◌≡◌, refl, sym, ap, ◌∙◌}
use mathlib.Core.List.{List, [], ◌∷◌, ◌++◌, append_assoc}
use Prim.Native.Nat.{ℕ, ◌+◌, ◌-◌, ◌*◌, ◌/◌, ◌%◌, ◌≤◌, ◌<◌}
use native.Mathlib.Omega.{arith}
use lib.ListN.{length, take, drop, length-take, length-drop}
use lib.Seq.{take-add, take_all, drop_at, drop-drop, length-take-le}
use Rattle.overlay.specs.Overlay.{overlay}
use Rattle.overlay.proofs.OverlayLaws.{overlay_none, overlay_two, overlay_length}
use Rattle.archive.specs.Recording.{Recording, head, stream}
use Rattle.archive.specs.Listing.{recordings_of}
use Rattle.archive.specs.Places.{At, recording_at}
use Rattle.archive.proofs.BlockLaws.{head-length}
use Rattle.archive.proofs.PlaceLaws.{at-stream, at-part-fits}
use Rattle.archive_payloads.specs.Kept.{PartIs, source_of}

-- four numbers in the place of four of a list
pub entry-laid : (list : List ℕ) (at a b c d : ℕ) (part : List ℕ) → part ≡ a ∷ b ∷ c ∷ d ∷ []
    → take at list ++ (part ++ drop (at + 4 - at) (drop at list)) ≡ overlay list at (a ∷ b ∷ c ∷ d ∷ [])
unfolding overlay
entry-laid list at a b c d part e =
    let n : at + 4 - at ≡ 4 = omega arith in
    rw (e, n, drop-drop, append_assoc)

-- the payload behind the first twelve bytes of a stream
stream-payload : (r : Recording) → drop 12 (stream r) ≡ r.payload
unfolding stream
stream-payload r = drop_at (head r.house r.start r.issue (length r.payload)) r.payload 12
    (head-length r.house r.start r.issue (length r.payload))

module _ (file : List ℕ) (place i : ℕ) (a : At file place i) (one : i < length (recordings_of file)) where
  abbrev payload : List ℕ
  payload = (recording_at file i).payload

  module _ (done count : ℕ) (p : PartIs done (length (recording_at file i).payload) count) where
    -- the part lies within the file
    pub part-fits : source_of place done + count ≤ length file
    part-fits =
        let s = p.some in
        let l = p.left in
        at-part-fits file place i a one ((12 + done) / 504) ((12 + done) % 504) count p.inside
        (omega arith) s

    -- and is what comes next of the payload
    pub part-is : take count (drop (source_of place done) file) ≡ take count (drop done payload)
    part-is =
        let s = p.some in
        let l = p.left in
        let n : 504 * ((12 + done) / 504) + (12 + done) % 504 ≡ 12 + done = omega arith in
        at-stream file place i a one ((12 + done) / 504) ((12 + done) % 504) count p.inside (omega arith) s
        ∙ ap (λ (k : ℕ). take count (drop k (stream (recording_at file i)))) n
        ∙ ap (take count) (sym (drop-drop done 12 (stream (recording_at file i)))
        ∙ ap (drop done) (stream-payload (recording_at file i)))

-- so much of a payload is copied
pub record Copied (bytes before out : List ℕ) (to done : ℕ) : Type 0 where
  pub here : done ≤ length bytes
  pub same_length : length out ≡ length before
  pub laid : out ≡ overlay before to (take done bytes)

module _ (bytes before : List ℕ) (to : ℕ) (room : to + length bytes ≤ length before) where
  -- nothing
  pub copied_none : Copied bytes before before to 0
  copied_none = record { here = omega arith; same_length = refl; laid = sym (overlay_none before to) }

  -- a part more
  pub copied_more : (out after part : List ℕ) (done count : ℕ) → Copied bytes before out to done
      → done + count ≤ length bytes
      → part ≡ take count (drop done bytes) → after ≡ overlay out (to + done) part
      → Copied bytes before after to (done + count)
  copied_more out after part done count c h p e =
      let n = length-take-le done bytes c.here in
      let m : length part ≡ count = let t = length-take count
      (drop done bytes) in let d = length-drop done bytes in
      ap length p ∙ omega arith in
      let s = c.same_length in
      record {
        here = h;
        same_length = ap length e ∙ overlay_length out (to + done) part (omega arith) ∙ s;
        laid = overlay_two before out after to (to + done) (take done bytes) part (omega arith)
            (omega arith) c.laid e
            ∙ ap (overlay before to) (ap (λ (l : List ℕ). take done bytes ++ l) p
            ∙ sym (take-add done count bytes));
      }

  -- all of it
  pub copied_all : (out : List ℕ) (done : ℕ) → length bytes ≤ done → Copied bytes before out to done
      → out ≡ overlay before to bytes
  copied_all out done h c = c.laid ∙ ap (overlay before to) (take_all done bytes h)
