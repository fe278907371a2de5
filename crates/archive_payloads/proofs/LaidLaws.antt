-- The recordings in force of a chunk, laid one after the other.
-- Assumes nothing.
use mathlib.Core.Path.{◌≡◌, refl, sym, ap, ◌∙◌}
use mathlib.Core.List.{List, [], ◌++◌}
use Prim.Native.Nat.{ℕ, ◌+◌, ◌*◌, ◌≤◌}
use native.Mathlib.Omega.{arith}
use lib.ListN.{length, length-append}
use Rattle.overlay.specs.Overlay.{overlay}
use Rattle.overlay.proofs.OverlayLaws.{overlay_none, overlay_two, overlay_length}
use Rattle.archive.specs.Recording.{Recording}
use Rattle.archive.specs.Listing.{recordings_of, not_superseded, in_force, listed, payloads}
use Rattle.archive.proofs.ListingLaws.{kept_on, kept-few, kept_small, between_more, listed_append}
use Rattle.archive.proofs.ListingLaws.{listed-length, payloads_append}
use Rattle.archive_payloads.specs.Kept.{kept, between, DoneIs}

-- values were laid into a list from a place on
pub record Grown (before after : List ℕ) (at : ℕ) (values : List ℕ) : Type 0 where
  pub same_length : length after ≡ length before
  pub laid : after ≡ overlay before at values

-- none
pub grown-none : (list : List ℕ) (at : ℕ) (values : List ℕ) → values ≡ [] → Grown list list at values
grown-none list at values e = record {
  same_length = refl;
  laid = sym (ap (overlay list at) e
      ∙ overlay_none list at);
}

-- and others right after them
pub grown-more : (before now after : List ℕ) (at n : ℕ) (v w vw : List ℕ) → Grown before now at v
    → n ≡ at + length v
    → n + length w ≤ length before → after ≡ overlay now n w → v ++ w ≡ vw → Grown before after at vw
grown-more before now after at n v w vw g e h l q =
    let s = g.same_length in
    record {
      same_length = ap length l ∙ overlay_length now n w (omega arith) ∙ s;
      laid = overlay_two before now after at n v w (omega arith) (sym e) g.laid l
          ∙ ap (overlay before at) q;
    }

module _ (file : List ℕ) (first : ℕ) where
  -- nothing of a chunk is laid
  nothing : between file first 0 ≡ []
  unfolding not_superseded
  nothing = refl

  pub list-none : (list : List ℕ) (at : ℕ) → Grown list list at (listed (between file first 0))
  unfolding listed
  list-none list at = grown-none list at _ (ap listed nothing)

  pub out_none : (out : List ℕ) (at : ℕ) → Grown out out at (payloads (between file first 0))
  unfolding payloads
  out_none out at = grown-none out at _ (ap payloads nothing)

  module _ (m : ℕ) {place₀ n₀ b₀ place n b : ℕ} (d₀ : DoneIs file first place₀ n₀ b₀)
      (d : DoneIs file (first + m) place n b) where
    abbrev so_far : List Recording
    so_far = between file first m

    abbrev next : List Recording
    next = between file (first + m) 1

    pub list-more : (before now after : List ℕ) → 4 * length (in_force (recordings_of file)) ≤ length before
        → Grown before now (4 * n₀) (listed (between file first m))
        → after ≡ overlay now (4 * n) (listed (between file (first + m) 1))
        → Grown before after (4 * n₀) (listed (between file first (m + 1)))
    list-more before now after room g l =
        let k = ap length (kept_on (recordings_of file) first m) in
        let a = length-append (kept file first) (between file first m) in
        let k' = ap length (kept_on (recordings_of file) (first + m) 1) in
        let a' = length-append (kept file (first + m)) (between file (first + m) 1) in
        let f = kept-few (recordings_of file) (first + m + 1) in
        let x = listed-length (between file first m) in
        let y = listed-length (between file (first + m) 1) in
        let p = d₀.counted in
        let q = d.counted in
        grown-more before now after (4 * n₀) (4 * n) _ _ _ g (omega arith) (omega arith) l
        (sym (ap listed (between_more (recordings_of file) first m)
        ∙ listed_append (between file first m) (between file (first + m) 1)))

    pub out-more : (before now after : List ℕ)
        → length (payloads (in_force (recordings_of file))) ≤ length before
        → Grown before now b₀ (payloads (between file first m))
        → after ≡ overlay now b (payloads (between file (first + m) 1))
        → Grown before after b₀ (payloads (between file first (m + 1)))
    out-more before now after room g l =
        let bytes : List Recording → ℕ = λ x. length (payloads x) in
        let k = ap bytes (kept_on (recordings_of file) first m) in
        let a = ap length (payloads_append (kept file first) (between file first m)) in
        let c = length-append (payloads (kept file first)) (payloads (between file first m)) in
        let k' = ap bytes (kept_on (recordings_of file) (first + m) 1) in
        let a' = ap length (payloads_append (kept file (first + m)) (between file (first + m) 1)) in
        let c' = length-append (payloads (kept file (first + m))) (payloads (between file (first + m) 1)) in
        let f = kept_small (recordings_of file) (first + m + 1) in
        let p = d₀.summed in
        let q = d.summed in
        grown-more before now after b₀ b _ _ _ g (omega arith) (omega arith) l
        (sym (ap payloads (between_more (recordings_of file) first m)
        ∙ payloads_append (between file first m) (between file (first + m) 1)))
