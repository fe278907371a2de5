-- The recordings of a file, counted and laid chunk by chunk.
-- Assumes nothing.
use mathlib.Core.Path.{◌≡◌, refl, sym, ap, ◌∙◌}
use mathlib.Core.Bool.{Bool, true, false, ◌||◌}
use mathlib.Core.List.{List}
use Prim.Native.Nat.{ℕ, ◌+◌, ◌-◌, ◌*◌, ◌≤◌, ◌<◌}
use native.Mathlib.Omega.{arith}
use borrow.Author.Tests.{ltb-true, ltb-false}
use lib.Dec.{ltb}
use lib.ListN.{length, length-append}
use lib.ListN.{get_or}
use lib.Seq.{take_all}
use Rattle.answers.proofs.TestLaws.{neither, clash}
use Rattle.overlay.specs.Overlay.{overlay}
use Rattle.archive.specs.Recording.{Recording}
use Rattle.archive.specs.Listing.{recordings_of, not_superseded, in_force, twice, listed, payloads, Sound}
use Rattle.archive.proofs.ListingLaws.{kept_on, kept-few, kept_small, listed_append, listed-length}
use Rattle.archive.proofs.ListingLaws.{payloads_append}
use Rattle.archive.proofs.PlaceLaws.{at-start, at-end}
use Rattle.archive_keys.proofs.KeyLaws.{keys_length, twice-none}
use Rattle.archive_keys.proofs.MarkLaws.{one}
use Rattle.archive_chunks.specs.Chunks.{file_keys, ChunkIs}
use Rattle.archive_payloads.specs.Kept.{kept, between, DoneIs, SupersededIs}
use Rattle.archive_payloads.proofs.LaidLaws.{Grown, grown-none, grown-more}
use Rattle.archive_reader.specs.Read.{ContentsAre}

-- none of the first recordings stands at another place too, or one is there twice
pub record Apart (file : List ℕ) (first : ℕ) (told : Bool) : Type 0 where
  pub never : told ≡ false → (q i : ℕ) → q < length (file_keys file) → i < first
      → get_or (file_keys file) i 0 ≡ get_or (file_keys file) q 0 → i ≡ q
  pub once : told ≡ true → twice (recordings_of file) ≡ true

module _ (file : List ℕ) where
  -- before the first chunk
  pub apart_none : Apart file 0 false
  apart_none = record { never = λ e q i h k. absurd (omega arith); once = λ e. clash e refl }

  pub done_none : Sound file → DoneIs file 0 0 0 0
  unfolding not_superseded payloads
  done_none s = record {
    at = at-start file s;
    counted = refl;
    summed = refl;
    few = omega arith;
    small =
        omega arith;
  }

  module _ {at first count next : ℕ} {met : Bool} {marks : List Bool}
      (c : ChunkIs file at first count next met marks) where
    -- a chunk more
    pub apart_more : (told new : Bool) → Apart file first told → new ≡ (told || met)
        → Apart file (first + count) new
    apart_more told new a e = record {
      never = λ f q i h k same. go (neither told met (sym e ∙ f)) q i h k same (ltb i first) refl;
      once = λ t. one told met (sym e ∙ t) a.once c.once;
    }
      where
        go : (told ≡ false) × (met ≡ false) → (q i : ℕ) → q < length (file_keys file) → i < first + count
            → get_or (file_keys file) i 0 ≡ get_or (file_keys file) q 0 → (t : Bool) → ltb i first ≡ t → i ≡ q
        go p q i h k same true z = a.never p.0 q i h (ltb-true _ _ z) same
        go p q i h k same false z =
            let w = ltb-false i first z in
            let m : first + (i - first) ≡ i = omega arith in
            sym m ∙ c.never p.1 q (i - first) h (omega arith)
            (ap (λ (x : ℕ). get_or (file_keys file) x 0) m ∙ same)

    -- which of its recordings are superseded
    pub chunk-marks : SupersededIs file first count marks
    chunk-marks =
        let n = c.size in
        let f = c.few in
        record { within = c.place.within; room = omega arith; marks = c.marks }

  -- all recordings
  apart-all : (told : Bool) (first : ℕ) → Sound file → first ≡ length (recordings_of file)
      → Apart file first told
      → told ≡ twice (recordings_of file)
  apart-all true first s e a = sym (a.once refl)
  apart-all false first s e a =
      let n = keys_length (recordings_of file) in
      sym (twice-none (recordings_of file) s.in_span
      (λ i j h k same. a.never refl j i (omega arith) (omega arith) same))

  kept_whole : (first : ℕ) → first ≡ length (recordings_of file)
      → kept file first ≡ in_force (recordings_of file)
  kept_whole first e = ap (not_superseded (recordings_of file))
      (take_all first (recordings_of file) (omega arith))

  pub counts_all : {first place recordings bytes : ℕ} {told : Bool} → Sound file
      → DoneIs file first place recordings bytes
      → Apart file first told → length file ≤ place
      → (told ≡ twice (recordings_of file)) × ContentsAre file recordings bytes
  counts_all {first} {place} {recordings} {bytes} {told} s d a h =
      let e = at-end file place first d.at h in
      let k = kept_whole first e in
      let i = d.at.inside in
      let f = d.few in
      let c : ContentsAre file recordings bytes = record {
        counted = d.counted ∙ ap length k;
        summed = d.summed ∙ ap (λ (l : List Recording). length (payloads l)) k;
        few = omega arith;
      } in
      (apart-all told first s e a, c)

  -- ---- laid

  pub laid_none : (list out : List ℕ) → Grown list list 0 (listed (kept file 0)) × Grown out out 0
      (payloads (kept file 0))
  unfolding not_superseded listed payloads
  laid_none list out = (grown-none list 0 _ refl, grown-none out 0 _ refl)

  module _ (first count : ℕ) {place n b : ℕ} (d : DoneIs file first place n b) where
    pub list_on : (before now after : List ℕ) → 4 * length (in_force (recordings_of file)) ≤ length before
        → Grown before now 0 (listed (kept file first))
        → after ≡ overlay now (4 * n) (listed (between file first count))
        → Grown before after 0 (listed (kept file (first + count)))
    list_on before now after room g l =
        let k = ap length (kept_on (recordings_of file) first count) in
        let a = length-append (kept file first) (between file first count) in
        let f = kept-few (recordings_of file) (first + count) in
        let x = listed-length (kept file first) in
        let y = listed-length (between file first count) in
        let p = d.counted in
        grown-more before now after 0 (4 * n) _ _ _ g (omega arith) (omega arith) l
        (sym (ap listed (kept_on (recordings_of file) first count)
        ∙ listed_append (kept file first) (between file first count)))

    pub out-on : (before now after : List ℕ) → length (payloads (in_force (recordings_of file))) ≤ length before
        → Grown before now 0 (payloads (kept file first))
        → after ≡ overlay now b (payloads (between file first count))
        → Grown before after 0 (payloads (kept file (first + count)))
    out-on before now after room g l =
        let k = ap (λ (x : List Recording). length (payloads x)) (kept_on (recordings_of file) first count) in
        let a = ap length (payloads_append (kept file first) (between file first count)) in
        let c = length-append (payloads (kept file first)) (payloads (between file first count)) in
        let f = kept_small (recordings_of file) (first + count) in
        let p = d.summed in
        grown-more before now after 0 b _ _ _ g (omega arith) (omega arith) l
        (sym (ap payloads (kept_on (recordings_of file) first count)
        ∙ payloads_append (kept file first) (between file first count)))

  pub all_laid : {first place n b : ℕ} {list list₀ out out₀ : List ℕ} → DoneIs file first place n b
      → length file ≤ place
      → Grown list₀ list 0 (listed (kept file first)) → Grown out₀ out 0 (payloads (kept file first))
      → (list ≡ overlay list₀ 0 (listed (in_force (recordings_of file))))
      × (out ≡ overlay out₀ 0 (payloads (in_force (recordings_of file))))
  all_laid {first} {place} {list₀ = list₀} {out₀ = out₀} d h g o =
      let k = kept_whole first (at-end file place first d.at h) in (
        g.laid ∙ ap (λ (l : List Recording). overlay list₀ 0 (listed l)) k,
        o.laid ∙ ap (λ (l : List Recording). overlay out₀ 0 (payloads l)) k,
      )
