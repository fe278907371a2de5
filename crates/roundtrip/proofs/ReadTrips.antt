-- Reading what packing wrote, whatever bytes follow, returns the residuals, the bits written and
-- the medians: over the definitions of both entries.
-- Assumes nothing.
use mathlib.Core.Path.{◌≡◌, sym, ap, subst, ◌∙◌}
use mathlib.Core.Bool.{Bool, true}
use mathlib.Core.List.{List, [], ◌∷◌, ◌++◌}
use Prim.Native.Nat.{ℕ, ◌+◌, ◌*◌, ◌^◌, ◌≤◌, ◌<◌}
use native.Mathlib.Omega.{arith}
use borrow.Author.Tests.{le-ltb, eq-eqb}
use lib.IntN.{ℤ}
use lib.ListN.{length, length-append}
use Rattle.answers.specs.Limits.{max_frames, max_payload_bytes, residual_span}
use Rattle.overlay.specs.Overlay.{overlay}
use Rattle.overlay.proofs.OverlayLaws.{overlay_whole}
use Rattle.entropy.proofs.SeedBounds.{seeds-small}
use Rattle.bits.specs.Bits.{bits_of}
use Rattle.bits.specs.Laid.{bytes_holding}
use Rattle.bits.proofs.Trip.{at-bytes}
use Rattle.bits.proofs.RoundTrip.{At, at_first, at_second}
use Rattle.entropy.specs.Medians.{Medians, MedianPair, Small}
use Rattle.entropy.specs.Seed.{seed_refusal, seed_medians}
use Rattle.word_state.specs.State.{State, start}
use Rattle.readings.specs.Reading.{Reading, reading}
use Rattle.samples.specs.View.{ReadTold, read_words, read_refusal, read_entry}
use Rattle.word_bits.specs.Residuals.{spanned}
use Rattle.packing.specs.Packing.{Out, word_out, packed}
use Rattle.packing.specs.Entry.{PackTold, packed_from, pack_entry, packed_bytes}
use Rattle.packing.proofs.EntryLaws.{packing_accepted, packed-is, bytes_are}
use Rattle.packing.proofs.InStepLaws.{Inv, start-inv, kept}
use Rattle.spans.proofs.SpanLaws.{within-parts}
use Rattle.roundtrip.proofs.WordTrips.{word_at}

-- ---- all words

-- n words read, all of them accepted
abbrev accepted : List ℤ → ℕ → State → Reading
accepted vs p s = record { refusal = 0; samples = vs; place = p; state = s }

-- words that stand at a place are read: the residuals, the place behind them and the state after
-- them
read-packed : {bits : List Bool} {p : ℕ} (s : State) (vs : List ℤ) → Inv s vs → spanned vs ≡ true
    → length vs < 2 ^ 32
    → At bits p (packed s vs).bits
    → reading bits (length vs) p s ≡ accepted vs (p + length (packed s vs).bits) (packed s vs).next
unfolding reading packed
read-packed {bits} {p} s [] i h few a = ap (λ (n : ℕ). accepted [] n s) (omega arith)
read-packed {bits} {p} s (v ∷ vs) i h few a =
    let o = word_out s v vs in
    let r = packed o.next vs in
    let b = within-parts residual_span v vs h in
    let t = word_at s v vs i b.0 few (at_first o.bits r.bits a) in
    let n = read-packed {p = p + length o.bits} o.next vs (kept s v vs i) b.1 (omega arith) (at_second o.bits r.bits a) in
    rw (t.reads, n) (ap (λ (n : ℕ). accepted (v ∷ vs) n r.next) (omega (arith, length-append o.bits r.bits)))

-- the packed bytes, whatever bytes follow them
read_back_lem : (l r : Medians) (vs : List ℤ) (behind : List ℕ) → Small l → Small r → spanned vs ≡ true
    → length vs < 2 ^ 32
    → reading (bits_of (bytes_holding (packed (start l r) vs).bits ++ behind)) (length vs) 0 (start l r)
    ≡ accepted vs (length (packed (start l r) vs).bits) (packed (start l r) vs).next
read_back_lem l r vs behind sl sr h few =
    read-packed (start l r) vs (start-inv l r vs sl sr) h few (at-bytes (packed (start l r) vs).bits behind)
    ∙ ap (λ (n : ℕ). accepted vs n (packed (start l r) vs).next) (omega arith)

-- ---- the entries

-- reading accepts such a payload and list
reads : (entropy payload : List ℕ) (frames : ℕ) (list : List ℤ) → frames ≤ max_frames
    → length payload ≤ max_payload_bytes → length list ≡ 2 * frames → 0 ≡ seed_refusal entropy
    → read_entry entropy payload frames list ≡ read_words payload (seed_medians entropy) (2 * frames) list
unfolding read_entry read_refusal
reads entropy payload frames list f p l s =
    rw (le-ltb max_frames frames f, le-ltb max_payload_bytes (length payload) p, eq-eqb (length list) (2 * frames) l, ← s)

-- what reading tells of residuals that were packed: they are in the list, the bits used are the bits
-- written, and the medians after are the writer's
pub record ReadBack (frames : ℕ) (residuals : List ℤ) (p : PackTold) (read : ReadTold) : Type 0 where
  pub accepted : read.refusal ≡ 0
  pub bits-used : read.bits ≡ p.bits
  pub medians-after : read.medians ≡ p.medians
  pub all_read : read.written ≡ 2 * frames
  pub residuals-back : read.list ≡ residuals

-- a reading of as many samples as the list has leaves no element of it
whole : (payload : List ℕ) (seeds : MedianPair) (residuals list : List ℤ) (frames : ℕ) (p : PackTold) (w : Out)
    → reading (bits_of payload) (2 * frames) 0 (start seeds.left seeds.right) ≡ accepted residuals (length w.bits) w.next
    → length residuals ≡ 2 * frames → length list ≡ 2 * frames → p.bits ≡ length w.bits
    → p.medians ≡ record { left = w.next.left; right = w.next.right }
    → ReadBack frames residuals p (read_words payload seeds (2 * frames) list)
whole payload seeds residuals list frames p w r e l b m = record {
  accepted = ap (λ (x : Reading). x.refusal) r;
  bits-used = ap (λ (x : Reading). x.place) r ∙ sym b;
  medians-after = ap (λ (x : Reading). record { left = x.state.left; right = x.state.right }) r ∙ sym m;
  all_read = ap (λ (x : Reading). length x.samples) r ∙ e;
  residuals-back = ap (λ (x : Reading). overlay list 0 x.samples) r
      ∙ overlay_whole list residuals (omega arith);
}

-- Whatever bytes or none follow the packed bytes, within the payload limit, reading returns the
-- residuals; the bits used are the bits written, and the medians after are the writer's.
pub read_what_was_packed : (residuals : List ℤ) (entropy : List ℕ) (frames : ℕ) (buffer behind : List ℕ) (list : List ℤ)
    → let p = pack_entry residuals entropy frames buffer in
    p.refusal ≡ 0 → length (packed_bytes p ++ behind) ≤ max_payload_bytes → length list ≡ 2 * frames
    → ReadBack frames residuals p (read_entry entropy (packed_bytes p ++ behind) frames list)
read_what_was_packed residuals entropy frames buffer behind list e n l =
    let a = packing_accepted residuals entropy frames buffer e in
    let s = seeds-small entropy in
    let p = pack_entry residuals entropy frames buffer in
    let w = packed_from entropy residuals in
    let b = bytes_are residuals entropy frames buffer a in
    let m = seed_medians entropy in
    let j : reading (bits_of (bytes_holding w.bits ++ behind)) (2 * frames) 0 (start m.left m.right) ≡ accepted residuals (length w.bits) w.next =
    ap (λ (k : ℕ). reading (bits_of (bytes_holding w.bits ++ behind)) k 0 (start m.left m.right)) (sym a.before.list-is)
    ∙ read_back_lem m.left m.right residuals behind s.0 s.1 a.span (omega (arith, a.before.list-is, a.before.frames_few)) in
    let t = packed-is residuals entropy frames buffer a in
    let r = whole (bytes_holding w.bits ++ behind) m residuals list frames p w j a.before.list-is l
    (ap (λ (x : PackTold). x.bits) t) (ap (λ (x : PackTold). x.medians) t) in
    subst (ReadBack frames residuals p)
    (sym (ap (λ (x : List ℕ). read_entry entropy (x ++ behind) frames list) b
    ∙ reads entropy (bytes_holding w.bits ++ behind) frames list a.before.frames_few (rw b at n) l a.before.seeded)) r
