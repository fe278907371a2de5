-- Streams and the recordings that they hold, there and back.
-- Assumes nothing.
use mathlib.Core.Path.{◌≡◌}
use mathlib.Core.List.{List, [], ◌∷◌, ◌++◌, append_assoc}
use Prim.Native.Nat.{ℕ, ◌+◌, ◌≤◌, ◌<◌}
use native.Mathlib.Omega.{arith}
use lib.ListN.{length, take, drop, length-take, length-drop, take-append-drop}
use lib.Seq.{drop-drop}
use Rattle.answers.specs.Limits.{max_payload_bytes}
use Rattle.little_endian.specs.LittleEndian.{little_endian, from_little_endian}
use Rattle.little_endian.proofs.LittleEndianLaws.{number-back}
use Rattle.archive.specs.Block.{Bytes}
use Rattle.archive.specs.Recording.{Recording, InSpan, head_bytes, head, stream, of_stream}
use Rattle.archive.proofs.ByteLaws.{bytes_take, bytes_drop, bytes_append, bytes-number}
use Rattle.archive.proofs.ByteLaws.{number_bytes-back, short_back}

-- a recording comes back out of its stream
pub stream-back : (r : Recording) → InSpan r → of_stream (stream r) ≡ r
unfolding stream of_stream head little_endian
stream-back r s =
    let a = short_back r.house s.house in
    let b = number-back r.start s.start in
    let c = short_back r.issue s.issue in
    rw (a, b, c)

-- the length that a stream announces
pub stream-announces : (r : Recording) → InSpan r
    → from_little_endian (take 4 (drop 8 (stream r))) ≡ length r.payload
unfolding stream head little_endian
stream-announces r s = number-back (length r.payload) (let l = s.length in omega arith)

-- a stream consists of bytes
pub stream-bytes : (r : Recording) → InSpan r → Bytes (stream r)
unfolding stream head
stream-bytes r s =
    let h = little_endian 2 r.house in
    let t = little_endian 4 r.start in
    let i = little_endian 2 r.issue in
    let n = little_endian 4 (length r.payload) in
    bytes_append (h ++ t ++ i ++ n) r.payload
    (bytes_append (h ++ t ++ i) n (bytes_append (h ++ t) i
    (bytes_append h t (bytes-number 2 r.house) (bytes-number 4 r.start)) (bytes-number 2 r.issue))
    (bytes-number 4 (length r.payload))) s.bytes

-- bytes are those of the number that they hold
number_of : (count : ℕ) (l : List ℕ) → length l ≡ count → Bytes l
    → little_endian count (from_little_endian l) ≡ l
number_of count l e b = rw e at (number_bytes-back l b)

-- a number of bytes fits them
short-fits : (l : List ℕ) → length l ≡ 2 → Bytes l → from_little_endian l < 65536
unfolding from_little_endian
short-fits [] e b = absurd (omega arith)
short-fits (x ∷ []) e b = absurd (omega arith)
short-fits (x ∷ y ∷ []) e b = let p = b 0 in let q = b 1 in omega arith
short-fits (x ∷ y ∷ z ∷ l) e b = absurd (omega arith)

number_fits : (l : List ℕ) → length l ≡ 4 → Bytes l → from_little_endian l < 4294967296
unfolding from_little_endian
number_fits [] e b = absurd (omega arith)
number_fits (x ∷ []) e b = absurd (omega arith)
number_fits (x ∷ y ∷ []) e b = absurd (omega arith)
number_fits (x ∷ y ∷ z ∷ []) e b = absurd (omega arith)
number_fits (x ∷ y ∷ z ∷ w ∷ []) e b = let p = b 0 in let q = b 1 in let r = b 2 in let s = b 3 in omega arith
number_fits (x ∷ y ∷ z ∷ w ∷ v ∷ l) e b = absurd (omega arith)

module _ (s : List ℕ) (bytes : Bytes s) (announced : ℕ) (long : length s ≡ head_bytes + announced)
    (says : from_little_endian (take 4 (drop 8 s)) ≡ announced) (limit : announced ≤ max_payload_bytes) where
  part_length : (at count : ℕ) → at + count ≤ 12 → length (take count (drop at s)) ≡ count
  part_length at count h = let t = length-take count (drop at s) in let d = length-drop at s in omega arith

  part_bytes : (at count : ℕ) → Bytes (take count (drop at s))
  part_bytes at count = bytes_take count (drop at s) (bytes_drop at s bytes)

  part-back : (at count : ℕ) → at + count ≤ 12
      → little_endian count (from_little_endian (take count (drop at s))) ≡ take count (drop at s)
  part-back at count h = number_of count (take count (drop at s)) (part_length at count h)
      (part_bytes at count)

  payload-length : length (of_stream s).payload ≡ announced
  unfolding of_stream
  payload-length = let d = length-drop head_bytes s in omega arith

  -- a stream that announces its own length is that of the recording which it holds
  pub stream-is : stream (of_stream s) ≡ s
  unfolding stream head of_stream
  stream-is =
      let n : length (drop head_bytes s) ≡ announced = let d = length-drop head_bytes s in omega arith in
      let a = part-back 0 2 (omega arith) in
      let b = part-back 2 4 (omega arith) in
      let c = part-back 6 2 (omega arith) in
      let d = part-back 8 4 (omega arith) in
      let e : take 2 s ++ drop 2 s ≡ s = take-append-drop 2 s in
      let f : take 4 (drop 2 s) ++ drop 6 s ≡ drop 2 s = rw (← drop-drop 4 2 s)
      (take-append-drop 4 (drop 2 s)) in
      let g : take 2 (drop 6 s) ++ drop 8 s ≡ drop 6 s = rw (← drop-drop 2 6 s)
      (take-append-drop 2 (drop 6 s)) in
      let h : take 4 (drop 8 s) ++ drop 12 s ≡ drop 8 s = rw (← drop-drop 4 8 s)
      (take-append-drop 4 (drop 8 s)) in
      rw (n, ← says, a, b, c, d) (simp append_assoc (rw (h, g, f) e))

  -- and that is in span
  pub stream-in_span : InSpan (of_stream s)
  unfolding of_stream
  stream-in_span = record {
    house = short-fits (take 2 s) (part_length 0 2 (omega arith)) (part_bytes 0 2);
    start = number_fits (take 4 (drop 2 s)) (part_length 2 4 (omega arith)) (part_bytes 2 4);
    issue = short-fits (take 2 (drop 6 s)) (part_length 6 2 (omega arith)) (part_bytes 6 2);
    length = let d = length-drop head_bytes s in omega arith;
    bytes = bytes_drop head_bytes s bytes;
  }
