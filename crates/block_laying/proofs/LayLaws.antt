-- A block, laid field by field.
-- Assumes nothing.
use mathlib.Core.Path.{◌≡◌, sym, ap, ◌∙◌}
use mathlib.Core.List.{List, ◌++◌, append_assoc}
use Prim.Native.Nat.{ℕ, ◌+◌, ◌-◌, ◌*◌, ◌/◌, ◌%◌, ◌≤◌, ◌<◌}
use native.Mathlib.Omega.{arith}
use lib.ListN.{length, take, drop, replicate, length-append, length-drop}
use lib.Seq.{drop_at, take_all, take-append-le, length-take-le}
use Rattle.overlay.specs.Overlay.{overlay}
use Rattle.overlay.proofs.OverlayLaws.{overlay_two}
use Rattle.decimal.specs.TextPut.{TextPut}
use Rattle.decimal.proofs.PutLaws.{put_on}
use Rattle.little_endian.specs.LittleEndian.{little_endian}
use Rattle.archive.specs.Block.{max_used, checked_bytes, weighted_from, check_of, block_body, block}
use Rattle.archive.proofs.BlockLaws.{bytes-length, body_length}

-- two numbers of two bytes, laid as one of four
two_numbers : (a b : ℕ) → a < 65536 → little_endian 4 (a + 65536 * b) ≡ little_endian 2 a ++ little_endian 2 b
unfolding little_endian
two_numbers a b h =
    let p : (a + 65536 * b) % 256 ≡ a % 256 = omega arith in
    let q : (a + 65536 * b) / 256 ≡ a / 256 + 256 * b = omega arith in
    let r : (a / 256 + 256 * b) % 256 ≡ a / 256 % 256 = omega arith in
    let s : (a / 256 + 256 * b) / 256 ≡ b = omega arith in
    rw (p, q, r, s)

-- what is checked of a list that has a body from a place on
check_laid : (list body : List ℕ) (at : ℕ) → at ≤ length list → length body ≡ checked_bytes
    → check_of (drop at (overlay list at body)) ≡ check_of body
unfolding overlay
check_laid list body at h l =
    let rest = drop (at + length body) list in
    let there : drop at (take at list ++ body ++ rest) ≡ body ++ rest =
    rw append_assoc (drop_at (take at list) (body ++ rest) at (length-take-le at list h)) in
    let only : take checked_bytes (body ++ rest) ≡ take checked_bytes body =
    take-append-le checked_bytes body rest (omega arith) in
    ap check_of there ∙ ap (weighted_from 0) only

-- the part of a list from a place on
rest-is : (list : List ℕ) (at : ℕ) → take (length list - at) (drop at list) ≡ drop at list
rest-is list at = take_all (length list - at) (drop at list) (omega (arith, length-drop at list))

module _ (number at m e check : ℕ) (f p s0 s1 s2 s3 s4 s5 : List ℕ) where
  -- what is laid before the check: a number of four bytes, two lists, and zeros
  pub record Steps : Type 0 where
    pub head : s1 ≡ overlay s0 at (little_endian 4 (number + 65536 * (length f + length p)))
    pub front : TextPut s1 s2 (at + 4) m f
    pub part : TextPut s2 s3 m e p
    pub zeros : s4 ≡ overlay s3 e (replicate (at + checked_bytes - e) 0)

  -- it is the body of a block
  body_laid : number < 65536 → at ≤ length s0 → Steps → s4 ≡ overlay s0 at (block_body number (f ++ p))
  unfolding block_body
  body_laid n h t =
      let used = length f + length p in
      let w = little_endian 4 (number + 65536 * used) in
      let l = bytes-length 4 (number + 65536 * used) in
      let first : TextPut s0 s1 at (at + 4) w = record { bytes = t.head; place = omega arith } in
      let all = put_on h (put_on h first t.front) t.part in
      let q = length-append f p in
      let z : at + checked_bytes - e ≡ max_used - length (f ++ p) =
      omega (arith, t.front.place, t.part.place) in
      let zeros = replicate {A = ℕ} (at + checked_bytes - e) 0 in
      overlay_two s0 s3 s4 at e ((w ++ f) ++ p) zeros h (sym all.place) all.bytes t.zeros
      ∙ ap (overlay s0 at) (rw (z, two_numbers number used n, ← q) (simp append_assoc))

  -- with its check behind it the block
  pub block-laid : number < 65536 → length f + length p ≤ max_used → at ≤ length s0 → Steps
      → check ≡ check_of (take (length s4 - at) (drop at s4))
      → s5 ≡ overlay s4 (at + checked_bytes) (little_endian 4 check)
      → s5 ≡ overlay s0 at (block number (f ++ p))
  unfolding block
  block-laid n u h t five six =
      let body = block_body number (f ++ p) in
      let b = body_laid n h t in
      let l = body_length number (f ++ p) (omega (arith, length-append f p)) in
      let c : check ≡ check_of body = five ∙ rw (rest-is s4 at, b) (check_laid s0 body at h l) in
      let end = ap (λ (k : ℕ). at + k) l in
      overlay_two s0 s4 s5 at (at + checked_bytes) body (little_endian 4 (check_of body)) h end b (rw c at six)
