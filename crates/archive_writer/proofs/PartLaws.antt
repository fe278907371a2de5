-- Which bytes of the stream a block holds: some before the payload, and some of the payload.
-- Assumes nothing.
use mathlib.Core.Path.{◌≡◌, sym, ap, ◌∙◌}
use mathlib.Core.List.{List, [], ◌∷◌, ◌++◌}
use Prim.Native.Nat.{ℕ, zero, suc, ◌+◌, ◌-◌, ◌*◌, min}
use native.Mathlib.Omega.{arith}
use lib.ListN.{length, take, drop, length-drop}
use lib.Seq.{take_all, take-append-add}
use Rattle.std.proofs.lemmas.List.{take_min}
use Rattle.overlay.specs.Overlay.{overlay}
use Rattle.archive.specs.Block.{max_used, block}
use Rattle.archive.specs.Recording.{head_bytes}

-- what is dropped of two lists is first of the first
drop-two : (n skip : ℕ) (f p : List ℕ) → skip ≡ min n (length f)
    → drop n (f ++ p) ≡ drop skip f ++ drop (n - skip) p
drop-two n skip [] p e =
    let z : skip ≡ 0 = omega arith in
    let m : n - 0 ≡ n = omega arith in
    rw (z, m)
drop-two zero skip (x ∷ f) p e = let z : skip ≡ 0 = omega arith in rw z
drop-two (suc n) zero (x ∷ f) p e = absurd (omega arith)
drop-two (suc n) (suc skip) (x ∷ f) p e =
    let m : suc n - suc skip ≡ n - skip = omega arith in
    rw m (drop-two n skip f p (omega arith))

-- how many of the payload's bytes are in a block
count-is : (n skip from end bytes : ℕ) → from + skip ≡ n → end ≡ min (n + 492) bytes
    → end - from ≡ min (skip + 492) (bytes - from)
count-is n skip from end bytes b e = omega arith

-- f before the payload p: block i holds f from `skip` on, and p from `from` to `end`
pub part-is : (f p : List ℕ) (i skip from end : ℕ) → length f ≡ head_bytes → skip ≡ min (504 * i) 12
    → from ≡ 504 * i - skip → end ≡ min (504 * i + 492) (length p)
    → take (length f - skip) (drop skip f) ++ take (end - from) (drop from p)
    ≡ take max_used (drop (504 * i) (f ++ p))
part-is f p i skip from end h s b e =
    let rest = drop skip f in
    let two = drop-two (504 * i) skip f p (rw h s) in
    let l = length-drop skip f in
    let whole : take (length f - skip) rest ≡ rest = take_all (length f - skip) rest (omega arith) in
    let n : 504 ≡ length rest + (skip + 492) = omega arith in
    let m : end - from ≡ min (skip + 492) (length (drop from p)) =
    rw (length-drop from p) (count-is (504 * i) skip from end (length p) (omega arith) e) in
    let same : take (skip + 492) (drop from p) ≡ take (end - from) (drop from p) =
    sym (take_min (skip + 492) (drop from p)) ∙ ap (λ (j : ℕ). take j (drop from p)) (sym m) in
    rw (whole, ← same, two, ← b, n)
    (sym (take-append-add rest (drop from p) (skip + 492)))

-- so it is laid
pub part-laid : (f p out after : List ℕ) (i skip from end : ℕ) → length f ≡ head_bytes
    → skip ≡ min (504 * i) 12 → from ≡ 504 * i - skip → end ≡ min (504 * i + 492) (length p)
    → after ≡ overlay out (512 * i)
    (block i (take (length f - skip) (drop skip f) ++ take (end - from) (drop from p)))
    → after ≡ overlay out (512 * i) (block i (take max_used (drop (504 * i) (f ++ p))))
part-laid f p out after i skip from end h s b e l =
    l ∙ ap (λ (used : List ℕ). overlay out (512 * i) (block i used)) (part-is f p i skip from end h s b e)
