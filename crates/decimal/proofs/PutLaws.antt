-- Texts put one behind the other are one text.
-- Assumes nothing.
use mathlib.Core.Path.{◌≡◌, sym, ap, ◌∙◌}
use mathlib.Core.List.{List, [], ◌∷◌, ◌++◌, append_assoc}
use Prim.Native.Nat.{ℕ, suc, ◌+◌, ◌/◌, ◌%◌, ◌≤◌, ◌<◌}
use native.Mathlib.Omega.{arith}
use lib.ListN.{length, set, take, drop, length-append}
use lib.Seq.{take-set-le, set_split, drop_at, length-take-le}
use Rattle.overlay.specs.Overlay.{overlay}
use Rattle.overlay.proofs.OverlayLaws.{overlay_none, overlay_two}
use Rattle.decimal.specs.Decimal.{decimal}
use Rattle.decimal.specs.TextPut.{TextPut}
use Rattle.decimal.proofs.DecimalLaws.{decimal-one, decimal-more}

-- a writer that has put nothing
pub put-none : (buf : List ℕ) (p : ℕ) → TextPut buf buf p p []
put-none buf p = record { bytes = sym (overlay_none buf p); place = omega arith }

-- a writer that goes on where another one ended
pub put_on : {buf mid end : List ℕ} {p q r : ℕ} {t u : List ℕ} → p ≤ length buf → TextPut buf mid p q t → TextPut mid end q r u → TextPut buf end p r (t ++ u)
put_on {buf} {mid} {end} {p} {q} {r} {t} {u} h a b = record {
  bytes = overlay_two buf mid end p q t u h (sym a.place) a.bytes b.bytes;
  place = omega (arith, length-append t u);
}

-- a byte that was stored behind where values are laid is laid with them
pub overlay_front : (list : List ℕ) (at : ℕ) (values : List ℕ) (byte : ℕ) → at + length values < length list
    → overlay (set list (at + length values) byte) at values ≡ overlay list at (values ++ (byte ∷ []))
unfolding overlay
overlay_front list at values byte h =
    let n = at + length values in
    let e : at + length (values ++ (byte ∷ [])) ≡ suc n = omega (arith, length-append values (byte ∷ [])) in
    let first : take at (set list n byte) ≡ take at list = take-set-le at list n byte (omega arith) in
    let rest : drop n (set list n byte) ≡ byte ∷ drop (suc n) list =
    ap (drop n) (set_split list n byte h) ∙ drop_at (take n list) (byte ∷ drop (suc n) list) n (length-take-le n list (omega arith)) in
    rw (first, rest, e) (simp append_assoc)

-- a text by another name
pub put_as : {a b : List ℕ} {p q : ℕ} {t u : List ℕ} → t ≡ u → TextPut a b p q t → TextPut a b p q u
put_as {a} {b} {p} {q} {t} {u} e w = record { bytes = w.bytes ∙ ap (overlay a p) e; place = w.place ∙ ap (λ (text : List ℕ). p + length text) e }

-- a number below ten is put as its digit
pub decimal-one-put : {a b : List ℕ} {at p : ℕ} (n byte : ℕ) → n < 10 → byte ≡ 48 + n → TextPut a b at p (byte ∷ []) → TextPut a b at p (decimal n)
decimal-one-put n byte h e w = rw (decimal-one n h, ← e) w

-- any other as its tenth part, and behind that its last digit
pub decimal-more-put : {a b c : List ℕ} {at p q : ℕ} (n byte : ℕ) → at ≤ length a → 10 ≤ n → byte ≡ 48 + n % 10
    → TextPut a b at p (decimal (n / 10)) → TextPut b c p q (byte ∷ []) → TextPut a c at q (decimal n)
decimal-more-put n byte h l e x y = rw (decimal-more n l, ← e) (put_on h x y)
