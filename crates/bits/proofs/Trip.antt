-- What has been laid into bytes or into a buffer stands there, so that by RoundTrip it is read
-- back.
-- Assumes nothing.
use mathlib.Core.Path.{◌≡◌, refl, sym, ap, ap₂, ◌∙◌}
use mathlib.Core.Bool.{Bool}
use mathlib.Core.List.{List, [], ◌∷◌, ◌++◌, append_assoc}
use Prim.Native.Nat.{ℕ, ◌+◌, ◌-◌, ◌*◌, ◌/◌, ◌≤◌}
use native.Mathlib.Omega.{arith}
use lib.ListN.{length, take, drop}
use lib.Seq.{drop-append_seam, length-take-le}
use Rattle.bits.specs.Bits.{low, bits_of}
use Rattle.bits.specs.Laid.{bytes_holding, put}
use Rattle.bits.proofs.BitLaws.{length-bits}
use Rattle.bits.proofs.LaidLaws.{bits_append, bits_holding, put-parts}
use Rattle.bits.proofs.RoundTrip.{At}

-- the bytes that hold the bits before, f and after hold f behind before
pub at_holding : (before f after : List Bool) → At (bits_of (bytes_holding (before ++ (f ++ after)))) (length before) f
at_holding before f after =
    let w = before ++ (f ++ after) in
    let z = low (8 * ((length w + 7) / 8) - length w) 0 in
    record {
      rest = after ++ z;
      stands = ap (drop (length before)) (bits_holding w ∙ append_assoc before (f ++ after) z) ∙ drop-append_seam before (f ++ after ++ z) ∙ append_assoc f after z;
    }

-- what has just been put into a buffer stands there
pub at-put : (buf : List ℕ) (p : ℕ) (f : List Bool) → p ≤ 8 * length buf → At (bits_of (put buf p f)) p f
at-put buf p [] h = record { rest = drop p (bits_of (put buf p [])); stands = refl }
at-put buf p (b ∷ f) h =
    let t = take p (bits_of buf) in
    let w = t ++ b ∷ f in
    let z = low (8 * ((length w + 7) / 8) - length w) 0 ++ bits_of (drop ((length w + 7) / 8) buf) in
    let e : p ≡ length t = sym (length-take-le p (bits_of buf) (omega (arith, length-bits buf))) in
    record {
      rest = z;
      stands =
          ap₂ (λ (n : ℕ) (l : List Bool). drop n l) e (put-parts buf p (b ∷ f) (omega arith) ∙ append_assoc t (b ∷ f) z)
          ∙ drop-append_seam t (b ∷ f ++ z);
    }

-- the bytes that hold w hold it, whatever bytes follow
pub at-bytes : (w : List Bool) (s : List ℕ) → At (bits_of (bytes_holding w ++ s)) 0 w
at-bytes w s = record {
  rest = low (8 * ((length w + 7) / 8) - length w) 0 ++ bits_of s;
  stands = bits_append (bytes_holding w) s ∙ ap (λ (x : List Bool). x ++ bits_of s) (bits_holding w) ∙ append_assoc w _ (bits_of s);
}
