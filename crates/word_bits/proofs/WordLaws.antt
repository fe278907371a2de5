-- A located residual, gathered and laid, is the definition's word.
-- Assumes nothing.
use mathlib.Core.Path.{◌≡◌, ap, ◌∙◌}
use mathlib.Core.Bool.{Bool, cond}
use mathlib.Core.List.{List, ◌++◌}
use Prim.Native.Nat.{ℕ, ◌^◌, ◌≤◌, ◌<◌}
use native.Mathlib.Omega.{arith}
use lib.IntN.{ℤ, pos, negsuc}
use lib.ListN.{length-append}
use lib.Signed.{mag}
use Rattle.answers.specs.Limits.{residual_span, max_width}
use Rattle.bits.specs.Bits.{low}
use Rattle.bits.proofs.BitLaws.{length-low}
use Rattle.entropy.specs.Medians.{Medians, Small}
use Rattle.word_bits.specs.Counts.{count}
use Rattle.word_bits.specs.Residuals.{sign}
use Rattle.word_bits.specs.Word.{prefix_of, value_field}
use Rattle.fields.specs.Written.{prefix_field, code_field}
use Rattle.word_bits.specs.View.{LocatedIs, PutIs, WordIs}
use Rattle.word_bits.specs.declared.Located.{Located}
use Rattle.fields.specs.Gathered.{Gathers}
use Rattle.fields.specs.declared.Gathered.{Gathered}
use Rattle.word_bits.proofs.CountLaws.{smallest}
use Rattle.fields.proofs.LongLaws.{code-long}
use Rattle.fields.proofs.WrittenLaws.{known}

-- a located residual's code is within its interval, and 28 bits hold it
pub record Fits (r : Located) : Type 0 where
  pub within : r.code ≤ r.last
  pub wide : r.last < max_width
  pub few : r.count < residual_span

-- so it is for every residual in the span
pub located_fits : (m : Medians) (x : ℕ) (r : Located) → Small m → x < residual_span → LocatedIs m x r → Fits r
located_fits m x r s h l =
    let k = smallest m x s h in
    record {
      within = omega (arith, l.code_is, l.last-is, k.plain);
      wide = rw l.last-is k.plain.wide;
      few = omega (arith, l.count-is, k.within);
    }

-- a sign bit is below 2
pub sign_lt : (v : ℤ) → sign v < 2
sign_lt (pos n) = omega arith
sign_lt (negsuc n) = omega arith

-- what is gathered of it has 1 to 29 bits
pub record Coded (c : Gathered) : Type 0 where
  pub some : 0 < c.count
  pub few : c.count ≤ 29
  pub below : c.value < 2 ^ c.count

-- so it is for a code of 28 bits and a sign
pub coded : (M x s : ℕ) (c : Gathered) → M < max_width → Gathers (code_field M x ++ low 1 s) c → Coded c
coded M x s c h g =
    let l = length-append (code_field M x) (low 1 s) in
    let n = length-low 1 s in
    record {
      some = omega (arith, g.count-is);
      few = omega (arith, g.count-is, code-long M x 28 h (omega arith));
      below = (known (code_field M x ++ low 1 s) c g).below;
    }

-- the parts, put together
pub word-put : (before after : List ℕ) (at : ℕ) (m : Medians) (v : ℤ) (lz lo more : Bool) (x s p place : ℕ)
    (r : Located) (c : Gathered) → x ≡ mag v → LocatedIs m x r
    → s ≡ sign v → Gathers (code_field r.last r.code ++ low 1 s) c → p ≡ prefix_of r.count lo more
    → PutIs before after at
    (cond lz (low c.count c.value) (prefix_field p ++ low c.count c.value)) place
    → WordIs before after at m v lz lo more (record { place = place; medians = r.medians })
unfolding value_field
word-put before after at m v lz lo more x s p place r c xe l se g pe h =
    let k : x ≡ mag v = xe in
    let f : low c.count c.value ≡ value_field m (count m (mag v)) v =
    (known (code_field r.last r.code ++ low 1 s) c g).bits ∙ rw (l.last-is, l.code_is, xe, se) in
    let q : p ≡ prefix_of (count m (mag v)) lo more =
    pe ∙ ap (λ (n : ℕ). prefix_of n lo more) (l.count-is ∙ ap (count m) xe) in
    record {
      put_is = rw (f, q) at h;
      medians_are = rw xe at l.medians_are;
    }
