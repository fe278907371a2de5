-- A word's fields laid one behind the other, and the run length before them.
-- Assumes nothing.
use mathlib.Core.Path.{◌≡◌, sym, ap, ap₂, ◌∙◌}
use mathlib.Core.Bool.{Bool, true, false}
use mathlib.Core.List.{List, ◌++◌}
use Prim.Native.Nat.{ℕ, ◌+◌, ◌*◌, ◌≤◌, ◌<◌}
use native.Mathlib.Omega.{arith}
use lib.IntN.{ℤ}
use lib.ListN.{length, length-append}
use Rattle.bits.specs.Bits.{low}
use Rattle.bits.specs.Fields.{unary_field}
use Rattle.bits.specs.Laid.{put}
use Rattle.bits.proofs.BitLaws.{length-low}
use Rattle.bits.proofs.LaidLaws.{put-put}
use Rattle.bits.proofs.RoundTrip.{length-unary}
use Rattle.word_bits.specs.View.{PutIs, BeforeIs}
use Rattle.fields.specs.Written.{run_field, prefix_field}
use Rattle.word_bits.specs.Residuals.{zeros}
use Rattle.word_bits.specs.declared.Before.{Before}
use Rattle.fields.specs.Gathered.{Gathers}
use Rattle.fields.specs.declared.Gathered.{Gathered}
use Rattle.fields.proofs.LongLaws.{run-zero-long}
use Rattle.fields.proofs.WrittenLaws.{known, prefix-short}

-- a field, and then another
pub put_both : (before mid after : List ℕ) (at q p : ℕ) (f g : List Bool) → at ≤ 8 * length before
    → PutIs before mid at f q → PutIs mid after q g p
    → PutIs before after at (f ++ g) p
put_both before mid after at q p f g h a b = record {
  bytes = b.bytes ∙ ap₂ (λ (x : List ℕ) (y : ℕ). put x y g) a.bytes a.place ∙ put-put before at f g h;
  place = omega (arith, a.place, b.place, length-append f g);
}

-- the low bits of a number
pub put_low-is : (before after : List ℕ) (at count value : ℕ) → after ≡ put before at (low count value)
    → PutIs before after at (low count value) (at + count)
put_low-is before after at count value e =
    record { bytes = e; place = ap (λ (n : ℕ). at + n) (sym (length-low count value)) }

-- a word behind a prefix below 16, gathered in one number
pub ones-size : (p count value : ℕ) (w : Gathered) → Gathers (unary_field p ++ low count value) w
    → w.count ≡ p + 1 + count
ones-size p count value w g =
    omega (
      arith,
      g.count-is,
      length-append (unary_field p) (low count value),
      length-unary p,
      length-low count value,
    )

-- it is laid as the prefix and the word
pub put-short : (before after : List ℕ) (at p count value : ℕ) (w : Gathered) → p < 16
    → Gathers (unary_field p ++ low count value) w
    → after ≡ put before at (low w.count w.value)
    → PutIs before after at (prefix_field p ++ low count value) (at + w.count)
put-short before after at p count value w h g e =
    let k : low w.count w.value ≡ prefix_field p ++ low count value =
    (known (unary_field p ++ low count value) w g).bits
    ∙ ap (λ (f : List Bool). f ++ low count value) (sym (prefix-short p h)) in
    record {
      bytes = e ∙ ap (put before at) k;
      place = ap (λ (n : ℕ). at + n) (sym (length-low w.count w.value) ∙ ap length k);
    }

-- a word behind an escaped prefix
pub put-long : (before mid after : List ℕ) (at p q count value : ℕ) → at ≤ 8 * length before
    → (mid ≡ put before at (prefix_field p)) × (q ≡ at + length (prefix_field p))
    → after ≡ put mid q (low count value)
    → PutIs before after at (prefix_field p ++ low count value) (q + count)
put-long before mid after at p q count value h a e =
    put_both before mid after at q (q + count) (prefix_field p) (low count value) h
    (record { bytes = a.0; place = a.1 }) (put_low-is mid after q count value e)

-- a run length that was written is the definition's
pub before-run : (before after : List ℕ) (at : ℕ) (vs : List ℤ) (run place : ℕ) → run ≡ zeros vs
    → (after ≡ put before at (run_field run)) × (place ≡ at + length (run_field run))
    → BeforeIs before after at true vs (record { place = place; run = run })
before-run before after at vs run place e p = record {
  put_is =
      record {
        bytes = p.0 ∙ ap (λ (n : ℕ). put before at (run_field n)) e;
        place = p.1 ∙ ap (λ (n : ℕ). at + length (run_field n)) e;
      };
  run_is = e;
}

-- one that tells of no zeros takes one bit at the most
pub before-few : (before after : List ℕ) (at : ℕ) (t : Bool) (vs : List ℤ) (b : Before)
    → BeforeIs before after at t vs b → b.run ≡ 0 → b.place ≤ at + 1
before-few before after at true vs b h n =
    let z : zeros vs ≡ 0 = sym h.run_is ∙ n in
    omega (arith, h.put_is.place, ap (λ (x : ℕ). length (run_field x)) z, run-zero-long)
before-few before after at false vs b h n = omega (arith, h.put_is.place)
