-- A word that was packed is read back: the residual, the place behind the word, and the state that
-- packing goes on with.
-- Assumes nothing.
use mathlib.Core.Path.{◌≡◌, refl, ap, ap₂, ◌∙◌}
use mathlib.Core.Bool.{Bool, true, false, cond}
use mathlib.Core.List.{List, ◌∷◌}
use Prim.Native.Nat.{ℕ, zero, suc, ◌+◌, ◌-◌, ◌*◌, ◌/◌, ◌%◌, ◌^◌, ◌≤◌, ◌<◌}
use native.Mathlib.Omega.{arith}
use borrow.Author.Tests.{ltb-true, ltb-false}
use lib.IntN.{ℤ, pos, negsuc}
use lib.Signed.{mag}
use lib.ListN.{length, length-append}
use Rattle.answers.specs.Limits.{residual_span}
use Rattle.entropy.specs.Medians.{Small}
use Rattle.bits.specs.Bits.{val, bit_of, low}
use Rattle.bits.proofs.BitLaws.{val_le, length-low}
use Rattle.bits.proofs.RoundTrip.{At, at_first, at_second, low-at}
use Rattle.fields.specs.Counts.{prefix}
use Rattle.medians.specs.Interval.{low_of, high_of}
use Rattle.word_state.specs.State.{State, due, other, paid, in_run, unbroken, cleared, flagged, after, run_here, on_zeros}
use Rattle.words.specs.Word.{Word, given, on_prefix, signed, value, plain, fresh, word}
use Rattle.zones.specs.Report.{Report, none, zone_of}
use Rattle.words.proofs.PartLaws.{fresh-word, fresh-run}
use Rattle.word_bits.specs.Counts.{count}
use Rattle.word_bits.specs.Residuals.{zeros, ahead, sign}
use Rattle.packing.specs.Packing.{Out, behind, silent, value_out, plain_out, fresh_out, word_out}
use Rattle.word_bits.specs.Word.{value_field}
use Rattle.fields.specs.Written.{run_field, prefix_field, code_field}
use Rattle.word_bits.proofs.CountLaws.{smallest}
use Rattle.packing.proofs.InStepLaws.{Inv, due-small}
use Rattle.word_bits.proofs.ZeroLaws.{zeros-head, zeros_le}
use Rattle.roundtrip.proofs.FieldTrips.{run_at, prefix-at, code_at}

-- ---- code and sign

-- the sign bit and the magnitude give the residual
sign-is : (v : ℤ) (n : ℕ) → n ≡ mag v → signed (sign v % 2 ^ 1) n ≡ v
sign-is (pos m) n e = ap pos e
sign-is (negsuc m) n e = ap negsuc e

-- code and sign are read back
pub value-at : {bits : List Bool} {p : ℕ} (s : State) (v : ℤ) → Small (due s) → mag v < residual_span → At bits p (value_out (count (due s) (mag v)) s v).bits
    → value bits p (count (due s) (mag v)) s
    ≡ given v (p + length (value_out (count (due s) (mag v)) s v).bits) (after (count (due s) (mag v)) s) (zone_of (count (due s) (mag v)))
unfolding value value_out value_field
value-at {bits} {p} s v m h a =
    let k = count (due s) (mag v) in
    let l = (smallest (due s) (mag v) m h).plain in
    let M = high_of (due s) k - low_of (due s) k in
    let c = mag v - low_of (due s) k in
    let f = code_field M c in
    let z = low 1 (sign v) in
    rw (code_at M c (omega (arith, l.wide)) (omega (arith, l)) (at_first f z a), low-at 1 (sign v) (at_second f z a), sign-is v (low_of (due s) k + c) (omega (arith, l)))
    (ap (λ (n : ℕ). given v n (after k s) (zone_of k)) (omega (arith, length-append f z, length-low 1 (sign v))))

-- the word w, read at p, gives v, and goes on as o does
pub record Gives (w : Word) (p : ℕ) (v : ℤ) (o : Out) : Type 0 where
  pub report : Report
  pub reads : w ≡ given v (p + length o.bits) o.next report

-- a field is read, and then the rest
behind_gives : {w u : Word} {p : ℕ} {v : ℤ} (f : List Bool) (o : Out) → w ≡ u → Gives u (p + length f) v o → Gives w p v (behind f o)
behind_gives {p = p} {v = v} f o e t = record {
  report = t.report;
  reads = e ∙ t.reads ∙ ap (λ (n : ℕ). given v n o.next t.report) (omega (arith, length-append f o.bits));
}

-- ---- prefix or not

-- a prefix gives back the count and its low bit
halves : (k : ℕ) (a b : Bool) → val a ≤ k → ((2 * (k - val a) + val b) / 2 + val a ≡ k) × (bit_of ((2 * (k - val a) + val b) % 2) ≡ b)
halves k a false h = let e : (2 * (k - val a) + 0) % 2 ≡ 0 = omega arith in (omega arith, ap bit_of e)
halves k a true h = let e : (2 * (k - val a) + 1) % 2 ≡ 1 = omega arith in (omega arith, ap bit_of e)

-- a word with or without its prefix is read back
pub plain_at : {bits : List Bool} {p : ℕ} (s : State) (v : ℤ) (vs : List ℤ) → Inv s (v ∷ vs) → mag v < residual_span
    → At bits p (plain_out s v vs).bits → Gives (plain bits p s) p v (plain_out s v vs)
unfolding plain plain_out value_out ahead cleared flagged
plain_at {bits} {p} s v vs i h a = go s.last_zero refl a
  where
    k : ℕ
    k = count (due s) (mag v)

    b : Bool
    b = ahead (other s) vs

    r : ℕ
    r = 2 * (k - val s.last_one) + val b

    one_le : (t : Bool) → s.last_one ≡ t → val t ≤ k
    one_le true e = ltb-true 0 k (i.oned e).1
    one_le false e = omega arith

    go : (t : Bool) → s.last_zero ≡ t → At bits p (cond t (value_out k (cleared s) v) (behind (prefix_field r) (value_out k (flagged b s) v))).bits
        → Gives (cond t (value bits p 0 (cleared s)) (on_prefix (prefix bits p) λ r q. value bits q (r / 2 + val s.last_one) (flagged (bit_of (r % 2)) s))) p v
        (cond t (value_out k (cleared s) v) (behind (prefix_field r) (value_out k (flagged b s) v)))
    go true e a =
        let n : 0 ≡ k = omega (arith, ltb-false 0 k (i.zeroed e).1) in
        record { report = zone_of k; reads = ap (λ (j : ℕ). value bits p j (cleared s)) n ∙ value-at (cleared s) v (due-small i) h a }
    go false e a =
        let l = smallest (due s) (mag v) (due-small i) h in
        let x = halves k s.last_one b (one_le s.last_one refl) in
        let f = at_first (prefix_field r) (value_out k (flagged b s) v).bits a in
        behind_gives (prefix_field r) (value_out k (flagged b s) v) (rw (prefix-at r (omega (arith, l.prefix-fits, val_le b)) f, x.0, x.1))
        (record { report = zone_of k; reads = value-at (flagged b s) v (due-small i) h (at_second (prefix_field r) (value_out k (flagged b s) v).bits a) })

-- ---- run length or not

-- a zero that costs no bits
zero_gives : (q : ℕ) (v : ℤ) (t : State) → pos 0 ≡ v → Gives (given (pos 0) q t none) q v (silent t)
zero_gives q v t e = record { report = none; reads = ap₂ (λ (x : ℤ) (n : ℕ). given x n t none) e (omega arith) }

-- the same with run_break cleared
unbroken-at : {bits : List Bool} {p : ℕ} (s : State) (v : ℤ) (vs : List ℤ) → Inv s (v ∷ vs) → mag v < residual_span
    → At bits p (plain_out (unbroken s) v vs).bits → Gives (plain bits p (unbroken s)) p v (plain_out (unbroken s) v vs)
unfolding unbroken
unbroken-at s v vs i h a =
    plain_at (unbroken s) v vs (record { owed = i.owed; zeroed = i.zeroed; oned = i.oned; small-left = i.small-left; small-right = i.small-right }) h a

-- a word with or without a run length is read back
pub fresh_at : {bits : List Bool} {p : ℕ} (s : State) (v : ℤ) (vs : List ℤ) → Inv s (v ∷ vs) → mag v < residual_span → length (v ∷ vs) < 2 ^ 32
    → At bits p (fresh_out s v vs).bits → Gives (fresh bits p s) p v (fresh_out s v vs)
unfolding fresh_out
fresh_at {bits} {p} s v vs i h few a = here? (run_here s) refl a
  where
    n : ℕ
    n = zeros (v ∷ vs)

    -- the reader's and the packer's continuation after a run length of m
    read : ℕ → ℕ → Word
    read m q = on_zeros m (λ d. given (pos 0) q (in_run d s) none) (plain bits q (unbroken s))

    out : ℕ → Out
    out m = on_zeros m (λ d. silent (in_run d s)) (plain_out (unbroken s) v vs)

    run : (m q : ℕ) → n ≡ m → At bits q (out m).bits → Gives (read m q) q v (out m)
    run zero q e a = unbroken-at s v vs i h a
    run (suc x) q e a = zero_gives q v (in_run x s) (zeros-head v vs x (omega arith)).0

    here? : (t : Bool) → run_here s ≡ t → At bits p (cond t (behind (run_field n) (out n)) (plain_out (unbroken s) v vs)).bits
        → Gives (fresh bits p s) p v (cond t (behind (run_field n) (out n)) (plain_out (unbroken s) v vs))
    here? true t a =
        behind_gives (run_field n) (out n)
        (fresh-run bits p s t ∙ rw (run_at n (omega (arith, zeros_le (v ∷ vs))) (at_first (run_field n) (out n).bits a)))
        (run n (p + length (run_field n)) refl (at_second (run_field n) (out n).bits a))
    here? false t a =
        let g = unbroken-at s v vs i h a in
        record { report = g.report; reads = fresh-word bits p s t ∙ g.reads }

-- ---- one word

-- a word is read back
pub word_at : {bits : List Bool} {p : ℕ} (s : State) (v : ℤ) (vs : List ℤ) → Inv s (v ∷ vs) → mag v < residual_span → length (v ∷ vs) < 2 ^ 32
    → At bits p (word_out s v vs).bits → Gives (word bits p s) p v (word_out s v vs)
unfolding word word_out
word_at {bits} {p} s v vs i h few a = go s.debt refl a
  where
    go : (m : ℕ) → s.debt ≡ m → At bits p (on_zeros m (λ d. silent (paid d s)) (fresh_out s v vs)).bits
        → Gives (on_zeros m (λ d. given (pos 0) p (paid d s) none) (fresh bits p s)) p v (on_zeros m (λ d. silent (paid d s)) (fresh_out s v vs))
    go zero e a = fresh_at s v vs i h few a
    go (suc d) e a = zero_gives p v (paid d s) (zeros-head v vs d (omega (arith, i.owed))).0
