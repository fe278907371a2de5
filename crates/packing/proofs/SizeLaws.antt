-- How long packed words are: at most 111 bits each, so that 28 bytes a frame are enough.
-- Assumes nothing.
use mathlib.Core.Path.{◌≡◌}
use mathlib.Core.Bool.{Bool, true, false, cond}
use mathlib.Core.List.{List, [], ◌∷◌, ◌++◌}
use Prim.Native.Nat.{ℕ, zero, suc, ◌+◌, ◌-◌, ◌*◌, ◌^◌, ◌≤◌, ◌<◌}
use native.Mathlib.Omega.{arith}
use lib.IntN.{ℤ}
use lib.Signed.{mag}
use lib.ListN.{length, length-append}
use Rattle.answers.specs.Limits.{max_frames, max_word_bits, bytes_per_frame, residual_span}
use Rattle.bits.specs.Bits.{val, low}
use Rattle.bits.specs.Laid.{bytes_holding}
use Rattle.bits.proofs.BitLaws.{val_le, length-low}
use Rattle.bits.proofs.LaidLaws.{length_holding}
use Rattle.entropy.specs.Medians.{Medians, Small}
use Rattle.medians.specs.Interval.{low_of, high_of}
use Rattle.word_state.specs.State.{State, start, due, other, paid, in_run, unbroken, cleared, flagged, run_here, on_zeros}
use Rattle.word_bits.specs.Counts.{count}
use Rattle.word_bits.specs.Residuals.{zeros, ahead, sign, spanned}
use Rattle.word_bits.specs.Word.{value_field}
use Rattle.fields.specs.Written.{run_field, prefix_field, code_field}
use Rattle.word_bits.proofs.CountLaws.{smallest}
use Rattle.fields.proofs.LongLaws.{run_long, run-zero-long, prefix-long, code-long}
use Rattle.spans.proofs.SpanLaws.{within-parts}
use Rattle.word_bits.proofs.ZeroLaws.{zeros_le}
use Rattle.packing.specs.Packing.{Out, behind, silent, value_out, plain_out, fresh_out, word_out, packed}
use Rattle.packing.proofs.InStepLaws.{Inv, start-inv, due-small, kept}

-- ---- one word

-- code and sign take 29 bits at the most
value-long : (s : State) (v : ℤ) → Small (due s) → mag v < residual_span → length (value_out (count (due s) (mag v)) s v).bits ≤ 29
unfolding value_out value_field
value-long s v m h =
    let k = count (due s) (mag v) in
    let M = high_of (due s) k - low_of (due s) k in
    let c = mag v - low_of (due s) k in
    let l = (smallest (due s) (mag v) m h).plain.wide in
    omega (arith, length-append (code_field M c) (low 1 (sign v)), length-low 1 (sign v), code-long M c 28 l (omega arith))

-- with a prefix 110
plain-long : (s : State) (v : ℤ) (vs : List ℤ) → Small (due s) → mag v < residual_span → length (plain_out s v vs).bits ≤ 110
unfolding plain_out cleared flagged
plain-long s v vs m h = go s.last_zero
  where
    k : ℕ
    k = count (due s) (mag v)

    r : ℕ
    r = 2 * (k - val s.last_one) + val (ahead (other s) vs)

    go : (t : Bool) → length (cond t (value_out k (cleared s) v) (behind (prefix_field r) (value_out k (flagged (ahead (other s) vs) s) v))).bits ≤ 110
    go true = omega (arith, value-long (cleared s) v m h)
    go false =
        let l = (smallest (due s) (mag v) m h).prefix-fits in
        let f = flagged (ahead (other s) vs) s in
        omega (arith, length-append (prefix_field r) (value_out k f v).bits, value-long f v m h, prefix-long r (omega (arith, val_le (ahead (other s) vs))))

-- document 01 (K10): with a run length 111
pub word-long : (s : State) (v : ℤ) (vs : List ℤ) → Small (due s) → mag v < residual_span → length (v ∷ vs) < 2 ^ 32 → length (word_out s v vs).bits ≤ max_word_bits
unfolding word_out fresh_out unbroken
word-long s v vs m h few = go s.debt
  where
    n : ℕ
    n = zeros (v ∷ vs)

    out : ℕ → Out
    out j = on_zeros j (λ d. silent (in_run d s)) (plain_out (unbroken s) v vs)

    run : (j : ℕ) → j < 2 ^ 32 → length (run_field j ++ (out j).bits) ≤ max_word_bits
    run zero l = omega (arith, length-append (run_field 0) (plain_out (unbroken s) v vs).bits, run-zero-long, plain-long (unbroken s) v vs m h)
    run (suc d) l = omega (arith, length-append (run_field (suc d)) [], run_long (suc d) 32 (omega arith) l l)

    here? : (t : Bool) → length (cond t (behind (run_field n) (out n)) (plain_out (unbroken s) v vs)).bits ≤ max_word_bits
    here? true = run n (omega (arith, zeros_le (v ∷ vs)))
    here? false = omega (arith, plain-long (unbroken s) v vs m h)

    go : (j : ℕ) → length (on_zeros j (λ d. silent (paid d s)) (fresh_out s v vs)).bits ≤ max_word_bits
    go zero = here? (run_here s)
    go (suc d) = omega arith

-- ---- all words

-- at most 111 bits a word
pub packed-long : (s : State) (vs : List ℤ) → Inv s vs → spanned vs ≡ true → length vs < 2 ^ 32 → length (packed s vs).bits ≤ max_word_bits * length vs
unfolding packed
packed-long s [] i h few = omega arith
packed-long s (v ∷ vs) i h few =
    let o = word_out s v vs in
    let b = within-parts residual_span v vs h in
    omega (
      arith,
      length-append o.bits (packed o.next vs).bits,
      word-long s v vs (due-small i) b.0 few,
      packed-long o.next vs (kept s v vs i) b.1 (omega arith),
    )

-- so 28 bytes for each frame are enough
pub bytes-enough : (l r : Medians) (vs : List ℤ) (frames : ℕ) → Small l → Small r → spanned vs ≡ true → frames ≤ max_frames → length vs ≡ 2 * frames
    → length (bytes_holding (packed (start l r) vs).bits) ≤ bytes_per_frame * frames
bytes-enough l r vs frames sl sr h f e =
    omega (arith, length_holding (packed (start l r) vs).bits, packed-long (start l r) vs (start-inv l r vs sl sr) h (omega arith))
