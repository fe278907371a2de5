-- The round trip at run time: each way out, and that an accepted one brings the recording back.
-- Assumes nothing.
use mathlib.Core.Path.{◌≡◌, refl, sym, ap, subst, ◌∙◌}
use mathlib.Core.Bool.{Bool, true}
use mathlib.Core.List.{List, [], ◌++◌, append-nil}
use Prim.Native.Nat.{ℕ, zero, suc, ◌+◌, ◌*◌, ◌/◌, ◌≤◌, ◌<◌}
use native.Mathlib.Omega.{arith}
use borrow.Author.Tests.{eq-eqb, ne_eqb}
use lib.IntN.{ℤ}
use lib.ListN.{length, take, drop}
use Rattle.std.specs.Prelude.{Ok, Err}
use Rattle.answers.specs.declared.Refusal.{Refusal}
use Rattle.answers.specs.Guard.{or_else, unless_refused}
use Rattle.answers.specs.Limits.{max_elements, max_payload_bytes, max_word_bits}
use Rattle.answers.specs.Numbers.{number_of}
use Rattle.answers.proofs.GuardLaws.{guard_refused, guard_accepted}
use Rattle.answers.proofs.NumberLaws.{number-positive}
use Rattle.passes.specs.declared.DecorrPass.{DecorrPass}
use Rattle.passes.specs.Run.{Fit, Chain, decorrelated}
use Rattle.passes.proofs.RunInverse.{analysed-length, decorrelated-analysed}
use Rattle.passes.specs.declared.Direction.TheVariants.{Decorrelation, Analysis}
use Rattle.list_tests.specs.Tests.{all_valid}
use Rattle.decorrelation.specs.Lists.{Answer, done, followed, analysis_number, array_answer}
use Rattle.decorrelation.proofs.Theorems.{ArrayAccepted, array_accepts, array_runs}
use Rattle.packing.specs.Entry.{PackTold, view_packing, refusal_before_span, span_refusal, pack_entry, packed_bytes}
use Rattle.packing.specs.declared.Packed.{Packed}
use Rattle.packing.proofs.EntryLaws.{refusal_is, pack-refused, span_decides, packing_accepted, bytes-few, bits-within, bits-few}
use Rattle.packing.proofs.RefusalLaws.{Ready, ready}
use Rattle.trip_steps.specs.Steps.{early_refusal, read_back, BackIs}
use Rattle.trip_entry.specs.Trip.{TripTold, view_trip, refuse_trip, tell_trip}
use Rattle.trip_entry.specs.Trip.{trip_refusal, found, trip_entry}
use Rattle.roundtrip.proofs.ReadTrips.{ReadBack, read_what_was_packed}

-- ---- the early tests

-- analysis and packing before the span accept
pub record Early (ps : List DecorrPass) (n : ℕ) (x : List ℤ) (entropy buffer : List ℕ) : Type 0 where
  pub passes-made : ArrayAccepted ps n x
  pub lent : Ready (length x) entropy (length x / 2) (length buffer)

-- so it is where no refusal is known early
pub early : (ps : List DecorrPass) (n : ℕ) (x : List ℤ) (entropy buffer : List ℕ) → early_refusal ps n (length x) entropy (length buffer) ≡ 0
    → Early ps n x entropy buffer
early ps n x entropy buffer e = go (analysis_number (all_valid (take n ps)) n (length x)) refl e
  where
    go : (m : ℕ) → analysis_number (all_valid (take n ps)) n (length x) ≡ m → or_else m (refusal_before_span (length x) entropy (length x / 2) (length buffer)) ≡ 0
        → Early ps n x entropy buffer
    go zero a e = record { passes-made = array_accepts Analysis ps n x a; lent = ready (length x) entropy (length x / 2) (length buffer) e }
    go (suc m) a e = absurd (omega arith)

-- ---- where the packed bytes end

-- within the buffer, and far below the end of a word
pub record Ends (bits size : ℕ) : Type 0 where
  pub within : (bits + 7) / 8 ≤ size
  pub few : bits ≤ max_word_bits * max_elements

-- so they do where packing accepts
pub trip_ends : (v : List ℤ) (entropy : List ℕ) (frames : ℕ) (buffer after : List ℕ) (w : Packed) → view_packing (Ok w) after ≡ pack_entry v entropy frames buffer
    → Ends w.bits (length buffer)
trip_ends v entropy frames buffer after w k =
    let b = ap (λ (t : PackTold). t.bits) k in
    let acc = packing_accepted v entropy frames buffer (sym (ap (λ (t : PackTold). t.refusal) k)) in
    record { within = rw b (bits-within v entropy frames buffer acc); few = rw b (bits-few v entropy frames buffer) }

-- ---- the ways out

module _ (ps : List DecorrPass) (n : ℕ) (x : List ℤ) (entropy : List ℕ) (scratch : List ℤ) (buffer : List ℕ) where
  -- what follows where nothing is refused early
  later : TripTold
  later =
      unless_refused (span_refusal (found ps n x)) (refuse_trip (found ps n x) buffer) (tell_trip x (pack_entry (found ps n x) entropy (length x / 2) buffer))

  -- a refusal that is known before anything is written
  known : (q : Refusal) → trip_refusal ps n x entropy scratch buffer ≡ number_of q → view_trip (Err q) scratch buffer ≡ trip_entry ps n x entropy scratch buffer
  unfolding trip_entry later
  known q e = sym (guard_refused (number_of q) (refuse_trip scratch buffer) later (number-positive q)) ∙ rw e

  -- 6: a scratch list of another length
  pub trip_length : (length scratch ≡ length x → ⊥) → view_trip (Err Refusal.ListLength) scratch buffer ≡ trip_entry ps n x entropy scratch buffer
  unfolding trip_refusal
  trip_length h = known Refusal.ListLength (rw (ne_eqb (length scratch) (length x) h))

  -- what analysis refuses, and packing before the span
  pub trip_early : (q : Refusal) → length scratch ≡ length x → number_of q ≡ early_refusal ps n (length x) entropy (length buffer)
      → view_trip (Err q) scratch buffer ≡ trip_entry ps n x entropy scratch buffer
  unfolding trip_refusal
  trip_early q h e = known q (rw (eq-eqb (length scratch) (length x) h) (sym e))

  -- the definition, where nothing is refused early
  entry_is : length scratch ≡ length x → early_refusal ps n (length x) entropy (length buffer) ≡ 0 → trip_entry ps n x entropy scratch buffer ≡ later
  unfolding trip_entry trip_refusal later
  entry_is h e = rw (eq-eqb (length scratch) (length x) h, e)

  -- the code has found the residuals, and packing was lent what it asks for
  record Found (v : List ℤ) : Type 0 where
    is : v ≡ found ps n x
    size : length v ≡ length x
    lent : Ready (length v) entropy (length x / 2) (length buffer)
    passes-made : ArrayAccepted ps n x

  -- so it is after analysis
  found-is : (v : List ℤ) → v ≡ (array_answer Analysis ps n x).buffer
      → early_refusal ps n (length x) entropy (length buffer) ≡ 0
      → Found v
  found-is v e h =
      let a = early ps n x entropy buffer h in
      let is : v ≡ found ps n x =
      e ∙ ap (λ (a : Answer). a.buffer) (array_runs Analysis ps n x a.passes-made) in
      let size : length v ≡ length x = ap length is ∙ analysed-length (take n ps) x in
      record { is = is; size = size; lent = rw size a.lent; passes-made = a.passes-made }

  -- which refuses nothing then
  pub trip_found : {A : Type 0} (q : Refusal) → number_of q ≡ (array_answer Analysis ps n x).refusal
      → early_refusal ps n (length x) entropy (length buffer) ≡ 0 → A
  trip_found q e h =
      let r = ap (λ (a : Answer). a.refusal) (array_runs Analysis ps n x (early ps n x entropy buffer h).passes-made) in
      absurd (omega (arith, number-positive q))

  -- 10: a residual outside the span
  pub trip_span : (v : List ℤ) (after : List ℕ) (q : Refusal) → length scratch ≡ length x
      → v ≡ (array_answer Analysis ps n x).buffer → early_refusal ps n (length x) entropy (length buffer) ≡ 0
      → view_packing (Err q) after ≡ pack_entry v entropy (length x / 2) buffer
      → view_trip (Err q) v after ≡ trip_entry ps n x entropy scratch buffer
  unfolding later
  trip_span v after q h e g k =
      let f = found-is v e g in
      let f₀ = length x / 2 in
      let o = number_of q in
      let p : 0 < o = number-positive q in
      let k₀ : o ≡ (pack_entry v entropy f₀ buffer).refusal = ap (λ (a : PackTold). a.refusal) k in
      let s : o ≡ span_refusal (found ps n x) =
      k₀ ∙ refusal_is v entropy f₀ buffer
      ∙ span_decides v entropy f₀ buffer f.lent ∙ ap span_refusal f.is in
      let y : after ≡ buffer =
      ap (λ (a : PackTold). a.bytes) k ∙ pack-refused v entropy f₀ buffer (rw (← k₀) p) in
      let next = tell_trip x (pack_entry (found ps n x) entropy f₀ buffer) in
      rw (y, f.is) (sym (guard_refused o (refuse_trip (found ps n x) buffer) next p))
      ∙ ap (λ (a : ℕ). unless_refused a (refuse_trip (found ps n x) buffer) next) s
      ∙ sym (entry_is h g)

  -- what was packed is read back
  reads-back : (v : List ℤ) → let p = pack_entry v entropy (length x / 2) buffer in p.refusal ≡ 0
      → ReadBack (length x / 2) v p (read_back entropy (packed_bytes p) x v)
  reads-back v P =
      let f₀ = length x / 2 in
      let p = pack_entry v entropy f₀ buffer in
      let acc = packing_accepted v entropy f₀ buffer P in
      let few = bytes-few v entropy f₀ buffer acc in
      let limit : length (packed_bytes p ++ []) ≤ max_payload_bytes =
      rw (append-nil (packed_bytes p)) (omega (arith, few, acc.before.frames_few)) in
      rw (append-nil (packed_bytes p)) at (read_what_was_packed v entropy f₀ buffer [] v P limit acc.before.list-is)

  -- and decorrelated to the recording
  samples_back_lem : (v : List ℤ) → Fit x → Found v
      → array_answer Decorrelation ps n v ≡ done (followed (drop n ps) (decorrelated (take n ps) v))
      × ((decorrelated (take n ps) v).buffer ≡ x)
  samples_back_lem v fit f =
      let M = f.passes-made in
      let size : length v ≤ max_elements = omega (arith, f.size, M.size) in (
        array_runs Decorrelation ps n v (record { few = M.few; size = size; valid = M.valid }),
        ap (λ (t : List ℤ). (decorrelated (take n ps) t).buffer) f.is
            ∙ ap (λ (t : Chain). t.buffer) (decorrelated-analysed (take n ps) x fit),
      )

  -- the recording is back
  pub trip_back : Fit x → (v y : List ℤ) (after payload : List ℕ) (w : Packed) (same : Bool)
      → length scratch ≡ length x
      → v ≡ (array_answer Analysis ps n x).buffer → early_refusal ps n (length x) entropy (length buffer) ≡ 0
      → view_packing (Ok w) after ≡ pack_entry v entropy (length x / 2) buffer
      → payload ≡ take ((w.bits + 7) / 8) after → BackIs ps n entropy payload w.bits x v y same
      → view_trip (Ok (record { bits = w.bits; same = same })) y after ≡ trip_entry ps n x entropy scratch buffer
  unfolding later
  trip_back fit v y after payload w same h e g k b i =
      let f₀ = length x / 2 in
      let f = found-is v e g in
      let p = pack_entry v entropy f₀ buffer in
      let P : p.refusal ≡ 0 = sym (ap (λ (t : PackTold). t.refusal) k) in
      let B : w.bits ≡ p.bits = ap (λ (t : PackTold). t.bits) k in
      let acc = packing_accepted v entropy f₀ buffer P in
      let R = subst (λ (t : List ℕ). ReadBack f₀ v p (read_back entropy t x v)) (sym (b ∙ ap packed_bytes k)) (reads-back v P) in
      let S = samples_back_lem v fit f in
      let D = ap (λ (l : List ℤ). array_answer Decorrelation ps n l) R.residuals-back ∙ S.0 in
      let back : y ≡ x = i.leaves ∙ ap (λ (t : Answer). t.buffer) D ∙ S.1 in
      let used = R.bits-used ∙ sym B in
      let as_many = eq-eqb (read_back entropy payload x v).bits w.bits used in
      let told : same ≡ true =
      i.told
      ∙ rw (R.accepted, ap (λ (t : Answer). t.refusal) D, as_many)
      (i.equal_is.told (sym back)) in
      let v₀ = found ps n x in
      let s : span_refusal v₀ ≡ 0 = rw (← f.is, acc.span) in
      told_is w.bits p.bits same true y x after p.bytes B told back (ap (λ (t : PackTold). t.bytes) k)
      ∙ ap (λ (t : List ℤ). tell_trip x (pack_entry t entropy f₀ buffer)) f.is
      ∙ sym (guard_accepted (span_refusal v₀) (refuse_trip v₀ buffer) (tell_trip x
      (pack_entry v₀ entropy f₀ buffer)) s)
      ∙ sym (entry_is h g)
    where
      -- two answers with the same parts are the same
      told_is : (b b' : ℕ) (s s' : Bool) (l l' : List ℤ) (y y' : List ℕ) → b ≡ b' → s ≡ s' → l ≡ l' → y ≡ y'
          → ◌≡◌ {A = TripTold} (record { refusal = 0; bits = b; same = s; scratch = l; bytes = y }) (record { refusal = 0; bits = b'; same = s'; scratch = l'; bytes = y' })
      told_is b b' s s' l l' y y' q r t u = rw (q, r, t, u)
