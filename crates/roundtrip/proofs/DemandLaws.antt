-- Demand 3, whole.
-- Assumes nothing.
use mathlib.Core.Path.{◌≡◌, sym, ap, subst, ◌∙◌}
use mathlib.Core.Bool.{true}
use mathlib.Core.List.{List, ◌++◌}
use Prim.Native.Nat.{ℕ, ◌*◌, ◌≤◌}
use native.Mathlib.Omega.{arith}
use lib.IntN.{ℤ}
use lib.ListN.{length}
use Rattle.answers.specs.Limits.{max_frames, max_payload_bytes, bytes_per_frame, max_elements}
use Rattle.entropy.specs.Seed.{AcceptsEntropy}
use Rattle.samples.specs.View.{read_entry}
use Rattle.passes.specs.declared.DecorrPass.{DecorrPass}
use Rattle.passes.specs.Run.{Chain, decorrelated, analysed}
use Rattle.passes.proofs.RunInverse.{analysed-fit, analysed-length, decorrelated-analysed}
use Rattle.passes.proofs.Unique.{residuals_unique}
use Rattle.passes.specs.declared.Direction.TheVariants.{Decorrelation, Analysis}
use Rattle.decorrelation.specs.Lists.{Answer, done, decorrelation, analysis}
use Rattle.decorrelation.proofs.Theorems.{Accepted, listed-accepts}
use Rattle.word_bits.specs.Residuals.{spanned}
use Rattle.packing.specs.Entry.{PackTold, packed_from, tell_packing, pack_entry, packed_bytes}
use Rattle.packing.proofs.EntryLaws.{packed-is}
use Rattle.roundtrip.proofs.ReadTrips.{ReadBack, read_what_was_packed}
use Rattle.roundtrip.specs.Demand.{Recording, WellMade, Demand3, Writable, written_bytes, NoTwoAlike}

module _ (ps : List DecorrPass) (l : List ℤ) (w : WellMade ps) (h : length l ≤ max_elements) where
  accepted : Accepted ps l
  accepted = record { well_made = w.terms_valid; few = w.at_most_16; short = h }

  -- decorrelation accepts them, and runs them
  decorrelation-is : decorrelation ps l ≡ done (decorrelated ps l)
  decorrelation-is = listed-accepts Decorrelation ps l accepted

  -- and so does analysis
  analysis-is : analysis ps l ≡ done (analysed ps l)
  analysis-is = listed-accepts Analysis ps l accepted

module _ (frames : ℕ) (passes : List DecorrPass) (recording : List ℤ) (few : frames ≤ max_frames) (w : WellMade passes) (x : Recording frames recording) where
  -- the residuals that analysis leaves, and what decorrelation makes of them
  abbrev found : List ℤ
  found = (analysed passes recording).buffer

  -- a recording has at most 262,144 samples
  size : (l : List ℤ) → length l ≡ 2 * frames → length l ≤ max_elements
  size l e = omega arith

  -- they are a residual list
  found-is : Recording frames found
  found-is = record { two_per_frame = analysed-length passes recording ∙ x.two_per_frame; samples-fit = analysed-fit passes recording x.samples-fit }

  -- analysis leaves them
  pub analysed-is : analysis passes recording ≡ done (analysed passes recording)
  analysed-is = analysis-is passes recording w (size recording x.two_per_frame)

  -- and decorrelating them returns the recording
  back : decorrelated passes found ≡ record { passes = (analysed passes recording).passes; buffer = recording }
  back = decorrelated-analysed passes recording x.samples-fit

  -- as the entry answers
  pub decorrelated-is : decorrelation passes found ≡ record { refusal = 0; passes = (analysed passes recording).passes; buffer = recording }
  decorrelated-is = decorrelation-is passes found w (size found found-is.two_per_frame) ∙ ap done back

  -- no other list does
  only : (other : List ℤ) → Recording frames other → (decorrelation passes other).buffer ≡ recording
      → other ≡ found
  only other o e =
      residuals_unique passes other found o.samples-fit found-is.samples-fit
      (sym (ap (λ (a : Answer). a.buffer) (decorrelation-is passes other w (size other o.two_per_frame))) ∙ e ∙ sym (ap (λ (c : Chain). c.buffer) back))

  -- in the span they are packed
  writes : (entropy buffer : List ℕ) → spanned found ≡ true → AcceptsEntropy entropy
      → bytes_per_frame * frames ≤ length buffer
      → pack_entry found entropy frames buffer ≡ tell_packing buffer (packed_from entropy found)
  writes entropy buffer s a r =
      packed-is found entropy frames buffer
      (record { before = record { frames_few = few; list-is = found-is.two_per_frame; seeded = sym a; enough = r }; span = s })

  -- what is read back is what was found
  pub read_is : (entropy buffer behind : List ℕ) (list : List ℤ) → spanned found ≡ true
      → AcceptsEntropy entropy → bytes_per_frame * frames ≤ length buffer
      → let p = pack_entry found entropy frames buffer in length (packed_bytes p ++ behind) ≤ max_payload_bytes
      → length list ≡ 2 * frames
      → ReadBack frames found p (read_entry entropy (packed_bytes p ++ behind) frames list)
  read_is entropy buffer behind list s a r n l =
      read_what_was_packed found entropy frames buffer behind list (ap (λ (t : PackTold). t.refusal) (writes entropy buffer s a r)) n l

  -- all of it, of these residuals
  demand : Demand3 frames passes recording found
  demand = record {
    a-residual-list = found-is;
    decorrelates = record { accepted = ap (λ (a : Answer). a.refusal) decorrelated-is; leaves = ap (λ (a : Answer). a.buffer) decorrelated-is };
    exactly_one = λ other o d. only other o d.leaves;
    others-differ = λ other o n e. n (only other o e);
    analysis-accepts = ap (λ (a : Answer). a.refusal) analysed-is;
    analysis_finds = ap (λ (a : Answer). a.buffer) analysed-is;
    packs = writes;
    returns = λ entropy buffer behind list s a r n l.
        let t = read_is entropy buffer behind list s a r n l in
        record {
          read-accepted = t.accepted;
          all_read = t.all_read;
          bits-used = t.bits-used;
          medians-after = t.medians-after;
          decorrelation-accepted = ap (λ (q : List ℤ). (decorrelation passes q).refusal) t.residuals-back
              ∙ ap (λ (q : Answer). q.refusal) decorrelated-is;
          recording_back = ap (λ (q : List ℤ). (decorrelation passes q).buffer) t.residuals-back
              ∙ ap (λ (q : Answer). q.buffer) decorrelated-is;
          pass_states =
              ap (λ (q : List ℤ). (decorrelation passes q).passes) t.residuals-back
              ∙ ap (λ (q : Answer). q.passes) decorrelated-is
              ∙ sym (ap (λ (q : Answer). q.passes) analysed-is);
        };
  }

-- Demand 3: every recording of at most 131,072 frames, under any at most 16 well-made passes.
pub demand_3 : (frames : ℕ) (passes : List DecorrPass) (recording : List ℤ) → frames ≤ max_frames
    → WellMade passes → Recording frames recording
    → Demand3 frames passes recording (analysis passes recording).buffer
demand_3 frames passes recording few w x =
    subst (Demand3 frames passes recording) (sym (ap (λ (a : Answer). a.buffer) (analysed-is frames passes recording few w x))) (demand frames passes recording few w x)

-- reading and decorrelating what the writer made of a recording returns it
written_back : (frames : ℕ) (passes : List DecorrPass) (entropy buffer behind : List ℕ) (recording list : List ℤ)
    → frames ≤ max_frames → WellMade passes → AcceptsEntropy entropy
    → Writable frames passes entropy buffer recording
    → length (written_bytes frames passes entropy buffer recording ++ behind) ≤ max_payload_bytes
    → length list ≡ 2 * frames
    → (decorrelation passes (read_entry entropy (written_bytes frames passes entropy buffer recording ++ behind) frames list).list).buffer ≡ recording
written_back frames passes entropy buffer behind recording list few w a x n l =
    ((demand_3 frames passes recording few w x.is_recording).returns entropy buffer behind list x.in_span a x.room n l).recording_back

-- No two recordings look alike: one payload is read as one recording.
pub no_two-alike : NoTwoAlike
no_two-alike frames passes entropy few w a one other buffer buffer' behind behind' x y n e =
    sym (written_back frames passes entropy buffer behind one one few w a x n x.is_recording.two_per_frame)
    ∙ ap (λ (payload : List ℕ). (decorrelation passes (read_entry entropy payload frames one).list).buffer) e
    ∙ written_back frames passes entropy buffer' behind' other one few w a y (subst (λ (payload : List ℕ). length payload ≤ max_payload_bytes) e n) x.is_recording.two_per_frame
