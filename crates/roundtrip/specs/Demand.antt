-- Demand 3 as one statement, in document 01's words ("The words of demand 3", M1 to M7), over the
-- definitions of the four entries: analysis, packing, reading and decorrelation.
-- Assumes nothing.
use Rattle.std.specs.Prelude.{◌≡◌, true, List, ◌++◌, ℕ, ◌*◌, ◌≤◌, ℤ, length}
use Rattle.answers.specs.Limits.{max_frames, max_payload_bytes, bytes_per_frame, max_passes}
use Rattle.entropy.specs.Seed.{AcceptsEntropy}
use Rattle.samples.specs.View.{ReadTold, read_entry}
use Rattle.passes.specs.declared.DecorrPass.{DecorrPass}
use Rattle.passes.specs.Run.{Fit}
use Rattle.list_tests.specs.Tests.{all_valid}
use Rattle.decorrelation.specs.Lists.{Answer, decorrelation, analysis}
use Rattle.word_bits.specs.Residuals.{spanned}
use Rattle.packing.specs.Entry.{PackTold, packed_from, tell_packing, pack_entry, packed_bytes}

-- M1: "A recording is any list of 32-bit samples, two per frame, 0 frames included; a residual list
-- likewise."
pub record Recording (frames : ℕ) (list : List ℤ) : Type 0 where
  pub two_per_frame : length list ≡ 2 * frames
  pub samples-fit : Fit list

-- M2: "Passes are well-made when every term is valid, whatever their weights, deltas and histories
-- hold."
pub record WellMade (passes : List DecorrPass) : Type 0 where
  pub at_most_16 : length passes ≤ max_passes
  pub terms_valid : all_valid passes ≡ true

-- M3: "A residual list decorrelates to a recording when decorrelation, given the list as the
-- buffer, leaves that recording there."
pub record DecorrelatesTo (passes : List DecorrPass) (residuals recording : List ℤ) : Type 0 where
  pub accepted : (decorrelation passes residuals).refusal ≡ 0
  pub leaves : (decorrelation passes residuals).buffer ≡ recording

-- what reading answers of the packed bytes p and the bytes behind them, and decorrelation of what
-- was read, from the same start (M6)
pub record Returned (frames : ℕ) (passes : List DecorrPass) (recording : List ℤ) (p : PackTold) (read : ReadTold) (samples : Answer) : Type 0 where
  pub read-accepted : read.refusal ≡ 0
  pub all_read : read.written ≡ 2 * frames
  pub bits-used : read.bits ≡ p.bits
  pub medians-after : read.medians ≡ p.medians
  pub decorrelation-accepted : samples.refusal ≡ 0
  pub recording_back : samples.buffer ≡ recording
  -- M7: weights and histories, and with them the whole passes
  pub pass_states : samples.passes ≡ (analysis passes recording).passes

-- the demand, of a recording and its residual list
pub record Demand3 (frames : ℕ) (passes : List DecorrPass) (recording residuals : List ℤ) : Type 0 where
  -- there is a residual list that decorrelates to the recording ..
  pub a-residual-list : Recording frames residuals
  pub decorrelates : DecorrelatesTo passes residuals recording
  -- .. and exactly one
  pub exactly_one : (other : List ℤ) → Recording frames other → DecorrelatesTo passes other recording → other ≡ residuals
  -- every other list of its length gives another recording
  pub others-differ : (other : List ℤ) → Recording frames other → (other ≡ residuals → ⊥) → (decorrelation passes other).buffer ≡ recording → ⊥
  -- analysis finds that one
  pub analysis-accepts : (analysis passes recording).refusal ≡ 0
  pub analysis_finds : (analysis passes recording).buffer ≡ residuals
  -- if its residuals lie in the span, then under every entropy payload that reading accepts (M4)
  -- and with at least 28 bytes lent per frame the writer packs them, bit for bit as document 01
  -- says
  pub packs : (entropy buffer : List ℕ) → spanned residuals ≡ true → AcceptsEntropy entropy → bytes_per_frame * frames ≤ length buffer
      → pack_entry residuals entropy frames buffer ≡ tell_packing buffer (packed_from entropy residuals)
  -- whatever bytes or none follow the packed bytes (M5), within the payload limit, reading and
  -- decorrelating from the same start return exactly that recording; the bits used are the bits
  -- written, the medians after are the writer's, and the pass states after are those that analysis
  -- left
  pub returns : (entropy buffer behind : List ℕ) (list : List ℤ) → spanned residuals ≡ true → AcceptsEntropy entropy → bytes_per_frame * frames ≤ length buffer
      → let p = pack_entry residuals entropy frames buffer in length (packed_bytes p ++ behind) ≤ max_payload_bytes → length list ≡ 2 * frames
      → let read = read_entry entropy (packed_bytes p ++ behind) frames list in Returned frames passes recording p read (decorrelation passes read.list)

-- the bytes that the writer makes of a recording: the residuals that analysis finds, packed into a
-- buffer
abbrev pub written_bytes : ℕ → List DecorrPass → List ℕ → List ℕ → List ℤ → List ℕ
written_bytes frames passes entropy buffer recording = packed_bytes (pack_entry (analysis passes recording).buffer entropy frames buffer)

-- what is asked of a recording, of its passes and of the lent buffer for the writer to pack it
pub record Writable (frames : ℕ) (passes : List DecorrPass) (entropy buffer : List ℕ) (recording : List ℤ) : Type 0 where
  pub is_recording : Recording frames recording
  pub in_span : spanned (analysis passes recording).buffer ≡ true
  pub room : bytes_per_frame * frames ≤ length buffer

-- Could two different recordings look alike? Two that are written from the same start, and whose
-- bytes are alike, whatever follows each within the payload limit, are the same recording
abbrev pub NoTwoAlike : Type 0
NoTwoAlike =
    (frames : ℕ) (passes : List DecorrPass) (entropy : List ℕ) → frames ≤ max_frames → WellMade passes → AcceptsEntropy entropy
    → (one other : List ℤ) (buffer buffer' behind behind' : List ℕ) → Writable frames passes entropy buffer one → Writable frames passes entropy buffer' other
    → length (written_bytes frames passes entropy buffer one ++ behind) ≤ max_payload_bytes
    → written_bytes frames passes entropy buffer one ++ behind ≡ written_bytes frames passes entropy buffer' other ++ behind' → one ≡ other
