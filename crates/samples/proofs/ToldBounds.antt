-- What a reading tells is small: each sample has 32 bits, the refusal is at most 17 and one above 6
-- comes before any bit is used, and the samples written and the bits used fit 32 bits. The bits of both
-- stems together are the bits used (document 02, §8).
-- Assumes nothing.
use mathlib.Core.Path.{◌≡◌, refl}
use mathlib.Core.Bool.{Bool, true, false, cond, ◌||◌}
use mathlib.Core.List.{List}
use Prim.Native.Nat.{ℕ, zero, suc, ◌+◌, ◌*◌, ◌≤◌, ◌<◌}
use native.Mathlib.Omega.{arith}
use borrow.Author.Tests.{ltb-false}
use lib.Dec.{ltb, eqb}
use lib.IntN.{ℤ, pos}
use lib.ListN.{length, take, get_or}
use lib.Signed.{mag}
use Rattle.answers.specs.Guard.{unless_refused}
use Rattle.answers.specs.Limits.{max_frames, max_elements, max_payload_bytes}
use Rattle.bits.specs.Bits.{bits_of}
use Rattle.bits.proofs.BitLaws.{length-bits}
use Rattle.entropy.specs.Seed.{seed_refusal, seed_medians}
use Rattle.entropy.proofs.SeedBounds.{cond_le, seed_le}
use Rattle.overlay.proofs.OverlayLaws.{overlay_take}
use Rattle.word_state.specs.State.{State, start}
use Rattle.readings.specs.Reading.{reading}
use Rattle.samples.specs.View.{ReadTold, view_reading, read_words, read_refusal, refuse_reading, read_entry}
use Rattle.samples.specs.declared.ReadAnswer.{ReadAnswer}
use Rattle.readings.proofs.CostLaws.{both-stems}
use Rattle.readings.proofs.WordBounds.{small-reading}
use Rattle.readings.proofs.LocalLaws.{reading-inside}

-- what is told of a payload of some bytes
pub record SmallTold (bytes frames : ℕ) (t : ReadTold) : Type 0 where
  pub refusal : t.refusal ≤ 17
  pub refused-before : 6 < t.refusal → t.bits ≡ 0
  pub bits : t.bits ≤ 8 * bytes
  pub bits_small : t.bits ≤ 8 * max_payload_bytes
  pub stems : t.bits_read.left + t.bits_read.right ≡ t.bits
  pub written : t.written ≤ 2 * frames
  pub written_small : t.written ≤ max_elements
  pub samples : (i : ℕ) → mag (get_or (take t.written t.list) i (pos 0)) < 2147483648

module _ (entropy payload : List ℕ) (frames : ℕ) (list : List ℤ) where
  -- a refusal before any word
  pub refusal_le : read_refusal entropy payload frames list ≤ 17
  unfolding read_refusal
  refusal_le =
      cond_le (ltb max_frames frames || ltb max_payload_bytes (length payload)) 5 (cond (eqb (length list) (2 * frames)) (seed_refusal entropy) 6) 17 (omega arith)
      (cond_le (eqb (length list) (2 * frames)) (seed_refusal entropy) 6 17 (seed_le entropy) (omega arith))

  -- a reading that comes to its words has frames and payload bytes within their limits
  pub read_limits : read_refusal entropy payload frames list ≡ 0
      → (frames ≤ max_frames) × (length payload ≤ max_payload_bytes)
  unfolding read_refusal
  read_limits e = go (ltb max_frames frames) (ltb max_payload_bytes (length payload)) refl refl _ e
    where
      go : (a b : Bool) → ltb max_frames frames ≡ a → ltb max_payload_bytes (length payload) ≡ b → (n : ℕ)
          → cond (a || b) 5 n ≡ 0
          → (frames ≤ max_frames) × (length payload ≤ max_payload_bytes)
      go true b i j n e = absurd (omega arith)
      go false true i j n e = absurd (omega arith)
      go false false i j n e = (omega (arith, ltb-false max_frames frames i), omega (arith, ltb-false max_payload_bytes (length payload) j))

  -- and tells what they gave
  pub read_words_lem : read_refusal entropy payload frames list ≡ 0
      → read_entry entropy payload frames list ≡ read_words payload (seed_medians entropy) (2 * frames) list
  unfolding read_entry
  read_words_lem e = rw e

  -- any reading
  pub read_small : SmallTold (length payload) frames (read_entry entropy payload frames list)
  unfolding read_entry
  read_small = go (read_refusal entropy payload frames list) refl
    where
      first : State
      first = start (seed_medians entropy).left (seed_medians entropy).right

      go : (c : ℕ) → read_refusal entropy payload frames list ≡ c
          → SmallTold (length payload) frames (unless_refused c (refuse_reading list) (read_words payload (seed_medians entropy) (2 * frames) list))
      go zero e =
          let l = read_limits e in
          let s = small-reading (bits_of payload) (2 * frames) 0 first in
          let inside = reading-inside (bits_of payload) (2 * frames) 0 first (omega arith) in
          record {
            refusal = omega (arith, s.refusal);
            refused-before = λ h. absurd (omega (arith, s.refusal));
            bits = omega (arith, length-bits payload, inside);
            bits_small = omega (arith, length-bits payload, l.1, inside);
            stems = omega (arith, both-stems (bits_of payload) (2 * frames) 0 first);
            written = s.most;
            written_small = omega (arith, l.0, s.most);
            samples = λ i. rw (overlay_take list (reading (bits_of payload) (2 * frames) 0 first).samples) (s.samples i);
          }
      go (suc c) e = record {
        refusal = omega (arith, refusal_le);
        refused-before = λ h. refl;
        bits = omega arith;
        bits_small = omega arith;
        stems = refl;
        written = omega arith;
        written_small = omega arith;
        samples = λ i. omega arith;
      }

  -- and what the entry's struct holds of it
  pub read_fits : (after : List ℤ) (x : ReadAnswer)
      → view_reading x after ≡ read_entry entropy payload frames list
      → SmallTold (length payload) frames (view_reading x after)
  read_fits after x t = rw t read_small
