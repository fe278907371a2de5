-- What the call of packing leaves, each way out by a law; the bits written fit 32 bits.
-- Assumes nothing.
use mathlib.Core.Path.{◌≡◌, ap}
use mathlib.Core.List.{List}
use Prim.Native.Nat.{ℕ, ◌*◌, ◌≤◌, ◌<◌}
use lib.IntN.{ℤ}
use lib.ListN.{length}
use borrow.Author.Tests.{lt-ltb, le-ltb}
use Rattle.answers.specs.Limits.{max_elements, max_word_bits}
use Rattle.std.specs.Prelude.{Ok, Err}
use Rattle.answers.specs.declared.Refusal.{Refusal}
use Rattle.answers.specs.Numbers.{number_of}
use Rattle.overlay.specs.Overlay.{overlay}
use Rattle.entropy.specs.Medians.{pair_of, zero_pair}
use Rattle.packing.specs.Entry.{PackTold, view_packing, pack_entry}
use Rattle.packing.specs.declared.Packed.{Packed}
use Rattle.packing.proofs.EntryLaws.{bits-few}
use Rattle.median_slots.specs.MedianSlots.{count_slots}
use Rattle.pack_slots.specs.PackSlots.{pack_call}

module _ (residuals : List ℤ) (entropy : List ℕ) (frames : ℕ) (buffer : List ℕ) where
  -- what was told fits its slot: at most 111 bits for each of 262,144 residuals
  pub pack-fits : (p : Packed) (after : List ℕ) → view_packing (Ok p) after ≡ pack_entry residuals entropy frames buffer
      → p.bits ≤ max_word_bits * max_elements
  pack-fits p after t = rw (ap (λ (x : PackTold). x.bits) t) (bits-few residuals entropy frames buffer)

  module _ (answer : List ℕ) where
    -- too few slots
    pub pack_few : length answer < 7
        → pack_call residuals entropy frames buffer answer ≡ record { refusal = 6; bytes = buffer; answer = answer }
    unfolding pack_call
    pack_few h = rw (lt-ltb (length answer) 7 h)

    -- what packing told
    pub pack-laid : (p : Packed) (bytes after : List ℕ) → view_packing (Ok p) bytes ≡ pack_entry residuals entropy frames buffer
        → 7 ≤ length answer → after ≡ overlay answer 0 (count_slots p.bits (pair_of p.medians))
        → record { refusal = 0; bytes = bytes; answer = after } ≡ pack_call residuals entropy frames buffer answer
    unfolding pack_call
    pack-laid p bytes after t h f = rw (le-ltb (length answer) 7 h, ← t, f)

    -- what a refusal tells: no bits, and all medians 0
    pub pack-refused : (q : Refusal) (bytes after : List ℕ) → view_packing (Err q) bytes ≡ pack_entry residuals entropy frames buffer
        → 7 ≤ length answer → after ≡ overlay answer 0 (count_slots 0 zero_pair)
        → record { refusal = number_of q; bytes = bytes; answer = after } ≡ pack_call residuals entropy frames buffer answer
    unfolding pack_call
    pack-refused q bytes after t h f = rw (le-ltb (length answer) 7 h, ← t, f)
