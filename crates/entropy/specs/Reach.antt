-- Document 02, §7, "Log words past the format's reach": what is said of the entropy payloads that
-- hold such a word, and of the medians of those that are accepted.
-- Assumes nothing.
use Rattle.std.specs.Prelude.{ℕ, ◌≤◌, ◌≡◌, true, List, length, drop}
use Rattle.entropy.specs.Medians.{Medians}
use Rattle.entropy.specs.Entropy.{set_out_of_reach, stereo_info, entropy_refusal}
use Rattle.entropy.specs.Seed.{seed_refusal, AcceptsEntropy, seed_pair, seed_medians}

-- (Q7.2) the length is in order, and a log word is out of reach
pub data WhySeventeen (payload : List ℕ) : Type 0 where
  mono : length payload ≡ 6 → set_out_of_reach payload ≡ true → WhySeventeen payload
  left : length payload ≡ 12 → set_out_of_reach payload ≡ true → WhySeventeen payload
  right : length payload ≡ 12 → set_out_of_reach (drop 6 payload) ≡ true → WhySeventeen payload

-- (Q7.2) "17 .. after 1": a payload is refused with 17 for one of these, and for nothing else
abbrev pub SeventeenExactly : Type 0
SeventeenExactly =
    (payload : List ℕ) → (WhySeventeen payload → entropy_refusal payload ≡ 17) × (entropy_refusal payload ≡ 17 → WhySeventeen payload)

-- (Q7.3) "and before 2": so do reading and packing, whatever the signs and also of a mono payload
abbrev pub SeventeenFirst : Type 0
SeventeenFirst = (payload : List ℕ) → (WhySeventeen payload → seed_refusal payload ≡ 17) × (seed_refusal payload ≡ 17 → WhySeventeen payload)

-- (Q7.4) the medians that an accepted payload seeds are those that document 01 gives its six log
-- words, as before there was a 17
abbrev pub MediansAsBefore : Type 0
MediansAsBefore = (payload : List ℕ) → AcceptsEntropy payload → seed_medians payload ≡ seed_pair (stereo_info payload)

-- each median of a set is at most 2,143,289,344
pub record Within (m : Medians) : Type 0 where
  pub within0 : m.m0 ≤ 2143289344
  pub within1 : m.m1 ≤ 2143289344
  pub within2 : m.m2 ≤ 2143289344

-- (Q7.1) "whose value no longer fits": every median that an accepted payload seeds does
abbrev pub MediansWithin : Type 0
MediansWithin = (payload : List ℕ) → AcceptsEntropy payload → Within (seed_medians payload).left × Within (seed_medians payload).right
