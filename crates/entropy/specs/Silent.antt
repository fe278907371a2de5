-- Document 02, §2, "A right stem that starts silent": what is said of the entropy payloads that
-- reading and packing accept.
-- Assumes nothing.
use Rattle.std.specs.Prelude.{ℕ, ◌≡◌, true, false, List, length, drop}
use Rattle.entropy.specs.Medians.{medians_of, zero_set}
use Rattle.entropy.specs.Entropy.{word_set, zero_words, stereo_info, past_reach, entropy_info}
use Rattle.entropy.specs.Seed.{any_negative, seed_refusal, AcceptsEntropy, seed_medians}

-- (Q2.1) "The length alone now tells mono from stereo": 12 bytes in reach hold two sets, whatever
-- they are
abbrev pub TwelveAreStereo : Type 0
TwelveAreStereo = (payload : List ℕ) → length payload ≡ 12 → past_reach payload ≡ false → entropy_info payload ≡ stereo_info payload

-- (Q2.2) "Number 2 stays for 6 bytes and for negative medians"; 17 comes before it (Q7.3)
pub data WhyTwo (payload : List ℕ) : Type 0 where
  six : length payload ≡ 6 → past_reach payload ≡ false → WhyTwo payload
  negative-left : length payload ≡ 12 → past_reach payload ≡ false → any_negative (word_set payload) ≡ true → WhyTwo payload
  negative-right : length payload ≡ 12 → past_reach payload ≡ false → any_negative (word_set (drop 6 payload)) ≡ true → WhyTwo payload

-- (Q2.2) a payload is refused with 2 for one of these, and for nothing else
abbrev pub TwoExactly : Type 0
TwoExactly = (payload : List ℕ) → (WhyTwo payload → seed_refusal payload ≡ 2) × (seed_refusal payload ≡ 2 → WhyTwo payload)

-- 12 bytes, none of whose six log words is out of reach and none of whose medians is negative
pub record TwoSets (payload : List ℕ) : Type 0 where
  pub twelve : length payload ≡ 12
  pub reached : past_reach payload ≡ false
  pub left : any_negative (word_set payload) ≡ false
  pub right : any_negative (word_set (drop 6 payload)) ≡ false

-- (Q2.2, Q7.4) these are accepted, and no other payload is
abbrev pub AcceptedExactly : Type 0
AcceptedExactly = (payload : List ℕ) → (TwoSets payload → AcceptsEntropy payload) × (AcceptsEntropy payload → TwoSets payload)

-- (Q2.3) "12 bytes with a zero right set are accepted", and the right channel starts from zeros
abbrev pub SilentRight : Type 0
SilentRight =
    (payload : List ℕ) → length payload ≡ 12 → past_reach payload ≡ false → any_negative (word_set payload) ≡ false → word_set (drop 6 payload) ≡ zero_words
    → AcceptsEntropy payload × ((seed_medians payload).right ≡ medians_of zero_set)
