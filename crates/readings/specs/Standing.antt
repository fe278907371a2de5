-- Where a reading stands between two words (R4): what its locals hold, and what is written so far.
-- Assumes nothing.
use Rattle.std.specs.Prelude.{◌≡◌, Bool, List, ◌++◌, ℕ, ◌+◌, ◌-◌, ◌%◌, ◌≤◌, ℤ, length, take, drop}
use Rattle.bits.specs.Bits.{bits_of}
use Rattle.entropy.specs.declared.AdaptiveMedians.{AdaptiveMedians}
use Rattle.entropy.specs.Medians.{pair_of}
use Rattle.word_state.specs.State.{State}
use Rattle.readings.specs.Reading.{Reading, reading}
use Rattle.readings.specs.Costs.{left_cost, costs}

-- the array of medians and the other locals hold the state before word i
pub record Held (s : State) (medians : List AdaptiveMedians) (owed : ℕ) (broken zero one : Bool) (i : ℕ)
    : Type 0 where
  pub pair : length medians ≡ 2
  pub left_is : s.left ≡ (pair_of medians).left
  pub right_is : s.right ≡ (pair_of medians).right
  pub debt-is : s.debt ≡ owed
  pub break_is : s.run_break ≡ broken
  pub zero_is : s.last_zero ≡ zero
  pub one-is : s.last_one ≡ one
  pub channel-is : s.channel ≡ i % 2

-- a reading with the samples that were read before it in front
abbrev pub prepend : List ℤ → Reading → Reading
prepend vs r = record { refusal = r.refusal; samples = vs ++ r.samples; place = r.place; state = r.state }

-- before word i: the locals hold a state, the first i elements are written, the others are as they
-- were, and what is written joined to the reading of the words that are left is the whole reading; and
-- of the p bits that are read a are left's, which with those of the words that are left are all of left's
pub record Words (payload : List ℕ) (out₀ : List ℤ) (s₀ : State) (out : List ℤ) (ms : List AdaptiveMedians)
    (owed : ℕ) (b z o : Bool) (p a i : ℕ) : Type 0 where
  pub state : State
  pub held : Held state ms owed b z o i
  pub here : i ≤ length out₀
  pub same : length out ≡ length out₀
  pub is :
      prepend (take i out) (reading (bits_of payload) (length out₀ - i) p state)
      ≡ reading (bits_of payload) (length out₀) 0 s₀
  pub others : drop i out ≡ drop i out₀
  pub left-bits :
      a + left_cost (costs (bits_of payload) (length out₀ - i) p state)
      ≡ left_cost (costs (bits_of payload) (length out₀) 0 s₀)
  pub part : a ≤ p
