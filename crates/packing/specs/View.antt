-- What the code's structs stand for.
-- Assumes nothing.
-- ---- for the code alone
use Rattle.std.specs.Prelude.{◌≡◌, Bool, false, List, ◌∷◌, ℕ, ◌-◌, ◌<◌, ℤ, length}
use Rattle.word_bits.specs.View.{PutIs}
use Rattle.bits.specs.Laid.{put}
use Rattle.entropy.specs.Medians.{Medians, MedianPair, medians_of, pair_of}
use Rattle.word_state.specs.State.{State, start, due, other, side, flip, in_run}
use Rattle.word_bits.specs.Residuals.{zeros}
use Rattle.packing.specs.Packing.{word_out, packed}
use Rattle.packing.specs.declared.Packed.{Packed}
use Rattle.packing.specs.declared.Turn.{Turn}

-- what the loop holds of a state that owes no zeros: the medians of the channel due and of the
-- other, and the flags
pub record Seen (s : State) (d o : Medians) (last_zero last_one run_break : Bool) : Type 0 where
  pub owes : s.debt ≡ 0
  pub due-is : due s ≡ d
  pub other-is : other s ≡ o
  pub zero_is : s.last_zero ≡ last_zero
  pub one-is : s.last_one ≡ last_one
  pub break_is : s.run_break ≡ run_break

-- a word outside a run takes the state s to t, m being the medians of its channel after it
pub record Next (s t : State) (m : Medians) (last_zero last_one : Bool) : Type 0 where
  pub left_is : t.left ≡ side s.channel m s.left
  pub right_is : t.right ≡ side s.channel s.right m
  pub channel-is : t.channel ≡ flip s.channel
  pub owes : t.debt ≡ s.debt
  pub zero_is : t.last_zero ≡ last_zero
  pub one-is : t.last_one ≡ last_one
  pub break_is : t.run_break ≡ false

-- a run takes it to t
pub record RunTakes (s t : State) (vs : List ℤ) (run : ℕ) (last_zero last_one : Bool) : Type 0 where
  pub length-is : run ≡ zeros vs
  pub state-is : t ≡ in_run (run - 1) s
  pub no_zero : s.last_zero ≡ false
  pub no_one : s.last_one ≡ false
  pub zero_is : last_zero ≡ false
  pub one-is : last_one ≡ false

-- what a turn of the loop writes for the residual v before vs in the state s is what the definition
-- writes for it
pub record Turned (before after : List ℕ) (at : ℕ) (s : State) (v : ℤ) (vs : List ℤ) (r : Turn) : Type 0 where
  pub put_is : PutIs before after at (word_out s v vs).bits r.place
  pub word : r.run ≡ 0 → Next s (word_out s v vs).next (medians_of r.medians) r.last_zero r.last_one
  pub run : 0 < r.run → RunTakes s (word_out s v vs).next (v ∷ vs) r.run r.last_zero r.last_one

-- in every state that has these medians and flags
pub record TurnIs (before after : List ℕ) (at : ℕ) (d o : Medians) (last_zero last_one run_break : Bool) (v : ℤ) (vs : List ℤ) (r : Turn) : Type 0 where
  pub turned : (s : State) → Seen s d o last_zero last_one run_break → Turned before after at s v vs r

-- all words written from the start of a buffer on, from the medians that are seeded
pub record PackedIs (before after : List ℕ) (seeds : MedianPair) (vs : List ℤ) (r : Packed) : Type 0 where
  pub bytes : after ≡ put before 0 (packed (start seeds.left seeds.right) vs).bits
  pub bits_are : r.bits ≡ length (packed (start seeds.left seeds.right) vs).bits
  pub medians_are : pair_of r.medians
      ≡ record { left = (packed (start seeds.left seeds.right) vs).next.left; right = (packed (start seeds.left seeds.right) vs).next.right }
