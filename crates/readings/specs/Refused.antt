-- Document 01, "Why each operation says no" (H8): why a word is refused. The places are those at
-- which the word itself reads.
-- Assumes nothing.
use Rattle.std.specs.Prelude.{◌≡◌, Bool, true, false, Some, Ok, List, ℕ, ◌+◌, ◌-◌, ◌/◌}
use Rattle.bits.specs.Bits.{val}
use Rattle.fields.specs.Code.{truncated_binary}
use Rattle.fields.specs.Counts.{run_length, prefix}
use Rattle.fields.specs.Refused.{Missing, NoRun, NoPrefix, Ends, NoCode}
use Rattle.medians.specs.Interval.{low_of, high_of}
use Rattle.word_state.specs.State.{State, due, run_here}

-- the last code of the interval of k
abbrev pub last_code : State → ℕ → ℕ
last_code s k = high_of (due s) k - low_of (due s) k

-- step 3 of the word at p is at q: at p itself, or behind a run length of 0
pub data Starts (bits : List Bool) (p : ℕ) (s : State) : ℕ → Type 0 where
  here : s.debt ≡ 0 → run_here s ≡ false → Starts bits p s p
  behind : (q : ℕ) → s.debt ≡ 0 → run_here s ≡ true → run_length bits p ≡ Some (0, q) → Starts bits p s q

-- its count is k, and its code stands at q
pub data Counts (bits : List Bool) (p : ℕ) (s : State) : ℕ → ℕ → Type 0 where
  held : (q : ℕ) → Starts bits p s q → s.last_zero ≡ true → Counts bits p s q 0
  read : (m r q : ℕ) → Starts bits p s m → s.last_zero ≡ false → prefix bits m ≡ Ok (r, q) → Counts bits p s q (r / 2 + val s.last_one)

-- refusal 3: a field of the word is missing a bit or over its cap; refusal 4: its prefix has a
-- second count of 33
pub data Why (bits : List Bool) (p : ℕ) (s : State) : ℕ → Type 0 where
  no_run : s.debt ≡ 0 → run_here s ≡ true → NoRun bits p → Why bits p s 3
  no_prefix : (q : ℕ) → Starts bits p s q → s.last_zero ≡ false → NoPrefix bits q → Why bits p s 3
  no_code : (q k : ℕ) → Counts bits p s q k → NoCode bits q (last_code s k) → Why bits p s 3
  no_sign : (q k c n : ℕ) → Counts bits p s q k → truncated_binary bits q (last_code s k) ≡ Some (c, n) → Missing bits n 1 → Why bits p s 3
  end-of_stream : (q : ℕ) → Starts bits p s q → s.last_zero ≡ false → Ends bits q → Why bits p s 4
