-- A short word further: what a reading has written and where it stands then (R4).
-- Assumes nothing.
-- ---- for the code alone
use Rattle.std.specs.Prelude.{◌≡◌, true, false, List, ℕ, ◌+◌, ◌≤◌, ℤ, set}
use Rattle.bits.specs.Bits.{bits_of}
use Rattle.bits.specs.Window.{Window}
use Rattle.entropy.specs.declared.AdaptiveMedians.{AdaptiveMedians}
use Rattle.entropy.specs.Medians.{medians_of}
use Rattle.short_words.specs.declared.ShortWord.{ShortWord}
use Rattle.word_state.specs.State.{run_due}
use Rattle.short_steps.specs.Onward.{Onward}
use Rattle.short_steps.specs.declared.standing.Standing.{Standing}
use Rattle.short_steps.specs.declared.Step.{Step}

-- the 64 bits where a reading stands are w, and no run length stands there
pub record Ready (payload : List ℕ) (x : Standing) (w : ℕ) : Type 0 where
  pub window : Window (bits_of payload) x.place 64 w
  pub no_run : run_due (medians_of x.left) (medians_of x.right) x.last_zero x.last_one ≡ false

-- where a reading stands behind a word, with left's bits and these medians after it
abbrev pub behind : (x : Standing) (word : ShortWord) (bits : ℕ) → AdaptiveMedians → AdaptiveMedians
    → bits ≤ x.place + word.used → Standing
behind x word bits left right h = record {
  place = x.place + word.used;
  left_bits = bits;
  written = x.written + 1;
  left = left;
  right = right;
  last_zero = word.last_zero;
  last_one = word.last_one;
  part = h;
}

-- the sample of a word is written, and the reading stands behind it
pub record SteppedIs (payload : List ℕ) (before after : List ℤ) (from : Standing) (word : ShortWord)
    (bits : ℕ) (left right : AdaptiveMedians) (r : Step) : Type 0 where
  pub list-is : after ≡ set before from.written word.value
  pub part : bits ≤ from.place + word.used
  pub at-is : r.at ≡ behind from word bits left right part
  pub on-is : r.on ≡ word.on
  pub window : Window (bits_of payload) (from.place + word.used) 64 r.w

-- a word further or where it was; another short word may follow only where it says so
pub record StepIs (payload : List ℕ) (before after : List ℤ) (from : Standing) (r : Step) : Type 0 where
  pub onward : Onward payload before after from r.at
  pub ready : r.on ≡ true → Ready payload r.at r.w
  pub next : r.on ≡ true → r.at.written ≡ from.written + 1
  pub near : r.at.place ≤ from.place + 57
