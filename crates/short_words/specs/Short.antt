-- What a word out of 64 bits in a register stands for: steps 3 and 4 of document 01's word, at every
-- place where these bits stand (W3, W4).
-- Assumes nothing.
-- ---- for the code alone
use Rattle.std.specs.Prelude.{◌≡◌, Bool, true, false, ◌||◌, Option, Some, Ok, is_some, List, ℕ, ◌+◌, ◌-◌, ◌/◌, ◌≤◌, ◌<◌, ltb}
use Rattle.answers.specs.Limits.{max_width}
use Rattle.bits.specs.Bits.{val, low, ones}
use Rattle.bits.specs.Window.{Window}
use Rattle.entropy.specs.Medians.{Medians, medians_of}
use Rattle.entropy.specs.declared.AdaptiveMedians.{AdaptiveMedians}
use Rattle.medians.specs.Adaptation.{adapt}
use Rattle.medians.specs.Interval.{IntervalIs}
use Rattle.word_state.specs.State.{run_due}
use Rattle.words.specs.Parts.{PlainIs}
use Rattle.words.specs.declared.coded.Coded.{Coded}
use Rattle.short_words.specs.declared.ShortWord.{ShortWord}

-- the ones at the low end of 64 bits
abbrev pub ones_of : ℕ → ℕ
ones_of w = ones (low 64 w)

-- r is the word at every place where w stands, for the medians due, those of the other channel and
-- the two flags; no run length stands behind it where it says so
pub record ShortWordIs (w : ℕ) (due other : Medians) (last_zero last_one : Bool) (r : ShortWord) : Type 0 where
  pub count : ℕ
  pub is : (bits : List Bool) (p : ℕ) → Window bits p 64 w
      → PlainIs bits p due last_zero last_one (Ok (Coded.Sample r.value count (p + r.used) r.last_zero r.last_one))
  pub adapted : medians_of r.medians ≡ adapt due count
  pub some : 0 < r.used
  pub most : r.used ≤ 57
  pub unbroken : r.on ≡ true → run_due (medians_of r.medians) other r.last_zero r.last_one ≡ false

-- a prefix of n ones at the start of w, n below 16, and an interval as medians of 32 bits give it: its
-- ends have 31 bits, its last code 28
pub record ShortPrefix (w n lo hi : ℕ) : Type 0 where
  pub ones_is : n ≡ ones_of w
  pub few : n < 16
  pub ordered : lo ≤ hi
  pub within : hi < 2147483648
  pub last : hi - lo < max_width

-- r is the word of n ones for all medians that give its count this interval and adapt by it to these
pub record CountedIs (w n lo hi : ℕ) (after : AdaptiveMedians) (r : ShortWord) : Type 0 where
  pub is : (due other : Medians) (last_one : Bool) → let k = n / 2 + val last_one in
      IntervalIs due k lo hi → medians_of after ≡ adapt due k → ShortWordIs w due other false last_one r

-- a word behind an announced zero, or with fewer than 16 ones, is given; any other is not
pub record WordIs (w : ℕ) (due other : Medians) (last_zero last_one : Bool) (r : Option ShortWord) : Type 0 where
  pub fits : is_some r ≡ (last_zero || ltb (ones_of w) 16)
  pub word : (x : ShortWord) → r ≡ Some x → ShortWordIs w due other last_zero last_one x
