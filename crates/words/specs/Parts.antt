-- What the parts of a word that the code reads one after another stand for: each is right for every
-- state that holds the numbers it was given.
-- Assumes nothing.
-- ---- for the code alone
use Rattle.std.specs.Prelude.{◌≡◌, Bool, Option, Some, None, Result, Ok, Err, List, ℕ, ◌+◌, ◌≤◌, ◌<◌, ℤ, pos}
use Rattle.answers.specs.Numbers.{number_of}
use Rattle.answers.specs.declared.Refusal.{Refusal}
use Rattle.bits.specs.Window.{Window}
use Rattle.entropy.specs.Medians.{Medians}
use Rattle.medians.specs.Interval.{low_of, high_of}
use Rattle.word_state.specs.State.{State, due, with_flags, in_run, unbroken, after, run_here}
use Rattle.words.specs.Word.{Word, given, refused, value, plain, fresh}
use Rattle.zones.specs.Report.{none, zone_of}
use Rattle.words.specs.declared.coded.Count.{Count}
use Rattle.words.specs.declared.coded.ZeroRun.{ZeroRun}
use Rattle.words.specs.declared.coded.Coded.{Coded}

-- step 4: the sample of a word with the count k
abbrev pub value_word : ℕ → State → Option (ℤ × ℕ) → Word
value_word k s (Some (v, q)) = given v q (after k s) (zone_of k)
value_word k s None = refused 3

-- code and sign at p, for the medians due
pub record ValueIs (bits : List Bool) (p : ℕ) (medians : Medians) (k : ℕ) (r : Option (ℤ × ℕ)) : Type 0 where
  pub is : (s : State) → due s ≡ medians → value_word k s r ≡ value bits p k s

-- code and sign at the start of a window of at least 31 bits, wherever that is: they are right for
-- every count whose interval goes from lo to lo + last
pub record SignedCodeIs (v lo last : ℕ) (sample : ℤ) (used : ℕ) : Type 0 where
  pub is : (bits : List Bool) (p j : ℕ) → Window bits p j v → 31 ≤ j → (medians : Medians) (k : ℕ) → lo ≡ low_of medians k → lo + last ≡ high_of medians k
      → ValueIs bits p medians k (Some (sample, p + used))
  pub some : 0 < used
  pub most : used ≤ 29

-- step 3: the count of a word, and the flags after it
abbrev pub count_word : List Bool → State → Result Count Refusal → Word
count_word bits s (Ok c) = value bits c.place c.ones_count (with_flags c.last_zero c.last_one s)
count_word bits s (Err refusal) = refused (number_of refusal)

-- the count at p, for the two flags
pub record CountIs (bits : List Bool) (p : ℕ) (last_zero last_one : Bool) (r : Result Count Refusal) : Type 0 where
  pub is : (s : State) → s.last_zero ≡ last_zero → s.last_one ≡ last_one → count_word bits s r ≡ plain bits p s

-- a run that starts here, or the place of steps 3 and 4
abbrev pub run_word : List Bool → State → Result ZeroRun Refusal → Word
run_word bits s (Ok (ZeroRun.Run d q)) = given (pos 0) q (in_run d s) none
run_word bits s (Ok (ZeroRun.Word q)) = plain bits q (unbroken s)
run_word bits s (Err refusal) = refused (number_of refusal)

-- the run length at p, where it is read or not
pub record ZeroRunIs (bits : List Bool) (p : ℕ) (read : Bool) (r : Result ZeroRun Refusal) : Type 0 where
  pub is : (s : State) → run_here s ≡ read → run_word bits s r ≡ fresh bits p s

-- a word where no zero is owed: a run, or a sample
abbrev pub coded_word : State → Result Coded Refusal → Word
coded_word s (Ok (Coded.Run d q)) = given (pos 0) q (in_run d s) none
coded_word s (Ok (Coded.Sample v k q z o)) = given v q (after k (with_flags z o (unbroken s))) (zone_of k)
coded_word s (Err refusal) = refused (number_of refusal)

-- steps 3 and 4
pub record PlainIs (bits : List Bool) (p : ℕ) (medians : Medians) (last_zero last_one : Bool) (r : Result Coded Refusal) : Type 0 where
  pub is : (s : State) → due s ≡ medians → s.last_zero ≡ last_zero → s.last_one ≡ last_one → coded_word s r ≡ plain bits p (unbroken s)

-- steps 2 to 4
pub record CodedIs (bits : List Bool) (p : ℕ) (read : Bool) (medians : Medians) (last_zero last_one : Bool) (r : Result Coded Refusal) : Type 0 where
  pub is : (s : State) → run_here s ≡ read → due s ≡ medians → s.last_zero ≡ last_zero → s.last_one ≡ last_one → coded_word s r ≡ fresh bits p s
