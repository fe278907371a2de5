-- Document 01, "One word", the state (W0), and what a word does to it. Reader and packer walk the
-- same state by the same named steps; none of them touches the totals of document 02, §8, which are
-- charged where a word is accepted.
-- Assumes nothing.
use Rattle.std.specs.Prelude.{Bool, true, false, not, ◌&&◌, ℕ, zero, suc, ◌+◌, ◌≤◌, leb, ltb}
use Rattle.entropy.specs.Medians.{Medians, zero_set, medians_of}
use Rattle.medians.specs.Adaptation.{adapt}

-- document 02, §8 (Q8.1): "two totals, bits read for left and for right"
pub record BitsRead : Type 0 where
  pub left : ℕ
  pub right : ℕ

-- each total is a number of 32 bits, as the code holds it
pub record SmallBits (b : BitsRead) : Type 0 where
  pub small-left : b.left ≤ 4294967295
  pub small-right : b.right ≤ 4294967295

-- both totals 0
abbrev pub no_bits : BitsRead
no_bits = record { left = 0; right = 0 }

-- document 01 (W0): two sets of three medians, last_zero, last_one, zero_run_pending (the debt),
-- run_break, ever_took_zero_run, next_channel; and the two totals (Q8.1)
pub record State : Type 0 where
  pub left : Medians
  pub right : Medians
  -- the flags are shared by both channels
  pub last_zero : Bool
  pub last_one : Bool
  pub debt : ℕ
  pub run_break : Bool
  pub ever_run : Bool
  pub channel : ℕ
  pub bits_read : BitsRead

-- document 01 (W0): "It starts at zero and false", with the seed medians
abbrev pub start : Medians → Medians → State
start l r = record { left = l; right = r; last_zero = false; last_one = false; debt = 0; run_break = false; ever_run = false; channel = 0; bits_read = no_bits }

-- the first of two for channel 0, else the second
abbrev pub side : {A : Type 0} → ℕ → A → A → A
side zero a b = a
side (suc n) a b = b

-- document 01 (W0): the medians "picked by the channel due"
abbrev pub due : State → Medians
due s = side s.channel s.left s.right

-- and those of the other channel
abbrev pub other : State → Medians
other s = side s.channel s.right s.left

-- ---- the state with a part of it set

-- with both sets of medians
abbrev pub with_medians : Medians → Medians → State → State
with_medians l r s = record { left = l; right = r; last_zero = s.last_zero; last_one = s.last_one; debt = s.debt; run_break = s.run_break; ever_run = s.ever_run; channel = s.channel; bits_read = s.bits_read }

-- with last_zero and last_one
abbrev pub with_flags : Bool → Bool → State → State
with_flags z o s = record { left = s.left; right = s.right; last_zero = z; last_one = o; debt = s.debt; run_break = s.run_break; ever_run = s.ever_run; channel = s.channel; bits_read = s.bits_read }

-- with the debt
abbrev pub with_debt : ℕ → State → State
with_debt d s = record { left = s.left; right = s.right; last_zero = s.last_zero; last_one = s.last_one; debt = d; run_break = s.run_break; ever_run = s.ever_run; channel = s.channel; bits_read = s.bits_read }

-- with run_break and ever_took_zero_run
abbrev pub with_run : Bool → Bool → State → State
with_run b e s = record { left = s.left; right = s.right; last_zero = s.last_zero; last_one = s.last_one; debt = s.debt; run_break = b; ever_run = e; channel = s.channel; bits_read = s.bits_read }

-- with the channel due
abbrev pub with_channel : ℕ → State → State
with_channel c s = record { left = s.left; right = s.right; last_zero = s.last_zero; last_one = s.last_one; debt = s.debt; run_break = s.run_break; ever_run = s.ever_run; channel = c; bits_read = s.bits_read }

-- with the two totals
abbrev pub with_bits : BitsRead → State → State
with_bits b s = record { left = s.left; right = s.right; last_zero = s.last_zero; last_one = s.last_one; debt = s.debt; run_break = s.run_break; ever_run = s.ever_run; channel = s.channel; bits_read = b }

-- ---- what a word does to the state

-- document 01 (W5): "Each given sample flips next_channel"
abbrev pub flip : ℕ → ℕ
flip zero = 1
flip (suc n) = 0

-- document 01 (W1): "Debt above 0: lower it, give 0"; d is the debt that is left
unfoldable pub paid : ℕ → State → State
paid d s = with_channel (flip s.channel) (with_debt d s)

-- document 01 (W2): "zero all six medians, set ever_took_zero_run and run_break, debt n - 1, give
-- 0"; d is n - 1
unfoldable pub in_run : ℕ → State → State
in_run d s = with_channel (flip s.channel) (with_debt d (with_run true true (with_medians (medians_of zero_set) (medians_of zero_set) s)))

-- document 01 (W2): "run_break set: clear it"
unfoldable pub unbroken : State → State
unbroken s = with_run false s.ever_run s

-- document 01 (W3): "last_zero set: clear it"
unfoldable pub cleared : State → State
cleared s = with_flags false s.last_one s

-- document 01 (W3): "last_one becomes r's low bit, last_zero its opposite"
unfoldable pub flagged : Bool → State → State
flagged b s = with_flags (not b) b s

-- document 01 (W4, W5): the medians due adapt to the count k, and the sample flips the channel
unfoldable pub after : ℕ → State → State
after k s = with_channel (flip s.channel) (with_medians (side s.channel (adapt s.left k) s.left) (side s.channel s.right (adapt s.right k)) s)

-- ---- run lengths

-- document 01 (W2): "if both first medians are at most 1 and neither flag is set, read a run
-- length". It does not matter which channel's medians come first
unfoldable pub run_due : Medians → Medians → Bool → Bool → Bool
run_due m n last_zero last_one = leb m.m0 1 && leb n.m0 1 && not last_zero && not last_one

-- a run length stands before the word: run_break is not set, and one is due
abbrev pub run_here : State → Bool
run_here s = not s.run_break && run_due s.left s.right s.last_zero s.last_one

-- by a number of zeros: at d + 1 the first, at 0 the second
abbrev pub on_zeros : {A : Type 0} → ℕ → (ℕ → A) → A → A
on_zeros zero f a = a
on_zeros (suc d) f a = f d

-- ---- bits by stem

-- document 02, §8 (Q8.2): n bits more for the channel c
abbrev pub plus_bits : ℕ → ℕ → BitsRead → BitsRead
plus_bits c n b = record { left = side c (b.left + n) b.left; right = side c b.right (b.right + n) }

-- a state that is charged with them
unfoldable pub charged : ℕ → ℕ → State → State
charged c n s = with_bits (plus_bits c n s.bits_read) s

-- document 02, §8 (Q8.3): the "totals together exceed the reader's place"
unfoldable pub exceeds : BitsRead → ℕ → Bool
exceeds b p = ltb p (b.left + b.right)
