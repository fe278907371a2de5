-- What the code's structs stand for.
-- Assumes nothing.
-- ---- for the code alone
use Rattle.std.specs.Prelude.{◌≡◌, Bool, cond, List, [], ℕ, zero, suc, ◌+◌, ◌-◌, ◌≤◌, ◌<◌, ℤ, pos, negsuc, length, drop}
use Rattle.std.specs.Int.Signed.{mag}
use Rattle.answers.specs.Limits.{residual_span}
use Rattle.bits.specs.Laid.{put}
use Rattle.entropy.specs.Medians.{Medians, Small, medians_of}
use Rattle.medians.specs.Interval.{g, low_of, high_of}
use Rattle.medians.specs.Adaptation.{up, adapt}
use Rattle.word_bits.specs.Counts.{count}
use Rattle.word_bits.specs.Residuals.{zeros}
use Rattle.word_bits.specs.Word.{word_field}
use Rattle.fields.specs.Written.{run_field}
use Rattle.word_bits.specs.declared.Located.{Located}
use Rattle.word_bits.specs.declared.Before.{Before}
use Rattle.word_bits.specs.declared.Word.{Word}

-- where v lies among the intervals of the medians m: its count, its code, the last code of its
-- interval, and the medians after it
pub record LocatedIs (m : Medians) (v : ℕ) (r : Located) : Type 0 where
  pub count-is : r.count ≡ count m v
  pub code_is : r.code ≡ v - low_of m (count m v)
  pub last-is : r.last ≡ high_of m (count m v) - low_of m (count m v)
  pub medians_are : medians_of r.medians ≡ adapt m (count m v)

-- v lies past the first two intervals by `rest`, and the first two medians move up
pub record Above (m : Medians) (v rest m0 m1 c : ℕ) : Type 0 where
  pub small : Small m
  pub span : v < residual_span
  pub past : g m.m0 + g m.m1 + rest ≡ v
  pub first : m0 ≡ up 128 m.m0
  pub second : m1 ≡ up 64 m.m1
  pub third : c ≡ m.m2

-- where every such v lies
pub record AboveIs (rest m0 m1 c : ℕ) (r : Located) : Type 0 where
  pub lies : (m : Medians) (v : ℕ) → Above m v rest m0 m1 c → LocatedIs m v r

-- the bits f laid into a buffer from a place on, and the place after them
pub record PutIs (before after : List ℕ) (at : ℕ) (f : List Bool) (r : ℕ) : Type 0 where
  pub bytes : after ≡ put before at f
  pub place : r ≡ at + length f

-- such a word written, and the medians after it
pub record WordIs (before after : List ℕ) (at : ℕ) (m : Medians) (v : ℤ) (last_zero last_one more : Bool)
    (r : Word) : Type 0 where
  pub put_is : PutIs before after at (word_field last_zero last_one more m v) r.place
  pub medians_are : medians_of r.medians ≡ adapt m (count m (mag v))

-- the run length written where it is due
pub record BeforeIs (before after : List ℕ) (at : ℕ) (asked : Bool) (vs : List ℤ) (r : Before) : Type 0 where
  pub put_is : PutIs before after at (cond asked (run_field (zeros vs)) []) r.place
  pub run_is : r.run ≡ cond asked (zeros vs) 0

-- 1 for a residual other than 0
abbrev pub other_of : ℤ → ℕ
other_of (pos zero) = 0
other_of (pos (suc n)) = 1
other_of (negsuc n) = 1

-- all residuals from `first` up to r are 0
pub record SkipIs (vs : List ℤ) (first r : ℕ) : Type 0 where
  pub ahead_of : first ≤ r
  pub here : r ≤ length vs
  pub zeros_are : zeros (drop first vs) ≡ r - first + zeros (drop r vs)
