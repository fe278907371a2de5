-- The parts of a word joined: a run length, a count and a value, each right by itself, are a word.
-- Assumes nothing.
use mathlib.Core.Path.{◌∙◌}
use mathlib.Core.Bool.{Bool}
use mathlib.Core.List.{List}
use Prim.Native.Nat.{ℕ}
use lib.IntN.{ℤ}
use Rattle.std.specs.Prelude.{Some, None, Result, Ok, Err}
use Rattle.answers.specs.declared.Refusal.{Refusal}
use Rattle.entropy.specs.Medians.{Medians}
use Rattle.word_state.specs.State.{with_flags, unbroken}
use Rattle.words.specs.Parts.{ValueIs, CountIs, PlainIs, ZeroRunIs, CodedIs}
use Rattle.words.specs.declared.coded.Count.{Count}
use Rattle.words.specs.declared.coded.ZeroRun.{ZeroRun}
use Rattle.words.specs.declared.coded.Coded.{Coded}

module _ (bits : List Bool) (p : ℕ) (m : Medians) (z o : Bool) where
  -- a count that is refused
  pub plain-none : (r : Refusal) → CountIs bits p z o (Err r) → PlainIs bits p m z o (Err r)
  unfolding unbroken
  plain-none r h = record { is = λ s d e f. h.is (unbroken s) e f }

  module _ (c : Count) (h : CountIs bits p z o (Ok c)) where
    -- a count, and a missing bit behind it
    pub plain-missing : ValueIs bits c.place m c.ones_count None → PlainIs bits p m z o (Err Refusal.Truncated)
    unfolding unbroken
    plain-missing v = record { is = λ s d e f. v.is (with_flags c.last_zero c.last_one (unbroken s)) d ∙ h.is (unbroken s) e f }

    -- a count and a value
    pub plain-sample : (x : ℤ) (n : ℕ) → ValueIs bits c.place m c.ones_count (Some (x, n))
        → PlainIs bits p m z o (Ok (Coded.Sample x c.ones_count n c.last_zero c.last_one))
    unfolding unbroken
    plain-sample x n v = record { is = λ s d e f. v.is (with_flags c.last_zero c.last_one (unbroken s)) d ∙ h.is (unbroken s) e f }

  module _ (read : Bool) where
    pub coded_word_lem : (q : ℕ) (x : Result Coded Refusal) → ZeroRunIs bits p read (Ok (ZeroRun.Word q)) → PlainIs bits q m z o x → CodedIs bits p read m z o x
    coded_word_lem q x h g = record { is = λ s r d e f. g.is s d e f ∙ h.is s r }
