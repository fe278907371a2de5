-- The answers of each call, by what its entry answers.
-- Assumes nothing.
use mathlib.Core.Path.{◌≡◌, ap, ◌∙◌}
use mathlib.Core.List.{List, [], ◌∷◌}
use Prim.Native.Nat.{ℕ, ◌≤◌, ◌<◌}
use borrow.Author.Tests.{lt-ltb, le-ltb}
use lib.IntN.{ℤ}
use lib.ListN.{length}
use Rattle.std.specs.Prelude.{Ok, Err}
use Rattle.answers.specs.declared.Refusal.{Refusal}
use Rattle.answers.specs.Numbers.{number_of}
use Rattle.overlay.specs.Overlay.{overlay}
use Rattle.int32.specs.declared.Int32Info.{Int32Info}
use Rattle.int32.specs.Reassemble.{view_reassemble, reassemble_entry}
use Rattle.int32.specs.Deconstruct.{view_deconstruct, deconstruct_entry}
use Rattle.slots.proofs.FillLaws.{slots_kept, fill-short, fill-refused, fill-laid}
use Rattle.int32_slots.specs.Int32Slots.{leave_reassemble, reassemble_call, deconstruct_call}

module _ (info : Int32Info) (samples : List ℤ) (literal answer : List ℕ) where
  pub reassemble_short : length answer < 1
      → record { refusal = 6; list = samples; answer = answer } ≡ reassemble_call info samples literal answer
  unfolding reassemble_call
  reassemble_short h = fill-short 1 samples _ answer _ _ h

  pub reassemble_refused : (x : Refusal) (after : List ℤ) → 1 ≤ length answer
      → view_reassemble (Err x) after ≡ reassemble_entry info samples literal
      → record { refusal = number_of x; list = after; answer = answer } ≡ reassemble_call info samples literal answer
  unfolding reassemble_call
  reassemble_refused x after h e = fill-refused 1 samples after answer (0 ∷ []) x h ∙ ap (leave_reassemble samples answer) e

  pub reassemble_laid : (b : ℕ) (after : List ℤ) (laid : List ℕ) → 1 ≤ length answer
      → view_reassemble (Ok b) after ≡ reassemble_entry info samples literal → laid ≡ overlay answer 0 (b ∷ [])
      → record { refusal = 0; list = after; answer = laid } ≡ reassemble_call info samples literal answer
  unfolding reassemble_call
  reassemble_laid b after laid h e l = fill-laid 1 samples after answer (b ∷ []) laid h l ∙ ap (leave_reassemble samples answer) e

  pub deconstruct_short : length answer < 1
      → record { refusal = 6; samples = samples; literal = literal; answer = answer }
      ≡ deconstruct_call info samples literal answer
  unfolding deconstruct_call
  deconstruct_short h = rw (lt-ltb (length answer) 1 h)

  pub deconstruct_refused : (x : Refusal) (after : List ℤ) (stored : List ℕ) → 1 ≤ length answer
      → view_deconstruct (Err x) after stored ≡ deconstruct_entry info samples literal
      → record { refusal = number_of x; samples = after; literal = stored; answer = answer }
      ≡ deconstruct_call info samples literal answer
  unfolding deconstruct_call
  deconstruct_refused x after stored h e = rw (← e, le-ltb (length answer) 1 h, slots_kept x (0 ∷ []) answer)

  pub deconstruct_laid : (b : ℕ) (after : List ℤ) (stored laid : List ℕ) → 1 ≤ length answer
      → view_deconstruct (Ok b) after stored ≡ deconstruct_entry info samples literal → laid ≡ overlay answer 0 (b ∷ [])
      → record { refusal = 0; samples = after; literal = stored; answer = laid }
      ≡ deconstruct_call info samples literal answer
  unfolding deconstruct_call
  deconstruct_laid b after stored laid h e l = rw (← e, le-ltb (length answer) 1 h, l)
