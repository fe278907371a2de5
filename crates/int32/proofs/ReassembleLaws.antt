-- Why reassembly refuses, and what it leaves where it does not.
-- Assumes nothing.
use mathlib.Core.Path.{◌≡◌, refl, sym, ap, ◌∙◌}
use mathlib.Core.Bool.{Bool, true, false, cond}
use mathlib.Core.List.{List}
use Prim.Native.Nat.{ℕ, zero, suc, ◌*◌, ◌≤◌, ◌<◌}
use native.Mathlib.Omega.{arith}
use borrow.Author.Tests.{lt-ltb, le-ltb, ltb-false}
use lib.Dec.{ltb}
use lib.IntN.{ℤ}
use lib.ListN.{length, length-map}
use Rattle.answers.specs.declared.Refusal.{Refusal}
use Rattle.answers.specs.Guard.{unless_refused}
use Rattle.answers.specs.Limits.{max_elements}
use Rattle.answers.specs.Numbers.{number_of}
use Rattle.answers.proofs.GuardLaws.{refused-first, refused-later, neither-refused, guard_refused}
use Rattle.answers.proofs.GuardLaws.{guard_accepted}
use Rattle.answers.proofs.NumberLaws.{number-positive}
use Rattle.bits.specs.Bits.{bits_of}
use Rattle.int32_sample.specs.Setting.{reinsert}
use Rattle.int32.specs.declared.Int32Info.{Int32Info}
use Rattle.int32.specs.Info.{Fields, info_refusal, setting_of}
use Rattle.int32.specs.Reassemble.{Readable, appended, reassembled, reassemble_refusal}
use Rattle.int32.specs.Reassemble.{refuse_reassemble, reassemble_entry}
use Rattle.int32.proofs.InfoLaws.{info_fit}
use Rattle.int32.proofs.WideLaws.{appended-length}

module _ (info : Int32Info) (n room : ℕ) where
  -- 15 and 5 come first
  pub reassemble_first : (x : Refusal) → number_of x ≡ info_refusal info n → number_of x ≡ reassemble_refusal info n room
  unfolding reassemble_refusal
  reassemble_first x e = e ∙ sym (refused-first (info_refusal info n) _ (rw (← e) (number-positive x)))

  -- 3: too few literal bits
  pub reassemble_short : info_refusal info n ≡ 0 → 8 * room < n * info.sent_bits
      → 3 ≡ reassemble_refusal info n room
  unfolding reassemble_refusal
  reassemble_short e h =
      sym (refused-later (info_refusal info n) _ e ∙ ap (λ (t : Bool). cond t 3 0)
      (lt-ltb (8 * room) (n * info.sent_bits) h))

  -- none of them
  pub reassemble_none : info_refusal info n ≡ 0 → n * info.sent_bits ≤ 8 * room
      → 0 ≡ reassemble_refusal info n room
  unfolding reassemble_refusal
  reassemble_none e h =
      sym (refused-later (info_refusal info n) _ e ∙ ap (λ (t : Bool). cond t 3 0)
      (le-ltb (8 * room) (n * info.sent_bits) h))

  -- and then all of it holds
  pub readable : reassemble_refusal info n room ≡ 0 → Readable info n room
  unfolding reassemble_refusal
  readable e = let t = neither-refused _ _ e in go (info_fit info n t.0)
      (ltb (8 * room) (n * info.sent_bits)) refl t.1
    where
      go : Fields info × (n ≤ max_elements) → (t : Bool) → ltb (8 * room) (n * info.sent_bits) ≡ t
          → ◌≡◌ {A = ℕ} (cond t 3 0) 0 → Readable info n room
      go f true q e = absurd (omega arith)
      go f false q e = record { fields = f.0; few = f.1; enough = ltb-false _ _ q }

-- samples that are completed are as many
pub reassemble_length : (info : Int32Info) (bits : List Bool) (xs : List ℤ)
    → length (reassembled info bits xs) ≡ length xs
reassemble_length info bits xs = length-map (appended info.sent_bits bits xs)
    (reinsert (setting_of info)) ∙ appended-length info.sent_bits bits xs

module _ (info : Int32Info) (samples : List ℤ) (literal : List ℕ) where
  pub reassemble_refused : (x : Refusal) → number_of x ≡ reassemble_refusal info (length samples) (length literal)
      → refuse_reassemble samples (number_of x) ≡ reassemble_entry info samples literal
  unfolding reassemble_entry
  reassemble_refused x e = ap (refuse_reassemble samples) e
      ∙ sym (guard_refused _ (refuse_reassemble samples) _ (rw (← e) (number-positive x)))

  pub reassemble_accepted : reassemble_refusal info (length samples) (length literal) ≡ 0
      → reassemble_entry info samples literal
      ≡ record {
        refusal = 0;
        bits = length samples * info.sent_bits;
        samples = reassembled info (bits_of literal) samples;
      }
  unfolding reassemble_entry
  reassemble_accepted e = guard_accepted _ _ _ e

  -- the number that is answered
  pub reassemble_number : (reassemble_entry info samples literal).refusal
      ≡ reassemble_refusal info (length samples) (length literal)
  unfolding reassemble_entry
  reassemble_number = go (reassemble_refusal info (length samples) (length literal))
    where
      go : (m : ℕ) → (unless_refused m (refuse_reassemble samples)
          (record {
            refusal = 0;
            bits = length samples * info.sent_bits;
            samples = reassembled info (bits_of literal) samples;
          })).refusal ≡ m
      go zero = refl
      go (suc m) = refl
