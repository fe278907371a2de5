-- Why the way back refuses, and what it leaves where it does not.
-- Assumes nothing.
use mathlib.Core.Path.{◌≡◌, refl, sym, ap, ap₂, ◌∙◌}
use mathlib.Core.Bool.{Bool, true, false, cond}
use mathlib.Core.List.{List, map}
use Prim.Native.Nat.{ℕ, zero, suc, ◌*◌, ◌≤◌, ◌<◌}
use native.Mathlib.Omega.{arith}
use borrow.Author.Tests.{lt-ltb, le-ltb, ltb-false}
use lib.Dec.{ltb}
use lib.IntN.{ℤ}
use lib.ListN.{length}
use Rattle.answers.specs.declared.Refusal.{Refusal}
use Rattle.answers.specs.Guard.{unless_refused}
use Rattle.answers.specs.Limits.{max_elements}
use Rattle.answers.specs.Numbers.{number_of}
use Rattle.answers.proofs.GuardLaws.{refused-first, refused-later, neither-refused, guard_refused}
use Rattle.answers.proofs.GuardLaws.{guard_accepted}
use Rattle.answers.proofs.NumberLaws.{number-positive}
use Rattle.overlay.specs.Overlay.{overlay}
use Rattle.bits.specs.Laid.{bytes_holding}
use Rattle.int32_sample.specs.Sample.{above}
use Rattle.int32_sample.specs.Setting.{width}
use Rattle.int32.specs.declared.Int32Info.{Int32Info}
use Rattle.int32.specs.Info.{Fields, info_refusal, setting_of}
use Rattle.int32.specs.Deconstruct.{all_reinsertable, freed, literal_of, deconstruct_refusal}
use Rattle.int32.specs.Deconstruct.{refuse_deconstruct, tell_deconstruct, deconstruct_entry}
use Rattle.int32.proofs.InfoLaws.{info_fit}

-- what none of the refusals meets
pub record Divisible (info : Int32Info) (samples : List ℤ) (room : ℕ) : Type 0 where
  pub fields : Fields info
  pub few : length samples ≤ max_elements
  pub enough : 4 * length samples ≤ room
  pub images : all_reinsertable (setting_of info) samples ≡ true

module _ (info : Int32Info) (samples : List ℤ) (room : ℕ) where
  -- 15 and 5 come first
  pub deconstruct_first : (x : Refusal) → number_of x ≡ info_refusal info (length samples)
      → number_of x ≡ deconstruct_refusal info samples room
  unfolding deconstruct_refusal
  deconstruct_first x e = e
      ∙ sym (refused-first (info_refusal info (length samples)) _ (rw (← e) (number-positive x)))

  -- 11: storage that is too short
  pub deconstruct_short : info_refusal info (length samples) ≡ 0 → room < 4 * length samples
      → 11 ≡ deconstruct_refusal info samples room
  unfolding deconstruct_refusal
  deconstruct_short e h =
      sym (refused-later (info_refusal info (length samples)) _ e
      ∙ ap (λ (t : Bool). cond t 11 (cond (all_reinsertable (setting_of info) samples) 0 16))
      (lt-ltb room (4 * length samples) h))

  -- 16 or nothing, by the test of every sample
  pub deconstruct_tested : (all : Bool) → info_refusal info (length samples) ≡ 0 → 4 * length samples ≤ room
      → all ≡ all_reinsertable (setting_of info) samples
      → cond all 0 16 ≡ deconstruct_refusal info samples room
  unfolding deconstruct_refusal
  deconstruct_tested all e h t =
      ap (λ (b : Bool). cond b 0 16) t
      ∙ sym (refused-later (info_refusal info (length samples)) _ e
      ∙ ap (λ (b : Bool). cond b 11 (cond (all_reinsertable (setting_of info) samples) 0 16))
      (le-ltb room (4 * length samples) h))

  -- where nothing is refused all of it holds
  pub divisible : deconstruct_refusal info samples room ≡ 0 → Divisible info samples room
  unfolding deconstruct_refusal
  divisible e = let t = neither-refused _ _ e in short (info_fit info (length samples) t.0)
      (ltb room (4 * length samples)) refl t.1
    where
      image : Fields info × (length samples ≤ max_elements) → 4 * length samples ≤ room → (t : Bool)
          → all_reinsertable (setting_of info) samples ≡ t
          → ◌≡◌ {A = ℕ} (cond t 0 16) 0 → Divisible info samples room
      image f h true q e = record { fields = f.0; few = f.1; enough = h; images = q }
      image f h false q e = absurd (omega arith)

      short : Fields info × (length samples ≤ max_elements) → (t : Bool) → ltb room (4 * length samples) ≡ t
          → ◌≡◌ {A = ℕ} (cond t 11 (cond (all_reinsertable (setting_of info) samples) 0 16)) 0
          → Divisible info samples room
      short f true q e = absurd (omega arith)
      short f false q e = image f (ltb-false _ _ q) (all_reinsertable (setting_of info) samples) refl e

module _ (info : Int32Info) (samples : List ℤ) (literal : List ℕ) where
  pub deconstruct_refused : (x : Refusal) → number_of x ≡ deconstruct_refusal info samples (length literal)
      → refuse_deconstruct samples literal (number_of x) ≡ deconstruct_entry info samples literal
  unfolding deconstruct_entry
  deconstruct_refused x e =
      ap (refuse_deconstruct samples literal) e
      ∙ sym (guard_refused _ (refuse_deconstruct samples literal) _ (rw (← e) (number-positive x)))

  pub deconstruct_accepted : deconstruct_refusal info samples (length literal) ≡ 0
      → deconstruct_entry info samples literal ≡ tell_deconstruct info samples literal
  unfolding deconstruct_entry
  deconstruct_accepted e = guard_accepted _ _ _ e

  -- what the code leaves, by how many redundant bits it found
  pub deconstruct_told : (k : ℕ) (xs : List ℤ) (stored : List ℕ)
      → deconstruct_refusal info samples (length literal) ≡ 0 → k ≡ width (setting_of info)
      → length xs ≡ length samples → xs ≡ map (above info.sent_bits) (map (above k) samples)
      → stored ≡ overlay literal 0 (bytes_holding (literal_of info.sent_bits (map (above k) samples)))
      → record { refusal = 0; bits = length xs * info.sent_bits; samples = xs; literal = stored }
      ≡ deconstruct_entry info samples literal
  deconstruct_told k xs stored z q l e f =
      let sent = info.sent_bits in
      let e' : xs ≡ map (above sent) (freed info samples) =
      e ∙ ap (λ (n : ℕ). map (above sent) (map (above n) samples)) q in
      let f' : stored ≡ overlay literal 0 (bytes_holding (literal_of sent (freed info samples))) =
      f ∙ ap (λ (n : ℕ). overlay literal 0 (bytes_holding (literal_of sent (map (above n) samples)))) q in
      ap (λ (n : ℕ). record { refusal = 0; bits = n * sent; samples = xs; literal = stored }) l
      ∙ ap₂ (λ (x : List ℤ) (b : List ℕ). record {
        refusal = 0;
        bits = length samples * sent;
        samples = x;
        literal = b;
      }) e' f' ∙ sym (deconstruct_accepted z)

  -- the number that is answered
  pub deconstruct_number : (deconstruct_entry info samples literal).refusal
      ≡ deconstruct_refusal info samples (length literal)
  unfolding deconstruct_entry
  deconstruct_number = go (deconstruct_refusal info samples (length literal))
    where
      go : (m : ℕ) → (unless_refused m (refuse_deconstruct samples literal)
          (tell_deconstruct info samples literal)).refusal ≡ m
      go zero = refl
      go (suc m) = refl
