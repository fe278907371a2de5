-- The three answers of `make_pass`.
-- Assumes nothing.
use mathlib.Core.Path.{◌≡◌, refl, sym, ap, ◌∙◌}
use mathlib.Core.List.{List}
use Prim.Native.Nat.{ℕ, zero, suc, ◌≤◌, ◌<◌}
use lib.IntN.{ℤ}
use lib.ListN.{length}
use borrow.Author.Tests.{lt-ltb, le-ltb}
use Rattle.answers.specs.Guard.{unless_refused}
use Rattle.answers.specs.declared.Refusal.{Refusal}
use Rattle.answers.specs.Numbers.{number_of}
use Rattle.slots.proofs.FillLaws.{slots_kept}
use Rattle.passes.specs.Making.{making_refusal, Made, no_pass, made}
use Rattle.passes.specs.declared.DecorrPass.{DecorrPass}
use Rattle.overlay.specs.Overlay.{overlay}
use Rattle.slots.specs.Slots.{leave_values}
use Rattle.made_slots.specs.MadeSlots.{pass_slots, slots_of, pass_answer, pass_values}

-- pass making tells the number that it is given
by-refusal : (n : ℕ) (p : DecorrPass) → (unless_refused {A = Made} n (λ k. record { refusal = k; pass = no_pass }) (record { refusal = 0; pass = p })).refusal ≡ n
by-refusal zero p = refl
by-refusal (suc n) p = refl

module _ (term delta weightA weightB : ℤ) (seedA seedB slots : List ℤ) where
  -- what `make_pass` answers, and leaves in the list of slots
  abbrev pub Passed : ℕ → List ℤ → Type 0
  Passed r after = (r ≡ pass_answer term seedA seedB slots) × (after ≡ leave_values r (pass_values term delta weightA weightB seedA seedB) slots)

  -- the number that making tells is its refusal
  made-refusal : (made term delta weightA weightB seedA seedB).refusal ≡ making_refusal term seedA seedB
  unfolding made
  made-refusal = by-refusal (making_refusal term seedA seedB) _

  -- too few slots
  pub pass-short : length slots < pass_slots → Passed 6 slots
  pass-short h = rw (lt-ltb (length slots) pass_slots h) (refl, refl)

  module _ (n : ℕ) (p : DecorrPass) (told : record { refusal = n; pass = p } ≡ made term delta weightA weightB seedA seedB)
      (enough : pass_slots ≤ length slots) where
    number_is : n ≡ making_refusal term seedA seedB
    number_is = ap (λ (m : Made). m.refusal) told ∙ made-refusal

    -- a pass that is refused
    pub pass-refused : (x : Refusal) → n ≡ number_of x → Passed n slots
    pass-refused x e =
        let kept = slots_kept x (pass_values term delta weightA weightB seedA seedB) slots in
        rw (le-ltb (length slots) pass_slots enough) (number_is, sym (rw (← e) at kept))

    -- one that is made
    pub pass-made : (values after : List ℤ) → n ≡ 0 → values ≡ slots_of p → after ≡ overlay slots 0 values → Passed 0 after
    pass-made values after f g h =
        let z : 0 ≡ making_refusal term seedA seedB = rw f at number_is in
        let v : values ≡ pass_values term delta weightA weightB seedA seedB = g ∙ ap (λ (m : Made). slots_of m.pass) told in
        rw (le-ltb (length slots) pass_slots enough) (z, h ∙ ap (overlay slots 0) v)
