-- The C interface: a lent list has numbered slots for a function's values. A list that is shorter
-- is refused with 6, and nothing is written.
-- Assumes nothing.
use Rattle.std.specs.Prelude.{ℕ, cond, List, ltb, length}
use Rattle.answers.specs.Guard.{unless_refused}
use Rattle.overlay.specs.Overlay.{overlay}

-- 6 where a list has fewer elements than n slots
abbrev pub slot_refusal {ℓ} : {A : Type ℓ} → ℕ → List A → ℕ
slot_refusal n list = cond (ltb (length list) n) 6 0

-- what a call that answered a number leaves in a list: the values in its first slots where it was
-- accepted, and otherwise what the list held
abbrev pub leave_values {ℓ} : {A : Type ℓ} → ℕ → List A → List A → List A
leave_values number values list = unless_refused number (λ _. list) (overlay list 0 values)

-- what a call leaves that fills a lent list: the number that it answers, the list, and the slots
pub record Filled (A : Type 0) : Type 0 where
  pub refusal : ℕ
  pub list : List A
  pub answer : List ℕ

-- such a call with n slots. With too few of them 6, and both lists as they were; else the number that
-- was told, the list as it then was, and the values that were told, for which a refusal has no use
abbrev pub fill_call : {A : Type 0} → ℕ → List A → List ℕ → ℕ → List A → List ℕ → Filled A
fill_call n before answer number after values =
    cond (ltb (length answer) n) (record { refusal = 6; list = before; answer = answer }) (record { refusal = number; list = after; answer = leave_values number values answer })
