-- Document 01, "Why each operation says no": what follows from a number, where 0 is accepted and
-- any other number a refusal (D1.6).
-- Assumes nothing.
use Rattle.std.specs.Prelude.{ℕ, zero, suc}

-- the first of two refusals that applies: a later test is asked only where the earlier one found
-- nothing
abbrev pub or_else : ℕ → ℕ → ℕ
or_else zero later = later
or_else (suc earlier) later = suc earlier

-- nothing happens where a number is a refusal: what is then told and kept, else what happens
abbrev pub unless_refused {ℓ} : {A : Type ℓ} → ℕ → (ℕ → A) → A → A
unless_refused zero kept happens = happens
unless_refused (suc number) kept happens = kept (suc number)
