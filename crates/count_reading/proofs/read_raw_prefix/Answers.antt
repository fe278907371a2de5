-- `count_reading::read_raw_prefix` meets its contract: each way out is the definition, rewritten
-- with the tests and the parts on the way.
-- Assumes nothing.
use native.Mathlib.Omega.{arith}
use mathlib.Core.Path.{◌≡◌, sym, ◌∙◌}
use mathlib.Core.Bool.{Bool, cond}
use mathlib.Core.List.{List}
use Prim.Native.Nat.{ℕ, ◌+◌, ◌≤◌, ◌<◌}
use lib.Dec.{leb}
use borrow.Author.Tests.{lt-ltb, le-ltb, le-leb, lt-leb, eq-eqb, ne_eqb}
use Rattle.std.specs.Prelude.{Option, Some, None, Result, Ok, Err}
use Rattle.std.specs.Option.{ok_or}
use Rattle.std.specs.Result.{IsErrAnd}
use Rattle.std.proofs.lemmas.Result.{err_from_is_err_and}
use Rattle.bits.specs.Fields.{unary}
use Rattle.fields.specs.Counts.{counted, escaped, prefix}
use Rattle.answers.specs.declared.Refusal.{Refusal}
use Rattle.answers.specs.declared.Refusal.TheVariants.{Truncated}
use Rattle.count_reading.proofs.read_raw_prefix.Goals as goal

-- what a missing part makes of the whole: the refusal that it was given
missing : {T : Type 0} (r : Result (ℕ × ℕ) Refusal) (o : Option T) {x : Refusal} → IsErrAnd r (λ y. y ≡ x)
    → ◌≡◌ {A = Result T Refusal} (Err x) (ok_or o Truncated) → o ≡ None → r ≡ Err Truncated
missing {T} r o {x} h e n =
    let p = err_from_is_err_and r h in
    let f : ◌≡◌ {A = Result T Refusal} (Err x) (Err Truncated) = e ∙ rw n in
    let same : x ≡ Truncated = cc in
    rw (p.1, p.2, same)

pub returns-in_err-first : goal.returns-in_err-first
unfolding prefix
returns-in_err-first c =
    let e = c.in_err-first.ensures in
    rw (missing _ _ c.from_residual.ensures.1 e.value e.ok_part, sym c.get_unary.ensures ∙ e.ok_part)

pub returns-then-first-lt16 : goal.returns-then-first-lt16
unfolding prefix
returns-then-first-lt16 c =
    rw (sym c.get_unary.ensures ∙ c.in_ok-first.ensures.ok_part, lt-ltb _ _ c.if-first-lt16.true)

pub returns-in_err-second : goal.returns-in_err-second
unfolding prefix
returns-in_err-second c =
    let e = c.in_err-second.ensures in
    rw (
      missing _ _ c.from_residual-in_err-second.ensures.1 e.value e.ok_part,
      sym c.get_unary.ensures ∙ c.in_ok-first.ensures.ok_part,
      le-ltb _ _ c.if-first-lt16.false,
      sym c.get_unary-2.ensures ∙ e.ok_part,
    )

-- past both counts
past : (bits : List Bool) (p : ℕ) {first behind second digits : ℕ} → unary bits p ≡ Some (first, behind)
    → 16 ≤ first
    → unary bits behind ≡ Some (second, digits) → prefix bits p ≡ escaped bits second digits
unfolding prefix
past bits p e h f = rw (e, le-ltb _ _ h, f)

pub returns-then-second-eq33 : goal.returns-then-second-eq33
unfolding escaped
returns-then-second-eq33 c =
    rw (
      past _ _ (sym c.get_unary.ensures ∙ c.in_ok-first.ensures.ok_part) c.if-first-lt16.false
          (sym c.get_unary-2.ensures ∙ c.in_ok-second.ensures.ok_part),
      eq-eqb c.in_ok-second.second 33 (omega arith),
    )

pub returns-then-second-gt33 : goal.returns-then-second-gt33
unfolding escaped
returns-then-second-gt33 c =
    let n = c.in_ok-second.second in
    rw (
      past _ _ (sym c.get_unary.ensures ∙ c.in_ok-first.ensures.ok_part) c.if-first-lt16.false
          (sym c.get_unary-2.ensures ∙ c.in_ok-second.ensures.ok_part),
      ne_eqb n 33 (omega arith),
      lt-ltb 33 n (omega arith),
    )

pub returns-in_err-rest : goal.returns-in_err-rest
unfolding escaped
returns-in_err-rest c =
    let n = c.in_ok-second.second in
    let e = c.in_err-rest.ensures in
    rw (
      missing _ _ c.from_residual-in_err-rest.ensures.1 e.value e.ok_part,
      past _ _ (sym c.get_unary.ensures ∙ c.in_ok-first.ensures.ok_part) c.if-first-lt16.false
          (sym c.get_unary-2.ensures ∙ c.in_ok-second.ensures.ok_part),
      ne_eqb n 33 (omega arith),
      le-ltb 33 n (omega arith),
      sym c.read_counted.ensures ∙ e.ok_part,
    )

-- past the number behind the second count
third : (bits : List Bool) (p second digits : ℕ) {rest next : ℕ}
    → prefix bits p ≡ escaped bits second digits → (second ≡ 33 → ⊥) → second ≤ 33
    → counted bits digits second ≡ Some (rest, next)
    → prefix bits p ≡ cond (leb (16 + rest) 4294967295) (Ok (16 + rest, next)) (Err Truncated)
unfolding escaped
third bits p second digits e h k f = rw (e, ne_eqb _ _ h, le-ltb _ _ k, f)

pub returns-in_err-value : goal.returns-in_err-value
returns-in_err-value c =
    let e = past _ _ (sym c.get_unary.ensures ∙ c.in_ok-first.ensures.ok_part) c.if-first-lt16.false
    (sym c.get_unary-2.ensures ∙ c.in_ok-second.ensures.ok_part) in
    let v = c.in_err-value.ensures in
    let over = rw v.ok_part at c.checked_add.ensures in
    let h : 4294967295 < 16 + c.in_ok-rest.rest = omega (arith, over) in
    rw (
      missing _ _ c.from_residual-in_err-value.ensures.1 v.value v.ok_part,
      third _ _ c.in_ok-second.second _ e (omega arith) (omega arith)
          (sym c.read_counted.ensures ∙ c.in_ok-rest.ensures.ok_part),
      lt-leb (16 + c.in_ok-rest.rest) 4294967295 h,
    )

pub returns : goal.returns
returns c =
    let e = past _ _ (sym c.get_unary.ensures ∙ c.in_ok-first.ensures.ok_part) c.if-first-lt16.false
    (sym c.get_unary-2.ensures ∙ c.in_ok-second.ensures.ok_part) in
    let within = rw c.in_ok-value.ensures.ok_part at c.checked_add.ensures in
    let v : c.in_ok-value.value ≡ 16 + c.in_ok-rest.rest = omega (arith, within.1) in
    rw (
      v,
      third _ _ c.in_ok-second.second _ e (omega arith) (omega arith)
          (sym c.read_counted.ensures ∙ c.in_ok-rest.ensures.ok_part),
      le-leb (16 + c.in_ok-rest.rest) 4294967295 (omega (arith, within.0)),
    )
