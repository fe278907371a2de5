-- `block_faults::block_wrong` meets its contract: one law for each of its answers.
-- Assumes nothing.
use mathlib.Core.Path.{◌≡◌, sym, ◌∙◌}
use mathlib.Core.Bool.{true}
use mathlib.Core.List.{List}
use Prim.Native.Nat.{ℕ}
use native.Mathlib.Omega.{arith}
use borrow.Author.Tests.{eq-eqb, ne_eqb}
use Rattle.archive.specs.Block.{check_of, check_in, passes}
use Rattle.block_faults.proofs.AskedLaws.{asked-fits}
use Rattle.block_faults.proofs.ClearLaws.{clear-is}
use Rattle.block_faults.proofs.WrongLaws.{wrong_check, wrong-length, wrong-number, wrong-used}
use Rattle.block_faults.proofs.WrongLaws.{wrong-filling, wrong-last, wrong-none, filling-is}
use Rattle.block_faults.proofs.block_wrong.Goals.{then-check_of-number_at-via-then-check_of-number_at as by_check}
use Rattle.block_faults.proofs.block_wrong.Goals.{then-check_of-number_at-via-else-check_of-number_at+then-position-gt-MAX_PAYLOAD_BYTES as by_length}
use Rattle.block_faults.proofs.block_wrong.Goals.{then-check_of-number_at-via-else-check_of-number_at+else-position-gt-MAX_PAYLOAD_BYTES+then-short_at-position as by_number}
use Rattle.block_faults.proofs.block_wrong.Goals.{then-check_of-number_at-via-else-check_of-number_at+else-position-gt-MAX_PAYLOAD_BYTES+else-short_at-position+then-used-used_asked as by_used}
use Rattle.block_faults.proofs.block_wrong.Goals.{then-check_of-number_at-via-else-check_of-number_at+else-position-gt-MAX_PAYLOAD_BYTES+else-short_at-position+else-used-used_asked+then-not-is_clear as by_filling}
use Rattle.block_faults.proofs.block_wrong.Goals as goal

-- the sum is the check that the block holds
checked : (b : List ℕ) (sum held : ℕ) → sum ≡ check_of b → held ≡ check_in b → sum ≡ held → passes b ≡ true
checked b sum held s h e = eq-eqb _ _ (sym s ∙ e ∙ h)

pub overflow_add-used : goal.overflow_add-used
overflow_add-used c = omega (arith, asked-fits c.args.position.announced c.args.position.before)

pub slice_bounds-is_clear-count : goal.slice_bounds-is_clear-count
slice_bounds-is_clear-count c = omega (arith, asked-fits c.args.position.announced c.args.position.before)

pub slice_bounds-is_clear-start : goal.slice_bounds-is_clear-start
slice_bounds-is_clear-start c = omega (arith, asked-fits c.args.position.announced c.args.position.before)

pub returns-then-last : goal.returns-then-last
returns-then-last c =
    wrong-last _ _ _ _ c.requires
    (checked _ _ _ c.check_of.ensures c.number_at.ensures.is c.if-check_of-number_at.false)
    (omega arith)
    (sym c.short_at.ensures ∙ c.if-short_at-position.false)
    (sym c.short_at-used.ensures ∙ c.if-used-used_asked.false ∙ c.used_asked.ensures)
    (filling-is _ _ _ c.short_at-used.ensures (c.is_clear.ensures ∙ clear-is _) ∙ c.if-not-is_clear.false)
    _ c.if-last.true c.is_last.ensures

pub returns-else-last : goal.returns-else-last
returns-else-last c =
    c.if-last.false ∙ wrong-none _ _ _ _ c.requires
    (checked _ _ _ c.check_of.ensures c.number_at.ensures.is c.if-check_of-number_at.false)
    (omega arith)
    (sym c.short_at.ensures ∙ c.if-short_at-position.false)
    (sym c.short_at-used.ensures ∙ c.if-used-used_asked.false ∙ c.used_asked.ensures)
    (filling-is _ _ _ c.short_at-used.ensures (c.is_clear.ensures ∙ clear-is _) ∙ c.if-not-is_clear.false)
    c.if-last.false

-- a test that fails makes the block wrong
pub returns-then-check_of-number_at : goal.returns-then-check_of-number_at
returns-then-check_of-number_at c =
    let size = c.requires in
    let sum = c.check_of.ensures in
    let held = c.number_at.ensures.is in
    let used = c.short_at-used.ensures in
    elim c.then-check_of-number_at.branch [
      | by_check w ↦ wrong_check _ _ _ _ size
          (ne_eqb _ _ (λ e. w.if-check_of-number_at.true (sum ∙ e ∙ sym held)))
      | by_length w ↦ wrong-length _ _ _ _ size (checked _ _ _ sum held w.if-check_of-number_at.false) (omega arith)
      | by_number w ↦ wrong-number _ _ _ _ size (checked _ _ _ sum held w.if-check_of-number_at.false) (omega arith)
          (λ e. w.if-short_at-position.true (w.short_at.ensures ∙ e))
      | by_used w ↦ wrong-used _ _ _ _ size (checked _ _ _ sum held w.if-check_of-number_at.false) (omega arith)
          (sym w.short_at.ensures ∙ w.if-short_at-position.false)
          (λ e. w.if-used-used_asked.true (used ∙ e ∙ sym w.used_asked.ensures))
      | by_filling w ↦ wrong-filling _ _ _ _ size (checked _ _ _ sum held w.if-check_of-number_at.false) (omega arith)
          (sym w.short_at.ensures ∙ w.if-short_at-position.false)
          (sym used ∙ w.if-used-used_asked.false ∙ w.used_asked.ensures)
          (filling-is _ _ _ used (w.is_clear.ensures ∙ clear-is _) ∙ w.if-not-is_clear.true)
    ]
