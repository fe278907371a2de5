-- `get_unary` meets its contract: the loop has passed ones only, and by `counted` the window at p
-- ends them or is passed too. Behind the last whole window `get_unary_in_bytes` counts on.
-- Assumes nothing.
use borrow.Author.Rules.{rules}
use native.Mathlib.Omega.{arith}
use mathlib.Core.List.{List}
use mathlib.Core.Path.{◌≡◌, sym, ◌∙◌}
use Prim.Native.Nat.{ℕ, ◌+◌, ◌-◌, ◌≤◌, ◌*◌, ◌/◌, ◌%◌, ◌^◌}
use lib.Count.{count_trailing_zeros}
use lib.ListN.{length, take, drop}
use Rattle.bits.specs.Bits.{bits_of, num}
use Rattle.bits.proofs.BitLaws.{length-bits}
use Rattle.bits.proofs.OnesLaws.{Counted, counted, passed_on, passed-stop}
use Rattle.bits.proofs.OnesLaws.{Whole, passed-whole, passed-missing}
use Rattle.bits.proofs.Window.{place-window}
use Rattle.unary_reading.proofs.get_unary.Goals as goal

-- what the count of the window at p says
here : (s : List ℕ) (p w n : ℕ) → p / 8 + 8 ≤ length s → w ≡ num (bits_of (take 8 (drop (p / 8) s)))
    → n ≡ count_trailing_zeros 64 (2 ^ 64 - 1 - w / 2 ^ (p % 8))
    → Counted (bits_of s) p (8 * 8 - p % 8) n
here s p w n inside e f =
    rw f (counted (bits_of s) p (8 * 8 - p % 8) 64 _ (place-window s p 8 _ (omega arith) (omega arith) e)
    (omega arith))

pub returns-then-n-k-lt64 : goal.returns-then-n-k-lt64
returns-then-n-k-lt64 c =
    let h = here c.args.s.now c.loop-p.p _ _ (omega arith) c.eight.ensures c.trailing_ones-n.ensures in
    sym (passed-stop c.loop-p.invariant h (omega arith))

pub loop-p-preserved : goal.loop-p-preserved
loop-p-preserved c =
    let h = here c.args.s.now c.loop-p.p _ _ (omega arith) c.eight.ensures c.trailing_ones-n.ensures in
    passed_on _ c.loop-p.invariant h (omega arith) (omega arith)

pub returns-in_err-n : goal.returns-in_err-n
returns-in_err-n c =
    rw c.from_residual.ensures (sym (passed-missing c.loop-p.invariant
    (sym c.get_unary_in_bytes.ensures ∙ c.in_err-n.was)))

-- the whole count, where the last bytes have a zero, and how many bits there are
whole : (c : goal.In_ok-n) →
    Whole (bits_of c.args.s.now) c.args.at c.loop-p.p c.in_ok-n.n c.in_ok-n.next
    × (length (bits_of c.args.s.now) ≡ 8 * length c.args.s.now)
whole c = (
  passed-whole c.loop-p.invariant (sym c.get_unary_in_bytes.ensures ∙ c.in_ok-n.was),
  length-bits c.args.s.now,
)

pub returns : goal.returns
returns c = sym (whole (search rules)).0.same

pub overflow_cast-result-2 : goal.overflow_cast-result-2
overflow_cast-result-2 c = let w = whole (search rules) in omega (arith, w.0.inside, w.1)

pub overflow_add-result-2 : goal.overflow_add-result-2
overflow_add-result-2 c = let w = whole (search rules) in omega (arith, w.0.inside, w.1)
