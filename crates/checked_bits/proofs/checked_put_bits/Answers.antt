-- `checked_put_bits` meets its contract: each test as it was met on the way, and what `lay_bits`
-- leaves.
-- Assumes nothing.
use native.Mathlib.Omega.{arith}
use mathlib.Core.Path.{ap}
use mathlib.Core.List.{[], ◌∷◌}
use Prim.Native.Nat.{ℕ}
use Rattle.bits.proofs.CheckedLaws.{written-large, written-wide, written-short, written-accepted}
use Rattle.checked_bits.proofs.checked_put_bits.Goals as goal

pub returns-then-out-gt-MAX_PAYLOAD_BYTES : goal.returns-then-out-gt-MAX_PAYLOAD_BYTES
returns-then-out-gt-MAX_PAYLOAD_BYTES c =
    let e = written-large c.args.out.now c.args.at c.args.v c.args.count (omega arith) in
    record { answer = rw e; buffer = rw e }

pub returns-then-count-gt32 : goal.returns-then-count-gt32
returns-then-count-gt32 c =
    let e = written-wide c.args.out.now c.args.at c.args.v c.args.count (omega arith) (omega arith) in
    record { answer = rw e; buffer = rw e }

pub returns-then-at-end : goal.returns-then-at-end
returns-then-at-end c =
    let e =
    written-short c.args.out.now c.args.at c.args.v c.args.count (omega arith) (omega arith) (omega arith) in
    record { answer = rw e; buffer = rw e }

pub returns-then-count-end : goal.returns-then-count-end
returns-then-count-end c =
    let e =
    written-short c.args.out.now c.args.at c.args.v c.args.count (omega arith) (omega arith) (omega arith) in
    record { answer = rw e; buffer = rw e }

pub returns : goal.returns
returns c =
    let e =
    written-accepted c.args.out.now c.args.at c.args.v c.args.count (omega arith) (omega arith) (omega arith) in
    record {
      answer = rw e (ap (λ (n : ℕ). 0 ∷ n ∷ []) c.lay_bits.ensures.next);
      buffer = rw e c.lay_bits.ensures.buffer;
    }
