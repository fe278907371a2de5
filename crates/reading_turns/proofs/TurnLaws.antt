-- A turn of the reading loop: short words after a sample, and the fact that a turn carries.
-- Assumes nothing.
use mathlib.Core.Path.{◌≡◌, ap}
use mathlib.Core.List.{List}
use Prim.Native.Nat.{ℕ, ◌≤◌}
use lib.IntN.{ℤ}
use Rattle.std.proofs.Math.Bridge.{le_prop}
use Rattle.short_steps.specs.Onward.{Onward}
use Rattle.short_steps.specs.declared.standing.Standing.{Standing}
use Rattle.reading_turns.specs.declared.turn.Turn.{Turn}

-- the list and the place where they began may be written otherwise
pub onward_from : (payload : List ℕ) (a b after : List ℤ) (x y to : Standing) → a ≡ b → x.place ≡ y.place
    → x.left_bits ≡ y.left_bits → x.written ≡ y.written → x.left ≡ y.left → x.right ≡ y.right
    → x.last_zero ≡ y.last_zero → x.last_one ≡ y.last_one
    → Onward payload a after x to → Onward payload b after y to
onward_from payload a b after x y to e p l i m n z u o = record {
  goes = λ out₀ s₀ w. o.goes out₀ s₀ (rw (e, p, l, i, m, n, z, u) w);
  since = rw i at o.since;
  within = o.within;
  same = rw e at o.same;
}

-- the turn, with this proof that left's bits are a part of all
abbrev pub with_part : (t : Turn) → t.left_bits ≤ t.bits → Turn
with_part t h = record {
  bits = t.bits;
  left_bits = t.left_bits;
  written = t.written;
  medians = t.medians;
  run_break = t.run_break;
  last_zero = t.last_zero;
  last_one = t.last_one;
  part = h;
}

-- whatever proves it, the turn is the same
pub turn_part : (t : Turn) (h : t.left_bits ≤ t.bits) → t ≡ with_part t h
turn_part t h = ap (with_part t) (le_prop t.part h)
