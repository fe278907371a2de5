-- Passes and their slots: the term of a slot, one pass, lists of passes pass by pass. Assumes nothing.
use mathlib.Core.Path.{◌≡◌, refl, sym, ap, ◌∙◌}
use mathlib.Core.List.{List, [], ◌∷◌, ◌++◌, append_assoc, append-nil}
use Prim.Native.Nat.{ℕ, zero, suc, ◌+◌, ◌-◌, ◌*◌, ◌≤◌, ◌<◌}
use native.Mathlib.Omega.{arith}
use lib.IntN.{ℤ, pos, negsuc}
use lib.ListN.{length, get_or, set, take, drop, length-append, length-drop, get_or-append}
use lib.Seq.{take_at, drop_at, take-suc, take-suc-set, take-length, drop-drop, take-append-le, drop-append-le}
use mir.Syntax.{w8}
use mir.Val.{SFits}
use borrow.Author.Tests.{le-leb}
use Rattle.passes.specs.declared.DecorrPass.{DecorrPass}
use Rattle.overlay.specs.Overlay.{overlay}
use Rattle.overlay.proofs.OverlayLaws.{overlay_none, overlay_on, overlay_whole}
use Rattle.made_slots.specs.MadeSlots.{pass_slots, slots_of}
use Rattle.pass_slots.specs.PassSlots.{slot_term, pass_of, passes_of, list_slots}

-- ---- the term of a slot

-- a number of 8 bits is kept
pub term-kept : (z : ℤ) → SFits w8 z → z ≡ slot_term z
term-kept (pos n) h = rw (le-leb n 127 (omega (arith, h.sfits)))
term-kept (negsuc n) h = rw (le-leb n 127 (omega (arith, h.sfits)))

-- ---- one pass

-- the part of a list from place a on is what is left of it
pub part-is : (a : ℕ) (l : List ℤ) → take (length l - a) (drop a l) ≡ drop a l
part-is a l = rw (← length-drop a l) (take-length (drop a l))

-- the slots of a pass hold that pass
pub pass-again : (p : DecorrPass) → SFits w8 p.term → length p.history_a ≡ 8 → length p.history_b ≡ 8 → pass_of (slots_of p) ≡ p
unfolding pass_of slots_of
pass-again p h a b =
    let l = p.history_b in
    let whole : take 8 l ≡ l = rw (← b) (take-length l) in
    rw (← term-kept p.term h, take_at p.history_a l 8 a, drop_at p.history_a l 8 a, whole)

-- what stands in a slot of the first list
slot-first : (xs ys : List ℤ) (i : ℕ) → i < length xs → get_or (xs ++ ys) i (pos 0) ≡ get_or xs i (pos 0)
slot-first xs ys i h = get_or-append xs ys (pos 0) i h

-- a history of the first list
history-first : (xs ys : List ℤ) (at : ℕ) → at + 8 ≤ length xs → take 8 (drop at (xs ++ ys)) ≡ take 8 (drop at xs)
history-first xs ys at h =
    rw (drop-append-le at xs ys (omega arith)) (take-append-le 8 (drop at xs) ys (rw (length-drop at xs) (omega arith)))

-- the first pass of a list, whatever stands behind it
pub pass-first : (xs ys : List ℤ) → pass_slots ≤ length xs → pass_of (xs ++ ys) ≡ pass_of xs
unfolding pass_of
pass-first xs ys h =
    rw (
      slot-first xs ys 0 (omega arith),
      slot-first xs ys 1 (omega arith),
      slot-first xs ys 2 (omega arith),
      slot-first xs ys 3 (omega arith),
      history-first xs ys 4 (omega arith),
      history-first xs ys 12 (omega arith),
    )

-- ---- lists of passes

-- one pass more
passes-more : (i : ℕ) (s : List ℤ) → passes_of (suc i) s ≡ passes_of i s ++
    (pass_of (drop (i * pass_slots) s) ∷ [])
passes-more zero s = refl
passes-more (suc i) s =
    let e : pass_slots + i * pass_slots ≡ suc i * pass_slots = omega arith in
    ap (λ (l : List DecorrPass). pass_of s ∷ l) (rw (← e, ← drop-drop (i * pass_slots) pass_slots s)
    (passes-more i (drop pass_slots s)))

-- how many there are
pub passes-length : (n : ℕ) (s : List ℤ) → length (passes_of n s) ≡ n
passes-length zero s = refl
passes-length (suc n) s = ap suc (passes-length n (drop pass_slots s))

-- one pass more in an array
pub taken_more : (i : ℕ) (ps : List DecorrPass) (p : DecorrPass) (s : List ℤ) → i < length ps → take i ps ≡
    passes_of i s → p ≡ pass_of (drop (i * pass_slots) s) → take (suc i) (set ps i p) ≡ passes_of (suc i) s
taken_more i ps p s h e f = rw (take-suc-set ps i p h, e, f) (sym (passes-more i s))

-- slots of two lists, one behind the other
pub slots_append : (ps qs : List DecorrPass) → list_slots (ps ++ qs) ≡ list_slots ps ++ list_slots qs
slots_append [] qs = refl
slots_append (p ∷ ps) qs = rw (slots_append ps qs, append_assoc (slots_of p) (list_slots ps) (list_slots qs))

-- the slots of the first i passes are laid
pub record Laying (i : ℕ) (ps : List DecorrPass) (before slots : List ℤ) : Type 0 where
  pub long : length (list_slots (take i ps)) ≡ i * pass_slots
  pub holds : slots ≡ overlay before 0 (list_slots (take i ps))

pub laying_none : (ps : List DecorrPass) (before : List ℤ) → Laying 0 ps before before
laying_none ps before = record { long = refl; holds = sym (overlay_none before 0) }

-- one more is laid behind them
pub laying_more : (i : ℕ) (ps : List DecorrPass) (d : DecorrPass) (before slots values after : List ℤ) → i <
    length ps → length values ≡ pass_slots → values ≡ slots_of (get_or ps i d)
    → after ≡ overlay slots (i * pass_slots) values → Laying i ps before slots → Laying (suc i) ps before after
laying_more i ps d before slots values after h n v e l =
    let done = list_slots (take i ps) in
    let more : list_slots (take (suc i) ps) ≡ done ++ values = rw (take-suc ps i d h, slots_append (take i ps) (get_or ps i d ∷ []), append-nil (slots_of (get_or ps i d)), v) in
    let long : length (done ++ values) ≡ suc i * pass_slots = rw (length-append done values, l.long, n)
    (omega arith) in
    record {
      long = rw more long;
      holds = rw more (e ∙ ap (λ (x : List ℤ). overlay x (i * pass_slots) values)
          l.holds ∙ overlay_on before 0 (i * pass_slots) done values (omega arith)
          (omega (arith, l.long)));
    }

-- all of them are laid
pub laying_all : (n i : ℕ) (ps : List DecorrPass) (before slots : List ℤ) → n ≤ i → i ≤ n → length before ≡
    n * pass_slots → Laying i ps before slots → slots ≡ list_slots (take n ps)
laying_all n i ps before slots h k e l =
    let same : i ≡ n = omega arith in
    let whole : length (list_slots (take i ps)) ≡ length before = l.long ∙ rw same (sym e) in
    rw (← same) (l.holds ∙ overlay_whole before (list_slots (take i ps)) whole)
