-- The packing loop: what is written so far, and what is left, is the whole.
-- Assumes nothing.
use mathlib.Core.Path.{◌≡◌, refl, sym, ap, ap₂, ◌∙◌}
use mathlib.Core.Bool.{Bool, true, false}
use mathlib.Core.List.{List, [], ◌∷◌, ◌++◌}
use Prim.Native.Nat.{ℕ, suc, ◌+◌, ◌-◌, ◌*◌, ◌%◌, ◌^◌, ◌≤◌, ◌<◌}
use native.Mathlib.Numerals.{add-one}
use native.Mathlib.Omega.{arith}
use lib.IntN.{ℤ, pos}
use lib.ListN.{length, drop, get_or, set, length-append, length-drop, length-set, drop_of_length-le}
use lib.Seq.{drop-cons, drop-drop}
use Rattle.answers.specs.Limits.{max_elements, max_word_bits, residual_span}
use Rattle.entropy.proofs.SeedBounds.{none-small}
use Rattle.bits.specs.Laid.{put}
use Rattle.bits.proofs.LaidLaws.{Bytes, put-put, put_nil}
use Rattle.entropy.specs.declared.AdaptiveMedians.{AdaptiveMedians}
use Rattle.entropy.specs.Medians.{Medians, MedianPair, medians_of, pair_of, zero_set, Small}
use Rattle.word_state.specs.State.{State, start, flip, in_run}
use Rattle.word_state.proofs.StateLaws.{no_set, turned}
use Rattle.answers.proofs.TestLaws.{clash}
use Rattle.word_bits.specs.Residuals.{spanned}
use Rattle.packing.specs.Packing.{Out, behind, word_out, packed}
use Rattle.packing.specs.View.{Seen, Next, RunTakes, PackedIs}
use Rattle.packing.specs.declared.Packed.{Packed}
use Rattle.packing.proofs.PackedLaws.{packing_on, packing_end, settle}
use Rattle.packing.proofs.SetLaws.{set_is, other-is, replaced}
use Rattle.packing.proofs.SizeLaws.{word-long}
use Rattle.packing.proofs.InStepLaws.{Inv, start-inv, due-small, other-small, kept}
use Rattle.word_bits.proofs.ZeroLaws.{zeros_le, zeros-head}
use Rattle.spans.proofs.SpanLaws.{within-at}

-- w is written, and in this state the residuals from i on are left
pub record Loop (before : List ℕ) (vs : List ℤ) (s₀ : State) (out : List ℕ) (sets : List AdaptiveMedians) (place : ℕ) (lz lo brk : Bool) (i : ℕ) : Type 0 where
  pub state : State
  pub w : List Bool
  pub joined : behind w (packed state (drop i vs)) ≡ packed s₀ vs
  pub bytes : out ≡ put before 0 w
  pub place_is : place ≡ length w
  pub room : place ≤ max_word_bits * i
  pub here : i ≤ length vs
  pub same : length out ≡ length before
  pub low-bytes : Bytes out
  pub two : length sets ≡ 2
  pub left_is : state.left ≡ medians_of (get_or sets 0 zero_set)
  pub right_is : state.right ≡ medians_of (get_or sets 1 zero_set)
  pub channel-is : state.channel ≡ i % 2
  pub owes : state.debt ≡ 0
  pub zero_is : state.last_zero ≡ lz
  pub one-is : state.last_one ≡ lo
  pub break_is : state.run_break ≡ brk
  pub inv : Inv state (drop i vs)

-- nothing is written yet
pub loop_start : (before : List ℕ) (vs : List ℤ) (sets : List AdaptiveMedians) → Bytes before → length sets ≡ 2 → Small (pair_of sets).left → Small (pair_of sets).right
    → Loop before vs (start (pair_of sets).left (pair_of sets).right) before sets 0 false false false 0
loop_start before vs sets b e l r = record {
  state = start (pair_of sets).left (pair_of sets).right;
  w = [];
  joined = refl;
  bytes = sym (put_nil before 0);
  place_is = refl;
  room = omega arith;
  here = omega arith;
  same = refl;
  low-bytes = b;
  two = e;
  left_is = refl;
  right_is = refl;
  channel-is = refl;
  owes = refl;
  zero_is = refl;
  one-is = refl;
  break_is = refl;
  inv = start-inv (pair_of sets).left (pair_of sets).right vs l r;
}

module _ (before : List ℕ) (vs : List ℤ) (s₀ : State) (out : List ℕ) (sets : List AdaptiveMedians) (place : ℕ) (lz lo brk : Bool) (i : ℕ)
    (l : Loop before vs s₀ out sets place lz lo brk i) where
  -- the loop's locals are the state's medians and flags
  pub loop_seen : Seen l.state (medians_of (get_or sets (i % 2) no_set)) (medians_of (get_or sets (1 - i % 2) no_set)) lz lo brk
  loop_seen = record {
    owes = l.owes;
    due-is = rw (l.channel-is, l.left_is, l.right_is) (set_is sets (i % 2) l.two (omega arith));
    other-is = rw (l.channel-is, l.left_is, l.right_is) (other-is sets (i % 2) l.two (omega arith));
    zero_is = l.zero_is;
    one-is = l.one-is;
    break_is = l.break_is;
  }

  -- the medians due have 32 bits
  pub loop_due-small : Small (medians_of (get_or sets (i % 2) no_set))
  loop_due-small = rw loop_seen.due-is at (due-small l.inv)

  -- and so have the others
  pub loop_other-small : Small (medians_of (get_or sets (1 - i % 2) no_set))
  loop_other-small = rw loop_seen.other-is at (other-small l.inv)

  -- the residual due, and those behind it
  abbrev pub head : ℤ
  head = get_or vs i (pos 0)

  -- those behind it
  abbrev pub tail : List ℤ
  tail = drop (suc i) vs

  -- they are what is left
  split : i < length vs → drop i vs ≡ head ∷ tail
  split h = drop-cons vs i (pos 0) h

  -- the state is in step with them
  in_step : i < length vs → Inv l.state (head ∷ tail)
  in_step h = rw (← split h) l.inv

  -- what is written, with the word behind it
  more_bytes : (after : List ℕ) (f : List Bool) → after ≡ put out place f → after ≡ put before 0 (l.w ++ f)
  more_bytes after f e =
      let p : place ≡ 0 + length l.w = omega (arith, l.place_is) in
      e ∙ ap₂ (λ (x : List ℕ) (y : ℕ). put x y f) l.bytes p ∙ put-put before 0 l.w f (omega arith)

  -- with it, what is written and what is left is still the whole
  more-joined : i < length vs → behind (l.w ++ (word_out l.state head tail).bits) (packed (word_out l.state head tail).next tail) ≡ packed s₀ vs
  more-joined h = sym (packing_on l.w l.state head tail) ∙ ap (λ (x : List ℤ). behind l.w (packed l.state x)) (sym (split h)) ∙ l.joined

  -- what is left is short of 2 ^ 32
  few : length vs ≤ max_elements → i < length vs → length (head ∷ tail) < 2 ^ 32
  few n h = omega (arith, length-drop (suc i) vs)

  -- the word takes 111 bits at the most
  pub word_room : spanned vs ≡ true → length vs ≤ max_elements → i < length vs → length (word_out l.state head tail).bits ≤ max_word_bits
  word_room s n h = word-long l.state head tail (due-small (in_step h)) (within-at residual_span vs i s h) (few n h)

  -- a run ends within the residuals
  pub run_room : (run : ℕ) (z o : Bool) → i < length vs → RunTakes l.state (word_out l.state head tail).next (head ∷ tail) run z o → i + run ≤ length vs
  run_room run z o h t = omega (arith, t.length-is, zeros_le (head ∷ tail), length-drop (suc i) vs)

  -- a turn that writes a word
  pub loop_word : (after : List ℕ) (q : ℕ) (x : AdaptiveMedians) (z o : Bool) → spanned vs ≡ true → length vs ≤ max_elements → i < length vs
      → Next l.state (word_out l.state head tail).next (medians_of x) z o → after ≡ put out place (word_out l.state head tail).bits
      → q ≡ place + length (word_out l.state head tail).bits → length after ≡ length out → Bytes after → Loop before vs s₀ after (set sets (i % 2) x) q z o false (i + 1)
  loop_word after q x z o s n h t e p k b =
      let u = word_out l.state head tail in
      let r = replaced sets x (i % 2) l.two (omega arith) in
      let j : drop (i + 1) vs ≡ tail = ap (λ (a : ℕ). drop a vs) (add-one i) in
      record {
        state = u.next;
        w = l.w ++ u.bits;
        joined = ap (λ (a : List ℤ). behind (l.w ++ u.bits) (packed u.next a)) j ∙ more-joined h;
        bytes = more_bytes after u.bits e;
        place_is = omega (arith, length-append l.w u.bits, l.place_is);
        room = omega (arith, word_room s n h, l.room);
        here = omega arith;
        same = k ∙ l.same;
        low-bytes = b;
        two = length-set sets (i % 2) x ∙ l.two;
        left_is = t.left_is ∙ rw (l.channel-is, l.left_is) r.at_left;
        right_is = t.right_is ∙ rw (l.channel-is, l.right_is) r.at_right;
        channel-is = t.channel-is ∙ ap flip l.channel-is ∙ turned i;
        owes = t.owes ∙ l.owes;
        zero_is = t.zero_is;
        one-is = t.one-is;
        break_is = t.break_is;
        inv = rw j (kept l.state head tail (in_step h));
      }

  -- a turn that writes a run
  pub loop_run : (after : List ℕ) (q run : ℕ) (z o : Bool) → spanned vs ≡ true → length vs ≤ max_elements → i < length vs → 0 < run
      → RunTakes l.state (word_out l.state head tail).next (head ∷ tail) run z o → after ≡ put out place (word_out l.state head tail).bits
      → q ≡ place + length (word_out l.state head tail).bits → length after ≡ length out → Bytes after
      → Loop before vs s₀ after (zero_set ∷ zero_set ∷ []) q z o true (i + run)
  unfolding in_run
  loop_run after q run z o s n h some t e p k b =
      let u = word_out l.state head tail in
      let d = run - 1 in
      let y = in_run d l.state in
      let zs = zeros-head head tail d (omega (arith, t.length-is)) in
      let r = settle d (i + 1) y tail refl zs.1 (ap flip l.channel-is ∙ turned i) in
      let m : suc i + d ≡ i + run = omega arith in
      let j : drop d tail ≡ drop (i + run) vs = drop-drop d (suc i) vs ∙ ap (λ (a : ℕ). drop a vs) m in
      let c : packed u.next tail ≡ packed r.t (drop (i + run) vs) = ap (λ (a : State). packed a tail) t.state-is ∙ r.same ∙ ap (packed r.t) j in
      record {
        state = r.t;
        w = l.w ++ u.bits;
        joined = ap (behind (l.w ++ u.bits)) (sym c) ∙ more-joined h;
        bytes = more_bytes after u.bits e;
        place_is = omega (arith, length-append l.w u.bits, l.place_is);
        room = omega (arith, word_room s n h, l.room);
        here = run_room run z o h t;
        same = k ∙ l.same;
        low-bytes = b;
        two = refl;
        left_is = r.left_is;
        right_is = r.right_is;
        channel-is = r.channel-is ∙ omega arith;
        owes = r.owes;
        zero_is = r.zero_is ∙ t.no_zero ∙ sym t.zero_is;
        one-is = r.one-is ∙ t.no_one ∙ sym t.one-is;
        break_is = r.break_is;
        inv =
            record {
              owed = omega (arith, r.owes);
              zeroed = λ a. clash a (r.zero_is ∙ t.no_zero);
              oned = λ a. clash a (r.one-is ∙ t.no_one);
              small-left = rw r.left_is none-small;
              small-right = rw r.right_is none-small;
            };
      }

  -- all are written
  pub loop_end : (seeds : MedianPair) (r : Packed) → s₀ ≡ start seeds.left seeds.right → length vs ≤ i → r.bits ≡ place → r.medians ≡ sets → PackedIs before out seeds vs r
  loop_end seeds r g h b m =
      let j : drop i vs ≡ [] = drop_of_length-le vs {i = i} h in
      let e : record { bits = l.w; next = l.state } ≡ packed (start seeds.left seeds.right) vs =
      sym (packing_end l.w l.state) ∙ ap (λ (x : List ℤ). behind l.w (packed l.state x)) (sym j) ∙ l.joined ∙ ap (λ (x : State). packed x vs) g in
      record {
        bytes = l.bytes ∙ ap (λ (x : Out). put before 0 x.bits) e;
        bits_are = b ∙ l.place_is ∙ ap (λ (x : Out). length x.bits) e;
        medians_are =
            ap pair_of m ∙ ap₂ (λ (x y : Medians). record { left = x; right = y }) (sym l.left_is) (sym l.right_is)
            ∙ ap (λ (x : Out). record { left = x.next.left; right = x.next.right }) e;
      }
