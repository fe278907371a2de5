-- Fixed lags that look back in the buffer: what the ring holds, and a turn of the loop.
-- Assumes nothing.
use mathlib.Core.Path.{◌≡◌, refl, sym, ap, ◌∙◌}
use mathlib.Core.Bool.{false}
use mathlib.Core.List.{List}
use Prim.Native.Nat.{ℕ, zero, suc, ◌+◌, ◌-◌, ◌*◌, ◌/◌, ◌%◌, ◌≤◌, ◌<◌}
use native.Mathlib.Omega.{arith}
use borrow.Author.Tests.{lt-ltb, le-ltb}
use lib.IntN.{ℤ, pos}
use lib.ListN.{length, set, length-set}
use lib.Seq.{get_or-set_same, get_or-set_other, ext_get_or}
use mir.Syntax.{w32}
use mir.Val.{SFits}
use Rattle.wrapping.proofs.ReadBack.{reread}
use Rattle.passes.specs.Step.{slot}
use Rattle.passes.specs.Run.{Run, run, turn}
use Rattle.passes.specs.declared.DecorrPass.{DecorrPass}
use Rattle.passes.specs.declared.Direction.TheVariants.{Decorrelation}
use Rattle.passes.specs.declared.Term.TheVariants.{Lag}
use Rattle.pass_turns.specs.Turns.{turned, frame_at, frame_stored, lag_at}
use Rattle.lag_runs.specs.Lookback.{looked_back, Ring, BackIs, BehindIs}
use Rattle.pass_turns.specs.declared.frames.Frame.{Frame}
use Rattle.lag_runs.specs.declared.Weights.{Weights}
use Rattle.pass_turns.specs.declared.turns.Turned.{Turned}
use Rattle.lag_ring.proofs.LagLaws.{lag_turn}
use Rattle.pass_turns.proofs.FrameLaws.{Done, FrameFits, TurnedFits, done-start, done_end}

-- ---- the ring

-- one more sample
pub ring-more : (lag : ℕ) (h l after : List ℤ) (channel first m : ℕ) (x : ℤ) → Ring lag h l channel first m → ((k : ℕ) → k < 2 * m → slot after k ≡ slot l k) → channel < 2
    → slot after (2 * m + channel) ≡ x → Ring lag (set h ((m + lag) % 8) x) after channel first (m + 1)
ring-more lag h l after channel first m x r same c e = record { eight = length-set h ((m + lag) % 8) x ∙ r.eight; holds = λ j f u v. go (m - j) j refl f u v }
  where
    go : (n j : ℕ) → m - j ≡ n → first ≤ j → j < m + 1 → m + 1 ≤ j + 8 → slot (set h ((m + lag) % 8) x) ((j + lag) % 8) ≡ slot after (2 * j + channel)
    go zero j d f u v =
        let q : j ≡ m = omega arith in
        rw q (get_or-set_same h ((m + lag) % 8) x (pos 0) (omega (arith, r.eight)) ∙ sym e)
    go (suc n) j d f u v =
        get_or-set_other h ((m + lag) % 8) ((j + lag) % 8) x (pos 0) (λ q. omega arith) ∙ r.holds j f (omega arith) (omega arith) ∙ sym (same (2 * j + channel) (omega arith))

-- eight samples are all that a ring holds
pub ring-same : (lag : ℕ) (h g l : List ℤ) (channel a b m : ℕ) → Ring lag h l channel a m → Ring lag g l channel b m → a + 8 ≤ m → b + 8 ≤ m → h ≡ g
ring-same lag h g l channel a b m r s p q = ext_get_or (pos 0) h g (r.eight ∙ sym s.eight) (λ k u. at k (omega (arith, r.eight)))
  where
    at : (k : ℕ) → k < 8 → slot h k ≡ slot g k
    at k u =
        let t = (k + 8 - (m + lag) % 8) % 8 in
        let j = m - 8 + t in
        let e : (j + lag) % 8 ≡ k = omega arith in
        let x = r.holds j (omega arith) (omega arith) (omega arith) ∙ sym (s.holds j (omega arith) (omega arith) (omega arith)) in
        rw e at x

-- no sample yet
pub ring-none : {lag : ℕ} {h l : List ℤ} {channel first m : ℕ} → length h ≡ 8 → m ≤ first → Ring lag h l channel first m
ring-none e g = record { eight = e; holds = λ j p q r. absurd (omega arith) }

-- the samples of a frame of the buffer itself, as the code stores them
pub ring-frame : (lag : ℕ) (h l : List ℤ) (channel first m : ℕ) (x : ℤ) → Ring lag h l channel first m → channel < 2 → slot l (2 * m + channel) ≡ x
    → Ring lag (set h ((m % 8 + lag % 8) % 8) x) l channel first (m + 1)
ring-frame lag h l channel first m x r c e =
    let n : (m % 8 + lag % 8) % 8 ≡ (m + lag) % 8 = omega arith in
    rw n (ring-more lag h l l channel first m x r (λ k u. refl) c e)

-- ---- the loop

-- m frames are done by the definition, whose rings hold their last samples, and what the pass held at
-- its start where it is still looked back at
pub record Looked (lag : ℕ) (start : DecorrPass) (whole : List ℤ) (wa wb : ℤ) (l : List ℤ) (i : ℕ) : Type 0 where
  pub ha : List ℤ
  pub hb : List ℤ
  pub m : ℕ
  pub twice : i ≡ 2 * m
  pub done : Done (turn Decorrelation (Lag lag)) start whole (lag_at start wa wb ha hb) l m i
  pub a-holds : Ring lag ha l 0 0 m
  pub b-holds : Ring lag hb l 1 0 m
  pub a-kept : (s : ℕ) → m ≤ s → s < lag → slot ha s ≡ slot start.history_a s
  pub b-kept : (s : ℕ) → m ≤ s → s < lag → slot hb s ≡ slot start.history_b s

-- a frame that is stored, and the elements before it
stored_a : (l : List ℤ) (i : ℕ) (a b : ℤ) → i + 1 < length l → slot (frame_stored l i a b) i ≡ a
stored_a l i a b h = get_or-set_other (set l i a) (i + 1) i b (pos 0) (λ q. omega arith) ∙ get_or-set_same l i a (pos 0) (omega arith)

stored_b : (l : List ℤ) (i : ℕ) (a b : ℤ) → i + 1 < length l → slot (frame_stored l i a b) (i + 1) ≡ b
stored_b l i a b h = get_or-set_same (set l i a) (i + 1) b (pos 0) (omega (arith, length-set l i a))

stored_before : (l : List ℤ) (i k : ℕ) (a b : ℤ) → k < i → slot (frame_stored l i a b) k ≡ slot l k
stored_before l i k a b h = get_or-set_other (set l i a) (i + 1) k b (pos 0) (λ q. omega arith) ∙ get_or-set_other l i k a (pos 0) (λ q. omega arith)

-- one channel after a turn: a sample more, and what is still looked back at stays
kept_more : (lag m : ℕ) (h old : List ℤ) (x : ℤ) → lag ≤ 8 → ((s : ℕ) → m ≤ s → s < lag → slot h s ≡ slot old s)
    → (s : ℕ) → m + 1 ≤ s → s < lag → slot (set h ((m + lag) % 8) x) s ≡ slot old s
kept_more lag m h old x most k s u v = get_or-set_other h ((m + lag) % 8) s x (pos 0) (λ q. omega arith) ∙ k s (omega arith) v

-- where a channel's source stands: in the buffer, and in the first frames where it stood at the start
looked_far : (lag m k : ℕ) (h l : List ℤ) (channel : ℕ) → 0 < lag → lag ≤ 8 → lag ≤ m → Ring lag h l channel 0 m → k ≡ 2 * (m - lag) + channel → slot h (m % 8) ≡ slot l k
looked_far lag m k h l channel some most g r f =
    let e : (m - lag + lag) % 8 ≡ m % 8 = omega arith in
    rw f (rw e at (r.holds (m - lag) (omega arith) (omega arith) (omega arith)))

looked_near : (lag m k : ℕ) (h old : List ℤ) → lag ≤ 8 → m < lag → ((s : ℕ) → m ≤ s → s < lag → slot h s ≡ slot old s) → k ≡ m → slot h (m % 8) ≡ slot old k
looked_near lag m k h old most g kept f = let e : m % 8 ≡ m = omega arith in rw (e, f) (kept m (omega arith) g)

module _ (lag : ℕ) (some : 0 < lag) (most : lag ≤ 8) (start : DecorrPass) (whole : List ℤ) where
  -- before the first frame
  pub looked_start : {wa wb : ℤ} → wa ≡ start.weight_a → wb ≡ start.weight_b → length start.history_a ≡ 8 → length start.history_b ≡ 8 → SFits w32 start.delta
      → length whole < 18446744073709551616 → Looked lag start whole wa wb whole 0
  looked_start e f a b d n = record {
    ha = start.history_a;
    hb = start.history_b;
    m = 0;
    twice = refl;
    done = done-start (turn Decorrelation (Lag lag)) start whole (rw (e, f)) d n;
    a-holds = record { eight = a; holds = λ j p q r. absurd (omega arith) };
    b-holds = record { eight = b; holds = λ j p q r. absurd (omega arith) };
    a-kept = λ s p q. refl;
    b-kept = λ s p q. refl;
  }

  module _ {wa wb : ℤ} {l : List ℤ} {i : ℕ} (x : Looked lag start whole wa wb l i) where
    -- both sources, of the frame at i
    sources : record { a = slot x.ha (x.m % 8); b = slot x.hb (x.m % 8) } ≡ looked_back start lag l i
    sources = go (lag - x.m) refl
      where
        go : (n : ℕ) → lag - x.m ≡ n → record { a = slot x.ha (x.m % 8); b = slot x.hb (x.m % 8) } ≡ looked_back start lag l i
        go zero d =
            rw (
              le-ltb i (2 * lag) (omega (arith, x.twice)),
              looked_far lag x.m (i - 2 * lag) x.ha l 0 some most (omega arith) x.a-holds (omega (arith, x.twice)),
              looked_far lag x.m (i - 2 * lag + 1) x.hb l 1 some most (omega arith) x.b-holds (omega (arith, x.twice)),
            )
        go (suc n) d =
            rw (
              lt-ltb i (2 * lag) (omega (arith, x.twice)),
              looked_near lag x.m (i / 2) x.ha start.history_a most (omega arith) x.a-kept (omega (arith, x.twice)),
              looked_near lag x.m (i / 2) x.hb start.history_b most (omega arith) x.b-kept (omega (arith, x.twice)),
            )

    -- a turn of the loop
    pub look-turn : {after : List ℤ} {f src : Frame} (A B : Turned) → i + 1 < length l → f ≡ frame_at l i → src ≡ looked_back start lag l i
        → A ≡ turned Decorrelation false wa (reread start.delta) (reread src.a) (reread f.a)
        → B ≡ turned Decorrelation false wb (reread start.delta) (reread src.b) (reread f.b)
        → after ≡ frame_stored l i (reread A.element) (reread B.element)
        → FrameFits src → FrameFits f → TurnedFits A → TurnedFits B
        → Looked lag start whole (reread A.weight) (reread B.weight) after (i + 2)
    look-turn {after} {f} {src} A B h ef es ea eb e fs ff fa fb =
        let m = x.m in
        let next : (m % 8 + lag % 8) % 8 ≡ (m + lag) % 8 = omega arith in
        let q : record { a = slot x.ha (m % 8); b = slot x.hb (m % 8) } ≡ src = sources ∙ sym es in
        let qa : src.a ≡ slot x.ha (m % 8) = sym (ap (λ (t : Frame). t.a) q) in
        let qb : src.b ≡ slot x.hb (m % 8) = sym (ap (λ (t : Frame). t.b) q) in
        let ga : A.element ≡ A.sample = ap (λ (t : Turned). t.element) ea ∙ sym (ap (λ (t : Turned). t.sample) ea) in
        let gb : B.element ≡ B.sample = ap (λ (t : Turned). t.element) eb ∙ sym (ap (λ (t : Turned). t.sample) eb) in
        let before : (k : ℕ) → k < 2 * m → slot after k ≡ slot l k = λ k u. rw e (stored_before l i k (reread A.element) (reread B.element) (omega (arith, x.twice))) in
        let pa : 2 * m + 0 ≡ i = omega (arith, x.twice) in
        let pb : 2 * m + 1 ≡ i + 1 = omega (arith, x.twice) in
        record {
          ha = set x.ha ((m + lag) % 8) (reread A.sample);
          hb = set x.hb ((m + lag) % 8) (reread B.sample);
          m = m + 1;
          twice = omega (arith, x.twice);
          done = rw next at (lag_turn Decorrelation lag start whole A B x.done h ef (rw qa at ea) (rw qb at eb) e (rw qa at fs.a) (rw qb at fs.b) ff fa fb);
          a-holds = ring-more lag x.ha l after 0 0 m (reread A.sample) x.a-holds before (omega arith) (rw (pa, e, sym ga) (stored_a l i (reread A.element) (reread B.element) h));
          b-holds = ring-more lag x.hb l after 1 0 m (reread B.sample) x.b-holds before (omega arith) (rw (pb, e, sym gb) (stored_b l i (reread A.element) (reread B.element) h));
          a-kept = kept_more lag m x.ha start.history_a (reread A.sample) most x.a-kept;
          b-kept = kept_more lag m x.hb start.history_b (reread B.sample) most x.b-kept;
        }

    -- less than a frame is left
    pub looked_all : {r : Weights} → length l ≤ i + 1 → r.a ≡ wa → r.b ≡ wb → BackIs lag start whole l r
    looked_all {r} h ea eb =
        let n : x.m ≡ length l / 2 = omega (arith, x.twice, x.done.within) in
        record {
          ring-a = x.ha;
          ring-b = x.hb;
          is = done_end (turn Decorrelation (Lag lag)) start whole x.done h (rw (ea, eb));
          same = x.done.long;
          a-holds = rw n at x.a-holds;
          b-holds = rw n at x.b-holds;
        }

-- both parts: the weights, and the rings put together behind them
pub looked_whole : (lag : ℕ) (start : DecorrPass) (whole after : List ℤ) (w : Weights) (r : DecorrPass) → BackIs lag start whole after w → BehindIs lag start w.a w.b after r → 16 ≤ length after
    → ◌≡◌ {A = Run} (record { pass = r; buffer = after }) (run (turn Decorrelation (Lag lag)) start 0 whole)
looked_whole lag start whole after w r b h n =
    let ea = ring-same lag h.ring-a b.ring-a after 0 _ _ _ h.a-holds b.a-holds (omega arith) (omega arith) in
    let eb = ring-same lag h.ring-b b.ring-b after 1 _ _ _ h.b-holds b.b-holds (omega arith) (omega arith) in
    rw (h.is, ea, eb) b.is
