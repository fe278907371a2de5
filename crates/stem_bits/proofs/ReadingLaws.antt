-- Document 02, §8: the totals of a reading are those of the one-word entry after as many words.
-- Assumes nothing.
use mathlib.Core.Path.{◌≡◌, refl, sym, ap, ap₂, ◌∙◌}
use mathlib.Core.List.{List, [], ◌∷◌}
use Prim.Native.Nat.{ℕ, zero, suc, ◌+◌, ◌*◌, ◌-◌, ◌≤◌}
use native.Mathlib.Omega.{arith}
use lib.IntN.{ℤ}
use lib.ListN.{length}
use Rattle.answers.specs.Limits.{max_payload_bytes}
use Rattle.bits.specs.Bits.{bits_of}
use Rattle.entropy.specs.Medians.{Medians}
use Rattle.entropy.specs.Seed.{seed_medians}
use Rattle.word_state.specs.State.{BitsRead, State, start, flip, with_bits, plus_bits, charged}
use Rattle.word_state.proofs.BitsLaws.{sum_added, within-place}
use Rattle.words.specs.Word.{Word, given, refused, word}
use Rattle.zones.specs.Report.{Report}
use Rattle.readings.specs.Reading.{Reading, on_word, more, reading}
use Rattle.readings.specs.Costs.{Cost, cost_at, left_cost, right_cost, by_stem, costs}
use Rattle.readings.proofs.LocalLaws.{word_on}
use Rattle.readings.proofs.TotalLaws.{word-bits, word_keeps, on_bits}
use Rattle.samples.specs.View.{ReadTold}
use Rattle.samples.proofs.ToldBounds.{read_small, read_limits, read_words_lem}
use Rattle.one_word.specs.View.{WordTold, one_word}
use Rattle.one_word.proofs.OneLaws.{one_word_lem}
use Rattle.stem_bits.specs.History.{History, fresh, further, after_words}
use Rattle.stem_bits.specs.Stems.{ReadingTotals, ReadingAddsUp}

-- both totals, each with what more words cost
abbrev plus : BitsRead → List Cost → BitsRead
plus b ws = record { left = b.left + left_cost ws; right = b.right + right_cost ws }

-- a word's bits counted first, or with those of the words after it
plus-first : (c n : ℕ) (b : BitsRead) (ws : List Cost)
    → plus (plus_bits c n b) ws ≡ plus b (record { channel = c; bits = n } ∷ ws)
unfolding left_cost right_cost
plus-first zero n b ws = ap₂ (λ (x y : ℕ). record { left = x; right = y }) (omega arith) (omega arith)
plus-first (suc c) n b ws = ap₂ (λ (x y : ℕ). record { left = x; right = y }) (omega arith) (omega arith)

-- no words
plus_none : (b : BitsRead) → plus b [] ≡ b
unfolding left_cost right_cost
plus_none b = ap₂ (λ (x y : ℕ). record { left = x; right = y }) (omega arith) (omega arith)

-- the channel after a word is one of two
flip_low : (c : ℕ) → flip c ≤ 1
flip_low zero = omega arith
flip_low (suc c) = omega arith

module _ (payload : List ℕ) (few : length payload ≤ max_payload_bytes) (left right : Medians) where
  -- a history of n words
  record Grown (n p : ℕ) (s : State) : Type 0 where
    pub words : List Cost
    pub many : length words ≡ n
    pub history : History left right words p s

  -- words of a reading, by the one-word entry: from the place p and the state s with the totals b on, C is
  -- what they cost, and R the reading
  record Walk (C : List Cost) (R : Reading) (p : ℕ) (s : State) (b : BitsRead) : Type 0 where
    pub many : length C ≡ length R.samples
    pub stands :
        after_words payload (length C) p (with_bits b s)
        ≡ record { place = R.place; state = with_bits (plus b C) R.state }
    pub grows : (n : ℕ) → Grown n p (with_bits b s)
        → Grown (n + length C) R.place (with_bits (plus b C) R.state)

  -- no word
  walk_none : (c p : ℕ) (s : State) (b : BitsRead)
      → Walk [] (record { refusal = c; samples = []; place = p; state = s }) p s b
  unfolding after_words
  walk_none c p s b =
      let e = sym (plus_none b) in
      record {
        many = refl;
        stands = ap (λ (x : BitsRead). record { place = p; state = with_bits x s }) e;
        grows = λ n g.
            record { words = g.words; many = omega (arith, g.many); history = rw e at g.history };
      }

  -- a word of the entry, in a state whose totals add up to its place
  one-given : (p q : ℕ) (s t : State) (v : ℤ) (z : Report) (b : BitsRead)
      → word (bits_of payload) p s ≡ given v q t z
      → s.channel ≤ 1 → b.left + b.right ≡ p
      → one_word payload p (with_bits b s)
      ≡ record {
        refusal = 0;
        sample = v;
        place = q;
        state = with_bits (plus_bits s.channel (q - p) b) t;
        report = z;
      }
  unfolding charged
  one-given p q s t v z b e h sum =
      sym (one_word_lem payload p (with_bits b s) (given v q (with_bits b t) z) few h
      (within-place b p (omega arith))
      (sym (word-bits b (bits_of payload) p s ∙ ap (on_bits b) e)))

  -- a word, and then the others
  walk-on : (p q : ℕ) (s t : State) (v : ℤ) (z : Report) (b : BitsRead) (C : List Cost) (R : Reading)
      → word (bits_of payload) p s ≡ given v q t z → s.channel ≤ 1 → b.left + b.right ≡ p
      → Walk C R q t (plus_bits s.channel (q - p) b) → Walk (cost_at p q s ∷ C) (more v R) p s b
  unfolding after_words
  walk-on p q s t v z b C R e h sum w =
      let one = one-given p q s t v z b e h sum in
      let f = plus-first s.channel (q - p) b C in
      record {
        many = omega (arith, w.many);
        stands =
            ap (λ (x : WordTold). after_words payload (length C) x.place x.state) one
            ∙ rw f at w.stands;
        grows = λ n g.
            let m = w.grows (suc n) (record {
              words = cost_at p q s ∷ g.words;
              many = omega (arith, g.many);
              history = further g.words p (with_bits b s) payload _ g.history one refl;
            }) in
            record { words = m.words; many = omega (arith, m.many); history = rw f at m.history };
      }

  -- a whole reading
  walk : (n p : ℕ) (s : State) (b : BitsRead) → s.channel ≤ 1 → b.left + b.right ≡ p
      → Walk (costs (bits_of payload) n p s) (reading (bits_of payload) n p s) p s b
  unfolding costs reading
  walk zero p s b h sum = walk_none 0 p s b
  walk (suc n) p s b h sum = go (word (bits_of payload) p s) refl (walk n)
    where
      go : (w : Word) → word (bits_of payload) p s ≡ w
          → ((p : ℕ) (s : State) (b : BitsRead) → s.channel ≤ 1 → b.left + b.right ≡ p
          → Walk (costs (bits_of payload) n p s) (reading (bits_of payload) n p s) p s b)
          → Walk (on_word w (λ v q t. cost_at p q s ∷ costs (bits_of payload) n q t) (λ c. []))
          (on_word w (λ v q t. more v (reading (bits_of payload) n q t))
          (λ c. record { refusal = c; samples = []; place = p; state = s })) p s b
      go (given v q t z) e ih =
          let k = word_keeps (bits_of payload) p q s t v z e in
          let c : t.channel ≤ 1 = rw k.0 (flip_low s.channel) in
          let on = word_on (bits_of payload) p q s t v z e in
          walk-on p q s t v z b _ _ e h sum (ih q t (plus_bits s.channel (q - p) b) c
          (omega (arith, sum_added s.channel (q - p) b)))
      go (refused c) e ih = walk_none c p s b

-- ---- the entry

pub reading-totals : ReadingTotals
reading-totals entropy payload frames list e =
    let m = seed_medians entropy in
    let first = start m.left m.right in
    let few = read_limits entropy payload frames list e in
    let R = reading (bits_of payload) (2 * frames) 0 first in
    let C = costs (bits_of payload) (2 * frames) 0 first in
    let w = walk payload few.1 m.left m.right (2 * frames) 0 first first.bits_read
    (omega arith) refl in
    let g = w.grows 0 (record { words = []; many = refl; history = fresh }) in
    let r = sym (read_words_lem entropy payload frames list e) in
    let n : length g.words ≡ length C = omega (arith, g.many) in
    let sums : plus first.bits_read C ≡ by_stem C =
    ap₂ (λ (x y : ℕ). record { left = x; right = y }) (omega arith) (omega arith) in
    record {
      words = g.words;
      as_many = n ∙ w.many ∙ ap (λ (t : ReadTold). t.written) r;
      after = record { place = R.place; state = with_bits (plus first.bits_read C) R.state };
      after_is = sym (ap (λ (k : ℕ). after_words payload k 0 first) n ∙ w.stands);
      accepted = g.history;
      bits-used = ap (λ (t : ReadTold). t.bits) r;
      totals = sums ∙ ap (λ (t : ReadTold). t.bits_read) r;
    }

-- both together are the bits used
pub reading_adds_up : ReadingAddsUp
reading_adds_up entropy payload frames list = (read_small entropy payload frames list).stems
