-- Document 01, "Passes": one step of a pass, over a frame's two numbers, and its inverse. "Sources,
-- weights, order and the history index follow the match in `decorrelate_stereo`" (P8): that match
-- is `rule_of`, the only one. Assumes nothing.
use Rattle.std.specs.Prelude.{Bool, true, false, List, ℕ, ◌+◌, ◌%◌, ℤ, pos, get_or, set}
use Rattle.weights.specs.Weights.{sample, residual, source17, source18, updated, updated_clip}
use Rattle.passes.specs.Terms.{is_cross}
use Rattle.passes.specs.declared.DecorrPass.{DecorrPass}
use Rattle.passes.specs.declared.Term.{Term}
use Rattle.passes.specs.declared.Term.TheVariants.{Lag, Seventeen, Eighteen, MinusOne, MinusTwo, MinusThree, Invalid}

-- what a term decides of a step
pub record Rule : Type 0 where
  -- what A is predicted from, given the frame's sample of B: only term -2 looks at that
  pub source_a : ℤ → ℤ
  -- what B is predicted from, given the frame's sample of A: only term -1 looks at that
  pub source_b : ℤ → ℤ
  -- whether B is made before A
  pub b_first : Bool
  -- the two histories after the frame, given its samples of A and B
  pub history_a : ℤ → ℤ → List ℤ
  pub history_b : ℤ → ℤ → List ℤ

-- what stands in slot i of a history
abbrev pub slot : List ℤ → ℕ → ℤ
slot history i = get_or history i (pos 0)

-- the last two samples, after one more
abbrev pub shifted : List ℤ → ℤ → List ℤ
shifted history x = set (set history 1 (slot history 0)) 0 x

-- a fixed lag of t frames, at history index m
abbrev pub lag_rule : ℕ → DecorrPass → ℕ → Rule
lag_rule t p m =
    record {
      source_a = λ b. slot p.history_a (m % 8);
      source_b = λ a. slot p.history_b (m % 8);
      b_first = false;
      history_a = λ a b. set p.history_a ((m + t) % 8) a;
      history_b = λ a b. set p.history_b ((m + t) % 8) b;
    }

-- 17 and 18, from the last two samples by `source`
abbrev pub two_rule : (ℤ → ℤ → ℤ) → DecorrPass → Rule
two_rule source p =
    record {
      source_a = λ b. source (slot p.history_a 0) (slot p.history_a 1);
      source_b = λ a. source (slot p.history_b 0) (slot p.history_b 1);
      b_first = false;
      history_a = λ a b. shifted p.history_a a;
      history_b = λ a b. shifted p.history_b b;
    }

-- the rule of a term, for a pass and its history index. So that there is one for every number, a
-- term that is not valid is treated as a lag of 0: no entry runs one
abbrev pub rule_of : Term → DecorrPass → ℕ → Rule
rule_of (Lag t) p m = lag_rule t p m
rule_of Seventeen p m = two_rule source17 p
rule_of Eighteen p m = two_rule source18 p
rule_of MinusOne p m =
    record {
      source_a = λ b. slot p.history_a 0;
      source_b = λ a. a;
      b_first = false;
      history_a = λ a b. set p.history_a 0 b;
      history_b = λ a b. p.history_b;
    }
rule_of MinusTwo p m =
    record {
      source_a = λ b. b;
      source_b = λ a. slot p.history_b 0;
      b_first = true;
      history_a = λ a b. p.history_a;
      history_b = λ a b. set p.history_b 0 a;
    }
rule_of MinusThree p m =
    record {
      source_a = λ b. slot p.history_b 0;
      source_b = λ a. slot p.history_a 0;
      b_first = false;
      history_a = λ a b. set p.history_a 0 a;
      history_b = λ a b. set p.history_b 0 b;
    }
rule_of Invalid p m = lag_rule 0 p m

-- a weight after a step: "only cross terms clip" (P9)
abbrev pub weighed : Bool → ℤ → ℤ → ℤ → ℤ → ℤ
weighed true weight delta source res = updated_clip weight delta source res
weighed false weight delta source res = updated weight delta source res

-- the pass after a step, whose samples are a and b and residuals ra and rb: the same for
-- decorrelation and analysis
unfoldable pub advanced : Term → Rule → DecorrPass → ℤ → ℤ → ℤ → ℤ → DecorrPass
advanced t r p a b ra rb =
    record {
      term = p.term;
      delta = p.delta;
      weight_a = weighed (is_cross t) p.weight_a p.delta (r.source_a b) ra;
      weight_b = weighed (is_cross t) p.weight_b p.delta (r.source_b a) rb;
      history_a = r.history_a a b;
      history_b = r.history_b a b;
    }

-- a frame's two numbers
pub record Pair : Type 0 where
  pub a : ℤ
  pub b : ℤ

-- the samples that two residuals stand for: the channel that is made first does not look at the
-- other
abbrev pub samples_by : Bool → Rule → DecorrPass → ℤ → ℤ → Pair
samples_by false r p ra rb =
    let a = sample p.weight_a (r.source_a (pos 0)) ra in
    record { a = a; b = sample p.weight_b (r.source_b a) rb }
samples_by true r p ra rb =
    let b = sample p.weight_b (r.source_b (pos 0)) rb in
    record { a = sample p.weight_a (r.source_a b) ra; b = b }

-- the residuals that stand for two samples
abbrev pub residuals_by : Rule → DecorrPass → ℤ → ℤ → Pair
residuals_by r p a b = record { a = residual p.weight_a (r.source_a b) a; b = residual p.weight_b (r.source_b a) b }

-- what a step leaves: the pass, and what stands in the frame
pub record Stepped : Type 0 where
  pub pass : DecorrPass
  pub a : ℤ
  pub b : ℤ

-- a step of decorrelation: residuals to samples
unfoldable pub step : Term → DecorrPass → ℕ → ℤ → ℤ → Stepped
step t p m ra rb =
    let r = rule_of t p m in
    let s = samples_by r.b_first r p ra rb in
    record { pass = advanced t r p s.a s.b ra rb; a = s.a; b = s.b }

-- a step of analysis: samples to residuals (P12)
unfoldable pub unstep : Term → DecorrPass → ℕ → ℤ → ℤ → Stepped
unstep t p m a b =
    let r = rule_of t p m in
    let e = residuals_by r p a b in
    record { pass = advanced t r p a b e.a e.b; a = e.a; b = e.b }
