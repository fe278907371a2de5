-- Document 01, "Passes": the making of a pass from its seeds, and why it is refused. Assumes
-- nothing.
use Rattle.std.specs.Prelude.{Bool, true, false, cond, ◌&&◌, ◌||◌, List, ◌++◌, reverse, ℕ, ◌-◌, ltb, ℤ, pos, length, take, replicate}
use Rattle.std.specs.Prelude.{Result, Ok, Err}
use Rattle.answers.specs.Guard.{unless_refused}
use Rattle.answers.specs.declared.Refusal.{Refusal}
use Rattle.passes.specs.Terms.{term_of, is_valid, is_cross, is_lag}
use Rattle.passes.specs.declared.DecorrPass.{DecorrPass}
use Rattle.passes.specs.declared.Term.{Term}
use Rattle.passes.specs.declared.Term.TheVariants.{Lag, Seventeen, Eighteen, MinusOne, MinusTwo, MinusThree, Invalid}

-- "a fixed lag t takes t, .. 17 and 18 two, cross terms one" (P4)
abbrev pub seed_count : Term → ℕ
seed_count (Lag t) = t
seed_count Seventeen = 2
seed_count Eighteen = 2
seed_count MinusOne = 1
seed_count MinusTwo = 1
seed_count MinusThree = 1
seed_count Invalid = 0

-- "placed in reverse" for a fixed lag, "in order" for the others (P4)
abbrev pub ordered : Bool → List ℤ → List ℤ
ordered true l = reverse l
ordered false l = l

-- a history has eight slots: "an empty seed means zeros" (P5)
abbrev pub padded : List ℤ → List ℤ
padded l = l ++ replicate (8 - length l) (pos 0)

-- a history from its seed: what the term takes, "more are ignored" (P4)
unfoldable pub seeded : Term → List ℤ → List ℤ
seeded t seed = padded (ordered (is_lag t) (take (seed_count t) seed))

-- a seed is too short where it is needed and has fewer samples than the term takes. An empty one is
-- not needed, "except that a cross term with an A seed needs a B seed" (P5)
abbrev pub too_short : Bool → ℕ → ℕ → Bool
too_short needed count len = (needed || ltb 0 len) && ltb len count

-- whether a seed has enough
abbrev pub seed_length : Bool → ℕ → ℕ → Result Unit Refusal
seed_length needed count len = cond (too_short needed count len) (Err Refusal.SeedTooShort) (Ok tt)

-- "Pass making: 7, term; 8, A seed too short, then B" (X4)
unfoldable pub making_refusal : ℤ → List ℤ → List ℤ → ℕ
making_refusal term seedA seedB =
    let t = term_of term in
    let count = seed_count t in
    let a = length seedA in
    cond (is_valid t) (cond (too_short false count a) 8 (cond (too_short (is_cross t && ltb 0 a) count (length seedB)) 8 0)) 7

-- "no pass results": all zero
abbrev pub no_pass : DecorrPass
no_pass =
    record {
      term = pos 0;
      delta = pos 0;
      weight_a = pos 0;
      weight_b = pos 0;
      history_a = replicate 8 (pos 0);
      history_b = replicate 8 (pos 0);
    }

-- what pass making tells: its refusal, 0 for none, and the pass
pub record Made : Type 0 where
  pub refusal : ℕ
  pub pass : DecorrPass

-- the making of a pass
unfoldable pub made : ℤ → ℤ → ℤ → ℤ → List ℤ → List ℤ → Made
made term delta weightA weightB seedA seedB =
    unless_refused (making_refusal term seedA seedB) (λ n. record { refusal = n; pass = no_pass })
    (record {
      refusal = 0;
      pass = record {
        term = term;
        delta = delta;
        weight_a = weightA;
        weight_b = weightB;
        history_a = seeded (term_of term) seedA;
        history_b = seeded (term_of term) seedB;
      };
    })
