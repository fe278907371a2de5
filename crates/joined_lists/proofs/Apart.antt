-- Over 16 passes together, and when the joined call is accepted (statements in specs/Joined.antt).
-- Assumes nothing.
use mathlib.Core.Path.{◌≡◌}
use mathlib.Core.List.{List, ◌++◌}
use Prim.Native.Nat.{◌+◌, ◌≤◌}
use native.Mathlib.Omega.{arith}
use lib.IntN.{ℤ}
use lib.ListN.{length, length-append}
use Rattle.answers.specs.Limits.{max_passes}
use Rattle.passes.specs.Run.{Chain}
use Rattle.passes.specs.declared.DecorrPass.{DecorrPass}
use Rattle.passes.specs.declared.Direction.TheVariants.{Decorrelation, Analysis}
use Rattle.decorrelation.specs.Lists.{Answer, refuse_list, decorrelation, analysis}
use Rattle.decorrelation.proofs.Theorems.{Accepted, listed-accepts, zero-accepts}
use Rattle.joined_lists.specs.Joined.{TwoCalls, OverSixteen, OnlyApart, DecorrelationApart, AnalysisApart, DecorrelationAccepted, AnalysisAccepted}
use Rattle.joined_lists.proofs.AcceptLaws.{joined-accepts, parts_accept, nine_together}
use Rattle.joined_lists.proofs.Together.{refusal_of, Runs, decorrelation-runs, analysis-runs}

-- two lists that a call takes each
each-accepts : (ps qs : List DecorrPass) (l : List ℤ) → OverSixteen ps qs l → Accepted ps l × Accepted qs l
each-accepts ps qs l o = (
  record { well_made = o.first-valid; few = o.first-at_most_16; short = o.at_most_262144 },
  record { well_made = o.second-valid; few = o.second-at_most_16; short = o.at_most_262144 },
)

-- a joined call that is refused
apart_of : {both : List DecorrPass} {l : List ℤ} {apart : TwoCalls} {joined : Answer} {all : Chain} → Runs apart all → joined ≡ refuse_list both l 9 → OnlyApart both l apart joined all
apart_of r e = record { first-accepted = r.first-accepted; second-accepted = r.second-accepted; joined-refused = e; all-run = r.all-run }

-- Q4.1: the joined call is refused, the two calls are not
pub decorrelation-apart : DecorrelationApart
decorrelation-apart first second buffer o =
    let each = each-accepts first second buffer o in
    apart_of (decorrelation-runs first second buffer each.0 each.1) (nine_together first second buffer Decorrelation o.at_most_262144 o.over_16)

-- Q4.3: nor are they in analysis
pub analysis-apart : AnalysisApart
analysis-apart first second buffer o =
    let each = each-accepts first second buffer o in
    apart_of (analysis-runs first second buffer each.0 each.1) (nine_together first second buffer Analysis o.at_most_262144 o.over_16)

-- where the joined call is accepted, so are both calls
both_of : {apart : TwoCalls} {all : Chain} (ps qs : List DecorrPass) (l : List ℤ) → Accepted (ps ++ qs) l → Runs apart all
    → (apart.first.refusal ≡ 0) × (apart.second.refusal ≡ 0) × (length ps + length qs ≤ max_passes)
both_of ps qs l h r = (r.first-accepted, r.second-accepted, omega (arith, h.few, length-append ps qs))

-- Q4.1: when the joined call is accepted
pub decorrelation-accepted : DecorrelationAccepted
decorrelation-accepted first second buffer =
    record {
      both-accepted = λ e.
          let all = zero-accepts Decorrelation (first ++ second) buffer e in
          let each = parts_accept first second buffer all in
          both_of first second buffer all (decorrelation-runs first second buffer each.0 each.1);
      joined-accepted = λ e f few.
          let h = zero-accepts Decorrelation first buffer e in
          let k = zero-accepts Decorrelation second (decorrelation first buffer).buffer f in
          refusal_of (listed-accepts Decorrelation (first ++ second) buffer (joined-accepts first second buffer h k.well_made few));
    }

-- Q4.3: the same of analysis
pub analysis-accepted : AnalysisAccepted
analysis-accepted first second buffer =
    record {
      both-accepted = λ e.
          let all = zero-accepts Analysis (first ++ second) buffer e in
          let each = parts_accept first second buffer all in
          both_of first second buffer all (analysis-runs first second buffer each.0 each.1);
      joined-accepted = λ e f few.
          let h = zero-accepts Analysis first (analysis second buffer).buffer e in
          let k = zero-accepts Analysis second buffer f in
          let first_alone : Accepted first buffer = record { well_made = h.well_made; few = h.few; short = k.short } in
          refusal_of (listed-accepts Analysis (first ++ second) buffer (joined-accepts first second buffer first_alone k.well_made few));
    }
