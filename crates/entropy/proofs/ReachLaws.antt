-- Document 02, §7: a log word out of reach is refused with 17, behind 1 and before 2; the medians of an
-- accepted payload are those of before, and small.
-- Assumes nothing.
use mathlib.Core.Path.{◌≡◌, sym, ap, ◌∙◌}
use mathlib.Core.Bool.{Bool, false, ◌||◌}
use mathlib.Core.List.{List}
use Prim.Native.Nat.{ℕ}
use native.Mathlib.Omega.{arith}
use lib.ListN.{drop}
use Rattle.answers.proofs.TestLaws.{neither}
use Rattle.logpack.proofs.ReachLaws.{refused-by, accepted-within}
use Rattle.entropy.specs.Entropy.{word_at, word_set, set_out_of_reach, entropy_refusal}
use Rattle.entropy.specs.Seed.{seed_set, seed_medians}
use Rattle.entropy.specs.Reach.{WhySeventeen, SeventeenExactly, SeventeenFirst, MediansAsBefore, Within, MediansWithin}
use Rattle.entropy.proofs.EntropyLaws.{told, all-reached, past-mono, past-stereo, refusal-mono, refusal-stereo}
use Rattle.entropy.proofs.ReasonLaws.{refused-before, reasons, or-true}
use Rattle.entropy.proofs.SilentLaws.{twelve_are_stereo, accepted_exactly}

-- each of the reasons is told
why-told : (p : List ℕ) → WhySeventeen p → entropy_refusal p ≡ 17
why-told p (WhySeventeen.mono h e) = refusal-mono p h ∙ ap told (past-mono p h ∙ ap (λ (b : Bool). b || false) e)
why-told p (WhySeventeen.left h e) = refusal-stereo p h ∙ ap told (past-stereo p h ∙ ap (λ (b : Bool). b || set_out_of_reach (drop 6 p)) e)
why-told p (WhySeventeen.right h e) = refusal-stereo p h ∙ ap told (past-stereo p h ∙ ap (λ (b : Bool). set_out_of_reach p || b) e ∙ or-true (set_out_of_reach p))

-- (Q7.3)
pub seventeen-first : SeventeenFirst
seventeen-first p = (λ why. refused-before p (why-told p why) (omega arith), (reasons p).seventeen)

-- (Q7.2)
pub seventeen_exactly : SeventeenExactly
seventeen_exactly p = (why-told p, λ e. (seventeen-first p).1 (refused-before p e (omega arith)))

-- (Q7.4)
pub medians_as_before : MediansAsBefore
unfolding seed_medians
medians_as_before p a = let t = (accepted_exactly p).1 a in rw (a, twelve_are_stereo p t.twelve t.reached)

-- the medians of a set whose words are in reach
set-within : (bytes : List ℕ) → set_out_of_reach bytes ≡ false → Within (seed_set (word_set bytes))
unfolding word_set
set-within bytes e =
    let r = all-reached bytes e in
    record {
      within0 = accepted-within (word_at bytes 0) (refused-by (word_at bytes 0) r.reached0);
      within1 = accepted-within (word_at bytes 2) (refused-by (word_at bytes 2) r.reached1);
      within2 = accepted-within (word_at bytes 4) (refused-by (word_at bytes 4) r.reached2);
    }

-- (Q7.1)
pub medians-within : MediansWithin
medians-within p a =
    let t = (accepted_exactly p).1 a in
    let both = neither (set_out_of_reach p) (set_out_of_reach (drop 6 p)) (sym (past-stereo p t.twelve) ∙ t.reached) in
    rw (medians_as_before p a) (set-within p both.0, set-within (drop 6 p) both.1)
