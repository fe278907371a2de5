-- Document 02, §2: the length alone tells mono from stereo, so that a zero right set is accepted.
-- Assumes nothing.
use mathlib.Core.Path.{ap, ◌∙◌}
use Rattle.entropy.specs.Seed.{any_negative, AcceptsEntropy, seed_medians}
use Rattle.entropy.specs.Silent.{TwelveAreStereo, TwoExactly, AcceptedExactly, SilentRight}
use Rattle.entropy.proofs.EntropyLaws.{told, refusal-stereo, info_stereo}
use Rattle.entropy.proofs.ReasonLaws.{twelve-by_signs, reasons, two-told}

-- (Q2.1)
pub twelve_are_stereo : TwelveAreStereo
twelve_are_stereo p h r = info_stereo p h (refusal-stereo p h ∙ ap told r)

-- (Q2.2)
pub two_exactly : TwoExactly
two_exactly p = (two-told p, (reasons p).two)

-- (Q2.2, Q7.4)
pub accepted_exactly : AcceptedExactly
accepted_exactly p = (λ t. rw (twelve-by_signs p t.twelve t.reached, t.left, t.right), (reasons p).sets)

-- (Q2.3)
pub silent-right : SilentRight
unfolding seed_medians any_negative
silent-right p h r l z =
    let a : AcceptsEntropy p = (accepted_exactly p).0 (record { twelve = h; reached = r; left = l; right = rw z }) in
    (a, rw (a, twelve_are_stereo p h r, z))
