-- `word_laying::put_word` meets its contract.
-- Assumes nothing.
use mathlib.Core.Path.{◌≡◌, ap, ◌∙◌}
use Prim.Native.Nat.{ℕ, ◌<◌}
use native.Mathlib.Omega.{arith}
use lib.IntN.{ℤ}
use lib.Signed.{mag}
use mir.Facts.{to_z-of_z}
use mir.Syntax.{w32}
use mir.Val.{SFits, to_z, of_z}
use Rattle.answers.specs.Limits.{residual_span}
use Rattle.entropy.specs.Medians.{Medians, medians_of, Small}
use Rattle.word_bits.specs.View.{LocatedIs}
use Rattle.word_bits.specs.declared.Located.{Located}
use Rattle.word_bits.specs.Residuals.{sign}
use Rattle.word_bits.proofs.WordLaws.{Fits, located_fits, coded, word-put}
use Rattle.word_laying.proofs.put_word.Goals as goal

-- magnitude and sign of the residual itself
mag-of : (v : ℤ) (r : ℕ) → SFits w32 v → r ≡ mag (to_z w32 (of_z w32 v)) → r ≡ mag v
mag-of v r f e = e ∙ ap mag (to_z-of_z f)

sign-of : (v : ℤ) (r : ℕ) → SFits w32 v → r ≡ sign (to_z w32 (of_z w32 v)) → r ≡ sign v
sign-of v r f e = e ∙ ap (λ (w : ℤ). sign w) (to_z-of_z f)

-- where it lies, the fields have room
fits : (m : Medians) (v : ℤ) (n : ℕ) (r : Located) → Small m × (mag v < residual_span) → SFits w32 v
    → n ≡ mag (to_z w32 (of_z w32 v)) → LocatedIs m n r → Fits r
fits m v n r s f e l = located_fits m n r s.0 (rw (mag-of v n f e) s.1) l

pub prefix_of-requires : goal.prefix_of-requires
prefix_of-requires c = (fits _ _ _ _ c.requires.span c.ranges.residual c.magnitude.ensures
    c.locate-located.ensures).few

pub gather_code-coded-requires-clause-code : goal.gather_code-coded-requires-clause-code
gather_code-coded-requires-clause-code c = (fits _ _ _ _ c.requires.span c.ranges.residual
    c.magnitude.ensures c.locate-located.ensures).within

pub gather_code-coded-requires-clause-last : goal.gather_code-coded-requires-clause-last
gather_code-coded-requires-clause-last c = (fits _ _ _ _ c.requires.span c.ranges.residual
    c.magnitude.ensures c.locate-located.ensures).wide

pub put_coded-place-requires-clause-room : goal.put_coded-place-requires-clause-room
put_coded-place-requires-clause-room c =
    let d = coded _ _ _ _ (fits _ _ _ _ c.requires.span c.ranges.residual c.magnitude.ensures
    c.locate-located.ensures).wide c.gather_code-coded.ensures in
    omega (arith, c.requires.room)

pub put_coded-place-requires-clause-value : goal.put_coded-place-requires-clause-value
put_coded-place-requires-clause-value c =
    (coded _ _ _ _ (fits _ _ _ _ c.requires.span c.ranges.residual c.magnitude.ensures
    c.locate-located.ensures).wide c.gather_code-coded.ensures).below

pub returns : goal.returns
returns c =
    word-put c.args.out.now _ c.args.at (medians_of c.args.medians) c.args.residual c.args.last_zero
    c.args.last_one
    c.args.more c.magnitude.result c.sign_bit.result _ _ c.locate-located.result _
    (mag-of _ _ c.ranges.residual c.magnitude.ensures) c.locate-located.ensures
    (sign-of _ _ c.ranges.residual c.sign_bit.ensures) c.gather_code-coded.ensures
    c.prefix_of.ensures c.put_coded-place.ensures
