-- What a sound file is has one proof at most, so that a ghost field can hold it.
-- Assumes nothing.
use mathlib.Core.Path.{◌≡◌, refl, sym, ap, ◌∙◌}
use mathlib.Core.List.{List, [], ◌∷◌}
use Prim.Native.Nat.{ℕ}
use Rattle.std.proofs.Props.{props}
use Rattle.std.specs.List.{AllByRecursion}
use Rattle.archive.specs.Recording.{Recording, InSpan, AllInSpan}
use Rattle.archive.specs.Listing.{Sound}

-- each in span, by recursion
each : {rs : List Recording} → AllInSpan rs → AllByRecursion InSpan rs
each AllInSpan.none = tt
each (AllInSpan.more s all) = (s, each all)

all-of : (rs : List Recording) → AllByRecursion InSpan rs → AllInSpan rs
all-of [] h = AllInSpan.none
all-of (r ∷ rs) h = AllInSpan.more h.0 (all-of rs h.1)

back : {rs : List Recording} (a : AllInSpan rs) → all-of rs (each a) ≡ a
unfolding all-of each
back AllInSpan.none = refl
back (AllInSpan.more s all) = ap (AllInSpan.more s) (back all)

span-prop : (r : Recording) → IsProp (InSpan r)
span-prop r = Prim.hlevel props

each-prop : (rs : List Recording) → IsProp (AllByRecursion InSpan rs)
each-prop rs = Prim.hlevel (span-prop, props)

spans-prop : (rs : List Recording) → IsProp (AllInSpan rs)
spans-prop rs x y = sym (back x) ∙ ap (all-of rs) (each-prop rs (each x) (each y)) ∙ back y

pub sound-prop : (file : List ℕ) → IsProp (Sound file)
sound-prop file = Prim.hlevel (spans-prop, props)
