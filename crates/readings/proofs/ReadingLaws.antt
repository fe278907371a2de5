-- Reading word by word: what is read so far, joined to the reading of what is left, is the whole.
-- Assumes nothing.
use mathlib.Core.Path.{◌≡◌, sym, ap}
use mathlib.Core.Bool.{Bool}
use mathlib.Core.List.{List, [], ◌∷◌, ◌++◌, append_assoc, append-nil}
use Prim.Native.Nat.{ℕ, suc}
use lib.IntN.{ℤ}
use Rattle.word_state.specs.State.{State}
use Rattle.words.specs.Word.{given, refused, word}
use Rattle.zones.specs.Report.{Report}
use Rattle.readings.specs.Reading.{reading}
use Rattle.readings.specs.Standing.{prepend}

-- an accepted word
pub reading-on : (bits : List Bool) (n p q : ℕ) (s t : State) (v : ℤ) (z : Report) (vs : List ℤ) → word bits p s ≡ given v q t z
    → prepend vs (reading bits (suc n) p s) ≡ prepend (vs ++ v ∷ []) (reading bits n q t)
unfolding reading
reading-on bits n p q s t v z vs e =
    let r = reading bits n q t in
    rw e (ap (λ (l : List ℤ). record { refusal = r.refusal; samples = l; place = r.place; state = r.state }) (sym (append_assoc vs (v ∷ []) r.samples)))

-- a refused word
pub reading-stop : (bits : List Bool) (n p c : ℕ) (s : State) (vs : List ℤ) → word bits p s ≡ refused c
    → prepend vs (reading bits (suc n) p s) ≡ record { refusal = c; samples = vs; place = p; state = s }
unfolding reading
reading-stop bits n p c s vs e = rw (e, append-nil vs)

-- no word left
pub reading-end : (bits : List Bool) (p : ℕ) (s : State) (vs : List ℤ) → prepend vs (reading bits 0 p s) ≡ record { refusal = 0; samples = vs; place = p; state = s }
unfolding reading
reading-end bits p s vs = rw (append-nil vs)
