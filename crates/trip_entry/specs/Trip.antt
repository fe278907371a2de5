-- Demand 3 at run time: what the entry that analyses, packs, reads back, decorrelates and compares
-- answers, and what its lent storage then holds.
-- Assumes nothing.
use Rattle.std.specs.Prelude.{Result, Ok, Err, Bool, true, false, cond, List, ℕ, ◌/◌, eqb, ℤ, length, take}
use Rattle.answers.specs.Guard.{unless_refused}
use Rattle.answers.specs.Numbers.{number_of}
use Rattle.answers.specs.declared.Refusal.{Refusal}
use Rattle.passes.specs.declared.DecorrPass.{DecorrPass}
use Rattle.passes.specs.Run.{analysed}
use Rattle.packing.specs.Entry.{PackTold, span_refusal, pack_entry}
use Rattle.trip_steps.specs.Steps.{early_refusal}
use Rattle.trip_entry.specs.declared.Trip.{Trip}

-- the refusal's number (0: accepted), the bits written, whether the recording came back with as
-- many bits used; and both lent storages
pub record TripTold : Type 0 where
  pub refusal : ℕ
  pub bits : ℕ
  pub same : Bool
  pub scratch : List ℤ
  pub bytes : List ℕ

-- a refusal, with what the scratch list and the packed bytes hold then
abbrev pub refuse_trip : List ℤ → List ℕ → ℕ → TripTold
refuse_trip scratch bytes number =
    record { refusal = number; bits = 0; same = false; scratch = scratch; bytes = bytes }

-- the answer that the entry gives, with the lent storage as it is left
abbrev pub view_trip : Result Trip Refusal → List ℤ → List ℕ → TripTold
view_trip (Ok t) scratch bytes = record { refusal = 0; bits = t.bits; same = t.same; scratch = scratch; bytes = bytes }
view_trip (Err q) scratch bytes = refuse_trip scratch bytes (number_of q)

-- demand 3: the recording is back in the scratch list
abbrev pub tell_trip : List ℤ → PackTold → TripTold
tell_trip recording p =
    record { refusal = 0; bits = p.bits; same = true; scratch = recording; bytes = p.bytes }

-- what is refused before anything is written: 6, a scratch list of another length, and then that
unfoldable pub trip_refusal : List DecorrPass → ℕ → List ℤ → List ℕ → List ℤ → List ℕ → ℕ
trip_refusal passes count recording entropy scratch buffer =
    cond (eqb (length scratch) (length recording))
    (early_refusal passes count (length recording) entropy (length buffer)) 6

-- the residuals that analysis by the first `count` passes finds
abbrev pub found : List DecorrPass → ℕ → List ℤ → List ℤ
found passes count recording = (analysed (take count passes) recording).buffer

-- A refusal that is known before leaves both storages as they were. 10 is known once the residuals
-- are found: the scratch list holds them, and the packed bytes keep their values
unfoldable pub trip_entry : List DecorrPass → ℕ → List ℤ → List ℕ → List ℤ → List ℕ → TripTold
trip_entry passes count recording entropy scratch buffer =
    unless_refused (trip_refusal passes count recording entropy scratch buffer) (refuse_trip scratch buffer)
    (unless_refused (span_refusal (found passes count recording)) (refuse_trip (found passes count recording) buffer)
    (tell_trip recording (pack_entry (found passes count recording) entropy (length recording / 2) buffer)))
