-- The locals of the walks over passes: the machine values of a pass and of a direction, and the types
-- that the code spells. Assumes nothing.
use mathlib.Core.Path.{◌≡◌, refl}
use mathlib.Core.List.{List, [], ◌∷◌}
use Prim.Native.Nat.{ℕ, ◌^◌}
use lib.IntN.{pos}
use lib.Dec.{T, ltb, lit<}
use mir.Syntax.{Ty, Lifetime, named, mut, ty_int, ty_ref, ty_array, ty_struct, ty_enum, tnil, tcons, ttnil, ttcons, w8, w32, w64}
use mir.Val.{Val, WT, has_ty, bits, vint, vstruct, of_list}
use denote.Laws.{Is, Tells}
use denote.Memory.{pointee}
use denote.Slice.{slice_ty}
use denote.Enum.Laws as EL
use denote.Struct.Laws as LL
use Rattle.passes.specs.declared.DecorrPass.{DecorrPass}
use Rattle.passes.specs.declared.Direction.{Direction}
use Rattle.passes.specs.declared.Direction.TheVariants.{Decorrelation, Analysis}
use Rattle.passes.specs.contracts.DecorrPass as R
use Rattle.passes.proofs.DecorrPass.TheLaws as R'
use Rattle.passes.specs.contracts.Direction as D
use Rattle.passes.proofs.Direction.TheLaws as D'

-- ---- types
abbrev pub word : Ty
word = ty_int w64

-- a pass and a direction, spelled out: a walk that spells them anew costs the kernel too much
abbrev pub pass_ty : Ty
pass_ty =
    ty_struct (R.struct).name
    (tcons (ty_int w8) (tcons (ty_int w32) (tcons (ty_int w32) (tcons (ty_int w32) (tcons (ty_array (ty_int w32) 8) (tcons (ty_array (ty_int w32) 8) tnil))))))

abbrev pub way_ty : Ty
way_ty = ty_enum (D.enum).name (ttcons tnil (ttcons tnil ttnil))

-- passes and numbers behind a reference, and the two parameters
abbrev pub pass_ptr : Ty
pass_ptr = pointee (R.the_row).written

abbrev pub lent_passes : Lifetime → Ty
lent_passes ℓ = ty_ref ℓ mut pass_ptr

abbrev pub lent_numbers : Lifetime → Ty
lent_numbers ℓ = ty_ref ℓ mut (ty_int w32)

abbrev pub passes_ty : Ty
passes_ty = slice_ty (lent_passes (named 0))

abbrev pub buffer_ty : Ty
buffer_ty = slice_ty (lent_numbers (named 1))

-- ---- a pass
-- its machine value
abbrev pub mach : DecorrPass → Val
mach p = LL.tuple_val R.the_type R'.the_laws ((R.the_type).to p)

-- what stands for a pass where there is none
abbrev pub none : DecorrPass
none = record { term = pos 0; delta = pos 0; weight_a = pos 0; weight_b = pos 0; history_a = []; history_b = [] }

-- ---- a direction
-- the machine value: shut, since a walk that sees through it costs the kernel too much
unfoldable pub way : Direction → Val
way dir = EL.val D.the_type D'.the_laws dir

-- the same as a list of values
abbrev pub ways : Direction → List Val
ways dir = way dir ∷ []

-- a direction is that value
pub way-is : (dir : Direction) → Is D.the_row dir (ways dir)
unfolding way
way-is Decorrelation = EL.owes D.the_type D'.the_laws Decorrelation tt
way-is Analysis = EL.owes D.the_type D'.the_laws Analysis tt

-- and no other
pub way_tells : Tells D.the_row (Is D.the_row) ways
unfolding way
way_tells = EL.tells D.the_type D'.the_laws

-- a value of that type
abbrev pub WayTyped : Val → Type 0
WayTyped v = T (has_ty way_ty v) × WT v

-- as that value has
pub way_typed : (dir : Direction) → WayTyped (way dir)
unfolding way
way_typed Decorrelation = (tt, (record { fits = lit< tt }, tt))
way_typed Analysis = (tt, (record { fits = lit< tt }, tt))

-- the number that a direction is in the code
abbrev pub tag : Direction → ℕ
tag Decorrelation = 0
tag Analysis = 1

pub tag_fits : (dir : Direction) → T (ltb (tag dir) (2 ^ bits w8))
tag_fits Decorrelation = tt
tag_fits Analysis = tt

-- its value is made of that number
pub way-made : (dir : Direction) → vstruct (of_list (vint w8 (tag dir) ∷ [])) ≡ way dir
unfolding way
way-made Decorrelation = refl
way-made Analysis = refl
