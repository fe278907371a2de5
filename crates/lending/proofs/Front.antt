-- The first elements of an array in memory, lent as a `&mut [T]` for a call and taken back: what
-- the lender keeps meanwhile is its part of the loan, and the elements behind. The arrays are of
-- any type. Assumes `Logic`.
use mathlib.Core.Path.{◌≡◌, refl, sym, ◌∙◌}
use Prim.Native.Nat.{ℕ}
use mathlib.Core.List.{List, [], ◌∷◌, ◌++◌}
use lib.ListN.{length, take, drop as drop-list, take-append-drop}
use seplogic.Ra.Ura.{Ura}
use base.Fraction.{full_share}
use mir.Syntax.{Lifetime}
use mir.Val.{Val}
use base.Logic.{ent, sep, ex}
use base.Fml.{Lft, GName, Fml, fsep, flent, fdead}
use types.Logic.{Logic, sem}
use types.Kit.{‵, ◌⊛◌, some, later, ◌$◌, ◌∵◌, !, qed, move, use1, use2, use3, drop, rewrite, split, pick, fsplit, fjoin, feq_i, frame, await, updating, now as at_once, show, done, by}
use types.SemTy.{cells, Arr}
use types.Share.{arr_parts}
use denote.RattleType.{RattleType}
use denote.Memory.{mem, shares, part_at}
use denote.Array.{Array}
use denote.ArrayMemory.{Single, Array-apart, Array-whole}
use denote.Ref.{MutBor}
use denote.Slice.{slice_val, MutSlice, Room, finally}
use denote.Lend.{Held, lends_slice, slice_back}
use denote.Index.{row, whole_out, whole_in}
use borrow.Table.Elements.{at, cut_app, join_app, same_len}

module _ (R : RattleType) (κ : Lft) (N n b o : ℕ) (xs : List R.Denot) where
  -- the elements that are lent
  abbrev pub front : List R.Denot
  front = take n xs

  -- the elements behind them
  abbrev pub rest : List R.Denot
  rest = drop-list n xs

  abbrev at-list : GName → List R.Denot → MutBor (List R.Denot)
  at-list δ ys = record { ref_ptr = (b, o); ghost_name = δ; now = ys }

  -- what the lender keeps, the loan being under the name γ
  abbrev pub Out : GName → Fml
  Out γ = fsep (flent κ (Held R (length front) b o γ)) (cells (mem R) rest b (at o (mem R).size (length front)))

  module _ {M : Type 1} {𝓤 : Ura M} (𝓛 : Logic 𝓤) (ℓ : Lifetime) where
    open 𝓛 use {H, A}

    abbrev vals : List Val
    vals = slice_val (b, o) (length front) ∷ []

    -- the first n elements are lent
    pub lends_front : Single R.mir → Room R (length front) → ent 𝓤 (sem 𝓛 (part_at (Array R N) full_share xs b o)) (H.⇛ (ex 𝓤 (λ (γ : GName). sep 𝓤 (sem 𝓛 ((MutSlice ℓ κ R).own_val (at-list γ front) vals)) (sem 𝓛 (Out γ)))))
    lends_front one room =
        qed 𝓛 (‵ (part_at (Array R N) full_share xs b o) ∷ []) ∵ updating ! $ use1 𝓛 (‵ ((arr_parts (shares R) N).part full_share xs b o)) (Array-apart 𝓛 R full_share one N xs b o) $ fsplit ! $ drop ! $
        use1 𝓛 (‵ (cells (mem R) xs b o)) (whole_in 𝓛 R xs b o) $ rewrite ! 0 (λ (l : List R.Denot). ‵ (cells (mem R) l b o)) (sym (take-append-drop n xs)) refl $
        use1 𝓛 (‵ (cells (mem R) front b o) ⊛ ‵ (cells (mem R) rest b (at o (mem R).size (length front)))) (cut_app 𝓛 (mem R) front rest b o) $ split ! $
        use1 𝓛 (later (some (λ (γ : GName). ‵ ((MutSlice ℓ κ R).own_val (at-list γ front) vals) ⊛ ‵ (flent κ (Held R (length front) b o γ))))) (lends_slice 𝓛 R ℓ κ front b o room) $ await ! tt $ pick ! (λ γ. split ! $
        at_once ! $ show ! (λ (γ' : GName). sep 𝓤 (sem 𝓛 ((MutSlice ℓ κ R).own_val (at-list γ' front) vals)) (sem 𝓛 (Out γ'))) γ $ frame ! $ fjoin ! $ done !)

    -- they come back as zs
    pub front-back : (γ : GName) (zs : List R.Denot) → length zs ≡ length front → length xs ≡ N
        → ent 𝓤 (sep 𝓤 (A.dead κ) (sep 𝓤 (sem 𝓛 (Out γ)) (sem 𝓛 (finally R γ zs)))) (H.⇛ (sem 𝓛 (part_at (Array R N) full_share (zs ++ rest) b o)))
    front-back γ zs e l =
        qed 𝓛 (‵ (fdead κ) ∷ ‵ (Out γ) ∷ ‵ (finally R γ zs) ∷ []) ∵ updating ! $ move ! (1 ∷ []) $ fsplit ! $ move ! (2 ∷ 0 ∷ 3 ∷ []) $
        use3 𝓛 (later (‵ ((Arr (mem R) (length front)).own_at zs b o))) (slice_back 𝓛 R κ γ zs (length front) b o) $ await ! tt $ fsplit ! $ drop ! $
        rewrite ! 1 (λ (k : ℕ). ‵ (cells (mem R) rest b (at o (mem R).size k))) (sym e) refl $ use2 𝓛 (‵ (cells (mem R) (zs ++ rest) b o)) (join_app 𝓛 (mem R) zs rest b o) $
        use1 𝓛 (‵ (row R full_share (zs ++ rest) b o)) (whole_out 𝓛 R (zs ++ rest) b o) $ feq_i ! ℕ (length (zs ++ rest)) N (same_len n xs zs e ∙ l) $ fjoin ! $ at_once ! $
        by ! (Array-whole 𝓛 R full_share N (zs ++ rest) b o)
