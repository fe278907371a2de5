-- A lent slice that is lent on for a call, as a `&mut [T]` or as a `&[T]`, and comes back; and one
-- that is given up for good. In both cases its holder opens its own borrow, keeps that open for the
-- length of the call, and closes it over what came back. The lists are of any type. Assumes
-- `Logic`.
use mathlib.Core.Path.{◌≡◌, refl, sym, ap, subst}
use Prim.Native.Nat.{ℕ}
use mathlib.Core.List.{List, [], ◌∷◌}
use lib.ListN.{length}
use seplogic.Ra.Ura.{Ura}
use base.Fraction.{full_share}
use mir.Syntax.{Lifetime}
use mir.Val.{Val}
use base.Logic.{ent, sep, ex}
use base.Fml.{Lft, GName, Share, Fml, fsep, flft, fdead, fobs, fauth, fres, flent, fobor, Incl}
use ghost.Rules.{Toks, span}
use types.Logic.{Logic, sem, lfts}
use types.Kit.{‵, raw, ◌⊛◌, some, later, ◌$◌, ◌∵◌, !, qed, move, use0, use1, use2, use3, drop, split, join, pick, fsplit, fjoin, fpack, feq_i, frame, await, updating, now as at_once, show, done}
use types.Hole.{fills_l, fills_up}
use types.SemTy.{cells, Arr}
use types.Share.{arr_parts}
use types.Tokens.{lent_back}
use denote.RattleType.{RattleType}
use denote.Shadow.{pure_i}
use denote.Memory.{mem, shares, shared_of}
use denote.Shares.{SharesAsFrom}
use denote.Ref.{MutBor}
use denote.Slice.{slice_val, MutSlice, ShrSlice, Holeys, heres, Room, finally, mut_slice_at, coded_holeys}
use denote.Lend.{Held, lends_slice, slice_back, lends_shr_slice}
use denote.Index.{row, whole_out, whole_in, opens_slice, closes_slice}

module _ (R : RattleType) (κ κ' : Lft) (q : Share) (γ : GName) (b o : ℕ) where
  abbrev at-list : GName → List R.Denot → MutBor (List R.Denot)
  at-list δ ys = record { ref_ptr = (b, o); ghost_name = δ; now = ys }

  -- the holder's borrow, open: the list ys was taken out of it
  abbrev Open : List R.Denot → Fml
  Open ys = fsep (fobor κ q (Held R (length ys) b o γ)) (fsep (fobs γ ((coded_holeys R).code (heres R ys))) (fauth γ ((coded_holeys R).code (heres R ys))))

  -- what the holder keeps while the slice is lent as a `&mut [T]` under the name δ, and as a `&[T]`
  abbrev pub LentMut : GName → List R.Denot → Fml
  LentMut δ ys = fsep (flent κ' (Held R (length ys) b o δ)) (Open ys)

  abbrev pub LentShared : List R.Denot → Fml
  LentShared ys = fsep (flent κ' ((arr_parts (shares R) (length ys)).part full_share ys b o)) (Open ys)

  module _ {M : Type 1} {𝓤 : Ura M} (𝓛 : Logic 𝓤) (ℓ ℓ' : Lifetime) (ys : List R.Denot) where
    open 𝓛 use {H, A}

    abbrev vals : List Val
    vals = slice_val (b, o) (length ys) ∷ []

    -- the slice is opened: its elements lie in a row
    opened : ent 𝓤 (sep 𝓤 (sem 𝓛 ((MutSlice ℓ κ R).own_val (at-list γ ys) vals)) (A.lft κ q)) (H.⇛ (sep 𝓤 (sem 𝓛 (row R full_share ys b o)) (sem 𝓛 (Open ys))))
    opened =
        qed 𝓛 (‵ ((MutSlice ℓ κ R).own_val (at-list γ ys) vals) ∷ ‵ (flft κ q) ∷ []) ∵ updating ! $ fsplit ! $ drop ! $ fsplit ! $ opens_slice ! tt R ys b o $
        -- [the row; the open borrow; obs; auth]
        at_once ! $ frame ! $ move ! (1 ∷ 2 ∷ []) $ fjoin ! $ move ! (1 ∷ 0 ∷ []) $ fjoin ! $ done !

    -- the slice is closed over a row of the same length
    closed : (zs : List R.Denot) → Room R (length ys) → length zs ≡ length ys
        → ent 𝓤 (sep 𝓤 (sem 𝓛 (row R full_share zs b o)) (sem 𝓛 (Open ys))) (H.⇛ (sep 𝓤 (sem 𝓛 ((MutSlice ℓ κ R).own_val (at-list γ zs) vals)) (A.lft κ q)))
    closed zs room e =
        qed 𝓛 (‵ (row R full_share zs b o) ∷ ‵ (Open ys) ∷ []) ∵ updating ! $ move ! (1 ∷ []) $ fsplit ! $ move ! (1 ∷ []) $ fsplit ! $
        -- [obs; auth; the open borrow; the row]
        move ! (3 ∷ 2 ∷ 0 ∷ 1 ∷ []) $ closes_slice ! tt R ys zs e b o $ at_once ! $
        fjoin ! $ pure_i ! (mut_slice_at R (at-list γ zs) vals) (tt, (tt, tt)) (ap (λ (m : ℕ). slice_val (b, o) m ∷ []) (sym e), subst (Room R) (sym e) room) $ fjoin ! $ done !

    -- lent as a `&mut [T]`
    pub lends_mut : Room R (length ys) → ent 𝓤 (sep 𝓤 (sem 𝓛 ((MutSlice ℓ κ R).own_val (at-list γ ys) vals)) (A.lft κ q))
        (H.⇛ (ex 𝓤 (λ (δ : GName). sep 𝓤 (sem 𝓛 ((MutSlice ℓ' κ' R).own_val (at-list δ ys) vals)) (sem 𝓛 (LentMut δ ys)))))
    lends_mut room =
        qed 𝓛 (‵ ((MutSlice ℓ κ R).own_val (at-list γ ys) vals) ∷ ‵ (flft κ q) ∷ []) ∵ updating ! $ use2 𝓛 (later (‵ (row R full_share ys b o) ⊛ ‵ (Open ys))) opened $ await ! tt $ split ! $
        use1 𝓛 (‵ (cells (mem R) ys b o)) (whole_in 𝓛 R ys b o) $
        use1 𝓛 (later (some (λ (δ : GName). ‵ ((MutSlice ℓ' κ' R).own_val (at-list δ ys) vals) ⊛ ‵ (flent κ' (Held R (length ys) b o δ))))) (lends_slice 𝓛 R ℓ' κ' ys b o room) $ await ! tt $ pick ! (λ δ. split ! $
        -- [the new slice; the lender's part; what is open]
        at_once ! $ show ! (λ (ε : GName). sep 𝓤 (sem 𝓛 ((MutSlice ℓ' κ' R).own_val (at-list ε ys) vals)) (sem 𝓛 (LentMut ε ys))) δ $ frame ! $ fjoin ! $ done !)

    -- it comes back with the list that the call left
    pub mut_back : (δ : GName) (zs : List R.Denot) → Room R (length ys) → length zs ≡ length ys
        → ent 𝓤 (sep 𝓤 (A.dead κ') (sep 𝓤 (sem 𝓛 (LentMut δ ys)) (sem 𝓛 (finally R δ zs)))) (H.⇛ (sep 𝓤 (sem 𝓛 ((MutSlice ℓ κ R).own_val (at-list γ zs) vals)) (A.lft κ q)))
    mut_back δ zs room e =
        qed 𝓛 (‵ (fdead κ') ∷ ‵ (LentMut δ ys) ∷ ‵ (finally R δ zs) ∷ []) ∵ updating ! $ move ! (1 ∷ []) $ fsplit ! $ move ! (2 ∷ 0 ∷ 3 ∷ []) $
        use3 𝓛 (later (‵ ((Arr (mem R) (length ys)).own_at zs b o))) (slice_back 𝓛 R κ' δ zs (length ys) b o) $ await ! tt $ fsplit ! $ drop ! $
        use1 𝓛 (‵ (row R full_share zs b o)) (whole_out 𝓛 R zs b o) $ use2 𝓛 (later (‵ ((MutSlice ℓ κ R).own_val (at-list γ zs) vals) ⊛ ‵ (flft κ q))) (closed zs room e) $ await ! tt $ split ! $
        at_once ! $ frame ! $ done !

    -- lent as a `&[T]`, over tokens whose lifetimes lie within κ' and within what sharing the elements takes
    pub lends_shared : Room R (length ys) → (l : Lft) → SharesAsFrom 𝓛 full_share R (shared_of R) l → (ts : Toks) → Incl (span ts) l → Incl (span ts) κ'
        → ent 𝓤 (sep 𝓤 (sem 𝓛 ((MutSlice ℓ κ R).own_val (at-list γ ys) vals)) (sep 𝓤 (A.lft κ q) (lfts 𝓛 ts)))
        (H.⇛ (sep 𝓤 (sem 𝓛 ((ShrSlice ℓ' κ' R).own_val (record { ref_ptr = (b, o); now = ys }) vals)) (sep 𝓤 (sem 𝓛 (LentShared ys)) (lfts 𝓛 ts))))
    lends_shared room l free ts inner outer =
        qed 𝓛 (‵ ((MutSlice ℓ κ R).own_val (at-list γ ys) vals) ∷ (‵ (flft κ q) ⊛ raw (lfts 𝓛 ts)) ∷ []) ∵ updating ! $ move ! (1 ∷ []) $ split ! $ move ! (2 ∷ 0 ∷ []) $
        -- [the slice; its token; the other tokens]
        use2 𝓛 (later (‵ (row R full_share ys b o) ⊛ ‵ (Open ys))) opened $ await ! tt $ split ! $ move ! (0 ∷ 2 ∷ 1 ∷ []) $
        feq_i ! ℕ (length ys) (length ys) refl $ fjoin ! $
        use2 𝓛 (later ((‵ ((ShrSlice ℓ' κ' R).own_val (record { ref_ptr = (b, o); now = ys }) vals) ⊛ ‵ (flent κ' ((arr_parts (shares R) (length ys)).part full_share ys b o))) ⊛ raw (lfts 𝓛 ts))) (lends_shr_slice 𝓛 R ℓ' κ' full_share ys b o room l free ts inner outer) $ await ! tt $ split ! $ split ! $
        -- [the shared slice; the lender's part; the tokens; what is open]
        at_once ! $ frame ! $ move ! (0 ∷ 2 ∷ 1 ∷ []) $ fjoin ! $ join ! $ done !

    -- it comes back as it was
    pub shared_back : Room R (length ys) → ent 𝓤 (sep 𝓤 (A.dead κ') (sem 𝓛 (LentShared ys))) (H.⇛ (sep 𝓤 (sem 𝓛 ((MutSlice ℓ κ R).own_val (at-list γ ys) vals)) (A.lft κ q)))
    shared_back room =
        qed 𝓛 (‵ (fdead κ') ∷ ‵ (LentShared ys) ∷ []) ∵ updating ! $ move ! (1 ∷ []) $ fsplit ! $ move ! (2 ∷ 0 ∷ []) $ lent_back ! tt $ fsplit ! $ drop ! $
        use2 𝓛 (later (‵ ((MutSlice ℓ κ R).own_val (at-list γ ys) vals) ⊛ ‵ (flft κ q))) (closed ys room refl) $ await ! tt $ split ! $ at_once ! $ frame ! $ done !

    -- given up for good, with the list that it holds
    pub gives_up : ent 𝓤 (sem 𝓛 ((MutSlice ℓ κ R).own_val (at-list γ ys) vals)) (sem 𝓛 (finally R γ ys))
    gives_up =
        qed 𝓛 (‵ ((MutSlice ℓ κ R).own_val (at-list γ ys) vals) ∷ []) ∵ fsplit ! $ drop ! $ fsplit ! $ move ! (1 ∷ []) $ drop ! $
        use1 𝓛 (‵ (fres γ ((coded_holeys R).code (heres R ys)))) (𝓛.names.obs-res γ ((coded_holeys R).code (heres R ys))) $
        use0 𝓛 (‵ (fills_l (mem R) (heres R ys) ys)) (fills_up 𝓛 (mem R) ys) $ move ! (1 ∷ 0 ∷ []) $ fjoin ! $
        fpack ! (Holeys R) (λ hs. fsep (fres γ ((coded_holeys R).code hs)) (fills_l (mem R) hs ys)) (heres R ys) $ done !
