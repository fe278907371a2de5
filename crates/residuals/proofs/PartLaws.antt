-- The residuals of a recording, part by part: those of the parts that are done lie in the span, and the
-- rest decides. Assumes nothing.
use mathlib.Core.Path.{◌≡◌, refl, sym, ap, ◌∙◌}
use mathlib.Core.Bool.{Bool, true, false, cond, ◌&&◌, and_assoc}
use mathlib.Core.List.{List, [], ◌∷◌, ◌++◌, append-nil}
use Prim.Native.Nat.{ℕ, ◌≤◌, ◌<◌, min}
use native.Mathlib.Decide.{dec_lt}
use native.Mathlib.Omega.{arith}
use lib.Dec.{ltb}
use lib.IntN.{ℤ}
use lib.ListN.{length, take, drop, length-take, drop_of_length-le}
use lib.Seq.{length-take-le, take_all, take_at}
use Rattle.std.proofs.lemmas.List.{take_min, drop_min}
use Rattle.std.proofs.Math.Seq.{take-append_seam, drop-append_seam}
use lib.Signed.{mag}
use Rattle.std.specs.Prelude.{Option, Some, None}
use Rattle.answers.specs.Limits.{residual_span}
use Rattle.spans.specs.Spans.{within}
use Rattle.passes.specs.Run.{Chain, analysed}
use Rattle.passes.specs.declared.DecorrPass.{DecorrPass}
use Rattle.passes.specs.declared.Direction.TheVariants.{Analysis}
use Rattle.decorrelation.specs.Lists.{done, followed, array_answer}
use Rattle.decorrelation.proofs.Theorems.{array_runs}
use Rattle.cut_buffers.specs.Cut.{MayCut}
use Rattle.cut_buffers.proofs.KeptLaws.{chained_terms, same-valid, same_count}
use Rattle.cut_buffers.proofs.Parts.{chained-nothing, chained-cut}
use Rattle.word_bits.specs.Residuals.{spanned}
use Rattle.residuals.specs.Residuals.{part_frames, part_elements, Analysable, kept_in_span, part_answer}

-- ---- parts of a list

-- two lists within a span
within-joined : (span : ℕ) (l r : List ℤ) → within span (l ++ r) ≡ (within span l && within span r)
unfolding within
within-joined span [] r = refl
within-joined span (x ∷ l) r = rw (within-joined span l r) (sym (and_assoc (ltb (mag x) span) (within span l) (within span r)))

-- the first n passes, as a run left them, before those that it did not run
first_run : (n : ℕ) (ps qs : List DecorrPass) → length qs ≡ length (take n ps) → take n (qs ++ drop n ps) ≡ qs
first_run n ps qs e = go (dec_lt (length ps) n)
  where
    go : Dec (length ps < n) → take n (qs ++ drop n ps) ≡ qs
    go (yes h) =
        let m : length qs ≤ n = rw e (simp length-take (omega arith)) in
        rw (drop_of_length-le ps {i = n} (omega arith), append-nil qs) (take_all n qs m)
    go (no h) = take_at qs (drop n ps) n (e ∙ length-take-le n ps (omega arith))

-- ---- by what looking at a part says

-- no passes: the test failed
outside : (t : Bool) (ps : List DecorrPass) → cond t (Some ps) None ≡ None → t ≡ false
outside true ps e = cc
outside false ps e = refl

-- passes: it held, and they are these
inside : (t : Bool) (ps after : List DecorrPass) → cond t (Some ps) None ≡ Some after → (t ≡ true) × (ps ≡ after)
inside true ps after e = (refl, cc)
inside false ps after e = cc

-- ---- by turns

module _ (ps : List DecorrPass) (n : ℕ) (l : List ℤ) where
  -- whether all residuals lie in the span
  abbrev pub answer : Bool
  answer = spanned (analysed (take n ps) l).buffer

  -- the residuals before what is left do, and the list is the passes as analysis of that much left them
  pub record Looked (list : List DecorrPass) (left : List ℤ) : Type 0 where
    pub analysable : Analysable list n
    pub rest : answer ≡ spanned (analysed (take n list) left).buffer

  -- nothing is looked at yet
  pub looked_start : Analysable ps n → Looked ps l
  looked_start h = record { analysable = h; rest = refl }

  -- nothing is left
  pub looked_end : (list : List DecorrPass) (left : List ℤ) → Looked list left → length left ≡ 0 → true ≡ answer
  unfolding within
  looked_end list [] k h = sym (k.rest ∙ rw (chained-nothing Analysis (take n list)))
  looked_end list (x ∷ left) k h = absurd (omega arith)

  module _ (list : List DecorrPass) (whole part left : List ℤ) (k : Looked list whole) (cuts : whole ≡ part ++ left)
      (size : length part ≡ min part_elements (length whole))
      (r : Option (List DecorrPass)) (is : r ≡ part_answer list n part) where
    -- analysis of the part
    abbrev one : Chain
    one = analysed (take n list) part

    ran : array_answer Analysis list n part ≡ done (followed (drop n list) one)
    ran = array_runs Analysis list n part (record { few = k.analysable.few; size = omega arith; valid = k.analysable.valid })

    -- what looking at it said
    looked_part : r ≡ kept_in_span (done (followed (drop n list) one))
    looked_part = is ∙ ap kept_in_span ran

    -- the cut falls on eights: this part and the rest decide together
    together : answer ≡ (spanned one.buffer && spanned (analysed one.passes left).buffer)
    together =
        let long : length part ≡ min part_elements (length (part ++ left)) = rw (← cuts) size in
        let first : take part_elements (part ++ left) ≡ part =
        sym (take_min part_elements (part ++ left)) ∙ rw (sym long) (take-append_seam part left) in
        let behind : drop part_elements (part ++ left) ≡ left =
        sym (drop_min part_elements (part ++ left)) ∙ rw (sym long) (drop-append_seam part left) in
        let cut = chained-cut Analysis (take n list) part_frames (part ++ left) k.analysable.valid (MayCut.on-eights refl) in
        k.rest ∙ ap (λ (l : List ℤ). spanned (analysed (take n list) l).buffer) cuts
        ∙ ap (λ (c : Chain). spanned c.buffer) (rw (first, behind) at cut)
        ∙ within-joined residual_span one.buffer (analysed one.passes left).buffer

    -- a residual of this part lies outside
    pub looked_out : r ≡ None → false ≡ answer
    looked_out e = sym (together ∙ rw (outside (spanned one.buffer) (one.passes ++ drop n list) (sym looked_part ∙ e)))

    -- none does
    pub looked_turn : (after : List DecorrPass) → r ≡ Some after → Looked after left
    looked_turn after e =
        let s = inside (spanned one.buffer) (one.passes ++ drop n list) after (sym looked_part ∙ e) in
        let terms = chained_terms Analysis (take n list) part in
        let next : take n after ≡ one.passes =
        ap (take n) (sym s.1) ∙ first_run n list one.passes (same_count one.passes (take n list) terms) in
        record {
          analysable = record {
            few = k.analysable.few;
            valid = rw next (same-valid one.passes (take n list) terms ∙ k.analysable.valid);
          };
          rest = together ∙ rw (s.0, next);
        }
