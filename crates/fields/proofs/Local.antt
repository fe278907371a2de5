-- What it is to read only up to a place: `Local` says of any reader that its answer depends only on
-- the bits up to the place after it. It holds of readers that are put together of such readers.
-- Assumes nothing.
use mathlib.Core.Path.{◌≡◌, refl, sym, ap, ◌∙◌}
use mathlib.Core.Bool.{Bool, true, false, cond}
use mathlib.Core.List.{List}
use Prim.Native.Nat.{ℕ, ◌≤◌}
use native.Mathlib.Omega.{arith}
use lib.ListN.{length, take}
use lib.Seq.{take-take}
use Rattle.std.specs.Prelude.{Option, Some, None, Result, Ok, Err}
use Rattle.answers.specs.declared.Refusal.{Refusal}
use Rattle.answers.specs.declared.Refusal.TheVariants.{Truncated, EndOfStream}
use Rattle.bits.specs.Fields.{and_then}
use Rattle.fields.specs.Counts.{then_prefix}

-- where an answer ends: at a place, or nowhere, where it was refused
pub data Ended : Type 0 where
  at : ℕ → Ended
  never : Ended

-- the place after a field
abbrev pub field_end : Option (ℕ × ℕ) → Ended
field_end (Some (v, q)) = at q
field_end None = never

-- the place after a prefix
abbrev pub prefix_end : Result (ℕ × ℕ) Refusal → Ended
prefix_end (Ok (v, q)) = at q
prefix_end (Err refusal) = never

-- a reader from p on: it ends at p or behind, within the payload, and any payload with the same
-- bits up to there gives the same answer
pub record Local {A : Type 0} (end : A → Ended) (p : ℕ) (r : List Bool → A) : Type 0 where
  pub on : (a : List Bool) (q : ℕ) → end (r a) ≡ at q → p ≤ q
  pub inside : (a : List Bool) (q : ℕ) → end (r a) ≡ at q → p ≤ length a → q ≤ length a
  pub same : (a b : List Bool) (q : ℕ) → end (r a) ≡ at q → take q a ≡ take q b → r b ≡ r a

-- ---- readers put together

-- an answer that reads nothing
pub local-still : {A : Type 0} (end : A → Ended) (p : ℕ) (x : A) → ((q : ℕ) → end x ≡ at q → q ≡ p) → Local end p (λ a. x)
local-still end p x h = record { on = λ a q e. omega (arith, h q e); inside = λ a q e l. omega (arith, h q e); same = λ a b q e t. refl }

-- what a part that was read, or was not, makes of the rest
pub data Split {A B : Type 0} (end-b : B → Ended) (end-a : A → Ended) (then : B → (ℕ → ℕ → A) → A) (x : B) : Type 0 where
  part : (v q : ℕ) → end-b x ≡ at q → ((k : ℕ → ℕ → A) → then x k ≡ k v q) → Split end-b end-a then x
  stop : ((k : ℕ → ℕ → A) → end-a (then x k) ≡ never) → Split end-b end-a then x

-- an answer does not both end and not end
pub clash : {X : Type 0} {e : Ended} {q : ℕ} → e ≡ at q → e ≡ never → X
clash {e = e} e1 e2 = let z : ◌≡◌ {A = ℕ} 0 1 = cc in absurd (omega arith)

-- a part, and then the rest from where it ends
pub local_then : {A B : Type 0} (end-b : B → Ended) (end-a : A → Ended) (then : B → (ℕ → ℕ → A) → A) → ((x : B) → Split end-b end-a then x)
    → (p : ℕ) (f : List Bool → B) (k : List Bool → ℕ → ℕ → A) → Local end-b p f → ((v q : ℕ) → Local end-a q (λ a. k a v q)) → Local end-a p (λ a. then (f a) (k a))
local_then {A} {B} end-b end-a then split p f k lf lk = record { on = on; inside = inside; same = same }
  where
    on : (a : List Bool) (q : ℕ) → end-a (then (f a) (k a)) ≡ at q → p ≤ q
    on a q e = go (split (f a))
      where
        go : Split end-b end-a then (f a) → p ≤ q
        go (part v m h g) = omega (arith, lf.on a m h, (lk v m).on a q (sym (ap end-a (g (k a))) ∙ e))
        go (stop h) = clash e (h (k a))

    inside : (a : List Bool) (q : ℕ) → end-a (then (f a) (k a)) ≡ at q → p ≤ length a → q ≤ length a
    inside a q e l = go (split (f a))
      where
        go : Split end-b end-a then (f a) → q ≤ length a
        go (part v m h g) = (lk v m).inside a q (sym (ap end-a (g (k a))) ∙ e) (lf.inside a m h l)
        go (stop h) = clash e (h (k a))

    same : (a b : List Bool) (q : ℕ) → end-a (then (f a) (k a)) ≡ at q → take q a ≡ take q b → then (f b) (k b) ≡ then (f a) (k a)
    same a b q e t = go (split (f a))
      where
        go : Split end-b end-a then (f a) → then (f b) (k b) ≡ then (f a) (k a)
        go (part v m h g) =
            let i = sym (ap end-a (g (k a))) ∙ e in
            let le = (lk v m).on a q i in
            let u : take m a ≡ take m b = sym (take-take m q a le) ∙ ap (take m) t ∙ take-take m q b le in
            ap (λ (x : B). then x (k b)) (lf.same a b m h u) ∙ g (k b) ∙ (lk v m).same a b q i t ∙ sym (g (k a))
        go (stop h) = clash e (h (k a))

-- a field before a field
pub field-field : (x : Option (ℕ × ℕ)) → Split field_end field_end and_then x
field-field (Some (v, q)) = part v q refl (λ k. refl)
field-field None = stop (λ k. refl)

-- a field before a prefix
pub field-prefix : (x : Option (ℕ × ℕ)) → Split field_end prefix_end then_prefix x
field-prefix (Some (v, q)) = part v q refl (λ k. refl)
field-prefix None = stop (λ k. refl)

-- the first or the second, by a test on numbers that are known
pub local-cond : {A : Type 0} (end : A → Ended) (t : Bool) (p : ℕ) (f g : List Bool → A) → Local end p f → Local end p g
    → Local end p (λ a. cond t (f a) (g a))
local-cond end true p f g x y = x
local-cond end false p f g x y = y

-- a value at the place itself, and none
pub value-here : (p v : ℕ) → Local field_end p (λ a. Some (v, p))
value-here p v = local-still field_end p (Some (v, p)) (λ q e. let z : p ≡ q = cc in sym z)

-- no value reads nothing on
pub value_none : (p : ℕ) → Local field_end p (λ a. None)
value_none p = local-still field_end p None (λ q e. clash e refl)

-- a prefix that is known at its place
pub prefix_here : (p v : ℕ) → Local prefix_end p (λ a. Ok (v, p))
prefix_here p v = local-still prefix_end p (Ok (v, p)) (λ q e. let z : p ≡ q = cc in sym z)

-- no prefix
pub prefix_truncated : (p : ℕ) → Local prefix_end p (λ a. Err Truncated)
prefix_truncated p = local-still prefix_end p (Err Truncated) (λ q e. clash e refl)

-- the end of the stream
pub prefix-ended : (p : ℕ) → Local prefix_end p (λ a. Err EndOfStream)
prefix-ended p = local-still prefix_end p (Err EndOfStream) (λ q e. clash e refl)
