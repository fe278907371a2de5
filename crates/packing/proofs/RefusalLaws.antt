-- What packing refuses before it looks at a residual: each way out of the tests, and what holds
-- where none applies.
-- Assumes nothing.
use mathlib.Core.Path.{◌≡◌, refl, sym}
use mathlib.Core.Bool.{Bool, true, false, cond}
use mathlib.Core.List.{List}
use Prim.Native.Nat.{ℕ, zero, suc, ◌*◌, ◌≤◌, ◌<◌}
use native.Mathlib.Omega.{arith}
use borrow.Author.Tests.{lt-ltb, le-ltb, eq-eqb, ne_eqb, ltb-false, eqb-true}
use lib.Dec.{ltb, eqb}
use Rattle.answers.specs.declared.Refusal.{Refusal}
use Rattle.answers.specs.Guard.{or_else}
use Rattle.answers.specs.Limits.{max_frames, bytes_per_frame}
use Rattle.answers.specs.Numbers.{number_of}
use Rattle.answers.proofs.GuardLaws.{refused-first}
use Rattle.answers.proofs.NumberLaws.{number-positive}
use Rattle.entropy.specs.Seed.{seed_refusal}
use Rattle.packing.specs.Entry.{refusal_before_span}

-- what none of them refuses
pub record Ready (elements : ℕ) (entropy : List ℕ) (frames room : ℕ) : Type 0 where
  pub frames_few : frames ≤ max_frames
  pub list-is : elements ≡ 2 * frames
  pub seeded : 0 ≡ seed_refusal entropy
  pub enough : bytes_per_frame * frames ≤ room

module _ (elements : ℕ) (entropy : List ℕ) (frames room : ℕ) where
  -- 5: over 131,072 frames
  pub before_frames : max_frames < frames → 5 ≡ refusal_before_span elements entropy frames room
  unfolding refusal_before_span
  before_frames h = rw (lt-ltb max_frames frames h)

  -- 6: the residual list is not twice the frames
  pub before-list : frames ≤ max_frames → (elements ≡ 2 * frames → ⊥) → 6 ≡ refusal_before_span elements entropy frames room
  unfolding refusal_before_span
  before-list f h = rw (le-ltb max_frames frames f, ne_eqb elements (2 * frames) h)

  -- 1, 17 and 2: what is wrong with the entropy payload
  pub before-seeds : frames ≤ max_frames → elements ≡ 2 * frames → (x : Refusal) → number_of x ≡ seed_refusal entropy
      → number_of x ≡ refusal_before_span elements entropy frames room
  unfolding refusal_before_span
  before-seeds f h x s =
      rw (le-ltb max_frames frames f, eq-eqb elements (2 * frames) h, ← s) (sym (refused-first (number_of x) _ (number-positive x)))

  -- 11: under 28 bytes per frame lent
  pub before-room : frames ≤ max_frames → elements ≡ 2 * frames → 0 ≡ seed_refusal entropy → room < bytes_per_frame * frames
      → 11 ≡ refusal_before_span elements entropy frames room
  unfolding refusal_before_span
  before-room f h s l = rw (le-ltb max_frames frames f, eq-eqb elements (2 * frames) h, ← s, lt-ltb room (bytes_per_frame * frames) l)

  -- none of them
  pub before-none : Ready elements entropy frames room → 0 ≡ refusal_before_span elements entropy frames room
  unfolding refusal_before_span
  before-none r =
      rw (le-ltb max_frames frames r.frames_few, eq-eqb elements (2 * frames) r.list-is, ← r.seeded, le-ltb room (bytes_per_frame * frames) r.enough)

  -- and then all of it holds
  pub ready : refusal_before_span elements entropy frames room ≡ 0 → Ready elements entropy frames room
  unfolding refusal_before_span
  ready e = many (ltb max_frames frames) refl e
    where
      room-test : ℕ
      room-test = cond (ltb room (bytes_per_frame * frames)) 11 0

      short : (t : Bool) → ltb room (bytes_per_frame * frames) ≡ t → ltb max_frames frames ≡ false → eqb elements (2 * frames) ≡ true → 0 ≡ seed_refusal entropy
          → ◌≡◌ {A = ℕ} (cond t 11 0) 0 → Ready elements entropy frames room
      short true r f l s e = absurd (omega arith)
      short false r f l s e = record {
        frames_few = ltb-false max_frames frames f;
        list-is = eqb-true elements (2 * frames) l;
        seeded = s;
        enough = ltb-false room (bytes_per_frame * frames) r;
      }

      seed : (n : ℕ) → n ≡ seed_refusal entropy → ltb max_frames frames ≡ false → eqb elements (2 * frames) ≡ true → or_else n room-test ≡ 0
          → Ready elements entropy frames room
      seed zero s f l e = short (ltb room (bytes_per_frame * frames)) refl f l s e
      seed (suc n) s f l e = absurd (omega arith)

      list : (t : Bool) → eqb elements (2 * frames) ≡ t → ltb max_frames frames ≡ false → cond t (or_else (seed_refusal entropy) room-test) 6 ≡ 0
          → Ready elements entropy frames room
      list true l f e = seed (seed_refusal entropy) refl f l e
      list false l f e = absurd (omega arith)

      many : (t : Bool) → ltb max_frames frames ≡ t → cond t 5 (cond (eqb elements (2 * frames)) (or_else (seed_refusal entropy) room-test) 6) ≡ 0
          → Ready elements entropy frames room
      many true f e = absurd (omega arith)
      many false f e = list (eqb elements (2 * frames)) refl f e
