-- Laws of the state's parts: the channel, the array of two sets that the code holds, and zeros
-- owed.
-- Assumes nothing.
use mathlib.Core.Path.{◌≡◌, refl, sym, ap, ◌∙◌}
use mathlib.Core.Bool.{Bool, false}
use mathlib.Core.List.{List, [], ◌∷◌, map}
use Prim.Native.Nat.{ℕ, zero, suc, ◌+◌, ◌-◌, ◌%◌, ◌<◌}
use native.Mathlib.Omega.{arith}
use lib.ListN.{length, get_or, length-map}
use Rattle.entropy.specs.declared.AdaptiveMedians.{AdaptiveMedians}
use Rattle.entropy.specs.Medians.{medians_of, pair_of, zero_set}
use Rattle.word_state.specs.State.{State, side, flip, with_run, unbroken, on_zeros}

-- ---- the channel

-- the channel of the next word
pub turned : (i : ℕ) → flip (i % 2) ≡ (i + 1) % 2
turned i = go (i % 2) refl
  where
    go : (x : ℕ) → i % 2 ≡ x → flip x ≡ (i + 1) % 2
    go zero e = omega arith
    go (suc zero) e = omega arith
    go (suc (suc x)) e = absurd (omega arith)

-- the channel that the code flips to
pub flip_is : (c : ℕ) → c < 2 → 1 - c ≡ flip c
flip_is zero h = refl
flip_is (suc zero) h = refl
flip_is (suc (suc c)) h = absurd (omega arith)

-- ---- the array of two sets

-- an array of structs has the length of its values
pub length_mapped : (X Y : Type 0) (f : X → Y) (l : List X) (n : ℕ) → length (map f l) ≡ n → length l ≡ n
length_mapped X Y f l n e = sym (length-map l f) ∙ e

-- the set that the code's array would give past its end
abbrev pub no_set : AdaptiveMedians
no_set = record { values = [] }

-- of two sets, each is there
pub there : (ms : List AdaptiveMedians) (c : ℕ) → length ms ≡ 2 → c < 2 → get_or ms c no_set ≡ get_or ms c zero_set
there [] c l h = absurd (omega arith)
there (a ∷ []) c l h = absurd (omega arith)
there (a ∷ b ∷ ms) zero l h = refl
there (a ∷ b ∷ ms) (suc zero) l h = refl
there (a ∷ b ∷ ms) (suc (suc c)) l h = absurd (omega arith)

-- a set of the two by its channel
pub picked : (ms : List AdaptiveMedians) (c : ℕ) → c < 2 → side c (pair_of ms).left (pair_of ms).right ≡ medians_of (get_or ms c zero_set)
picked ms zero h = refl
picked ms (suc zero) h = refl
picked ms (suc (suc c)) h = absurd (omega arith)

-- ---- zeros and run_break

-- a number of zeros above 0
pub zeros-some : {A : Type 0} (n : ℕ) (f : ℕ → A) (a : A) → 0 < n → f (n - 1) ≡ on_zeros n f a
zeros-some zero f a h = absurd (omega arith)
zeros-some (suc d) f a h = ap f (omega arith)

-- no zeros
pub zeros-none : {A : Type 0} (n : ℕ) (f : ℕ → A) (a : A) → n ≡ 0 → on_zeros n f a ≡ a
zeros-none zero f a h = refl
zeros-none (suc d) f a h = absurd (omega arith)

-- where run_break is not set, clearing it changes nothing
pub same-unbroken : (s : State) → s.run_break ≡ false → s ≡ unbroken s
unfolding unbroken
same-unbroken s e = ap (λ (b : Bool). with_run b s.ever_run s) e
