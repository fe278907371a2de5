-- A column is as wide as it is to be, and its number reads back.
-- Assumes nothing.
use mathlib.Core.Path.{◌≡◌, refl, sym, ap, ap₂, ◌∙◌}
use mathlib.Core.Bool.{cond}
use mathlib.Core.List.{List, [], ◌∷◌, ◌++◌, append_assoc}
use Prim.Native.Nat.{ℕ, zero, suc, ◌+◌, ◌-◌, ◌/◌, ◌%◌, ◌≤◌, ◌<◌}
use native.Mathlib.Decide.{dec_lt}
use native.Mathlib.Omega.{arith}
use borrow.Author.Tests.{eq-eqb, ne_eqb}
use lib.Dec.{eqb}
use lib.ListN.{length, set, length-set, replicate, get_or, length-append, length-replicate, replicate-append-replicate}
use Rattle.decimal.specs.Column.{column, mark, front, Room, read_column}
use Rattle.decimal.specs.Decimal.{decimal, read_digits}
use Rattle.decimal.specs.TextPut.{TextPut}
use Rattle.decimal.proofs.PutLaws.{overlay_front}
use Rattle.overlay.specs.Overlay.{overlay}
use Rattle.overlay.proofs.OverlayLaws.{overlay_none}
use Rattle.decimal.proofs.DecimalLaws.{decimal-one, decimal-more, decimal-some, more-length, decimal-back, decimal-first}

-- so many spaces
abbrev spaces : ℕ → List ℕ
spaces k = replicate k 32

-- a number that fits has a column of just that width
pub column-length : (width n : ℕ) → length (decimal n) ≤ width → length (column width n) ≡ width
unfolding column
column-length width n h =
    omega (arith, length-append (spaces (width - length (decimal n))) (decimal n), length-replicate {A = ℕ} (width - length (decimal n)) 32)

-- spaces hold nothing
read-spaces : (k : ℕ) (text : List ℕ) → read_column (spaces k ++ text) ≡ read_column text
unfolding read_column
read-spaces zero text = refl
read-spaces (suc k) text = read-spaces k text

-- a text that begins with a digit holds what its digits stand for
read_number : (text : List ℕ) → 48 ≤ get_or text 0 0 → read_column text ≡ read_digits 0 text
unfolding read_column
read_number [] h = absurd (omega arith)
read_number (c ∷ cs) h = rw (ne_eqb c 32 λ e. omega arith)

-- the number that was put into a column reads back, whatever its width
pub column-back : (width n : ℕ) → read_column (column width n) ≡ n
unfolding column
column-back width n = read-spaces (width - length (decimal n)) (decimal n) ∙ read_number (decimal n) (decimal-first n) ∙ decimal-back n

-- no two numbers look alike in a column
pub column_injective : (width m n : ℕ) → column width m ≡ column width n → m ≡ n
column_injective width m n e = sym (column-back width m) ∙ ap read_column e ∙ column-back width n

-- ---- a column from its last byte on

-- one space more behind others
space_more : (k : ℕ) → spaces (k + 1) ≡ spaces k ++ (32 ∷ [])
space_more k = sym (replicate-append-replicate {A = ℕ} k 1 32)

-- a column is its last digit and what stands before it
pub column-last : (width n : ℕ) → length (decimal n) ≤ width + 1 → column (width + 1) n ≡ front width (n / 10) ++ ((48 + n % 10) ∷ [])
unfolding column front
column-last width n h = go (dec_lt n 10)
  where
    one : n < 10 → column (width + 1) n ≡ cond (eqb (n / 10) 0) (spaces width) (column width (n / 10)) ++ ((48 + n % 10) ∷ [])
    one l =
        let z : n / 10 ≡ 0 = omega arith in
        let m : n % 10 ≡ n = omega arith in
        let w : width + 1 - 1 ≡ width = omega arith in
        rw (decimal-one n l, eq-eqb (n / 10) 0 z, m, w)

    more : 10 ≤ n → column (width + 1) n ≡ cond (eqb (n / 10) 0) (spaces width) (column width (n / 10)) ++ ((48 + n % 10) ∷ [])
    more l =
        let w : width + 1 - (length (decimal (n / 10)) + 1) ≡ width - length (decimal (n / 10)) = omega arith in
        rw (ne_eqb (n / 10) 0 (λ e. omega arith), more-length n l, w, decimal-more n l)
        (sym (append_assoc (spaces (width - length (decimal (n / 10)))) (decimal (n / 10)) ((48 + n % 10) ∷ [])))

    go : Dec (n < 10) → column (width + 1) n ≡ cond (eqb (n / 10) 0) (spaces width) (column width (n / 10)) ++ ((48 + n % 10) ∷ [])
    go (yes l) = one l
    go (no l) = more (omega arith)

-- the byte before the digits that are laid: a space where nothing is left, or the last digit of that
pub mark_space : (rest : ℕ) → rest ≡ 0 → 32 ≡ mark rest
unfolding mark
mark_space rest e = rw (eq-eqb rest 0 e)

pub mark-digit : (rest : ℕ) → (rest ≡ 0 → ⊥) → 48 + rest % 10 ≡ mark rest
unfolding mark
mark-digit rest h = rw (ne_eqb rest 0 h)

-- the front has its width
front_length : (width rest : ℕ) → Room width rest → length (front width rest) ≡ width
unfolding front
front_length width zero h = length-replicate {A = ℕ} width 32
front_length width (suc rest) h = rw (ne_eqb (suc rest) 0 (λ e. omega arith)) (column-length width (suc rest) (h (omega arith)))

-- and one byte less before its last one
front-last : (width rest : ℕ) → Room (width + 1) rest → front (width + 1) rest ≡ front width (rest / 10) ++ (mark rest ∷ [])
unfolding mark front
front-last width zero h = space_more width
front-last width (suc rest) h = rw (ne_eqb (suc rest) 0 (λ e. omega arith)) (column-last width (suc rest) (h (omega arith)))

-- the tenth part of a number has room where the number had it with its last digit
pub room-less : (width n : ℕ) → Room (width + 1) n → Room width (n / 10)
room-less width n h l = omega (arith, h (omega arith), more-length n (omega arith))

-- no bytes
front-none : front 0 0 ≡ []
unfolding front
front-none = refl

-- ---- and laid so

-- the bytes from a place on are laid, and those before it, of the rest, are still to come
pub record Laid (before after : List ℕ) (at width n place rest : ℕ) : Type 0 where
  pub left : ℕ
  pub place_is : place ≡ at + left
  pub here : left ≤ width
  pub room : Room left rest
  pub whole : overlay after at (front left rest) ≡ overlay before at (front width n)
  pub kept : length after ≡ length before

module _ (before : List ℕ) (at width n : ℕ) where
  -- none of them
  pub laid_none : Room width n → Laid before before at width n (at + width) n
  laid_none r = record { left = width; place_is = refl; here = omega arith; room = r; whole = refl; kept = refl }

  -- one byte more
  pub laid_more : (out : List ℕ) (place rest next byte : ℕ) → at + width ≤ length before → at < place → Laid before out at width n place rest → next ≡ place - 1 → byte ≡ mark rest
      → Laid before (set out next byte) at width n next (rest / 10)
  laid_more out place rest next byte h a l p e =
      let k = l.left - 1 in
      let i = l.place_is in
      let w : l.left ≡ k + 1 = omega arith in
      let q : next ≡ at + k = omega arith in
      let wide : Room (k + 1) rest = λ z. omega (arith, l.room z) in
      let room = room-less k rest wide in
      let long : length (front k (rest / 10)) ≡ k = front_length k (rest / 10) room in
      record {
        left = k;
        place_is = q;
        here = omega (arith, l.here);
        room = room;
        whole =
            ap₂ (λ (i b : ℕ). overlay (set out i b) at (front k (rest / 10))) (q ∙ ap (λ (i : ℕ). at + i) (sym long)) e
            ∙ overlay_front out at (front k (rest / 10)) (mark rest) (omega (arith, l.kept, l.here))
            ∙ ap (overlay out at) (sym (front-last k rest wide) ∙ ap (λ (i : ℕ). front i rest) (sym w)) ∙ l.whole;
        kept = length-set out next byte ∙ l.kept;
      }

  -- all of them
  pub laid-all : (out : List ℕ) (place rest : ℕ) → place ≤ at → Laid before out at width n place rest → out ≡ overlay before at (front width n)
  laid-all out place rest l d = all d.left rest (omega (arith, d.place_is)) d.room d.whole
    where
      all : (k rest : ℕ) → k ≡ 0 → Room k rest → overlay out at (front k rest) ≡ overlay before at (front width n) → out ≡ overlay before at (front width n)
      all zero zero e r w = sym (ap (overlay out at) front-none ∙ overlay_none out at) ∙ w
      all zero (suc rest) e r w = absurd (omega (arith, r (omega arith), decimal-some (suc rest)))
      all (suc k) rest e r w = absurd (omega arith)

  -- the last digit, and the front
  pub column-put : at + width ≤ length before → length (decimal n) ≤ width → (last place digit : ℕ) (after : List ℕ) → last ≡ width - 1 → place ≡ at + last → digit ≡ 48 + n % 10
      → after ≡ overlay (set before place digit) at (front last (n / 10)) → TextPut before after at (at + width) (column width n)
  column-put h l last place digit after w p d e =
      let some = decimal-some n in
      let one : last + 1 ≡ width = omega arith in
      let room : Room last (n / 10) = room-less last n (λ z. omega arith) in
      let long : length (front last (n / 10)) ≡ last = front_length last (n / 10) room in
      record {
        bytes =
            e ∙ ap₂ (λ (i b : ℕ). overlay (set before i b) at (front last (n / 10))) (p ∙ ap (λ (i : ℕ). at + i) (sym long)) d
            ∙ overlay_front before at (front last (n / 10)) (48 + n % 10) (omega arith)
            ∙ ap (overlay before at) (sym (column-last last n (omega arith)) ∙ ap (λ (i : ℕ). column i n) one);
        place = omega (arith, column-length width n l);
      }
