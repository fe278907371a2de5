-- All samples of a recording: what was taken out is put back, and what was put in is taken out where
-- no bit was lost.
-- Assumes nothing.
use mathlib.Core.Path.{◌≡◌, refl, sym, ap, ap₂, ◌∙◌}
use mathlib.Core.Bool.{Bool, true}
use mathlib.Core.List.{List, [], ◌∷◌, ◌++◌, map, append_assoc}
use Prim.Native.Nat.{ℕ, zero, suc, ◌+◌, ◌-◌, ◌*◌, ◌≤◌, ◌<◌}
use native.Mathlib.Nat.{suc-mul, zero-mul, mod-eq_of_lt}
use native.Mathlib.Omega.{arith}
use lib.IntN.{ℤ, pos}
use lib.ListN.{length, take, drop, get_or, length-append, length-drop}
use lib.Seq.{take_at, drop_at, take-add, length-take-le}
use mir.Syntax.{w32}
use mir.Val.{SFits}
use Rattle.answers.proofs.TestLaws.{both}
use Rattle.bits.specs.Bits.{low, num}
use Rattle.bits.proofs.BitLaws.{length-low, num-low, low-num, num-take_lt}
use Rattle.int32_sample.specs.Sample.{below, low_bits, above}
use Rattle.int32_sample.specs.Setting.{Setting, width, reinsert, reinsertable, Keeps}
use Rattle.int32_sample.proofs.ShiftLaws.{below-nothing, above-count, keep-count, below-fits, above-fits}
use Rattle.int32_sample.proofs.ShiftLaws.{low_below, put_back, low_lt}
use Rattle.int32_sample.proofs.SettingLaws.{reinsert-nothing, fill, by_parity, fill_lt, comes_back, made}
use Rattle.int32_sample.proofs.KeepLaws.{taken_out}
use Rattle.int32.specs.Info.{Samples32}
use Rattle.int32.specs.Reassemble.{appended}
use Rattle.int32.specs.Deconstruct.{all_reinsertable, literal_of}

-- samples with bits put in are as many
pub appended-length : (sent : ℕ) (bits : List Bool) (xs : List ℤ) → length (appended sent bits xs) ≡ length xs
unfolding appended
appended-length sent bits [] = refl
appended-length sent bits (x ∷ xs) = ap suc (appended-length sent (drop sent bits) xs)

-- samples shifted right are samples
pub freed-fit : (k : ℕ) (ys : List ℤ) → Samples32 ys → Samples32 (map (above k) ys)
freed-fit k [] h i = record { sfits = omega arith }
freed-fit k (y ∷ ys) h zero = above-fits k y (h 0)
freed-fit k (y ∷ ys) h (suc i) = freed-fit k ys (λ j. h (suc j)) i

-- completed samples are samples
pub appended_fit : (sent : ℕ) (bits : List Bool) (xs : List ℤ) → Samples32 (appended sent bits xs)
unfolding appended
appended_fit sent bits [] i = record { sfits = omega arith }
appended_fit sent bits (x ∷ xs) zero = below-fits sent (num (take sent bits)) x
appended_fit sent bits (x ∷ xs) (suc i) = appended_fit sent (drop sent bits) xs i

-- no literal bits leave the samples as they are
pub appended_nothing : (bits : List Bool) (xs : List ℤ) → Samples32 xs → appended 0 bits xs ≡ xs
unfolding appended num
appended_nothing bits [] h = refl
appended_nothing bits (x ∷ xs) h = ap₂ (λ (y : ℤ) (l : List ℤ). y ∷ l) (below-nothing x (h 0))
    (appended_nothing (drop 0 bits) xs (λ i. h (suc i)))

-- nor do no redundant bits
pub reinserted_nothing : (s : Setting) (xs : List ℤ) → width s ≡ 0 → Samples32 xs → map (reinsert s) xs ≡ xs
reinserted_nothing s [] w h = refl
reinserted_nothing s (x ∷ xs) w h = ap₂ (λ (y : ℤ) (l : List ℤ). y ∷ l) (reinsert-nothing s x w (h 0))
    (reinserted_nothing s xs w (λ i. h (suc i)))

-- ---- taken out, then put back

-- the literal bits, whatever bits follow them
pub appended-back : (sent : ℕ) (zs : List ℤ) (rest : List Bool) → sent ≤ 31 → Samples32 zs
    → appended sent (literal_of sent zs ++ rest) (map (above sent) zs) ≡ zs
unfolding appended literal_of
appended-back sent [] rest w h = refl
appended-back sent (z ∷ zs) rest w h =
    let n = low_bits sent z in
    let f = low sent n in
    let l = literal_of sent zs in
    let a : (f ++ l) ++ rest ≡ f ++ (l ++ rest) = append_assoc f l rest in
    let e = above-count sent w in
    let t : take sent (f ++ (l ++ rest)) ≡ f = take_at f (l ++ rest) sent (length-low sent n) in
    let d : drop sent (f ++ (l ++ rest)) ≡ l ++ rest = drop_at f (l ++ rest) sent (length-low sent n) in
    let v : num f ≡ n = num-low sent n ∙ mod-eq_of_lt (low_lt (31 - sent + 1) sent e z) in
    rw (a, t, d, v, put_back (31 - sent + 1) sent e z (h 0))
    (ap (λ (x : List ℤ). z ∷ x) (appended-back sent zs rest w (λ i. h (suc i))))

-- each sample has as many
pub literal-length : (sent : ℕ) (ys : List ℤ) → length (literal_of sent ys) ≡ length ys * sent
unfolding literal_of
literal-length sent [] = sym (zero-mul sent)
literal-length sent (y ∷ ys) =
    length-append (low sent (low_bits sent y)) (literal_of sent ys)
    ∙ omega (arith, length-low sent (low_bits sent y), literal-length sent ys, suc-mul (length ys) sent)

-- the redundant bits, where the test holds of every sample
pub reinserted_back : (s : Setting) (ys : List ℤ) → width s ≤ 31 → Samples32 ys
    → all_reinsertable s ys ≡ true → map (reinsert s) (map (above (width s)) ys) ≡ ys
unfolding all_reinsertable
reinserted_back s [] w h t = refl
reinserted_back s (y ∷ ys) w h t =
    let b = both (reinsertable s y) (all_reinsertable s ys) t in
    ap₂ (λ (x : ℤ) (l : List ℤ). x ∷ l)
    (comes_back s (31 - width s) y (above-count (width s) w) (h 0) b.0)
    (reinserted_back s ys w (λ i. h (suc i)) b.1)

-- ---- put in, then taken out

-- each loses no bit where it is shifted left by k
abbrev pub EachKeeps : ℕ → List ℤ → Type 0
EachKeeps k xs = (i : ℕ) → i < length xs → Keeps k (get_or xs i (pos 0))

tail_keeps : (k : ℕ) (x : ℤ) (xs : List ℤ) → EachKeeps k (x ∷ xs) → EachKeeps k xs
tail_keeps k x xs h i l = h (suc i) (omega arith)

pub freed-back : (s : Setting) (zs : List ℤ) → width s ≤ 31 → EachKeeps (width s) zs
    → map (above (width s)) (map (reinsert s) zs) ≡ zs
freed-back s [] w h = refl
freed-back s (z ∷ zs) w h =
    let k = width s in
    let e : above k (reinsert s z) ≡ z = ap (above k) (by_parity s z) ∙ taken_out (31 - k) k
    (keep-count k w) (fill s z) z (fill_lt s z) (h 0 (omega arith)) in
    ap₂ (λ (x : ℤ) (l : List ℤ). x ∷ l) e (freed-back s zs w (tail_keeps k z zs h))

pub shortened_back : (sent : ℕ) (bits : List Bool) (xs : List ℤ) → sent ≤ 31 → EachKeeps sent xs
    → map (above sent) (appended sent bits xs) ≡ xs
unfolding appended
shortened_back sent bits [] w h = refl
shortened_back sent bits (x ∷ xs) w h =
    ap₂ (λ (y : ℤ) (l : List ℤ). y ∷ l)
    (taken_out (31 - sent) sent (keep-count sent w) (num (take sent bits)) x (num-take_lt sent bits)
    (h 0 (omega arith)))
    (shortened_back sent (drop sent bits) xs w (tail_keeps sent x xs h))

-- the literal bits come out as they were read
pub literal-back : (sent : ℕ) (bits : List Bool) (xs : List ℤ) → sent ≤ 31 → length xs * sent ≤ length bits
    → literal_of sent (appended sent bits xs) ≡ take (length xs * sent) bits
unfolding appended literal_of
literal-back sent bits [] w h = ap (λ (n : ℕ). take n bits) (sym (zero-mul sent))
literal-back sent bits (x ∷ xs) w h =
    let m = length xs * sent in
    let n = num (take sent bits) in
    let q : suc (length xs) * sent ≡ sent + m = omega (arith, suc-mul (length xs) sent) in
    let l : length (take sent bits) ≡ sent = length-take-le sent bits (omega arith) in
    let f : low sent (low_bits sent (below sent n x)) ≡ take sent bits =
    ap (low sent) (low_below (31 - sent + 1) sent (above-count sent w) n x (num-take_lt sent bits))
    ∙ ap (λ (k : ℕ). low k n) (sym l) ∙ low-num (take sent bits) in
    ap₂ (λ (a b : List Bool). a ++ b) f
    (literal-back sent (drop sent bits) xs w (omega (arith, length-drop sent bits)))
    ∙ sym (take-add sent m bits) ∙ ap (λ (k : ℕ). take k bits) (sym q)

-- the test holds of all that the setting made
pub all_made : (s : Setting) (zs : List ℤ) → width s ≤ 31 → all_reinsertable s (map (reinsert s) zs) ≡ true
unfolding all_reinsertable
all_made s [] w = refl
all_made s (z ∷ zs) w =
    let f : SFits w32 (reinsert s z) = rw (by_parity s z) (below-fits (width s) (fill s z) z) in
    rw (made s (31 - width s) z (reinsert s z) (above-count (width s) w) f refl, all_made s zs w)
