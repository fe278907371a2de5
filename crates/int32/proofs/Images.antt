-- 16 is refused exactly where some sample is the image of no sample, and what was put in comes out
-- again where no sample lost a bit.
-- Assumes nothing.
use mathlib.Core.Path.{◌≡◌, refl, sym, ap, ap₂, ◌∙◌}
use mathlib.Core.Bool.{Bool, true, false, cond, ◌&&◌}
use mathlib.Core.List.{List, [], ◌∷◌, map}
use Prim.Native.Nat.{ℕ, zero, suc, ◌*◌, ◌≤◌, ◌<◌}
use native.Mathlib.Omega.{arith}
use borrow.Author.Tests.{ltb-false}
use lib.Dec.{ltb}
use lib.IntN.{ℤ, pos}
use lib.ListN.{length, length-map, take, get_or}
use Rattle.answers.specs.Guard.{or_else}
use Rattle.answers.specs.Limits.{max_elements}
use Rattle.answers.proofs.TestLaws.{clash, both}
use Rattle.overlay.specs.Overlay.{overlay}
use Rattle.bits.specs.Bits.{bits_of}
use Rattle.bits.specs.Laid.{bytes_holding}
use Rattle.bits.proofs.BitLaws.{length-bits}
use Rattle.int32_sample.specs.Sample.{above}
use Rattle.int32_sample.specs.Setting.{Setting, width, reinsert, reinsertable, Source}
use Rattle.int32_sample.proofs.SettingLaws.{test-is-image}
use Rattle.int32.specs.declared.Int32Info.{Int32Info}
use Rattle.int32.specs.Info.{Samples32, Fields, fields_taken, info_refusal, setting_of}
use Rattle.int32.specs.Reassemble.{Readable, appended, reassembled, reassemble_refusal}
use Rattle.int32.specs.Deconstruct.{all_reinsertable, literal_of, deconstruct_refusal, deconstruct_entry}
use Rattle.int32.specs.Wide.{InOrder, NoSource, EachHasSource, RefusedExactly, AllKeep, PutInTakenOut}
use Rattle.int32.proofs.InfoLaws.{fields-true, fields_fit, info_none, info_width}
use Rattle.int32.proofs.ReassembleLaws.{readable, reassemble_accepted, reassemble_number}
use Rattle.int32.proofs.DeconstructLaws.{divisible, deconstruct_tested, deconstruct_accepted}
use Rattle.int32.proofs.DeconstructLaws.{deconstruct_number}
use Rattle.int32.proofs.WideLaws.{appended-length, freed-back, shortened_back, literal-back, all_made}

-- ---- the test of every sample

-- where it fails, some sample has no source
some-fails : (s : Setting) (ys : List ℤ) → width s ≤ 31 → Samples32 ys → all_reinsertable s ys ≡ false
    → NoSource s ys
unfolding all_reinsertable
some-fails s [] w h e = clash refl e
some-fails s (y ∷ ys) w h e = go (some-fails s ys w (λ i. h (suc i))) (reinsertable s y) refl e
  where
    go : (all_reinsertable s ys ≡ false → NoSource s ys) → (t : Bool) → reinsertable s y ≡ t
        → (t && all_reinsertable s ys) ≡ false → NoSource s (y ∷ ys)
    go later true q f = let r = later f in
        record { place = suc r.place; inside = omega (arith, r.inside); none = r.none }
    go later false q f = record {
      place = 0;
      inside = omega arith;
      none = λ x. clash ((test-is-image s y w (h 0)).0 x) q;
    }

-- where it holds, each has one
each_holds : (s : Setting) (ys : List ℤ) (i : ℕ) → width s ≤ 31 → Samples32 ys → all_reinsertable s ys ≡ true
    → i < length ys → Source s (get_or ys i (pos 0))
unfolding all_reinsertable
each_holds s [] i w h e l = absurd (omega arith)
each_holds s (y ∷ ys) zero w h e l = (test-is-image s y w (h 0)).1
    (both (reinsertable s y) (all_reinsertable s ys) e).0
each_holds s (y ∷ ys) (suc i) w h e l = each_holds s ys i w (λ j. h (suc j))
    (both (reinsertable s y) (all_reinsertable s ys) e).1 (omega arith)

-- ---- 16

module _ (info : Int32Info) (samples : List ℤ) (storage : List ℕ) (h : Samples32 samples) where
  -- the tests that come before it, and then the test that fails
  abbrev Why : Type 0
  Why = InOrder info samples storage × NoSource (setting_of info) samples

  why : deconstruct_refusal info samples (length storage) ≡ 16 → Why
  unfolding deconstruct_refusal info_refusal
  why e = fields (fields_taken info) refl e
    where
      image : Fields info → InOrder info samples storage → (t : Bool)
          → all_reinsertable (setting_of info) samples ≡ t → ◌≡◌ {A = ℕ} (cond t 0 16) 16 → Why
      image f o true q e = absurd (omega arith)
      image f o false q e = (o, some-fails (setting_of info) samples (info_width info f) h q)

      room : fields_taken info ≡ true → length samples ≤ max_elements → (t : Bool)
          → ltb (length storage) (4 * length samples) ≡ t
          → ◌≡◌ {A = ℕ} (cond t 11 (cond (all_reinsertable (setting_of info) samples) 0 16)) 16 → Why
      room f l true q e = absurd (omega arith)
      room f l false q e =
          image (fields_fit info f) (record { fields = f; few = l; enough = ltb-false _ _ q })
          (all_reinsertable (setting_of info) samples) refl e

      few : fields_taken info ≡ true → (t : Bool) → ltb max_elements (length samples) ≡ t
          → or_else (cond t 5 0)
          (cond (ltb (length storage) (4 * length samples)) 11
          (cond (all_reinsertable (setting_of info) samples) 0 16)) ≡ 16 → Why
      few f true q e = absurd (omega arith)
      few f false q e = room f (ltb-false _ _ q) (ltb (length storage) (4 * length samples)) refl e

      fields : (t : Bool) → fields_taken info ≡ t
          → or_else (cond t (cond (ltb max_elements (length samples)) 5 0) 15)
          (cond (ltb (length storage) (4 * length samples)) 11
          (cond (all_reinsertable (setting_of info) samples) 0 16)) ≡ 16
          → Why
      fields true q e = few q (ltb max_elements (length samples)) refl e
      fields false q e = absurd (omega arith)

  -- the answer by the test of every sample, where all before it is in order
  by-test : InOrder info samples storage → (t : Bool) → t ≡ all_reinsertable (setting_of info) samples
      → cond t 0 16 ≡ deconstruct_refusal info samples (length storage)
  by-test o t q =
      let none = info_none info (length samples) (fields_fit info o.fields) o.few in
      deconstruct_tested info samples (length storage) t (sym none) o.enough q

  refused : InOrder info samples storage → NoSource (setting_of info) samples
      → deconstruct_refusal info samples (length storage) ≡ 16
  refused o x = go (info_width info (fields_fit info o.fields))
      (all_reinsertable (setting_of info) samples) refl
    where
      go : width (setting_of info) ≤ 31 → (t : Bool) → all_reinsertable (setting_of info) samples ≡ t
          → deconstruct_refusal info samples (length storage) ≡ 16
      go w true q = absurd (x.none (each_holds (setting_of info) samples x.place w h q x.inside))
      go w false q = sym (by-test o false (sym q))

  -- and accepted: all is in order, and each sample has a source
  whole : deconstruct_refusal info samples (length storage) ≡ 0
      → InOrder info samples storage × EachHasSource (setting_of info) samples
  whole e =
      let d = divisible info samples (length storage) e in (
        record { fields = fields-true info d.fields; few = d.few; enough = d.enough },
        λ i l. each_holds (setting_of info) samples i (info_width info d.fields) h d.images l,
      )

  accepted : InOrder info samples storage → EachHasSource (setting_of info) samples
      → deconstruct_refusal info samples (length storage) ≡ 0
  accepted o each =
      go (info_width info (fields_fit info o.fields)) (all_reinsertable (setting_of info) samples) refl
    where
      go : width (setting_of info) ≤ 31 → (t : Bool) → all_reinsertable (setting_of info) samples ≡ t
          → deconstruct_refusal info samples (length storage) ≡ 0
      go w true q = sym (by-test o true (sym q))
      go w false q =
          let r = some-fails (setting_of info) samples w h q in
          absurd (r.none (each r.place r.inside))

pub refused_exactly : RefusedExactly
refused_exactly info samples storage h =
    let e = deconstruct_number info samples storage in (
      λ z. why info samples storage h (sym e ∙ z),
      λ o x. e ∙ refused info samples storage h o x,
      λ z. whole info samples storage h (sym e ∙ z),
      λ o each. e ∙ accepted info samples storage h o each,
    )

-- ---- put in, then taken out

module _ (info : Int32Info) (samples : List ℤ) (literal storage : List ℕ) (k : AllKeep info literal samples)
    (r : Readable info (length samples) (length literal))
    (m : 4 * length samples ≤ length storage) where
  abbrev s : Setting
  s = setting_of info

  abbrev sent : ℕ
  sent = info.sent_bits

  abbrev bits : List Bool
  bits = bits_of literal

  abbrev zs : List ℤ
  zs = appended sent bits samples

  abbrev ys : List ℤ
  ys = reassembled info bits samples

  made-length : length ys ≡ length samples
  made-length = length-map zs (reinsert s) ∙ appended-length sent bits samples

  -- the redundant bits are out
  freed-again : map (above (width s)) ys ≡ zs
  freed-again = freed-back s zs (info_width info r.fields)
      (λ i l. k.redundant_kept i (omega (arith, l, appended-length sent bits samples)))

  none : deconstruct_refusal info ys (length storage) ≡ 0
  none =
      let i : info_refusal info (length ys) ≡ 0 = ap (info_refusal info) made-length
      ∙ sym (info_none info (length samples) r.fields r.few) in
      sym (deconstruct_tested info ys (length storage) true i (omega (arith, made-length, m))
      (sym (all_made s zs (info_width info r.fields))))

  pub taken-again : deconstruct_entry info ys storage
      ≡ record {
        refusal = 0;
        bits = length samples * sent;
        samples = samples;
        literal = overlay storage 0 (bytes_holding (take (length samples * sent) bits));
      }
  taken-again =
      deconstruct_accepted info ys storage none
      ∙ ap₂ (λ (n : ℕ) (l : List ℤ). record {
        refusal = 0;
        bits = n * sent;
        samples = map (above sent) l;
        literal = overlay storage 0
            (bytes_holding (literal_of sent l));
      }) made-length freed-again
      ∙ ap₂ (λ (l : List ℤ) (b : List Bool). record {
        refusal = 0;
        bits = length samples * sent;
        samples = l;
        literal = overlay storage 0 (bytes_holding b);
      })
      (shortened_back sent bits samples r.fields.sent k.literal-kept)
      (literal-back sent bits samples r.fields.sent (omega (arith, r.enough, length-bits literal)))

pub put_in-taken_out : PutInTakenOut
put_in-taken_out info samples literal storage k e m =
    let z : reassemble_refusal info (length samples) (length literal) ≡ 0 =
    sym (reassemble_number info samples literal) ∙ e in
    let r = readable info (length samples) (length literal) z in
    rw (reassemble_accepted info samples literal z) (taken-again info samples literal storage k r m)
