-- The tests of the fields and of the number of samples, one after the other.
-- Assumes nothing.
use mathlib.Core.Path.{◌≡◌, refl}
use mathlib.Core.Bool.{Bool, true, false, cond, ◌&&◌}
use Prim.Native.Nat.{ℕ, zero, suc, ◌*◌, ◌≤◌, ◌<◌}
use native.Mathlib.Nat.{le_trans, mul-le-mul_left, mul-le-mul_right}
use native.Mathlib.Omega.{arith}
use borrow.Author.Tests.{lt-ltb, le-ltb, le-leb, lt-leb, ltb-false, leb-true}
use lib.Dec.{ltb, leb}
use Rattle.answers.specs.Limits.{max_elements}
use Rattle.answers.proofs.TestLaws.{both}
use Rattle.int32_sample.specs.Setting.{setting, width}
use Rattle.int32.specs.declared.Int32Info.{Int32Info}
use Rattle.int32.specs.Info.{Fields, fields_taken, info_refusal, setting_of}

pub fields-true : (info : Int32Info) → Fields info → fields_taken info ≡ true
unfolding fields_taken
fields-true info f =
    rw (
      le-leb info.sent_bits 31 f.sent,
      le-leb info.zeros 31 f.zeros,
      le-leb info.ones 31 f.ones,
      le-leb info.dups 31 f.dups,
    )

pub fields_fit : (info : Int32Info) → fields_taken info ≡ true → Fields info
unfolding fields_taken
fields_fit info e =
    let a = both (leb info.sent_bits 31 && leb info.zeros 31 && leb info.ones 31)
    (leb info.dups 31) e in
    let b = both (leb info.sent_bits 31 && leb info.zeros 31) (leb info.ones 31) a.0 in
    let c = both (leb info.sent_bits 31) (leb info.zeros 31) b.0 in
    record {
      sent = leb-true _ _ c.0;
      zeros = leb-true _ _ c.1;
      ones = leb-true _ _ b.1;
      dups = leb-true _ _ a.1;
    }

-- a test that fails makes the whole fail
and-fails : (b : Bool) → (b && false) ≡ false
and-fails true = refl
and-fails false = refl

module _ (info : Int32Info) (n : ℕ) where
  -- 15: whichever field it is
  pub sent-above : 31 < info.sent_bits → 15 ≡ info_refusal info n
  unfolding info_refusal fields_taken
  sent-above h = rw (lt-leb info.sent_bits 31 h)

  pub zeros-above : 31 < info.zeros → 15 ≡ info_refusal info n
  unfolding info_refusal fields_taken
  zeros-above h = rw (lt-leb info.zeros 31 h, and-fails (leb info.sent_bits 31))

  pub ones_above : 31 < info.ones → 15 ≡ info_refusal info n
  unfolding info_refusal fields_taken
  ones_above h =
      rw (lt-leb info.ones 31 h, and-fails (leb info.sent_bits 31 && leb info.zeros 31))

  pub dups-above : 31 < info.dups → 15 ≡ info_refusal info n
  unfolding info_refusal fields_taken
  dups-above h =
      rw (
        lt-leb info.dups 31 h,
        and-fails (leb info.sent_bits 31 && leb info.zeros 31 && leb info.ones 31),
      )

  -- 5: over 262,144 samples
  pub many-samples : Fields info → max_elements < n → 5 ≡ info_refusal info n
  unfolding info_refusal
  many-samples f h = rw (fields-true info f, lt-ltb max_elements n h)

  -- none of them
  pub info_none : Fields info → n ≤ max_elements → 0 ≡ info_refusal info n
  unfolding info_refusal
  info_none f h = rw (fields-true info f, le-ltb max_elements n h)

  -- and then all of it holds
  pub info_fit : info_refusal info n ≡ 0 → Fields info × (n ≤ max_elements)
  unfolding info_refusal
  info_fit e = taken (fields_taken info) refl e
    where
      few : Fields info → (t : Bool) → ltb max_elements n ≡ t → ◌≡◌ {A = ℕ} (cond t 5 0) 0 → Fields info
          × (n ≤ max_elements)
      few f true q e = absurd (omega arith)
      few f false q e = (f, ltb-false _ _ q)

      taken : (t : Bool) → fields_taken info ≡ t → ◌≡◌ {A = ℕ} (cond t (cond (ltb max_elements n) 5 0) 15) 0
          → Fields info × (n ≤ max_elements)
      taken true q e = few (fields_fit info q) (ltb max_elements n) refl e
      taken false q e = absurd (omega arith)

-- the literal bits of accepted samples are few
pub few_bits : (info : Int32Info) (n : ℕ) → Fields info → n ≤ max_elements
    → n * info.sent_bits ≤ 262144 * 31
few_bits info n f h = le_trans (mul-le-mul_right info.sent_bits h) (mul-le-mul_left 262144 f.sent)

-- the setting of accepted fields puts in at most 31 bits
pub width_le : (z o d : ℕ) → z ≤ 31 → o ≤ 31 → d ≤ 31 → width (setting z o d) ≤ 31
width_le (suc z) o d h l m = h
width_le zero (suc o) d h l m = l
width_le zero zero d h l m = m

pub info_width : (info : Int32Info) → Fields info → width (setting_of info) ≤ 31
info_width info f = width_le info.zeros info.ones info.dups f.zeros f.ones f.dups
