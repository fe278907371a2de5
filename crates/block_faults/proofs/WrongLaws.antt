-- What is wrong with a whole block, test by test.
-- Assumes nothing.
use mathlib.Core.Path.{◌≡◌, sym, ◌∙◌}
use mathlib.Core.Bool.{Bool, true, false, not, ◌&&◌}
use mathlib.Core.List.{List}
use Prim.Native.Nat.{ℕ, ◌+◌, ◌-◌, ◌≤◌, ◌<◌}
use native.Mathlib.Omega.{arith}
use borrow.Author.Tests.{lt-ltb, le-ltb, eq-eqb, ne_eqb}
use lib.Dec.{ltb}
use lib.ListN.{length, take, drop}
use Rattle.answers.specs.Limits.{max_payload_bytes}
use Rattle.archive.specs.Block.{block_bytes, check_of, check_in, number_in, used_in, filling_in, passes}
use Rattle.archive.specs.Faults.{used_asked, finished, all_zero, wrong}

-- under 512 bytes, whatever else
pub wrong-short : (last : Bool) (announced before : ℕ) (b : List ℕ) → length b < block_bytes
    → wrong last announced before b ≡ true
unfolding wrong
wrong-short last announced before b h = rw (lt-ltb (length b) block_bytes h)

module _ (last : Bool) (announced before : ℕ) (b : List ℕ) (size : length b ≡ block_bytes) where
  whole : ltb (length b) block_bytes ≡ false
  whole = le-ltb (length b) block_bytes (omega arith)

  -- a wrong check
  pub wrong_check : passes b ≡ false → true ≡ wrong last announced before b
  unfolding wrong
  wrong_check e = rw (whole, e)

  -- the right check, and a payload length above its limit
  pub wrong_long : check_of b ≡ check_in b → max_payload_bytes < announced → wrong last announced before b ≡ true
  unfolding wrong
  wrong_long e h = rw (whole, eq-eqb (check_of b) (check_in b) e, lt-ltb max_payload_bytes announced h)

  module _ (checked : passes b ≡ true) where
    -- a payload length above its limit
    pub wrong-length : max_payload_bytes < announced → true ≡ wrong last announced before b
    unfolding wrong
    wrong-length h = rw (whole, checked, lt-ltb max_payload_bytes announced h)

    module _ (limit : announced ≤ max_payload_bytes) where
      -- another number than the blocks before ask
      pub wrong-number : (number_in b ≡ before → ⊥) → true ≡ wrong last announced before b
      unfolding wrong
      wrong-number n =
          rw (whole, checked, le-ltb max_payload_bytes announced limit, ne_eqb (number_in b) before n)

      module _ (number : number_in b ≡ before) where
        -- another count of used bytes than is asked
        pub wrong-used : (used_in b ≡ used_asked announced before → ⊥) → true ≡ wrong last announced before b
        unfolding wrong
        wrong-used n = rw (
          whole,
          checked,
          le-ltb max_payload_bytes announced limit,
          eq-eqb (number_in b) before number,
          ne_eqb (used_in b) (used_asked announced before) n,
        )

        module _ (used : used_in b ≡ used_asked announced before) where
          -- a byte of the filling that is not 0
          pub wrong-filling : all_zero (filling_in b) ≡ false → true ≡ wrong last announced before b
          unfolding wrong
          wrong-filling e = rw (
            whole,
            checked,
            le-ltb max_payload_bytes announced limit,
            eq-eqb (number_in b) before number,
            eq-eqb (used_in b) (used_asked announced before) used,
            e,
          )

          module _ (filling : all_zero (filling_in b) ≡ true) where
            -- the tests that a whole block passed
            passed : wrong last announced before b ≡ (last && not (finished announced before))
            unfolding wrong
            passed = rw (
              whole,
              checked,
              le-ltb max_payload_bytes announced limit,
              eq-eqb (number_in b) before number,
              eq-eqb (used_in b) (used_asked announced before) used,
              filling,
            )

            -- the last block of the file has to be that of its recording
            pub wrong-last : (ends : Bool) → last ≡ true → ends ≡ finished announced before
                → not ends ≡ wrong last announced before b
            wrong-last ends l e = rw e (sym (passed ∙ rw l))

            -- another one not
            pub wrong-none : last ≡ false → false ≡ wrong last announced before b
            wrong-none l = sym (passed ∙ rw l)

-- the filling is what stands behind the used bytes
pub filling-is : (b : List ℕ) (used : ℕ) (clear : Bool) → used ≡ used_in b
    → clear ≡ all_zero (take (508 - (4 + used)) (drop (4 + used) b)) → all_zero (filling_in b) ≡ clear
filling-is b used clear e q =
    let n : 508 - (4 + used) ≡ 504 - used = omega arith in
    sym (q ∙ rw (n, e))
