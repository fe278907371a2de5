-- The parts of a block that was made of a number and its used bytes; and a right block is such a one.
-- Assumes nothing.
use mathlib.Core.Path.{◌≡◌, refl, sym, ◌∙◌}
use mathlib.Core.Bool.{true}
use mathlib.Core.List.{List, ◌++◌, append_assoc}
use Prim.Native.Nat.{ℕ, ◌-◌, ◌*◌, ◌≤◌, ◌<◌}
use native.Mathlib.Omega.{arith}
use borrow.Author.Tests.{eq-eqb}
use lib.ListN.{length, take, drop, replicate, length-append, length-replicate, length-drop}
use lib.Seq.{take_at, drop_at, drop-drop, take_all, take-append-le, drop-append-le}
use Rattle.little_endian.specs.LittleEndian.{little_endian, from_little_endian}
use Rattle.little_endian.proofs.LittleEndianLaws.{number-back}
use Rattle.archive.specs.Block.{Bytes, checked_bytes, max_used, check_of}
use Rattle.archive.specs.Block.{block_body, block}
use Rattle.archive.specs.Block.{number_at, number_in, used_in, check_in, data_in, filling_in, passes}
use Rattle.archive.specs.Faults.{all_zero}
use Rattle.archive.proofs.BlockLaws.{bytes-length, body_length}
use Rattle.archive.proofs.ByteLaws.{bytes_append, bytes-number, bytes-zeros}
use Rattle.archive.proofs.ByteLaws.{zeros-all}
use Rattle.archive.proofs.ByteLaws.{weighted_small}

module _ (number : ℕ) (used : List ℕ) where
  -- number and used bytes
  abbrev pub front : List ℕ
  front = little_endian 2 number ++ little_endian 2 (length used)

  -- the zeros
  abbrev pub filling : List ℕ
  filling = replicate (max_used - length used) 0

  -- and the check
  abbrev pub behind : List ℕ
  behind = filling ++ little_endian 4 (check_of (block_body number used))

  -- a block from its front on
  pub block-parts : block number used ≡ front ++ (used ++ behind)
  unfolding block block_body
  block-parts = simp append_assoc

  pub front_length : length front ≡ 4
  front_length = simp (length-append, bytes-length)

  module _ (bytes : Bytes used) (fits : length used ≤ max_used) (small : number < 65536) where
    body_bytes : Bytes (block_body number used)
    unfolding block_body little_endian
    body_bytes =
        let two = little_endian 2 (length used) in
        bytes_append (little_endian 2 number) (two ++ (used ++ filling)) (bytes-number 2 number)
        (bytes_append two (used ++ filling) (bytes-number 2 (length used))
        (bytes_append used filling bytes (bytes-zeros (max_used - length used))))

    pub made-number : number_in (block number used) ≡ number
    unfolding block block_body little_endian from_little_endian
    made-number = omega arith

    pub made-used : used_in (block number used) ≡ length used
    unfolding block block_body little_endian from_little_endian
    made-used = omega arith

    -- behind the front
    pub made-rest : drop 4 (block number used) ≡ used ++ behind
    made-rest = rw block-parts (drop_at front (used ++ behind) 4 front_length)

    pub made_data : data_in (block number used) ≡ used
    made_data = rw (made-used, made-rest) (take_at used behind (length used) refl)

    pub made-filling : all_zero (filling_in (block number used)) ≡ true
    made-filling =
        let e : filling_in (block number used) ≡ filling =
        rw (
          made-used,
          ← drop-drop (length used) 4 (block number used),
          made-rest,
          drop_at used behind
              (length used) refl,
        )
        (take_at filling (little_endian 4 (check_of (block_body number used))) (max_used - length used)
        (length-replicate (max_used - length used) 0)) in
        rw e (zeros-all (max_used - length used))

    pub made-passes : passes (block number used) ≡ true
    unfolding block
    made-passes =
        let b = block_body number used in
        let n = body_length number used fits in
        let w : check_of b ≤ 129540 * 508 =
        let t = weighted_small 0 b body_bytes (omega arith) in
        let a : take checked_bytes b ≡ b = take_all checked_bytes b (omega arith) in rw a (omega arith) in
        let whole : check_of (block number used) ≡ check_of b =
        rw (take_at b (little_endian 4 (check_of b)) checked_bytes n, take_all checked_bytes b (omega arith)) in
        let stored : check_in (block number used) ≡ check_of b =
        rw (
          drop_at b (little_endian 4 (check_of b)) checked_bytes n,
          take_all 4 (little_endian 4 (check_of b)) (let l = bytes-length 4 (check_of b) in omega arith),
        ) (number-back (check_of b) (omega arith)) in
        eq-eqb _ _ (whole ∙ sym stored)

    -- the length that a first block announces
    pub made-length : 12 ≤ length used
        → number_at (block number used) 12 4 ≡ from_little_endian (take 4 (drop 8 used))
    made-length h =
        let m = length-drop 8 used in
        rw (
          ← drop-drop 8 4 (block number used),
          made-rest,
          drop-append-le 8 used behind (omega arith),
          take-append-le 4 (drop 8 used) behind (omega arith),
        )
