-- `int32_laying::lay_literals` meets its contract. The loop's invariant is `Laying`, with under
-- 32 bits held.
-- Assumes nothing.
use mathlib.Core.Path.{◌≡◌, sym, ap, subst, ◌∙◌}
use mathlib.Core.List.{List, map}
use Prim.Native.Nat.{ℕ, ◌+◌, ◌-◌, ◌*◌, ◌%◌, ◌^◌, ◌≤◌, ◌<◌}
use native.Mathlib.Omega.{arith}
use lib.IntN.{pos}
use lib.ListN.{length, drop, get_or}
use mir.Facts.{to_z-of_z}
use mir.Syntax.{w32}
use mir.Val.{SFits}
use borrow.Author.Rules.{rules}
use Rattle.overlay.specs.Overlay.{overlay}
use Rattle.bits.specs.Bits.{low}
use Rattle.bits.specs.Laid.{bytes_holding, put}
use Rattle.int32_sample.specs.Sample.{low_bits, above}
use Rattle.int32_sample.proofs.ShiftLaws.{above-fits, low_lt}
use Rattle.int32.specs.Deconstruct.{literal_of}
use Rattle.int32_laying.proofs.LayLaws.{nothing-laid, joins, given_back, rest-whole, Laying}
use Rattle.int32_laying.proofs.LayLaws.{laying_room, laying_none, laying_more, laying_laid}
use Rattle.int32_laying.proofs.LayLaws.{laying_all}
use Rattle.int32_laying.proofs.lay_literals.Goals as goal
use Rattle.int32_laying.proofs.lay_literals.Goals.{then-filled-ge32, else-filled-ge32}

pub returns-then-count-eq0 : goal.returns-then-count-eq0
returns-then-count-eq0 c =
    let xs = map (above c.args.shift) c.args.samples.now in
    nothing-laid c.args.out.now xs
    ∙ ap (λ (k : ℕ). overlay c.args.out.now 0 (bytes_holding (literal_of k xs))) (sym c.if-count-eq0.true)

pub loop-sample-init : goal.loop-sample-init
loop-sample-init c = (omega arith, search rules, laying_none _ _ _ _)

pub loop-sample-preserved : goal.loop-sample-preserved
loop-sample-preserved c =
    let s = c.args.samples.now in
    let k = c.args.count in
    let l = c.loop-sample in
    let x = get_or s l.sample-index (pos 0) in
    let f : SFits w32 x = search rules in
    let e : c.shifted.result ≡ above c.args.shift x =
    c.shifted.ensures ∙ ap (above c.args.shift) (to_z-of_z f) in
    let g : SFits w32 c.shifted.result = subst (SFits w32) (sym e) (above-fits c.args.shift x f) in
    -- the bits of the sample that was read
    let bits : c.from-bits.result ≡ low_bits k (above c.args.shift x) =
    c.from-bits.ensures ∙ c.low_bits.ensures ∙ ap (low_bits k) (to_z-of_z g ∙ e) in
    let small : c.from-bits.result < 2 ^ k = rw bits (low_lt (32 - k) k (omega arith) _) in
    let y = l.invariant.2 in
    let sum = joins l.held _ l.filled k y.small small (omega arith) in
    -- the bits of one more sample are held
    let more : Laying s c.args.shift k c.args.out.now l.out
    (l.held + c.from-bits.result * 2 ^ l.filled % 18446744073709551616) (l.filled + k) l.at (l.sample-index + 1) =
    rw sum.exact (laying_more _ _ _ _ l.out l.held l.filled l.at l.sample-index _ (omega arith) bits small y) in
    let room = laying_room _ _ _ _ _ _ _ _ _ c.requires.widths.1 more in
    elim c.if-filled-ge32.branch [
      | then-filled-ge32 w ↦ rw (w.out-is, w.held-is, w.filled-is, w.at-is) (
        omega arith,
        search rules,
        laying_laid _ _ _ _ l.out _ _ _ l.at _ w.if-filled-ge32.true
            (omega (arith, room, more.here, more.same_length, c.requires.room.0)) w.lay_number.ensures more,
      )
      | else-filled-ge32 w ↦ rw (w.out-is, w.held-is, w.filled-is, w.at-is) (omega arith, l.invariant.1, more)
    ]

pub returns : goal.returns
returns c =
    let l = c.loop-sample in
    let y = l.invariant.2 in
    -- the bytes that are laid are within the buffer
    let m : l.at ≤ length l.out = omega (
      arith,
      laying_room _ _ _ _ _ _ _ _ _ c.requires.widths.1 y,
      y.here,
      y.same_length,
      c.requires.room.0,
    ) in
    let e : c.put_bits.new.out ≡ put (drop l.at l.out) 0 (low l.filled l.held) =
    c.put_bits.ensures ∙ ap (λ (x : List ℕ). put x 0 (low l.filled l.held)) (rest-whole l.out l.at) in
    given_back l.out _ _ l.at m e
    ∙ laying_all _ _ _ _ l.out l.held l.filled l.at l.sample-index (omega arith) l.invariant.1 m y
