-- `word_laying::put_coded` meets its contract.
-- Assumes nothing.
use native.Mathlib.Omega.{arith}
use Rattle.fields.proofs.LongLaws.{prefix-long}
use Rattle.word_bits.proofs.PutLaws.{put_low-is, ones-size, put-short, put-long}
use Rattle.fields.proofs.WrittenLaws.{known}
use Rattle.word_laying.proofs.put_coded.Goals as goal

pub returns-then-bare : goal.returns-then-bare
returns-then-bare c =
    rw c.if-bare.true (put_low-is c.args.out.now _ c.args.at c.args.coded.count c.args.coded.value
    c.put_gathered.ensures)

pub overflow_add-result-then-prefix-lt16 : goal.overflow_add-result-then-prefix-lt16
overflow_add-result-then-prefix-lt16 c =
    omega (arith, c.requires.room, ones-size _ _ _ _ c.gather_ones-word.ensures)

pub returns-then-prefix-lt16 : goal.returns-then-prefix-lt16
returns-then-prefix-lt16 c =
    rw c.if-bare.false
    (put-short c.args.out.now _ c.args.at c.args.prefix c.args.coded.count c.args.coded.value _
    c.if-prefix-lt16.true c.gather_ones-word.ensures c.put_gathered-then-prefix-lt16.ensures)

pub overflow_add-result-2 : goal.overflow_add-result-2
overflow_add-result-2 c =
    omega (arith, c.requires.room, c.put_escaped-next.ensures.place, prefix-long c.args.prefix (omega arith))

pub returns : goal.returns
returns c =
    rw c.if-bare.false
    (put-long c.args.out.now _ _ c.args.at c.args.prefix c.put_escaped-next.result c.args.coded.count
    c.args.coded.value (omega arith) (c.put_escaped-next.ensures.buffer, c.put_escaped-next.ensures.place)
    c.put_bits.ensures)

pub put_escaped-next-requires-clause-room : goal.put_escaped-next-requires-clause-room
put_escaped-next-requires-clause-room c =
    omega (arith, c.requires.room, prefix-long c.args.prefix (omega arith))

pub put_bits-requires-clause-room : goal.put_bits-requires-clause-room
put_bits-requires-clause-room c =
    omega (
      arith,
      c.requires.room,
      c.put_escaped-next.ensures.place,
      c.put_escaped-next.auto.out,
      prefix-long c.args.prefix (omega arith),
    )

pub put_bits-requires-clause-place : goal.put_bits-requires-clause-place
put_bits-requires-clause-place c =
    omega (
      arith,
      c.requires.room,
      c.put_escaped-next.ensures.place,
      c.put_escaped-next.auto.out,
      prefix-long c.args.prefix (omega arith),
    )

pub put_gathered-requires-then-prefix-lt16-clause-room :
    goal.put_gathered-requires-then-prefix-lt16-clause-room
put_gathered-requires-then-prefix-lt16-clause-room c =
    omega (arith, c.requires.room, ones-size _ _ _ _ c.gather_ones-word.ensures)

pub put_gathered-requires-then-prefix-lt16-clause-value :
    goal.put_gathered-requires-then-prefix-lt16-clause-value
put_gathered-requires-then-prefix-lt16-clause-value c = (known _ _ c.gather_ones-word.ensures).below
