-- `word_calls::read_call` meets its contract: too few slots, or what reading told, whose
-- counts fit 32 bits.
-- Assumes nothing.
use native.Mathlib.Omega.{arith}
use Rattle.word_calls.proofs.CallLaws.{read-laid, read_counts}
use Rattle.word_calls.proofs.read_call.Goals as goal

pub lay_counts-requires-clause-bits : goal.lay_counts-requires-clause-bits
lay_counts-requires-clause-bits c =
    let read = c.decode_packed_samples_stereo_from_entropy-read in
    let fits =
    read_counts c.args.entropy.now c.args.payload.now c.args.frames c.args.samples.now c.args.answer.now
    read.result
    _ read.ensures in
    omega (arith, fits.bits)

pub overflow_cast-last : goal.overflow_cast-last
overflow_cast-last c =
    let read = c.decode_packed_samples_stereo_from_entropy-read in
    let fits =
    read_counts c.args.entropy.now c.args.payload.now c.args.frames c.args.samples.now c.args.answer.now
    read.result
    _ read.ensures in
    omega (arith, fits.written)

pub overflow_cast-last-2 : goal.overflow_cast-last-2
overflow_cast-last-2 c =
    let read = c.decode_packed_samples_stereo_from_entropy-read in
    let fits =
    read_counts c.args.entropy.now c.args.payload.now c.args.frames c.args.samples.now c.args.answer.now
    read.result
    _ read.ensures in
    omega (arith, fits.left)

pub overflow_cast-last-3 : goal.overflow_cast-last-3
overflow_cast-last-3 c =
    let read = c.decode_packed_samples_stereo_from_entropy-read in
    let fits =
    read_counts c.args.entropy.now c.args.payload.now c.args.frames c.args.samples.now c.args.answer.now
    read.result
    _ read.ensures in
    omega (arith, fits.right)

pub returns : goal.returns
returns c =
    read-laid c.args.entropy.now c.args.payload.now c.args.frames c.args.samples.now c.args.answer.now
    c.decode_packed_samples_stereo_from_entropy-read.result
    _ _ _ c.decode_packed_samples_stereo_from_entropy-read.ensures (omega arith)
    c.lay_counts.ensures c.lay.ensures
