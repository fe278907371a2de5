-- `archive_slots::read_call` meets its contract: one law for each of its answers.
-- Assumes nothing.
use Rattle.archive_slots.proofs.ReadSlotLaws.{read-laid, read_bad, read-twice, storage-short}
use Rattle.archive_slots.proofs.read_call.Goals as goal

pub returns-in-Ok : goal.returns-in-Ok
returns-in-Ok c = read-laid _ _ _ _ _ _ c.if-answer-lt2.false _ _ c.in-Ok.ensures c.lay_two.ensures

pub returns-in-Err-BadBlock : goal.returns-in-Err-BadBlock
returns-in-Err-BadBlock c =
    read_bad _ _ _ _ _ _ c.if-answer-lt2.false _ _ (rw c.in-Err-BadBlock.field-0-is at c.in-Err-BadBlock.ensures)
    c.lay_two-in-Err-BadBlock.ensures

pub returns-in-Err-RecordingTwice : goal.returns-in-Err-RecordingTwice
returns-in-Err-RecordingTwice c =
    read-twice _ _ _ _ _ _ c.if-answer-lt2.false (rw c.in-Err-RecordingTwice.field-0-is at c.in-Err-RecordingTwice.ensures)

pub returns-in-Err-OutputTooShort : goal.returns-in-Err-OutputTooShort
returns-in-Err-OutputTooShort c =
    storage-short _ _ _ _ _ _ c.if-answer-lt2.false (rw c.in-Err-OutputTooShort.field-0-is at c.in-Err-OutputTooShort.ensures)
