-- `archive_payloads::lay_entry` meets its contract.
-- Assumes nothing.
use Rattle.archive_payloads.proofs.CopyLaws.{entry-laid}
use Rattle.archive_payloads.proofs.lay_entry.Goals as goal

pub returns : goal.returns
returns c = entry-laid _ _ _ _ _ _ _ c.copy_from_slice.ensures.after
