-- `archive_payloads::lay_one` meets its contract: a superseded recording is passed over, and one in force
-- laid.
-- Assumes nothing.
use mathlib.Core.Path.{sym, ap, ◌∙◌}
use mathlib.Core.Bool.{true, false}
use Prim.Native.Nat.{◌*◌}
use Rattle.overlay.specs.Overlay.{overlay}
use Rattle.archive_payloads.proofs.KeptLaws.{done_more, done-told, skipped_list, skipped_bytes}
use Rattle.archive_payloads.proofs.KeptLaws.{its_numbers, its_bytes, list-room, bytes-room}
use Rattle.archive_payloads.proofs.lay_one.Goals as goal

-- ---- a superseded one

pub returns-then-superseded-clause-done : goal.returns-then-superseded-clause-done
returns-then-superseded-clause-done c =
    let r = c.requires in
    done-told _ _
    (done_more _ _ r.one true (sym c.if-superseded.true ∙ r.told) r.done c.head_at-head.ensures.payload)
    c.counted.ensures

pub returns-then-superseded-clause-list : goal.returns-then-superseded-clause-list
returns-then-superseded-clause-list c =
    skipped_list _ _ c.requires.one _ _ (sym c.requires.told ∙ c.if-superseded.true)

pub returns-then-superseded-clause-out : goal.returns-then-superseded-clause-out
returns-then-superseded-clause-out c =
    skipped_bytes _ _ c.requires.one _ _ (sym c.requires.told ∙ c.if-superseded.true)

-- ---- one in force

pub lay_entry-requires : goal.lay_entry-requires
lay_entry-requires c =
    let r = c.requires in
    list-room _ _ r.one (sym r.told ∙ c.if-superseded.false) r.done _ r.list

pub copy_payload-requires-clause-room : goal.copy_payload-requires-clause-room
copy_payload-requires-clause-room c =
    let r = c.requires in
    rw c.head_at-head.ensures.payload
    (bytes-room _ _ r.one (sym r.told ∙ c.if-superseded.false) r.done _ r.out)

pub returns-clause-done : goal.returns-clause-done
returns-clause-done c =
    let r = c.requires in
    done-told _ _
    (done_more _ _ r.one false (sym c.if-superseded.false ∙ r.told) r.done c.head_at-head.ensures.payload)
    c.counted-2.ensures

pub returns-clause-list : goal.returns-clause-list
returns-clause-list c =
    let r = c.requires in
    c.lay_entry.ensures ∙ ap (overlay c.args.list.now (4 * c.args.done.recordings))
    (its_numbers _ c.args.i r.one (sym r.told ∙ c.if-superseded.false) c.head_at-head.ensures)

pub returns-clause-out : goal.returns-clause-out
returns-clause-out c =
    let r = c.requires in
    c.copy_payload.ensures ∙ ap (overlay c.args.out.now c.args.done.bytes)
    (its_bytes _ c.args.i r.one (sym r.told ∙ c.if-superseded.false))
