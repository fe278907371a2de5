-- `wave_export::export_refusal` meets its contract.
-- Assumes nothing.
use mathlib.Core.Path.{sym, ◌∙◌}
use native.Mathlib.Omega.{arith}
use Rattle.answers.proofs.ListLaws.{frames_room}
use Rattle.wave_export.proofs.ExportLaws.{export_lengths, export_rate, export_span, export_none}
use Rattle.wave_export.proofs.export_refusal.Goals as goal

pub returns-then-room-samples : goal.returns-then-room-samples
returns-then-room-samples c = export_lengths _ _ _ 11
    (frames_room _ _ _ c.if-samples-gt-MAX_ELEMENTS.false c.if-samples-ne0.false c.if-room-samples.true)
    (omega arith)

-- behind the first three tests the list and the buffer are right
pub returns-then-not-is_rate : goal.returns-then-not-is_rate
returns-then-not-is_rate c =
    export_rate _ _ _
    (record {
      few = c.if-samples-gt-MAX_ELEMENTS.false;
      whole_frames = c.if-samples-ne0.false;
      enough = c.if-room-samples.false;
    })
    (sym c.is_rate.ensures ∙ c.if-not-is_rate.true)

pub returns-then-not-is_within : goal.returns-then-not-is_within
returns-then-not-is_within c =
    export_span _ _ _
    (record {
      few = c.if-samples-gt-MAX_ELEMENTS.false;
      whole_frames = c.if-samples-ne0.false;
      enough = c.if-room-samples.false;
    })
    (sym c.is_rate.ensures ∙ c.if-not-is_rate.false)
    (sym c.is_within.ensures ∙ c.if-not-is_within.true)

pub returns : goal.returns
returns c =
    export_none _ _ _
    (record {
      fitting = record {
        few = c.if-samples-gt-MAX_ELEMENTS.false;
        whole_frames = c.if-samples-ne0.false;
        enough = c.if-room-samples.false;
      };
      rate_taken_lem = sym c.is_rate.ensures ∙ c.if-not-is_rate.false;
      sixteen-bits = sym c.is_within.ensures ∙ c.if-not-is_within.false;
    })
