-- Document 01 (Z1): what a word reports, and the report that an enum of zones is.
-- Assumes nothing.
use Rattle.std.specs.Prelude.{ℕ, zero, suc, Option, None, Some}
use Rattle.zones.specs.declared.Zone.{Zone}

-- document 01 (Z1): "A word's report holds its zone, the overflow zone with its count; a zero out
-- of a run and a refused word report none"
pub data Report : Type 0 where
  none : Report
  zone0 : Report
  zone1 : Report
  zone2 : Report
  over : ℕ → Report

-- the zone of a count
abbrev pub zone_of : ℕ → Report
zone_of zero = zone0
zone_of (suc zero) = zone1
zone_of (suc (suc zero)) = zone2
zone_of (suc (suc (suc k))) = over (suc (suc (suc k)))

-- the report that an enum of zones is
abbrev pub report_of_zone : Zone → Report
report_of_zone Zone.Zone0 = zone0
report_of_zone Zone.Zone1 = zone1
report_of_zone Zone.Zone2 = zone2
report_of_zone (Zone.Zone2Overflow k) = over k

-- and none
abbrev pub report_of : Option Zone → Report
report_of None = none
report_of (Some zone) = report_of_zone zone
