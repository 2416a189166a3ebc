-- How much of a plant is at work.
use Rattle.std.specs.Prelude.{ℕ, ◌+◌, ◌-◌, ◌^◌, min, Bool, true, false}
use Rattle.plant_rim.specs.declared.counts.PlantCounts.{PlantCounts}

-- one more, within 32 bits
abbrev pub one_more : ℕ → ℕ
one_more n = min (n + 1) (2 ^ 32 - 1)

-- a device begins to live
abbrev pub begun : Bool → PlantCounts → PlantCounts
begun true counts = record { devices = one_more counts.devices; scanners = one_more counts.scanners; records = counts.records }
begun false counts = record { devices = one_more counts.devices; scanners = counts.scanners; records = counts.records }

-- a device lives no more
abbrev pub left : Bool → PlantCounts → PlantCounts
left true counts = record { devices = counts.devices - 1; scanners = counts.scanners - 1; records = counts.records }
left false counts = record { devices = counts.devices - 1; scanners = counts.scanners; records = counts.records }

-- a record begins
abbrev pub record_begun : PlantCounts → PlantCounts
record_begun counts = record { devices = counts.devices; scanners = counts.scanners; records = one_more counts.records }

-- a record is written to its end
abbrev pub record_written : PlantCounts → PlantCounts
record_written counts = record { devices = counts.devices; scanners = counts.scanners; records = counts.records - 1 }
