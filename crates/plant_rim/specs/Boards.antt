-- How a plant is: what is at work, and what has failed.
use Rattle.std.specs.Prelude.{◌||◌, Bool, true, false, Option, Some, None}
use Rattle.plant_rim.specs.Counts.{begun, left, record_begun, record_written}
use Rattle.plant_rim.specs.declared.board.PlantState.{PlantState}
use Rattle.plant_rim.specs.declared.counts.PlantCounts.{PlantCounts}
use Rattle.plant_rim.specs.declared.failure.DeviceFailure.{DeviceFailure}
use Rattle.plant_rim.specs.declared.failure.DeviceFailure.TheVariants.{RecordEnd}

abbrev pub with_counts : PlantState → PlantCounts → PlantState
with_counts state counts = record { counts = counts; failure = state.failure; is_stillborn = state.is_stillborn }

-- a device begins to live
abbrev pub device_begun : Bool → PlantState → PlantState
device_begun scanner state = with_counts state (begun scanner state.counts)

-- a record begins
abbrev pub record_waits : PlantState → PlantState
record_waits state = with_counts state (record_begun state.counts)

-- the first failure is kept
abbrev pub first_failure : Option DeviceFailure → Option DeviceFailure → Option DeviceFailure
first_failure (Some failure) later = Some failure
first_failure None later = later

-- a device lives no more, and has failed or not
abbrev pub device_left : (scanner : Bool) → Option DeviceFailure → (stillborn : Bool) → PlantState → PlantState
device_left scanner failure stillborn state = record {
  counts = left scanner state.counts;
  failure = first_failure state.failure failure;
  is_stillborn = state.is_stillborn || stillborn;
}

-- the failure of a record
abbrev pub record_failed : Bool → Option DeviceFailure
record_failed true = Some RecordEnd
record_failed false = None

-- a record is written to its end, or has failed
abbrev pub record_ended : Bool → PlantState → PlantState
record_ended failed state = record {
  counts = record_written state.counts;
  failure = first_failure state.failure (record_failed failed);
  is_stillborn = state.is_stillborn;
}
