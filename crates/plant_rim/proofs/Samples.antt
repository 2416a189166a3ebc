-- Lines under names, lines that are typed, and the end of a plant, worked by hand.
use Rattle.std.proofs.Common.{◌≡◌, ℕ, [], ◌∷◌, ◌++◌, codes, false, true, None, Some, refl}
use Rattle.plant_rim.specs.File.Calls.{own_call_of}
use Rattle.station.specs.declared.step.StationStep.TheVariants as step
use Rattle.port_faults.specs.declared.orders.order.PortOrder.TheVariants as order
use Rattle.plant_rim.specs.Boards.{device_left, record_ended}
use Rattle.plant_rim.specs.declared.failure.DeviceFailure.TheVariants.{Record, RecordEnd}
use Rattle.plant_rim.specs.Incarnations.{next_of, span_of}
use Rattle.plant_rim.specs.Named.{named_text}
use Rattle.plant_rim.specs.declared.named.NameForm.TheVariants.{Result, Report}
use Rattle.plant_rim.specs.Phases.{next_phase}
use Rattle.plant_rim.specs.declared.phases.PlantPhase.{PlantPhase}
use Rattle.plant_rim.specs.declared.phases.PlantPhase.TheVariants.{Running, EndingScanners, EndingAll, Writing, Ended}
use Rattle.plant_rim.specs.Typed.{typed_of}
use Rattle.plant_rim.specs.declared.typed.TypedLine.TheVariants.{Skipped, Status, For, NoCall}

-- LINES UNDER NAMES

two_lines : named_text Result (codes "v1") (codes "7 done" ++ 10 ∷ codes "7 note closed" ++ 10 ∷ []) ≡ codes "v1 7 done" ++ 10 ∷ codes "v1 7 note closed" ++ 10 ∷ []
two_lines = refl

no_text : named_text Result (codes "v1") [] ≡ []
no_text = refl

a_report : named_text Report (codes "v1") (codes "eip_station: stream 0 is open") ≡ codes "eip_station: v1: stream 0 is open"
a_report = refl

another_text : named_text Report (codes "v1") (codes "eip_s") ≡ codes "eip_station: v1: eip_s"
another_text = refl

-- LINES THAT ARE TYPED

all_devices : typed_of (codes "status") ≡ Status
all_devices = refl

a_comment : typed_of (codes "# status") ≡ Skipped
a_comment = refl

state_of_one : typed_of (codes "drive-1 status") ≡ For 7 step.Status
unfolding own_call_of
state_of_one = refl

a_cut : typed_of (codes "v1 cut") ≡ For 2 (step.Order order.Cut)
unfolding own_call_of
a_cut = refl

no_name : typed_of (codes "cut") ≡ NoCall
no_name = refl

-- THE END OF A PLANT

abbrev at : PlantPhase → (devices scanners records ms : ℕ) → PlantPhase
at phase devices scanners records ms = next_phase phase (record { counts = record { devices = devices; scanners = scanners; records = records }; is_over = false; waited_ms = ms })

goes_on : at Running 3 1 3 900000 ≡ Running
goes_on = refl

none_lives : at Running 0 0 1 20 ≡ EndingScanners
none_lives = refl

scanner_closes : at EndingScanners 3 1 3 4999 ≡ EndingScanners
scanner_closes = refl

scanner_hangs : at EndingScanners 3 1 3 5000 ≡ EndingAll
scanner_hangs = refl

record_is_written : at Writing 0 0 1 20 ≡ Writing
record_is_written = refl

is_written : at Writing 0 0 0 20 ≡ Ended
is_written = refl

-- WHAT HAS FAILED

-- a scanner's record cannot be begun, and then a record ends before its life: the first failure is kept
the_first_failure_is_kept :
    record_ended true (device_left true (Some Record) true (record { counts = record { devices = 2; scanners = 1; records = 1 }; failure = None; is_stillborn = false }))
    ≡ record { counts = record { devices = 1; scanners = 0; records = 0 }; failure = Some Record; is_stillborn = true }
the_first_failure_is_kept = refl

a_record_ends :
    record_ended true (record { counts = record { devices = 1; scanners = 0; records = 1 }; failure = None; is_stillborn = false })
    ≡ record { counts = record { devices = 1; scanners = 0; records = 0 }; failure = Some RecordEnd; is_stillborn = false }
a_record_ends = refl

-- INCARNATIONS

-- of two devices one has 1 to 127, the other 128 to 255
first_of_two : span_of 0 2 ≡ record { first = 1; last = 127 }
first_of_two = refl

second_of_two : span_of 1 2 ≡ record { first = 128; last = 255 }
second_of_two = refl

last_of_many : span_of 126 127 ≡ record { first = 253; last = 255 }
last_of_many = refl

next_one : next_of (record { first = 253; last = 255 }) 253 ≡ 254
next_one = refl

goes_round : next_of (record { first = 253; last = 255 }) 255 ≡ 253
goes_round = refl
