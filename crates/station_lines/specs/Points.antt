-- The points that a station watches, and the lines that are due of them.
use Rattle.std.specs.Prelude.{ℕ, ◌^◌, ◌-◌, zero, suc, min, length, map, slice_get, is_some, Bool, List, [], ◌∷◌, ◌++◌, Option, Some, None, codes, decimal}
use Rattle.adapter_table.specs.declared.profile.OutputPoint.{OutputPoint}
use Rattle.scanner_table.specs.declared.profile.SlotConfig.{SlotConfig}
use Rattle.cip_tables.specs.declared.table.Config.{Config}
use Rattle.cip_tables.specs.declared.table.Config.TheVariants as config
use Rattle.cip_tables.specs.declared.table.DeviceTable.{DeviceTable}
use Rattle.cip_tables.specs.States.{owner_in}
use Rattle.cip_tables.specs.Step.{bytes_in}
use Rattle.trace_words.specs.Words.{bytes_word}
use Rattle.station_lines.specs.declared.points.PointKind.{PointKind}
use Rattle.station_lines.specs.declared.points.PointKind.TheVariants.{Output, Image}
use Rattle.station_lines.specs.declared.points.SlotTerms.{SlotTerms}
use Rattle.station_lines.specs.declared.points.WatchedPoint.{WatchedPoint}
use Rattle.station_lines.specs.Reported.{Reported, due_bytes}

-- THE POINTS OF A PROFILE

-- an output of an adapter
abbrev pub watched_output : OutputPoint → WatchedPoint
watched_output output = record { kind = Output; point = output.instance }

-- what the profile says of a slot's connection: target, kind, points and configuration
abbrev pub terms_of : SlotConfig → SlotTerms
terms_of slot = record { target = slot.target; kind = slot.kind; consumed = slot.consumed; produced = slot.produced; config = slot.config }

-- the image of a slot
abbrev pub watched_slot : ℕ → SlotConfig → WatchedPoint
watched_slot number slot = record { kind = Image (terms_of slot); point = number }

abbrev pub watched_at : ℕ → Option SlotConfig → List WatchedPoint
watched_at number (Some slot) = watched_slot number slot ∷ []
watched_at number None = []

-- the images of the slots of numbers below this one
abbrev pub watched_below : List SlotConfig → ℕ → List WatchedPoint
watched_below slots zero = []
watched_below slots (suc number) = watched_below slots number ++ watched_at number (slice_get slots number)

abbrev pub watched_slots : List SlotConfig → List WatchedPoint
watched_slots slots = watched_below slots (min (length slots) (2 ^ 32 - 1))

-- the outputs of an adapter, or the images of a scanner's slots
abbrev pub watched_points : Config → List WatchedPoint
watched_points (config.Adapter profile) = map watched_output profile.outputs
watched_points (config.Scanner profile) = watched_slots profile.slots

abbrev pub count_of : List WatchedPoint → ℕ
count_of points = min (length points) (2 ^ 32 - 1)

-- LINES

abbrev pub word_of : PointKind → List ℕ
word_of Output = codes "output"
word_of (Image terms) = codes "image"

-- the line of a point: the number of the last event, the time in milliseconds, the point and its bytes
abbrev pub point_line : ℕ → ℕ → PointKind → ℕ → List ℕ → List ℕ
point_line number ms kind point bytes = decimal number ++ (codes " at " ++ (decimal ms ++ (codes " " ++ (word_of kind ++ (codes " " ++ (decimal point ++ (codes " " ++ (bytes_word bytes ++ codes "\n"))))))))

-- DUE LINES

-- the bytes of which the line of a point at a place is due in a device's table: none if it has no such point
abbrev pub due_with : Reported → ℕ → Option (List ℕ) → Option (List ℕ)
due_with reported place (Some bytes) = due_bytes reported place bytes
due_with reported place None = None

abbrev pub due_of : DeviceTable → Reported → ℕ → ℕ → Option (List ℕ)
due_of table reported place point = due_with reported place (bytes_in table point)

abbrev pub due_at : DeviceTable → Reported → ℕ → Option WatchedPoint → Option (List ℕ)
due_at table reported place (Some watched) = due_of table reported place watched.point
due_at table reported place None = None

-- the line of a point, if it is due
abbrev pub due_line : ℕ → ℕ → Option WatchedPoint → Option (List ℕ) → List ℕ
due_line number ms (Some watched) (Some bytes) = point_line number ms watched.kind watched.point bytes
due_line number ms (Some watched) None = []
due_line number ms None due = []

-- OWNERS

-- a connection owns an output of this number
abbrev pub is_owned : DeviceTable → WatchedPoint → Bool
is_owned table watched = is_some (owner_in table watched.point)
