-- How a plant ends. Times are in milliseconds.
use Rattle.std.specs.Prelude.{◌==◌, ◌||◌, nat_le, Bool, if◌then◌else◌}
use Rattle.plant_rim.specs.declared.phases.PlantPhase.{PlantPhase}
use Rattle.plant_rim.specs.declared.phases.PlantPhase.TheVariants.{Running, EndingScanners, EndingAll, Writing, Ended}
use Rattle.plant_rim.specs.declared.phases.PlantView.{PlantView}

abbrev pub next_if : Bool → PlantPhase → PlantPhase → PlantPhase
next_if is_time phase next = if is_time then next else phase

-- no phase of the end waits longer than 5,000 ms
abbrev pub is_late : PlantView → Bool
is_late view = nat_le 5000 view.waited_ms

-- a plant runs until it is to end or none of its devices lives; then its scanners end, all its devices, its records
abbrev pub next_phase : PlantPhase → PlantView → PlantPhase
next_phase Running view = next_if (view.is_over || view.counts.devices == 0) Running EndingScanners
next_phase EndingScanners view = next_if (is_late view || view.counts.scanners == 0) EndingScanners EndingAll
next_phase EndingAll view = next_if (is_late view || view.counts.devices == 0) EndingAll Writing
next_phase Writing view = next_if (is_late view || view.counts.records == 0) Writing Ended
next_phase Ended view = Ended
