-- The steps that were typed at a device and wait for it.
use Rattle.std.specs.Prelude.{Bool, if◌then◌else◌, List, [], ◌∷◌, Option, Some, None}
use Rattle.station.specs.declared.step.LifeEnd.TheVariants.{Over}
use Rattle.station.specs.declared.step.StationStep.{StationStep}
use Rattle.station.specs.declared.step.StationStep.TheVariants.{End}
use Rattle.plant_rim.specs.declared.step_queue.WaitingStep.{WaitingStep}

-- the oldest of these steps; behind the last one the life is over, if no more come
abbrev pub next_of : Bool → List WaitingStep → Option StationStep
next_of ended [] = if ended then Some (End Over) else None
next_of ended (waiting ∷ others) = Some waiting.step
