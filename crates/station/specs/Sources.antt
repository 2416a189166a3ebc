-- What a station does next: what its input says, and what the script of its device has due.
use Rattle.std.specs.Prelude.{◌≡◌, ◌⊎◌, ℕ, ◌+◌, ◌-◌, ◌^◌, min, Bool, true, false, List, Option, Some, None}
use Rattle.cip_types.specs.declared.ids.IdBlock.{IdBlock}
use Rattle.cip_tables.specs.States.{totals_of}
use Rattle.cip_events.specs.declared.event.Event.TheVariants as event
use Rattle.station.specs.declared.counted.CountedSteps.{CountedSteps}
use Rattle.cip_tables.specs.declared.table.DeviceTable.{DeviceTable}
use Rattle.station.specs.declared.script.lines.ScriptLine.{ScriptLine}
use Rattle.station.specs.declared.script.state.ScriptState.{ScriptState}
use Rattle.station.specs.declared.step.LifeEnd.TheVariants.{Over, InputEnd}
use Rattle.station.specs.declared.step.StationStep.{StationStep}
use Rattle.station.specs.declared.step.StationStep.TheVariants as step
use Rattle.station.specs.Script.Looks.{Given, decided_step, due_step, state_wait}
use Rattle.station_lines.specs.Calls.{line_of}
use Rattle.station_lines.specs.declared.calls.InputLine.{InputLine}
use Rattle.station_lines.specs.declared.calls.InputLine.TheVariants as input
use Rattle.station_lines.specs.declared.lines.NextLine.{NextLine}
use Rattle.station_lines.specs.declared.lines.NextLine.TheVariants as next
use Rattle.station.specs.declared.sources.DeviceSteps.{DeviceSteps}
use Rattle.station.specs.declared.sources.InputSteps.{InputSteps}
use Rattle.station.specs.declared.sources.SuppliedSteps.{SuppliedSteps}
use Rattle.station.specs.Times.{is_over, pause_ms}

-- THE INPUT

-- a number of lines, and one more: it ends with the numbers
abbrev pub counted : ℕ → ℕ
counted count = min (count + 1) (2 ^ 64 - 1)

-- the step of a line of this number: behind an empty line and a comment the station makes a turn, as behind each other one
abbrev pub step_of : InputLine → ℕ → StationStep
step_of input.Skipped line = step.Wait 0
step_of (input.Call event) line = step.Call event
step_of (input.Attribute call) line = step.Ask call
step_of input.Status line = step.Status
step_of input.Numbers line = step.Numbers
step_of input.NoCall line = step.NoCall line

-- the step of what an input has, behind so many lines
abbrev pub typed_of : ℕ → NextLine → Option StationStep
typed_of count (next.Line line) = Some (step_of (line_of line.items) (counted count))
typed_of count next.Nothing = None
typed_of count next.End = Some (step.End InputEnd)

abbrev pub count_after : ℕ → NextLine → ℕ
count_after count (next.Line line) = counted count
count_after count other = count

-- A step was typed, or none: the step is that of what the input had next, whose lines are counted.
pub record Types {L : Type 0} (has : L → NextLine → L → Type 0) (old : InputSteps L) (typed : Option StationStep) (new : InputSteps L) : Type 0 where
  pub came : NextLine
  pub comes : has old.lines came new.lines
  pub is_read : typed ≡ typed_of old.count came
  pub is_counted : new.count ≡ count_after old.count came

-- THE SCRIPT

-- the time of the plant, so many milliseconds after a life began: it ends with the numbers
abbrev pub plant_ms : (begun now : ℕ) → ℕ
plant_ms begun now = min (begun + now) (2 ^ 64 - 1)

-- the step of the line that is due, or else a wait of at most so many milliseconds
abbrev pub due_or_wait : List ScriptLine → ScriptState → (now most : ℕ) → Option Given → Given
due_or_wait script state now most (Some given) = given
due_or_wait script state now most None = record { step = step.Wait (state_wait state now most script); state = state }

-- what a script has due at this time of the plant: no wait is longer than this one
abbrev pub script_given : DeviceTable → List ScriptLine → ScriptState → (now most : ℕ) → Given
script_given table script state now most = due_or_wait script state now most (due_step table now script state)

-- WHAT IS TYPED, AND THE SCRIPT

-- what was typed comes first
abbrev pub given_or : Option StationStep → ScriptState → Given → Given
given_or (Some typed) state due = record { step = typed; state = state }
given_or None state due = due

-- A step was given about which no look decides: one that was typed, or else what the script has due.
pub record GivesBehind {T : Type 0} (types : T → Option StationStep → T → Type 0) (old : DeviceSteps T) (now : ℕ) (table : DeviceTable) (given : StationStep) (new : DeviceSteps T) : Type 0 where
  pub typed : Option StationStep
  pub came : types old.typed typed new.typed
  pub is_next : given ≡ (given_or typed old.state (script_given table old.script.now old.state (plant_ms old.begun_ms now) (pause_ms now old.end_ms))).step
  pub is_left : new ≡ record old { typed = new.typed; state = (given_or typed old.state (script_given table old.script.now old.state (plant_ms old.begun_ms now) (pause_ms now old.end_ms))).state }

-- A look decides about a line of the script, or not.
abbrev pub GivesDecided : {T : Type 0} → Option Given → (types : T → Option StationStep → T → Type 0) → DeviceSteps T → ℕ → DeviceTable → StationStep → DeviceSteps T → Type 0
GivesDecided (Some decided) types old now table given new = (given ≡ decided.step) × (new ≡ record old { state = decided.state })
GivesDecided None types old now table given new = GivesBehind types old now table given new

-- The life is over, or not yet.
abbrev pub GivesWithin : {T : Type 0} (over : Bool) (types : T → Option StationStep → T → Type 0) → DeviceSteps T → ℕ → DeviceTable → StationStep → DeviceSteps T → Type 0
GivesWithin true types old now table given new = (given ≡ step.End Over) × (new ≡ old)
GivesWithin false types old now table given new = GivesDecided (decided_step table (plant_ms old.begun_ms now) old.script.now old.state) types old now table given new

-- What the source of a device gives at this time of its life, with this table of its device, and what it is then.
abbrev pub Gives : {T : Type 0} (types : T → Option StationStep → T → Type 0) → DeviceSteps T → ℕ → DeviceTable → StationStep → DeviceSteps T → Type 0
Gives types old now table given new = GivesWithin (is_over now old.end_ms) types old now table given new

-- WHAT THE HOST COUNTS

-- Either the device is told what its host has counted, and the source of its steps stays, or that source gives the step.
abbrev pub Counts : {S H : Type 0} (gives : S → ℕ → DeviceTable → StationStep → S → Type 0) → CountedSteps S H → ℕ → DeviceTable → StationStep → CountedSteps S H → Type 0
Counts gives old now table given new =
    ((bytes : List ℕ) × (given ≡ step.Call (event.Counters bytes)) × (new.steps ≡ old.steps)) ⊎ gives old.steps now table given new.steps

-- WITH A SUPPLY OF CONNECTION IDS

-- the device takes a block that the supply has, or the source gives its step
abbrev pub step_of_supply : {S : Type 0} (gives : S → ℕ → DeviceTable → StationStep → S → Type 0) → S → ℕ → DeviceTable → Option IdBlock → StationStep → S → Type 0
step_of_supply gives old now table None given new = gives old now table given new
step_of_supply gives old now table (Some block) given new = (given ≡ step.Call (event.Ids block)) × (new ≡ old)

-- What a source with a supply gives: the supply is asked with the ids that the device has left.
pub record GivesSupplied {S I : Type 0} (gives : S → ℕ → DeviceTable → StationStep → S → Type 0) (supplies : I → ℕ → Option IdBlock → I → Type 0) (old : SuppliedSteps S I) (now : ℕ) (table : DeviceTable) (given : StationStep) (new : SuppliedSteps S I) : Type 0 where
  pub block : Option IdBlock
  pub supplied : supplies old.supply (totals_of table).ids_left block new.supply
  pub is_step : step_of_supply gives old.source now table block given new.source
