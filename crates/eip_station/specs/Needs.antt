-- The threads that a command line needs.
use Rattle.std.specs.Prelude.{ℕ, ◌*◌, ◌-◌, ◌^◌, min, is_some, not, ◌||◌, if◌then◌else◌, Bool, true, false, Result, Ok}
use Rattle.command_lines.specs.declared.station_options.Options.{Options}
use Rattle.command_lines.specs.declared.station_options.StationMisuse.{StationMisuse}
use Rattle.command_lines.specs.declared.station_task.ProgramTask.{ProgramTask}
use Rattle.command_lines.specs.declared.station_task.ProgramTask.TheVariants.{Station, Plant}
use Rattle.eip_station.specs.declared.needs.Needs.{Needs}

-- a station has those of its outputs and its alarm, that of its input unless the options say that none is read, those of a record
-- and a page if the options name them, and that of its state's file if its start is counted; its page shows one device
abbrev pub station_needs : Options → Needs
station_needs options = record {
  outputs = true;
  alarm = true;
  input = not options.no_input;
  «record» = is_some options.record_from_end;
  state = not (is_some options.incarnation) || is_some options.state_from_end;
  page = is_some options.page;
  plant = 0;
  devices = 1;
}

-- a plant has two for each of its devices, which have their records and their alarms from these
abbrev pub plant_needs : Options → (devices : ℕ) → Needs
plant_needs options devices = record {
  outputs = true;
  alarm = false;
  input = not options.no_input;
  «record» = false;
  state = false;
  page = is_some options.page;
  plant = min (devices * 2) (2 ^ 64 - 1);
  devices = devices;
}

abbrev pub no_needs : Needs
no_needs = record { outputs = false; alarm = false; input = false; «record» = false; state = false; page = false; plant = 0; devices = 0 }

-- those of a task, whose plant has so many devices
abbrev pub needs_of : Result ProgramTask StationMisuse → (devices : ℕ) → Needs
needs_of (Ok (Station task)) devices = station_needs task.options
needs_of (Ok (Plant options)) devices = plant_needs options devices
needs_of other devices = no_needs

-- eight threads serve the browsers of a page
abbrev pub page_threads : Bool → ℕ
page_threads page = if page then 8 else 0
