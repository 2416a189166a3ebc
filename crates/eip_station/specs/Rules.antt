-- What a station does beside its device, as its options say.
use Rattle.std.specs.Prelude.{ℕ, ◌-◌, ◌||◌, not, if◌then◌else◌, Bool, true, false, Option, Some, None, Result, Ok, Err}
use Rattle.command_lines.specs.declared.station_options.Options.{Options}
use Rattle.page_server.specs.declared.page.request.Allowed.{Allowed}
use Rattle.station.specs.declared.step.LifeEnd.{LifeEnd}
use Rattle.station.specs.declared.step.LifeEnd.TheVariants.{Restart}
use Rattle.station_record.specs.declared.fault.RecordFault.{RecordFault}
use Rattle.station_setup.specs.Settings.{end_of}
use Rattle.eip_station.specs.declared.failure.Failure.{Failure}
use Rattle.eip_station.specs.declared.failure.Failure.TheVariants.{RecordEnd}

-- a station takes calls from its input, or from its page
abbrev pub reads_lines : Options → Bool
reads_lines options = not options.no_input || options.page_writes

-- a page takes calls if the options say so, and shows a record that can be read again
abbrev pub allowed_of : Options → (has_record : Bool) → Allowed
allowed_of options has_record = record { writes = options.page_writes; «record» = has_record }

-- a line says where the page is, also of a quiet station if the page takes calls: it alone has their token
abbrev pub reports_page : Options → Bool
reports_page options = not options.quiet || options.page_writes

abbrev pub left_of : Option ℕ → ℕ → Option ℕ
left_of (Some end) begun = Some (end - begun)
left_of None begun = None

-- the end of a life that begins so many milliseconds after its station, which runs for so many seconds
abbrev pub left_ms : Option ℕ → ℕ → Option ℕ
left_ms seconds begun = left_of (end_of seconds) begun

-- a life whose record has ended has failed
abbrev pub life_end : LifeEnd → Option RecordFault → Result LifeEnd Failure
life_end end None = Ok end
life_end end (Some fault) = Err RecordEnd

-- another life follows a restart, and nothing else
abbrev pub has_next_life : LifeEnd → Bool
has_next_life (Restart same) = true
has_next_life other = false

-- a station has failed if its record was not written whole; a failure of its own comes first
abbrev pub run_end : Result Unit Failure → (is_whole : Bool) → Result Unit Failure
run_end (Ok done) is_whole = if is_whole then Ok done else Err RecordEnd
run_end (Err failure) is_whole = Err failure
