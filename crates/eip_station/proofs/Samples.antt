-- What a station does beside its device, worked by hand.
use Rattle.std.specs.Prelude.{◌≡◌, ℕ, List, [], ◌++◌, codes, decimal, true, false, Some, None, Ok, Err, refl}
use Rattle.cip_types.specs.declared.names.Node.{Node}
use Rattle.command_lines.specs.declared.station_options.Options.{Options}
use Rattle.command_lines.specs.declared.station_options.StationMisuse.TheVariants as misuse
use Rattle.command_lines.specs.declared.station_task.ProgramTask.TheVariants.{Plant, Version}
use Rattle.station.specs.declared.step.LifeEnd.TheVariants.{Over, Restart}
use Rattle.station_port.specs.declared.fault.SocketCause.TheVariants.{InUse, NoAddress}
use Rattle.station_port.specs.declared.fault.StationFault.TheVariants as port
use Rattle.station_port.specs.declared.fault.StationSocket.TheVariants.{Tcp}
use Rattle.station_port.specs.declared.place.StationPlace.{StationPlace}
use Rattle.station_record.specs.declared.fault.RecordFault.TheVariants.{Full}
use Rattle.station_record.specs.declared.kept_files.state_file.StateFault.TheVariants.{NoState, Unwritten}
use Rattle.station_setup.specs.declared.opening.places.SocketPlace.{SocketPlace}
use Rattle.trace_words.specs.Words.{node_word}
use Rattle.eip_station.specs.Failures.{end_status, failure_at, record_failure, state_failure, status_of, subject_in, unread_end}
use Rattle.eip_station.specs.Needs.{needs_of, no_needs, page_threads}
use Rattle.eip_station.specs.Rules.{has_next_life, left_ms, life_end, reads_lines, run_end, reports_page}
use Rattle.eip_station.specs.Texts.{kind_word, page_text, record_name, start_text, state_name}
use Rattle.eip_station.specs.declared.failure.Failure.TheVariants as failure
use Rattle.eip_station.specs.declared.failure.Subject.TheVariants as subject

-- STATUSES

statuses : (place : SocketPlace) → (status_of (failure_at (port.Socket Tcp InUse) place) ≡ 5) × ((status_of (failure_at (port.Socket Tcp NoAddress) place) ≡ 4)
    × ((status_of (state_failure NoState) ≡ 3) × ((status_of (state_failure Unwritten) ≡ 6) × (status_of (record_failure Full) ≡ 6))))
statuses place = (refl, (refl, (refl, (refl, refl))))

unread : (unread_end (Err failure.Output) true ≡ Err failure.Unheard) × (unread_end (Err failure.Output) false ≡ Err failure.Output)
unread = (refl, refl)

subjects : (subject_in (failure.Words misuse.NoFile) ≡ subject.Word misuse.NoFile) × ((subject_in failure.Events ≡ subject.File 0) × (subject_in failure.Token ≡ subject.Nothing))
subjects = (refl, (refl, refl))

-- a failure of the station comes before that of its record
ends_so : (end_status (Err failure.Token) ≡ 5) × (run_end (Err failure.Token) false ≡ Err failure.Token)
ends_so = (refl, refl)

-- THREADS

threads_of_two : (o : Options) → needs_of (Ok (Plant (record o { no_input = true; page = Some 8080 }))) 2
    ≡ record { outputs = true; alarm = false; input = false; «record» = false; state = false; page = true; plant = 4; devices = 2 }
threads_of_two o = refl

no_threads : (needs_of (Ok Version) 0 ≡ no_needs) × (needs_of (Err misuse.NoCommand) 0 ≡ no_needs)
no_threads = (refl, refl)

browsers : (page_threads true ≡ 8) × (page_threads false ≡ 0)
browsers = (refl, refl)

-- RULES

calls : (o : Options) → (reads_lines (record o { no_input = true; page_writes = false }) ≡ false) × (reads_lines (record o { no_input = true; page_writes = true }) ≡ true)
calls o = (refl, refl)

reported_page : (o : Options) → (reports_page (record o { quiet = true; page_writes = false }) ≡ false) × (reports_page (record o { quiet = true; page_writes = true }) ≡ true)
reported_page o = (refl, refl)

-- --seconds 4: a life that begins after 1500 ms, and one that begins too late
time_left : (left_ms (Some 4) 1500 ≡ Some 2500) × ((left_ms (Some 4) 4100 ≡ Some 0) × (left_ms None 1500 ≡ None))
time_left = (refl, (refl, refl))

ends : (life_end Over (Some Full) ≡ Err failure.RecordEnd) × ((has_next_life (Restart true) ≡ true) × (has_next_life Over ≡ false))
ends = (refl, (refl, refl))

-- TEXTS

files : (state_name None (codes "a.profile") ≡ codes "a.profile.state") × ((record_name (codes "a.trace") 1 ≡ codes "a.trace")
    × (record_name (codes "a.trace") 12 ≡ codes "a.trace.life-" ++ decimal 12))
files = (refl, (refl, refl))

abbrev here : StationPlace → StationPlace
here place = record place { tcp = 44818; udp = 2222 }

abbrev ports : ℕ → List ℕ
ports incarnation = codes ", TCP " ++ (decimal 44818 ++ (codes ", UDP " ++ (decimal 2222 ++ (codes ", incarnation " ++ (decimal incarnation ++ codes ", ")))))

started : (place : StationPlace) → start_text (kind_word true) (codes "s.profile") (here place) 16 None
    ≡ codes "eip_station: scanner s.profile at " ++ (node_word place.address ++ (ports 16 ++ codes "no record\n"))
started place = refl

recorded : (place : StationPlace) → start_text (kind_word false) (codes "a.profile") (here place) 1 (Some (codes "a.trace"))
    ≡ codes "eip_station: adapter a.profile at " ++ (node_word place.address ++ (ports 1 ++ codes "record a.trace\n"))
recorded place = refl

page : (node : Node) → page_text node 8080 (codes "0a0b") ≡ codes "eip_station: page at http://" ++ (node_word node ++ (codes ":" ++ (decimal 8080 ++ codes "/#0a0b\n")))
page node = refl

page_without_calls : (node : Node) → page_text node 8080 [] ≡ codes "eip_station: page at http://" ++ (node_word node ++ (codes ":" ++ (decimal 8080 ++ codes "/\n")))
page_without_calls node = refl
