-- Slots that no station can serve, and where a station is, worked by hand. What a slot has beside target, kind and output does not matter.
use Rattle.std.proofs.Common.{◌≡◌, ℕ, [], ◌∷◌, Bool, true, false, Some, None, refl}
use Rattle.std.specs.Prelude.{◌++◌, codes, decimal}
use Rattle.adapter_table.specs.declared.profile.Description.{Description}
use Rattle.cip_tables.specs.declared.table.Config.{Config}
use Rattle.cip_tables.specs.declared.table.Config.TheVariants as config
use Rattle.command_lines.specs.declared.station_options.Options.{Options}
use Rattle.cip_productions.specs.declared.kind.Kind.TheVariants.{ExclusiveOwner, InputOnly}
use Rattle.scanner_table.specs.declared.profile.SlotConfig.{SlotConfig}
use Rattle.scanner_table.specs.declared.profile.ScannerProfile.{ScannerProfile}
use Rattle.station_port.specs.declared.fault.StationSocket.TheVariants as socket
use Rattle.station_port.specs.declared.place.StationPlace.{StationPlace}
use Rattle.trace_words.specs.Words.{node_word}
use Rattle.station_setup.specs.Opening.Counts.{are_read}
use Rattle.station_setup.specs.Opening.Places.{no_place, place_of_socket}
use Rattle.station_setup.specs.Opening.Profiles.{refusal_of}
use Rattle.station_setup.specs.Opening.Starts.{counting_of, more_tries, pause_before_life, pause_within}
use Rattle.station_setup.specs.Opening.Unserved.{defect_text}
use Rattle.station_setup.specs.Settings.{inactivity_of, incarnation_in, port_of, reporting_of, scanner_place}
use Rattle.station_setup.specs.declared.opening.profiles.TraceRefusal.TheVariants as refusal
use Rattle.station_setup.specs.declared.opening.starts.Counting.TheVariants.{Said, Counted}
use Rattle.station_setup.specs.Unservable.Defects.{own_node, slots_defect}
use Rattle.station_setup.specs.declared.unservable.defect.StationDefect.TheVariants.{NoPort, OwnTarget, SharedOutput}

abbrev owner : SlotConfig → ℕ → ℕ → SlotConfig
owner slot target point = record slot { target = record { 0 = target }; kind = ExclusiveOwner; consumed = point }

abbrev reader : SlotConfig → ℕ → ℕ → SlotConfig
reader slot target point = record slot { target = record { 0 = target }; kind = InputOnly; consumed = point }

two_outputs_of_one_target : (slot : SlotConfig) → slots_defect (owner slot 7 150 ∷ owner slot 7 151 ∷ owner slot 8 150 ∷ []) (record { 0 = 9 }) ≡ None
two_outputs_of_one_target slot = refl

one_output_twice : (slot : SlotConfig) → slots_defect (owner slot 8 150 ∷ owner slot 7 150 ∷ owner slot 8 151 ∷ owner slot 7 150 ∷ []) (record { 0 = 9 }) ≡ Some (SharedOutput 3 1)
one_output_twice slot = refl

an_owner_and_its_readers : (slot : SlotConfig) → slots_defect (owner slot 7 150 ∷ reader slot 7 150 ∷ reader slot 7 150 ∷ []) (record { 0 = 9 }) ≡ None
an_owner_and_its_readers slot = refl

itself : (slot : SlotConfig) → slots_defect (owner slot 7 150 ∷ owner slot 7 150 ∷ reader slot 9 152 ∷ []) (record { 0 = 9 }) ≡ Some (OwnTarget 2)
itself slot = refl

at_its_option : own_node (Some (record { 0 = 5 })) (record { 0 = 9 }) ≡ record { 0 = 5 }
at_its_option = refl

at_each_address : own_node (Some (record { 0 = 0 })) (record { 0 = 9 }) ≡ record { 0 = 9 }
at_each_address = refl

-- the lives behind the first one
lives_of_16 : (incarnation_in 16 1 ≡ 16) × (incarnation_in 16 2 ≡ 17)
lives_of_16 = (refl, refl)

lives_of_255 : (incarnation_in 255 1 ≡ 255) × ((incarnation_in 255 2 ≡ 1) × (incarnation_in 255 257 ≡ 1))
lives_of_255 = (refl, (refl, refl))

-- --incarnation 16 alone, and beside --state
said_alone : (counting_of (Some 16) false 1 ≡ Said 16) × (counting_of (Some 16) false 3 ≡ Said 18)
said_alone = (refl, refl)

said_with_a_file : (counting_of (Some 16) true 1 ≡ Counted (Some 16)) × (counting_of (Some 16) true 2 ≡ Counted None)
said_with_a_file = (refl, refl)

counted : (has_file : Bool) → (counting_of None has_file 1 ≡ Counted None) × (counting_of None has_file 2 ≡ Counted None)
counted has_file = (refl, refl)

tries : (more_tries 1 ≡ 0) × (more_tries 2 ≡ 50)
tries = (refl, refl)

pauses : (pause_before_life 0 ≡ 1000) × ((pause_before_life 999 ≡ 1) × ((pause_before_life 1000 ≡ 0) × (pause_before_life 60000 ≡ 0)))
pauses = (refl, (refl, (refl, refl)))

pauses_that_end : (pause_within 800 None ≡ 800) × ((pause_within 800 (Some 300) ≡ 300) × (pause_within 800 (Some 900) ≡ 800))
pauses_that_end = (refl, (refl, refl))

-- what the host has counted, read at 4.2 s
readings : (are_read None 0 ≡ true) × ((are_read (Some 4200) 5199 ≡ false) × ((are_read (Some 4200) 5200 ≡ true) × (are_read (Some 0) 0 ≡ false)))
readings = (refl, (refl, (refl, refl)))

-- WHERE A STATION IS

described_port : (d : Description) → (port_of (Some (record d { port = 44819 })) ≡ 44819) × (port_of None ≡ 44818)
described_port d = (refl, refl)

described_inactivity : (d : Description) → (inactivity_of (Some (record d { inactivity = 60 })) ≡ 60) × (inactivity_of None ≡ 0)
described_inactivity d = (refl, refl)

scanner_ports : (o : Options) (p : ScannerProfile) →
    ((scanner_place (record o { tcp = Some 5000 }) p).tcp ≡ 5000) × (((scanner_place (record o { tcp = None }) p).tcp ≡ 44818)
    × (((scanner_place o p).mask ≡ 4294967295) × ((scanner_place o p).inactivity_s ≡ 0)))
scanner_ports o p = (refl, (refl, (refl, refl)))

abbrev here : StationPlace → StationPlace
here place = record place { address = record { 0 = 7 }; tcp = 44818; udp = 2222; inactivity_s = 60 }

sockets : (place : StationPlace) → (place_of_socket (here place) socket.Tcp ≡ record { address = 7; port = 44818 })
    × ((place_of_socket (here place) socket.Identity ≡ record { address = 7; port = 44818 })
    × ((place_of_socket (here place) socket.Udp ≡ record { address = 7; port = 2222 }) × (place_of_socket (here place) socket.Wait ≡ no_place)))
sockets place = (refl, (refl, (refl, refl)))

silence : (o : Options) (place : StationPlace) → reporting_of (record o { quiet = true }) (here place) ≡ record { quiet = true; silent_s = 60 }
silence o place = refl

-- WHAT A STATION REFUSES

events_first : (c : Config) → refusal_of c true None ≡ Some refusal.Events
events_first c = refl

own_target : (p : ScannerProfile) (slot : SlotConfig) →
    refusal_of (config.Scanner (record p { node = record { 0 = 9 }; slots = reader slot 9 152 ∷ [] })) false None ≡ Some (refusal.Unserved (OwnTarget 0))
own_target p slot = refl

port_0 : (c : Config) → defect_text c NoPort (Some 4) None
    ≡ (codes "line " ++ (decimal 4 ++ (codes ": word " ++ (decimal 4 ++ codes ": ")))) ++ codes "a station listens at a TCP port from 1 to 65535, and 0 is none\n"
port_0 c = refl

twice : (p : ScannerProfile) (slot : SlotConfig) →
    defect_text (config.Scanner (record p { slots = owner slot 7 150 ∷ owner slot 7 150 ∷ [] })) (SharedOutput 1 0) (Some 4) (Some 2)
    ≡ (codes "line " ++ (decimal 4 ++ (codes ": word " ++ (decimal 5 ++ codes ": "))))
    ++ ((codes "slot " ++ (decimal 1 ++ (codes " owns the output " ++ (decimal 150 ++ (codes " of " ++ (node_word (record { 0 = 7 }) ++ (codes ", which has one owner: slot " ++ decimal 0)))))))
    ++ ((codes " in line " ++ decimal 2) ++ codes "\n"))
twice p slot = refl

at_itself : (p : ScannerProfile) (slot : SlotConfig) →
    defect_text (config.Scanner (record p { slots = reader slot 9 152 ∷ [] })) (OwnTarget 0) (Some 2) None
    ≡ (codes "line " ++ (decimal 2 ++ (codes ": word " ++ (decimal 2 ++ codes ": "))))
    ++ ((codes "the target of slot " ++ (decimal 0 ++ (codes " is " ++ (node_word (record { 0 = 9 }) ++ codes ", the scanner itself")))) ++ codes "\n")
at_itself p slot = refl
