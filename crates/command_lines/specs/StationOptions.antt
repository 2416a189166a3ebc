-- The options of a station, word by word.
use Rattle.std.specs.Prelude.{ℕ, ◌==◌, ◌&&◌, ◌||◌, not, nat_le, Bool, nat_lt, if◌then◌else◌, true, false, List, [], ◌∷◌, codes, length, option_and_then, option_map, Option, Some, None, Result, Ok, Err}
use Rattle.std.specs.List.{list_all}
use Rattle.cip_types.specs.declared.names.Node.{Node}
use Rattle.trace_words.specs.Words.{number_of, node_of}
use Rattle.trace_words.specs.Reader.{Meanings, meaning}
use Rattle.command_lines.specs.declared.station_options.Options.{Options}
use Rattle.command_lines.specs.declared.station_options.Setting.{Setting}
use Rattle.command_lines.specs.declared.station_options.Setting.TheVariants as setting
use Rattle.command_lines.specs.declared.station_options.Flag.{Flag}
use Rattle.command_lines.specs.declared.station_options.Flag.TheVariants as flag
use Rattle.command_lines.specs.declared.station_options.OptionName.{OptionName}
use Rattle.command_lines.specs.declared.station_options.OptionName.TheVariants as name
use Rattle.command_lines.specs.declared.station_options.StationMisuse.{StationMisuse}
use Rattle.command_lines.specs.declared.station_options.StationMisuse.TheVariants as misuse

-- VALUES

-- a number from 1 to this one
abbrev pub number_within : ℕ → List ℕ → Option ℕ
number_within most word = option_and_then (λ number. if (number == 0) || nat_lt most number then None else Some number) (number_of 64 word)

-- a port
abbrev pub port_of : List ℕ → Option ℕ
port_of word = number_within 65535 word

-- a time in seconds
abbrev pub seconds_of : List ℕ → Option ℕ
seconds_of word = number_within 1000000000 word

-- an incarnation
abbrev pub incarnation_of : List ℕ → Option ℕ
incarnation_of word = number_within 255 word

-- a serial number
abbrev pub serial_of : List ℕ → Option ℕ
serial_of word = number_within 4294967295 word

-- a number up to this one
abbrev pub number_up_to : ℕ → List ℕ → Option ℕ
number_up_to most word = option_and_then (λ number. if nat_lt most number then None else Some number) (number_of 64 word)

-- how long a stream may be silent, in seconds; 0: without end
abbrev pub inactivity_of : List ℕ → Option ℕ
inactivity_of word = number_up_to 3600 word

-- a percentage
abbrev pub percent_of : List ℕ → Option ℕ
percent_of word = number_up_to 100 word

-- how long a datagram waits at most, in milliseconds
abbrev pub delay_of : List ℕ → Option ℕ
delay_of word = number_up_to 60000 word

-- a seed
abbrev pub seed_of : List ℕ → Option ℕ
seed_of word = number_of 64 word

-- the most bytes of a record
abbrev pub record_bytes_of : List ℕ → Option ℕ
record_bytes_of word = option_and_then (λ number. if number == 0 then None else Some number) (number_of 64 word)

-- OPTIONS

-- the options by their names
abbrev pub option_meanings : Meanings (Option OptionName)
option_meanings =
    (codes "--address", Some (name.Valued setting.Address))
    ∷ (codes "--tcp", Some (name.Valued setting.Tcp))
    ∷ (codes "--udp", Some (name.Valued setting.Udp))
    ∷ (codes "--peer-udp", Some (name.Valued setting.PeerUdp))
    ∷ (codes "--seconds", Some (name.Valued setting.Seconds))
    ∷ (codes "--record", Some (name.Valued setting.Record))
    ∷ (codes "--record-bytes", Some (name.Valued setting.RecordBytes))
    ∷ (codes "--state", Some (name.Valued setting.State))
    ∷ (codes "--script", Some (name.Valued setting.Script))
    ∷ (codes "--report", Some (name.Valued setting.Report))
    ∷ (codes "--incarnation", Some (name.Valued setting.Incarnation))
    ∷ (codes "--inactivity", Some (name.Valued setting.Inactivity))
    ∷ (codes "--serial", Some (name.Valued setting.Serial))
    ∷ (codes "--name", Some (name.Valued setting.Name))
    ∷ (codes "--multicast", Some (name.Alone flag.Multicast))
    ∷ (codes "--unicast-copies", Some (name.Alone flag.UnicastCopies))
    ∷ (codes "--item-ports", Some (name.Alone flag.ItemPorts))
    ∷ (codes "--port-2222", Some (name.Alone flag.Port2222))
    ∷ (codes "--no-input", Some (name.Alone flag.NoInput))
    ∷ (codes "--quiet", Some (name.Alone flag.Quiet))
    ∷ (codes "--page", Some (name.Valued setting.Page))
    ∷ (codes "--page-address", Some (name.Valued setting.PageAddress))
    ∷ (codes "--page-host", Some (name.Valued setting.PageHost))
    ∷ (codes "--lose", Some (name.Valued setting.Lose))
    ∷ (codes "--repeat", Some (name.Valued setting.Repeat))
    ∷ (codes "--reorder", Some (name.Valued setting.Reorder))
    ∷ (codes "--delay", Some (name.Valued setting.Delay))
    ∷ (codes "--seed", Some (name.Valued setting.Seed))
    ∷ (codes "--page-writes", Some (name.Alone flag.PageWrites))
    ∷ []

unfoldable pub option_of : List ℕ → Option OptionName
option_of word = meaning option_meanings None word

-- the usual values
abbrev pub usual : Options
usual = record { address = None; tcp = None; udp = 2222; peer_udp = 2222; seconds = None; record_from_end = None; record_bytes = 1073741824; state_from_end = None; script_from_end = None; report_from_end = None; incarnation = None; inactivity_s = None; serial = None; name_from_end = None; multicast = None; item_ports = true; no_input = false; quiet = false; page = None; page_address = None; page_writes = false; page_host_from_end = None; lose = 0; repeat = 0; reorder = 0; delay_ms = 0; seed = 0 }

-- one that has no value
abbrev pub with_flag : Options → Flag → Options
with_flag options flag.Multicast = record options { multicast = Some true }
with_flag options flag.UnicastCopies = record options { multicast = Some false }
with_flag options flag.ItemPorts = record options { item_ports = true }
with_flag options flag.Port2222 = record options { item_ports = false }
with_flag options flag.NoInput = record options { no_input = true }
with_flag options flag.Quiet = record options { quiet = true }
with_flag options flag.PageWrites = record options { page_writes = true }

-- an address for one of the options that are addresses
abbrev pub with_address : Options → Setting → Node → Options
with_address options setting.Address address = record options { address = Some address }
with_address options setting.PageAddress address = record options { page_address = Some address }
with_address options other address = options

abbrev pub with_address_word : Options → Setting → ℕ → Option Node → Result Options StationMisuse
with_address_word options given left None = Err (misuse.BadAddress left)
with_address_word options given left (Some address) = Ok (with_address options given address)

-- a number for one of the options that are numbers and no ports
abbrev pub with_number : Options → Setting → List ℕ → Option Options
with_number options setting.Seconds word = option_map (λ seconds. record options { seconds = Some seconds }) (seconds_of word)
with_number options setting.RecordBytes word = option_map (λ most. record options { record_bytes = most }) (record_bytes_of word)
with_number options setting.Incarnation word = option_map (λ incarnation. record options { incarnation = Some incarnation }) (incarnation_of word)
with_number options setting.Inactivity word = option_map (λ seconds. record options { inactivity_s = Some seconds }) (inactivity_of word)
with_number options setting.Serial word = option_map (λ serial. record options { serial = Some serial }) (serial_of word)
with_number options setting.Delay word = option_map (λ ms. record options { delay_ms = ms }) (delay_of word)
with_number options setting.Seed word = option_map (λ seed. record options { seed = seed }) (seed_of word)
with_number options other word = None

abbrev pub with_number_word : ℕ → Option Options → Result Options StationMisuse
with_number_word left None = Err (misuse.BadValue left)
with_number_word left (Some options) = Ok options

-- a file for one of the options that are files, from which on so many words are left
abbrev pub with_file : Options → Setting → ℕ → Options
with_file options setting.Record left = record options { record_from_end = Some left }
with_file options setting.State left = record options { state_from_end = Some left }
with_file options setting.Script left = record options { script_from_end = Some left }
with_file options setting.Report left = record options { report_from_end = Some left }
with_file options other left = options

-- a name of 1 to 32 bytes
abbrev pub with_name : Options → List ℕ → ℕ → Result Options StationMisuse
with_name options word left = if (length word == 0) || nat_lt 32 (length word) then Err (misuse.BadValue left) else Ok (record options { name_from_end = Some left })

-- a letter, a digit, a hyphen or a dot
abbrev pub is_host_byte : ℕ → Bool
is_host_byte byte =
    (nat_le 48 byte && nat_le byte 57)
    || ((nat_le 65 byte && nat_le byte 90)
    || ((nat_le 97 byte && nat_le byte 122)
    || ((byte == 45) || (byte == 46))))

-- the name of a host: 1 to 253 of them (RFC 1123, section 2.1)
abbrev pub with_host : Options → List ℕ → ℕ → Result Options StationMisuse
with_host options word left =
    if (length word == 0) || (nat_lt 253 (length word) || not (list_all is_host_byte word))
    then Err (misuse.BadValue left)
    else Ok (record options { page_host_from_end = Some left })

-- a percentage for one of the options that are percentages
abbrev pub with_percent : Options → Setting → ℕ → Options
with_percent options setting.Lose percent = record options { lose = percent }
with_percent options setting.Repeat percent = record options { repeat = percent }
with_percent options setting.Reorder percent = record options { reorder = percent }
with_percent options other percent = options

abbrev pub with_percent_word : Options → Setting → ℕ → Option ℕ → Result Options StationMisuse
with_percent_word options given left None = Err (misuse.BadValue left)
with_percent_word options given left (Some percent) = Ok (with_percent options given percent)

-- a port for one of the options that are ports
abbrev pub with_port : Options → Setting → ℕ → Options
with_port options setting.Tcp port = record options { tcp = Some port }
with_port options setting.Udp port = record options { udp = port }
with_port options setting.PeerUdp port = record options { peer_udp = port }
with_port options setting.Page port = record options { page = Some port }
with_port options other port = options

abbrev pub with_port_word : Options → Setting → ℕ → Option ℕ → Result Options StationMisuse
with_port_word options given left None = Err (misuse.BadValue left)
with_port_word options given left (Some port) = Ok (with_port options given port)

-- the options with the value of one of them; so many words are left, from the value on
abbrev pub with_value : Options → Setting → List ℕ → ℕ → Result Options StationMisuse
with_value options setting.Address word left = with_address_word options setting.Address left (node_of word)
with_value options setting.PageAddress word left = with_address_word options setting.PageAddress left (node_of word)
with_value options setting.Record word left = Ok (with_file options setting.Record left)
with_value options setting.State word left = Ok (with_file options setting.State left)
with_value options setting.Script word left = Ok (with_file options setting.Script left)
with_value options setting.Report word left = Ok (with_file options setting.Report left)
with_value options setting.Name word left = with_name options word left
with_value options setting.PageHost word left = with_host options word left
with_value options setting.Seconds word left = with_number_word left (with_number options setting.Seconds word)
with_value options setting.RecordBytes word left = with_number_word left (with_number options setting.RecordBytes word)
with_value options setting.Incarnation word left = with_number_word left (with_number options setting.Incarnation word)
with_value options setting.Inactivity word left = with_number_word left (with_number options setting.Inactivity word)
with_value options setting.Serial word left = with_number_word left (with_number options setting.Serial word)
with_value options setting.Delay word left = with_number_word left (with_number options setting.Delay word)
with_value options setting.Seed word left = with_number_word left (with_number options setting.Seed word)
with_value options setting.Lose word left = with_percent_word options setting.Lose left (percent_of word)
with_value options setting.Repeat word left = with_percent_word options setting.Repeat left (percent_of word)
with_value options setting.Reorder word left = with_percent_word options setting.Reorder left (percent_of word)
with_value options setting.Tcp word left = with_port_word options setting.Tcp left (port_of word)
with_value options setting.Udp word left = with_port_word options setting.Udp left (port_of word)
with_value options setting.PeerUdp word left = with_port_word options setting.PeerUdp left (port_of word)
with_value options setting.Page word left = with_port_word options setting.Page left (port_of word)

-- one of three: the word names no option, one without a value, or one with a value
abbrev pub chosen : {A : Type 0} → A → (Flag → A) → (Setting → A) → Option OptionName → A
chosen unknown lone valued None = unknown
chosen unknown lone valued (Some (name.Alone given)) = lone given
chosen unknown lone valued (Some (name.Valued named)) = valued named

-- an option behind another
abbrev pub and_then : {A B : Type 0} → (A → Result B StationMisuse) → Result A StationMisuse → Result B StationMisuse
and_then next (Ok value) = next value
and_then next (Err fault) = Err fault

-- the options with those of the words
abbrev pub options_after : Options → List (List ℕ) → Result Options StationMisuse
options_after options [] = Ok options
options_after options (first ∷ []) = chosen (Err (misuse.NoSuchOption 1)) (λ given. Ok (with_flag options given)) (λ _. Err (misuse.NoValue 1)) (option_of first)
options_after options (first ∷ value ∷ rest) =
    chosen (Err (misuse.NoSuchOption (length (first ∷ value ∷ rest))))
    (λ given. options_after (with_flag options given) (value ∷ rest))
    (λ named. and_then (λ next. options_after next rest) (with_value options named value (length (value ∷ rest))))
    (option_of first)
