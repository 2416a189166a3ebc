-- The configuration of a device's life, and the line that says that it begins.
use Rattle.std.specs.Prelude.{ℕ, if◌then◌else◌, Bool, List, ◌++◌, codes, decimal, Some}
use Rattle.cip_tables.specs.Ids.{with_ids}
use Rattle.plant_command.specs.declared.endings.LifeNames.{LifeNames}
use Rattle.cip_tables.specs.declared.table.Config.{Config}
use Rattle.command_lines.specs.declared.station_options.Options.{Options}
use Rattle.station_setup.specs.Opening.Devices.{with_incarnation}
use Rattle.station_setup.specs.Settings.{described}
use Rattle.station_port.specs.declared.place.StationPlace.{StationPlace}
use Rattle.trace_words.specs.Words.{node_word}
use Rattle.plant_command.specs.Setups.{node_of}

-- the configuration of a device, with the incarnation and the connection ids of a life
abbrev pub named_config : Config → LifeNames → Config
named_config config names = with_ids (Some names.ids) (with_incarnation config names.incarnation)

-- an adapter without a description has the name of its device, and its address as its serial number
abbrev pub life_config : Config → Options → List ℕ → LifeNames → Config
life_config config options name names = described (named_config config names) options (node_of (named_config config names)).0 name

abbrev pub kind_word : (scanner : Bool) → List ℕ
kind_word scanner = if scanner then codes "scanner" else codes "adapter"

-- `KIND at ADDRESS, TCP PORT, UDP PORT, `
abbrev pub start_text : Bool → StationPlace → List ℕ
start_text scanner place = kind_word scanner ++ (codes " at " ++ (node_word place.address ++ (codes ", TCP " ++ (decimal place.tcp ++ (codes ", UDP " ++ (decimal place.udp ++ codes ", "))))))

-- `life N, incarnation N`
abbrev pub life_text : (life incarnation : ℕ) → List ℕ
life_text life incarnation = codes "life " ++ (decimal life ++ (codes ", incarnation " ++ (decimal incarnation ++ codes "\n")))
