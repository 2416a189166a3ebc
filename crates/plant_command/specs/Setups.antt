-- What a device of a plant has of its own.
use Rattle.std.specs.Prelude.{ℕ, ◌==◌, ◌≢◌, ◌&&◌, AllPairs, Bool, List, nat_le, nat_lt, string_bytes, if◌then◌else◌, Option, Some, None}
use Rattle.cip_tables.specs.declared.table.Config.{Config}
use Rattle.cip_tables.specs.declared.table.Config.TheVariants.{Adapter, Scanner}
use Rattle.cip_types.specs.declared.names.Node.{Node}
use Rattle.command_lines.specs.declared.station_options.Options.{Options}
use Rattle.plant_rim.specs.declared.incarnations.IncarnationSpan.{IncarnationSpan}
use Rattle.cip_types.specs.declared.ids.IdBlock.{IdBlock}
use Rattle.cip_types.specs.Ids.{part_of_ids}
use Rattle.plant_rim.specs.Incarnations.{span_of}
use Rattle.plant_rim.specs.declared.file.plant.FaultOptions.{FaultOptions}
use Rattle.trace_words.specs.Words.{node_word}
use Rattle.plant_command.specs.declared.setups.MemberSetup.{MemberSetup}

-- the number of the device's lines, or that of the plant
abbrev pub own_or : Option ℕ → ℕ → ℕ
own_or (Some own) all = own
own_or None all = all

-- the options of a device at an address: those of its plant, with the faults that its own lines say
abbrev pub options_of : Options → FaultOptions → Node → Options
options_of all faults address = record all {
  address = Some address;
  lose = own_or faults.lose all.lose;
  repeat = own_or faults.repeat all.repeat;
  reorder = own_or faults.reorder all.reorder;
  delay_ms = own_or faults.delay_ms all.delay_ms;
  seed = own_or faults.seed all.seed;
}

-- the address of a profile
abbrev pub node_of : Config → Node
node_of (Adapter profile) = profile.node
node_of (Scanner profile) = profile.node

-- a profile at this address
abbrev pub with_node : Config → Node → Config
with_node (Adapter profile) node = Adapter (record profile { node = node })
with_node (Scanner profile) node = Scanner (record profile { node = node })

-- the incarnations of a device of at most 127
abbrev pub span_at : ℕ → ℕ → IncarnationSpan
span_at device devices = if nat_lt device devices && nat_le devices 127 then span_of device devices else record { first = 1; last = 255 }

-- the connection ids of the device of this number of so many; one of more than 127 has none
abbrev pub ids_at : ℕ → ℕ → IdBlock
ids_at device devices = if nat_lt device devices && nat_le devices 127 then part_of_ids device devices else record { first = 1; count = 0 }

-- a device has this address
abbrev pub is_at : Node → MemberSetup → Bool
is_at address set_up = set_up.member.address.0 == address.0

-- the number of the word that says the address of a device, of `device NAME PROFILE [ADDRESS]`
abbrev pub address_word : Option Node → ℕ
address_word (Some address) = 4
address_word None = 3

-- no two of these devices have one address
abbrev pub AreApart : List MemberSetup → Type 0
AreApart setups = AllPairs (λ one other. one.member.address.0 ≢ other.member.address.0) setups

-- the address of a device as a word, and its name
abbrev pub device_entry : MemberSetup → List ℕ × List ℕ
device_entry set_up = (node_word set_up.member.address, string_bytes set_up.member.name)
