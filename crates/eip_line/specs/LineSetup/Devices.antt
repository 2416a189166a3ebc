-- The devices of a line: an adapter, and scanners of it.
use Rattle.std.specs.Prelude.{ℕ, zero, suc, ◌+◌, ◌%◌, ◌==◌, if◌then◌else◌, true, List, [], ◌∷◌, ◌++◌, None}
use Rattle.cip_types.specs.declared.names.Node.{Node}
use Rattle.cip_productions.specs.declared.kind.Kind.TheVariants.{InputOnly}
use Rattle.scanner_table.specs.declared.profile.ScannerProfile.{ScannerProfile}
use Rattle.scanner_table.specs.declared.profile.SlotConfig.{SlotConfig}
use Rattle.cip_tables.specs.declared.table.Config.{Config}
use Rattle.cip_tables.specs.declared.table.Config.TheVariants as config
use Rattle.example_profiles.specs.Profiles.{adapter_profile, scanner_profile, slot_config}

-- THE ADAPTER

-- its address: 192.168.1.10
abbrev pub adapter_node : Node
adapter_node = record { 0 = 0xC0A8010A }

-- Its incarnation byte is 0x10, its mask 255.255.255.0. Output 150 and input 100 have four bytes each.
abbrev pub line_adapter : Config
line_adapter = config.Adapter (adapter_profile 0x10 adapter_node 0xFFFFFF00)

-- THE SCANNERS, from number 0 on

-- the incarnation byte: 0x20 and the next ones
abbrev pub scanner_byte : ℕ → ℕ
scanner_byte number = (0x20 + number) % 256

-- the address: 192.168.1.20 and the next ones
abbrev pub node_of_scanner : ℕ → Node
node_of_scanner number = record { 0 = 0xC0A80114 + number }

-- A scanner whose slot owns output 150 of the adapter and consumes its input 100, each every 10 ms, point to point.
abbrev pub owner : ℕ → ScannerProfile
owner number = scanner_profile (scanner_byte number) (node_of_scanner number) adapter_node

-- a slot that consumes input 100 of the adapter alone, which is sent to all such slots at once
abbrev pub input_slot : SlotConfig
input_slot = record (slot_config adapter_node) { kind = InputOnly; config = None; consumed = 152; out_len = 0; multicast = true }

-- a scanner with such a slot and a serial number of its own
abbrev pub consumer : ℕ → ScannerProfile
consumer number = record (owner number) { serial = 0x12345678 + number; slots = input_slot ∷ [] }

-- scanner 0 owns the output, and the others consume the input alone
abbrev pub scanner_of : ℕ → ScannerProfile
scanner_of number = if number == 0 then owner number else consumer number

abbrev pub line_scanner : ℕ → Config
line_scanner number = config.Scanner (scanner_of number)

-- THE LINE

-- so many scanners
abbrev pub line_scanners : ℕ → List Config
line_scanners zero = []
line_scanners (suc n) = line_scanners n ++ line_scanner n ∷ []

-- the adapter, and so many scanners behind it
abbrev pub line_configs : ℕ → List Config
line_configs scanners = line_adapter ∷ line_scanners scanners
