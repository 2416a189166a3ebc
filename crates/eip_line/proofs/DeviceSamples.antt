-- What the definitions give at worked values.
use Rattle.std.proofs.Common.{◌≡◌, ℕ, [], ◌∷◌, map, refl}
use Rattle.cip_productions.specs.declared.kind.Kind.{Kind}
use Rattle.cip_productions.specs.declared.kind.Kind.TheVariants.{ExclusiveOwner, InputOnly}
use Rattle.scanner_table.specs.declared.profile.SlotConfig.{SlotConfig}
use Rattle.cip_tables.specs.Step.{incarnation_of, node_of, opening_table}
use Rattle.cip_tables.specs.declared.table.Config.{Config}
use Rattle.cip_types.specs.declared.names.Node.{Node}
use Rattle.eip_line.specs.LineSetup.Devices.{line_configs, scanner_of}

abbrev byte_in : Config → ℕ
byte_in config = incarnation_of (opening_table config)

abbrev address_in : Config → Node
address_in config = node_of (opening_table config)

abbrev at : ℕ → Node
at address = record { 0 = address }

-- two scanners behind an adapter
bytes : map byte_in (line_configs 2) ≡ 0x10 ∷ 0x20 ∷ 0x21 ∷ []
bytes = refl

addresses : map address_in (line_configs 2) ≡ at 0xC0A8010A ∷ at 0xC0A80114 ∷ at 0xC0A80115 ∷ []
addresses = refl

-- the last of eight scanners: 192.168.1.27
eighth : (scanner_of 7).incarnation ≡ 0x27
eighth = refl

eighth_address : (scanner_of 7).node ≡ at 0xC0A8011B
eighth_address = refl

abbrev kind_of : SlotConfig → Kind
kind_of slot = slot.kind

one_owner : map kind_of (scanner_of 0).slots ≡ ExclusiveOwner ∷ []
one_owner = refl

consumers : map kind_of (scanner_of 1).slots ≡ InputOnly ∷ []
consumers = refl

-- serial numbers differ
serial : (scanner_of 7).serial ≡ 0x1234567F
serial = refl
