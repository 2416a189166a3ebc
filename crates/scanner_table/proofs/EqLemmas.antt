-- Tables that pass the derived test for equal values are equal, and equal ones pass it.
use mathlib.Core.HLevel.{is_prop→PathP}
use Rattle.std.proofs.Common.{◌≡◌, ◌<◌, Option, ℕ, nat_eq, ap, rules}
use Rattle.std.proofs.Math.Bridge.{le_prop}
use Rattle.std.specs.Bool.{Decides}
use Rattle.std.specs.Option.{option_eq}
use Rattle.std.specs.Cmp.{booleans_Decides}
use Rattle.std.specs.Cmp.Lexicographic.{pointwise_decides}
use Rattle.std.proofs.lemmas.Bool.Decides.{Decides-eqb, Decides-and, Decides-like}
use Rattle.cip_epath.specs.declared.key.ElectronicKey.{ElectronicKey}
use Rattle.conn_state.specs.declared.names.Link.{Link}
use Rattle.conn_state.specs.declared.names.Requested.{Requested}
use Rattle.scanner_table.specs.declared.profile.SlotConfig.{SlotConfig}
use Rattle.scanner_table.specs.declared.profile.ScannerProfile.{ScannerProfile}
use Rattle.scanner_table.specs.declared.explicit.PendingExplicit.{PendingExplicit}
use Rattle.scanner_table.specs.declared.slot.PendingOpen.{PendingOpen}
use Rattle.scanner_table.specs.declared.slot.SlotConnection.{SlotConnection}
use Rattle.scanner_table.specs.declared.slot.PendingClose.{PendingClose}
use Rattle.scanner_table.specs.declared.slot.SlotState.{SlotState}
use Rattle.scanner_table.specs.declared.slot.Slot.{Slot}
use Rattle.scanner_table.specs.declared.table.Stage.{Stage}
use Rattle.scanner_table.specs.declared.table.TargetStream.{TargetStream}
use Rattle.scanner_table.specs.declared.table.ScannerTable.{ScannerTable}
use Rattle.cip_types.specs.contracts.ids.IdBlockPartialEq.TheImpl as block
use Rattle.cip_types.specs.declared.ids.IdBlock.{IdBlock}
use Rattle.cip_epath.specs.contracts.key.ElectronicKeyPartialEq.TheImpl as key
use Rattle.conn_state.specs.contracts.names.LinkPartialEq.TheImpl as link
use Rattle.conn_state.specs.contracts.names.RequestedPartialEq.TheImpl as desired_up
use Rattle.scanner_table.specs.contracts.profile.SlotConfigPartialEq.TheImpl as config
use Rattle.scanner_table.specs.contracts.profile.ScannerProfilePartialEq.TheImpl as profile
use Rattle.scanner_table.specs.contracts.explicit.PendingExplicitPartialEq.TheImpl as explicit
use Rattle.scanner_table.specs.contracts.slot.PendingOpenPartialEq.TheImpl as opening
use Rattle.scanner_table.specs.contracts.slot.SlotConnectionPartialEq.TheImpl as connection
use Rattle.scanner_table.specs.contracts.slot.PendingClosePartialEq.TheImpl as closing
use Rattle.scanner_table.specs.contracts.slot.SlotStatePartialEq.TheImpl as state
use Rattle.scanner_table.specs.contracts.slot.SlotPartialEq.TheImpl as slot
use Rattle.scanner_table.specs.contracts.table.StagePartialEq.TheImpl as stage
use Rattle.scanner_table.specs.contracts.table.TargetStreamPartialEq.TheImpl as stream
use Rattle.scanner_table.specs.contracts.table.ScannerTablePartialEq.TheImpl as table
use Rattle.cip_productions.specs.Lemmas.EqualLemmas.{trigger_decides, kind_decides, last_decides, production_decides}
use Rattle.cip_events.specs.Lemmas.EqualLemmas.{ms_decides, node_decides}

-- ---- times, addresses, ids

block_decides : (a b : IdBlock) → Decides ((block.ghosts).eq a b) (a ≡ b)
block_decides a b = search rules

ids_decide : (a b : Option IdBlock) → Decides (option_eq (block.ghosts).eq a b) (a ≡ b)
ids_decide a b = search (rules, block_decides)

link_decides : (a b : Link) → Decides ((link.ghosts).eq a b) (a ≡ b)
link_decides a b = search rules

requested_decides : (a b : Requested) → Decides ((desired_up.ghosts).eq a b) (a ≡ b)
requested_decides a b = search rules

-- ---- profiles

-- the two keys have equal fields
abbrev SameKey : ElectronicKey → ElectronicKey → Type 0
SameKey a b = (a.vendor ≡ b.vendor) × ((a.device_type ≡ b.device_type) × ((a.product ≡ b.product) × ((a.compatible ≡ b.compatible) × ((a.major ≡ b.major) × (a.minor ≡ b.minor)))))

-- they are then one key: that a major revision has seven bits has one proof
key_is : (a b : ElectronicKey) → SameKey a b → a ≡ b
key_is a b same = λ i. record {
  vendor = same.0 i;
  device_type = same.1.0 i;
  product = same.1.1.0 i;
  compatible = same.1.1.1.0 i;
  major = same.1.1.1.1.0 i;
  minor = same.1.1.1.1.1 i;
  seven_bits = is_prop→PathP (λ j. same.1.1.1.1.0 j < 128) (λ j. le_prop) a.seven_bits b.seven_bits i;
}

same_key : (a b : ElectronicKey) → a ≡ b → SameKey a b
same_key a b is = (
  ap (λ (k : ElectronicKey). k.vendor) is,
  (
    ap (λ (k : ElectronicKey). k.device_type) is,
    (ap (λ (k : ElectronicKey). k.product) is, (ap (λ (k : ElectronicKey). k.compatible) is, (ap (λ (k : ElectronicKey). k.major) is, ap (λ (k : ElectronicKey). k.minor) is))),
  ),
)

key_decides : (a b : ElectronicKey) → Decides ((key.ghosts).eq a b) (a ≡ b)
key_decides a b =
    Decides-like ((key.ghosts).eq a b) (key_is a b) (same_key a b)
    (Decides-and _ _ (Decides-eqb a.vendor b.vendor)
    (Decides-and _ _ (Decides-eqb a.device_type b.device_type)
    (Decides-and _ _ (Decides-eqb a.product b.product)
    (Decides-and _ _ (booleans_Decides a.compatible b.compatible)
    (Decides-and _ _ (Decides-eqb a.major b.major)
    (Decides-eqb a.minor b.minor))))))

keys_decide : (a b : Option ElectronicKey) → Decides (option_eq (key.ghosts).eq a b) (a ≡ b)
keys_decide a b = search (rules, key_decides)

numbers_decide : (a b : Option ℕ) → Decides (option_eq nat_eq a b) (a ≡ b)
numbers_decide a b = search rules

config_decides : (a b : SlotConfig) → Decides ((config.ghosts).eq a b) (a ≡ b)
config_decides a b =
    Decides-like ((config.ghosts).eq a b) (λ p. search rules) (λ e. search rules)
    (Decides-and _ _ (node_decides a.target b.target)
    (Decides-and _ _ (kind_decides a.kind b.kind)
    (Decides-and _ _ (numbers_decide a.config b.config)
    (Decides-and _ _ (Decides-eqb a.consumed b.consumed)
    (Decides-and _ _ (Decides-eqb a.produced b.produced)
    (Decides-and _ _ (Decides-eqb a.out_len b.out_len)
    (Decides-and _ _ (Decides-eqb a.in_len b.in_len)
    (Decides-and _ _ (Decides-eqb a.o_t_rpi b.o_t_rpi)
    (Decides-and _ _ (Decides-eqb a.t_o_rpi b.t_o_rpi)
    (Decides-and _ _ (Decides-eqb a.mult b.mult)
    (Decides-and _ _ (booleans_Decides a.multicast b.multicast)
    (Decides-and _ _ (keys_decide a.key b.key)
    (Decides-and _ _ (pointwise_decides Decides-eqb a.config_data b.config_data)
    (Decides-and _ _ (trigger_decides a.trigger b.trigger)
    (Decides-eqb a.inhibit b.inhibit)))))))))))))))

profile_decides : (a b : ScannerProfile) → Decides ((profile.ghosts).eq a b) (a ≡ b)
profile_decides a b =
    Decides-like ((profile.ghosts).eq a b) (λ p. search rules) (λ e. search rules)
    (Decides-and _ _ (Decides-eqb a.incarnation b.incarnation)
    (Decides-and _ _ (node_decides a.node b.node)
    (Decides-and _ _ (Decides-eqb a.vendor b.vendor)
    (Decides-and _ _ (Decides-eqb a.serial b.serial)
    (Decides-and _ _ (Decides-eqb a.open_timeout b.open_timeout)
    (Decides-and _ _ (Decides-eqb a.retry b.retry)
    (Decides-and _ _ (numbers_decide a.newer b.newer)
    (Decides-and _ _ (booleans_Decides a.tidy b.tidy)
    (Decides-and _ _ (numbers_decide a.openings b.openings)
    (Decides-and _ _ (numbers_decide a.serials b.serials)
    (Decides-and _ _ (ids_decide a.ids b.ids)
    (pointwise_decides config_decides a.slots b.slots))))))))))))

-- ---- slots

opening_decides : (a b : PendingOpen) → Decides ((opening.ghosts).eq a b) (a ≡ b)
opening_decides a b =
    Decides-like ((opening.ghosts).eq a b) (λ p. search rules) (λ e. search rules)
    (Decides-and _ _ (Decides-eqb a.request b.request) (Decides-and _ _ (requested_decides a.requested b.requested) (ms_decides a.deadline b.deadline)))

connection_decides : (a b : SlotConnection) → Decides ((connection.ghosts).eq a b) (a ≡ b)
connection_decides a b =
    Decides-like ((connection.ghosts).eq a b) (λ p. search rules) (λ e. search rules)
    (Decides-and _ _ (Decides-eqb a.opening b.opening)
    (Decides-and _ _ (link_decides a.link b.link)
    (Decides-and _ _ (Decides-eqb a.o_t_api_ms b.o_t_api_ms)
    (Decides-and _ _ (Decides-eqb a.t_o_api_ms b.t_o_api_ms)
    (Decides-and _ _ (ms_decides a.watchdog b.watchdog)
    (Decides-and _ _ (last_decides a.last b.last)
    (Decides-and _ _ (ms_decides a.deadline b.deadline)
    (production_decides a.production b.production))))))))

closing_decides : (a b : PendingClose) → Decides ((closing.ghosts).eq a b) (a ≡ b)
closing_decides a b =
    Decides-like ((closing.ghosts).eq a b) (λ p. search rules) (λ e. search rules)
    (Decides-and _ _ (Decides-eqb a.request b.request) (Decides-and _ _ (link_decides a.link b.link) (ms_decides a.deadline b.deadline)))

state_decides : (a b : SlotState) → Decides ((state.ghosts).eq a b) (a ≡ b)
state_decides a b = search (rules, opening_decides, connection_decides, link_decides, closing_decides)

slot_decides : (a b : Slot) → Decides ((slot.ghosts).eq a b) (a ≡ b)
slot_decides a b =
    Decides-like ((slot.ghosts).eq a b) (λ p. search rules) (λ e. search rules)
    (Decides-and _ _ (state_decides a.state b.state)
    (Decides-and _ _ (booleans_Decides a.desired_up b.desired_up)
    (Decides-and _ _ (ms_decides a.retry_at b.retry_at)
    (Decides-and _ _ (pointwise_decides Decides-eqb a.output b.output)
    (pointwise_decides Decides-eqb a.image b.image)))))

-- ---- tables

stage_decides : (a b : Stage) → Decides ((stage.ghosts).eq a b) (a ≡ b)
stage_decides a b = search rules

stream_decides : (a b : TargetStream) → Decides ((stream.ghosts).eq a b) (a ≡ b)
stream_decides a b =
    Decides-like ((stream.ghosts).eq a b) (λ p. search rules) (λ e. search rules)
    (Decides-and _ _ (Decides-eqb a.number b.number) (Decides-and _ _ (node_decides a.peer b.peer) (stage_decides a.stage b.stage)))

explicit_decides : (a b : PendingExplicit) → Decides ((explicit.ghosts).eq a b) (a ≡ b)
explicit_decides a b =
    Decides-like ((explicit.ghosts).eq a b) (λ p. search rules) (λ e. search rules)
    (Decides-and _ _ (Decides-eqb a.number b.number)
    (Decides-and _ _ (Decides-eqb a.request b.request)
    (Decides-and _ _ (Decides-eqb a.stream b.stream)
    (Decides-and _ _ (ms_decides a.deadline b.deadline)
    (Decides-eqb a.service b.service)))))

-- two tables that pass the test are equal, and equal tables pass it
pub scanner_decides : (a b : ScannerTable) → Decides ((table.ghosts).eq a b) (a ≡ b)
scanner_decides a b =
    Decides-like ((table.ghosts).eq a b) (λ p. search rules) (λ e. search rules)
    (Decides-and _ _ (profile_decides a.profile b.profile)
    (Decides-and _ _ (pointwise_decides slot_decides a.slots b.slots)
    (Decides-and _ _ (booleans_Decides a.run b.run)
    (Decides-and _ _ (ms_decides a.clock b.clock)
    (Decides-and _ _ (pointwise_decides block_decides a.ids b.ids)
    (Decides-and _ _ (Decides-eqb a.next_id b.next_id)
    (Decides-and _ _ (Decides-eqb a.next_serial b.next_serial)
    (Decides-and _ _ (Decides-eqb a.next_request b.next_request)
    (Decides-and _ _ (pointwise_decides stream_decides a.streams b.streams)
    (pointwise_decides explicit_decides a.explicit b.explicit))))))))))
