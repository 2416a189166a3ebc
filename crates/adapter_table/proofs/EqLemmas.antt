-- Tables that pass the derived test for equal values are equal, and equal ones pass it.
use Rattle.std.proofs.Common.{◌≡◌, ℕ, ◌==◌, Option, rules}
use mir.Syntax.{Dict}
use denote.RattleType.{RattleType}
use Rattle.std.specs.declared.cmp.PartialEq.{Ghosts}
use Rattle.std.specs.Bool.{Decides}
use Rattle.std.specs.Option.{option_eq}
use Rattle.std.specs.Cmp.{booleans_Decides}
use Rattle.std.specs.Cmp.Lexicographic.{pointwise_decides}
use Rattle.std.proofs.lemmas.Bool.Decides.{Decides-eqb, Decides-and, Decides-like}
use Rattle.cip_types.specs.declared.names.Identity.{Identity}
use Rattle.adapter_table.specs.declared.row.State.{State}
use Rattle.adapter_table.specs.declared.row.Connection.{Connection}
use Rattle.adapter_table.specs.declared.row.Mode.{Mode}
use Rattle.adapter_table.specs.declared.maker_limits.Places.{Places}
use Rattle.adapter_table.specs.declared.maker_limits.MakerLimits.{MakerLimits}
use Rattle.adapter_table.specs.declared.maker_limits.NodeLimits.{NodeLimits}
use Rattle.adapter_table.specs.declared.profile.OutputPoint.{OutputPoint}
use Rattle.adapter_table.specs.declared.profile.InputPoint.{InputPoint}
use Rattle.adapter_table.specs.declared.profile.Description.{Description}
use Rattle.adapter_table.specs.declared.profile.Profile.{Profile}
use Rattle.adapter_table.specs.declared.opening_rates.rates.NodeOpenings.{NodeOpenings}
use Rattle.adapter_table.specs.declared.table.PointValue.{PointValue}
use Rattle.adapter_table.specs.declared.table.Stream.{Stream}
use Rattle.adapter_table.specs.declared.table.AdapterTable.{AdapterTable}
use Rattle.messaging.specs.declared.class3.Class3Connection.{Class3Connection}
use Rattle.messaging.specs.declared.requests.Requester.{Requester}
use Rattle.messaging.specs.declared.requests.Waiting.{Waiting}
use Rattle.messaging.specs.declared.table.Messaging.{Messaging}
use Rattle.messaging.specs.contracts.class3.Class3ConnectionPartialEq.TheImpl as class3
use Rattle.messaging.specs.contracts.requests.RequesterPartialEq.TheImpl as asker
use Rattle.messaging.specs.contracts.requests.WaitingPartialEq.TheImpl as waiting
use Rattle.messaging.specs.contracts.table.MessagingPartialEq.TheImpl as messaging
use Rattle.cip_types.specs.contracts.names.IdentityPartialEq.TheImpl as identity
use Rattle.cip_types.specs.contracts.ids.IdBlockPartialEq.TheImpl as block
use Rattle.cip_types.specs.declared.ids.IdBlock.{IdBlock}
use Rattle.adapter_table.specs.contracts.maker_limits.PlacesPartialEq.TheImpl as places
use Rattle.adapter_table.specs.contracts.maker_limits.NodeLimitsPartialEq.TheImpl as node_limits
use Rattle.adapter_table.specs.contracts.maker_limits.MakerLimitsPartialEq.TheImpl as limits
use Rattle.adapter_table.specs.contracts.profile.OutputPointPartialEq.TheImpl as output
use Rattle.adapter_table.specs.contracts.profile.InputPointPartialEq.TheImpl as input
use Rattle.adapter_table.specs.contracts.profile.DescriptionPartialEq.TheImpl as description
use Rattle.adapter_table.specs.contracts.profile.ProfilePartialEq.TheImpl as profile
use Rattle.adapter_table.specs.contracts.counters.DeviceCountersPartialEq.TheImpl as counters
use Rattle.adapter_table.specs.contracts.counters.ManagerCountersPartialEq.TheImpl as manager
use Rattle.adapter_table.specs.contracts.opening_rates.rates.NodeOpeningsPartialEq.TheImpl as openings
use Rattle.adapter_table.specs.declared.counters.DeviceCounters.{DeviceCounters}
use Rattle.adapter_table.specs.declared.counters.ManagerCounters.{ManagerCounters}
use Rattle.adapter_table.specs.contracts.row.State.{the_row as state_row}
use Rattle.adapter_table.specs.contracts.row.StatePartialEq.TheImpl as state
use Rattle.adapter_table.specs.contracts.row.ModePartialEq.TheImpl as mode
use Rattle.adapter_table.specs.contracts.row.ConnectionPartialEq.TheImpl as connection
use Rattle.adapter_table.specs.contracts.table.PointValuePartialEq.TheImpl as value
use Rattle.adapter_table.specs.contracts.table.StreamPartialEq.TheImpl as stream
use Rattle.adapter_table.specs.contracts.table.AdapterTablePartialEq.TheImpl as adapter
use Rattle.cip_productions.specs.Lemmas.EqualLemmas.{kind_decides, last_decides, production_decides}
use Rattle.cip_events.specs.Lemmas.EqualLemmas.{ms_decides, node_decides, id_decides, triad_decides}

-- ---- times, addresses, ids

block_decides : (a b : IdBlock) → Decides ((block.ghosts).eq a b) (a ≡ b)
block_decides a b = search rules

ids_decide : (a b : Option IdBlock) → Decides (option_eq (block.ghosts).eq a b) (a ≡ b)
ids_decide a b = search (rules, block_decides)

identity_decides : (a b : Identity) → Decides ((identity.ghosts).eq a b) (a ≡ b)
identity_decides a b = search rules

-- ---- points

output_decides : (a b : OutputPoint) → Decides ((output.ghosts).eq a b) (a ≡ b)
output_decides a b = search rules

input_decides : (a b : InputPoint) → Decides ((input.ghosts).eq a b) (a ≡ b)
input_decides a b = search rules

config_decides : (a b : Option InputPoint) → Decides (option_eq (input.ghosts).eq a b) (a ≡ b)
config_decides a b = search rules

-- ---- connections

mode_decides : (a b : Option Mode) → Decides (option_eq (mode.ghosts).eq a b) (a ≡ b)
mode_decides a b = search rules

state_decides : (a b : State) → Decides ((state.ghosts).eq a b) (a ≡ b)
state_decides a b = search (rules, production_decides)

-- connections of any states, if the test of states decides
connection_decides : (P : RattleType) (states : Ghosts P.Denot) (d : Dict) → ((x y : P.Denot) → Decides (states.eq x y) (x ≡ y)) → (a b : Connection P.Denot) → Decides ((connection.ghosts P states d).eq a b) (a ≡ b)
connection_decides P states d decides a b =
    Decides-like ((connection.ghosts P states d).eq a b) (λ p. search rules) (λ e. search rules)
    (Decides-and _ _ (triad_decides a.triad b.triad)
    (Decides-and _ _ (node_decides a.peer b.peer)
    (Decides-and _ _ (kind_decides a.kind b.kind)
    (Decides-and _ _ (Decides-eqb a.consumed b.consumed)
    (Decides-and _ _ (Decides-eqb a.produced b.produced)
    (Decides-and _ _ (id_decides a.o_t_id b.o_t_id)
    (Decides-and _ _ (id_decides a.t_o_id b.t_o_id)
    (Decides-and _ _ (Decides-eqb a.o_t_api_ms b.o_t_api_ms)
    (Decides-and _ _ (Decides-eqb a.t_o_api_ms b.t_o_api_ms)
    (Decides-and _ _ (Decides-eqb a.o_t_pace_ms b.o_t_pace_ms)
    (Decides-and _ _ (ms_decides a.watchdog b.watchdog)
    (Decides-and _ _ (booleans_Decides a.multicast b.multicast)
    (Decides-and _ _ (Decides-eqb a.opening b.opening)
    (Decides-and _ _ (last_decides a.last b.last)
    (Decides-and _ _ (mode_decides a.mode b.mode)
    (Decides-and _ _ (ms_decides a.deadline b.deadline)
    (decides a.state b.state)))))))))))))))))

-- ---- tables

value_decides : (a b : PointValue) → Decides ((value.ghosts).eq a b) (a ≡ b)
value_decides a b = search rules

description_decides : (a b : Description) → Decides ((description.ghosts).eq a b) (a ≡ b)
description_decides a b =
    Decides-like ((description.ghosts).eq a b) (λ p. search rules) (λ e. search rules)
    (Decides-and _ _ (Decides-eqb a.serial b.serial)
    (Decides-and _ _ (pointwise_decides Decides-eqb a.name b.name)
    (Decides-and _ _ (Decides-eqb a.port b.port)
    (Decides-and _ _ (Decides-eqb a.speed b.speed)
    (Decides-and _ _ (Decides-eqb a.flags b.flags)
    (Decides-and _ _ (pointwise_decides Decides-eqb a.mac b.mac)
    (Decides-eqb a.inactivity b.inactivity)))))))

described_decides : (a b : Option Description) → Decides (option_eq (description.ghosts).eq a b) (a ≡ b)
described_decides a b = search (rules, description_decides)

numbers_decide : (a b : Option ℕ) → Decides (option_eq ◌==◌ a b) (a ≡ b)
numbers_decide a b = search (rules, Decides-eqb)

one_places_decide : (a b : Places) → Decides ((places.ghosts).eq a b) (a ≡ b)
one_places_decide a b =
    Decides-like ((places.ghosts).eq a b) (λ p. search rules) (λ e. search rules)
    (Decides-and _ _ (Decides-eqb a.owners b.owners)
    (Decides-and _ _ (Decides-eqb a.readers b.readers)
    (Decides-and _ _ (Decides-eqb a.listeners b.listeners)
    (numbers_decide a.class3_connections b.class3_connections))))

places_decide : (a b : Option Places) → Decides (option_eq (places.ghosts).eq a b) (a ≡ b)
places_decide a b = search (rules, one_places_decide)

node_limits_decide : (a b : NodeLimits) → Decides ((node_limits.ghosts).eq a b) (a ≡ b)
node_limits_decide a b =
    Decides-like ((node_limits.ghosts).eq a b) (λ p. search rules) (λ e. search rules)
    (Decides-and _ _ (Decides-eqb a.connections b.connections)
    (numbers_decide a.openings b.openings))

nodes_decide : (a b : Option NodeLimits) → Decides (option_eq (node_limits.ghosts).eq a b) (a ≡ b)
nodes_decide a b = search (rules, node_limits_decide)

limits_decide : (a b : MakerLimits) → Decides ((limits.ghosts).eq a b) (a ≡ b)
limits_decide a b =
    Decides-like ((limits.ghosts).eq a b) (λ p. search rules) (λ e. search rules)
    (Decides-and _ _ (numbers_decide a.least_rpi b.least_rpi)
    (Decides-and _ _ (places_decide a.places b.places)
    (Decides-and _ _ (nodes_decide a.node_connections b.node_connections)
    (Decides-and _ _ (booleans_Decides a.own_closers b.own_closers)
    (numbers_decide a.newer b.newer)))))

profile_decides : (a b : Profile) → Decides ((profile.ghosts).eq a b) (a ≡ b)
profile_decides a b =
    Decides-like ((profile.ghosts).eq a b) (λ p. search rules) (λ e. search rules)
    (Decides-and _ _ (Decides-eqb a.incarnation b.incarnation)
    (Decides-and _ _ (node_decides a.node b.node)
    (Decides-and _ _ (Decides-eqb a.mask b.mask)
    (Decides-and _ _ (identity_decides a.identity b.identity)
    (Decides-and _ _ (pointwise_decides output_decides a.outputs b.outputs)
    (Decides-and _ _ (pointwise_decides input_decides a.inputs b.inputs)
    (Decides-and _ _ (config_decides a.config b.config)
    (Decides-and _ _ (Decides-eqb a.input_only b.input_only)
    (Decides-and _ _ (Decides-eqb a.listen_only b.listen_only)
    (Decides-and _ _ (described_decides a.description b.description)
    (Decides-and _ _ (limits_decide a.limits b.limits)
    (Decides-and _ _ (pointwise_decides Decides-eqb a.objects b.objects)
    (ids_decide a.ids b.ids)))))))))))))

stream_decides : (a b : Stream) → Decides ((stream.ghosts).eq a b) (a ≡ b)
stream_decides a b = search rules

-- ---- class 3 connections, and requests that wait

last_count_decides : (a b : Option ℕ) → Decides (option_eq ◌==◌ a b) (a ≡ b)
last_count_decides a b = search (rules, Decides-eqb)

class3_decides : (a b : Class3Connection) → Decides ((class3.ghosts).eq a b) (a ≡ b)
class3_decides a b =
    Decides-like ((class3.ghosts).eq a b) (λ p. search rules) (λ e. search rules)
    (Decides-and _ _ (triad_decides a.triad b.triad)
    (Decides-and _ _ (node_decides a.peer b.peer)
    (Decides-and _ _ (Decides-eqb a.stream b.stream)
    (Decides-and _ _ (id_decides a.o_t_id b.o_t_id)
    (Decides-and _ _ (id_decides a.t_o_id b.t_o_id)
    (Decides-and _ _ (Decides-eqb a.o_t_api_ms b.o_t_api_ms)
    (Decides-and _ _ (Decides-eqb a.t_o_api_ms b.t_o_api_ms)
    (Decides-and _ _ (Decides-eqb a.o_t_size b.o_t_size)
    (Decides-and _ _ (Decides-eqb a.t_o_size b.t_o_size)
    (Decides-and _ _ (ms_decides a.watchdog b.watchdog)
    (Decides-and _ _ (Decides-eqb a.opening b.opening)
    (Decides-and _ _ (last_count_decides a.last b.last)
    (Decides-and _ _ (pointwise_decides Decides-eqb a.reply b.reply)
    (ms_decides a.deadline b.deadline))))))))))))))

asker_decides : (a b : Requester) → Decides ((asker.ghosts).eq a b) (a ≡ b)
asker_decides a b = search (rules, node_decides, id_decides)

waiting_decides : (a b : Waiting) → Decides ((waiting.ghosts).eq a b) (a ≡ b)
waiting_decides a b =
    Decides-like ((waiting.ghosts).eq a b) (λ p. search rules) (λ e. search rules)
    (Decides-and _ _ (Decides-eqb a.number b.number)
    (Decides-and _ _ (node_decides a.peer b.peer)
    (Decides-and _ _ (asker_decides a.asker b.asker)
    (Decides-and _ _ (Decides-eqb a.service b.service)
    (ms_decides a.deadline b.deadline)))))

messaging_decides : (a b : Messaging) → Decides ((messaging.ghosts).eq a b) (a ≡ b)
messaging_decides a b =
    Decides-like ((messaging.ghosts).eq a b) (λ p. search rules) (λ e. search rules)
    (Decides-and _ _ (pointwise_decides class3_decides a.class3_connections b.class3_connections)
    (Decides-and _ _ (pointwise_decides waiting_decides a.waiting b.waiting)
    (Decides-eqb a.next_number b.next_number)))

openings_decide : (a b : NodeOpenings) → Decides ((openings.ghosts).eq a b) (a ≡ b)
openings_decide a b =
    Decides-like ((openings.ghosts).eq a b) (λ p. search rules) (λ e. search rules)
    (Decides-and _ _ (node_decides a.node b.node)
    (Decides-and _ _ (ms_decides a.since b.since)
    (Decides-eqb a.count b.count)))

manager_decides : (a b : ManagerCounters) → Decides ((manager.ghosts).eq a b) (a ≡ b)
manager_decides a b =
    Decides-like ((manager.ghosts).eq a b) (λ p. search rules) (λ e. search rules)
    (Decides-and _ _ (Decides-eqb a.opens b.opens)
    (Decides-and _ _ (Decides-eqb a.open_formats b.open_formats)
    (Decides-and _ _ (Decides-eqb a.open_resources b.open_resources)
    (Decides-and _ _ (Decides-eqb a.open_others b.open_others)
    (Decides-and _ _ (Decides-eqb a.closes b.closes)
    (Decides-and _ _ (Decides-eqb a.close_formats b.close_formats)
    (Decides-and _ _ (Decides-eqb a.close_others b.close_others)
    (Decides-eqb a.time_outs b.time_outs))))))))

counters_decide : (a b : DeviceCounters) → Decides ((counters.ghosts).eq a b) (a ≡ b)
counters_decide a b =
    Decides-like ((counters.ghosts).eq a b) (λ p. search rules) (λ e. search rules)
    (Decides-and _ _ (manager_decides a.manager b.manager)
    (pointwise_decides Decides-eqb a.link b.link))

-- two tables that pass the test are equal, and equal tables pass it
pub adapter_decides : (a b : AdapterTable) → Decides ((adapter.ghosts).eq a b) (a ≡ b)
adapter_decides a b =
    Decides-like ((adapter.ghosts).eq a b) (λ p. search rules) (λ e. search rules)
    (Decides-and _ _ (profile_decides a.profile b.profile)
    (Decides-and _ _ (pointwise_decides (connection_decides state_row state.ghosts state.dict state_decides) a.rows b.rows)
    (Decides-and _ _ (pointwise_decides value_decides a.values b.values)
    (Decides-and _ _ (ms_decides a.clock b.clock)
    (Decides-and _ _ (pointwise_decides block_decides a.ids b.ids)
    (Decides-and _ _ (Decides-eqb a.next_id b.next_id)
    (Decides-and _ _ (pointwise_decides stream_decides a.streams b.streams)
    (Decides-and _ _ (messaging_decides a.messaging b.messaging)
    (Decides-and _ _ (pointwise_decides openings_decide a.openings b.openings)
    (counters_decide a.counters b.counters))))))))))
