-- The limits that a maker states, at both sides of each edge, and without them: samples, by hand.
use Rattle.std.proofs.Common.{◌≡◌, ℕ, ◌+◌, true, false, List, [], ◌∷◌, Option, Some, None, Result, Ok, Err, refl}
use Rattle.cip_types.specs.declared.names.Ms.{Ms}
use Rattle.cip_types.specs.declared.names.Node.{Node}
use Rattle.cip_types.specs.declared.names.Triad.{Triad}
use Rattle.cip_datagram.specs.Datagram.{DatagramFields}
use Rattle.cip_netparams.specs.declared.NetParams.{NetParams}
use Rattle.cip_netparams.specs.declared.ConnectionType.TheVariants.{PointToPoint}
use Rattle.cip_netparams.specs.declared.Priority.TheVariants.{Scheduled}
use Rattle.cip_netparams.specs.declared.Trigger.TheVariants.{Cyclic, ChangeOfState}
use Rattle.cip_epath.specs.Path.{PathFields}
use Rattle.cip_fwdopen.specs.Open.{OpenFields}
use Rattle.cip_fwdopen.specs.Close.{CloseFields}
use Rattle.cip_events.specs.declared.event.Delivery.{Delivery}
use Rattle.cip_events.specs.declared.event.Delivery.TheVariants.{Applied, Old, WrongSize}
use Rattle.cip_events.specs.declared.event.Notice.TheVariants as notice
use Rattle.cip_events.specs.declared.profile_fault.ProfileFault.{ProfileFault}
use Rattle.cip_events.specs.declared.profile_fault.ProfileFault.TheVariants.{Description as DescriptionFault, Limits}
use Rattle.cip_router.specs.declared.refusal.Refusal.{Refusal}
use Rattle.cip_router.specs.declared.refusal.Refusal.TheVariants as refusal
use Rattle.cip_router.specs.Replies.{closed, refused}
use Rattle.cip_productions.specs.declared.kind.Kind.{Kind}
use Rattle.cip_productions.specs.declared.kind.Kind.TheVariants.{ExclusiveOwner, InputOnly, ListenOnly}
use Rattle.cip_productions.specs.Productions.{first_production}
use Rattle.cip_productions.specs.Window.{pace_of, is_within}
use Rattle.adapter_table.specs.declared.profile.Action.TheVariants.{Zero}
use Rattle.adapter_table.specs.declared.profile.Description.{Description}
use Rattle.adapter_table.specs.declared.profile.Profile.{Profile}
use Rattle.adapter_table.specs.declared.maker_limits.MakerLimits.{MakerLimits}
use Rattle.adapter_table.specs.declared.row.State.{State}
use Rattle.adapter_table.specs.declared.row.State.TheVariants.{Established, TimedOut}
use Rattle.adapter_table.specs.declared.table.AdapterTable.{AdapterTable}
use Rattle.adapter_table.specs.Connections.{Row}
use Rattle.adapter_table.specs.Profiles.{no_limits, profile_fault}
use Rattle.adapter_table.specs.Rows.{kind_count, node_count}
use Rattle.adapter_table.specs.Checks.{Admitted, is_below_least, lacks_pace}
use Rattle.adapter_table.specs.StatedLimits.{exceeds, limited, paced}
use Rattle.adapter_table.specs.Closing.{closed_table}
use Rattle.adapter_table.specs.Datagrams.{row_delivery}
use Rattle.adapter_table.specs.Requests.{Served, served_close}
use Rattle.adapter_table.specs.Step.{adapter_table}

-- an adapter at 192.168.1.10 with the output 150 and the input 100, of 2 and 4 bytes
abbrev profile : MakerLimits → Profile
profile limits = record {
  incarnation = 0x10;
  node = record { 0 = 0xC0A8010A };
  mask = 0xFFFFFF00;
  identity = record { vendor = 1; device_type = 12; product = 7; major = 2; minor = 3 };
  outputs = record { instance = 150; len = 2; idle = Zero; fault = Zero } ∷ [];
  inputs = record { instance = 100; len = 4 } ∷ [];
  config = None;
  input_only = 152;
  listen_only = 153;
  description = None;
  limits = limits;
  objects = [];
  ids = None;
}

abbrev least_of : ℕ → MakerLimits
least_of us = record no_limits { least_rpi = Some us }

abbrev places_of : (owners readers listeners : ℕ) → MakerLimits
places_of owners readers listeners = record no_limits { places = Some (record { owners = owners; readers = readers; listeners = listeners; class3_connections = None }) }

abbrev node_of : ℕ → MakerLimits
node_of number = record no_limits { node_connections = Some (record { connections = number; openings = None }) }

abbrev rate_of : (connections openings : ℕ) → MakerLimits
rate_of connections openings = record no_limits { node_connections = Some (record { connections = connections; openings = Some openings }) }

abbrev shared_of : ℕ → MakerLimits
shared_of class3_connections = record no_limits { places = Some (record { owners = 1; readers = 30; listeners = 8; class3_connections = Some class3_connections }) }

abbrev own : MakerLimits
own = record no_limits { own_closers = true }

abbrev within_of : ℕ → MakerLimits
within_of within = record no_limits { newer = Some within }

-- ---- limits that are in range

abbrev fault_of : MakerLimits → Option ProfileFault
fault_of limits = profile_fault (profile limits)

without_limits : fault_of no_limits ≡ None
unfolding profile_fault lib.Count.ones
without_limits = refl

intervals_in_range : (fault_of (least_of 1) ≡ None) × (fault_of (least_of 10000000) ≡ None)
unfolding profile_fault lib.Count.ones
intervals_in_range = (refl, refl)

intervals_out_of_range : (fault_of (least_of 0) ≡ Some Limits) × (fault_of (least_of 10000001) ≡ Some Limits)
unfolding profile_fault lib.Count.ones
intervals_out_of_range = (refl, refl)

places_in_range : (fault_of (places_of 64 0 0) ≡ None) × (fault_of (places_of 0 0 1) ≡ None) × (fault_of (places_of 20 30 14) ≡ None)
unfolding profile_fault lib.Count.ones
places_in_range = (refl, refl, refl)

places_out_of_range : (fault_of (places_of 0 0 0) ≡ Some Limits) × (fault_of (places_of 65 0 0) ≡ Some Limits) × (fault_of (places_of 20 30 15) ≡ Some Limits)
unfolding profile_fault lib.Count.ones
places_out_of_range = (refl, refl, refl)

nodes_in_range : (fault_of (node_of 1) ≡ None) × (fault_of (node_of 64) ≡ None)
unfolding profile_fault lib.Count.ones
nodes_in_range = (refl, refl)

nodes_out_of_range : (fault_of (node_of 0) ≡ Some Limits) × (fault_of (node_of 65) ≡ Some Limits)
unfolding profile_fault lib.Count.ones
nodes_out_of_range = (refl, refl)

class_3_in_range : (fault_of (shared_of 0) ≡ None) × (fault_of (shared_of 64) ≡ None)
unfolding profile_fault lib.Count.ones
class_3_in_range = (refl, refl)

class_3_out_of_range : fault_of (shared_of 65) ≡ Some Limits
unfolding profile_fault lib.Count.ones
class_3_out_of_range = refl

openings_in_range : (fault_of (rate_of 4 1) ≡ None) × (fault_of (rate_of 4 65535) ≡ None)
unfolding profile_fault lib.Count.ones
openings_in_range = (refl, refl)

openings_out_of_range : fault_of (rate_of 4 0) ≡ Some Limits
unfolding profile_fault lib.Count.ones
openings_out_of_range = refl

numbers_in_range : (fault_of (within_of 2) ≡ None) × (fault_of (within_of 0x80000000) ≡ None)
unfolding profile_fault lib.Count.ones
numbers_in_range = (refl, refl)

numbers_out_of_range : (fault_of (within_of 1) ≡ Some Limits) × (fault_of (within_of 0x80000001) ≡ Some Limits)
unfolding profile_fault lib.Count.ones
numbers_out_of_range = (refl, refl)

-- a physical address without bytes
abbrev described : Description
described = record { serial = 1; name = []; port = 44818; speed = 100; flags = 0; mac = []; inactivity = 0 }

-- a description is looked at first
description_first : profile_fault (record (profile (least_of 0)) { description = Some described }) ≡ Some DescriptionFault
unfolding profile_fault lib.Count.ones
description_first = refl

-- it leaves instance 0 of Assembly to the class, which a heartbeat has at a device without one
abbrev whole : Description
whole = record described { mac = 2 ∷ 0 ∷ 0 ∷ 0 ∷ 0 ∷ 1 ∷ [] }

no_point_hides_the_class :
    (profile_fault (record (profile no_limits) { description = Some whole }) ≡ None)
    × ((profile_fault (record (profile no_limits) { description = Some whole; input_only = 0 }) ≡ Some DescriptionFault)
    × (profile_fault (record (profile no_limits) { input_only = 0 }) ≡ None))
unfolding profile_fault lib.Count.ones
no_point_hides_the_class = (refl, (refl, refl))

-- ---- packet intervals

abbrev params : NetParams
params = record { kind = PointToPoint; priority = Scheduled; redundant = false; variable = false; size = 8 }

abbrev triad : Triad
triad = record { serial = 1; vendor = 2; originator = 3 }

abbrev requests : (o_t_rpi t_o_rpi : ℕ) → OpenFields
requests o_t_rpi t_o_rpi = record {
  priority_tick = 10;
  ticks = 14;
  o_t_id = record { 0 = 0 };
  t_o_id = record { 0 = 9 };
  triad = triad;
  multiplier = 0;
  o_t_rpi = o_t_rpi;
  o_t_params = params;
  t_o_rpi = t_o_rpi;
  t_o_params = params;
  trigger = 1;
  path = [];
}

-- no interval is below none; one at the least is not below it; either of both can be
any_interval : is_below_least None (requests 1 1) ≡ false
any_interval = refl

the_least_interval : is_below_least (Some 5000) (requests 5000 5000) ≡ false
the_least_interval = refl

shorter_intervals : (is_below_least (Some 5000) (requests 4999 5000) ≡ true) × (is_below_least (Some 5000) (requests 5000 4999) ≡ true)
shorter_intervals = (refl, refl)

-- ---- places, and connections of one node

abbrev first_node : Node
first_node = record { 0 = 0xC0A80114 }

abbrev second_node : Node
second_node = record { 0 = 0xC0A80115 }

abbrev live : State
live = Established (first_production (record { 0 = 0 }) 5 first_node Cyclic 0)

-- a connection of this kind and node that accepted number 7 with count 3
abbrev row_of : Kind → Node → State → Row
row_of kind node state = record {
  triad = triad;
  peer = node;
  kind = kind;
  consumed = 150;
  produced = 100;
  o_t_id = record { 0 = 0x10000005 };
  t_o_id = record { 0 = 9 };
  o_t_api_ms = 10;
  t_o_api_ms = 10;
  o_t_pace_ms = 10;
  watchdog = record { 0 = 40 };
  multicast = false;
  opening = 5;
  last = Some (record { number = 7; count = 3 });
  mode = None;
  deadline = record { 0 = 10000 };
  state = state;
}

abbrev owner : Row
owner = row_of ExclusiveOwner first_node live

abbrev reader : Row
reader = row_of InputOnly first_node live

abbrev late_owner : Row
late_owner = row_of ExclusiveOwner first_node TimedOut

-- an owner and two readers of the first node, and an owner that timed out
abbrev rows : List Row
rows = owner ∷ reader ∷ late_owner ∷ reader ∷ []

counts_are : (kind_count rows ExclusiveOwner ≡ 1) × (kind_count rows InputOnly ≡ 2) × (kind_count rows ListenOnly ≡ 0)
counts_are = (refl, refl, refl)

node_counts_are : (node_count rows first_node ≡ 3) × (node_count rows second_node ≡ 0)
node_counts_are = (refl, refl)

without_places : exceeds no_limits rows first_node ExclusiveOwner ≡ false
without_places = refl

-- two owners have places, and one is established
a_place_is_free : exceeds (places_of 2 2 1) rows first_node ExclusiveOwner ≡ false
a_place_is_free = refl

a_listener_has_its_own_place : exceeds (places_of 1 2 1) rows first_node ListenOnly ≡ false
a_listener_has_its_own_place = refl

no_place_is_left : (exceeds (places_of 1 2 1) rows second_node ExclusiveOwner ≡ true) × (exceeds (places_of 1 2 1) rows second_node InputOnly ≡ true)
no_place_is_left = (refl, refl)

-- three connections of the node are established
a_node_has_one_left : exceeds (node_of 4) rows first_node ListenOnly ≡ false
a_node_has_one_left = refl

a_node_has_enough : (exceeds (node_of 3) rows first_node ListenOnly ≡ true) × (exceeds (node_of 3) rows second_node ListenOnly ≡ false)
a_node_has_enough = (refl, refl)

-- an owner of the output and the input
abbrev admits : Admitted
admits = record {
  kind = ExclusiveOwner;
  consumed = 150;
  produced = 100;
  multicast = false;
  trigger = Cyclic;
  inhibit = 0;
  o_t_api_ms = 10;
  t_o_api_ms = 10;
  watchdog = record { 0 = 40 };
  group = None;
  segment = None;
}

abbrev says : MakerLimits → Result Admitted Refusal → Result Admitted Refusal
says limits said = limited limits rows first_node said

-- what the fifteen checks refuse stays refused so; what they admit is refused without a place
refusals_stay : says (places_of 1 2 1) (Err refusal.NoSupport) ≡ Err refusal.NoSupport
refusals_stay = refl

admitted_with_a_place : says (places_of 2 2 1) (Ok admits) ≡ Ok admits
admitted_with_a_place = refl

refused_without_a_place : says (places_of 1 2 1) (Ok admits) ≡ Err refusal.OutOfConnections
refused_without_a_place = refl

-- what has its place is refused where its node has opened enough in its second
refused_without_a_second : (paced true (Ok admits) ≡ Err refusal.OutOfConnections) × (paced false (Ok admits) ≡ Ok admits) × (paced true (Err refusal.NoSupport) ≡ Err refusal.NoSupport)
refused_without_a_second = (refl, refl, refl)

-- ---- closes

abbrev table : MakerLimits → List Row → AdapterTable
table limits rows = record (adapter_table (profile limits)) { rows = rows }

abbrev closes : CloseFields
closes = record { priority_tick = 10; ticks = 14; triad = triad; path = [] }

-- the reply is a refusal with this general status, with the triad; the table stays
abbrev denies : AdapterTable → Served
denies t = record { reply = refused 0x4E (record { general = 0x0F; extended = None }) (Some triad); address = None; notices = []; table = t }

abbrev closes_it : AdapterTable → Row → Served
closes_it t row = record { reply = closed triad; address = None; notices = notice.Closed triad ∷ []; table = closed_table t row }

another_node_is_denied : served_close (table own (owner ∷ [])) second_node closes ≡ denies (table own (owner ∷ []))
unfolding served_close
another_node_is_denied = refl

another_node_is_denied_a_late_one : served_close (table own (late_owner ∷ [])) second_node closes ≡ denies (table own (late_owner ∷ []))
unfolding served_close
another_node_is_denied_a_late_one = refl

its_own_node_closes : served_close (table own (owner ∷ [])) first_node closes ≡ closes_it (table own (owner ∷ [])) owner
unfolding served_close
its_own_node_closes = refl

any_node_closes : served_close (table no_limits (owner ∷ [])) second_node closes ≡ closes_it (table no_limits (owner ∷ [])) owner
unfolding served_close
any_node_closes = refl

-- an unknown triad is unknown to each node
an_unknown_triad : served_close (table own []) second_node closes ≡ record { reply = refused 0x4E (record { general = 1; extended = Some 0x0107 }) (Some triad); address = None; notices = []; table = table own [] }
unfolding served_close
an_unknown_triad = refl

-- ---- numbers

abbrev datagram : ℕ → DatagramFields
datagram number = record { connection = 0x10000005; sequence = number; count = 4; payload = 1 ∷ 0 ∷ 0 ∷ 0 ∷ 0xAA ∷ 0xBB ∷ [] }

-- so many milliseconds after the owner accepted number 7, which it did at 9,960: its deadline is 10,000, its time-out 40
abbrev later : ℕ → Ms
later ms = record { 0 = 9960 + ms }

-- the delivery of this number to an owner so many milliseconds later
abbrev after : MakerLimits → ℕ → Row → ℕ → Delivery
after limits ms row number = row_delivery (profile limits) (later ms) row (datagram number)

-- 7 was accepted: 16 is ahead by 9
a_near_number : after (within_of 10) 0 owner 16 ≡ Applied
a_near_number = refl

a_far_number : after (within_of 10) 0 owner 17 ≡ Old
a_far_number = refl

any_newer_number : (after no_limits 0 owner 17 ≡ Applied) × (after no_limits 0 owner 0x80000006 ≡ Applied)
any_newer_number = (refl, refl)

-- the next number is taken by the narrowest limit, the last one again by none
the_next_number : (after (within_of 2) 0 owner 8 ≡ Applied) × (after (within_of 2) 0 owner 7 ≡ Old)
the_next_number = (refl, refl)

-- the window is larger by two for each whole interval that has passed: not yet after 9 ms, by two after 10 and 19 ms
a_window_that_waits : (after (within_of 10) 9 owner 17 ≡ Old) × (after (within_of 10) 10 owner 18 ≡ Applied)
a_window_that_waits = (refl, refl)

a_window_grown_once : (after (within_of 10) 10 owner 19 ≡ Old) × (after (within_of 10) 19 owner 19 ≡ Old) × (after (within_of 10) 20 owner 19 ≡ Applied)
a_window_grown_once = (refl, refl, refl)

-- nine datagrams in a row are lost, numbers 8 to 16: the tenth comes 100 ms after number 7, and is taken; at once it is not
nine_lost : (after (within_of 8) 100 owner 17 ≡ Applied) × (after (within_of 8) 0 owner 17 ≡ Old)
nine_lost = (refl, refl)

-- a grown window takes no older number, nor the last one again
old_numbers_stay_old : (after (within_of 8) 100 owner 7 ≡ Old) × (after (within_of 8) 100 owner 6 ≡ Old)
old_numbers_stay_old = (refl, refl)

-- where changes of state are held back for 4 ms, five intervals pass in 20 ms: 26 is ahead by 19, and 27 by 20
abbrev changing : Row
changing = record owner { o_t_pace_ms = 4 }

a_window_of_changes : (after (within_of 10) 20 changing 26 ≡ Applied) × (after (within_of 10) 20 changing 27 ≡ Old)
a_window_of_changes = (refl, refl)

-- without an interval it does not grow
a_window_without_pace : (after (within_of 10) 30 (record owner { o_t_pace_ms = 0 }) 16 ≡ Applied) × (after (within_of 10) 30 (record owner { o_t_pace_ms = 0 }) 17 ≡ Old)
a_window_without_pace = (refl, refl)

-- the pace of a cyclic connection is its packet interval, that of another its inhibit time
paces_are : (pace_of Cyclic 10 0 ≡ 10) × (pace_of ChangeOfState 10 4 ≡ 4)
paces_are = (refl, refl)

-- the first number is near
the_first_number : is_within (Some 2) 0 10 None 0x12345678 ≡ true
the_first_number = refl

-- numbers wrap: 4 is ahead of 2^32 - 6 by 10
a_number_behind_the_wrap : (is_within (Some 11) 0 10 (Some (record { number = 0xFFFFFFFA; count = 0 })) 4 ≡ true) × (is_within (Some 10) 0 10 (Some (record { number = 0xFFFFFFFA; count = 0 })) 4 ≡ false)
a_number_behind_the_wrap = (refl, refl)

-- another size is looked at first
a_wrong_size_first : row_delivery (profile (within_of 10)) (later 0) owner (record (datagram 17) { payload = [] }) ≡ WrongSize
a_wrong_size_first = refl

-- ---- paces

-- a request of this trigger byte: 0x01 is cyclic, 0x11 of change of state
abbrev triggered : ℕ → OpenFields
triggered byte = record (requests 10000 10000) { trigger = byte }

abbrev held_back : Option ℕ → Option PathFields
held_back inhibit = Some (record { key = None; class = 4; config = None; consumed = 150; produced = 100; segment = None; inhibit = inhibit })

-- without a limit, or cyclic, or held back, a request has a pace
has_pace : (lacks_pace None (triggered 0x11) (held_back None) ≡ false) × (lacks_pace (Some 8) (triggered 0x01) (held_back None) ≡ false) × (lacks_pace (Some 8) (triggered 0x11) (held_back (Some 1)) ≡ false)
has_pace = (refl, refl, refl)

-- changes of state that are never held back have none
unpaced : (lacks_pace (Some 8) (triggered 0x11) (held_back None) ≡ true) × (lacks_pace (Some 8) (triggered 0x11) (held_back (Some 0)) ≡ true) × (lacks_pace (Some 8) (triggered 0x11) None ≡ true)
unpaced = (refl, refl, refl)
