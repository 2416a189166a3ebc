-- The limits that the maker of an adapter states, where they refuse what every other adapter takes: a connection that
-- the fifteen checks admit, the close of another node's connection, and a datagram whose number is far ahead
-- (Volume 1, chapter 3, Connection Manager, and class 1 transport).
use Rattle.std.specs.Prelude.{ℕ, ◌≡◌, ◌≤◌, ◌<◌, ◌==◌, ◌&&◌, ◌||◌, not, nat_le, Bool, false, if◌then◌else◌, List, Option, Some, None, Result, Ok, Err}
use Rattle.cip_types.specs.declared.names.Node.{Node}
use Rattle.cip_types.specs.declared.names.Triad.{Triad}
use Rattle.cip_types.specs.declared.names.Ms.{Ms}
use Rattle.cip_fwdopen.specs.Open.{OpenFields}
use Rattle.cip_router.specs.declared.refusal.Refusal.{Refusal}
use Rattle.cip_router.specs.declared.refusal.Refusal.TheVariants as refusal
use Rattle.cip_productions.specs.declared.kind.Kind.{Kind}
use Rattle.cip_productions.specs.declared.kind.Kind.TheVariants.{ExclusiveOwner, InputOnly, ListenOnly}
use Rattle.cip_productions.specs.Window.{since_accepted, accepts_number}
use Rattle.messaging.specs.declared.class3.Class3Connection.{Class3Connection}
use Rattle.adapter_table.specs.declared.maker_limits.Places.{Places}
use Rattle.adapter_table.specs.declared.maker_limits.MakerLimits.{MakerLimits}
use Rattle.adapter_table.specs.declared.maker_limits.NodeLimits.{NodeLimits}
use Rattle.adapter_table.specs.declared.row.Connection.{Connection}
use Rattle.adapter_table.specs.Connections.{Row}
use Rattle.adapter_table.specs.declared.table.AdapterTable.{AdapterTable}
use Rattle.adapter_table.specs.Rows.{kind_count, node_count}
use Rattle.adapter_table.specs.Rates.{has_opened_enough_at}
use Rattle.adapter_table.specs.Profiles.{profile_fault}
use Rattle.adapter_table.specs.Checks.{Admitted, view_of, lacks_capacity, admission}
use Rattle.adapter_table.specs.Describing.{fixed}

-- THE SIXTEENTH CHECK

-- the places of an application type
abbrev pub places_of : Places → Kind → ℕ
places_of places ExclusiveOwner = places.owners
places_of places InputOnly = places.readers
places_of places ListenOnly = places.listeners

-- established connections of the application type have all its places
abbrev pub has_no_place : Option Places → List Row → Kind → Bool
has_no_place None rows kind = false
has_no_place (Some places) rows kind = nat_le (places_of places kind) (kind_count rows kind)

-- the node has as many established connections as one node can have
abbrev pub has_node_enough : Option NodeLimits → List Row → Node → Bool
has_node_enough None rows peer = false
has_node_enough (Some limits) rows peer = nat_le limits.connections (node_count rows peer)

-- a connection of this application type, opened by this node, is one too many
abbrev pub exceeds : MakerLimits → List Row → Node → Kind → Bool
exceeds limits rows peer kind = has_no_place limits.places rows kind || has_node_enough limits.node_connections rows peer

-- 16: a connection that the fifteen checks admit has no place of its application type, or its node has connections
--     enough (0x0113)
abbrev pub limited : MakerLimits → List Row → Node → Result Admitted Refusal → Result Admitted Refusal
limited limits rows peer (Err why) = Err why
limited limits rows peer (Ok admitted) = if exceeds limits rows peer admitted.kind then Err refusal.OutOfConnections else Ok admitted

-- 16, too: a connection that has its place is refused if its node has opened as many in its second as it can (0x0113)
abbrev pub paced : Bool → Result Admitted Refusal → Result Admitted Refusal
paced enough (Err why) = Err why
paced enough (Ok admitted) = if enough then Err refusal.OutOfConnections else Ok admitted

-- the same at a table, where a described device refuses data of variable size first
abbrev pub limited_admission : AdapterTable → Node → OpenFields → Result Admitted Refusal
limited_admission t peer request =
    paced (has_opened_enough_at t peer) (limited t.profile.limits t.rows peer (fixed t.profile.description request (admission t request)))

-- CLOSES

-- only the node that opened the connection closes it, and this is another
abbrev pub is_wrong_closer : MakerLimits → Node → Row → Bool
is_wrong_closer limits peer row = limits.own_closers && not (row.peer.0 == peer.0)

-- the same of a class 3 connection
abbrev pub is_wrong_ender : MakerLimits → Node → Class3Connection → Bool
is_wrong_ender limits peer d = limits.own_closers && not (d.peer.0 == peer.0)

-- NUMBERS

-- at this time the connection accepts the number: it is newer than the last accepted one, and near it
abbrev pub accepts_at : {P : Type 0} → Option ℕ → Ms → Connection P → ℕ → Bool
accepts_at within clock row number = accepts_number within (since_accepted clock row.watchdog row.deadline) row.o_t_pace_ms row.last number

-- WITHIN THE LIMITS

-- of each application type, no more connections are established than it has places
abbrev pub AreWithinPlaces : Option Places → List Row → Type 0
AreWithinPlaces None rows = Unit {0}
AreWithinPlaces (Some places) rows = (kind : Kind) → kind_count rows kind ≤ places_of places kind

-- no node has more established connections than one node can have
abbrev pub AreWithinNodes : Option NodeLimits → List Row → Type 0
AreWithinNodes None rows = Unit {0}
AreWithinNodes (Some limits) rows = (node : Node) → node_count rows node ≤ limits.connections

-- no more connections are established than the maker states
pub record AreWithin (limits : MakerLimits) (rows : List Row) : Type 0 where
  pub places : AreWithinPlaces limits.places rows
  pub nodes : AreWithinNodes limits.node_connections rows

-- the same of a table
abbrev pub IsWithinLimits : AdapterTable → Type 0
IsWithinLimits t = AreWithin t.profile.limits t.rows

-- While fewer connections of an application type are established than it has places, another of this type is not
-- refused for want of a place: the other types have at most the other places, so 64 readers never keep an owner out.
abbrev pub PlacesAreKept : Type 0
PlacesAreKept =
    (t : AdapterTable) (places : Places) (kind : Kind) (triad : Triad) → profile_fault t.profile ≡ None → t.profile.limits.places ≡ Some places →
    IsWithinLimits t → kind_count t.rows kind < places_of places kind →
    (lacks_capacity (view_of t triad) ≡ false) × (has_no_place t.profile.limits.places t.rows kind ≡ false)
