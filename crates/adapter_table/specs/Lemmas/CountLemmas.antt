-- What is counted leaves all of a table but its counters: what holds whatever they are, and holds of what is served, holds once that is
-- counted.
use Rattle.std.proofs.Common.{◌≡◌, ℕ, Option, Some, None, refl, ◌∙◌, ap}
use Rattle.std.specs.Option.{IfSome}
use Rattle.cip_types.specs.declared.names.Node.{Node}
use Rattle.cip_router.specs.Requests.{RouterRequestFields, nothing, refused, closing, object, opening}
use Rattle.adapter_table.specs.declared.counters.DeviceCounters.{DeviceCounters}
use Rattle.adapter_table.specs.declared.counters.Tally.{Tally}
use Rattle.adapter_table.specs.declared.table.AdapterTable.{AdapterTable}
use Rattle.adapter_table.specs.Carrying.{object_answer}
use Rattle.adapter_table.specs.Connected.{connected_served}
use Rattle.adapter_table.specs.Counters.{counted, tally_of}
use Rattle.adapter_table.specs.Counting.{tallied, with_counters}
use Rattle.adapter_table.specs.Objects.{ObjectAnswer, said, denied, resetting, answering, refusing, unrouted}
use Rattle.adapter_table.specs.Requests.{Served, counted_by, counted_once, object_served, served_object}

served_keeps : (P : Served → Type 0) → ((s : Served) (counters : DeviceCounters) → P s → P (record s { table = with_counters s.table counters })) → (s : Served) (kind : Option Tally) → P s → P (record s { table = tallied kind s.table })
served_keeps P keeps s None has = has
served_keeps P keeps s (Some kind) has = keeps s (record s.table.counters { manager = counted kind s.table.counters.manager }) has

-- of what is served
pub counted_by_keeps : (P : Served → Type 0) → ((s : Served) (counters : DeviceCounters) → P s → P (record s { table = with_counters s.table counters })) → (request : RouterRequestFields) (s : Served) → P s → P (counted_by request s)
counted_by_keeps P keeps request s has = served_keeps P keeps s (tally_of request s.reply) has

-- of what is served, if there is a request
pub counted_keeps : (P : Served → Type 0) → ((s : Served) (counters : DeviceCounters) → P s → P (record s { table = with_counters s.table counters })) → (request : RouterRequestFields) (s : Option Served) → IfSome s P → IfSome (counted_once request s) P
counted_keeps P keeps request None has = has
counted_keeps P keeps request (Some s) has = counted_by_keeps P keeps request s has

-- the counters of a table that was counted are all that is new in it
pub tallied_is : (t : AdapterTable) (kind : Option Tally) → tallied kind t ≡ with_counters t (tallied kind t).counters
tallied_is t None = refl
tallied_is t (Some kind) = refl

-- so it is of what is served where the table stays
pub counted_table : (t : AdapterTable) (request : RouterRequestFields) (s : Served) → s.table ≡ t → (counted_by request s).table ≡ with_counters t (counted_by request s).table.counters
counted_table t request s same =
    tallied_is s.table (tally_of request s.reply) ∙ ap (λ (u : AdapterTable). with_counters u (tallied (tally_of request s.reply) s.table).counters) same

-- a service of an object leaves the table
pub object_table : (t : AdapterTable) (service : ℕ) (answer : ObjectAnswer) → (object_served t service answer).table ≡ t
object_table t service (said by value) = refl
object_table t service (denied why) = refl
object_table t service (resetting kind) = refl
object_table t service (answering by general content) = refl
object_table t service (refusing named why) = refl
object_table t service (unrouted words) = refl

-- so does what is served of a message of a class 3 connection
pub connected_stays : (t : AdapterTable) (peer : Node) (request : RouterRequestFields) → IfSome (connected_served t peer request) (λ s. s.table ≡ t)
unfolding served_object
connected_stays t peer nothing = tt
connected_stays t peer (refused service why) = refl
connected_stays t peer (closing request) = refl
connected_stays t peer (object service class instance attribute body) = object_table t service (object_answer t service class instance attribute body)
connected_stays t peer (opening large request) = refl
