-- What an event at an adapter leaves at each output.
use Rattle.std.proofs.Common.{◌≡◌, ℕ, ◌+◌, ◌==◌, Bool, true, false, cond, List, map, find, Option, Some, None, Result, Ok, Err, length, refl, sym, ◌∙◌, ap, subst}
use Rattle.std.specs.Option.{option_map, unwrap_or}
use Rattle.cip_types.specs.declared.names.Ms.{Ms}
use Rattle.cip_types.specs.declared.names.Node.{Node}
use Rattle.cip_datagram.specs.declared.datagram.DatagramFault.{DatagramFault}
use Rattle.cip_datagram.specs.Datagram.{DatagramFields}
use Rattle.cip_datagram.specs.Reading.{datagram_reading}
use Rattle.cip_events.specs.declared.event.Delivery.{Delivery}
use Rattle.cip_events.specs.declared.event.Delivery.TheVariants.{Applied, Idle, Heartbeat, Duplicate, Old, UnknownId, WrongSize, Malformed}
use Rattle.cip_events.specs.declared.event.Event.{Event}
use Rattle.cip_events.specs.declared.event.Event.TheVariants.{Datagram, Write, Tick}
use Rattle.adapter_table.specs.declared.profile.InputPoint.{InputPoint}
use Rattle.adapter_table.specs.declared.profile.OutputPoint.{OutputPoint}
use Rattle.adapter_table.specs.Connections.{Row}
use Rattle.adapter_table.specs.declared.table.AdapterTable.{AdapterTable}
use Rattle.adapter_table.specs.Profiles.{as_point, is_at, is_output_at}
use Rattle.adapter_table.specs.Points.{data_points, put_value, bytes_at}
use Rattle.adapter_table.specs.Rows.{written_row}
use Rattle.adapter_table.specs.Requests.{Next}
use Rattle.adapter_table.specs.Datagrams.{is_for, row_delivery, accepted_if_for, accepted_table, judged_datagram, found_datagram, datagram_of, received}
use Rattle.adapter_table.specs.Productions.{changed_row}
use Rattle.messaging.specs.declared.table.Messaging.{Messaging}
use Rattle.messaging.specs.Times.{aged}
use Rattle.adapter_table.specs.Messages.{messages_table}
use Rattle.adapter_table.specs.Ticks.{clocked_table, expired, expired_table, produced_table, advanced}
use Rattle.adapter_table.specs.Step.{adapter_step, written_table, changed_table}
use Rattle.adapter_table.specs.Shapes.{IsShaped}
use Rattle.adapter_table.specs.Whole.{IsWhole}
use Rattle.adapter_table.specs.Scratch.{or_else, left_lost, left_accepted, accepted_by, read_accepted, is_lost, lost, left_at}
use Rattle.adapter_table.specs.Laws.{StepsLeave, RefusalsTouchNothing, FreshOutputsAreZeros}
use Rattle.adapter_table.specs.Shaping.{input_no_output, output_found}
use Rattle.adapter_table.specs.Fitting.{output_fits, length_is}
use Rattle.adapter_table.specs.Lemmas.ValueLemmas.{put_beside, zeros_at}
use Rattle.adapter_table.specs.Lemmas.DriverLemmas.{same_owner}
use Rattle.adapter_table.specs.Lemmas.LikeLemmas.{any_driver_kept, written_keeps, changed_keeps, fed_keeps}
use Rattle.adapter_table.specs.Lemmas.FedLemmas.{fed_value}
use Rattle.adapter_table.specs.Lemmas.RequestLemmas.{next_is}
use Rattle.adapter_table.specs.Lemmas.EffectLemmas.{IsWrite, write_is, IsTick, tick_is}
use Rattle.adapter_table.proofs.ServedLemmas.{LosesOnly, unlost, loses_with, requests_lose}
use Rattle.adapter_table.proofs.ExpiryLemmas.{one_expired, owner_expired, expired_value}
use Rattle.adapter_table.specs.Lemmas.ControlLemmas.{control_does}

-- what an event leaves at each output, from the bytes that it held
abbrev LeavesBytes : AdapterTable → Event → AdapterTable → Type 0
LeavesBytes t event next = (point : ℕ) (output : OutputPoint) (point_bytes : List ℕ) → find (is_output_at point) t.profile.outputs ≡ Some output → bytes_at t.values point ≡ Some point_bytes → bytes_at next.values point ≡ Some (unwrap_or (left_at point t event next) point_bytes)

-- ---- a write

-- an input is no output
leaves_written : (t : AdapterTable) (other : ℕ) (bytes : List ℕ) (input : InputPoint) → find (is_at other) t.profile.inputs ≡ Some input → IsShaped t.profile t.values → LeavesBytes t (Write other bytes) (changed_table (written_table t other bytes) other)
unfolding written_table changed_table
leaves_written t other bytes input there shaped = λ point output point_bytes is holds.
    let rows = map (written_row other) t.rows in
    let same = any_driver_kept (changed_row t.clock other) (changed_keeps t.clock other) point rows ∙ any_driver_kept (written_row other) (written_keeps other) point t.rows in
    unlost (is_lost point t.rows (map (changed_row t.clock other) rows)) (left_lost (find (is_output_at point) t.profile.outputs)) point_bytes (bytes_at (put_value other bytes t.values) point)
    (same_owner point t.rows (map (changed_row t.clock other) rows) same)
    (put_beside point other bytes t.values point_bytes (input_no_output t.profile point other output input shaped.faultless is there) holds)

leaves_write : (t : AdapterTable) (point : ℕ) (bytes : List ℕ) (next : Next) → IsWrite t point bytes next → IsShaped t.profile t.values → LeavesBytes t (Write point bytes) next.1
leaves_write t point bytes next is shaped = subst (λ (n : Next). LeavesBytes t (Write point bytes) n.1) is.said (leaves_written t point bytes is.input is.found shaped)

-- ---- a tick

leaves_advanced : (t : AdapterTable) (ms : ℕ) → IsWhole t → LeavesBytes t (Tick ms) (produced_table (expired_table (clocked_table t ms)))
unfolding clocked_table expired_table produced_table
leaves_advanced t ms whole = λ point output point_bytes is holds.
    let clock : Ms = record { 0 = t.clock.0 + ms } in
    let one = whole.sound.one_owner point in
    rw (owner_expired clock t.rows point one) (expired_value t.profile (expired clock t.rows) t.values point output point_bytes (one_expired clock t.rows point one) whole.shaped is holds)

leaves_messaged : (t : AdapterTable) (ms : ℕ) (later : AdapterTable) (next_id : ℕ) (m : Messaging) → LeavesBytes t (Tick ms) later → LeavesBytes t (Tick ms) (messages_table later next_id m)
unfolding messages_table
leaves_messaged t ms later next_id m leaves = leaves

leaves_tick : (t : AdapterTable) (ms : ℕ) (next : Next) → IsTick t ms next → IsWhole t → LeavesBytes t (Tick ms) next.1
leaves_tick t ms next is whole =
    let later = (advanced (clocked_table t ms)).1 in
    subst (λ (n : Next). LeavesBytes t (Tick ms) n.1) is.said (leaves_messaged t ms later later.next_id (aged later.clock later.messaging) (leaves_advanced t ms whole))

-- ---- a datagram

-- what a datagram leaves at an output is what its data leave, where no owner is lost
or_unlost : (left : Option (List ℕ)) (b : Bool) (lost : Option (List ℕ)) (point_bytes : List ℕ) (bytes : Option (List ℕ)) → b ≡ false → bytes ≡ Some (unwrap_or left point_bytes) → bytes ≡ Some (unwrap_or (or_else left (cond b lost None)) point_bytes)
or_unlost left true lost point_bytes bytes stays holds = absurd cc
or_unlost None false lost point_bytes bytes stays holds = holds
or_unlost (Some first) false lost point_bytes bytes stays holds = holds

-- each output holds what these bytes for the points say, and each owner is there
record Feeds (t next : AdapterTable) (left : ℕ → Option (List ℕ)) : Type 0 where
  owners : (point : ℕ) → is_lost point t.rows next.rows ≡ false
  leaves : (point : ℕ) (output : OutputPoint) (point_bytes : List ℕ) → find (is_output_at point) t.profile.outputs ≡ Some output → bytes_at t.values point ≡ Some point_bytes → bytes_at next.values point ≡ Some (unwrap_or (left point) point_bytes)

feeds_nothing : (t : AdapterTable) → Feeds t t (λ _. None)
feeds_nothing t = record { owners = λ point. same_owner point t.rows t.rows refl; leaves = λ point output point_bytes is holds. holds }

feeds_by : (t : AdapterTable) (peer : Node) (d : DatagramFields) (row : Row) (delivery : Delivery) → IsShaped t.profile t.values → Feeds t (accepted_table t peer d row delivery) (λ point. cond (row.consumed == point) (left_accepted (find (is_output_at point) t.profile.outputs) d delivery) None)
unfolding accepted_table
feeds_by t peer d row delivery shaped = record {
  owners = λ point. same_owner point t.rows (map (accepted_if_for t.clock peer d) t.rows) (any_driver_kept (accepted_if_for t.clock peer d) (fed_keeps t.clock peer d) point t.rows);
  leaves = λ point output point_bytes there holds. fed_value t.profile point row.consumed output d delivery t.values point_bytes shaped there holds;
}

no_left : (b : Bool) (point_bytes : List ℕ) (bytes : Option (List ℕ)) → bytes ≡ Some point_bytes → bytes ≡ Some (unwrap_or (cond b None None) point_bytes)
no_left true point_bytes bytes holds = holds
no_left false point_bytes bytes holds = holds

-- a datagram that is not accepted leaves nothing
feeds_none : (t : AdapterTable) (row : Row) → Feeds t t (λ point. cond (row.consumed == point) None None)
feeds_none t row = record {
  owners = λ point. same_owner point t.rows t.rows refl;
  leaves = λ point output point_bytes is holds. no_left (row.consumed == point) point_bytes (bytes_at t.values point) holds;
}

feeds_judged : (t : AdapterTable) (peer : Node) (d : DatagramFields) (row : Row) (delivery : Delivery) → IsShaped t.profile t.values → Feeds t (judged_datagram t peer d row delivery).1 (λ point. cond (row.consumed == point) (left_accepted (find (is_output_at point) t.profile.outputs) d delivery) None)
feeds_judged t peer d row Applied shaped = feeds_by t peer d row Applied shaped
feeds_judged t peer d row Idle shaped = feeds_by t peer d row Idle shaped
feeds_judged t peer d row Heartbeat shaped = feeds_by t peer d row Heartbeat shaped
feeds_judged t peer d row Duplicate shaped = feeds_by t peer d row Duplicate shaped
feeds_judged t peer d row Old shaped = feeds_none t row
feeds_judged t peer d row UnknownId shaped = feeds_none t row
feeds_judged t peer d row WrongSize shaped = feeds_none t row
feeds_judged t peer d row Malformed shaped = feeds_none t row

feeds_found : (t : AdapterTable) (peer : Node) (d : DatagramFields) (found : Option Row) → IsShaped t.profile t.values → Feeds t (found_datagram t peer d found).1 (λ point. accepted_by point t.profile t.clock d found)
feeds_found t peer d None shaped = feeds_nothing t
feeds_found t peer d (Some row) shaped = feeds_judged t peer d row (row_delivery t.profile t.clock row d) shaped

feeds_read : (t : AdapterTable) (peer : Node) (reading : Result DatagramFields DatagramFault) → IsShaped t.profile t.values → Feeds t (datagram_of t peer reading).1 (λ point. read_accepted point t peer reading)
feeds_read t peer (Err fault) shaped = feeds_nothing t
feeds_read t peer (Ok d) shaped = feeds_found t peer d (find (is_for peer d.connection) t.rows) shaped

leaves_datagram : (t next : AdapterTable) (peer : Node) (bytes : List ℕ) → Feeds t next (λ point. read_accepted point t peer (datagram_reading bytes)) → LeavesBytes t (Datagram peer bytes) next
leaves_datagram t next peer bytes feeds = λ point output point_bytes is holds.
    or_unlost (read_accepted point t peer (datagram_reading bytes)) (is_lost point t.rows next.rows) (left_lost (find (is_output_at point) t.profile.outputs)) point_bytes (bytes_at next.values point) (feeds.owners point) (feeds.leaves point output point_bytes is holds)

-- ---- an event

-- each event that has a step
leaves_bytes : (t : AdapterTable) (event : Event) (next : Next) → adapter_step t event ≡ Ok next → IsWhole t → LeavesBytes t event next.1
unfolding received
leaves_bytes t (Datagram peer bytes) next is whole =
    subst (λ (n : Next). LeavesBytes t (Datagram peer bytes) n.1) (next_is _ _ is)
    (leaves_datagram t (datagram_of t peer (datagram_reading bytes)).1 peer bytes (feeds_read t peer (datagram_reading bytes) whole.shaped))
leaves_bytes t (Write point bytes) next is whole = leaves_write t point bytes next (write_is t point bytes next is) whole.shaped
leaves_bytes t (Tick ms) next is whole = leaves_tick t ms next (tick_is t ms next is) whole
leaves_bytes t other next is whole = control_does (λ t next. IsWhole t → LosesOnly t next) requests_lose (λ t number peer free whole. loses_with t number peer) t other next refl is whole

-- ---- from what each output held, which it does

some_bytes : (found : Option (List ℕ)) (len : ℕ) → option_map (λ (bytes : List ℕ). length bytes) found ≡ Some len → (point_bytes : List ℕ) × (found ≡ Some point_bytes)
some_bytes None len is = absurd cc
some_bytes (Some point_bytes) len is = (point_bytes, refl)

-- each output of a whole table holds some bytes
output_holds : (t : AdapterTable) (point : ℕ) (output : OutputPoint) → IsShaped t.profile t.values → find (is_output_at point) t.profile.outputs ≡ Some output → (point_bytes : List ℕ) × (bytes_at t.values point ≡ Some point_bytes)
output_holds t point output shaped is = some_bytes (bytes_at t.values point) output.len (length_is t.profile t.values point shaped ∙ output_fits t.profile point output output.len is refl)

or_bytes : (left : Option (List ℕ)) (point_bytes : List ℕ) → Some (unwrap_or left point_bytes) ≡ or_else left (Some point_bytes)
or_bytes None point_bytes = refl
or_bytes (Some first) point_bytes = refl

pub adapter_leaves : StepsLeave
adapter_leaves t event next is whole = λ point output there.
    let point_bytes = output_holds t point output whole.shaped there in
    leaves_bytes t event next is whole point output point_bytes.0 there point_bytes.1
    ∙ or_bytes (left_at point t event next.1) point_bytes.0
    ∙ ap (or_else (left_at point t event next.1)) (sym point_bytes.1)

pub fresh_zeros : FreshOutputsAreZeros
fresh_zeros profile point output is = zeros_at point (data_points profile) (as_point output) (output_found profile point output is)

untouched : (point : ℕ) (t : AdapterTable) → lost point t t ≡ None
untouched point t = rw (same_owner point t.rows t.rows refl) refl

-- and one that has none touches nothing
pub fault_touches_none : RefusalsTouchNothing
fault_touches_none point t (Datagram peer bytes) fault is = absurd cc
fault_touches_none point t other fault is = untouched point t
