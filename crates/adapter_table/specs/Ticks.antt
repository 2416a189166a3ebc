-- Time at an adapter. A tick advances the clock; then connections whose deadline has passed time out; then
-- listeners that lost their support are dropped; then class 3 connections whose deadline has passed end; then requests that
-- the application did not answer in time are refused; then the producers that are due produce
-- (Volume 1, chapter 3, connection timeouts, inactivity watchdog, application connection types).
use Rattle.std.specs.Prelude.{ℕ, ◌+◌, ◌==◌, ◌&&◌, ◌||◌, nat_lt, nat_le, Bool, if◌then◌else◌, List, [], ◌∷◌, ◌++◌, map, filter, length, Result, Ok, Err}
use Rattle.std.specs.List.{flat_map}
use Rattle.cip_types.specs.declared.names.Ms.{Ms}
use Rattle.cip_events.specs.declared.event.Answer.{Answer}
use Rattle.cip_events.specs.declared.event.Frame.{Frame}
use Rattle.cip_events.specs.declared.event.Notice.{Notice}
use Rattle.cip_events.specs.declared.event.Notice.TheVariants as notice
use Rattle.cip_events.specs.declared.event.StepFault.{StepFault}
use Rattle.cip_events.specs.declared.event.StepFault.TheVariants as fault
use Rattle.cip_events.specs.declared.event.Verdict.TheVariants.{Done}
use Rattle.cip_router.specs.Replies.{own}
use Rattle.messaging.specs.declared.class3.Class3Connection.{Class3Connection}
use Rattle.messaging.specs.declared.requests.Waiting.{Waiting}
use Rattle.messaging.specs.declared.table.Messaging.{Messaging}
use Rattle.messaging.specs.Times.{late_class3_connections, without_late_class3_connections, late_waiting, aged}
use Rattle.adapter_table.specs.declared.profile.Profile.{Profile}
use Rattle.adapter_table.specs.Connections.{Row}
use Rattle.adapter_table.specs.declared.row.State.TheVariants.{TimedOut}
use Rattle.adapter_table.specs.declared.table.PointValue.{PointValue}
use Rattle.adapter_table.specs.declared.table.AdapterTable.{AdapterTable}
use Rattle.adapter_table.specs.Rows.{is_established}
use Rattle.adapter_table.specs.Counters.{timed_out}
use Rattle.adapter_table.specs.Closing.{closed_values, unsupported, staying, dropped_notice}
use Rattle.cip_types.specs.Cases.{first_case_or}
use Rattle.cip_types.specs.Order.{in_order}
use Rattle.cip_productions.specs.Productions.{sent}
use Rattle.adapter_table.specs.Productions.{due_productions, produced_row}
use Rattle.adapter_table.specs.Requests.{Next}
use Rattle.adapter_table.specs.Answering.{route_frames}
use Rattle.adapter_table.specs.Messages.{with_messages}
use Rattle.cip_events.specs.Clock.{longest_tick, clock_end}

-- THE CLOCK

unfoldable pub clocked_table : AdapterTable → ℕ → AdapterTable
clocked_table t ms = record t { clock = record { 0 = t.clock.0 + ms } }

-- CONNECTIONS THAT TIME OUT

-- the connection is established, and its deadline has been reached
abbrev pub has_expired : Ms → Row → Bool
has_expired clock row = is_established row && nat_le row.deadline.0 clock.0

-- by deadlines, and then in the order of openings
abbrev pub by_deadline : Row → Row → Bool
by_deadline row other =
    nat_lt row.deadline.0 other.deadline.0 || (row.deadline.0 == other.deadline.0 && nat_lt row.opening other.opening)

abbrev pub expired : Ms → List Row → List Row
expired clock rows = in_order by_deadline (filter (has_expired clock) rows)

abbrev pub expired_row : Ms → Row → Row
expired_row clock row = if has_expired clock row then record row { state = TimedOut } else row

abbrev pub expired_rows : Ms → List Row → List Row
expired_rows clock rows = map (expired_row clock) rows

-- the fault action of each output whose owner times out
abbrev pub expired_values : Profile → List Row → List PointValue → List PointValue
expired_values profile [] values = values
expired_values profile (row ∷ rows) values = expired_values profile rows (closed_values profile row values)

abbrev pub expired_notice : Row → Notice
expired_notice row = notice.Expired row.triad

-- a notice for each connection that times out, and then for each listener that is dropped
abbrev pub expiry_notices : Ms → List Row → List Notice
expiry_notices clock rows = map expired_notice (expired clock rows) ++ map dropped_notice (unsupported (expired_rows clock rows))

-- how many connections of both classes time out at the time of the table
abbrev pub late_count : AdapterTable → ℕ
late_count t = length (expired t.clock t.rows) + length (late_class3_connections t.clock t.messaging)

-- each connection that times out is counted; those of class 3 end behind those of class 1
unfoldable pub expired_table : AdapterTable → AdapterTable
expired_table t = record t {
  rows = staying (expired_rows t.clock t.rows);
  values = expired_values t.profile (expired t.clock t.rows) t.values;
  counters = record t.counters { manager = timed_out (late_count t) t.counters.manager };
}

-- PRODUCTIONS

unfoldable pub produced_table : AdapterTable → AdapterTable
produced_table t = record t { rows = map (produced_row t.clock) t.rows }

-- A TICK

-- inputs keep their bytes: no expiry changes them
abbrev pub tick_answer : AdapterTable → List Row → Answer
tick_answer clocked left = record {
  frames = [];
  datagrams = map sent (due_productions clocked.clock left clocked.values);
  verdict = Done;
  notices = expiry_notices clocked.clock clocked.rows;
}

abbrev pub advanced : AdapterTable → Next
advanced clocked =
    let left = expired_table clocked in
    (tick_answer clocked left.rows, produced_table left)

-- CLASS 3 CONNECTIONS, AND REQUESTS THAT WAIT

abbrev pub late_notice : Class3Connection → Notice
late_notice d = notice.Expired d.triad

-- the reply to a request that the application did not answer in time: general status 0x1F, no data
abbrev pub late_frames : Messaging → Waiting → List Frame
late_frames m w = route_frames m w.asker w.service (own w.service 0x1F [])

-- a notice for each class 3 connection that ends, behind those of the other connections; then a reply to each request that
-- the application did not answer in time, but for those that such a connection brought
abbrev pub aged_answer : Ms → Messaging → Answer → Answer
aged_answer clock m answer =
    let left = without_late_class3_connections clock m in
    record answer {
      frames = flat_map (late_frames left) (late_waiting clock left);
      notices = answer.notices ++ map late_notice (late_class3_connections clock m);
    }

-- what time does to all other connections, and to these
abbrev pub aged_next : Next → Next
aged_next next = (aged_answer next.1.clock next.1.messaging next.0, with_messages next.1 (aged next.1.clock next.1.messaging))

-- some milliseconds pass: at most those of the longest tick, and not past the end of the clock
unfoldable pub tick : AdapterTable → ℕ → Result Next StepFault
tick t ms = first_case_or (Ok (aged_next (advanced (clocked_table t ms)))) (
    (nat_lt longest_tick ms, Err fault.TickTooLong)
    ∷ (nat_lt clock_end (t.clock.0 + ms), Err fault.ClockEnd)
    ∷ [])
