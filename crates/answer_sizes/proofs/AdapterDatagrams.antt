-- The datagrams of an adapter: each is a producer's, there are no more producers than connections, and none sends
-- more bytes than a point holds.
use Rattle.std.proofs.Common.{◌≡◌, ◌≤◌, ℕ, ◌==◌, Bool, true, false, cond, List, [], length, map, filter, find, Option, Some, None, unwrap_or, nat_lt, ◌+◌, Ok, Err, refl, arith}
use Rattle.std.proofs.lemmas.Bool.{eqb-true}
use Rattle.std.proofs.lemmas.List.{length-map}
use Rattle.std.specs.Option.{IfSome}
use Rattle.std.specs.List.{filter_map, flat_map}
use Rattle.cip_types.specs.declared.names.Ms.{Ms}
use Rattle.cip_types.specs.Order.{in_order}
use Rattle.cip_events.specs.declared.event.StepFault.TheVariants as fault
use Rattle.cip_events.specs.declared.event.Verdict.TheVariants.{Done}
use Rattle.cip_events.specs.Clock.{longest_tick, clock_end}
use Rattle.cip_productions.specs.declared.production.Producer.{Producer}
use Rattle.cip_productions.specs.Productions.{Produced, same_producer, by_number, by_due, sent}
use Rattle.cip_router.specs.Replies.{own}
use Rattle.messaging.specs.declared.table.Messaging.{Messaging}
use Rattle.messaging.specs.Changes.{most_waiting, can_be_answered}
use Rattle.messaging.specs.Lemmas.EachOfLemmas.{few_left as few_left_of}
use Rattle.messaging.specs.Times.{on_time, without_late_class3_connections, is_late_request, late_waiting}
use Rattle.adapter_table.specs.declared.profile.InputPoint.{InputPoint}
use Rattle.adapter_table.specs.declared.profile.Profile.{Profile}
use Rattle.adapter_table.specs.Connections.{Row}
use Rattle.adapter_table.specs.declared.table.AdapterTable.{AdapterTable}
use Rattle.adapter_table.specs.declared.table.PointValue.{PointValue}
use Rattle.adapter_table.specs.Closing.{stays}
use Rattle.adapter_table.specs.Limits.{bytes_short, input_len_short}
use Rattle.adapter_table.specs.Points.{bytes_at}
use Rattle.adapter_table.specs.Productions.{producer_in, producers, production_of, is_due, due_producers, input_of, due_productions, produces_on_change, producers_on_change, productions_on_change}
use Rattle.adapter_table.specs.Profiles.{is_at}
use Rattle.adapter_table.specs.Requests.{Next}
use Rattle.adapter_table.specs.Rows.{written_row}
use Rattle.adapter_table.specs.Shapes.{IsShaped}
use Rattle.adapter_table.specs.Step.{written_table, write_answer, written, write_of, write}
use Rattle.adapter_table.specs.Ticks.{clocked_table, expired_row, expired_rows, expired_table, produced_table, expiry_notices, advanced, late_frames, aged_next, tick}
use Rattle.adapter_table.specs.Whole.{IsWhole}
use Rattle.answer_sizes.specs.Sizes.{IsShortFrame, IsShortDatagram, IsSmall}
use Rattle.answer_sizes.proofs.AdapterFrames.{route_small}
use Rattle.answer_sizes.proofs.Few.{Few, Any, few_none, few_most, few_any, few_filtered, few_ordered, few_firsts, few_mapped, few_made, few_flat, either}
use Rattle.answer_sizes.proofs.Answers.{datagram_short, both_small, AnswersSmall}

-- ---- producers

any_producer : (made : Option Producer) → IfSome made Any
any_producer None = tt
any_producer (Some producer) = tt

-- there are no more producers than connections
few_producers : (rows : List Row) → length rows ≤ 64 → Few 64 Any (producers rows)
few_producers rows few = few_firsts 64 Any same_producer (filter_map producer_in rows) (few_made 64 Any Any producer_in (λ row any. any_producer (producer_in row)) rows (few_any 64 rows few))

passing_producers : (p : Row → Bool) (before : Producer → Producer → Bool) (rows : List Row) → length rows ≤ 64 → Few 64 Any (in_order before (producers (filter p rows)))
passing_producers p before rows few = few_ordered 64 Any before (producers (filter p rows)) (few_producers (filter p rows) (few_filtered 64 Any p rows (few_any 64 rows few)).count)

-- the datagrams of producers are short, if each producer sends few bytes
abbrev SendsFew : (Producer → List ℕ) → Type 0
SendsFew input = (producer : Producer) → length (input producer) ≤ 1400

sent_few : (rows : List Row) (input : Producer → List ℕ) → SendsFew input → (ps : List Producer) → Few 64 Any ps → Few 64 IsShortDatagram (map sent (map (λ producer. production_of rows (input producer) producer) ps))
sent_few rows input short ps few =
    few_mapped 64 (λ (p : Produced). length p.datagram.payload ≤ 1400) IsShortDatagram sent (λ p payload. datagram_short p.datagram (omega arith)) (map (λ producer. production_of rows (input producer) producer) ps)
    (few_mapped 64 Any (λ (p : Produced). length p.datagram.payload ≤ 1400) (λ producer. production_of rows (input producer) producer) (λ producer any. short producer) ps few)

-- ---- a tick

value_short : (profile : Profile) (values : List PointValue) (point : ℕ) (stored : Option (List ℕ)) → bytes_at values point ≡ stored → IsShaped profile values → length (unwrap_or stored []) ≤ 1400
value_short profile values point None is shaped = omega arith
value_short profile values point (Some bytes) is shaped = bytes_short profile values point bytes shaped is

inputs_short : (profile : Profile) (values : List PointValue) → IsShaped profile values → SendsFew (input_of values)
inputs_short profile values shaped producer = value_short profile values producer.point (bytes_at values producer.point) refl shaped

-- the connections that remain
few_left : (clock : Ms) (rows : List Row) → length rows ≤ 64 → length (filter (stays (expired_rows clock rows)) (expired_rows clock rows)) ≤ 64
few_left clock rows few =
    let after = expired_rows clock rows in
    let mapped : length after ≤ 64 = omega (arith, length-map rows (expired_row clock), few) in
    (few_filtered 64 Any (stays after) after (few_any 64 after mapped)).count

advanced_small : (t : AdapterTable) (ms : ℕ) → IsShaped t.profile t.values → length t.rows ≤ 64 → IsSmall (advanced (clocked_table t ms)).0
unfolding clocked_table expired_table
advanced_small t ms shaped few =
    let clocked : AdapterTable = record t { clock = record { 0 = t.clock.0 + ms } } in
    let rows = filter (stays (expired_rows clocked.clock t.rows)) (expired_rows clocked.clock t.rows) in
    both_small [] (map sent (due_productions clocked.clock rows clocked.values)) Done (expiry_notices clocked.clock clocked.rows) (few_none 64 IsShortFrame)
    (sent_few rows (input_of clocked.values) (inputs_short t.profile t.values shaped) (due_producers clocked.clock rows) (passing_producers (is_due clocked.clock) by_due rows (few_left clocked.clock t.rows few)))

-- no more requests wait than before
few_waiting : (clock : Ms) (m : Messaging) → length m.waiting ≤ most_waiting → length (late_waiting clock (without_late_class3_connections clock m)) ≤ 64
unfolding without_late_class3_connections
few_waiting clock m few =
    let left = filter (can_be_answered (on_time clock m.class3_connections)) m.waiting in
    omega (arith, few_left_of (is_late_request clock) left, few_left_of (can_be_answered (on_time clock m.class3_connections)) m.waiting, few)

late_small : (clock : Ms) (m : Messaging) → length m.waiting ≤ most_waiting → Few 64 IsShortFrame (flat_map (late_frames (without_late_class3_connections clock m)) (late_waiting clock (without_late_class3_connections clock m)))
late_small clock m few =
    let left = without_late_class3_connections clock m in
    few_most 64 (length (late_waiting clock left)) IsShortFrame (flat_map (late_frames left) (late_waiting clock left)) (few_waiting clock m few)
    (few_flat IsShortFrame (late_frames left) (λ w. route_small left w.asker w.service (own w.service 0x1F []) (omega arith)) (late_waiting clock left))

-- a tick leaves requests as they are, until they are answered late
tick_waiting : (t : AdapterTable) (ms : ℕ) → length t.messaging.waiting ≤ most_waiting → length (advanced (clocked_table t ms)).1.messaging.waiting ≤ most_waiting
unfolding clocked_table expired_table produced_table
tick_waiting t ms few = few

aged_small : (next : Next) → IsSmall next.0 → length next.1.messaging.waiting ≤ most_waiting → IsSmall (aged_next next).0
aged_small next small few =
    let late = late_small next.1.clock next.1.messaging few in
    record { few_frames = late.count; short_frames = late.each; few_datagrams = small.few_datagrams; short_datagrams = small.short_datagrams }

-- the answer to a tick
pub tick_small : (t : AdapterTable) (ms : ℕ) → IsWhole t → AnswersSmall (tick t ms)
unfolding tick
tick_small t ms whole =
    either (AnswersSmall {T = AdapterTable}) (nat_lt longest_tick ms) _ _ tt
    (either (AnswersSmall {T = AdapterTable}) (nat_lt clock_end (t.clock.0 + ms)) (Err fault.ClockEnd) (Ok (aged_next (advanced (clocked_table t ms)))) tt
    (aged_small (advanced (clocked_table t ms)) (advanced_small t ms whole.shaped whole.sound.few) (tick_waiting t ms whole.messages.own.few_waiting)))

-- ---- a write

answer_small : (t : AdapterTable) (point : ℕ) (bytes : List ℕ) → length bytes ≤ 1400 → length t.rows ≤ 64 → IsSmall (write_answer (written_table t point bytes) point bytes)
unfolding written_table
answer_small t point bytes short few =
    let rows = map (written_row point) t.rows in
    let same : length rows ≤ 64 = omega (arith, length-map t.rows (written_row point), few) in
    both_small [] (map sent (productions_on_change t.clock point bytes rows)) Done [] (few_none 64 IsShortFrame)
    (sent_few rows (λ producer. bytes) (λ producer. short) (producers_on_change t.clock point rows) (passing_producers (produces_on_change t.clock point) by_number rows same))

fitting_small : (b : Bool) (t : AdapterTable) (point : ℕ) (bytes : List ℕ) (input : InputPoint) → (length bytes == input.len) ≡ b → input.len ≤ 1400 → length t.rows ≤ 64 → AnswersSmall (cond b (Ok (written (written_table t point bytes) point bytes)) (Err fault.WrongLength))
fitting_small true t point bytes input is short few = answer_small t point bytes (omega (arith, eqb-true _ _ is, short)) few
fitting_small false t point bytes input is short few = tt

found_small : (t : AdapterTable) (point : ℕ) (bytes : List ℕ) (found : Option InputPoint) → find (is_at point) t.profile.inputs ≡ found → IsShaped t.profile t.values → length t.rows ≤ 64 → AnswersSmall (write_of t point bytes found)
found_small t point bytes None is shaped few = tt
found_small t point bytes (Some input) is shaped few =
    fitting_small (length bytes == input.len) t point bytes input refl (input_len_short t.profile point input shaped.faultless is) few

-- the answer to a write
pub write_small : (t : AdapterTable) (point : ℕ) (bytes : List ℕ) → IsShaped t.profile t.values → length t.rows ≤ 64 → AnswersSmall (write t point bytes)
unfolding write
write_small t point bytes shaped few = found_small t point bytes (find (is_at point) t.profile.inputs) refl shaped few
