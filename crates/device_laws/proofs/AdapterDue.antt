-- A tick of an adapter that does nothing ends before anything is due.
use Rattle.std.proofs.Common.{◌≡◌, ◌≤◌, ◌<◌, ◌+◌, ℕ, Bool, true, false, cond, not, ◌&&◌, min, List, [], ◌∷◌, length, map, filter, Result, Ok, refl, sym, ap, subst, ◌∙◌, arith}
use Rattle.std.specs.Prelude.{nat_lt, nat_le}
use Rattle.std.specs.List.{filter_map}
use Rattle.std.specs.Option.{is_some}
use Rattle.std.proofs.lemmas.Bool.{not-true}
use Rattle.std.proofs.lemmas.Bool.Decides.{nat_tests}
use Rattle.cip_types.specs.declared.names.ConnId.{ConnId}
use Rattle.cip_types.specs.declared.names.Ms.{Ms}
use Rattle.cip_events.specs.declared.event.Answer.{Answer}
use Rattle.cip_events.specs.declared.event.Event.TheVariants.{Tick}
use Rattle.cip_events.specs.declared.event.StepFault.{StepFault}
use Rattle.cip_events.specs.declared.event.Verdict.TheVariants.{Done}
use Rattle.cip_events.specs.Answers.{plain_answer}
use Rattle.cip_events.specs.Clock.{longest_tick, clock_end}
use Rattle.cip_productions.specs.Productions.{sent, same_producer, by_due}
use Rattle.messaging.specs.declared.class3.Class3Connection.{Class3Connection}
use Rattle.messaging.specs.declared.requests.Requester.{Requester}
use Rattle.messaging.specs.declared.requests.Requester.TheVariants as asker
use Rattle.messaging.specs.declared.requests.Waiting.{Waiting}
use Rattle.messaging.specs.declared.table.Messaging.{Messaging}
use Rattle.messaging.specs.Changes.{can_be_answered, replied}
use Rattle.messaging.specs.Lemmas.EachOfLemmas.{few_left}
use Rattle.messaging.specs.Sound.{EachOf}
use Rattle.messaging.specs.Times.{is_late_class3, by_class3_deadline, late_class3_connections, on_time, without_late_class3_connections, is_late_request, late_waiting, late_text, late_reply, late_replies, without_late_waiting, aged, first_of, class3_end, request_end, first_moment}
use Rattle.adapter_table.specs.Messages.{messages_table}
use Rattle.adapter_table.specs.Connections.{Row}
use Rattle.adapter_table.specs.declared.row.State.{State}
use Rattle.adapter_table.specs.declared.row.State.TheVariants.{Established, TimedOut}
use Rattle.adapter_table.specs.declared.table.AdapterTable.{AdapterTable}
use Rattle.adapter_table.specs.declared.table.PointValue.{PointValue}
use Rattle.adapter_table.specs.Closing.{dropped_notice, unsupported, stays, staying}
use Rattle.adapter_table.specs.Productions.{is_due, state_is_due, producer_in, state_producer, producers, due_producers, due_production, due_productions}
use Rattle.adapter_table.specs.Rows.{lives, is_unsupported}
use Rattle.adapter_table.specs.Ticks.{has_expired, by_deadline, expired, expired_rows, expired_notice, expiry_notices, clocked_table, expired_table, produced_table, advanced, late_notice, aged_next, tick}
use Rattle.cip_tables.specs.declared.table.DeviceTable.{DeviceTable}
use Rattle.cip_tables.specs.declared.table.DeviceTable.TheVariants.{Adapter}
use Rattle.cip_tables.specs.Step.{step, as_adapter}
use Rattle.cip_tables.specs.Wakes.{never, connection_due, connections_due, clocked}
use Rattle.device_laws.specs.Lemmas.Lists.{all_more, all_kept}
use Rattle.device_laws.proofs.Emptied.{none_ordered, none_mapped, none_joined, none_first, none_kept, none_made}

-- ---- connections that wait

pub later : (early late : ℕ) → nat_le late early ≡ false → early < late
later early late is = grind (arith, nat_tests)

row_waits : (clock : Ms) (deadline : ℕ) (state : State) → clock.0 < never → (lives state && nat_le deadline clock.0) ≡ false → state_is_due clock state ≡ false → clock.0 < connection_due deadline state
row_waits clock deadline (Established production) below lasts rests =
    let first = later clock.0 deadline lasts in
    let second = later clock.0 production.due.0 rests in
    omega (arith, first, second)
row_waits clock deadline TimedOut below lasts rests = below

rows_wait : (clock : Ms) (rows : List Row) → clock.0 < never → filter (has_expired clock) rows ≡ [] → filter (is_due clock) rows ≡ [] → clock.0 < connections_due rows
rows_wait clock [] below unexpired resting = below
rows_wait clock (row ∷ rows) below unexpired resting =
    let lasts = none_kept (has_expired clock) row rows unexpired in
    let rests = none_kept (is_due clock) row rows resting in
    let here = row_waits clock row.deadline.0 row.state below lasts.0 rests.0 in
    let rest = rows_wait clock rows below lasts.1 rests.1 in
    omega (arith, here, rest)

-- ---- what is answered

same_rows : (clock : Ms) (rows : List Row) → filter (has_expired clock) rows ≡ [] → expired_rows clock rows ≡ rows
same_rows clock [] unexpired = refl
same_rows clock (row ∷ rows) unexpired =
    let lasts = none_kept (has_expired clock) row rows unexpired in
    rw lasts.0 (ap (λ (l : List Row). row ∷ l) (same_rows clock rows lasts.1))

all_stay : (all rows : List Row) → filter (is_unsupported all) rows ≡ [] → filter (stays all) rows ≡ rows
all_stay all [] none = refl
all_stay all (row ∷ rows) none =
    let stays_here = none_kept (is_unsupported all) row rows none in
    rw stays_here.0 (ap (λ (l : List Row). row ∷ l) (all_stay all rows stays_here.1))

has_producer : (clock : Ms) (row : Row) (state : State) → state_is_due clock state ≡ true → is_some (state_producer row state) ≡ true
has_producer clock row (Established production) due = refl
has_producer clock row TimedOut due = absurd (let e : false ≡ true = due in cc)

none_due : (clock : Ms) (rows : List Row) (values : List PointValue) → map sent (due_productions clock rows values) ≡ [] → filter (is_due clock) rows ≡ []
none_due clock rows values is =
    let due = filter (is_due clock) rows in
    let made : filter_map producer_in due ≡ [] = none_first same_producer (filter_map producer_in due) (none_ordered by_due (producers due) (none_mapped (due_production rows values) (due_producers clock rows) (none_mapped sent (due_productions clock rows values) is))) in
    none_made producer_in due (all_more (λ row. is_due clock row ≡ true) (λ row. is_some (producer_in row) ≡ true) (λ row due. has_producer clock row row.state due) due (all_kept (is_due clock) rows)) made

-- the notices and the datagrams of a tick up to this clock
quiet_rows : (clock : Ms) (rows : List Row) (values : List PointValue) → clock.0 < never → expiry_notices clock rows ≡ [] → map sent (due_productions clock (staying (expired_rows clock rows)) values) ≡ [] → clock.0 < connections_due rows
quiet_rows clock rows values below notices datagrams =
    let parts = none_joined (map expired_notice (expired clock rows)) (map dropped_notice (unsupported (expired_rows clock rows))) notices in
    let unexpired : filter (has_expired clock) rows ≡ [] = none_ordered by_deadline (filter (has_expired clock) rows) (none_mapped expired_notice (expired clock rows) parts.0) in
    let same = same_rows clock rows unexpired in
    let supported : unsupported (expired_rows clock rows) ≡ [] = none_mapped dropped_notice (unsupported (expired_rows clock rows)) parts.1 in
    let stay : staying (expired_rows clock rows) ≡ rows = all_stay (expired_rows clock rows) (expired_rows clock rows) supported ∙ same in
    let resting = none_due clock (staying (expired_rows clock rows)) values datagrams in
    rows_wait clock rows below unexpired (subst (λ (l : List Row). filter (is_due clock) l ≡ []) stay resting)

-- ---- the tick

ticked : (t : AdapterTable) (ms : ℕ) → ms ≤ longest_tick → t.clock.0 + ms ≤ clock_end → tick t ms ≡ Ok (aged_next (advanced (clocked_table t ms)))
unfolding tick
ticked t ms short inside =
    let first : nat_lt longest_tick ms ≡ false = grind (arith, nat_tests) in
    let second : nat_lt clock_end (t.clock.0 + ms) ≡ false = grind (arith, nat_tests) in
    rw (first, second) refl

pub answer_of : (answer other : Answer) (table next : DeviceTable) → ◌≡◌ {A = Result (Answer × DeviceTable) StepFault} (Ok (answer, table)) (Ok (other, next)) → answer ≡ other
answer_of answer other table next is = let pair : ◌≡◌ {A = Answer × DeviceTable} (answer, table) (other, next) = cc in ap (λ (p : Answer × DeviceTable). p.0) pair

pub table_of : (answer other : Answer) (table next : DeviceTable) → ◌≡◌ {A = Result (Answer × DeviceTable) StepFault} (Ok (answer, table)) (Ok (other, next)) → table ≡ next
table_of answer other table next is = let pair : ◌≡◌ {A = Answer × DeviceTable} (answer, table) (other, next) = cc in ap (λ (p : Answer × DeviceTable). p.1) pair

adapter_same : (t u : AdapterTable) → Adapter t ≡ Adapter u → t ≡ u
adapter_same t u is = cc

-- ---- class 3 connections and requests that wait

class3_connections_wait : (clock : Ms) (class3_connections : List Class3Connection) → clock.0 < never → filter (is_late_class3 clock) class3_connections ≡ [] → clock.0 < first_of class3_end class3_connections
class3_connections_wait clock [] below none = below
class3_connections_wait clock (d ∷ class3_connections) below none =
    let parts = none_kept (is_late_class3 clock) d class3_connections none in
    let here = later clock.0 d.deadline.0 parts.0 in
    let rest = class3_connections_wait clock class3_connections below parts.1 in
    omega (arith, here, rest)

-- no more are left than there were, so where as many are left each passes both tests
kept_step : (a b : Bool) (p : Waiting → Bool) (x : Waiting) (rest xs : List Waiting) → p x ≡ a → length rest ≤ length xs → length (x ∷ xs) ≤ length (filter p (cond b (x ∷ rest) rest)) → (length xs ≤ length (filter p rest) → EachOf (λ (w : Waiting). p w ≡ true) xs) → EachOf (λ (w : Waiting). p w ≡ true) (x ∷ xs)
kept_step true true p x rest xs is few le on = let less : length xs ≤ length (filter p rest) = drop_one is le in (is, on less) where
  drop_one : p x ≡ true → length (x ∷ xs) ≤ length (filter p (x ∷ rest)) → length xs ≤ length (filter p rest)
  drop_one passes more = counted (p x) passes more where
    counted : (b : Bool) → b ≡ true → length (x ∷ xs) ≤ length (cond b (x ∷ filter p rest) (filter p rest)) → length xs ≤ length (filter p rest)
    counted true is_so le2 = omega (arith, le2)
    counted false is_so le2 = absurd (let e : false ≡ true = is_so in cc)
kept_step false true p x rest xs is few le on = absurd (too_few is le) where
  too_few : p x ≡ false → length (x ∷ xs) ≤ length (filter p (x ∷ rest)) → ⊥
  too_few fails more = counted (p x) fails more where
    counted : (b : Bool) → b ≡ false → length (x ∷ xs) ≤ length (cond b (x ∷ filter p rest) (filter p rest)) → ⊥
    counted true is_not le2 = absurd (let e : true ≡ false = is_not in cc)
    counted false is_not le2 = let left = few_left p rest in omega (arith, le2, left, few)
kept_step a false p x rest xs is few le on = absurd (let left = few_left p rest in omega (arith, le, left, few))

all_pass_both : (p q : Waiting → Bool) (xs : List Waiting) → length xs ≤ length (filter p (filter q xs)) → EachOf (λ (w : Waiting). p w ≡ true) xs
all_pass_both p q [] le = tt
all_pass_both p q (x ∷ xs) le = kept_step (p x) (q x) p x (filter q xs) xs refl (few_left q xs) le (all_pass_both p q xs)

requests_wait : (clock : Ms) (waiting : List Waiting) → clock.0 < never → EachOf (λ (w : Waiting). not (is_late_request clock w) ≡ true) waiting → clock.0 < first_of request_end waiting
requests_wait clock [] below all = below
requests_wait clock (w ∷ waiting) below all =
    let here = later clock.0 w.deadline.0 (not-true (is_late_request clock w) all.0) in
    let rest = requests_wait clock waiting below all.1 in
    omega (arith, here, rest)

replied_waiting : (m : Messaging) (id : ConnId) (count : ℕ) (reply : List ℕ) → (replied m id count reply).waiting ≡ m.waiting
unfolding replied
replied_waiting m id count reply = refl

late_reply_waiting : (from : Requester) (service : ℕ) (m : Messaging) → (late_reply from service m).waiting ≡ m.waiting
late_reply_waiting (asker.Peer node) service m = refl
late_reply_waiting (asker.Stream number context) service m = refl
late_reply_waiting (asker.Class3Connection id count) service m = replied_waiting m id count (late_text service)

late_replies_waiting : (waiting : List Waiting) (m : Messaging) → (late_replies waiting m).waiting ≡ m.waiting
late_replies_waiting [] m = refl
late_replies_waiting (w ∷ waiting) m = late_replies_waiting waiting (late_reply w.asker w.service m) ∙ late_reply_waiting w.asker w.service m

aged_waiting : (clock : Ms) (m : Messaging) → (aged clock m).waiting ≡ filter (λ w. not (is_late_request clock w)) (filter (can_be_answered (on_time clock m.class3_connections)) m.waiting)
unfolding aged without_late_waiting without_late_class3_connections
aged_waiting clock m =
    late_replies_waiting (late_waiting clock (without_late_class3_connections clock m)) (record (without_late_class3_connections clock m) { waiting = filter (λ w. not (is_late_request clock w)) (without_late_class3_connections clock m).waiting })

messages_wait : (clock : Ms) (m : Messaging) → clock.0 < never → late_class3_connections clock m ≡ [] → length (aged clock m).waiting ≡ length m.waiting → clock.0 < first_moment m
unfolding first_moment
messages_wait clock m below none same =
    let first = class3_connections_wait clock m.class3_connections below (none_ordered by_class3_deadline (filter (is_late_class3 clock) m.class3_connections) none) in
    let left = ap (length {A = Waiting}) (aged_waiting clock m) in
    let all = all_pass_both (λ w. not (is_late_request clock w)) (can_be_answered (on_time clock m.class3_connections)) m.waiting (omega (arith, left, same)) in
    let second = requests_wait clock m.waiting below all in
    omega (arith, first, second)

quiet_answer : (t : AdapterTable) (ms : ℕ) → t.clock.0 + ms < never → (aged_next (advanced (clocked_table t ms))).0 ≡ plain_answer Done → (aged_next (advanced (clocked_table t ms))).1 ≡ clocked_table t ms → t.clock.0 + ms < min (connections_due t.rows) (first_moment t.messaging)
unfolding clocked_table expired_table produced_table messages_table
quiet_answer t ms below is same =
    let clock : Ms = record { 0 = t.clock.0 + ms } in
    let parts = none_joined (expiry_notices (record { 0 = t.clock.0 + ms }) t.rows) (map late_notice (late_class3_connections (record { 0 = t.clock.0 + ms }) t.messaging)) (ap (λ (a : Answer). a.notices) is) in
    let rows = quiet_rows (record { 0 = t.clock.0 + ms }) t.rows t.values below parts.0 (ap (λ (a : Answer). a.datagrams) is) in
    let messages = messages_wait (record { 0 = t.clock.0 + ms }) t.messaging below (none_mapped late_notice (late_class3_connections (record { 0 = t.clock.0 + ms }) t.messaging) parts.1) (ap (λ (u : AdapterTable). length u.messaging.waiting) same) in
    omega (arith, rows, messages)

pub adapter_waits : (t : AdapterTable) (ms : ℕ) → ms ≤ longest_tick → t.clock.0 + ms ≤ clock_end → step (Adapter t) (Tick ms) ≡ Ok (plain_answer Done, clocked (Adapter t) ms) → t.clock.0 + ms < min (connections_due t.rows) (first_moment t.messaging)
unfolding step
adapter_waits t ms short inside is =
    let next = aged_next (advanced (clocked_table t ms)) in
    let said = sym (ap as_adapter (ticked t ms short inside)) ∙ is in
    quiet_answer t ms (omega (arith, inside)) (answer_of next.0 (plain_answer Done) (Adapter next.1) (clocked (Adapter t) ms) said)
    (adapter_same next.1 (clocked_table t ms) (table_of next.0 (plain_answer Done) (Adapter next.1) (clocked (Adapter t) ms) said))
