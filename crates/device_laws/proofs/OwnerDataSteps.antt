-- After each event the owner of an output was there before it in its mode, or the event brought its newest data.
use Rattle.std.proofs.Common.{◌≡◌, ◌⊎◌, inl, inr, ℕ, ◌+◌, ◌==◌, Bool, true, false, cond, not, ◌||◌, ◌&&◌, List, [], ◌∷◌, length, map, filter, find, Option, Some, None, Result, Ok, Err, refl, sym, ◌∙◌, ap, subst, eq-eqb, arith}
use Rattle.std.specs.List.{AllByRecursion, list_any}
use Rattle.std.proofs.lemmas.Bool.{eqb-true, and_parts, or_parts, or_right}
use Rattle.std.proofs.lemmas.Bool.Decides.{nat_tests}
use Rattle.std.proofs.lemmas.List.Folds.{list_any-append}
use Rattle.std.proofs.lemmas.Option.{same_Some}
use Rattle.base_lemmas.specs.Booleans.{and_none}
use Rattle.base_lemmas.specs.Lists.{found_passes}
use Rattle.cip_types.specs.declared.names.ConnId.{ConnId}
use Rattle.cip_types.specs.declared.names.Ms.{Ms}
use Rattle.cip_types.specs.declared.names.Node.{Node}
use Rattle.cip_types.specs.IdLaws.{ids_differ}
use Rattle.cip_datagram.specs.declared.datagram.DatagramFault.{DatagramFault}
use Rattle.cip_datagram.specs.Datagram.{DatagramFields}
use Rattle.cip_datagram.specs.Header.{header_at}
use Rattle.cip_datagram.specs.Reading.{datagram_reading}
use Rattle.cip_events.specs.declared.event.Delivery.{Delivery}
use Rattle.cip_events.specs.declared.event.Delivery.TheVariants.{Applied, Idle, Heartbeat, Duplicate, Old, UnknownId, WrongSize, Malformed}
use Rattle.cip_events.specs.declared.event.Event.{Event}
use Rattle.cip_events.specs.declared.event.Event.TheVariants.{Datagram, Write, Tick}
use Rattle.cip_events.specs.Answers.{is_accepted}
use Rattle.cip_fwdopen.specs.Open.{OpenFields}
use Rattle.cip_productions.specs.declared.acceptance.Accepted.{Accepted}
use Rattle.adapter_table.specs.StatedLimits.{accepts_at}
use Rattle.cip_productions.specs.Acceptance.{is_duplicate}
use Rattle.cip_productions.specs.Kinds.{is_owner}
use Rattle.adapter_table.specs.declared.profile.Profile.{Profile}
use Rattle.adapter_table.specs.declared.row.Mode.{Mode}
use Rattle.adapter_table.specs.declared.row.Mode.TheVariants as mode
use Rattle.adapter_table.specs.declared.row.State.{State}
use Rattle.adapter_table.specs.declared.row.State.TheVariants.{TimedOut}
use Rattle.adapter_table.specs.declared.table.AdapterTable.{AdapterTable}
use Rattle.adapter_table.specs.Checks.{Admitted}
use Rattle.adapter_table.specs.Closing.{without_triad, stays, closed_table}
use Rattle.messaging.specs.declared.table.Messaging.{Messaging}
use Rattle.adapter_table.specs.Messages.{messages_table}
use Rattle.adapter_table.specs.Connections.{Row}
use Rattle.adapter_table.specs.Datagrams.{is_for, expected_len, run_bit, moded, accepted_delivery, row_delivery, mode_after, accepted_row, accepted_if_for, accepted_table, judged_datagram, found_datagram, datagram_of, received}
use Rattle.adapter_table.specs.Newest.{Acceptance, acceptance_of, accepted_found, accepted_read, accepted_at, was_opened_as}
use Rattle.adapter_table.specs.Opening.{opened_row, opened_table, is_replaced}
use Rattle.adapter_table.specs.Productions.{produced_state, produced_row, changed_state, changed_row}
use Rattle.adapter_table.specs.Profiles.{is_output_at}
use Rattle.adapter_table.specs.Requests.{Next}
use Rattle.adapter_table.specs.Rows.{lives, is_established, has_triad, drives, drivers, written_state, written_row}
use Rattle.adapter_table.specs.Scratch.{or_else, left_accepted, accepted_by, read_accepted, lost, left_at}
use Rattle.adapter_table.specs.Sound.{IsDrawn, IsSound, OpensBefore}
use Rattle.adapter_table.specs.Step.{adapter_step, written_table, changed_table}
use Rattle.adapter_table.specs.Streams.{with_stream, without_stream, registered_table}
use Rattle.adapter_table.specs.Ticks.{has_expired, expired_row, expired_rows, clocked_table, expired_table, produced_table, advanced}
use Rattle.adapter_table.specs.EachLemmas.{each_found, two_weak, two_found}
use Rattle.adapter_table.specs.Lemmas.ControlLemmas.{control_does}
use Rattle.adapter_table.specs.Lemmas.EffectLemmas.{IsWrite, write_is, IsTick, tick_is}
use Rattle.adapter_table.specs.Lemmas.LikeLemmas.{lives_written, lives_due, lives_changed}
use Rattle.adapter_table.specs.Lemmas.RequestLemmas.{RequestsDo, next_is}
use Rattle.adapter_table.specs.Lemmas.SoundLemmas.{any_filter}
use Rattle.device_laws.specs.OwnerData.{delivered_found, delivered_read, delivered_at}
use Rattle.device_laws.proofs.OneOwner.{any_mapped, found_alone}

-- ---- the owner of an output, its mode, and the count of its newest datagram

abbrev pub same_mode : Mode → Mode → Bool
same_mode mode.Run mode.Run = true
same_mode mode.Idle mode.Idle = true
same_mode a b = false

abbrev pub has_mode : Mode → Option Mode → Bool
has_mode moded None = false
has_mode moded (Some known) = same_mode known moded

-- the last datagram has the known count; none is known where there is none
abbrev pub has_count : Option ℕ → Option Accepted → Bool
has_count None None = true
has_count (Some count) (Some last) = last.count == count
has_count known last = false

-- the owner of an output, by its opening number; its mode; the count of the last datagram that it accepted, if any
pub record Ownership : Type 0 where
  pub point : ℕ
  pub opening : ℕ
  pub moded : Mode
  pub known : Option ℕ

-- the connection is that owner, in that mode and with that count
abbrev pub owns : Ownership → Row → Bool
owns o row = drives o.point row && (has_mode o.moded row.mode && (has_count o.known row.last && was_opened_as o.opening row))

-- one of the connections does
abbrev pub is_owned : Ownership → AdapterTable → Bool
is_owned o t = list_any (owns o) t.rows

pub record Owns (o : Ownership) (row : Row) : Type 0 where
  pub driver : drives o.point row ≡ true
  pub mode : has_mode o.moded row.mode ≡ true
  pub counted : has_count o.known row.last ≡ true
  pub opening : row.opening ≡ o.opening

owns_parts : (o : Ownership) (row : Row) → owns o row ≡ true → Owns o row
owns_parts o row is =
    let first = and_parts (drives o.point row) _ is in
    let second = and_parts (has_mode o.moded row.mode) _ first.1 in
    let third = and_parts (has_count o.known row.last) _ second.1 in
    record { driver = first.0; mode = second.0; counted = third.0; opening = eqb-true row.opening o.opening third.1 }

-- ---- each effect but a datagram leaves no owner where there was none

both_false : (a b : Bool) → a ≡ false → b ≡ false → (a || b) ≡ false
both_false true b first second = absurd (let e = first in cc)
both_false false b first second = second

none_mapped : (s : Row → Bool) (f : Row → Row) → ((row : Row) → s row ≡ false → s (f row) ≡ false) → (rows : List Row) → list_any s rows ≡ false → list_any s (map f rows) ≡ false
none_mapped s f keeps [] none = refl
none_mapped s f keeps (row ∷ rows) none =
    let parts = or_parts (s row) (list_any s rows) none in
    both_false (s (f row)) (list_any s (map f rows)) (keeps row parts.0) (none_mapped s f keeps rows parts.1)

-- the same connection, established or not as before
owns_same : (o : Ownership) (row : Row) (state : State) → lives state ≡ lives row.state → owns o row ≡ false → owns o (record row { state = state }) ≡ false
owns_same o row state same none =
    ap (λ (b : Bool). (b && (is_owner row.kind && row.consumed == o.point)) && (has_mode o.moded row.mode && (has_count o.known row.last && was_opened_as o.opening row))) same ∙ none

owns_if : (b : Bool) (o : Ownership) (row : Row) (state : State) → lives state ≡ lives row.state → owns o row ≡ false → owns o (cond b (record row { state = state }) row) ≡ false
owns_if true o row state same none = owns_same o row state same none
owns_if false o row state same none = none

owns_expired : (b : Bool) (o : Ownership) (row : Row) → owns o row ≡ false → owns o (cond b (record row { state = TimedOut }) row) ≡ false
owns_expired true o row none = refl
owns_expired false o row none = none

-- none owns the output so
abbrev Unowned : Ownership → AdapterTable → Type 0
Unowned o t = is_owned o t ≡ false

unowned_opened : (o : Ownership) (t : AdapterTable) (peer : Node) (request : OpenFields) (admitted : Admitted) → Unowned o t → Unowned o (opened_table t (opened_row t peer request admitted) admitted)
unfolding opened_table opened_row
unowned_opened o t peer request admitted none =
    let row = opened_row t peer request admitted in
    let s = owns o in
    let left = filter (λ (r : Row). not (is_replaced t.rows request.triad r)) t.rows in
    list_any-append s left (row ∷ [])
    ∙ both_false (list_any s left) (list_any s (row ∷ [])) (any_filter (λ (r : Row). not (is_replaced t.rows request.triad r)) s t.rows none)
    (both_false (s row) false (and_none (drives o.point row)) refl)

unowned_closed : (o : Ownership) (t : AdapterTable) (row : Row) → Unowned o t → Unowned o (closed_table t row)
unfolding closed_table
unowned_closed o t row none =
    let s = owns o in
    let left = without_triad row.triad t.rows in
    any_filter (stays left) s left (any_filter (λ (r : Row). not (has_triad row.triad r)) s t.rows none)

unowned_written : (o : Ownership) (t : AdapterTable) (other : ℕ) (bytes : List ℕ) → Unowned o t → Unowned o (changed_table (written_table t other bytes) other)
unfolding written_table changed_table
unowned_written o t other bytes none =
    let s = owns o in
    none_mapped s (changed_row t.clock other) (λ row. owns_if (row.produced == other) o row (changed_state t.clock row.t_o_api_ms row.state) (lives_changed t.clock row.t_o_api_ms row.state)) (map (written_row other) t.rows)
    (none_mapped s (written_row other) (λ row. owns_if (row.produced == other) o row (written_state row.state) (lives_written row.state)) t.rows none)

unowned_advanced : (o : Ownership) (t : AdapterTable) (ms : ℕ) → Unowned o t → Unowned o (produced_table (expired_table (clocked_table t ms)))
unfolding clocked_table expired_table produced_table
unowned_advanced o t ms none =
    let s = owns o in
    let clock : Ms = record { 0 = t.clock.0 + ms } in
    let left = expired_rows clock t.rows in
    none_mapped s (produced_row clock) (λ row. owns_same o row (produced_state clock row.t_o_api_ms row.state) (lives_due clock row.t_o_api_ms row.state)) (filter (stays left) left)
    (any_filter (stays left) s left
    (none_mapped s (expired_row clock) (λ row. owns_expired (has_expired clock row) o row) t.rows none))

unowned_with : (o : Ownership) (t : AdapterTable) (number : ℕ) (peer : Node) → Unowned o t → Unowned o (with_stream t number peer)
unfolding with_stream
unowned_with o t number peer none = none

unowned_without : (o : Ownership) (t : AdapterTable) (number : ℕ) → Unowned o t → Unowned o (without_stream t number)
unfolding without_stream
unowned_without o t number none = none

unowned_registered : (o : Ownership) (t : AdapterTable) (number : ℕ) → Unowned o t → Unowned o (registered_table t number)
unfolding registered_table
unowned_registered o t number none = none

unowned_messaged : (o : Ownership) (t : AdapterTable) (next_id : ℕ) (m : Messaging) → Unowned o t → Unowned o (messages_table t next_id m)
unfolding messages_table
unowned_messaged o t next_id m none = none

requests_leave_none : (o : Ownership) → RequestsDo (λ t next. Unowned o t → Unowned o next)
requests_leave_none o = record {
  stays = λ t none. none;
  opened = λ t peer request admitted is none. unowned_opened o t peer request admitted none;
  closed = λ t triad row found none. unowned_closed o t row none;
  unstreamed = λ t number none. unowned_without o t number none;
  registered = λ t number none. unowned_registered o t number none;
  messaged = λ t next_id m goes none. unowned_messaged o t next_id m none;
  counted = λ t next openings keeps. keeps;
  tallied = λ t next counters keeps. keeps;
  taken = λ t block may none. none;
}

found_step : (b : Bool) (p q : Row → Bool) (first row : Row) (rows : List Row) → cond b (Some first) (find p rows) ≡ Some row → q row ≡ true → (find p rows ≡ Some row → list_any q rows ≡ true) → (q first || list_any q rows) ≡ true
found_step true p q first row rows is passes more = let same : first ≡ row = same_Some first row is in rw (same, passes) refl
found_step false p q first row rows is passes more = or_right (q first) (list_any q rows) (more is)

-- a connection that is found and passes another test is among those that pass it
pub found_any : (p q : Row → Bool) (rows : List Row) (row : Row) → find p rows ≡ Some row → q row ≡ true → list_any q rows ≡ true
found_any p q [] row is passes = absurd (let e = is in cc)
found_any p q (first ∷ rows) row is passes = found_step (p first) p q first row rows is passes (λ later. found_any p q rows row later passes)

turned : (a b : Bool) → (a ≡ false → b ≡ false) → b ≡ true → a ≡ true
turned true b keeps is = refl
turned false true keeps is = absurd (let e = keeps refl in cc)
turned false false keeps is = is

-- ---- an output with an owner has lost none

weak_step : (a b c d : Bool) → (a || b) ≡ true → (a ≡ true → c ≡ true) → (b ≡ true → d ≡ true) → (c || d) ≡ true
weak_step true b c d is first rest = rw (first refl) refl
weak_step false b c d is first rest = or_right c d (rest is)

any_weak : (s q : Row → Bool) → ((row : Row) → s row ≡ true → q row ≡ true) → (rows : List Row) → list_any s rows ≡ true → list_any q rows ≡ true
any_weak s q weak [] is = is
any_weak s q weak (row ∷ rows) is = weak_step (s row) (list_any s rows) (q row) (list_any q rows) is (weak row) (any_weak s q weak rows)

driven : (o : Ownership) (t : AdapterTable) → is_owned o t ≡ true → list_any (drives o.point) t.rows ≡ true
driven o t is = any_weak (owns o) (drives o.point) (λ row owned. (owns_parts o row owned).driver) t.rows is

none_lost : (a b : Bool) (left : Option (List ℕ)) → b ≡ true → cond (a && not b) left None ≡ None
none_lost true true left is = refl
none_lost true false left is = absurd (let e = is in cc)
none_lost false b left is = refl

or_nothing : (first second : Option (List ℕ)) → second ≡ None → or_else first second ≡ first
or_nothing None second is = is
or_nothing (Some left) second is = refl

-- ---- what an event does for an owner that is there after it

-- the delivery that brings this mode
abbrev pub brings : Mode → Delivery
brings mode.Run = Applied
brings mode.Idle = Idle

-- an accepted datagram has the known count
abbrev pub RepeatsKnown : Option ℕ → Acceptance → Type 0
RepeatsKnown known accepted = known ≡ Some accepted.datagram.count

-- the event is a datagram that brought the newest data, and left this at the output
pub record Brings (o : Ownership) (profile : Profile) (said : Option (DatagramFields × Delivery)) (left : Option (List ℕ)) : Type 0 where
  pub d : DatagramFields
  pub is : said ≡ Some (d, brings o.moded)
  pub counted : o.known ≡ Some d.count
  pub leaves : left ≡ left_accepted (find (is_output_at o.point) profile.outputs) d (brings o.moded)

-- the owner was there before, accepted no new data, and the event left nothing at the output
pub record Remains (o : Ownership) (t : AdapterTable) (accepted : List Acceptance) (left : Option (List ℕ)) : Type 0 where
  pub owned : is_owned o t ≡ true
  pub repeated : AllByRecursion (RepeatsKnown o.known) accepted
  pub untouched : left ≡ None

abbrev pub Goes : Ownership → AdapterTable → Option (DatagramFields × Delivery) → List Acceptance → Option (List ℕ) → Type 0
Goes o t said accepted left = Brings o t.profile said left ⊎ Remains o t accepted left

-- ---- a delivery

-- the delivery of an accepted datagram, by its connection
accepted_same : (sized newer : Bool) (what : Delivery) → is_accepted (cond sized (cond newer what Old) WrongSize) ≡ true → what ≡ cond sized (cond newer what Old) WrongSize
accepted_same true true what is = refl
accepted_same true false what is = absurd (let e = is in cc)
accepted_same false newer what is = absurd (let e = is in cc)

delivers : (profile : Profile) (clock : Ms) (row : Row) (d : DatagramFields) (delivery : Delivery) → row_delivery profile clock row d ≡ delivery → is_accepted delivery ≡ true → accepted_delivery row d ≡ delivery
delivers profile clock row d delivery is accepted =
    accepted_same (length d.payload == expected_len profile row) (accepts_at profile.limits.newer clock row d.sequence) (accepted_delivery row d) (ap is_accepted is ∙ accepted) ∙ is

abbrev by_parts : Bool → Bool → Bool → Delivery
by_parts owner duplicate run = cond owner (cond duplicate Duplicate (cond run Applied Idle)) Heartbeat

applied_owns : (owner duplicate run : Bool) → by_parts owner duplicate run ≡ Applied → owner ≡ true
applied_owns true duplicate run is = refl
applied_owns false duplicate run is = absurd (let e = is in cc)

idle_owns : (owner duplicate run : Bool) → by_parts owner duplicate run ≡ Idle → owner ≡ true
idle_owns true duplicate run is = refl
idle_owns false duplicate run is = absurd (let e = is in cc)

heartbeat_owns_not : (owner duplicate run : Bool) → by_parts owner duplicate run ≡ Heartbeat → owner ≡ false
heartbeat_owns_not true true run is = absurd (let e = is in cc)
heartbeat_owns_not true false true is = absurd (let e = is in cc)
heartbeat_owns_not true false false is = absurd (let e = is in cc)
heartbeat_owns_not false duplicate run is = refl

duplicate_repeats : (owner duplicate run : Bool) → by_parts owner duplicate run ≡ Duplicate → duplicate ≡ true
duplicate_repeats true true run is = refl
duplicate_repeats true false true is = absurd (let e = is in cc)
duplicate_repeats true false false is = absurd (let e = is in cc)
duplicate_repeats false duplicate run is = absurd (let e = is in cc)

-- ---- connections of one opening number

abbrev AloneOpened : Row → Row → Type 0
AloneOpened a b = a.opening ≡ b.opening → a ≡ b

alone_back : (a b : Row) → AloneOpened a b → AloneOpened b a
alone_back a b is = λ same. sym (is (sym same))

one_opened : (t : AdapterTable) (p q : Row → Bool) (row other : Row) → IsSound t → find p t.rows ≡ Some row → find q t.rows ≡ Some other → other.opening ≡ row.opening → other ≡ row
one_opened t p q row other sound found there =
    each_found (λ (r : Row). AloneOpened r row) q t.rows other there
    (two_found AloneOpened alone_back p t.rows row found (λ _. refl)
    (two_weak OpensBefore AloneOpened (λ a b before same. absurd (omega arith)) t.rows sound.producers.openings_rise))

id_of : (peer : Node) (id : ℕ) (row : Row) → is_for peer id row ≡ true → row.o_t_id.0 ≡ id
id_of peer id row is = eqb-true _ _ (and_parts (row.peer.0 == peer.0) _ (and_parts (is_established row) _ is).1).1

-- two connections that one datagram is for have one opening number
for_one : (t : AdapterTable) (peer : Node) (id : ℕ) (q : Row → Bool) (row other : Row) → IsSound t → find (is_for peer id) t.rows ≡ Some row → find q t.rows ≡ Some other → is_for peer id other ≡ true → other.opening ≡ row.opening
for_one t peer id q row other sound found there for_it =
    let left = sound.ids_are_left in
    let first = each_found (IsDrawn t.ids t.next_id) (is_for peer id) t.rows row found sound.ids_are_drawn in
    let second = each_found (IsDrawn t.ids t.next_id) q t.rows other there sound.ids_are_drawn in
    let first_below = first.below in
    let second_below = second.below in
    ids_differ t.ids other.opening row.opening sound.blocks second.begins (omega (arith, left, second_below)) first.begins (omega (arith, left, first_below))
    (ap (λ (i : ConnId). i.0) (sym second.id) ∙ id_of peer id other for_it ∙ sym (id_of peer id row (found_passes (is_for peer id) t.rows row found)) ∙ ap (λ (i : ConnId). i.0) first.id)

-- ---- what a datagram does

known_count : (known : Option ℕ) (last : Accepted) → has_count known (Some last) ≡ true → known ≡ Some last.count
known_count None last is = absurd (let e = is in cc)
known_count (Some count) last is = ap (λ (n : ℕ). Some n) (sym (eqb-true last.count count is))

counted_before : (known : Option ℕ) (last : Option Accepted) (count : ℕ) → is_duplicate last count ≡ true → known ≡ Some count → has_count known last ≡ true
counted_before known None count duplicate is = absurd (let e = duplicate in cc)
counted_before known (Some last) count duplicate is =
    subst (λ (k : Option ℕ). has_count k (Some last) ≡ true) (sym is) (eq-eqb last.count count (sym (eqb-true count last.count duplicate)))

pub all_four : (a b c d : Bool) → a ≡ true → b ≡ true → c ≡ true → d ≡ true → (a && (b && (c && d))) ≡ true
all_four a b c d first second third fourth = rw (first, second, third, fourth) refl

all_three : (a b c : Bool) → a ≡ true → b ≡ true → c ≡ true → (a && (b && c)) ≡ true
all_three a b c first second third = rw (first, second, third) refl

abbrev no_bytes : Option (List ℕ)
no_bytes = None

left_here : (b : Bool) (left : Option (List ℕ)) → b ≡ true → cond b left None ≡ left
left_here true left is = refl
left_here false left is = absurd (let e = is in cc)

still_none : (b : Bool) → cond b None None ≡ no_bytes
still_none true = refl
still_none false = refl

-- the connection that owned the output before the datagram, if one owns it after it
record OwnedBefore (o : Ownership) (t : AdapterTable) (f : Row → Row) : Type 0 where
  row : Row
  there : find (λ r. owns o (f r)) t.rows ≡ Some row
  owned : owns o (f row) ≡ true

found_in : (b : Bool) (p : Row → Bool) (first : Row) (rows : List Row) → (b || list_any p rows) ≡ true → (list_any p rows ≡ true → (row : Row) × (find p rows ≡ Some row)) → (row : Row) × (cond b (Some first) (find p rows) ≡ Some row)
found_in true p first rows is more = (first, refl)
found_in false p first rows is more = more is

any_found : (p : Row → Bool) (rows : List Row) → list_any p rows ≡ true → (row : Row) × (find p rows ≡ Some row)
any_found p [] is = absurd (let e = is in cc)
any_found p (first ∷ rows) is = found_in (p first) p first rows is (any_found p rows)

owned_before : (o : Ownership) (t : AdapterTable) (f : Row → Row) → list_any (owns o) (map f t.rows) ≡ true → OwnedBefore o t f
owned_before o t f is =
    let found = any_found (λ r. owns o (f r)) t.rows (sym (any_mapped (owns o) f t.rows) ∙ is) in
    record { row = found.0; there = found.1; owned = found_passes (λ r. owns o (f r)) t.rows found.0 found.1 }

-- ---- of another connection

first_row : (a b : Row) (rows : List Row) → rows ≡ a ∷ [] → rows ≡ b ∷ [] → a ≡ b
first_row a b rows one other = cc

kept_opening : (b : Bool) (clock : Ms) (d : DatagramFields) (row : Row) → (cond b (accepted_row clock d row) row).opening ≡ row.opening
kept_opening true clock d row = refl
kept_opening false clock d row = refl

kept_driver : (b : Bool) (point : ℕ) (clock : Ms) (d : DatagramFields) (row : Row) → drives point (cond b (accepted_row clock d row) row) ≡ drives point row
kept_driver true point clock d row = refl
kept_driver false point clock d row = refl

-- the owner is another connection, so the datagram is not for it
owned_so : (b : Bool) (o : Ownership) (clock : Ms) (d : DatagramFields) (row : Row) → (b ≡ true → ⊥) → owns o (cond b (accepted_row clock d row) row) ≡ true → owns o row ≡ true
owned_so true o clock d row other owned = absurd (other refl)
owned_so false o clock d row other owned = owned

differs : (a b c : ℕ) → (a == c) ≡ false → b ≡ a → b ≡ c → ⊥
differs a b c other same is = grind (arith, nat_tests)

-- a datagram for a connection that does not drive the output leaves nothing there
left_beside : (point : ℕ) (t : AdapterTable) (d : DatagramFields) (row : Row) (delivery : Delivery) → accepted_delivery row d ≡ delivery → is_accepted delivery ≡ true → is_established row ≡ true → (drives point row ≡ true → ⊥) → cond (row.consumed == point) (left_accepted (find (is_output_at point) t.profile.outputs) d delivery) None ≡ no_bytes
left_beside point t d row delivery is accepted lives other = beside (row.consumed == point) refl delivery is accepted where
  owner_here : (b : Bool) → (row.consumed == point) ≡ b → b ≡ true → is_owner row.kind ≡ true → ⊥
  owner_here b here at owner = other (all_three (is_established row) (is_owner row.kind) (row.consumed == point) lives owner (here ∙ at))

  beside : (b : Bool) → (row.consumed == point) ≡ b → (delivery : Delivery) → accepted_delivery row d ≡ delivery → is_accepted delivery ≡ true → cond b (left_accepted (find (is_output_at point) t.profile.outputs) d delivery) None ≡ no_bytes
  beside false here delivery is accepted = refl
  beside true here Applied is accepted = absurd (owner_here true here refl (applied_owns (is_owner row.kind) (is_duplicate row.last d.count) (run_bit (header_at d.payload)) is))
  beside true here Idle is accepted = absurd (owner_here true here refl (idle_owns (is_owner row.kind) (is_duplicate row.last d.count) (run_bit (header_at d.payload)) is))
  beside true here Heartbeat is accepted = refl
  beside true here Duplicate is accepted = refl
  beside true here Old is accepted = refl
  beside true here UnknownId is accepted = refl
  beside true here WrongSize is accepted = refl
  beside true here Malformed is accepted = refl

fed_other : (o : Ownership) (t : AdapterTable) (peer : Node) (d : DatagramFields) (row : Row) (delivery : Delivery) → find (is_for peer d.connection) t.rows ≡ Some row → IsSound t → accepted_delivery row d ≡ delivery → is_accepted delivery ≡ true → (row.opening == o.opening) ≡ false → OwnedBefore o t (accepted_if_for t.clock peer d) → Remains o t [] (cond (row.consumed == o.point) (left_accepted (find (is_output_at o.point) t.profile.outputs) d delivery) None)
fed_other o t peer d row delivery found sound is accepted other before =
    let parts = owns_parts o (accepted_if_for t.clock peer d before.row) before.owned in
    let to = is_for peer d.connection before.row in
    let opened : before.row.opening ≡ o.opening = sym (kept_opening to t.clock d before.row) ∙ parts.opening in
    let same_opening = λ (same : before.row.opening ≡ row.opening). differs row.opening before.row.opening o.opening other same opened in
    let not_for = λ (for_it : is_for peer d.connection before.row ≡ true). same_opening (for_one t peer d.connection (λ r. owns o (accepted_if_for t.clock peer d r)) row before.row sound found before.there for_it) in
    let own = owned_so to o t.clock d before.row not_for before.owned in
    let drives_it : drives o.point before.row ≡ true = sym (kept_driver to o.point t.clock d before.row) ∙ parts.driver in
    let no_driver = λ (driver : drives o.point row ≡ true).
    same_opening (ap (λ (r : Row). r.opening) (first_row before.row row (drivers o.point t.rows)
    (found_alone (λ r. owns o (accepted_if_for t.clock peer d r)) (drives o.point) t.rows before.row before.there drives_it (sound.one_owner o.point))
    (found_alone (is_for peer d.connection) (drives o.point) t.rows row found driver (sound.one_owner o.point)))) in
    record {
      owned = found_any (λ r. owns o (accepted_if_for t.clock peer d r)) (owns o) t.rows before.row before.there own;
      repeated = tt;
      untouched = left_beside o.point t d row delivery is accepted (and_parts (is_established row) _ (found_passes (is_for peer d.connection) t.rows row found)).0 no_driver;
    }

-- ---- of the owner itself

abbrev OwnGoes : Ownership → AdapterTable → DatagramFields → Row → Delivery → Type 0
OwnGoes o t d row delivery = Goes o t (Some (d, delivery)) (acceptance_of d delivery ∷ []) (cond (row.consumed == o.point) (left_accepted (find (is_output_at o.point) t.profile.outputs) d delivery) None)

driver_consumes : (point : ℕ) (row : Row) → drives point row ≡ true → (row.consumed == point) ≡ true
driver_consumes point row is = (and_parts (is_owner row.kind) _ (and_parts (is_established row) _ is).1).1

driver_owns : (point : ℕ) (row : Row) → drives point row ≡ true → is_owner row.kind ≡ true
driver_owns point row is = (and_parts (is_owner row.kind) _ (and_parts (is_established row) _ is).1).0

-- new data bring their mode
brought : (o : Ownership) (t : AdapterTable) (d : DatagramFields) (row : Row) (delivery : Delivery) → delivery ≡ brings o.moded → drives o.point row ≡ true → o.known ≡ Some d.count → Brings o t.profile (Some (d, delivery)) (cond (row.consumed == o.point) (left_accepted (find (is_output_at o.point) t.profile.outputs) d delivery) None)
brought o t d row delivery is driver counted = record {
  d = d;
  is = ap (λ (x : Delivery). Some (d, x)) is;
  counted = counted;
  leaves = left_here (row.consumed == o.point) (left_accepted (find (is_output_at o.point) t.profile.outputs) d delivery) (driver_consumes o.point row driver) ∙ ap (left_accepted (find (is_output_at o.point) t.profile.outputs) d) is;
}

run_brings : (moded : Mode) → same_mode mode.Run moded ≡ true → Applied ≡ brings moded
run_brings mode.Run is = refl
run_brings mode.Idle is = absurd (let e = is in cc)

idle_brings : (moded : Mode) → same_mode mode.Idle moded ≡ true → Idle ≡ brings moded
idle_brings mode.Run is = absurd (let e = is in cc)
idle_brings mode.Idle is = refl

fed_own : (o : Ownership) (t : AdapterTable) (peer : Node) (d : DatagramFields) (row : Row) (delivery : Delivery) → find (is_for peer d.connection) t.rows ≡ Some row → accepted_delivery row d ≡ delivery → is_accepted delivery ≡ true → drives o.point row ≡ true → has_mode o.moded (mode_after delivery row.mode) ≡ true → o.known ≡ Some d.count → row.opening ≡ o.opening → OwnGoes o t d row delivery
fed_own o t peer d row Applied found is accepted driver moded counted opened = inl (brought o t d row Applied (run_brings o.moded moded) driver counted)
fed_own o t peer d row Idle found is accepted driver moded counted opened = inl (brought o t d row Idle (idle_brings o.moded moded) driver counted)
fed_own o t peer d row Heartbeat found is accepted driver moded counted opened =
    let never = heartbeat_owns_not (is_owner row.kind) (is_duplicate row.last d.count) (run_bit (header_at d.payload)) is in
    let does = driver_owns o.point row driver in
    absurd (let e : true ≡ false = sym does ∙ never in cc)
fed_own o t peer d row Duplicate found is accepted driver moded counted opened =
    let repeats = duplicate_repeats (is_owner row.kind) (is_duplicate row.last d.count) (run_bit (header_at d.payload)) is in
    inr (record {
      owned = found_any (is_for peer d.connection) (owns o) t.rows row found
          (all_four (drives o.point row) (has_mode o.moded row.mode) (has_count o.known row.last) (was_opened_as o.opening row) driver moded
          (counted_before o.known row.last d.count repeats counted) (eq-eqb row.opening o.opening opened));
      repeated = (counted, tt);
      untouched = still_none (row.consumed == o.point);
    })
fed_own o t peer d row Old found is accepted driver moded counted opened = absurd (let e = accepted in cc)
fed_own o t peer d row UnknownId found is accepted driver moded counted opened = absurd (let e = accepted in cc)
fed_own o t peer d row WrongSize found is accepted driver moded counted opened = absurd (let e = accepted in cc)
fed_own o t peer d row Malformed found is accepted driver moded counted opened = absurd (let e = accepted in cc)

-- the owner after the datagram is its connection
own_before : (o : Ownership) (t : AdapterTable) (peer : Node) (d : DatagramFields) (row : Row) → find (is_for peer d.connection) t.rows ≡ Some row → IsSound t → (row.opening == o.opening) ≡ true → OwnedBefore o t (accepted_if_for t.clock peer d) → owns o (accepted_row t.clock d row) ≡ true
own_before o t peer d row found sound own before =
    let parts = owns_parts o (accepted_if_for t.clock peer d before.row) before.owned in
    let to = is_for peer d.connection before.row in
    let opened : before.row.opening ≡ row.opening = sym (kept_opening to t.clock d before.row) ∙ parts.opening ∙ sym (eqb-true row.opening o.opening own) in
    let same = one_opened t (is_for peer d.connection) (λ r. owns o (accepted_if_for t.clock peer d r)) row before.row sound found before.there opened in
    fed (is_for peer d.connection row) (found_passes (is_for peer d.connection) t.rows row found) (subst (λ (r : Row). owns o (accepted_if_for t.clock peer d r) ≡ true) same before.owned) where
      fed : (b : Bool) → b ≡ true → owns o (cond b (accepted_row t.clock d row) row) ≡ true → owns o (accepted_row t.clock d row) ≡ true
      fed true is owned = owned
      fed false is owned = absurd (let e = is in cc)

fed_goes : (own : Bool) (o : Ownership) (t : AdapterTable) (peer : Node) (d : DatagramFields) (row : Row) (delivery : Delivery) → (row.opening == o.opening) ≡ own → find (is_for peer d.connection) t.rows ≡ Some row → IsSound t → accepted_delivery row d ≡ delivery → is_accepted delivery ≡ true → is_owned o (accepted_table t peer d row delivery) ≡ true → Goes o t (cond own (Some (d, delivery)) None) (cond (own && true) (acceptance_of d delivery ∷ []) []) (cond (row.consumed == o.point) (left_accepted (find (is_output_at o.point) t.profile.outputs) d delivery) None)
unfolding accepted_table
fed_goes true o t peer d row delivery own found sound is accepted owned =
    let parts = owns_parts o (accepted_row t.clock d row) (own_before o t peer d row found sound own (owned_before o t (accepted_if_for t.clock peer d) owned)) in
    fed_own o t peer d row delivery found is accepted parts.driver
    (subst (λ (x : Delivery). has_mode o.moded (mode_after x row.mode) ≡ true) is parts.mode)
    (known_count o.known (record { number = d.sequence; count = d.count }) parts.counted) parts.opening
fed_goes false o t peer d row delivery own found sound is accepted owned =
    inr (fed_other o t peer d row delivery found sound is accepted own (owned_before o t (accepted_if_for t.clock peer d) owned))

-- ---- a datagram

-- one that is not accepted
unfed_goes : (own : Bool) (o : Ownership) (t : AdapterTable) (d : DatagramFields) (row : Row) (delivery : Delivery) → left_accepted (find (is_output_at o.point) t.profile.outputs) d delivery ≡ None → is_owned o t ≡ true → Goes o t (cond own (Some (d, delivery)) None) (cond (own && false) (acceptance_of d delivery ∷ []) []) (cond (row.consumed == o.point) (left_accepted (find (is_output_at o.point) t.profile.outputs) d delivery) None)
unfed_goes true o t d row delivery none owned = inr (record { owned = owned; repeated = tt; untouched = ap (λ (l : Option (List ℕ)). cond (row.consumed == o.point) l None) none ∙ still_none (row.consumed == o.point) })
unfed_goes false o t d row delivery none owned = inr (record { owned = owned; repeated = tt; untouched = ap (λ (l : Option (List ℕ)). cond (row.consumed == o.point) l None) none ∙ still_none (row.consumed == o.point) })

judged_goes : (o : Ownership) (t : AdapterTable) (peer : Node) (d : DatagramFields) (row : Row) (delivery : Delivery) → row_delivery t.profile t.clock row d ≡ delivery → find (is_for peer d.connection) t.rows ≡ Some row → IsSound t → is_owned o (judged_datagram t peer d row delivery).1 ≡ true → Goes o t (cond (row.opening == o.opening) (Some (d, delivery)) None) (cond ((row.opening == o.opening) && is_accepted delivery) (acceptance_of d delivery ∷ []) []) (cond (row.consumed == o.point) (left_accepted (find (is_output_at o.point) t.profile.outputs) d delivery) None)
judged_goes o t peer d row Applied is found sound owned = fed_goes (row.opening == o.opening) o t peer d row Applied refl found sound (delivers t.profile t.clock row d Applied is refl) refl owned
judged_goes o t peer d row Idle is found sound owned = fed_goes (row.opening == o.opening) o t peer d row Idle refl found sound (delivers t.profile t.clock row d Idle is refl) refl owned
judged_goes o t peer d row Heartbeat is found sound owned = fed_goes (row.opening == o.opening) o t peer d row Heartbeat refl found sound (delivers t.profile t.clock row d Heartbeat is refl) refl owned
judged_goes o t peer d row Duplicate is found sound owned = fed_goes (row.opening == o.opening) o t peer d row Duplicate refl found sound (delivers t.profile t.clock row d Duplicate is refl) refl owned
judged_goes o t peer d row Old is found sound owned = unfed_goes (row.opening == o.opening) o t d row Old refl owned
judged_goes o t peer d row UnknownId is found sound owned = unfed_goes (row.opening == o.opening) o t d row UnknownId refl owned
judged_goes o t peer d row WrongSize is found sound owned = unfed_goes (row.opening == o.opening) o t d row WrongSize refl owned
judged_goes o t peer d row Malformed is found sound owned = unfed_goes (row.opening == o.opening) o t d row Malformed refl owned

found_goes : (o : Ownership) (t : AdapterTable) (peer : Node) (d : DatagramFields) (found : Option Row) → find (is_for peer d.connection) t.rows ≡ found → IsSound t → is_owned o (found_datagram t peer d found).1 ≡ true → Goes o t (delivered_found o.opening t.profile t.clock d found) (accepted_found o.opening t.profile t.clock d found) (accepted_by o.point t.profile t.clock d found)
found_goes o t peer d None is sound owned = inr (record { owned = owned; repeated = tt; untouched = refl })
found_goes o t peer d (Some row) is sound owned = judged_goes o t peer d row (row_delivery t.profile t.clock row d) refl is sound owned

read_goes : (o : Ownership) (t : AdapterTable) (peer : Node) (reading : Result DatagramFields DatagramFault) → IsSound t → is_owned o (datagram_of t peer reading).1 ≡ true → Goes o t (delivered_read o.opening t peer reading) (accepted_read o.opening t peer reading) (read_accepted o.point t peer reading)
read_goes o t peer (Err fault) sound owned = inr (record { owned = owned; repeated = tt; untouched = refl })
read_goes o t peer (Ok d) sound owned = found_goes o t peer d (find (is_for peer d.connection) t.rows) refl sound owned

-- ---- an event

lost_none : (o : Ownership) (t next : AdapterTable) → is_owned o next ≡ true → lost o.point t next ≡ None
lost_none o t next owned = none_lost (list_any (drives o.point) t.rows) (list_any (drives o.point) next.rows) _ (driven o next owned)

abbrev pub EventGoes : Ownership → AdapterTable → Event → AdapterTable → Type 0
EventGoes o t event next = Goes o t (delivered_at o.opening t event) (accepted_at o.opening t event) (left_at o.point t event next)

datagram_goes : (o : Ownership) (t : AdapterTable) (peer : Node) (bytes : List ℕ) → IsSound t → is_owned o (datagram_of t peer (datagram_reading bytes)).1 ≡ true → EventGoes o t (Datagram peer bytes) (datagram_of t peer (datagram_reading bytes)).1
datagram_goes o t peer bytes sound owned =
    let next = (datagram_of t peer (datagram_reading bytes)).1 in
    subst (Goes o t (delivered_read o.opening t peer (datagram_reading bytes)) (accepted_read o.opening t peer (datagram_reading bytes)))
    (sym (or_nothing (read_accepted o.point t peer (datagram_reading bytes)) (lost o.point t next) (lost_none o t next owned)))
    (read_goes o t peer (datagram_reading bytes) sound owned)

-- an event that brings no data
quiet_remains : (o : Ownership) (t next : AdapterTable) → (Unowned o t → Unowned o next) → is_owned o next ≡ true → Remains o t [] (lost o.point t next)
quiet_remains o t next kept owned = record { owned = turned (is_owned o t) (is_owned o next) kept owned; repeated = tt; untouched = lost_none o t next owned }

write_keeps : (o : Ownership) (t : AdapterTable) (point : ℕ) (bytes : List ℕ) (next : Next) → IsWrite t point bytes next → Unowned o t → Unowned o next.1
write_keeps o t point bytes next is none = subst (λ (n : Next). Unowned o n.1) is.said (unowned_written o t point bytes none)

tick_keeps : (o : Ownership) (t : AdapterTable) (ms : ℕ) (next : Next) → IsTick t ms next → Unowned o t → Unowned o next.1
tick_keeps o t ms next is none = subst (λ (n : Next). Unowned o n.1) is.said (unowned_messaged o (advanced (clocked_table t ms)).1 _ _ (unowned_advanced o t ms none))

-- an event after which the output has that owner: the owner was there before it, or it brought the newest data
pub event_goes : (o : Ownership) (t : AdapterTable) (event : Event) (next : Next) → adapter_step t event ≡ Ok next → IsSound t → is_owned o next.1 ≡ true → EventGoes o t event next.1
unfolding received
event_goes o t (Datagram peer bytes) next is sound owned =
    subst (λ (n : Next). is_owned o n.1 ≡ true → EventGoes o t (Datagram peer bytes) n.1) (next_is _ _ is) (datagram_goes o t peer bytes sound) owned
event_goes o t (Write point bytes) next is sound owned = inr (quiet_remains o t next.1 (write_keeps o t point bytes next (write_is t point bytes next is)) owned)
event_goes o t (Tick ms) next is sound owned = inr (quiet_remains o t next.1 (tick_keeps o t ms next (tick_is t ms next is)) owned)
event_goes o t other next is sound owned =
    inr (quiet_remains o t next.1 (control_does (λ t next. Unowned o t → Unowned o next) (requests_leave_none o) (λ t number peer free. unowned_with o t number peer) t other next refl is) owned)
