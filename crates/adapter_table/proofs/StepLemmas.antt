-- Each effect keeps the table sound, and so do each step and each run.
use Rattle.std.proofs.Common.{◌≡◌, ◌≤◌, ℕ, ◌+◌, Bool, true, false, not, find, filter, ◌&&◌, nat_le, ◌==◌, List, [], ◌∷◌, ◌++◌, length, map, Option, Some, None, Ok, refl, sym, ◌∙◌, ap, subst, arith, length-append}
use Rattle.std.specs.List.{list_any}
use Rattle.std.proofs.lemmas.Bool.{and_parts, not-false}
use Rattle.std.proofs.lemmas.Bool.Decides.{nat_tests}
use Rattle.std.proofs.lemmas.List.{length-map}
use Rattle.cip_types.specs.declared.names.Node.{Node}
use Rattle.cip_types.specs.declared.names.Triad.{Triad}
use Rattle.cip_types.specs.declared.ids.IdBlock.{IdBlock}
use Rattle.cip_types.specs.Ids.{are_blocks, are_ids, id_at, is_block, may_take}
use Rattle.cip_types.specs.IdLaws.{IsLeft, later_ends, stay_blocks}
use Rattle.cip_fwdopen.specs.Open.{OpenFields}
use Rattle.cip_datagram.specs.Datagram.{DatagramFields}
use Rattle.cip_events.specs.declared.event.Delivery.{Delivery}
use Rattle.adapter_table.specs.declared.profile.Profile.{Profile}
use Rattle.adapter_table.specs.Connections.{Row}
use Rattle.adapter_table.specs.declared.opening_rates.rates.NodeOpenings.{NodeOpenings}
use Rattle.adapter_table.specs.declared.table.AdapterTable.{AdapterTable}
use Rattle.adapter_table.specs.Rates.{with_openings}
use Rattle.adapter_table.specs.declared.counters.DeviceCounters.{DeviceCounters}
use Rattle.adapter_table.specs.Counting.{with_counters}
use Rattle.adapter_table.specs.declared.table.PointValue.{PointValue}
use Rattle.adapter_table.specs.declared.table.Stream.{Stream}
use Rattle.adapter_table.specs.Rows.{others, drives, drivers, written_row, is_established, is_timed_out, has_triad, holds_triad, is_member, is_supported}
use Rattle.cip_productions.specs.declared.kind.Kind.{Kind}
use Rattle.cip_productions.specs.Kinds.{is_owner, is_listener}
use Rattle.adapter_table.specs.Checks.{Admitted, admission, group_of, joined, drawn_ids}
use Rattle.adapter_table.specs.Opening.{is_replaced_by, opened_row, opened_table, opened_state, opened_t_o_id}
use Rattle.adapter_table.specs.Closing.{closed_table, stays, without_triad}
use Rattle.adapter_table.specs.Points.{put_value}
use Rattle.adapter_table.specs.Streams.{is_other_stream, is_taken, new_stream, with_stream, without_stream, registered_stream, registered_table}
use Rattle.adapter_table.specs.Datagrams.{accepted_if_for, accepted_values, accepted_table}
use Rattle.adapter_table.specs.Productions.{producer_of, produced_row, changed_row}
use Rattle.adapter_table.specs.Ticks.{clocked_table, expired_row, expired_rows, expired_table, produced_table}
use Rattle.adapter_table.specs.Profiles.{first_ids, profile_fault, profile_tests}
use Rattle.adapter_table.specs.Step.{adapter_table, written_table, changed_table, taken_table}
use Rattle.messaging.specs.declared.table.Messaging.{Messaging}
use Rattle.messaging.specs.Changes as messages
use Rattle.adapter_table.specs.Messages.{messages_table}
use Rattle.adapter_table.specs.MessagesSound.{MessagesGoOn}
use Rattle.adapter_table.specs.Sound.{IsSound, StreamsDiffer}
use Rattle.adapter_table.specs.Lemmas.CheckLemmas.{HasSameApi, IsAdmitted, admitted_is, draws_some}
use Rattle.adapter_table.specs.Shaping.{all_pass}
use Rattle.adapter_table.specs.Laws.{EffectsKeep}
use Rattle.adapter_table.specs.Lemmas.GroupLemmas.{Joins, is_single, is_first, is_joiner, groups_opened, groups_filter}
use Rattle.adapter_table.specs.Lemmas.SupportLemmas.{listeners_opened, listeners_staying}
use Rattle.adapter_table.specs.Lemmas.LikeLemmas.{Keeps, count_kept, triads_kept, ids_kept, drawn_kept, listeners_kept, groups_kept, written_keeps, fed_keeps, due_keeps, changed_keeps}
use Rattle.adapter_table.proofs.FadeLemmas.{count_expired, triads_expired, ids_expired, drawn_expired, groups_expired}
use Rattle.adapter_table.proofs.ProducerLemmas.{Produces, is_single as is_alone, is_first as is_leader, is_joiner as is_follower, producers_opened, producers_filter, producers_kept, producers_expired, producers_later, producers_grown}
use Rattle.adapter_table.proofs.StreamLemmas.{has_capacity, few_with, few_left, differ_with, differ_left, differ_registered}
use Rattle.adapter_table.specs.Lemmas.SoundLemmas.{length_opened, any_opened, drivers_opened, filter_none, triads_append, ids_append, IsDrawn, drawn_new, drawn_append, drawn_later, drawn_grown, length_filter_le, count_filter, triads_filter, ids_filter, drawn_filter}

free_output : (rows : List Row) (kind : Kind) (consumed point : ℕ) → (is_owner kind && list_any (drives consumed) rows) ≡ false → (is_owner kind && consumed == point) ≡ true → drivers point rows ≡ []
free_output rows kind consumed point free drives_it =
    let parts = and_parts (is_owner kind) (consumed == point) drives_it in
    let same : consumed ≡ point = grind (arith, nat_tests, parts.1) in
    let none : list_any (drives consumed) rows ≡ false = rw parts.0 at free in
    subst (λ (p : ℕ). drivers p rows ≡ []) same (filter_none (drives consumed) rows none)

-- a connection that an admitted request opens
record IsOpened (t : AdapterTable) (request : OpenFields) (admitted : Admitted) (row : Row) : Type 0 where
  triad : row.triad ≡ request.triad
  id : row.o_t_id ≡ id_at t.ids t.next_id
  opening : row.opening ≡ t.next_id
  kind : row.kind ≡ admitted.kind
  consumed : row.consumed ≡ admitted.consumed
  produced : row.produced ≡ admitted.produced
  multicast : row.multicast ≡ admitted.multicast
  t_o_api_ms : row.t_o_api_ms ≡ admitted.t_o_api_ms
  t_o_id : row.t_o_id ≡ opened_t_o_id t request admitted.multicast admitted.group
  state : (member : Row) → admitted.group ≡ Some member → row.state ≡ member.state
  own : admitted.group ≡ None → producer_of row.state ≡ t.next_id

state_of : (t : AdapterTable) (peer : Node) (admitted : Admitted) (group : Option Row) (member : Row) → group ≡ Some member → opened_state t peer admitted group ≡ member.state
state_of t peer admitted None member is = absurd cc
state_of t peer admitted (Some other) member is = let same : other ≡ member = cc in ap (λ (r : Row). r.state) same

own_of : (t : AdapterTable) (peer : Node) (admitted : Admitted) (group : Option Row) → group ≡ None → producer_of (opened_state t peer admitted group) ≡ t.next_id
own_of t peer admitted None is = refl
own_of t peer admitted (Some other) is = absurd cc

row_is_opened : (t : AdapterTable) (peer : Node) (request : OpenFields) (admitted : Admitted) → IsOpened t request admitted (opened_row t peer request admitted)
unfolding opened_row
row_is_opened t peer request admitted = record {
  triad = refl;
  id = refl;
  opening = refl;
  kind = refl;
  consumed = refl;
  produced = refl;
  multicast = refl;
  t_o_api_ms = refl;
  t_o_id = refl;
  state = state_of t peer admitted admitted.group;
  own = own_of t peer admitted admitted.group;
}

-- it drives at most the output that the request names
drives_no_other : (point : ℕ) (row : Row) (kind : Kind) (consumed : ℕ) → row.kind ≡ kind → row.consumed ≡ consumed → drives point row ≡ true → (is_owner kind && consumed == point) ≡ true
drives_no_other point row kind consumed same place is = rw (← same, ← place) (and_parts (is_established row) _ is).1

-- what it has in common with the producer that it joins
joins_of : (t : AdapterTable) (request : OpenFields) (admitted : Admitted) (row : Row) → IsOpened t request admitted row → IsAdmitted t request admitted → Joins t.rows row
joins_of t request admitted row is ok = joins_by admitted.multicast admitted.group refl refl is.multicast ok.group_is ok.same_api is.t_o_id where
  joins_by : (m : Bool) (group : Option Row) → admitted.multicast ≡ m → admitted.group ≡ group → row.multicast ≡ admitted.multicast → admitted.group ≡ joined admitted.multicast (group_of t.rows admitted.produced) → HasSameApi admitted.t_o_api_ms admitted.group → row.t_o_id ≡ opened_t_o_id t request admitted.multicast admitted.group → Joins t.rows row
  joins_by false group single known multicast found api id = is_single (multicast ∙ single)
  joins_by true None many known multicast found api id =
      let none : group_of t.rows admitted.produced ≡ None = sym (rw many at found) ∙ known in
      is_first (ap (λ (n : ℕ). find (is_member n) t.rows) is.produced ∙ none)
  joins_by true (Some member) many known multicast found api id =
      let some : group_of t.rows admitted.produced ≡ Some member = sym (rw many at found) ∙ known in
      let same_id : row.t_o_id ≡ member.t_o_id = id ∙ ap (opened_t_o_id t request admitted.multicast) known in
      let same_api : admitted.t_o_api_ms ≡ member.t_o_api_ms = subst (HasSameApi admitted.t_o_api_ms) known api in
      is_joiner member (ap (λ (n : ℕ). find (is_member n) t.rows) is.produced ∙ some)
      (record { id = same_id; api = is.t_o_api_ms ∙ same_api; state = is.state member known })

-- what its producer is
produces_of : (t : AdapterTable) (request : OpenFields) (admitted : Admitted) (row : Row) → IsOpened t request admitted row → IsAdmitted t request admitted → Produces t.ids t.next_id (t.next_id + drawn_ids admitted.multicast admitted.group) t.rows row
produces_of t request admitted row is ok = produces_by admitted.multicast admitted.group refl refl ok.group_is ok.same_api is.t_o_id is.own where
  produces_by : (m : Bool) (group : Option Row) → admitted.multicast ≡ m → admitted.group ≡ group → group ≡ joined admitted.multicast (group_of t.rows admitted.produced) → HasSameApi admitted.t_o_api_ms group → row.t_o_id ≡ opened_t_o_id t request admitted.multicast group → (group ≡ None → producer_of row.state ≡ t.next_id) → Produces t.ids t.next_id (t.next_id + drawn_ids admitted.multicast group) t.rows row
  produces_by false None single known found api id own = is_alone (is.multicast ∙ single) (own refl)
  produces_by false (Some member) single known found api id own = let none : Some member ≡ None = rw single at found in absurd cc
  produces_by true None many known found api id own = is_leader (own refl) (rw many at id) (rw many (omega arith)) (is.multicast ∙ many)
  produces_by true (Some member) many known found api id own =
      let some : group_of t.rows admitted.produced ≡ Some member = sym (rw many at found) in
      is_follower member (is.multicast ∙ many) (ap (λ (n : ℕ). find (is_member n) t.rows) is.produced ∙ some)
      (record { id = id; api = is.t_o_api_ms ∙ api; state = is.state member known })

-- the next id is left where an opening is admitted
pub next_is_left : (t : AdapterTable) (request : OpenFields) (admitted : Admitted) → IsAdmitted t request admitted → IsSound t → IsLeft t.ids t.next_id
next_is_left t request admitted ok sound =
    let draws = draws_some admitted.multicast admitted.group in
    let left = ok.ids_are_left in
    record { are = sound.blocks; begins = sound.ids_begin; ends = omega (arith, draws, left) }

opened_sound : (t : AdapterTable) (request : OpenFields) (admitted : Admitted) (row : Row) → IsOpened t request admitted row → IsAdmitted t request admitted → IsSound t → IsSound (opened_table t row admitted)
unfolding opened_table
opened_sound t request admitted row is ok sound =
    let b = list_any (has_triad row.triad) t.rows in
    let c = nat_le 64 (length t.rows) in
    let draws = draws_some admitted.multicast admitted.group in
    let left = others (is_replaced_by b c (find is_timed_out t.rows) row.triad) t.rows in
    let stays_there : Row → Bool = λ r. not (is_replaced_by b c (find is_timed_out t.rows) row.triad r) in
    let drawn = drawn_filter stays_there t.ids t.next_id t.rows sound.ids_are_drawn in
    let own : IsDrawn t.ids t.next_id row = record { id = is.id; opening = is.opening; left = next_is_left t request admitted ok sound } in
    let point_bytes : list_any (holds_triad row.triad) t.rows ≡ false = ap (λ (triad : Triad). list_any (holds_triad triad) t.rows) is.triad ∙ ok.triad_is_free in
    let alone : (is_listener row.kind && not (is_supported t.rows row.kind row.produced)) ≡ false = rw (is.kind, is.produced) ok.is_supported in
    record {
      few = simp length-append (length_opened b c row.triad t.rows refl refl sound.few ok.capacity_is_left);
      one_owner = λ point.
          drivers_opened (drives point row) t.rows left row point refl
          (count_filter stays_there (drives point) t.rows)
          (λ drives_it. free_output t.rows admitted.kind admitted.consumed point ok.output_is_free (drives_no_other point row admitted.kind admitted.consumed is.kind is.consumed drives_it)) (sound.one_owner point);
      triads_differ = triads_append left row (triads_filter stays_there t.rows sound.triads_differ) (any_opened b c row.triad t.rows refl);
      ids_differ = ids_append left row (ids_filter stays_there t.rows sound.ids_differ) (drawn_new t.ids t.next_id left row own drawn);
      blocks = sound.blocks;
      ids_begin = let begins = sound.ids_begin in omega (arith, begins);
      ids_are_drawn = drawn_append t.ids t.next_id (t.next_id + drawn_ids admitted.multicast admitted.group) left row (omega (arith, draws)) own drawn;
      listeners_are_supported = listeners_opened b c row.triad t.rows row point_bytes sound.producers.openings_rise alone sound.listeners_are_supported;
      groups_agree = groups_opened stays_there t.rows row (joins_of t request admitted row is ok) sound.groups_agree;
      producers =
          producers_opened stays_there t.ids t.next_id (t.next_id + drawn_ids admitted.multicast admitted.group) t.rows row
          (record { opening = is.opening; more = omega (arith, draws) }) (produces_of t request admitted row is ok) sound.ids_are_drawn sound.producers;
      ids_are_left = ok.ids_are_left;
      few_streams = sound.few_streams;
      streams_differ = sound.streams_differ;
    }

pub sound_opened : (t : AdapterTable) (peer : Node) (request : OpenFields) (admitted : Admitted) → admission t request ≡ Ok admitted → IsSound t → IsSound (opened_table t (opened_row t peer request admitted) admitted)
sound_opened t peer request admitted is sound = opened_sound t request admitted (opened_row t peer request admitted) (row_is_opened t peer request admitted) (admitted_is t request admitted is) sound

pub sound_closed : (t : AdapterTable) (row : Row) → IsSound t → IsSound (closed_table t row)
unfolding closed_table
sound_closed t row sound =
    let left = without_triad row.triad t.rows in
    let stays_there : Row → Bool = λ r. not (has_triad row.triad r) in
    record {
      few = omega (arith, length_filter_le (stays left) left, length_filter_le stays_there t.rows, sound.few);
      one_owner = λ point. omega (arith, count_filter (stays left) (drives point) left, count_filter stays_there (drives point) t.rows, sound.one_owner point);
      triads_differ = triads_filter (stays left) left (triads_filter stays_there t.rows sound.triads_differ);
      ids_differ = ids_filter (stays left) left (ids_filter stays_there t.rows sound.ids_differ);
      blocks = sound.blocks;
      ids_begin = sound.ids_begin;
      ids_are_drawn = drawn_filter (stays left) t.ids t.next_id left (drawn_filter stays_there t.ids t.next_id t.rows sound.ids_are_drawn);
      listeners_are_supported = listeners_staying left;
      groups_agree = groups_filter (stays left) left (groups_filter stays_there t.rows sound.groups_agree);
      producers = producers_filter (stays left) t.ids t.next_id left (producers_filter stays_there t.ids t.next_id t.rows sound.producers);
      ids_are_left = sound.ids_are_left;
      few_streams = sound.few_streams;
      streams_differ = sound.streams_differ;
    }

-- the rows are changed into rows like them, and the values and the clock in any way
sound_kept : (f : Row → Row) → Keeps f → (t : AdapterTable) (values : List PointValue) → IsSound t → IsSound (record t { rows = map f t.rows; values = values })
sound_kept f keeps t values sound = record {
  few = rw length-map sound.few;
  one_owner = λ place. omega (arith, count_kept f keeps place t.rows, sound.one_owner place);
  triads_differ = triads_kept f keeps t.rows sound.triads_differ;
  ids_differ = ids_kept f keeps t.rows sound.ids_differ;
  blocks = sound.blocks;
  ids_begin = sound.ids_begin;
  ids_are_drawn = drawn_kept f keeps t.ids t.next_id t.rows sound.ids_are_drawn;
  listeners_are_supported = listeners_kept f keeps t.rows sound.listeners_are_supported;
  groups_agree = groups_kept f keeps t.rows sound.groups_agree;
  producers = producers_kept f keeps t.ids t.next_id t.rows sound.producers;
  ids_are_left = sound.ids_are_left;
  few_streams = sound.few_streams;
  streams_differ = sound.streams_differ;
}

sound_put : (t : AdapterTable) (point : ℕ) (bytes : List ℕ) → IsSound t → IsSound (written_table t point bytes)
unfolding written_table
sound_put t point bytes sound = sound_kept (written_row point) (written_keeps point) t (put_value point bytes t.values) sound

pub sound_written : (t : AdapterTable) (point : ℕ) (bytes : List ℕ) → IsSound t → IsSound (changed_table (written_table t point bytes) point)
unfolding changed_table
sound_written t point bytes sound =
    let at = written_table t point bytes in
    sound_kept (changed_row at.clock point) (changed_keeps at.clock point) at at.values (sound_put t point bytes sound)

pub sound_fed : (t : AdapterTable) (peer : Node) (d : DatagramFields) (row : Row) (delivery : Delivery) → IsSound t → IsSound (accepted_table t peer d row delivery)
unfolding accepted_table
sound_fed t peer d row delivery sound = sound_kept (accepted_if_for t.clock peer d) (fed_keeps t.clock peer d) t (accepted_values t.profile row.consumed d delivery t.values) sound

sound_clocked : (t : AdapterTable) (ms : ℕ) → IsSound t → IsSound (clocked_table t ms)
unfolding clocked_table
sound_clocked t ms sound = record { few = sound.few; one_owner = sound.one_owner; triads_differ = sound.triads_differ; ids_differ = sound.ids_differ; blocks = sound.blocks; ids_begin = sound.ids_begin; ids_are_drawn = sound.ids_are_drawn; listeners_are_supported = sound.listeners_are_supported; groups_agree = sound.groups_agree; producers = sound.producers; ids_are_left = sound.ids_are_left; few_streams = sound.few_streams; streams_differ = sound.streams_differ }

sound_expired : (t : AdapterTable) → IsSound t → IsSound (expired_table t)
unfolding expired_table
sound_expired t sound =
    let left = expired_rows t.clock t.rows in
    let same : length left ≡ length t.rows = length-map t.rows (expired_row t.clock) in
    record {
      few = omega (arith, length_filter_le (stays left) left, same, sound.few);
      one_owner = λ point. omega (arith, count_filter (stays left) (drives point) left, count_expired t.clock point t.rows, sound.one_owner point);
      triads_differ = triads_filter (stays left) left (triads_expired t.clock t.rows sound.triads_differ);
      ids_differ = ids_filter (stays left) left (ids_expired t.clock t.rows sound.ids_differ);
      blocks = sound.blocks;
      ids_begin = sound.ids_begin;
      ids_are_drawn = drawn_filter (stays left) t.ids t.next_id left (drawn_expired t.clock t.ids t.next_id t.rows sound.ids_are_drawn);
      listeners_are_supported = listeners_staying left;
      groups_agree = groups_filter (stays left) left (groups_expired t.clock t.rows sound.groups_agree);
      producers = producers_filter (stays left) t.ids t.next_id left (producers_expired t.clock t.ids t.next_id t.rows sound.producers);
      ids_are_left = sound.ids_are_left;
      few_streams = sound.few_streams;
      streams_differ = sound.streams_differ;
    }

sound_produced : (t : AdapterTable) → IsSound t → IsSound (produced_table t)
unfolding produced_table
sound_produced t sound = sound_kept (produced_row t.clock) (due_keeps t.clock) t t.values sound

pub sound_advanced : (t : AdapterTable) (ms : ℕ) → IsSound t → IsSound (produced_table (expired_table (clocked_table t ms)))
sound_advanced t ms sound = sound_produced (expired_table (clocked_table t ms)) (sound_expired (clocked_table t ms) (sound_clocked t ms sound))

-- ---- streams

sound_streams : (t : AdapterTable) (streams : List Stream) (m : Messaging) → length streams ≤ 16 → StreamsDiffer streams → IsSound t → IsSound (record t { streams = streams; messaging = m })
sound_streams t streams m few differ sound = record {
  few = sound.few;
  one_owner = sound.one_owner;
  triads_differ = sound.triads_differ;
  ids_differ = sound.ids_differ;
  blocks = sound.blocks;
  ids_begin = sound.ids_begin;
  ids_are_drawn = sound.ids_are_drawn;
  listeners_are_supported = sound.listeners_are_supported;
  groups_agree = sound.groups_agree;
  producers = sound.producers;
  ids_are_left = sound.ids_are_left;
  few_streams = few;
  streams_differ = differ;
}

pub sound_with : (t : AdapterTable) (number : ℕ) (peer : Node) → is_taken t.streams number ≡ false → IsSound t → IsSound (with_stream t number peer)
unfolding with_stream
sound_with t number peer free sound =
    let has = has_capacity t.streams number free in
    sound_streams t (t.streams ++ new_stream number peer ∷ []) t.messaging (few_with t.streams (new_stream number peer) has.capacity) (differ_with t.streams (new_stream number peer) sound.streams_differ has.free) sound

pub sound_without : (t : AdapterTable) (number : ℕ) → IsSound t → IsSound (without_stream t number)
unfolding without_stream
sound_without t number sound =
    sound_streams t (filter (is_other_stream number) t.streams) (messages.without_stream t.messaging number) (omega (arith, few_left (is_other_stream number) t.streams, sound.few_streams)) (differ_left (is_other_stream number) t.streams sound.streams_differ) sound

pub sound_registered : (t : AdapterTable) (number : ℕ) → IsSound t → IsSound (registered_table t number)
unfolding registered_table
sound_registered t number sound =
    sound_streams t (map (registered_stream number) t.streams) t.messaging (rw length-map sound.few_streams) (differ_registered number t.streams sound.streams_differ) sound

-- ---- class 3 connections

pub sound_messaged : (t : AdapterTable) (next_id : ℕ) (m : Messaging) → MessagesGoOn t next_id m → IsSound t → IsSound (messages_table t next_id m)
unfolding messages_table
sound_messaged t next_id m goes sound = record {
  few = sound.few;
  one_owner = sound.one_owner;
  triads_differ = sound.triads_differ;
  ids_differ = sound.ids_differ;
  blocks = sound.blocks;
  ids_begin = let later = goes.later in let begins = sound.ids_begin in omega (arith, later, begins);
  ids_are_drawn = drawn_later t.ids t.next_id next_id t.rows goes.later sound.ids_are_drawn;
  listeners_are_supported = sound.listeners_are_supported;
  groups_agree = sound.groups_agree;
  producers = producers_later t.ids t.next_id next_id t.rows goes.later sound.producers;
  ids_are_left = goes.left sound.ids_are_left;
  few_streams = sound.few_streams;
  streams_differ = sound.streams_differ;
}

pub sound_counted : (t : AdapterTable) (openings : List NodeOpenings) → IsSound t → IsSound (with_openings t openings)
sound_counted t openings sound = record {
  few = sound.few;
  one_owner = sound.one_owner;
  triads_differ = sound.triads_differ;
  ids_differ = sound.ids_differ;
  blocks = sound.blocks;
  ids_begin = sound.ids_begin;
  ids_are_drawn = sound.ids_are_drawn;
  listeners_are_supported = sound.listeners_are_supported;
  groups_agree = sound.groups_agree;
  producers = sound.producers;
  ids_are_left = sound.ids_are_left;
  few_streams = sound.few_streams;
  streams_differ = sound.streams_differ;
}

pub sound_tallied : (t : AdapterTable) (counters : DeviceCounters) → IsSound t → IsSound (with_counters t counters)
sound_tallied t counters sound = record {
  few = sound.few;
  one_owner = sound.one_owner;
  triads_differ = sound.triads_differ;
  ids_differ = sound.ids_differ;
  blocks = sound.blocks;
  ids_begin = sound.ids_begin;
  ids_are_drawn = sound.ids_are_drawn;
  listeners_are_supported = sound.listeners_are_supported;
  groups_agree = sound.groups_agree;
  producers = sound.producers;
  ids_are_left = sound.ids_are_left;
  few_streams = sound.few_streams;
  streams_differ = sound.streams_differ;
}

-- ---- a further block of ids

pub sound_taken : (t : AdapterTable) (block : IdBlock) → may_take t.ids block ≡ true → IsSound t → IsSound (taken_table t block)
sound_taken t block may sound = record {
  few = sound.few;
  one_owner = sound.one_owner;
  triads_differ = sound.triads_differ;
  ids_differ = sound.ids_differ;
  blocks = stay_blocks t.ids block sound.blocks may;
  ids_begin = sound.ids_begin;
  ids_are_drawn = drawn_grown t.ids block t.next_id t.rows sound.ids_are_left sound.ids_are_drawn;
  listeners_are_supported = sound.listeners_are_supported;
  groups_agree = sound.groups_agree;
  producers = producers_grown t.ids block t.next_id t.rows sound.ids_are_left sound.producers;
  ids_are_left = let now = sound.ids_are_left in let more = later_ends t.ids block in omega (arith, now, more);
  few_streams = sound.few_streams;
  streams_differ = sound.streams_differ;
}

-- ---- each effect

pub sound_effects : EffectsKeep IsSound
sound_effects = record {
  opened = sound_opened;
  closed = sound_closed;
  written = λ t point bytes input found long sound. sound_written t point bytes sound;
  fed = λ t peer d row delivery is found sound. sound_fed t peer d row delivery sound;
  advanced = λ t ms in_time sound. sound_advanced t ms sound;
  streamed = sound_with;
  unstreamed = sound_without;
  registered = sound_registered;
  messaged = sound_messaged;
  counted = sound_counted;
  tallied = sound_tallied;
  taken = sound_taken;
}

-- the ids that a device begins with are a block
pub first_is_block : (profile : Profile) → profile_fault profile ≡ None → is_block (first_ids profile) ≡ true
unfolding profile_fault
first_is_block profile none =
    (and_parts (not (profile.incarnation == 0)) (is_block (first_ids profile)) (not-false (are_ids profile.incarnation profile.ids) (all_pass (profile_tests profile) none).0)).1

first_blocks : (block : IdBlock) → is_block block ≡ true → are_blocks (block ∷ []) ≡ true
first_blocks block is = rw is refl

pub sound_fresh : (profile : Profile) → profile_fault profile ≡ None → IsSound (adapter_table profile)
sound_fresh profile none = record {
  few = omega arith;
  one_owner = λ point. omega arith;
  triads_differ = tt;
  ids_differ = tt;
  blocks = first_blocks (first_ids profile) (first_is_block profile none);
  ids_begin = omega arith;
  ids_are_drawn = tt;
  listeners_are_supported = refl;
  groups_agree = tt;
  producers = record { openings_rise = tt; are_drawn = tt; single = tt; multicast = tt; shared = tt };
  ids_are_left = omega arith;
  few_streams = omega arith;
  streams_differ = tt;
}
