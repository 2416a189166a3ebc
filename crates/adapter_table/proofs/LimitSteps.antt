-- No step establishes more connections than the maker states, and no application type takes the places of another.
use Rattle.std.proofs.Common.{◌≡◌, ◌≤◌, ◌<◌, ℕ, ◌+◌, ◌==◌, nat_le, Bool, true, false, cond, not, ◌&&◌, List, [], ◌∷◌, ◌++◌, map, filter, find, length, Option, Some, None, Result, Ok, Err, refl, sym, ◌∙◌, subst, arith}
use Rattle.std.specs.List.{list_any}
use Rattle.std.proofs.lemmas.Bool.{eqb-true, not-false, and_parts, or_parts}
use Rattle.std.proofs.lemmas.Bool.Decides.{nat_tests}
use Rattle.cip_types.specs.declared.names.Ms.{Ms}
use Rattle.cip_types.specs.declared.names.Node.{Node}
use Rattle.cip_fwdopen.specs.Open.{OpenFields}
use Rattle.cip_datagram.specs.declared.datagram.DatagramFault.{DatagramFault}
use Rattle.cip_datagram.specs.Datagram.{DatagramFields}
use Rattle.cip_datagram.specs.Reading.{datagram_reading}
use Rattle.cip_events.specs.declared.event.Delivery.{Delivery}
use Rattle.cip_events.specs.declared.event.Event.TheVariants.{Datagram, Write, Tick}
use Rattle.cip_events.specs.Answers.{is_accepted}
use Rattle.cip_productions.specs.declared.kind.Kind.{Kind}
use Rattle.cip_productions.specs.declared.kind.Kind.TheVariants.{ExclusiveOwner, InputOnly, ListenOnly}
use Rattle.cip_productions.specs.Kinds.{same_kind}
use Rattle.adapter_table.specs.declared.maker_limits.Places.{Places}
use Rattle.adapter_table.specs.declared.maker_limits.MakerLimits.{MakerLimits}
use Rattle.adapter_table.specs.declared.maker_limits.NodeLimits.{NodeLimits}
use Rattle.adapter_table.specs.declared.profile.Profile.{Profile}
use Rattle.adapter_table.specs.declared.row.State.{State}
use Rattle.adapter_table.specs.declared.row.State.TheVariants.{TimedOut}
use Rattle.adapter_table.specs.declared.table.AdapterTable.{AdapterTable}
use Rattle.adapter_table.specs.Connections.{Row}
use Rattle.adapter_table.specs.Profiles.{all_places, are_few_places, is_from, are_limits, profile_fault, profile_tests}
use Rattle.adapter_table.specs.Rows.{lives, is_established, is_timed_out, has_triad, is_of_kind, kind_count, is_of_node, node_count, written_state, written_row}
use Rattle.adapter_table.specs.Checks.{Admitted}
use Rattle.adapter_table.specs.StatedLimits.{places_of, has_no_place, has_node_enough, limited_admission, AreWithinPlaces, AreWithinNodes, AreWithin, IsWithinLimits, PlacesAreKept}
use Rattle.adapter_table.specs.Class3Opening.{opened_class3}
use Rattle.adapter_table.specs.Opening.{is_replaced, opened_row, opened_table}
use Rattle.adapter_table.specs.Closing.{without_triad, stays, closed_table}
use Rattle.adapter_table.specs.Streams.{with_stream, without_stream, registered_table}
use Rattle.adapter_table.specs.Datagrams.{is_for, row_delivery, accepted_row, accepted_if_for, accepted_table, delivered, found_datagram, datagram_of, received}
use Rattle.adapter_table.specs.Productions.{produced_state, produced_row, changed_state, changed_row}
use Rattle.adapter_table.specs.Requests.{Next}
use Rattle.messaging.specs.declared.table.Messaging.{Messaging}
use Rattle.messaging.specs.Changes.{with_class3}
use Rattle.messaging.specs.Times.{aged}
use Rattle.adapter_table.specs.Messages.{messages_table}
use Rattle.adapter_table.specs.declared.counters.DeviceCounters.{DeviceCounters}
use Rattle.adapter_table.specs.Counting.{with_counters}
use Rattle.adapter_table.specs.Ticks.{has_expired, expired_row, expired_rows, clocked_table, expired_table, produced_table, advanced}
use Rattle.adapter_table.specs.Step.{adapter_table, written_table, changed_table}
use Rattle.adapter_table.specs.Shaping.{all_pass}
use Rattle.adapter_table.specs.Laws.{StepsKeep}
use Rattle.adapter_table.specs.Lemmas.SoundLemmas.{count_filter}
use Rattle.adapter_table.specs.Lemmas.LikeLemmas.{lives_written, lives_due, lives_changed}
use Rattle.adapter_table.specs.Lemmas.LimitLemmas.{limited_is}
use Rattle.adapter_table.specs.Lemmas.RequestLemmas.{LimitedDo, next_is}
use Rattle.adapter_table.specs.Lemmas.EffectLemmas.{write_is, tick_is}
use Rattle.adapter_table.specs.Lemmas.ControlLemmas.{limited_control}

-- ---- fewer connections

-- no more of each application type, and of each node
record Fewer (rows after : List Row) : Type 0 where
  kinds : (kind : Kind) → kind_count after kind ≤ kind_count rows kind
  nodes : (node : Node) → node_count after node ≤ node_count rows node

fewer_then : (a b c : List Row) → Fewer a b → Fewer b c → Fewer a c
fewer_then a b c first second = record {
  kinds = λ kind. omega (arith, first.kinds kind, second.kinds kind);
  nodes = λ node. omega (arith, first.nodes node, second.nodes node);
}

fewer_left : (p : Row → Bool) (rows : List Row) → Fewer rows (filter p rows)
fewer_left p rows = record { kinds = λ kind. count_filter p (is_of_kind kind) rows; nodes = λ node. count_filter p (is_of_node node) rows }

count_step : (b c : Bool) (x y : Row) (xs ys : List Row) → (b ≡ true → c ≡ true) → length xs ≤ length ys → length (cond b (x ∷ xs) xs) ≤ length (cond c (y ∷ ys) ys)
count_step true true x y xs ys back le = omega arith
count_step true false x y xs ys back le = absurd (let e = back refl in cc)
count_step false true x y xs ys back le = omega arith
count_step false false x y xs ys back le = le

count_map : (test : Row → Bool) (f : Row → Row) → ((row : Row) → test (f row) ≡ true → test row ≡ true) → (rows : List Row) → length (filter test (map f rows)) ≤ length (filter test rows)
count_map test f back [] = omega arith
count_map test f back (row ∷ rows) = count_step (test (f row)) (test row) (f row) row _ _ (back row) (count_map test f back rows)

-- a connection in the place of another: it lives only if that one does, and is of the same node and application type
record GoesOn (row after : Row) : Type 0 where
  lives_on : lives after.state ≡ true → lives row.state ≡ true
  kind : after.kind ≡ row.kind
  peer : after.peer ≡ row.peer

both : (a b : Bool) → a ≡ true → b ≡ true → (a && b) ≡ true
both true true first second = refl
both true false first second = second
both false b first second = absurd cc

of_kind_before : (kind : Kind) (row after : Row) → GoesOn row after → is_of_kind kind after ≡ true → is_of_kind kind row ≡ true
of_kind_before kind row after goes is =
    let parts = and_parts (is_established after) (same_kind after.kind kind) is in
    both (is_established row) (same_kind row.kind kind) (goes.lives_on parts.0) (subst (λ (k : Kind). same_kind k kind ≡ true) goes.kind parts.1)

of_node_before : (node : Node) (row after : Row) → GoesOn row after → is_of_node node after ≡ true → is_of_node node row ≡ true
of_node_before node row after goes is =
    let parts = and_parts (is_established after) (after.peer.0 == node.0) is in
    both (is_established row) (row.peer.0 == node.0) (goes.lives_on parts.0) (subst (λ (n : Node). (n.0 == node.0) ≡ true) goes.peer parts.1)

fewer_changed : (f : Row → Row) → ((row : Row) → GoesOn row (f row)) → (rows : List Row) → Fewer rows (map f rows)
fewer_changed f goes rows = record {
  kinds = λ kind. count_map (is_of_kind kind) f (λ row. of_kind_before kind row (f row) (goes row)) rows;
  nodes = λ node. count_map (is_of_node node) f (λ row. of_node_before node row (f row) (goes row)) rows;
}

-- the state alone is changed
goes_stated : (row : Row) (state : State) → (lives state ≡ true → lives row.state ≡ true) → GoesOn row (record row { state = state })
goes_stated row state live = record { lives_on = live; kind = refl; peer = refl }

goes_chosen : (b : Bool) (row : Row) (state : State) → (lives state ≡ true → lives row.state ≡ true) → GoesOn row (cond b (record row { state = state }) row)
goes_chosen true row state live = goes_stated row state live
goes_chosen false row state live = record { lives_on = λ lives. lives; kind = refl; peer = refl }

goes_fed : (b : Bool) (clock : Ms) (d : DatagramFields) (row : Row) → GoesOn row (cond b (accepted_row clock d row) row)
goes_fed true clock d row = record { lives_on = λ lives. lives; kind = refl; peer = refl }
goes_fed false clock d row = record { lives_on = λ lives. lives; kind = refl; peer = refl }

goes_written : (point : ℕ) (row : Row) → GoesOn row (written_row point row)
goes_written point row = goes_chosen (row.produced == point) row (written_state row.state) (λ live. sym (lives_written row.state) ∙ live)

goes_changed : (clock : Ms) (point : ℕ) (row : Row) → GoesOn row (changed_row clock point row)
goes_changed clock point row =
    goes_chosen (row.produced == point) row (changed_state clock row.t_o_api_ms row.state) (λ live. sym (lives_changed clock row.t_o_api_ms row.state) ∙ live)

goes_expired : (clock : Ms) (row : Row) → GoesOn row (expired_row clock row)
goes_expired clock row = goes_chosen (has_expired clock row) row TimedOut (λ live. absurd (let e = live in cc))

goes_produced : (clock : Ms) (row : Row) → GoesOn row (produced_row clock row)
goes_produced clock row = goes_stated row (produced_state clock row.t_o_api_ms row.state) (λ live. sym (lives_due clock row.t_o_api_ms row.state) ∙ live)

-- ---- fewer connections are within the limits

places_fewer : (places : Option Places) (rows after : List Row) → Fewer rows after → AreWithinPlaces places rows → AreWithinPlaces places after
places_fewer None rows after fewer within = tt
places_fewer (Some places) rows after fewer within = λ kind. omega (arith, fewer.kinds kind, within kind)

nodes_fewer : (most : Option NodeLimits) (rows after : List Row) → Fewer rows after → AreWithinNodes most rows → AreWithinNodes most after
nodes_fewer None rows after fewer within = tt
nodes_fewer (Some most) rows after fewer within = λ node. omega (arith, fewer.nodes node, within node)

within_fewer : (limits : MakerLimits) (rows after : List Row) → Fewer rows after → AreWithin limits rows → AreWithin limits after
within_fewer limits rows after fewer within = record {
  places = places_fewer limits.places rows after fewer within.places;
  nodes = nodes_fewer limits.node_connections rows after fewer within.nodes;
}

-- ---- one more

-- one at the end is counted or not
abbrev one_if : Bool → ℕ
one_if true = 1
one_if false = 0

count_new : (test : Row → Bool) (rows : List Row) (new : Row) → length (filter test (rows ++ new ∷ [])) ≡ length (filter test rows) + one_if (test new)
count_new test [] new =
    elim (test new) as (λ b. length (cond b (new ∷ []) []) ≡ 0 + one_if b) [
      | true ↦ refl
      | false ↦ refl
    ]
count_new test (row ∷ rows) new = later (test row) (filter test (rows ++ new ∷ [])) (filter test rows) (one_if (test new)) (count_new test rows new) where
  later : (b : Bool) (xs ys : List Row) (n : ℕ) → length xs ≡ length ys + n → length (cond b (row ∷ xs) xs) ≡ length (cond b (row ∷ ys) ys) + n
  later true xs ys n same = omega arith
  later false xs ys n same = same

kinds_same : (a b : Kind) → same_kind a b ≡ true → a ≡ b
kinds_same ExclusiveOwner ExclusiveOwner is = refl
kinds_same ExclusiveOwner InputOnly is = absurd (let e = is in cc)
kinds_same ExclusiveOwner ListenOnly is = absurd (let e = is in cc)
kinds_same InputOnly ExclusiveOwner is = absurd (let e = is in cc)
kinds_same InputOnly InputOnly is = refl
kinds_same InputOnly ListenOnly is = absurd (let e = is in cc)
kinds_same ListenOnly ExclusiveOwner is = absurd (let e = is in cc)
kinds_same ListenOnly InputOnly is = absurd (let e = is in cc)
kinds_same ListenOnly ListenOnly is = refl

below : (m n : ℕ) → nat_le m n ≡ false → n < m
below m n h = grind (arith, nat_tests)

one_step : (b : Bool) (left rows most : ℕ) → left ≤ rows → rows ≤ most → (b ≡ true → rows < most) → left + one_if b ≤ most
one_step true left rows most fewer within free = let has = free refl in omega arith
one_step false left rows most fewer within free = omega arith

places_opened : (places : Option Places) (rows left : List Row) (new : Row) → Fewer rows left → has_no_place places rows new.kind ≡ false → AreWithinPlaces places rows → AreWithinPlaces places (left ++ new ∷ [])
places_opened None rows left new fewer free within = tt
places_opened (Some places) rows left new fewer free within = λ kind.
    rw (count_new (is_of_kind kind) left new)
    (one_step (is_of_kind kind new) (kind_count left kind) (kind_count rows kind) (places_of places kind) (fewer.kinds kind) (within kind)
    (λ is. subst (λ (k : Kind). kind_count rows k < places_of places k) (kinds_same new.kind kind (and_parts (is_established new) _ is).1) (below _ _ free)))

nodes_opened : (most : Option NodeLimits) (rows left : List Row) (new : Row) → Fewer rows left → has_node_enough most rows new.peer ≡ false → AreWithinNodes most rows → AreWithinNodes most (left ++ new ∷ [])
nodes_opened None rows left new fewer free within = tt
nodes_opened (Some limits) rows left new fewer free within = λ node.
    rw (count_new (is_of_node node) left new)
    (one_step (is_of_node node new) (node_count left node) (node_count rows node) limits.connections (fewer.nodes node) (within node)
    (λ is. subst (λ (n : ℕ). length (filter (λ (row : Row). is_established row && row.peer.0 == n) rows) < limits.connections) (eqb-true new.peer.0 node.0 (and_parts (is_established new) _ is).1) (below _ _ free)))

within_opened : (t : AdapterTable) (peer : Node) (request : OpenFields) (admitted : Admitted) → limited_admission t peer request ≡ Ok admitted → IsWithinLimits t → IsWithinLimits (opened_table t (opened_row t peer request admitted) admitted)
unfolding opened_table opened_row
within_opened t peer request admitted is within =
    let row = opened_row t peer request admitted in
    let free = or_parts (has_no_place t.profile.limits.places t.rows admitted.kind) (has_node_enough t.profile.limits.node_connections t.rows peer) (limited_is t peer request admitted is).within in
    let left = fewer_left (λ r. not (is_replaced t.rows request.triad r)) t.rows in
    record {
      places = places_opened t.profile.limits.places t.rows _ row left free.0 within.places;
      nodes = nodes_opened t.profile.limits.node_connections t.rows _ row left free.1 within.nodes;
    }

-- ---- each effect

within_closed : (t : AdapterTable) (row : Row) → IsWithinLimits t → IsWithinLimits (closed_table t row)
unfolding closed_table
within_closed t row within =
    let left = without_triad row.triad t.rows in
    within_fewer t.profile.limits t.rows _ (fewer_then t.rows left _ (fewer_left (λ r. not (has_triad row.triad r)) t.rows) (fewer_left (stays left) left)) within

within_written : (t : AdapterTable) (point : ℕ) (bytes : List ℕ) → IsWithinLimits t → IsWithinLimits (changed_table (written_table t point bytes) point)
unfolding written_table changed_table
within_written t point bytes within =
    within_fewer t.profile.limits t.rows _
    (fewer_then t.rows (map (written_row point) t.rows) _ (fewer_changed (written_row point) (goes_written point) t.rows)
    (fewer_changed (changed_row t.clock point) (goes_changed t.clock point) (map (written_row point) t.rows))) within

within_fed : (t : AdapterTable) (peer : Node) (d : DatagramFields) (row : Row) (delivery : Delivery) → IsWithinLimits t → IsWithinLimits (accepted_table t peer d row delivery)
unfolding accepted_table
within_fed t peer d row delivery within =
    within_fewer t.profile.limits t.rows _ (fewer_changed (accepted_if_for t.clock peer d) (λ r. goes_fed (is_for peer d.connection r) t.clock d r) t.rows) within

within_advanced : (t : AdapterTable) (ms : ℕ) → IsWithinLimits t → IsWithinLimits (produced_table (expired_table (clocked_table t ms)))
unfolding clocked_table expired_table produced_table
within_advanced t ms within =
    let clock : Ms = record { 0 = t.clock.0 + ms } in
    let after = expired_rows clock t.rows in
    let expired = fewer_changed (expired_row clock) (goes_expired clock) t.rows in
    let left = fewer_then t.rows after (filter (stays after) after) expired (fewer_left (stays after) after) in
    within_fewer t.profile.limits t.rows _
    (fewer_then t.rows (filter (stays after) after) _ left (fewer_changed (produced_row clock) (goes_produced clock) (filter (stays after) after))) within

within_with : (t : AdapterTable) (number : ℕ) (peer : Node) → IsWithinLimits t → IsWithinLimits (with_stream t number peer)
unfolding with_stream
within_with t number peer within = record { places = within.places; nodes = within.nodes }

within_without : (t : AdapterTable) (number : ℕ) → IsWithinLimits t → IsWithinLimits (without_stream t number)
unfolding without_stream
within_without t number within = record { places = within.places; nodes = within.nodes }

within_registered : (t : AdapterTable) (number : ℕ) → IsWithinLimits t → IsWithinLimits (registered_table t number)
unfolding registered_table
within_registered t number within = record { places = within.places; nodes = within.nodes }

within_messaged : (t : AdapterTable) (next_id : ℕ) (m : Messaging) → IsWithinLimits t → IsWithinLimits (messages_table t next_id m)
unfolding messages_table
within_messaged t next_id m within = record { places = within.places; nodes = within.nodes }

within_tallied : (t : AdapterTable) (counters : DeviceCounters) → IsWithinLimits t → IsWithinLimits (with_counters t counters)
within_tallied t counters within = record { places = within.places; nodes = within.nodes }

requests_are_within : LimitedDo (λ t next. IsWithinLimits t → IsWithinLimits next)
requests_are_within = record {
  stays = λ t within. within;
  opened = within_opened;
  closed = λ t triad row found within. within_closed t row within;
  unstreamed = within_without;
  registered = within_registered;
  messaged = λ t next_id m goes within. within_messaged t next_id m within;
  connected = λ t stream request passes carried within.
      let more = within_messaged t (t.next_id + 1) (with_class3 t.messaging (opened_class3 t stream request)) within in
      record { places = more.places; nodes = more.nodes };
  tallied = λ t next counters goes within. within_tallied next counters (goes within);
}

-- ---- an event

within_judged : (b : Bool) (t fed : AdapterTable) (delivery : Delivery) → IsWithinLimits t → IsWithinLimits fed → IsWithinLimits (cond b (delivered delivery fed) (delivered delivery t)).1
within_judged true t fed delivery within is = is
within_judged false t fed delivery within is = within

within_found : (t : AdapterTable) (peer : Node) (d : DatagramFields) (found : Option Row) → IsWithinLimits t → IsWithinLimits (found_datagram t peer d found).1
within_found t peer d None within = within
within_found t peer d (Some row) within =
    let delivery = row_delivery t.profile t.clock row d in
    within_judged (is_accepted delivery) t (accepted_table t peer d row delivery) delivery within (within_fed t peer d row delivery within)

within_datagram : (t : AdapterTable) (peer : Node) (reading : Result DatagramFields DatagramFault) → IsWithinLimits t → IsWithinLimits (datagram_of t peer reading).1
within_datagram t peer (Err fault) within = within
within_datagram t peer (Ok d) within = within_found t peer d (find (is_for peer d.connection) t.rows) within

pub steps_are_within : StepsKeep IsWithinLimits
unfolding received
steps_are_within t (Datagram peer bytes) next is within = subst (λ (n : Next). IsWithinLimits n.1) (next_is _ _ is) (within_datagram t peer (datagram_reading bytes) within)
steps_are_within t (Write point bytes) next is within = subst (λ (n : Next). IsWithinLimits n.1) (write_is t point bytes next is).said (within_written t point bytes within)
steps_are_within t (Tick ms) next is within =
    let later = (advanced (clocked_table t ms)).1 in
    subst (λ (n : Next). IsWithinLimits n.1) (tick_is t ms next is).said (within_messaged later later.next_id (aged later.clock later.messaging) (within_advanced t ms within))
steps_are_within t other next is within =
    limited_control (λ t next. IsWithinLimits t → IsWithinLimits next) requests_are_within (λ t number peer free. within_with t number peer) (λ t block may within. record { places = within.places; nodes = within.nodes }) t other next refl is within

fresh_places : (places : Option Places) → AreWithinPlaces places []
fresh_places None = tt
fresh_places (Some places) = λ kind. omega arith

fresh_nodes : (most : Option NodeLimits) → AreWithinNodes most []
fresh_nodes None = tt
fresh_nodes (Some most) = λ node. omega arith

pub fresh_is_within : (profile : Profile) → IsWithinLimits (adapter_table profile)
fresh_is_within profile = record { places = fresh_places profile.limits.places; nodes = fresh_nodes profile.limits.node_connections }

-- ---- places are kept

-- each established connection is of one application type
kinds_sum : (rows : List Row) → list_any is_timed_out rows ≡ false → length rows ≡ kind_count rows ExclusiveOwner + (kind_count rows InputOnly + kind_count rows ListenOnly)
kinds_sum [] none = refl
kinds_sum (row ∷ rows) none =
    let parts = or_parts (is_timed_out row) (list_any is_timed_out rows) none in
    sum_step (is_established row) row.kind _ _ _ (not-false (is_established row) parts.0) (kinds_sum rows parts.1) where
      sum_step : (b : Bool) (kind : Kind) (owners readers listeners : List Row) → b ≡ true → length rows ≡ length owners + (length readers + length listeners) →
          length (row ∷ rows) ≡ length (cond (b && same_kind kind ExclusiveOwner) (row ∷ owners) owners) + (length (cond (b && same_kind kind InputOnly) (row ∷ readers) readers) + length (cond (b && same_kind kind ListenOnly) (row ∷ listeners) listeners))
      sum_step false kind owners readers listeners live sum = absurd (let e = live in cc)
      sum_step true ExclusiveOwner owners readers listeners live sum = omega arith
      sum_step true InputOnly owners readers listeners live sum = omega arith
      sum_step true ListenOnly owners readers listeners live sum = omega arith

few_by : (places : Places) → are_few_places (Some places) ≡ true → all_places places ≤ 64
few_by places few =
    let parts = and_parts (nat_le 1 (all_places places) && nat_le (all_places places) 64) (is_from 0 64 places.class3_connections) few in
    grind (arith, nat_tests, parts.0)

places_are_few : (profile : Profile) (places : Places) → profile_fault profile ≡ None → profile.limits.places ≡ Some places → all_places places ≤ 64
unfolding profile_fault
places_are_few profile places none stated =
    let fits = not-false (are_limits profile.limits) (all_pass (profile_tests profile) none).1.1.1.1.1.1.1.0 in
    let first = and_parts (is_from 1 10000000 profile.limits.least_rpi) _ fits in
    few_by places (subst (λ (p : Option Places). are_few_places p ≡ true) stated (and_parts (are_few_places profile.limits.places) _ first.1).0)

below_all : (places : Places) (rows : List Row) (kind : Kind) → ((k : Kind) → kind_count rows k ≤ places_of places k) → kind_count rows kind < places_of places kind → list_any is_timed_out rows ≡ false → length rows < all_places places
below_all places rows ExclusiveOwner within free none = omega (arith, kinds_sum rows none, within InputOnly, within ListenOnly)
below_all places rows InputOnly within free none = omega (arith, kinds_sum rows none, within ExclusiveOwner, within ListenOnly)
below_all places rows ListenOnly within free none = omega (arith, kinds_sum rows none, within ExclusiveOwner, within InputOnly)

capacity_by : (rows : List Row) (full expired : Bool) → nat_le 64 (length rows) ≡ full → list_any is_timed_out rows ≡ expired → (list_any is_timed_out rows ≡ false → length rows < 64) → (full && not expired) ≡ false
capacity_by rows false expired many none few = refl
capacity_by rows true true many none few = refl
capacity_by rows true false many none few = absurd (let below = few none in grind (arith, nat_tests))

has_place : (places : Places) (rows : List Row) (kind : Kind) → kind_count rows kind < places_of places kind → nat_le (places_of places kind) (kind_count rows kind) ≡ false
has_place places rows kind free = grind (arith, nat_tests)

pub places_are_kept : PlacesAreKept
places_are_kept t places kind triad faultless stated within free =
    let few = places_are_few t.profile places faultless stated in
    let each = subst (λ (p : Option Places). AreWithinPlaces p t.rows) stated within.places in (
      capacity_by t.rows (nat_le 64 (length t.rows)) (list_any is_timed_out t.rows) refl refl (λ none. omega (arith, below_all places t.rows kind each free none)),
      subst (λ (p : Option Places). has_no_place p t.rows kind ≡ false) (sym stated) (has_place places t.rows kind free),
    )
