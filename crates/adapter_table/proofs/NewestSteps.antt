-- What each step accepts on a connection is newer than what the table remembers of it, and the next table remembers it.
use Rattle.std.proofs.Common.{◌≡◌, ◌≢◌, ◌≤◌, ◌<◌, ℕ, ◌+◌, ◌-◌, ◌^◌, ◌==◌, nat_le, length, Bool, true, false, cond, not, ◌&&◌, List, [], ◌∷◌, map, find, Option, Some, None, Result, Ok, Err, refl, sym, ◌∙◌, ap, subst, arith}
use Rattle.std.proofs.lemmas.Bool.{and_parts}
use Rattle.std.proofs.lemmas.Bool.Decides.{nat_tests}
use Rattle.base_lemmas.specs.Lists.{found_passes}
use Rattle.cip_types.specs.declared.names.Ms.{Ms}
use Rattle.cip_types.specs.declared.names.Node.{Node}
use Rattle.cip_types.specs.declared.names.ConnId.{ConnId}
use Rattle.cip_types.specs.Circle.{IsNewer, is_newer, distance}
use Rattle.cip_datagram.specs.declared.datagram.DatagramFault.{DatagramFault}
use Rattle.cip_datagram.specs.Datagram.{DatagramFields}
use Rattle.cip_datagram.specs.Header.{header_at}
use Rattle.cip_datagram.specs.Reading.{datagram_reading}
use Rattle.cip_events.specs.declared.event.Delivery.{Delivery}
use Rattle.cip_events.specs.declared.event.Delivery.TheVariants.{Duplicate, Heartbeat, Old, WrongSize}
use Rattle.cip_events.specs.declared.event.Event.TheVariants.{Datagram, Write, Tick}
use Rattle.cip_events.specs.Answers.{is_accepted}
use Rattle.cip_fwdopen.specs.Open.{OpenFields}
use Rattle.cip_productions.specs.declared.acceptance.Accepted.{Accepted}
use Rattle.cip_productions.specs.Acceptance.{accepts_sequence, is_duplicate}
use Rattle.cip_productions.specs.Kinds.{is_owner}
use Rattle.adapter_table.specs.declared.profile.Profile.{Profile}
use Rattle.adapter_table.specs.Connections.{Row}
use Rattle.adapter_table.specs.declared.row.State.{State}
use Rattle.adapter_table.specs.declared.row.State.TheVariants.{TimedOut}
use Rattle.adapter_table.specs.declared.table.AdapterTable.{AdapterTable}
use Rattle.adapter_table.specs.Rates.{with_openings}
use Rattle.adapter_table.specs.Counting.{with_counters}
use Rattle.adapter_table.specs.Rows.{is_established, has_triad, Each, written_state, written_row}
use Rattle.adapter_table.specs.Checks.{Admitted}
use Rattle.cip_types.specs.IdLaws.{ids_differ}
use Rattle.adapter_table.specs.Opening.{opened_row, opened_table, is_replaced}
use Rattle.adapter_table.specs.Closing.{without_triad, stays, closed_table}
use Rattle.adapter_table.specs.Streams.{with_stream, without_stream, registered_table}
use Rattle.adapter_table.specs.StatedLimits.{accepts_at}
use Rattle.cip_productions.specs.Window.{since_accepted, is_within}
use Rattle.adapter_table.specs.Datagrams.{is_for, expected_len, run_bit, moded, accepted_delivery, row_delivery, accepted_row, accepted_if_for, accepted_table, delivered, found_datagram, datagram_of, received}
use Rattle.adapter_table.specs.Productions.{produced_row, changed_state, changed_row}
use Rattle.adapter_table.specs.Requests.{Next}
use Rattle.messaging.specs.declared.table.Messaging.{Messaging}
use Rattle.messaging.specs.Times.{aged}
use Rattle.adapter_table.specs.Messages.{messages_table}
use Rattle.adapter_table.specs.Ticks.{has_expired, expired_row, expired_rows, clocked_table, expired_table, produced_table, advanced}
use Rattle.adapter_table.specs.Step.{written_table, changed_table}
use Rattle.adapter_table.specs.Sound.{IsDrawn, IsSound, OpensBefore}
use Rattle.adapter_table.specs.Newest.{Acceptance, is_applied, acceptance_of, accepted_found, accepted_read, EachAfter, last_accepted, HasNewerNumber, HasOtherCount, IsAppliedNew, IsNotAgain, RemembersLast, TableRemembers}
use Rattle.adapter_table.specs.Laws.{StepsAcceptAfter, RefusalsAcceptNothing}
use Rattle.adapter_table.specs.EachLemmas.{each_filter, each_append, each_map, each_found, each_both, each_changed, two_weak, two_found}
use Rattle.adapter_table.specs.Lemmas.RequestLemmas.{RequestsDo, next_is}
use Rattle.adapter_table.specs.Lemmas.EffectLemmas.{IsWrite, write_is, IsTick, tick_is}
use Rattle.adapter_table.specs.Lemmas.ControlLemmas.{control_does}

-- ---- what an accepted datagram is

is_newer_by : (a b : ℕ) → is_newer a b ≡ true → IsNewer a b
is_newer_by a b is =
    let parts = and_parts (nat_le 1 (distance a b)) (nat_le (distance a b) (2 ^ 31 - 1)) is in
    (le_of _ _ parts.0, le_of _ _ parts.1) where
      le_of : (m n : ℕ) → nat_le m n ≡ true → m ≤ n
      le_of m n h = grind (arith, nat_tests)

-- its number is news
accepted_newer : (sized newer : Bool) (delivery : Delivery) → is_accepted (cond sized (cond newer delivery Old) WrongSize) ≡ true → newer ≡ true
accepted_newer true true delivery is = refl
accepted_newer true false delivery is = absurd cc
accepted_newer false newer delivery is = absurd cc

newer_than : (last : Option Accepted) (next : Acceptance) → accepts_sequence last next.datagram.number ≡ true → HasNewerNumber last next
newer_than None next newer = tt
newer_than (Some last) next newer = is_newer_by next.datagram.number last.number newer

-- where it is applied, its count is not the last one's and its header says run
applied_mode : (header : Option (Bool × List ℕ)) → is_applied (moded header) ≡ true → run_bit header ≡ true
applied_mode None is = absurd cc
applied_mode (Some x) is = mode_step x.0 is where
  mode_step : (b : Bool) → is_applied (cond b Delivery.Applied Delivery.Idle) ≡ true → b ≡ true
  mode_step true is = refl
  mode_step false is = absurd cc

applied_parts : (sized newer owner duplicate : Bool) (what : Delivery) → is_applied (cond sized (cond newer (cond owner (cond duplicate Duplicate what) Heartbeat) Old) WrongSize) ≡ true → (duplicate ≡ false) × (is_applied what ≡ true)
applied_parts true true true true what is = absurd cc
applied_parts true true true false what is = (refl, is)
applied_parts true true false duplicate what is = absurd cc
applied_parts true false owner duplicate what is = absurd cc
applied_parts false newer owner duplicate what is = absurd cc

other_count : (last : Option Accepted) (next : Acceptance) → is_duplicate last next.datagram.count ≡ false → HasOtherCount last next
other_count None next duplicate = tt
other_count (Some last) next duplicate = λ same. differ next.datagram.count last.count duplicate same where
  differ : (a b : ℕ) → (a == b) ≡ false → a ≢ b
  differ a b h same = absurd (grind (arith, nat_tests))

applied_new : (profile : Profile) (clock : Ms) (row : Row) (d : DatagramFields) → IsAppliedNew row.last (acceptance_of d (row_delivery profile clock row d))
applied_new profile clock row d = λ applied.
    let parts = applied_parts (length d.payload == expected_len profile row) (accepts_at profile.limits.newer clock row d.sequence) (is_owner row.kind) (is_duplicate row.last d.count) (moded (header_at d.payload)) applied in
    (applied_mode (header_at d.payload) parts.1, other_count row.last (acceptance_of d (row_delivery profile clock row d)) parts.0)

not_again : (last : Option Accepted) (next : Acceptance) → IsAppliedNew last next → IsNotAgain last next
not_again None next new = tt
not_again (Some last) next new = λ applied same. (new applied).1 (ap (λ (a : Accepted). a.count) same)

-- ---- the last one is remembered

remembers_step : (b : Bool) (opening : ℕ) (last : Option Accepted) (row : Row) (state : State) → RemembersLast opening last row → RemembersLast opening last (cond b (record row { state = state }) row)
remembers_step true opening last row state remembers = remembers
remembers_step false opening last row state remembers = remembers

remembers_rows : (opening : ℕ) (last : Option Accepted) (t next : AdapterTable) → t.next_id ≤ next.next_id → Each (RemembersLast opening last) next.rows → TableRemembers opening last t → TableRemembers opening last next
remembers_rows opening last t next more there remembers = record {
  there = there;
  unopened = λ unopened. remembers.unopened (omega arith);
}

remembers_closed : (opening : ℕ) (last : Option Accepted) (t : AdapterTable) (row : Row) → TableRemembers opening last t → TableRemembers opening last (closed_table t row)
unfolding closed_table
remembers_closed opening last t row remembers =
    let left = without_triad row.triad t.rows in
    remembers_rows opening last t (closed_table t row) (omega arith) (each_filter (RemembersLast opening last) (stays left) left (each_filter (RemembersLast opening last) (λ r. not (has_triad row.triad r)) t.rows remembers.there)) remembers

-- what is opened has accepted nothing
remembers_opened : (opening : ℕ) (last : Option Accepted) (t : AdapterTable) (peer : Node) (request : OpenFields) (admitted : Admitted) → TableRemembers opening last t → TableRemembers opening last (opened_table t (opened_row t peer request admitted) admitted)
unfolding opened_table opened_row
remembers_opened opening last t peer request admitted remembers =
    let row = opened_row t peer request admitted in
    let new : RemembersLast opening last row = λ same. sym (remembers.unopened (omega arith)) in
    remembers_rows opening last t (opened_table t row admitted) (omega arith)
    (each_append (RemembersLast opening last) _ row (each_filter (RemembersLast opening last) (λ r. not (is_replaced t.rows request.triad r)) t.rows remembers.there) new) remembers

remembers_written : (opening : ℕ) (last : Option Accepted) (t : AdapterTable) (point : ℕ) (bytes : List ℕ) → TableRemembers opening last t → TableRemembers opening last (changed_table (written_table t point bytes) point)
unfolding written_table changed_table
remembers_written opening last t point bytes remembers =
    remembers_rows opening last t (changed_table (written_table t point bytes) point) (omega arith)
    (each_map (RemembersLast opening last) (changed_row t.clock point) (λ row. remembers_step (row.produced == point) opening last row (changed_state t.clock row.t_o_api_ms row.state)) (map (written_row point) t.rows)
    (each_map (RemembersLast opening last) (written_row point) (λ row. remembers_step (row.produced == point) opening last row (written_state row.state)) t.rows remembers.there)) remembers

remembers_advanced : (opening : ℕ) (last : Option Accepted) (t : AdapterTable) (ms : ℕ) → TableRemembers opening last t → TableRemembers opening last (produced_table (expired_table (clocked_table t ms)))
unfolding clocked_table expired_table produced_table
remembers_advanced opening last t ms remembers =
    let clock : Ms = record { 0 = t.clock.0 + ms } in
    let left = expired_rows clock t.rows in
    remembers_rows opening last t (produced_table (expired_table (clocked_table t ms))) (omega arith)
    (each_map (RemembersLast opening last) (produced_row clock) (λ row remembers. remembers) _
    (each_filter (RemembersLast opening last) (stays left) left
    (each_map (RemembersLast opening last) (expired_row clock) (λ row. remembers_step (has_expired clock row) opening last row TimedOut) t.rows remembers.there))) remembers

remembers_with : (opening : ℕ) (last : Option Accepted) (t : AdapterTable) (number : ℕ) (peer : Node) → TableRemembers opening last t → TableRemembers opening last (with_stream t number peer)
unfolding with_stream
remembers_with opening last t number peer remembers = record { there = remembers.there; unopened = remembers.unopened }

remembers_without : (opening : ℕ) (last : Option Accepted) (t : AdapterTable) (number : ℕ) → TableRemembers opening last t → TableRemembers opening last (without_stream t number)
unfolding without_stream
remembers_without opening last t number remembers = record { there = remembers.there; unopened = remembers.unopened }

remembers_registered : (opening : ℕ) (last : Option Accepted) (t : AdapterTable) (number : ℕ) → TableRemembers opening last t → TableRemembers opening last (registered_table t number)
unfolding registered_table
remembers_registered opening last t number remembers = record { there = remembers.there; unopened = remembers.unopened }

remembers_messaged : (opening : ℕ) (last : Option Accepted) (t : AdapterTable) (next_id : ℕ) (m : Messaging) → t.next_id ≤ next_id → TableRemembers opening last t → TableRemembers opening last (messages_table t next_id m)
unfolding messages_table
remembers_messaged opening last t next_id m later remembers = remembers_rows opening last t (messages_table t next_id m) later remembers.there remembers

-- requests and frames change no connection's last datagram
requests_remember : (opening : ℕ) (last : Option Accepted) → RequestsDo (λ t next. TableRemembers opening last t → TableRemembers opening last next)
requests_remember opening last = record {
  stays = λ t remembers. remembers;
  opened = λ t peer request admitted is remembers. remembers_opened opening last t peer request admitted remembers;
  closed = λ t triad row found remembers. remembers_closed opening last t row remembers;
  unstreamed = λ t number remembers. remembers_without opening last t number remembers;
  registered = λ t number remembers. remembers_registered opening last t number remembers;
  messaged = λ t next_id m goes remembers. remembers_messaged opening last t next_id m goes.later remembers;
  taken = λ t block may remembers. record { there = remembers.there; unopened = remembers.unopened };
  counted = λ t next openings goes remembers. remembers_rows opening last next (with_openings next openings) (omega arith) (goes remembers).there (goes remembers);
  tallied = λ t next counters goes remembers. remembers_rows opening last next (with_counters next counters) (omega arith) (goes remembers).there (goes remembers);
}

-- ---- a datagram is accepted

-- no other connection has its opening number
abbrev SameOpening : Row → Row → Type 0
SameOpening a b = a.opening ≡ b.opening → a ≡ b

rising : (a b : Row) → OpensBefore a b → SameOpening a b
rising a b before = λ same. absurd (omega arith)

same_back : (a b : Row) → SameOpening a b → SameOpening b a
same_back a b is = λ same. sym (is (sym same))

for_id : (peer : Node) (id : ℕ) (row : Row) → is_for peer id row ≡ true → row.o_t_id.0 ≡ id
for_id peer id row is =
    let a = and_parts (is_established row) (row.peer.0 == peer.0 && row.o_t_id.0 == id) is in
    let b = and_parts (row.peer.0 == peer.0) (row.o_t_id.0 == id) a.1 in
    same_number (row.o_t_id.0) id b.1 where
      same_number : (m n : ℕ) → (m == n) ≡ true → m ≡ n
      same_number m n h = grind (arith, nat_tests)

-- two connections that a datagram is for have one opening number
one_opening : (t : AdapterTable) (peer : Node) (id : ℕ) (a b : Row) → IsSound t → IsDrawn t.ids t.next_id a → IsDrawn t.ids t.next_id b → is_for peer id a ≡ true → is_for peer id b ≡ true → a.opening ≡ b.opening
one_opening t peer id a b sound first second a_for b_for =
    let left = sound.ids_are_left in
    let a_below = first.below in
    let b_below = second.below in
    ids_differ t.ids a.opening b.opening sound.blocks first.begins (omega (arith, left, a_below)) second.begins (omega (arith, left, b_below))
    (ap (λ (i : ConnId). i.0) (sym first.id) ∙ for_id peer id a a_for ∙ sym (for_id peer id b b_for) ∙ ap (λ (i : ConnId). i.0) second.id)

fed_here : (b : Bool) (clock : Ms) (d : DatagramFields) (row : Row) (delivery : Delivery) → b ≡ true → (cond b (accepted_row clock d row) row).last ≡ Some (acceptance_of d delivery).datagram
fed_here true clock d row delivery is = refl
fed_here false clock d row delivery is = absurd cc

fed_beside : (b : Bool) (clock : Ms) (d : DatagramFields) (opening : ℕ) (last : Option Accepted) (row : Row) → (b ≡ true → row.opening ≡ opening → ⊥) → RemembersLast opening last row → RemembersLast opening last (cond b (accepted_row clock d row) row)
fed_beside true clock d opening last row other remembers = λ same. absurd (other refl same)
fed_beside false clock d opening last row other remembers = remembers

-- of the connection that accepts it
fed_own : (t : AdapterTable) (peer : Node) (d : DatagramFields) (row : Row) (delivery : Delivery) (last : Option Accepted) → find (is_for peer d.connection) t.rows ≡ Some row → IsSound t → TableRemembers row.opening last t → TableRemembers row.opening (Some (acceptance_of d delivery).datagram) (accepted_table t peer d row delivery)
unfolding accepted_table
fed_own t peer d row delivery last found sound remembers =
    let here = found_passes (is_for peer d.connection) t.rows row found in
    let alone = two_found SameOpening same_back (is_for peer d.connection) t.rows row found (λ _. refl) (two_weak OpensBefore SameOpening rising t.rows sound.producers.openings_rise) in
    let below : row.opening < t.next_id = (each_found (IsDrawn t.ids t.next_id) (is_for peer d.connection) t.rows row found sound.ids_are_drawn).below in
    record {
      there =
          each_changed (λ other. SameOpening other row) (RemembersLast row.opening (Some (acceptance_of d delivery).datagram)) (accepted_if_for t.clock peer d)
          (λ other only. fed_only other only) t.rows alone;
      unopened = λ later. absurd (omega arith);
    } where
      opening_kept : (b : Bool) (clock : Ms) (other : Row) → (cond b (accepted_row clock d other) other).opening ≡ other.opening
      opening_kept true clock other = refl
      opening_kept false clock other = refl

      fed_only : (other : Row) → SameOpening other row → RemembersLast row.opening (Some (acceptance_of d delivery).datagram) (accepted_if_for t.clock peer d other)
      fed_only other only = λ same.
          let is_it = only (sym (opening_kept (is_for peer d.connection other) t.clock other) ∙ same) in
          fed_here (is_for peer d.connection other) t.clock d other delivery (ap (is_for peer d.connection) is_it ∙ found_passes (is_for peer d.connection) t.rows row found)

-- of another one
fed_other : (t : AdapterTable) (peer : Node) (d : DatagramFields) (row : Row) (delivery : Delivery) (opening : ℕ) (last : Option Accepted) → find (is_for peer d.connection) t.rows ≡ Some row → (row.opening == opening) ≡ false → IsSound t → TableRemembers opening last t → TableRemembers opening last (accepted_table t peer d row delivery)
unfolding accepted_table
fed_other t peer d row delivery opening last found differs sound remembers =
    let here = found_passes (is_for peer d.connection) t.rows row found in
    let drawn = sound.ids_are_drawn in
    let own = each_found (IsDrawn t.ids t.next_id) (is_for peer d.connection) t.rows row found drawn in
    record {
      there =
          each_changed (λ other. RemembersLast opening last other × IsDrawn t.ids t.next_id other) (RemembersLast opening last) (accepted_if_for t.clock peer d)
          (λ other both. fed_beside (is_for peer d.connection other) t.clock d opening last other (λ for_it same. other_opening row.opening other.opening opening differs (one_opening t peer d.connection row other sound own both.1 here for_it) same) both.0) t.rows
          (each_both (RemembersLast opening last) (IsDrawn t.ids t.next_id) (λ other. RemembersLast opening last other × IsDrawn t.ids t.next_id other) (λ other first second. (first, second)) t.rows remembers.there drawn);
      unopened = remembers.unopened;
    } where
      other_opening : (a b o : ℕ) → (a == o) ≡ false → a ≡ b → b ≡ o → ⊥
      other_opening a b o differs same is = grind (arith, nat_tests)

-- what is related to the last one that a table remembers, and is remembered in its place
abbrev Goes : (Option Accepted → Acceptance → Type 0) → ℕ → Option Accepted → List Acceptance → AdapterTable → Type 0
Goes R opening last taken next = EachAfter R last taken × TableRemembers opening (last_accepted last taken) next

-- what R has to hold of: each datagram that a connection accepts, after what it remembers
abbrev pub OfAccepted : (Option Accepted → Acceptance → Type 0) → Type 0
OfAccepted R = (profile : Profile) (clock : Ms) (row : Row) (d : DatagramFields) → is_accepted (row_delivery profile clock row d) ≡ true → R row.last (acceptance_of d (row_delivery profile clock row d))

goes_judged : (R : Option Accepted → Acceptance → Type 0) (accepted own : Bool) (opening : ℕ) (last : Option Accepted) (t : AdapterTable) (peer : Node) (d : DatagramFields) (row : Row) (delivery : Delivery) → find (is_for peer d.connection) t.rows ≡ Some row → (row.opening == opening) ≡ own → IsSound t → (accepted ≡ true → R row.last (acceptance_of d delivery)) → TableRemembers opening last t → Goes R opening last (cond (own && accepted) (acceptance_of d delivery ∷ []) []) (cond accepted (delivered delivery (accepted_table t peer d row delivery)) (delivered delivery t)).1
goes_judged R true true opening last t peer d row delivery found own sound holds remembers =
    let same : row.opening ≡ opening = grind (arith, nat_tests) in
    let remembers' = subst (λ (n : ℕ). TableRemembers n last t) (sym same) remembers in
    let lasts : row.last ≡ last = each_found (RemembersLast opening last) (is_for peer d.connection) t.rows row found remembers.there same in (
      (subst (λ (l : Option Accepted). R l (acceptance_of d delivery)) lasts (holds refl), tt),
      subst (λ (n : ℕ). TableRemembers n (Some (acceptance_of d delivery).datagram) (accepted_table t peer d row delivery)) same (fed_own t peer d row delivery last found sound remembers'),
    )
goes_judged R true false opening last t peer d row delivery found own sound holds remembers = (tt, fed_other t peer d row delivery opening last found own sound remembers)
goes_judged R false true opening last t peer d row delivery found own sound holds remembers = (tt, remembers)
goes_judged R false false opening last t peer d row delivery found own sound holds remembers = (tt, remembers)

goes_found : (R : Option Accepted → Acceptance → Type 0) → OfAccepted R → (opening : ℕ) (last : Option Accepted) (t : AdapterTable) (peer : Node) (d : DatagramFields) (found : Option Row) → find (is_for peer d.connection) t.rows ≡ found → IsSound t → TableRemembers opening last t → Goes R opening last (accepted_found opening t.profile t.clock d found) (found_datagram t peer d found).1
goes_found R holds opening last t peer d None is sound remembers = (tt, remembers)
goes_found R holds opening last t peer d (Some row) is sound remembers =
    goes_judged R (is_accepted (row_delivery t.profile t.clock row d)) (row.opening == opening) opening last t peer d row (row_delivery t.profile t.clock row d) is refl sound (holds t.profile t.clock row d) remembers

goes_read : (R : Option Accepted → Acceptance → Type 0) → OfAccepted R → (opening : ℕ) (last : Option Accepted) (t : AdapterTable) (peer : Node) (reading : Result DatagramFields DatagramFault) → IsSound t → TableRemembers opening last t → Goes R opening last (accepted_read opening t peer reading) (datagram_of t peer reading).1
goes_read R holds opening last t peer (Err fault) sound remembers = (tt, remembers)
goes_read R holds opening last t peer (Ok d) sound remembers = goes_found R holds opening last t peer d (find (is_for peer d.connection) t.rows) refl sound remembers

-- ---- an event

remembers_tick : (opening : ℕ) (last : Option Accepted) (t : AdapterTable) (ms : ℕ) (next : Next) → IsTick t ms next → TableRemembers opening last t → TableRemembers opening last next.1
remembers_tick opening last t ms next is remembers =
    let later = (advanced (clocked_table t ms)).1 in
    subst (λ (n : Next). TableRemembers opening last n.1) is.said
    (remembers_messaged opening last later later.next_id (aged later.clock later.messaging) (omega arith) (remembers_advanced opening last t ms remembers))

remembers_write : (opening : ℕ) (last : Option Accepted) (t : AdapterTable) (point : ℕ) (bytes : List ℕ) (next : Next) → IsWrite t point bytes next → TableRemembers opening last t → TableRemembers opening last next.1
remembers_write opening last t point bytes next is remembers = subst (λ (n : Next). TableRemembers opening last n.1) is.said (remembers_written opening last t point bytes remembers)

steps_accept : (R : Option Accepted → Acceptance → Type 0) → OfAccepted R → StepsAcceptAfter R
unfolding received
steps_accept R holds opening last t (Datagram peer bytes) next is sound remembers =
    subst (λ (n : Next). Goes R opening last (accepted_read opening t peer (datagram_reading bytes)) n.1) (next_is _ _ is)
    (goes_read R holds opening last t peer (datagram_reading bytes) sound remembers)
steps_accept R holds opening last t (Write point bytes) next is sound remembers = (tt, remembers_write opening last t point bytes next (write_is t point bytes next is) remembers)
steps_accept R holds opening last t (Tick ms) next is sound remembers = (tt, remembers_tick opening last t ms next (tick_is t ms next is) remembers)
steps_accept R holds opening last t other next is sound remembers = (tt, control_does (λ t next. TableRemembers opening last t → TableRemembers opening last next) (requests_remember opening last) (λ t number peer free. remembers_with opening last t number peer) t other next refl is remembers)

pub steps_accept_newer : StepsAcceptAfter HasNewerNumber
steps_accept_newer = steps_accept HasNewerNumber (λ profile clock row d is. newer_than row.last (acceptance_of d (row_delivery profile clock row d))
    (and_parts (accepts_sequence row.last d.sequence) (is_within profile.limits.newer (since_accepted clock row.watchdog row.deadline) row.o_t_pace_ms row.last d.sequence)
    (accepted_newer (length d.payload == expected_len profile row) (accepts_at profile.limits.newer clock row d.sequence) (accepted_delivery row d) is)).0)

pub steps_apply_new : StepsAcceptAfter IsAppliedNew
steps_apply_new = steps_accept IsAppliedNew (λ profile clock row d is. applied_new profile clock row d)

pub steps_apply_once : StepsAcceptAfter IsNotAgain
steps_apply_once = steps_accept IsNotAgain (λ profile clock row d is. not_again row.last (acceptance_of d (row_delivery profile clock row d)) (applied_new profile clock row d))

pub faults_accept_nothing : RefusalsAcceptNothing
faults_accept_nothing opening t (Datagram peer bytes) fault is = absurd cc
faults_accept_nothing opening t other fault is = refl
