-- After each event an established connection was there before it with its deadline, or the event set its deadline.
use Rattle.std.proofs.Common.{◌≡◌, ◌⊎◌, inl, inr, ℕ, ◌+◌, ◌==◌, ◌≤◌, ◌<◌, max, Bool, true, false, cond, not, ◌||◌, ◌&&◌, List, [], ◌∷◌, map, filter, find, Option, Some, None, Result, Ok, Err, refl, sym, ◌∙◌, ap, subst, eq-eqb, arith}
use Rattle.std.specs.List.{list_any}
use Rattle.std.proofs.lemmas.Bool.{eqb-true, and_parts}
use Rattle.std.proofs.lemmas.Bool.Decides.{nat_tests}
use Rattle.std.proofs.lemmas.List.Folds.{list_any-append}
use Rattle.base_lemmas.specs.Lists.{found_passes}
use Rattle.cip_types.specs.declared.names.ConnId.{ConnId}
use Rattle.cip_types.specs.declared.names.Ms.{Ms}
use Rattle.cip_types.specs.declared.names.Node.{Node}
use Rattle.cip_types.specs.IdLaws.{ids_differ}
use Rattle.cip_types.specs.declared.ids.IdBlock.{IdBlock}
use Rattle.cip_datagram.specs.declared.datagram.DatagramFault.{DatagramFault}
use Rattle.cip_datagram.specs.Datagram.{DatagramFields}
use Rattle.cip_datagram.specs.Reading.{datagram_reading}
use Rattle.cip_events.specs.declared.event.Delivery.{Delivery}
use Rattle.cip_events.specs.declared.event.Event.{Event}
use Rattle.cip_events.specs.declared.event.Event.TheVariants.{Datagram, Write, Tick}
use Rattle.cip_events.specs.declared.event.StepFault.{StepFault}
use Rattle.cip_events.specs.Answers.{is_accepted}
use Rattle.cip_fwdopen.specs.Open.{OpenFields}
use Rattle.messaging.specs.declared.table.Messaging.{Messaging}
use Rattle.adapter_table.specs.declared.row.State.{State}
use Rattle.adapter_table.specs.declared.row.State.TheVariants.{TimedOut}
use Rattle.adapter_table.specs.declared.table.AdapterTable.{AdapterTable}
use Rattle.adapter_table.specs.Checks.{Admitted}
use Rattle.adapter_table.specs.Closing.{without_triad, stays, closed_table}
use Rattle.adapter_table.specs.Connections.{Row}
use Rattle.adapter_table.specs.Datagrams.{is_for, row_delivery, accepted_row, accepted_if_for, accepted_table, delivered, found_datagram, datagram_of, received}
use Rattle.adapter_table.specs.Messages.{messages_table}
use Rattle.adapter_table.specs.Newest.{Acceptance, acceptance_of, accepted_found, accepted_read, accepted_at, was_opened_as}
use Rattle.adapter_table.specs.Opening.{opened_row, opened_table, is_replaced}
use Rattle.adapter_table.specs.Productions.{produced_state, produced_row, changed_state, changed_row}
use Rattle.adapter_table.specs.Requests.{Next}
use Rattle.adapter_table.specs.Rows.{lives, is_established, has_triad, written_state, written_row}
use Rattle.adapter_table.specs.Sound.{IdsAreDrawn, IsDrawn, IsSound, OpensBefore}
use Rattle.adapter_table.specs.Step.{adapter_step, written_table, changed_table}
use Rattle.adapter_table.specs.Streams.{with_stream, without_stream, registered_table}
use Rattle.adapter_table.specs.Ticks.{has_expired, expired_row, expired_rows, clocked_table, expired_table, produced_table, advanced}
use Rattle.adapter_table.specs.EachLemmas.{each_found, two_weak, two_found}
use Rattle.adapter_table.specs.Lemmas.ControlLemmas.{control_does}
use Rattle.adapter_table.specs.Lemmas.EffectLemmas.{IsWrite, write_is, IsTick, tick_is}
use Rattle.adapter_table.specs.Lemmas.LikeLemmas.{lives_written, lives_due, lives_changed}
use Rattle.adapter_table.specs.Lemmas.RequestLemmas.{RequestsDo, next_is}
use Rattle.adapter_table.specs.Lemmas.SoundLemmas.{any_filter}
use Rattle.adapter_table.specs.Lemmas.MessageLemmas.{found_any}
use Rattle.messaging.specs.Times.{aged}
use Rattle.freshness_laws.proofs.Lists.{or_cases, held_before, none_mapped, any_mapped, any_found}

-- ---- an established connection with its time-out and deadline

pub record Watch : Type 0 where
  pub opening : ℕ
  pub timeout : ℕ
  pub deadline : ℕ

abbrev pub is_watched : Watch → Row → Bool
is_watched w row = is_established row && (row.opening == w.opening && (row.watchdog.0 == w.timeout && row.deadline.0 == w.deadline))

-- the table has it
abbrev pub is_kept : Watch → AdapterTable → Bool
is_kept w t = list_any (is_watched w) t.rows

record Watched (w : Watch) (row : Row) : Type 0 where
  opening : row.opening ≡ w.opening
  timeout : row.watchdog.0 ≡ w.timeout
  deadline : row.deadline.0 ≡ w.deadline

watched_parts : (w : Watch) (row : Row) → is_watched w row ≡ true → Watched w row
watched_parts w row is =
    let first = and_parts (is_established row) _ is in
    let second = and_parts (row.opening == w.opening) _ first.1 in
    let third = and_parts (row.watchdog.0 == w.timeout) _ second.1 in
    record { opening = eqb-true _ _ second.0; timeout = eqb-true _ _ third.0; deadline = eqb-true _ _ third.1 }

-- ---- what an event does

-- the connection was there before, and accepted nothing
pub record Stays (w : Watch) (t : AdapterTable) (accepted : List Acceptance) : Type 0 where
  pub kept : is_kept w t ≡ true
  pub silent : accepted ≡ []

-- it accepted a datagram, which set its deadline
pub record SetsDeadline (w : Watch) (t : AdapterTable) (accepted : List Acceptance) : Type 0 where
  pub one : Acceptance
  pub is : accepted ≡ one ∷ []
  pub deadline : w.deadline ≡ t.clock.0 + w.timeout

-- it was opened, with its first deadline
pub record Begins (w : Watch) (t : AdapterTable) (accepted : List Acceptance) : Type 0 where
  pub silent : accepted ≡ []
  pub opening : w.opening ≡ t.next_id
  pub deadline : w.deadline ≡ t.clock.0 + max 10000 w.timeout

abbrev pub Goes : Watch → AdapterTable → List Acceptance → Type 0
Goes w t accepted = Stays w t accepted ⊎ (SetsDeadline w t accepted ⊎ Begins w t accepted)

-- ---- all but datagrams and openings leave no deadline that was not there

watched_same : (w : Watch) (row : Row) (state : State) → lives state ≡ lives row.state → is_watched w row ≡ false → is_watched w (record row { state = state }) ≡ false
watched_same w row state same none =
    ap (λ (b : Bool). b && (row.opening == w.opening && (row.watchdog.0 == w.timeout && row.deadline.0 == w.deadline))) same ∙ none

watched_if : (b : Bool) (w : Watch) (row : Row) (state : State) → lives state ≡ lives row.state → is_watched w row ≡ false → is_watched w (cond b (record row { state = state }) row) ≡ false
watched_if true w row state same none = watched_same w row state same none
watched_if false w row state same none = none

watched_expired : (b : Bool) (w : Watch) (row : Row) → is_watched w row ≡ false → is_watched w (cond b (record row { state = TimedOut }) row) ≡ false
watched_expired true w row none = refl
watched_expired false w row none = none

abbrev Unkept : Watch → AdapterTable → Type 0
Unkept w t = is_kept w t ≡ false

unkept_closed : (w : Watch) (t : AdapterTable) (row : Row) → Unkept w t → Unkept w (closed_table t row)
unfolding closed_table
unkept_closed w t row none =
    let s = is_watched w in
    let left = without_triad row.triad t.rows in
    any_filter (stays left) s left (any_filter (λ (r : Row). not (has_triad row.triad r)) s t.rows none)

unkept_written : (w : Watch) (t : AdapterTable) (point : ℕ) (bytes : List ℕ) → Unkept w t → Unkept w (changed_table (written_table t point bytes) point)
unfolding written_table changed_table
unkept_written w t point bytes none =
    let s = is_watched w in
    none_mapped s (changed_row t.clock point) (λ row. watched_if (row.produced == point) w row (changed_state t.clock row.t_o_api_ms row.state) (lives_changed t.clock row.t_o_api_ms row.state)) (map (written_row point) t.rows)
    (none_mapped s (written_row point) (λ row. watched_if (row.produced == point) w row (written_state row.state) (lives_written row.state)) t.rows none)

unkept_advanced : (w : Watch) (t : AdapterTable) (ms : ℕ) → Unkept w t → Unkept w (produced_table (expired_table (clocked_table t ms)))
unfolding clocked_table expired_table produced_table
unkept_advanced w t ms none =
    let s = is_watched w in
    let clock : Ms = record { 0 = t.clock.0 + ms } in
    let left = expired_rows clock t.rows in
    none_mapped s (produced_row clock) (λ row. watched_same w row (produced_state clock row.t_o_api_ms row.state) (lives_due clock row.t_o_api_ms row.state)) (filter (stays left) left)
    (any_filter (stays left) s left
    (none_mapped s (expired_row clock) (λ row. watched_expired (has_expired clock row) w row) t.rows none))

unkept_with : (w : Watch) (t : AdapterTable) (number : ℕ) (peer : Node) → Unkept w t → Unkept w (with_stream t number peer)
unfolding with_stream
unkept_with w t number peer none = none

unkept_without : (w : Watch) (t : AdapterTable) (number : ℕ) → Unkept w t → Unkept w (without_stream t number)
unfolding without_stream
unkept_without w t number none = none

unkept_registered : (w : Watch) (t : AdapterTable) (number : ℕ) → Unkept w t → Unkept w (registered_table t number)
unfolding registered_table
unkept_registered w t number none = none

unkept_messaged : (w : Watch) (t : AdapterTable) (next_id : ℕ) (m : Messaging) → Unkept w t → Unkept w (messages_table t next_id m)
unfolding messages_table
unkept_messaged w t next_id m none = none

-- a control event: the connection was there, or was opened
abbrev Controls : Watch → AdapterTable → AdapterTable → Type 0
Controls w t next = is_kept w next ≡ true → Goes w t []

stayed : (w : Watch) (t next : AdapterTable) → (Unkept w t → Unkept w next) → Controls w t next
stayed w t next keeps is = inl (record { kept = held_before (is_kept w t) (is_kept w next) is keeps; silent = refl })

begun : (w : Watch) (t : AdapterTable) (peer : Node) (request : OpenFields) (admitted : Admitted) → is_watched w (opened_row t peer request admitted) ≡ true → Begins w t []
unfolding opened_row
begun w t peer request admitted is =
    let parts = watched_parts w (opened_row t peer request admitted) is in
    record {
      silent = refl;
      opening = sym parts.opening;
      deadline = sym parts.deadline ∙ ap (λ (n : ℕ). t.clock.0 + max 10000 n) parts.timeout;
    }

alone : (s : Row → Bool) (row : Row) → list_any s (row ∷ []) ≡ true → s row ≡ true
alone s row is = one (s row) is where
  one : (b : Bool) → (b || false) ≡ true → b ≡ true
  one true is = refl
  one false is = is

opened_controls : (w : Watch) (t : AdapterTable) (peer : Node) (request : OpenFields) (admitted : Admitted) → Controls w t (opened_table t (opened_row t peer request admitted) admitted)
unfolding opened_table
opened_controls w t peer request admitted is =
    let row = opened_row t peer request admitted in
    let s = is_watched w in
    let left = filter (λ (r : Row). not (is_replaced t.rows row.triad r)) t.rows in
    by_place (or_cases (list_any s left) (list_any s (row ∷ [])) (sym (list_any-append s left (row ∷ [])) ∙ is)) where
      by_place : ((list_any (is_watched w) (filter (λ (r : Row). not (is_replaced t.rows (opened_row t peer request admitted).triad r)) t.rows) ≡ true) ⊎ (list_any (is_watched w) (opened_row t peer request admitted ∷ []) ≡ true)) → Goes w t []
      by_place (inl there) = inl (record { kept = held_before (is_kept w t) _ there (λ none. any_filter (λ (r : Row). not (is_replaced t.rows (opened_row t peer request admitted).triad r)) (is_watched w) t.rows none); silent = refl })
      by_place (inr new) = inr (inr (begun w t peer request admitted (alone (is_watched w) (opened_row t peer request admitted) new)))

requests_control : (w : Watch) → RequestsDo (Controls w)
requests_control w = record {
  stays = λ t is. inl (record { kept = is; silent = refl });
  opened = λ t peer request admitted is. opened_controls w t peer request admitted;
  closed = λ t triad row found. stayed w t (closed_table t row) (unkept_closed w t row);
  unstreamed = λ t number. stayed w t (without_stream t number) (unkept_without w t number);
  registered = λ t number. stayed w t (registered_table t number) (unkept_registered w t number);
  messaged = λ t next_id m goes. stayed w t (messages_table t next_id m) (unkept_messaged w t next_id m);
  counted = λ t next openings controls. controls;
  tallied = λ t next counters controls. controls;
  taken = λ t block may is. inl (record { kept = is; silent = refl });
}

-- ---- connections of one opening number

abbrev AloneOpened : Row → Row → Type 0
AloneOpened a b = a.opening ≡ b.opening → a ≡ b

alone_back : (a b : Row) → AloneOpened a b → AloneOpened b a
alone_back a b is = λ same. sym (is (sym same))

pub opened_alone : (t : AdapterTable) → IsSound t → (p q : Row → Bool) (row other : Row) → find p t.rows ≡ Some row → find q t.rows ≡ Some other → other.opening ≡ row.opening → other ≡ row
opened_alone t sound p q row other found there =
    each_found (λ (r : Row). AloneOpened r row) q t.rows other there
    (two_found AloneOpened alone_back p t.rows row found (λ _. refl)
    (two_weak OpensBefore AloneOpened (λ a b before same. absurd (omega arith)) t.rows sound.producers.openings_rise))

-- two connections that one datagram is for are one
pub for_alone : (t : AdapterTable) → IsSound t → (peer : Node) (id : ℕ) (q : Row → Bool) (row other : Row) → find (is_for peer id) t.rows ≡ Some row → find q t.rows ≡ Some other → is_for peer id other ≡ true → other ≡ row
for_alone t sound peer id q row other found there for_it =
    let left = sound.ids_are_left in
    let first = each_found (IsDrawn t.ids t.next_id) (is_for peer id) t.rows row found sound.ids_are_drawn in
    let second = each_found (IsDrawn t.ids t.next_id) q t.rows other there sound.ids_are_drawn in
    let first_below = first.below in
    let second_below = second.below in
    opened_alone t sound (is_for peer id) q row other found there
    (ids_differ t.ids other.opening row.opening sound.blocks second.begins (omega (arith, left, second_below)) first.begins (omega (arith, left, first_below))
    (ap (λ (i : ConnId). i.0) (sym second.id) ∙ id_of peer id other for_it ∙ sym (id_of peer id row (found_passes (is_for peer id) t.rows row found)) ∙ ap (λ (i : ConnId). i.0) first.id))
  where
    id_of : (peer : Node) (id : ℕ) (row : Row) → is_for peer id row ≡ true → row.o_t_id.0 ≡ id
    id_of peer id row is = eqb-true _ _ (and_parts (row.peer.0 == peer.0) _ (and_parts (is_established row) _ is).1).1

-- ---- a datagram

-- the connection before the datagram
record WatchedBefore (w : Watch) (t : AdapterTable) (f : Row → Row) : Type 0 where
  row : Row
  there : find (λ r. is_watched w (f r)) t.rows ≡ Some row
  watched : is_watched w (f row) ≡ true

watched_before : (w : Watch) (t : AdapterTable) (f : Row → Row) → list_any (is_watched w) (map f t.rows) ≡ true → WatchedBefore w t f
watched_before w t f is =
    let found = any_found (λ r. is_watched w (f r)) t.rows (sym (any_mapped (is_watched w) f t.rows) ∙ is) in
    record { row = found.0; there = found.1; watched = found_passes (λ r. is_watched w (f r)) t.rows found.0 found.1 }

-- the datagram was for the connection, which is the one that is found, or for another one
fed_goes : (b : Bool) (w : Watch) (t : AdapterTable) (peer : Node) (d : DatagramFields) (row other : Row) (what : Delivery) → is_for peer d.connection other ≡ b → find (is_for peer d.connection) t.rows ≡ Some row → IsSound t → find (λ r. is_watched w (accepted_if_for t.clock peer d r)) t.rows ≡ Some other → is_watched w (cond b (accepted_row t.clock d other) other) ≡ true → (own : Bool) → (row.opening == w.opening) ≡ own → Goes w t (cond (own && true) (acceptance_of d what ∷ []) [])
fed_goes true w t peer d row other what for_it found sound there watched true own =
    let parts = watched_parts w (accepted_row t.clock d other) watched in
    inr (inl (record { one = acceptance_of d what; is = refl; deadline = sym parts.deadline ∙ ap (λ (n : ℕ). t.clock.0 + n) parts.timeout }))
fed_goes true w t peer d row other what for_it found sound there watched false own =
    let same : other ≡ row = for_alone t sound peer d.connection (λ r. is_watched w (accepted_if_for t.clock peer d r)) row other found there for_it in
    let opened : other.opening ≡ w.opening = (watched_parts w (accepted_row t.clock d other) watched).opening in
    absurd (let e : true ≡ false = sym (eq-eqb row.opening w.opening (ap (λ (r : Row). r.opening) (sym same) ∙ opened)) ∙ own in cc)
fed_goes false w t peer d row other what for_it found sound there watched true own =
    let opened : other.opening ≡ row.opening = (watched_parts w other watched).opening ∙ sym (eqb-true row.opening w.opening own) in
    let same : other ≡ row = opened_alone t sound (is_for peer d.connection) (λ r. is_watched w (accepted_if_for t.clock peer d r)) row other found there opened in
    absurd (let e : true ≡ false = sym (found_passes (is_for peer d.connection) t.rows row found) ∙ (ap (is_for peer d.connection) (sym same) ∙ for_it) in cc)
fed_goes false w t peer d row other what for_it found sound there watched false own =
    inl (record { kept = found_any (λ r. is_watched w (accepted_if_for t.clock peer d r)) (is_watched w) t.rows other there watched; silent = refl })

accepted_goes : (own : Bool) (w : Watch) (t : AdapterTable) (peer : Node) (d : DatagramFields) (row : Row) (what : Delivery) → (row.opening == w.opening) ≡ own → find (is_for peer d.connection) t.rows ≡ Some row → IsSound t → is_kept w (accepted_table t peer d row what) ≡ true → Goes w t (cond (own && true) (acceptance_of d what ∷ []) [])
unfolding accepted_table
accepted_goes own w t peer d row what own_is found sound is =
    let before = watched_before w t (accepted_if_for t.clock peer d) is in
    fed_goes (is_for peer d.connection before.row) w t peer d row before.row what refl found sound before.there before.watched own own_is

none_by : (b : Bool) (some : List Acceptance) → cond (b && false) some [] ≡ []
none_by true some = refl
none_by false some = refl

judged_goes : (b : Bool) (w : Watch) (t : AdapterTable) (peer : Node) (d : DatagramFields) (row : Row) (what : Delivery) → find (is_for peer d.connection) t.rows ≡ Some row → IsSound t → is_kept w (cond b (delivered what (accepted_table t peer d row what)) (delivered what t)).1 ≡ true → Goes w t (cond (was_opened_as w.opening row && b) (acceptance_of d what ∷ []) [])
judged_goes true w t peer d row what found sound is = accepted_goes (row.opening == w.opening) w t peer d row what refl found sound is
judged_goes false w t peer d row what found sound is = inl (record { kept = is; silent = none_by (was_opened_as w.opening row) (acceptance_of d what ∷ []) })

found_goes : (w : Watch) (t : AdapterTable) (peer : Node) (d : DatagramFields) (found : Option Row) → find (is_for peer d.connection) t.rows ≡ found → IsSound t → is_kept w (found_datagram t peer d found).1 ≡ true → Goes w t (accepted_found w.opening t.profile t.clock d found)
found_goes w t peer d None there sound is = inl (record { kept = is; silent = refl })
found_goes w t peer d (Some row) there sound is =
    let what = row_delivery t.profile t.clock row d in
    judged_goes (is_accepted what) w t peer d row what there sound is

read_goes : (w : Watch) (t : AdapterTable) (peer : Node) (reading : Result DatagramFields DatagramFault) → IsSound t → is_kept w (datagram_of t peer reading).1 ≡ true → Goes w t (accepted_read w.opening t peer reading)
read_goes w t peer (Err fault) sound is = inl (record { kept = is; silent = refl })
read_goes w t peer (Ok d) sound is = found_goes w t peer d (find (is_for peer d.connection) t.rows) refl sound is

-- ---- an event

write_goes : (w : Watch) (t : AdapterTable) (point : ℕ) (bytes : List ℕ) (next : Next) → IsWrite t point bytes next → Controls w t next.1
write_goes w t point bytes next is = subst (λ (n : Next). Controls w t n.1) is.said (stayed w t (changed_table (written_table t point bytes) point) (unkept_written w t point bytes))

tick_goes : (w : Watch) (t : AdapterTable) (ms : ℕ) (next : Next) → IsTick t ms next → Controls w t next.1
tick_goes w t ms next is =
    let later = (advanced (clocked_table t ms)).1 in
    subst (λ (n : Next). Controls w t n.1) is.said (stayed w t (messages_table later later.next_id (aged later.clock later.messaging)) (λ none. unkept_messaged w later later.next_id (aged later.clock later.messaging) (unkept_advanced w t ms none)))

pub step_goes : (w : Watch) (t : AdapterTable) (event : Event) (next : Next) → adapter_step t event ≡ Ok next → IsSound t → is_kept w next.1 ≡ true → Goes w t (accepted_at w.opening t event)
unfolding received
step_goes w t (Datagram peer bytes) next is sound kept =
    subst (λ (n : Next). is_kept w n.1 ≡ true → Goes w t (accepted_at w.opening t (Datagram peer bytes))) (next_is _ _ is) (read_goes w t peer (datagram_reading bytes) sound) kept
step_goes w t (Write point bytes) next is sound kept = write_goes w t point bytes next (write_is t point bytes next is) kept
step_goes w t (Tick ms) next is sound kept = tick_goes w t ms next (tick_is t ms next is) kept
step_goes w t other next is sound kept = control_does (Controls w) (requests_control w) (λ t number peer free. stayed w t (with_stream t number peer) (unkept_with w t number peer)) t other next refl is kept

-- ---- openings to come

-- each opening number is below the next one
pub below_next : (ids : List IdBlock) (next opening : ℕ) (rows : List Row) → IdsAreDrawn ids next rows → next ≤ opening → list_any (was_opened_as opening) rows ≡ false
below_next ids next opening [] drawn more = refl
below_next ids next opening (row ∷ rows) drawn more =
    let least : row.opening < next = drawn.0.below in
    let other : (row.opening == opening) ≡ false = grind (arith, nat_tests) in
    rw other (below_next ids next opening rows drawn.1 more)

unopened_found : (opening : ℕ) (t : AdapterTable) (peer : Node) (d : DatagramFields) (found : Option Row) → find (is_for peer d.connection) t.rows ≡ found → list_any (was_opened_as opening) t.rows ≡ false → accepted_found opening t.profile t.clock d found ≡ []
unopened_found opening t peer d None is none = refl
unopened_found opening t peer d (Some row) is none = by_own (was_opened_as opening row) (λ own. found_any (is_for peer d.connection) (was_opened_as opening) t.rows row is own) where
  by_own : (b : Bool) → (b ≡ true → list_any (was_opened_as opening) t.rows ≡ true) → cond (b && is_accepted (row_delivery t.profile t.clock row d)) (acceptance_of d (row_delivery t.profile t.clock row d) ∷ []) [] ≡ []
  by_own true there = absurd (let e = sym none ∙ there refl in cc)
  by_own false there = refl

unopened_read : (opening : ℕ) (t : AdapterTable) (peer : Node) (reading : Result DatagramFields DatagramFault) → list_any (was_opened_as opening) t.rows ≡ false → accepted_read opening t peer reading ≡ []
unopened_read opening t peer (Err fault) none = refl
unopened_read opening t peer (Ok d) none = unopened_found opening t peer d (find (is_for peer d.connection) t.rows) refl none

-- a connection that is not there accepts nothing
pub unopened_accepts : (opening : ℕ) (t : AdapterTable) (event : Event) → list_any (was_opened_as opening) t.rows ≡ false → accepted_at opening t event ≡ []
unopened_accepts opening t (Datagram peer bytes) none = unopened_read opening t peer (datagram_reading bytes) none
unopened_accepts opening t other none = refl

-- and an event that is refused is accepted by none
pub refused_accepts : (opening : ℕ) (t : AdapterTable) (event : Event) (fault : StepFault) → adapter_step t event ≡ Err fault → accepted_at opening t event ≡ []
refused_accepts opening t (Datagram peer bytes) fault is = absurd (let e = is in cc)
refused_accepts opening t other fault is = refl
