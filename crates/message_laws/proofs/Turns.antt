-- Of the messages that are executed on a connection the counts differ in turn.
use Rattle.std.proofs.Common.{◌≡◌, ◌≢◌, ◌⊎◌, ℕ, ◌+◌, ◌==◌, ◌&&◌, ◌||◌, not, Bool, true, false, cond, List, [], ◌∷◌, ◌++◌, find, Option, Some, None, Result, Ok, refl, sym, ◌∙◌, ap, subst, eqb-true, eq-eqb, inl, inr}
use Rattle.std.specs.List.{last_or}
use Rattle.std.proofs.lemmas.Option.{same_Some}
use Rattle.base_lemmas.specs.Lists.{found_passes}
use Rattle.cip_types.specs.declared.names.ConnId.{ConnId}
use Rattle.cip_encap.specs.Connected.{ConnectedFields}
use Rattle.cip_events.specs.declared.event.Event.{Event}
use Rattle.cip_events.specs.declared.event.Event.TheVariants as event
use Rattle.cip_events.specs.declared.event.Frame.{Frame}
use Rattle.cip_events.specs.declared.event.StepFault.{StepFault}
use Rattle.cip_router.specs.declared.command.EncapStatus.TheVariants as encap
use Rattle.cip_router.specs.Frames.{RequestHeader}
use Rattle.messaging.specs.declared.class3.Class3Connection.{Class3Connection}
use Rattle.messaging.specs.Class3Connections.{has_class3_id, is_count, repeats_last, first_changed, executed_class3, repeated_class3}
use Rattle.messaging.specs.Changes.{repeated}
use Rattle.adapter_table.specs.declared.table.AdapterTable.{AdapterTable}
use Rattle.adapter_table.specs.Connected.{next_deadline, repeated_table}
use Rattle.adapter_table.specs.Encapsulation.{Handled, refusal, message_repeated, reply_frames, framed}
use Rattle.adapter_table.specs.Laws.{StepsKeep}
use Rattle.adapter_table.specs.Lemmas.MessageLemmas.{same_number}
use Rattle.adapter_table.specs.Messages.{messages_table}
use Rattle.adapter_table.specs.Requests.{Next}
use Rattle.adapter_table.specs.Step.{adapter_step}
use Rattle.adapter_table.specs.Whole.{IsWhole}
use Rattle.cip_tables.specs.declared.table.DeviceTable.{DeviceTable}
use Rattle.cip_tables.specs.declared.table.DeviceTable.TheVariants.{Adapter}
use Rattle.message_laws.specs.Repetitions.{Message, message_in, is_message_of, has_count, has_bytes, is_request, is_counted, is_next, if_message, asks_next, sent_at}
use Rattle.message_laws.specs.Executions.{are_any, last_count, is_same, acts, executed_by, executed_at, executions, DifferInTurn, MessagesAreExecutedOnce}
use Rattle.message_laws.proofs.Found.{Found, IsChange}
use Rattle.message_laws.proofs.Executing.{IsExecuted, is_executed}
use Rattle.message_laws.proofs.Going.{Holds, left_of}
use Rattle.message_laws.proofs.Steps.{over, nothing_new, new_message}
use Rattle.message_laws.proofs.Events.{event_goes}
use Rattle.message_laws.proofs.Serving.{bears, serving, IsIts, unit_message, serves}
use Rattle.message_laws.proofs.Runs.{Keeps, still_used, not_new, keeps_on, executed_keeps, its_own, first_keeps, step_left, left_whole, left_grows}

-- ---- a connection is found behind its change

found_step : (a b : Bool) (id other : ConnId) (test : Class3Connection → Bool) (f : Class3Connection → Class3Connection) (x d : Class3Connection) (xs new : List Class3Connection) → IsChange other test f → has_class3_id id x ≡ a → test x ≡ b → test d ≡ true → cond a (Some x) (find (has_class3_id id) xs) ≡ Some d → (Found id xs d → Found id new (f d)) → Found id (cond b (f x ∷ xs) (x ∷ new)) (f d)
found_step true true id other test f x d xs new change has tests own is later =
    let one : x ≡ d = same_Some x d is in
    let here : has_class3_id id (f x) ≡ true = ap (λ (i : ConnId). i.0 == id.0) (change.id x) ∙ has in
    rw here (ap (λ (y : Class3Connection). Some (f y)) one)
found_step true false id other test f x d xs new change has tests own is later =
    absurd (let never : true ≡ false = sym own ∙ ap test (sym (same_Some x d is)) ∙ tests in cc)
found_step false true id other test f x d xs new change has tests own is later =
    let there : has_class3_id id d ≡ true = found_passes (has_class3_id id) xs d is in
    absurd (apart (change.named x tests) (change.named d own) there)
  where
    apart : has_class3_id other x ≡ true → has_class3_id other d ≡ true → has_class3_id id d ≡ true → ⊥
    apart first second third =
        let same : x.o_t_id.0 ≡ id.0 = eqb-true x.o_t_id.0 other.0 first ∙ sym (eqb-true d.o_t_id.0 other.0 second) ∙ eqb-true d.o_t_id.0 id.0 third in
        let never : true ≡ false = sym (eq-eqb x.o_t_id.0 id.0 same) ∙ has in absurd cc
found_step false false id other test f x d xs new change has tests own is later =
    let rest : Found id new (f d) = later is in
    rw has rest

changed_found : (id other : ConnId) (test : Class3Connection → Bool) (f : Class3Connection → Class3Connection) → IsChange other test f → (ds : List Class3Connection) (d : Class3Connection) → test d ≡ true → Found id ds d → Found id (first_changed test f ds) (f d)
changed_found id other test f change [] d own is = absurd (let x = is in cc)
changed_found id other test f change (x ∷ xs) d own is =
    found_step (has_class3_id id x) (test x) id other test f x d xs (first_changed test f xs) change refl refl own is (λ later. changed_found id other test f change xs d own later)

last_found : (id : ConnId) (t : AdapterTable) (e : Class3Connection) → Found id t.messaging.class3_connections e → last_count id t ≡ e.last
last_found id t e is = rw is refl

-- ---- what a step does for a message

nothing_done : (a b c : Bool) → a ≡ false → b ≡ true → c ≡ true → (a || (not b || not c)) ≡ false
nothing_done false true true first second third = refl
nothing_done true b c first second third = absurd (let x = first in cc)
nothing_done false false c first second third = absurd (let x = second in cc)
nothing_done false true false first second third = absurd (let x = third in cc)

something_done : (a b c : Bool) → c ≡ false → (a || (not b || not c)) ≡ true
something_done true b c is = refl
something_done false true false is = refl
something_done false true true is = absurd (let x = is in cc)
something_done false false c is = refl

same_last : (last : Option ℕ) → is_same last last ≡ true
same_last None = refl
same_last (Some count) = same_number count

other_last : (last : Option ℕ) (count : ℕ) → is_count count last ≡ false → is_same (Some count) last ≡ false
other_last last count is = is

is_repeating : (e : Class3Connection) (t : AdapterTable) → IsChange e.o_t_id (has_class3_id e.o_t_id) (repeated_class3 (next_deadline t e))
is_repeating e t = record { named = λ d has. has; id = λ d. refl }

is_executing : (e : Class3Connection) (t : AdapterTable) (count : ℕ) (reply : List ℕ) → IsChange e.o_t_id (has_class3_id e.o_t_id) (executed_class3 count reply (next_deadline t e))
is_executing e t count reply = record { named = λ d has. has; id = λ d. refl }

repeated_connections : (t : AdapterTable) (e : Class3Connection) → (repeated_table t e).messaging.class3_connections ≡ first_changed (has_class3_id e.o_t_id) (repeated_class3 (next_deadline t e)) t.messaging.class3_connections
unfolding messages_table repeated
repeated_connections t e = refl

repeated_number : (t : AdapterTable) (e : Class3Connection) → (repeated_table t e).messaging.next_number ≡ t.messaging.next_number
unfolding messages_table repeated
repeated_number t e = refl

repeated_last : (id : ConnId) (t : AdapterTable) (e : Class3Connection) → Found id t.messaging.class3_connections e → last_count id (repeated_table t e) ≡ e.last
repeated_last id t e found =
    let there = changed_found id e.o_t_id (has_class3_id e.o_t_id) (repeated_class3 (next_deadline t e)) (is_repeating e t) t.messaging.class3_connections e (same_number e.o_t_id.0) found in
    last_found id (repeated_table t e) (repeated_class3 (next_deadline t e) e) (subst (λ (ds : List Class3Connection). Found id ds (repeated_class3 (next_deadline t e) e)) (sym (repeated_connections t e)) there)

repetition_acts_not : (id : ConnId) (t : AdapterTable) (e : Class3Connection) (number count : ℕ) (header : RequestHeader) → Found id t.messaging.class3_connections e → acts id t (Ok (framed number header (message_repeated t e count))) ≡ false
repetition_acts_not id t e number count header found =
    nothing_done false ((repeated_table t e).messaging.next_number == t.messaging.next_number) (is_same (last_count id (repeated_table t e)) (last_count id t)) refl
    (eq-eqb (repeated_table t e).messaging.next_number t.messaging.next_number (repeated_number t e))
    (ap (λ (l : Option ℕ). is_same l (last_count id t)) (repeated_last id t e found) ∙ ap (is_same e.last) (last_found id t e found) ∙ same_last e.last)

refusal_acts_not : (id : ConnId) (t : AdapterTable) (number : ℕ) (header : RequestHeader) → acts id t (Ok (framed number header (refusal t encap.IncorrectData))) ≡ false
refusal_acts_not id t number header =
    nothing_done false (t.messaging.next_number == t.messaging.next_number) (is_same (last_count id t) (last_count id t)) refl (same_number t.messaging.next_number) (same_last (last_count id t))

executed_connections : (t : AdapterTable) (e : Class3Connection) (count : ℕ) (done : Handled) (how : IsExecuted t e count done) → done.table.messaging.class3_connections ≡ first_changed (has_class3_id e.o_t_id) (executed_class3 count how.reply (next_deadline t e)) t.messaging.class3_connections
unfolding messages_table
executed_connections t e count done how = ap (λ (u : AdapterTable). u.messaging.class3_connections) how.table ∙ how.connections

executed_last : (id : ConnId) (t : AdapterTable) (e : Class3Connection) (count : ℕ) (done : Handled) → IsExecuted t e count done → Found id t.messaging.class3_connections e → last_count id done.table ≡ Some count
executed_last id t e count done how found =
    let f = executed_class3 count how.reply (next_deadline t e) in
    let there = changed_found id e.o_t_id (has_class3_id e.o_t_id) f (is_executing e t count how.reply) t.messaging.class3_connections e (same_number e.o_t_id.0) found in
    last_found id done.table (f e) (subst (λ (ds : List Class3Connection). Found id ds (f e)) (sym (executed_connections t e count done how)) there)

execution_acts : (id : ConnId) (t : AdapterTable) (e : Class3Connection) (number count : ℕ) (header : RequestHeader) (done : Handled) → IsExecuted t e count done → Found id t.messaging.class3_connections e → repeats_last e count ≡ false → acts id t (Ok (framed number header done)) ≡ true
execution_acts id t e number count header done how found new =
    something_done (are_any done.notices) (done.table.messaging.next_number == t.messaging.next_number) (is_same (last_count id done.table) (last_count id t))
    (ap (λ (l : Option ℕ). is_same l (last_count id t)) (executed_last id t e count done how found) ∙ ap (is_count count) (last_found id t e found) ∙ new)

-- ---- one event

abbrev left_by : AdapterTable → Event → AdapterTable
left_by t happens = left_of t (adapter_step t happens)

-- nothing is executed, and the message stays the last one; or one of another count is, and becomes it
abbrev Turns : Class3Connection → ℕ → AdapterTable → Event → Type 0
Turns d count t happens =
    ((executed_at d t happens ≡ []) × ((sent : Option Frame) × Keeps d count sent (left_by t happens)))
    ⊎ ((n : ℕ) × (executed_at d t happens ≡ n ∷ []) × (count ≢ n) × ((sent : Option Frame) × Keeps d n sent (left_by t happens)))

-- the event asks by no other count than this one
own_count : (d : Class3Connection) (m : Option Message) → (n : ℕ) × (if_message (is_next d n) m ≡ false)
own_count d None = (0, refl)
own_count d (Some m) = (m.unit.count, by_test (is_message_of d m) (has_count m.unit.count m) (is_request m) (same_number m.unit.count)) where
  by_test : (a b c : Bool) → b ≡ true → (a && (not b && c)) ≡ false
  by_test true true c is = refl
  by_test true false c is = absurd (let x = is in cc)
  by_test false b c is = refl

none_executed : (d : Class3Connection) (t : AdapterTable) (outcome : Result Next StepFault) (m : Option Message) → executed_by d t outcome m None ≡ []
none_executed d t outcome None = refl
none_executed d t outcome (Some m) = refl

-- the table is whole, and stays so
record StaysWhole (t : AdapterTable) (happens : Event) : Type 0 where
  whole : IsWhole t
  after : IsWhole (left_by t happens)

-- the connection has ended
closed_turn : (d : Class3Connection) (count : ℕ) (sent : Option Frame) (t : AdapterTable) (happens : Event) → StaysWhole t happens → Keeps d count sent t → find (has_class3_id d.o_t_id) t.messaging.class3_connections ≡ None → Turns d count t happens
closed_turn d count sent t happens kept keeps none =
    let other = own_count d (message_in t.profile.description happens) in
    let goes = event_goes d other.0 t happens kept.whole other.1 in
    inl (
      ap (executed_by d t (adapter_step t happens) (message_in t.profile.description happens)) none ∙ none_executed d t (adapter_step t happens) (message_in t.profile.description happens),
      (
        sent,
        record {
          used = still_used d.o_t_id t (left_by t happens) goes.later (left_grows t happens (adapter_step t happens) refl) kept.whole keeps.used;
          stands = λ e found. elim (goes.stands e found) [
            | inl before ↦ absurd (let never = sym before.found ∙ none in cc)
            | inr new ↦ absurd (not_new d.o_t_id t (left_by t happens) (left_grows t happens (adapter_step t happens) refl) kept.whole kept.after keeps.used new)
          ];
        },
      ),
    )

-- the event brings no message of the connection
other_turn : (d : Class3Connection) (count : ℕ) (sent : Option Frame) (t : AdapterTable) (happens : Event) → StaysWhole t happens → Keeps d count sent t → if_message (is_message_of d) (message_in t.profile.description happens) ≡ false → Turns d count t happens
other_turn d count sent t happens kept keeps none =
    inl (
      not_executed (message_in t.profile.description happens) (find (has_class3_id d.o_t_id) t.messaging.class3_connections) none,
      (last_or sent (sent_at d count t happens), keeps_on d count sent t (left_by t happens) (sent_at d count t happens) (left_grows t happens (adapter_step t happens) refl) kept.whole kept.after keeps (event_goes d count t happens kept.whole (not_next (message_in t.profile.description happens) none))),
    )
  where
    not_executed : (m : Option Message) (found : Option Class3Connection) → if_message (is_message_of d) m ≡ false → executed_by d t (adapter_step t happens) m found ≡ []
    not_executed None found is = refl
    not_executed (Some m) None is = refl
    not_executed (Some m) (Some e) is = rw is refl

    not_next : (m : Option Message) → if_message (is_message_of d) m ≡ false → if_message (is_next d count) m ≡ false
    not_next None is = refl
    not_next (Some m) is = rw is refl

-- what stays of an open connection
keeps_as : (d e : Class3Connection) (n : ℕ) (sent : Option Frame) (u : AdapterTable) → e.o_t_id.0 ≡ d.o_t_id.0 → e.stream ≡ d.stream → e.o_t_size ≡ d.o_t_size → Keeps e n sent u → Keeps d n sent u
keeps_as d e n sent u id stream size keeps = record {
  used = record { number = keeps.used.number; begins = keeps.used.begins; below = keeps.used.below; is = sym id ∙ keeps.used.is };
  stands = λ x found.
      let h = keeps.stands x (subst (λ (k : ℕ). find (λ (c : Class3Connection). c.o_t_id.0 == k) u.messaging.class3_connections ≡ Some x) (sym id) found) in
      record { stream = h.stream ∙ stream; size = h.size ∙ size; last = h.last; kept = h.kept };
}

-- a message of the open connection
record IsServed (d : Class3Connection) (count : ℕ) (sent : Option Frame) (t : AdapterTable) (number : ℕ) (bytes : List ℕ) (e : Class3Connection) : Type 0 where
  unit : ConnectedFields
  header : RequestHeader
  message : message_in t.profile.description (event.Frame number bytes) ≡ Some (over number unit)
  own : is_message_of d (over number unit) ≡ true
  session : header.session ≡ number + 1
  its : IsIts t number unit e
  found : Found d.o_t_id t.messaging.class3_connections e
  holds : Holds d count sent e
  said : adapter_step t (event.Frame number bytes) ≡ Ok (framed number header (serving t e unit))

executed_is : (d : Class3Connection) (count : ℕ) (sent : Option Frame) (t : AdapterTable) (number : ℕ) (bytes : List ℕ) (e : Class3Connection) (s : IsServed d count sent t number bytes e) (b : Bool) → acts d.o_t_id t (Ok (framed number s.header (serving t e s.unit))) ≡ b → executed_at d t (event.Frame number bytes) ≡ cond b (s.unit.count ∷ []) []
executed_is d count sent t number bytes e s b is =
    ap (λ (m : Option Message). executed_by d t (adapter_step t (event.Frame number bytes)) m (find (has_class3_id d.o_t_id) t.messaging.class3_connections)) s.message
    ∙ ap (executed_by d t (adapter_step t (event.Frame number bytes)) (Some (over number s.unit))) s.found
    ∙ ap (λ (o : Result Next StepFault). executed_by d t o (Some (over number s.unit)) (Some e)) s.said
    ∙ ap (λ (a : Bool). cond (a && acts d.o_t_id t (Ok (framed number s.header (serving t e s.unit)))) (s.unit.count ∷ []) []) s.own
    ∙ ap (λ (a : Bool). cond a (s.unit.count ∷ []) []) is

quiet_turn : (d : Class3Connection) (count : ℕ) (sent : Option Frame) (t : AdapterTable) (number : ℕ) (bytes : List ℕ) (e : Class3Connection) (s : IsServed d count sent t number bytes e) → StaysWhole t (event.Frame number bytes) → Keeps d count sent t → acts d.o_t_id t (Ok (framed number s.header (serving t e s.unit))) ≡ false → (not (s.unit.count == count) && has_bytes s.unit.message) ≡ false → Turns d count t (event.Frame number bytes)
quiet_turn d count sent t number bytes e s kept keeps not_acting none =
    let not_next : asks_next t.profile.description d count (event.Frame number bytes) ≡ false =
    ap (if_message (is_next d count)) s.message ∙ behind (is_message_of d (over number s.unit)) (not (s.unit.count == count) && has_bytes s.unit.message) none in
    inl (
      executed_is d count sent t number bytes e s false not_acting,
      (
        last_or sent (sent_at d count t (event.Frame number bytes)),
        keeps_on d count sent t (left_by t (event.Frame number bytes)) (sent_at d count t (event.Frame number bytes)) (left_grows t (event.Frame number bytes) (adapter_step t (event.Frame number bytes)) refl) kept.whole kept.after keeps (event_goes d count t (event.Frame number bytes) kept.whole not_next),
      ),
    )
  where
    behind : (a b : Bool) → b ≡ false → (a && b) ≡ false
    behind true b is = is
    behind false b is = refl

served_turn : (r b : Bool) (d : Class3Connection) (count : ℕ) (sent : Option Frame) (t : AdapterTable) (number : ℕ) (bytes : List ℕ) (e : Class3Connection) (s : IsServed d count sent t number bytes e) → repeats_last e s.unit.count ≡ r → has_bytes s.unit.message ≡ b → StaysWhole t (event.Frame number bytes) → Keeps d count sent t → Turns d count t (event.Frame number bytes)
served_turn true b d count sent t number bytes e s repeats some kept keeps =
    let same_count : s.unit.count ≡ count = counted (ap (is_count s.unit.count) (sym s.holds.last) ∙ repeats) in
    quiet_turn d count sent t number bytes e s kept keeps
    (ap (λ (x : Bool). acts d.o_t_id t (Ok (framed number s.header (cond x (message_repeated t e s.unit.count) (new_message t e s.unit))))) repeats ∙ repetition_acts_not d.o_t_id t e number s.unit.count s.header s.found)
    (ap (λ (x : Bool). not x && has_bytes s.unit.message) (eq-eqb s.unit.count count same_count))
  where
    counted : is_count s.unit.count (Some count) ≡ true → s.unit.count ≡ count
    counted is = sym (eqb-true count s.unit.count is)
served_turn false false d count sent t number bytes e s new none kept keeps =
    quiet_turn d count sent t number bytes e s kept keeps
    (ap (λ (x : Bool). acts d.o_t_id t (Ok (framed number s.header (cond x (message_repeated t e s.unit.count) (new_message t e s.unit))))) new
    ∙ ap (λ (done : Handled). acts d.o_t_id t (Ok (framed number s.header done))) (nothing_new t e s.unit.count s.unit.message none) ∙ refusal_acts_not d.o_t_id t number s.header)
    (empty (not (s.unit.count == count)) (has_bytes s.unit.message) none)
  where
    empty : (a c : Bool) → c ≡ false → (a && c) ≡ false
    empty true c is = is
    empty false c is = refl
served_turn false true d count sent t number bytes e s new some kept keeps =
    let how = is_executed t e s.unit.count s.unit.message some in
    let said : adapter_step t (event.Frame number bytes) ≡ Ok (framed number s.header (new_message t e s.unit)) =
    s.said ∙ ap (λ (x : Bool). Ok (framed number s.header (cond x (message_repeated t e s.unit.count) (new_message t e s.unit)))) new in
    let acting : acts d.o_t_id t (Ok (framed number s.header (serving t e s.unit))) ≡ true =
    ap (λ (x : Bool). acts d.o_t_id t (Ok (framed number s.header (cond x (message_repeated t e s.unit.count) (new_message t e s.unit))))) new
    ∙ execution_acts d.o_t_id t e number s.unit.count s.header (new_message t e s.unit) how s.found new in
    let after : Option Frame = last_or None (reply_frames number s.header (new_message t e s.unit).reply) in
    let kept_now = executed_keeps t number s.header s.unit e kept.whole s.its s.session some in
    let id : e.o_t_id.0 ≡ d.o_t_id.0 = eqb-true e.o_t_id.0 d.o_t_id.0 (found_passes (has_class3_id d.o_t_id) t.messaging.class3_connections e s.found) in
    inr (
      s.unit.count,
      executed_is d count sent t number bytes e s true acting,
      (λ same. let again : is_count s.unit.count e.last ≡ true = ap (is_count s.unit.count) s.holds.last ∙ eq-eqb count s.unit.count same in let never : true ≡ false = sym again ∙ new in absurd cc),
      (after, subst (λ (o : Result Next StepFault). Keeps d s.unit.count after (left_of t o)) (sym said) (keeps_as d e s.unit.count after (new_message t e s.unit).table id s.holds.stream s.holds.size kept_now)),
    )

counts_own : (d : Class3Connection) (m : Message) → is_message_of d m ≡ true → is_counted d m.unit.count m ≡ true
counts_own d m is = rw is (same_number m.unit.count)

frame_turn : (d : Class3Connection) (count : ℕ) (sent : Option Frame) (t : AdapterTable) (number : ℕ) (bytes : List ℕ) (e : Class3Connection) → StaysWhole t (event.Frame number bytes) → Keeps d count sent t → Found d.o_t_id t.messaging.class3_connections e → if_message (is_message_of d) (message_in t.profile.description (event.Frame number bytes)) ≡ true → Turns d count t (event.Frame number bytes)
frame_turn d count sent t number bytes e kept keeps found own =
    let bearing = bears t.profile.description number bytes (is_message_of d) own in
    let unit = bearing.unit in
    let h = keeps.stands e found in
    let its = its_own t d e unit.count number unit (counts_own d (over number unit) bearing.passes) found h.stream h.size in
    let s : IsServed d count sent t number bytes e = record {
      unit = unit;
      header = bearing.carries.header;
      message = unit_message t.profile.description number bytes unit bearing.carries;
      own = bearing.passes;
      session = bearing.carries.session;
      its = its;
      found = found;
      holds = h;
      said = serves t number bytes unit e bearing.carries kept.whole its;
    } in
    served_turn (repeats_last e unit.count) (has_bytes unit.message) d count sent t number bytes e s refl refl kept keeps

event_turn : (b : Bool) (d : Class3Connection) (count : ℕ) (sent : Option Frame) (t : AdapterTable) (happens : Event) (e : Class3Connection) → StaysWhole t happens → Keeps d count sent t → Found d.o_t_id t.messaging.class3_connections e → if_message (is_message_of d) (message_in t.profile.description happens) ≡ b → Turns d count t happens
event_turn false d count sent t happens e kept keeps found own = other_turn d count sent t happens kept keeps own
event_turn true d count sent t (event.Frame number bytes) e kept keeps found own = frame_turn d count sent t number bytes e kept keeps found own
event_turn true d count sent t other e kept keeps found own = absurd (let x = own in cc)

turn : (d : Class3Connection) (count : ℕ) (sent : Option Frame) (t : AdapterTable) (happens : Event) (found : Option Class3Connection) → find (has_class3_id d.o_t_id) t.messaging.class3_connections ≡ found → StaysWhole t happens → Keeps d count sent t → Turns d count t happens
turn d count sent t happens None is kept keeps = closed_turn d count sent t happens kept keeps is
turn d count sent t happens (Some e) is kept keeps = event_turn (if_message (is_message_of d) (message_in t.profile.description happens)) d count sent t happens e kept keeps is refl

-- ---- a run

run_turns : StepsKeep IsWhole → (d : Class3Connection) (count : ℕ) (sent : Option Frame) (t : AdapterTable) (events : List Event) → IsWhole t → Keeps d count sent t → DifferInTurn count (executions d (Adapter t) events)
run_turns steps d count sent t [] kept keeps = tt
run_turns steps d count sent t (happens ∷ events) kept keeps =
    subst (λ (next : DeviceTable). DifferInTurn count (executed_at d t happens ++ executions d next events)) (sym (step_left t happens))
    (elim (turn d count sent t happens (find (has_class3_id d.o_t_id) t.messaging.class3_connections) refl (record { whole = kept; after = left_whole steps t happens (adapter_step t happens) refl kept }) keeps) [
      | inl stays ↦ subst (λ (counts : List ℕ). DifferInTurn count (counts ++ executions d (Adapter (left_by t happens)) events)) (sym stays.0)
          (run_turns steps d count stays.1.0 (left_by t happens) events (left_whole steps t happens (adapter_step t happens) refl kept) stays.1.1)
      | inr turns ↦ subst (λ (counts : List ℕ). DifferInTurn count (counts ++ executions d (Adapter (left_by t happens)) events)) (sym turns.1)
          (turns.2, run_turns steps d turns.0 turns.3.0 (left_by t happens) events (left_whole steps t happens (adapter_step t happens) refl kept) turns.3.1)
    ])

pub executed_once : StepsKeep IsWhole → MessagesAreExecutedOnce
executed_once steps old new d count first behind events outcomes kept found requests ran split =
    subst (λ (next : DeviceTable). DifferInTurn count (executions d next behind)) (sym (step_left old first))
    (run_turns steps d count (last_or None (sent_at d count old first)) (left_by old first) behind
    (left_whole steps old first (adapter_step old first) refl kept) (first_keeps old d count first kept found requests))
