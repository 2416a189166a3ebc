-- Over a run a connection holds a message that an event asks, with what was last sent for it, until its next message.
use Rattle.std.proofs.Common.{◌≡◌, inl, inr, ◌≤◌, ◌<◌, ℕ, ◌+◌, ◌==◌, ◌&&◌, not, nat_lt, Bool, true, false, cond, List, [], ◌∷◌, length, find, Option, Some, None, option_to_list, Result, Ok, Err, refl, sym, ◌∙◌, ap, subst, arith, eqb-true, eq-eqb}
use Rattle.std.specs.List.{last_or}
use Rattle.std.proofs.lemmas.Bool.{and_parts}
use Rattle.base_lemmas.specs.Lists.{found_passes}
use Rattle.cip_types.specs.declared.names.ConnId.{ConnId}
use Rattle.cip_types.specs.IdLaws.{next_differs, extends_itself, extends_same}
use Rattle.cip_types.specs.Ids.{Extends, id_at}
use Rattle.cip_encap.specs.Connected.{ConnectedFields}
use Rattle.cip_events.specs.declared.event.Delivery.TheVariants.{Duplicate}
use Rattle.cip_events.specs.declared.event.Event.{Event}
use Rattle.cip_events.specs.declared.event.Event.TheVariants as event
use Rattle.cip_events.specs.declared.event.Frame.{Frame}
use Rattle.cip_events.specs.declared.event.StepFault.{StepFault}
use Rattle.cip_events.specs.declared.event.Verdict.TheVariants.{Delivered}
use Rattle.cip_router.specs.Frames.{RequestHeader, FrameReply}
use Rattle.messaging.specs.declared.class3.Class3Connection.{Class3Connection}
use Rattle.messaging.specs.Class3Connections.{has_class3_id, is_count, repeats_last, executed_class3}
use Rattle.messaging.specs.Sound.{EachOf, IsDrawn}
use Rattle.adapter_table.specs.declared.profile.Profile.{Profile}
use Rattle.adapter_table.specs.declared.table.AdapterTable.{AdapterTable}
use Rattle.adapter_table.specs.Answering.{unit_header}
use Rattle.adapter_table.specs.Connected.{next_deadline, repeated_table}
use Rattle.adapter_table.specs.Encapsulation.{kept_reply, message_repeated, reply_frames, framed}
use Rattle.adapter_table.specs.Laws.{StepsKeep}
use Rattle.adapter_table.specs.Requests.{Next}
use Rattle.adapter_table.specs.Step.{adapter_step}
use Rattle.adapter_table.specs.Whole.{IsWhole}
use Rattle.adapter_table.specs.declared.profile.Description.{Description}
use Rattle.adapter_table.specs.Lemmas.CounterSteps.{profile_stays, blocks_go_on}
use Rattle.cip_tables.specs.declared.table.DeviceTable.{DeviceTable}
use Rattle.cip_tables.specs.declared.table.DeviceTable.TheVariants.{Adapter}
use Rattle.cip_tables.specs.Run.{table_of, table_after}
use Rattle.cip_tables.specs.RunLaws.{run_folds}
use Rattle.cip_tables.specs.Step.{as_adapter, step}
use Rattle.message_laws.specs.Repetitions.{Message, has_bytes, is_request, is_counted, if_message, message_in, brings, asks, asks_next, frames_of, sent_at, last_sent, repetition, RepetitionsGetWhatWasSent}
use Rattle.message_laws.proofs.Found.{Found, each_found}
use Rattle.message_laws.proofs.Executing.{is_executed}
use Rattle.message_laws.proofs.Going.{kept_frames, Holds, IsNew, Goes, left_of}
use Rattle.message_laws.proofs.Steps.{over, one_found, holds_deadline, same_frames, repeated_leaves, repeated_same, executed_leaves, executed_same, new_message}
use Rattle.message_laws.proofs.Events.{event_goes}
use Rattle.message_laws.proofs.Serving.{bears, serving, IsIts, serves}

-- ---- what stands at a table

-- the device drew the id
pub record IsUsed (id : ConnId) (t : AdapterTable) : Type 0 where
  pub number : ℕ
  pub begins : 1 ≤ number
  pub below : number < t.next_id
  pub is : id.0 ≡ (id_at t.ids number).0

-- the connection holds the message, if it is still open
pub record Keeps (d : Class3Connection) (count : ℕ) (sent : Option Frame) (t : AdapterTable) : Type 0 where
  pub used : IsUsed d.o_t_id t
  pub stands : (e : Class3Connection) → Found d.o_t_id t.messaging.class3_connections e → Holds d count sent e

pub still_used : (id : ConnId) (t u : AdapterTable) → t.next_id ≤ u.next_id → Extends t.ids u.ids → IsWhole t → IsUsed id t → IsUsed id u
still_used id t u later grows whole used =
    let begins = used.begins in
    let below = used.below in
    let left = whole.sound.ids_are_left in
    record {
      number = used.number;
      begins = begins;
      below = omega (arith, below, later);
      is = used.is ∙ ap (λ (i : ConnId). i.0) (sym (grows.same used.number begins (omega (arith, below, left))));
    }

-- a new connection has another id
pub not_new : (id : ConnId) (t u : AdapterTable) → Extends t.ids u.ids → IsWhole t → IsWhole u → IsUsed id t → IsNew id t u → ⊥
not_new id t u grows whole after used new =
    let begins = used.begins in
    let below = used.below in
    let drawn = new.drawn in
    let left = whole.sound.ids_are_left in
    let left_after = after.sound.ids_are_left in
    let same : (id_at u.ids used.number).0 ≡ (id_at u.ids t.next_id).0 =
    ap (λ (i : ConnId). i.0) (grows.same used.number begins (omega (arith, below, left))) ∙ sym used.is ∙ new.fresh in
    next_differs u.ids t.next_id used.number (record { are = after.sound.blocks; begins = omega (arith, begins, below); ends = omega (arith, drawn, left_after) }) begins below same

pub keeps_on : (d : Class3Connection) (count : ℕ) (sent : Option Frame) (t u : AdapterTable) (frames : List Frame) → Extends t.ids u.ids → IsWhole t → IsWhole u → Keeps d count sent t → Goes d count t frames u → Keeps d count (last_or sent frames) u
keeps_on d count sent t u frames grows whole after keeps goes = record {
  used = still_used d.o_t_id t u goes.later grows whole keeps.used;
  stands = λ e found. elim (goes.stands e found) [
    | inl before ↦ before.on sent (keeps.stands before.old before.found)
    | inr new ↦ absurd (not_new d.o_t_id t u grows whole after keeps.used new)
  ];
}

-- ---- the first event

shown : (number : ℕ) (header : RequestHeader) (reply : Option FrameReply) → option_to_list (last_or None (reply_frames number header reply)) ≡ reply_frames number header reply
shown number header None = refl
shown number header (Some reply) = refl

-- what a connection keeps depends on its T->O id alone
kept_alike : (d e : Class3Connection) (count : ℕ) (text : List ℕ) → e.t_o_id ≡ d.t_o_id → kept_reply e count text ≡ kept_reply d count text
kept_alike d e count [] is = refl
kept_alike d e count (first ∷ rest) is = rw is refl

kept_over : (number : ℕ) (header : RequestHeader) (d : Class3Connection) (count : ℕ) (text : List ℕ) → d.stream ≡ number → header.session ≡ number + 1 → reply_frames number header (kept_reply d count text) ≡ reply_frames d.stream (unit_header d.stream) (kept_reply d count text)
kept_over number header d count [] stream session = refl
kept_over number header d count (first ∷ rest) stream session = rw (stream, session) refl

drawn_used : (t : AdapterTable) (d : Class3Connection) → IsWhole t → Found d.o_t_id t.messaging.class3_connections d → IsUsed d.o_t_id t
drawn_used t d whole found =
    let drawn = each_found (IsDrawn t.ids t.next_id) (has_class3_id d.o_t_id) t.messaging.class3_connections d found whole.messages.own.are_drawn in
    record { number = d.opening; begins = drawn.begins; below = drawn.below; is = ap (λ (i : ConnId). i.0) drawn.id }

counted_last : (last : Option ℕ) (count : ℕ) → is_count count last ≡ true → last ≡ Some count
counted_last None count is = absurd (let x = is in cc)
counted_last (Some n) count is = ap (λ (k : ℕ). Some k) (eqb-true n count is)

repeated_keeps : (t : AdapterTable) (number : ℕ) (header : RequestHeader) (unit : ConnectedFields) (d : Class3Connection) → IsWhole t → IsIts t number unit d → header.session ≡ number + 1 → repeats_last d unit.count ≡ true → Keeps d unit.count (last_or None (reply_frames number header (kept_reply d unit.count d.reply))) (repeated_table t d)
repeated_keeps t number header unit d whole its session repeats =
    let stay = repeated_same t d in
    let held : Holds d unit.count (last_or None (reply_frames number header (kept_reply d unit.count d.reply))) d = record {
      stream = refl;
      size = refl;
      last = counted_last d.last unit.count repeats;
      kept = sym (kept_over number header d unit.count d.reply its.stream session) ∙ sym (shown number header (kept_reply d unit.count d.reply));
    } in
    record {
      used = still_used d.o_t_id t (repeated_table t d) (omega (arith, stay.0)) (extends_same t.ids (repeated_table t d).ids stay.2) whole (drawn_used t d whole its.found);
      stands = λ e found.
          let was = repeated_leaves d.o_t_id t d e found in
          holds_deadline (has_class3_id d.o_t_id was.old) d unit.count _ (next_deadline t d) was.old e was.is
          (subst (Holds d unit.count (last_or None (reply_frames number header (kept_reply d unit.count d.reply)))) (one_found d.o_t_id t.messaging.class3_connections d was.old its.found was.found) held);
    }

pub executed_keeps : (t : AdapterTable) (number : ℕ) (header : RequestHeader) (unit : ConnectedFields) (d : Class3Connection) → IsWhole t → IsIts t number unit d → header.session ≡ number + 1 → has_bytes unit.message ≡ true → Keeps d unit.count (last_or None (reply_frames number header (new_message t d unit).reply)) (new_message t d unit).table
executed_keeps t number header unit d whole its session some =
    let how = is_executed t d unit.count unit.message some in
    let stay = executed_same t d unit.count (new_message t d unit) how in
    let made = executed_class3 unit.count how.reply (next_deadline t d) d in
    let frames : kept_frames made unit.count ≡ reply_frames number header (new_message t d unit).reply =
    ap (reply_frames d.stream (unit_header d.stream)) (kept_alike d made unit.count how.reply refl)
    ∙ sym (kept_over number header d unit.count how.reply its.stream session)
    ∙ ap (reply_frames number header) (sym how.kept) in
    let held : Holds d unit.count (last_or None (reply_frames number header (new_message t d unit).reply)) made = record {
      stream = refl;
      size = refl;
      last = refl;
      kept = frames ∙ sym (shown number header (new_message t d unit).reply);
    } in
    record {
      used = still_used d.o_t_id t (new_message t d unit).table (omega (arith, stay.0)) (extends_same t.ids (new_message t d unit).table.ids stay.2) whole (drawn_used t d whole its.found);
      stands = λ e found.
          let was = executed_leaves d.o_t_id t d unit.count (new_message t d unit) how e found in
          let one = one_found d.o_t_id t.messaging.class3_connections was.old d was.found its.found in
          let has = found_passes (has_class3_id d.o_t_id) t.messaging.class3_connections d its.found in
          subst (Holds d unit.count (last_or None (reply_frames number header (new_message t d unit).reply)))
          (sym (was.is ∙ ap (λ (y : Class3Connection). cond (has_class3_id d.o_t_id y) (executed_class3 unit.count how.reply (next_deadline t d) y) y) one
          ∙ ap (λ (b : Bool). cond b made d) has)) held;
    }

served_keeps : (b : Bool) (t : AdapterTable) (number : ℕ) (header : RequestHeader) (unit : ConnectedFields) (d : Class3Connection) → repeats_last d unit.count ≡ b → IsWhole t → IsIts t number unit d → header.session ≡ number + 1 → has_bytes unit.message ≡ true → Keeps d unit.count (last_or None (reply_frames number header (cond b (message_repeated t d unit.count) (new_message t d unit)).reply)) (cond b (message_repeated t d unit.count) (new_message t d unit)).table
served_keeps true t number header unit d repeats whole its session some = repeated_keeps t number header unit d whole its session repeats
served_keeps false t number header unit d repeats whole its session some = executed_keeps t number header unit d whole its session some

-- the message of a connection that is open
pub its_own : (t : AdapterTable) (d e : Class3Connection) (count number : ℕ) (unit : ConnectedFields) → is_counted d count (over number unit) ≡ true → Found d.o_t_id t.messaging.class3_connections e → e.stream ≡ d.stream → e.o_t_size ≡ d.o_t_size → IsIts t number unit e
its_own t d e count number unit is found stream size =
    let parts = and_parts _ _ is in
    let route = and_parts _ _ parts.0 in
    let rest = and_parts _ _ route.1 in
    let has = found_passes (has_class3_id d.o_t_id) t.messaging.class3_connections e found in
    let id_is : e.o_t_id.0 ≡ d.o_t_id.0 = eqb-true e.o_t_id.0 d.o_t_id.0 has in
    record {
      found = subst (λ (k : ℕ). find (λ (c : Class3Connection). c.o_t_id.0 == k) t.messaging.class3_connections ≡ Some e) (sym id_is) found;
      stream = stream ∙ sym (eqb-true number d.stream route.0);
      connection = eqb-true unit.connection d.o_t_id.0 rest.0 ∙ sym id_is;
      fits = ap (λ (n : ℕ). nat_lt n (2 + length unit.message)) size ∙ turned (nat_lt d.o_t_size (2 + length unit.message)) rest.1;
    }
  where
    turned : (b : Bool) → not b ≡ true → b ≡ false
    turned true is2 = absurd (let x = is2 in cc)
    turned false is2 = refl

weaker : (d : Class3Connection) (count : ℕ) (m : Message) → (is_counted d count m && is_request m) ≡ true → (is_counted d count m ≡ true) × (is_request m ≡ true)
weaker d count m is = let parts = and_parts (is_counted d count m) (is_request m) is in (parts.0, parts.1)

first_frame : (t : AdapterTable) (d : Class3Connection) (count number : ℕ) (bytes : List ℕ) → IsWhole t → Found d.o_t_id t.messaging.class3_connections d → asks t.profile.description d count (event.Frame number bytes) ≡ true → brings t.profile.description d count (event.Frame number bytes) ≡ true → Keeps d count (last_or None (sent_at d count t (event.Frame number bytes))) (left_of t (adapter_step t (event.Frame number bytes)))
first_frame t d count number bytes whole found requests brought =
    let bearing = bears t.profile.description number bytes (λ m. is_counted d count m && is_request m) requests in
    let unit = bearing.unit in
    let tests = weaker d count (over number unit) bearing.passes in
    let its = its_own t d d count number unit tests.0 found refl refl in
    let parts = and_parts _ _ tests.0 in
    let same_count : unit.count ≡ count = eqb-true unit.count count parts.1 in
    let is = serves t number bytes unit d bearing.carries whole its in
    let kept = served_keeps (repeats_last d unit.count) t number bearing.carries.header unit d refl whole its bearing.carries.session tests.1 in
    subst (λ (o : Result Next StepFault). Keeps d count (last_or None (cond (brings t.profile.description d count (event.Frame number bytes)) (frames_of o) [])) (left_of t o)) (sym is)
    (subst (λ (b : Bool). Keeps d count (last_or None (cond b (reply_frames number bearing.carries.header (serving t d unit).reply) [])) (serving t d unit).table) (sym brought)
    (subst (λ (n : ℕ). Keeps d n (last_or None (reply_frames number bearing.carries.header (serving t d unit).reply)) (serving t d unit).table) same_count kept))

asks_brought : (described : Option Description) (d : Class3Connection) (count number : ℕ) (bytes : List ℕ) → asks described d count (event.Frame number bytes) ≡ true → brings described d count (event.Frame number bytes) ≡ true
asks_brought described d count number bytes requests = by_message (message_in described (event.Frame number bytes)) requests where
  by_message : (m : Option Message) → if_message (λ x. is_counted d count x && is_request x) m ≡ true → if_message (is_counted d count) m ≡ true
  by_message None is = absurd (let x = is in cc)
  by_message (Some m) is = (weaker d count m is).0

pub first_keeps : (t : AdapterTable) (d : Class3Connection) (count : ℕ) (first : Event) → IsWhole t → Found d.o_t_id t.messaging.class3_connections d → asks t.profile.description d count first ≡ true → Keeps d count (last_or None (sent_at d count t first)) (left_of t (adapter_step t first))
first_keeps t d count (event.Frame number bytes) whole found requests = first_frame t d count number bytes whole found requests (asks_brought t.profile.description d count number bytes requests)
first_keeps t d count other whole found requests = absurd (let x = requests in cc)

-- ---- the events behind it

adapter_left : (t : AdapterTable) (outcome : Result Next StepFault) → table_of (Adapter t) (as_adapter outcome) ≡ Adapter (left_of t outcome)
adapter_left t (Ok next) = refl
adapter_left t (Err fault) = refl

pub step_left : (t : AdapterTable) (happens : Event) → table_of (Adapter t) (step (Adapter t) happens) ≡ Adapter (left_of t (adapter_step t happens))
unfolding step
step_left t happens = adapter_left t (adapter_step t happens)

pub left_whole : StepsKeep IsWhole → (t : AdapterTable) (happens : Event) (outcome : Result Next StepFault) → adapter_step t happens ≡ outcome → IsWhole t → IsWhole (left_of t outcome)
left_whole steps t happens (Ok next) is whole = steps t happens next is whole
left_whole steps t happens (Err fault) is whole = whole

-- the blocks of ids grow
pub left_grows : (t : AdapterTable) (happens : Event) (outcome : Result Next StepFault) → adapter_step t happens ≡ outcome → Extends t.ids (left_of t outcome).ids
left_grows t happens (Ok next) is = blocks_go_on t.ids t happens next is (extends_itself t.ids)
left_grows t happens (Err fault) is = extends_itself t.ids

-- the first event leaves the profile
first_profile : (t : AdapterTable) (first : Event) → IsWhole t → (left_of t (adapter_step t first)).profile.description ≡ t.profile.description
first_profile t first whole = left_profile (adapter_step t first) refl where
  left_profile : (outcome : Result Next StepFault) → adapter_step t first ≡ outcome → (left_of t outcome).profile.description ≡ t.profile.description
  left_profile (Ok next) is = ap (λ (p : Profile). p.description) (profile_stays t.profile t first next is refl)
  left_profile (Err fault) is = refl

-- what stands behind some events
record Stands (d : Class3Connection) (count : ℕ) (sent : Option Frame) (last : DeviceTable) : Type 0 where
  table : AdapterTable
  is : last ≡ Adapter table
  keeps : Keeps d count sent table
  whole : IsWhole table

run_stands : StepsKeep IsWhole → (described : Option Description) (d : Class3Connection) (count : ℕ) (sent : Option Frame) (t : AdapterTable) (events : List Event) → t.profile.description ≡ described → IsWhole t → Keeps d count sent t → EachOf (λ happens. asks_next described d count happens ≡ false) events → Stands d count (last_sent d count sent (Adapter t) events) (table_after (Adapter t) events)
run_stands steps described d count sent t [] same whole keeps none = record { table = t; is = refl; keeps = keeps; whole = whole }
run_stands steps described d count sent t (happens ∷ events) same whole keeps none =
    let goes = event_goes d count t happens whole (subst (λ (o : Option Description). asks_next o d count happens ≡ false) (sym same) none.0) in
    subst (λ (next : DeviceTable). Stands d count (last_sent d count (last_or sent (sent_at d count t happens)) next events) (table_after next events)) (sym (step_left t happens))
    (run_stands steps described d count (last_or sent (sent_at d count t happens)) (left_of t (adapter_step t happens)) events
    (ap (λ (p : Profile). p.description) goes.profile ∙ same)
    (left_whole steps t happens (adapter_step t happens) refl whole)
    (keeps_on d count sent t (left_of t (adapter_step t happens)) (sent_at d count t happens) (left_grows t happens (adapter_step t happens) refl) whole
    (left_whole steps t happens (adapter_step t happens) refl whole) keeps goes) none.1)

all_stands : StepsKeep IsWhole → (d : Class3Connection) (count : ℕ) (t : AdapterTable) (first : Event) (events : List Event) → IsWhole t → Found d.o_t_id t.messaging.class3_connections d → asks t.profile.description d count first ≡ true → EachOf (λ happens. asks_next t.profile.description d count happens ≡ false) events → Stands d count (last_sent d count None (Adapter t) (first ∷ events)) (table_after (Adapter t) (first ∷ events))
all_stands steps d count t first events whole found requests none =
    subst (λ (next : DeviceTable). Stands d count (last_sent d count (last_or None (sent_at d count t first)) next events) (table_after next events)) (sym (step_left t first))
    (run_stands steps t.profile.description d count (last_or None (sent_at d count t first)) (left_of t (adapter_step t first)) events
    (first_profile t first whole)
    (left_whole steps t first (adapter_step t first) refl whole) (first_keeps t d count first whole found requests) none)

-- ---- the repetition

again_frame : (u : AdapterTable) (d now : Class3Connection) (count : ℕ) (sent : Option Frame) (number : ℕ) (bytes : List ℕ) → IsWhole u → Found d.o_t_id u.messaging.class3_connections now → Holds d count sent now → brings u.profile.description d count (event.Frame number bytes) ≡ true → adapter_step u (event.Frame number bytes) ≡ Ok (repetition sent u now)
again_frame u d now count sent number bytes whole found h brought =
    let bearing = bears u.profile.description number bytes (is_counted d count) brought in
    let unit = bearing.unit in
    let its = its_own u d now count number unit bearing.passes found h.stream h.size in
    let parts = and_parts _ _ bearing.passes in
    let same_count : unit.count ≡ count = eqb-true unit.count count parts.1 in
    let repeats : repeats_last now unit.count ≡ true = ap (is_count unit.count) h.last ∙ eq-eqb count unit.count (sym same_count) in
    let frames : reply_frames number bearing.carries.header (kept_reply now unit.count now.reply) ≡ option_to_list sent =
    ap (λ (n : ℕ). reply_frames number bearing.carries.header (kept_reply now n now.reply)) same_count
    ∙ same_frames number bearing.carries.header now count its.stream bearing.carries.session ∙ h.kept in
    serves u number bytes unit now bearing.carries whole its
    ∙ ap (λ (b : Bool). Ok (framed number bearing.carries.header (cond b (message_repeated u now unit.count) (new_message u now unit)))) repeats
    ∙ ap (λ (fs : List Frame). Ok (record { frames = fs; datagrams = []; verdict = Delivered Duplicate; notices = [] }, repeated_table u now)) frames

again_is : (u : AdapterTable) (d now : Class3Connection) (count : ℕ) (sent : Option Frame) (again : Event) → IsWhole u → Found d.o_t_id u.messaging.class3_connections now → Holds d count sent now → brings u.profile.description d count again ≡ true → adapter_step u again ≡ Ok (repetition sent u now)
again_is u d now count sent (event.Frame number bytes) whole found h brought = again_frame u d now count sent number bytes whole found h brought
again_is u d now count sent other whole found h brought = absurd (let x = brought in cc)

same_table : (a b : AdapterTable) → ◌≡◌ {A = DeviceTable} (Adapter a) (Adapter b) → a ≡ b
same_table a b is = cc

stood_again : (d now : Class3Connection) (count : ℕ) (sent : Option Frame) (u : AdapterTable) (last : DeviceTable) (again : Event) → Stands d count sent last → Adapter u ≡ last → Found d.o_t_id u.messaging.class3_connections now → brings u.profile.description d count again ≡ true → adapter_step u again ≡ Ok (repetition sent u now)
stood_again d now count sent u last again stood is found brought =
    let same : stood.table ≡ u = sym (same_table u stood.table (is ∙ stood.is)) in
    again_is u d now count sent again (subst IsWhole same stood.whole) found ((subst (Keeps d count sent) same stood.keeps).stands now found) brought

pub repetitions_get : StepsKeep IsWhole → RepetitionsGetWhatWasSent
repetitions_get steps old new d now count first again between events outcomes whole found requests none ran split there brought =
    stood_again d now count (last_sent d count None (Adapter old) (first ∷ between)) new (table_after (Adapter old) (first ∷ between)) again
    (all_stands steps d count old first between whole found requests none)
    ((run_folds (Adapter old) events outcomes (Adapter new) ran).table ∙ ap (table_after (Adapter old)) split) there brought
