-- Owners follow one another in every schedule, since they do over every run of a device.
use Rattle.std.proofs.Common.{◌≡◌, ◌<◌, ℕ, zero, suc, ◌==◌, ◌&&◌, find, slice_index_or, Bool, true, false, cond, List, [], ◌∷◌, ◌++◌, map, filter, Option, Some, None, Result, Ok, Err, refl, sym, ◌∙◌, ap, subst, inl, inr, append_assoc, arith, eq-eqb, eqb-true}
use Rattle.std.specs.List.{Contains}
use Rattle.std.proofs.lemmas.List.Elements.{Contains-append_cases}
use Rattle.cip_types.specs.declared.names.Node.{Node}
use Rattle.cip_types.specs.declared.names.Ms.{Ms}
use Rattle.cip_datagram.specs.declared.datagram.DatagramFault.{DatagramFault}
use Rattle.cip_datagram.specs.Datagram.{DatagramFields}
use Rattle.cip_datagram.specs.Reading.{datagram_reading}
use Rattle.cip_events.specs.Answers.{is_accepted}
use Rattle.cip_events.specs.declared.event.Answer.{Answer}
use Rattle.cip_events.specs.declared.event.Event.{Event}
use Rattle.cip_events.specs.declared.event.Event.TheVariants.{Datagram}
use Rattle.cip_events.specs.declared.event.StepFault.{StepFault}
use Rattle.adapter_table.specs.declared.profile.Profile.{Profile}
use Rattle.adapter_table.specs.Connections.{Row}
use Rattle.adapter_table.specs.declared.table.AdapterTable.{AdapterTable}
use Rattle.adapter_table.specs.Datagrams.{is_for, row_delivery, accepted_table, delivered, found_datagram, datagram_of, received}
use Rattle.adapter_table.specs.Newest.{is_applied}
use Rattle.adapter_table.specs.Requests.{Next}
use Rattle.adapter_table.specs.Rows.{drivers}
use Rattle.adapter_table.specs.Step.{adapter_step}
use Rattle.cip_tables.specs.declared.table.DeviceTable.{DeviceTable}
use Rattle.cip_tables.specs.declared.table.DeviceTable.TheVariants.{Adapter, Scanner}
use Rattle.cip_tables.specs.Step.{step, as_adapter, DeviceNext}
use Rattle.cip_tables.specs.Whole.{IsWholeDevice, FreshDevicesAreWhole}
use Rattle.device_laws.specs.Turns.{Turn, brought, ended, brought_found, brought_read, brought_at, has_ended, ended_turn, ended_at, reported, turns_at, turns, EndsStandBetween}
use Rattle.segment_world.specs.World.{ReportedEvent}
use Rattle.segment_world.specs.Story.{is_of, events_of}
use Rattle.schedule_laws.specs.Stories.{led_by, led_to}
use Rattle.schedule_laws.specs.Owners.{Brings, Ends, EndsWithin, EndsBetween, OwnersFollow, OpenedOwnersFollow}
use Rattle.schedule_laws.specs.Lemmas.Reporting.{Answers, AnswersIf, Reports, led_both, reports_rest, reports_first, is_run, is_performed, outcomes_of, story_leads}
use Rattle.schedule_laws.proofs.Openings.{opens_whole}

-- TURNS OF REPORTED EVENTS

-- the turns of an event, if it is the device's
abbrev turns_if : Bool → ℕ → DeviceTable → ReportedEvent → List Turn
turns_if true point t x = turns_at point t x.event
turns_if false point t x = []

abbrev turns_reported : ℕ → DeviceTable → ℕ → List ReportedEvent → List Turn
turns_reported point t device [] = []
turns_reported point t device (x ∷ rest) = turns_if (is_of device x) point t x ++ turns_reported point (led_by (is_of device x) t x) device rest

turns_step : (b : Bool) (point : ℕ) (t : DeviceTable) (x : ReportedEvent) (rest : List ReportedEvent) (reported_events : List Event) (others : List Turn) → turns point (led_by b t x) reported_events ≡ others → turns point t (cond b (x.event ∷ reported_events) reported_events) ≡ turns_if b point t x ++ others
turns_step true point t x rest reported_events others is = ap (λ (l : List Turn). turns_at point t x.event ++ l) is
turns_step false point t x rest reported_events others is = is

-- they are those of the run
turns_are : (point : ℕ) (t : DeviceTable) (device : ℕ) (xs : List ReportedEvent) → turns point t (events_of device xs) ≡ turns_reported point t device xs
turns_are point t device [] = refl
turns_are point t device (x ∷ rest) =
    let own = turns_step (is_of device x) point t x rest (events_of device rest) _ (turns_are point (led_by (is_of device x) t x) device rest) in
    ap (turns point t) (map_event (is_of device x)) ∙ own where
      map_event : (b : Bool) → map (λ (y : ReportedEvent). y.event) (cond b (x ∷ filter (is_of device) rest) (filter (is_of device) rest)) ≡ cond b (x.event ∷ events_of device rest) (events_of device rest)
      map_event true = refl
      map_event false = refl

turns_both : (point : ℕ) (t : DeviceTable) (device : ℕ) (first rest : List ReportedEvent) → turns_reported point t device (first ++ rest) ≡ turns_reported point t device first ++ turns_reported point (led_to t device first) device rest
turns_both point t device [] rest = refl
turns_both point t device (x ∷ first) rest =
    ap (λ (l : List Turn). turns_if (is_of device x) point t x ++ l) (turns_both point (led_by (is_of device x) t x) device first rest)
    ∙ sym (append_assoc (turns_if (is_of device x) point t x) (turns_reported point (led_by (is_of device x) t x) device first) (turns_reported point (led_to (led_by (is_of device x) t x) device first) device rest))

-- A DATAGRAM ENDS NO CONNECTION

quiet_found : (t : AdapterTable) (peer : Node) (d : DatagramFields) (found : Option Row) → (found_datagram t peer d found).0.notices ≡ []
quiet_found t peer d None = refl
quiet_found t peer d (Some row) = accepted_or (is_accepted (row_delivery t.profile t.clock row d)) where
  accepted_or : (b : Bool) → (cond b (delivered (row_delivery t.profile t.clock row d) (accepted_table t peer d row (row_delivery t.profile t.clock row d))) (delivered (row_delivery t.profile t.clock row d) t)).0.notices ≡ []
  accepted_or true = refl
  accepted_or false = refl

quiet_read : (t : AdapterTable) (peer : Node) (reading : Result DatagramFields DatagramFault) → (datagram_of t peer reading).0.notices ≡ []
quiet_read t peer (Err fault) = refl
quiet_read t peer (Ok d) = quiet_found t peer d (find (is_for peer d.connection) t.rows)

none_ended : (rows : List Row) → map ended_turn (filter (has_ended []) rows) ≡ []
none_ended [] = refl
none_ended (row ∷ rows) = none_ended rows

abbrev ok_is : DeviceNext → Result DeviceNext StepFault
ok_is next = Ok next

ok_inside : (x y : DeviceNext) → ok_is x ≡ ok_is y → x ≡ y
ok_inside x y e = cc

answer_same : (a b : Answer) (x y : DeviceTable) → ok_is (a, x) ≡ ok_is (b, y) → a ≡ b
answer_same a b x y is = ap (λ (p : DeviceNext). p.0) (ok_inside (a, x) (b, y) is)

-- so its data are its only turn
alone : (point : ℕ) (t : AdapterTable) (event : Event) (opening : ℕ) → brought_at point t event ≡ brought opening ∷ [] → turns_at point (Adapter t) event ≡ brought opening ∷ []
unfolding received
alone point t (Datagram peer bytes) opening is =
    let quiet = quiet_read t peer (datagram_reading bytes) in
    let none : ended_at point t.rows (datagram_of t peer (datagram_reading bytes)).0.notices ≡ [] = ap (ended_at point t.rows) quiet ∙ none_ended (drivers point t.rows) in
    ap (λ (l : List Turn). brought_at point t (Datagram peer bytes) ++ l) none ∙ ap (λ (l : List Turn). l ++ []) is
alone point t event opening is = absurd cc

brings_turn : (point : ℕ) (t : DeviceTable) (device opening : ℕ) (x : ReportedEvent) (adapter : AdapterTable) → x.device ≡ device → t ≡ Adapter adapter → brought_at point adapter x.event ≡ brought opening ∷ [] → turns_if (is_of device x) point t x ≡ brought opening ∷ []
brings_turn point t device opening x adapter own there brings =
    ap (λ (b : Bool). turns_if b point t x) (eq-eqb x.device device own)
    ∙ ap (λ (y : DeviceTable). turns_at point y x.event) there
    ∙ alone point adapter x.event opening brings

-- REPORTED ENDS

nothing_there : {X Y : Type 0} (x : X) → Contains [] x → Y
nothing_there x there = absurd (omega (arith, there.1))

one_there : {X : Type 0} (y x : X) (k : ℕ) → k < 1 → slice_index_or (y ∷ []) k x ≡ x → y ≡ x
one_there y x zero lt is = is
one_there y x (suc k) lt is = absurd (omega arith)

brought_or : (b : Bool) (from opening : ℕ) → Contains (cond b (brought from ∷ []) []) (ended opening) → ⊥
brought_or true from opening there = let same = one_there (brought from) (ended opening) there.0 there.1 there.2 in absurd cc
brought_or false from opening there = nothing_there (ended opening) there

found_no_end : (point : ℕ) (profile : Profile) (clock : Ms) (d : DatagramFields) (opening : ℕ) (found : Option Row) → Contains (brought_found point profile clock d found) (ended opening) → ⊥
found_no_end point profile clock d opening None there = nothing_there (ended opening) there
found_no_end point profile clock d opening (Some row) there = brought_or (row.consumed == point && is_applied (row_delivery profile clock row d)) row.opening opening there

read_no_end : (point : ℕ) (t : AdapterTable) (peer : Node) (opening : ℕ) (reading : Result DatagramFields DatagramFault) → Contains (brought_read point t peer reading) (ended opening) → ⊥
read_no_end point t peer opening (Err fault) there = nothing_there (ended opening) there
read_no_end point t peer opening (Ok d) there = found_no_end point t.profile t.clock d opening (find (is_for peer d.connection) t.rows) there

-- data are no end
brought_no_end : (point : ℕ) (t : AdapterTable) (event : Event) (opening : ℕ) → Contains (brought_at point t event) (ended opening) → ⊥
brought_no_end point t (Datagram peer bytes) opening there = read_no_end point t peer opening (datagram_reading bytes) there
brought_no_end point t event opening there = nothing_there (ended opening) there

-- a reported end is one of the answer
reported_end : (point : ℕ) (t : AdapterTable) (x : ReportedEvent) (opening : ℕ) (next : DeviceTable) (said : Result Next StepFault) → as_adapter said ≡ Ok (x.answer, next) → Contains (reported point t x.event said) (ended opening) → Contains (ended_at point t.rows x.answer.notices) (ended opening)
reported_end point t x opening next (Err fault) is there = nothing_there (ended opening) there
reported_end point t x opening next (Ok n) is there =
    let answer : n.0 ≡ x.answer = answer_same n.0 x.answer (Adapter n.1) next is in
    elim (Contains-append_cases (brought_at point t x.event) (ended_at point t.rows n.0.notices) (ended opening) there) [
      | inl early ↦ absurd (brought_no_end point t x.event opening early)
      | inr end ↦ subst (λ (a : Answer). Contains (ended_at point t.rows a.notices) (ended opening)) answer end
    ]

device_end : (point : ℕ) (t : DeviceTable) (x : ReportedEvent) (device opening : ℕ) → x.device ≡ device → Answers t x → Contains (turns_at point t x.event) (ended opening) → Ends t device point opening [] x
unfolding step
device_end point (Adapter adapter) x device opening own answers there =
    record { own = own; adapter = adapter; there = refl; ends = reported_end point adapter x opening answers.next (adapter_step adapter x.event) answers.is there }
device_end point (Scanner scanner) x device opening own answers there = nothing_there (ended opening) there

-- its index among the reported events
record Located (t : DeviceTable) (device point opening : ℕ) (xs : List ReportedEvent) : Type 0 where
  front : List ReportedEvent
  last : ReportedEvent
  back : List ReportedEvent
  parts : xs ≡ front ++ last ∷ back
  ends : Ends t device point opening front last

here : (b : Bool) (point : ℕ) (t : DeviceTable) (device opening : ℕ) (x : ReportedEvent) (rest : List ReportedEvent) → is_of device x ≡ b → AnswersIf b t x → Contains (turns_if b point t x) (ended opening) → Located t device point opening (x ∷ rest)
here true point t device opening x rest is answers there =
    record { front = []; last = x; back = rest; parts = refl; ends = device_end point t x device opening (eqb-true x.device device is) answers there }
here false point t device opening x rest is answers there = nothing_there (ended opening) there

behind : (t : DeviceTable) (device point opening : ℕ) (x : ReportedEvent) (rest : List ReportedEvent) → Located (led_by (is_of device x) t x) device point opening rest → Located t device point opening (x ∷ rest)
behind t device point opening x rest found =
    let e = found.ends in
    record {
      front = x ∷ found.front;
      last = found.last;
      back = found.back;
      parts = ap (λ (l : List ReportedEvent). x ∷ l) found.parts;
      ends = record { own = e.own; adapter = e.adapter; there = e.there; ends = e.ends };
    }

locate : (point opening : ℕ) (t : DeviceTable) (device : ℕ) (xs : List ReportedEvent) → Reports t device xs → Contains (turns_reported point t device xs) (ended opening) → Located t device point opening xs
locate point opening t device [] reports there = nothing_there (ended opening) there
locate point opening t device (x ∷ rest) reports there =
    elim (Contains-append_cases (turns_if (is_of device x) point t x) (turns_reported point (led_by (is_of device x) t x) device rest) (ended opening) there) [
      | inl now ↦ here (is_of device x) point t device opening x rest refl reports.0 now
      | inr later ↦ behind t device point opening x rest (locate point opening (led_by (is_of device x) t x) device rest reports.1 later)
    ]

-- THE LAW

-- the turns of a story with two datagrams between its parts
parted : (point : ℕ) (t : DeviceTable) (device a b : ℕ) (before middle after : List ReportedEvent) (first second : ReportedEvent) → Brings t device point a before first → Brings t device point b (before ++ first ∷ middle) second → turns_reported point t device (before ++ first ∷ (middle ++ second ∷ after)) ≡ turns_reported point t device before ++ brought a ∷ (turns_reported point (led_to t device (before ++ first ∷ [])) device middle ++ brought b ∷ turns_reported point (led_to t device (before ++ first ∷ (middle ++ second ∷ []))) device after)
parted point t device a b before middle after first second one other =
    let t1 = led_to t device before in
    let t2 : DeviceTable = led_by (is_of device first) (led_to t device before) first in
    let t3 : DeviceTable = led_to (led_by (is_of device first) (led_to t device before) first) device middle in
    let at2 : led_to t device (before ++ first ∷ []) ≡ t2 = led_both t device before (first ∷ []) in
    let at3 : led_to t device (before ++ first ∷ middle) ≡ t3 = led_both t device before (first ∷ middle) in
    let at4 : led_to t device (before ++ first ∷ (middle ++ second ∷ [])) ≡ led_by (is_of device second) t3 second = led_both t device before (first ∷ (middle ++ second ∷ [])) ∙ led_both t2 device middle (second ∷ []) in
    let turn_a = brings_turn point (led_to t device before) device a first one.adapter one.own one.there one.brings in
    let turn_b = brings_turn point t3 device b second other.adapter other.own (sym at3 ∙ other.there) other.brings in
    turns_both point t device before (first ∷ (middle ++ second ∷ after))
    ∙ ap (λ (l : List Turn). turns_reported point t device before ++ l)
    (ap (λ (l : List Turn). l ++ turns_reported point t2 device (middle ++ second ∷ after)) turn_a
    ∙ ap (λ (l : List Turn). brought a ∷ l)
    (turns_both point t2 device middle (second ∷ after)
    ∙ ap (λ (l : List Turn). turns_reported point t2 device middle ++ l) (ap (λ (l : List Turn). l ++ turns_reported point (led_by (is_of device second) t3 second) device after) turn_b)
    ∙ ap (λ (x : DeviceTable). turns_reported point x device middle ++ brought b ∷ turns_reported point (led_by (is_of device second) t3 second) device after) (sym at2)
    ∙ ap (λ (x : DeviceTable). turns_reported point (led_to t device (before ++ first ∷ [])) device middle ++ brought b ∷ turns_reported point x device after) (sym at4)))

within : (t : DeviceTable) (device point opening : ℕ) (before middle : List ReportedEvent) → Located (led_to t device before) device point opening middle → EndsWithin t device point opening before middle
within t device point opening before middle found =
    let e = found.ends in
    record {
      front = found.front;
      last = found.last;
      back = found.back;
      parts = found.parts;
      ends = record { own = e.own; adapter = e.adapter; there = led_both t device before found.front ∙ e.there; ends = e.ends };
    }

regroup : (before middle : List ReportedEvent) (first : ReportedEvent) (rest : List ReportedEvent) → before ++ first ∷ (middle ++ rest) ≡ (before ++ first ∷ []) ++ (middle ++ rest)
regroup before middle first rest = sym (append_assoc before (first ∷ []) (middle ++ rest))

reports_middle : (t : DeviceTable) (device : ℕ) (before middle after : List ReportedEvent) (first second : ReportedEvent) → Reports t device (before ++ first ∷ (middle ++ second ∷ after)) → Reports (led_to t device (before ++ first ∷ [])) device middle
reports_middle t device before middle after first second reports =
    let rest = reports_rest t device (before ++ first ∷ []) (middle ++ second ∷ after) (subst (Reports t device) (regroup before middle first (second ∷ after)) reports) in
    reports_first (led_to t device (before ++ first ∷ [])) device middle (second ∷ after) rest

ends_between_reported : EndsStandBetween → (t : DeviceTable) (device : ℕ) (xs : List ReportedEvent) → IsWholeDevice t → Reports t device xs → EndsBetween t device xs
ends_between_reported law t device xs whole reports = λ point a b before middle after first second is one other differ.
    let parts = sym (ap (turns point t) (sym (is_performed device xs))) ∙ turns_are point t device xs ∙ ap (turns_reported point t device) is ∙ parted point t device a b before middle after first second one other in
    let end = law point t (led_to t device xs) (events_of device xs) (outcomes_of device xs) (turns_reported point t device before)
    (turns_reported point (led_to t device (before ++ first ∷ [])) device middle) (turns_reported point (led_to t device (before ++ first ∷ (middle ++ second ∷ []))) device after)
    a b whole (is_run t device xs reports) parts differ in
    within t device point a (before ++ first ∷ []) middle
    (locate point a (led_to t device (before ++ first ∷ [])) device middle (reports_middle t device before middle after first second (subst (Reports t device) is reports)) end)

pub owners_follow : EndsStandBetween → OwnersFollow
owners_follow law start acts story device t ran at whole =
    ends_between_reported law t device story.reported whole (story_leads start acts story device t ran at).reports

pub opened_owners_follow : FreshDevicesAreWhole → EndsStandBetween → OpenedOwnersFollow
opened_owners_follow fresh law configs acts story device t lives ran at =
    let whole = opens_whole fresh configs device t lives.profiles at in
    ends_between_reported law t device story.reported whole (story_leads _ acts story device t ran at).reports
