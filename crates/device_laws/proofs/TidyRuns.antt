-- Over every run a tidy scanner leaves no connection behind.
use Rattle.std.proofs.Common.{◌≡◌, ◌⊎◌, inl, inr, ◌≤◌, ◌<◌, ℕ, zero, suc, ◌^◌, nat_le, Bool, true, List, [], ◌∷◌, map, slice_get, get_or, Some, Result, Ok, Err, IfOk, refl, sym, ◌∙◌, ap, subst, arith}
use Rattle.std.specs.List.{AllByRecursion, Contains}
use Rattle.std.proofs.lemmas.Bool.Decides.{nat_tests}
use Rattle.std.proofs.lemmas.List.{length-map}
use Rattle.std.proofs.lemmas.Nat.{from_le_bytes-to_le_bytes_2}
use Rattle.cip_types.specs.declared.names.Triad.{Triad}
use Rattle.cip_encap.specs.Message.{message_text}
use Rattle.cip_encap.specs.ReadsBack.{ItemsReadBack}
use Rattle.cip_events.specs.declared.event.Event.{Event}
use Rattle.cip_events.specs.declared.event.Frame.{Frame}
use Rattle.cip_events.specs.declared.event.Recipient.TheVariants as recipient
use Rattle.cip_events.specs.declared.event.StepFault.{StepFault}
use Rattle.cip_fwdopen.specs.Open.{OpenFields}
use Rattle.scanner_table.specs.declared.profile.ScannerProfile.{ScannerProfile}
use Rattle.scanner_table.specs.declared.profile.SlotConfig.{SlotConfig}
use Rattle.scanner_table.specs.declared.table.ScannerTable.{ScannerTable}
use Rattle.scanner_table.specs.Counters.{CountsOn}
use Rattle.scanner_table.specs.Effects.{Next}
use Rattle.scanner_table.specs.Requests.{Request, registering, opening, closing, requesting, Sent, close_fields, numbered, sent_message, sent_frame}
use Rattle.scanner_table.specs.Runs.{left_by, table_after, EventsLead}
use Rattle.scanner_table.specs.Slots.{IndexedSlot}
use Rattle.scanner_table.specs.Step.{scanner_step}
use Rattle.scanner_table.specs.Whole.{IsWholeScanner}
use Rattle.scanner_table.specs.Lemmas.SlotLookups.{Stands, indexed_at, slot_is, slot_stands}
use Rattle.cip_tables.specs.declared.table.DeviceTable.TheVariants.{Scanner}
use Rattle.cip_tables.specs.Step.{as_scanner, step}
use Rattle.answer_sizes.specs.Sizes.{IsShortFrame, IsSmall, AnswersAreSmall}
use Rattle.device_laws.specs.Lemmas.RequestTexts.{read_back, HoldsAsRead, frame_opens}
use Rattle.device_laws.specs.Lemmas.Texts.{same_again}
use Rattle.device_laws.specs.TidyScanners.{HasConnection, IsRefused, IsEnded, HasUntilEnd, IsOfSlot, FrameIsOfSlot, RequestedAreOfSlots, EachRequested, TidyScannersLeaveNone}
use Rattle.device_laws.proofs.TidyEffects.{IsTidy, IsLeft, Keeps, KeepsOrCloses, IsRequestOf, RequestIsOf, HasSlot}
use Rattle.device_laws.proofs.TidyEvents.{NextCares, OkCares, step_cares}

-- ---- one event

mapped_at : {X Y : Type 0} (f : X → Y) (xs : List X) (k : ℕ) (x : X) → get_or (map f xs) k (f x) ≡ f (get_or xs k x)
mapped_at f [] k x = refl
mapped_at f (y ∷ xs) zero x = refl
mapped_at f (y ∷ xs) (suc k) x = mapped_at f xs k x

contains_mapped : {X Y : Type 0} (f : X → Y) (xs : List X) (x : X) → Contains xs x → Contains (map f xs) (f x)
contains_mapped f xs x there = (there.0, omega (arith, length-map xs f, there.1), mapped_at f xs there.0 x ∙ ap f there.2)

-- the slot has the connection at the table that it reaches
has_there : (t u : ScannerTable) (number : ℕ) (config : SlotConfig) (triad : Triad) → u.profile ≡ t.profile → slice_get t.profile.slots number ≡ Some config → Keeps u number triad → HasConnection u number triad
has_there t u number config triad profile at keeps =
    let stands : Stands u (indexed_at number config keeps.slot) = record { config = subst (λ (p : ScannerProfile). slice_get p.slots number ≡ Some config) (sym profile) at; slot = keeps.there } in
    record { place = indexed_at number config keeps.slot; at = slot_stands u (indexed_at number config keeps.slot) stands; has = keeps.has }

-- at an answer a connection is ended, or the slot still has it
abbrev EndsOrHas : ScannerTable → Next → ℕ → Triad → Type 0
EndsOrHas t next number triad = IsEnded t number triad (Ok next) ⊎ HasConnection next.1 number triad

cared_for : (t : ScannerTable) (next : Next) (place : IndexedSlot) (triad : Triad) (cares : NextCares t next) → Stands t place → KeepsOrCloses next.1 cares.requests place.number place.config triad ⊎ IsRefused t place.number triad next → EndsOrHas t next place.number triad
cared_for t next place triad cares stands (inl (inl keeps)) = inr (has_there t next.1 place.number place.config triad cares.profile stands.config keeps)
cared_for t next place triad cares stands (inl (inr closes)) = inl (inl (record {
  place = place;
  at = slot_stands t place stands;
  session = closes.session;
  registered = closes.registered;
  request = closes.request;
  sent =
      let close : Sent = numbered closes.session closes.request (closing (close_fields place.config triad)) in
      subst (λ (l : List Frame). Contains l (sent_frame (numbered closes.session closes.request (closing (close_fields place.config triad))))) (sym cares.frames) (contains_mapped sent_frame cares.requests close closes.sent);
}))
cared_for t next place triad cares stands (inr refused) = inl (inr refused)

next_ends_or_has : (t : ScannerTable) (next : Next) (number : ℕ) (triad : Triad) → NextCares t next → IsTidy t → IsLeft next.1 → HasConnection t number triad → EndsOrHas t next number triad
next_ends_or_has t next number triad cares tidy left has =
    let is = slot_is t number has.place has.at in
    subst (λ (n : ℕ). EndsOrHas t next n triad) is.number_is
    (cared_for t next has.place triad cares is.stands (cares.slots tidy left has.place.number has.place.config has.place.slot triad is.stands.config is.stands.slot has.has))

-- ---- a request to open, as it is read

abbrev triad_of : ℕ → ℕ → ℕ → Triad
triad_of serial vendor originator = record { serial = serial; vendor = vendor; originator = originator }

same_parts : (s v o t w p : ℕ) → s ≡ t → v ≡ w → o ≡ p → triad_of s v o ≡ triad_of t w p
same_parts s v o t w p serial vendor originator = cc

same_triad : (a b : Triad) → a.serial ≡ b.serial → a.vendor ≡ b.vendor → a.originator ≡ b.originator → a ≡ b
same_triad a b serial vendor originator = same_parts a.serial a.vendor a.originator b.serial b.vendor b.originator serial vendor originator

-- the triad is read as it was written, if its numbers fit
triad_back : (large : Bool) (request : OpenFields) → request.triad.serial ≤ 65535 → request.triad.vendor < 2 ^ 16 → request.triad.originator < 2 ^ 32 → (read_back large request).triad ≡ request.triad
triad_back large request serial vendor originator =
    same_triad (read_back large request).triad request.triad (from_le_bytes-to_le_bytes_2 request.triad.serial (omega (arith, serial))) (from_le_bytes-to_le_bytes_2 request.triad.vendor (omega (arith, vendor))) (same_again request.triad.originator originator)

-- each connection that the table has, a slot has until it ends
abbrev Until : ScannerTable → List Event → Type 0
Until t events = (number : ℕ) (triad : Triad) → HasConnection t number triad → HasUntilEnd number triad t events

of_slot : (t : ScannerTable) (events : List Event) (number : ℕ) (stream : ℕ) (bytes : List ℕ) (request : OpenFields) → Until t events → IsRequestOf t number stream request → IsOfSlot t events (record { to = recipient.Stream stream; bytes = bytes }) request.triad
of_slot t events number stream bytes request until is =
    let place = indexed_at number is.config is.keeps.slot in
    let stands : Stands t (indexed_at number is.config is.keeps.slot) = record { config = is.at; slot = is.keeps.there } in
    let at = slot_stands t place stands in
    record {
      number = number;
      place = place;
      at = at;
      session = is.session;
      registered = is.registered;
      goes = ap recipient.Stream is.stream_is;
      until = until number request.triad (record { place = place; at = at; has = is.keeps.has });
    }

holds_as_read : (t : ScannerTable) (events : List Event) (number : ℕ) (stream : ℕ) (bytes : List ℕ) (request : Request) → t.profile.vendor < 2 ^ 16 → t.profile.serial < 2 ^ 32 → Until t events → RequestIsOf t number stream request → HoldsAsRead (λ fields. IsOfSlot t events (record { to = recipient.Stream stream; bytes = bytes }) fields.triad) request
holds_as_read t events number stream bytes registering vendor serial until is = tt
holds_as_read t events number stream bytes (opening large fields) vendor serial until is =
    subst (IsOfSlot t events (record { to = recipient.Stream stream; bytes = bytes }))
    (sym (triad_back large fields is.serial (omega (arith, vendor, is.vendor)) (omega (arith, serial, is.originator))))
    (of_slot t events number stream bytes fields until is)
holds_as_read t events number stream bytes (closing fields) vendor serial until is = tt
holds_as_read t events number stream bytes (requesting explicit) vendor serial until is = is

frames_are : ItemsReadBack → (t : ScannerTable) (events : List Event) → t.profile.vendor < 2 ^ 16 → t.profile.serial < 2 ^ 32 → Until t events → (requests : List Sent) → AllByRecursion (HasSlot t) requests → AllByRecursion IsShortFrame (map sent_frame requests) → AllByRecursion (FrameIsOfSlot t events) (map sent_frame requests)
frames_are back t events vendor serial until [] have short = tt
frames_are back t events vendor serial until (sent ∷ requests) have short = (
  frame_opens back (λ fields. IsOfSlot t events (sent_frame sent) fields.triad) sent (holds_as_read t events have.0.number sent.stream (message_text (sent_message sent)) sent.request vendor serial until have.0.is) short.0,
  frames_are back t events vendor serial until requests have.1 short.1,
)

-- ---- over events

-- what each event needs
record IsReady (t : ScannerTable) (events : List Event) : Type 0 where
  whole : IsWholeScanner t
  tidy : IsTidy t
  left : IsLeft (table_after t events)
  vendor : t.profile.vendor < 2 ^ 16
  serial : t.profile.serial < 2 ^ 32

-- each step from a whole table leads to one
abbrev KeepWhole : Type 0
KeepWhole = (t : ScannerTable) (event : Event) → IsWholeScanner t → IfOk (scanner_step t event) (λ next. IsWholeScanner next.1)

whole_by : (t : ScannerTable) (said : Result Next StepFault) → IsWholeScanner t → IfOk said (λ next. IsWholeScanner next.1) → IsWholeScanner (left_by t said)
whole_by t (Err fault) whole keeps = whole
whole_by t (Ok next) whole keeps = keeps

profile_by : (t : ScannerTable) (said : Result Next StepFault) → OkCares t said → (left_by t said).profile ≡ t.profile
profile_by t (Err fault) cares = refl
profile_by t (Ok next) cares = cares.profile

ready_by : KeepWhole → (t : ScannerTable) (event : Event) (events : List Event) → IsReady t (event ∷ events) → IsReady (left_by t (scanner_step t event)) events
ready_by keep t event events ready =
    let profile = profile_by t (scanner_step t event) (step_cares t event ready.whole.table.streams_differ) in
    record {
      whole = whole_by t (scanner_step t event) ready.whole (keep t event ready.whole);
      tidy = ap (λ (p : ScannerProfile). p.tidy) profile ∙ ready.tidy;
      left = ready.left;
      vendor = subst (λ (p : ScannerProfile). p.vendor < 2 ^ 16) (sym profile) ready.vendor;
      serial = subst (λ (p : ScannerProfile). p.serial < 2 ^ 32) (sym profile) ready.serial;
    }

-- the numbers that are used in the end were not used up before
left_by_then : EventsLead CountsOn → (t : ScannerTable) (events : List Event) → IsLeft (table_after t events) → IsLeft t
left_by_then counts t events left = omega (arith, (counts t events).requests, left)

event_ends : (t : ScannerTable) (events : List Event) (number : ℕ) (triad : Triad) (said : Result Next StepFault) → OkCares t said → IsTidy t → IsLeft (left_by t said) → HasConnection t number triad → Until (left_by t said) events → IsEnded t number triad said ⊎ HasUntilEnd number triad (left_by t said) events
event_ends t events number triad (Err fault) cares tidy left has until = inr (until number triad has)
event_ends t events number triad (Ok next) cares tidy left has until = on (next_ends_or_has t next number triad cares tidy left has)
  where
    on : EndsOrHas t next number triad → IsEnded t number triad (Ok next) ⊎ HasUntilEnd number triad next.1 events
    on (inl ended) = inl ended
    on (inr still) = inr (until number triad still)

until_end : KeepWhole → EventsLead CountsOn → (t : ScannerTable) (events : List Event) → IsReady t events → Until t events
until_end keep counts t [] ready number triad has = has
until_end keep counts t (event ∷ events) ready number triad has =
    let u = left_by t (scanner_step t event) in
    let later = ready_by keep t event events ready in
    (has, event_ends t events number triad (scanner_step t event) (step_cares t event ready.whole.table.streams_differ) ready.tidy (left_by_then counts u events later.left) has (until_end keep counts u events later))

-- the frames of an answer
answer_requests : ItemsReadBack → (t : ScannerTable) (events : List Event) (said : Result Next StepFault) → OkCares t said → IfOk said (λ next. IsSmall next.0) → t.next_serial ≤ 65535 → (left_by t said).profile.vendor < 2 ^ 16 → (left_by t said).profile.serial < 2 ^ 32 → Until (left_by t said) events → RequestedAreOfSlots events said
answer_requests back t events (Err fault) cares small below vendor serial until = tt
answer_requests back t events (Ok next) cares small below vendor serial until =
    subst (AllByRecursion (FrameIsOfSlot next.1 events)) (sym cares.frames)
    (frames_are back next.1 events vendor serial until cares.requests (cares.opens below) (subst (AllByRecursion IsShortFrame) cares.frames small.short_frames))

small_said : (said : Result Next StepFault) → ((next : Next) → said ≡ Ok next → IsSmall next.0) → IfOk said (λ next. IsSmall next.0)
small_said (Err fault) small = tt
small_said (Ok next) small = small next refl

small_step : AnswersAreSmall → (t : ScannerTable) (event : Event) → IsWholeScanner t → IfOk (scanner_step t event) (λ next. IsSmall next.0)
unfolding step
small_step few t event whole = small_said (scanner_step t event) (λ next is. few (Scanner t) event next.0 (Scanner next.1) whole (ap as_scanner is))

each_requested : ItemsReadBack → AnswersAreSmall → KeepWhole → EventsLead CountsOn → (t : ScannerTable) (events : List Event) → IsReady t events → EachRequested t events
each_requested back few keep counts t [] ready = tt
each_requested back few keep counts t (event ∷ events) ready =
    let u = left_by t (scanner_step t event) in
    let later = ready_by keep t event events ready in (
      answer_requests back t events (scanner_step t event) (step_cares t event ready.whole.table.streams_differ) (small_step few t event ready.whole) ready.whole.table.serial_ends later.vendor later.serial (until_end keep counts u events later),
      each_requested back few keep counts u events later,
    )

left_of : (n : ℕ) → nat_le n (2 ^ 48) ≡ true → n ≤ 2 ^ 48
left_of n left = grind (arith, nat_tests)

-- the law over events
pub events_leave_none : ItemsReadBack → AnswersAreSmall → KeepWhole → EventsLead CountsOn → (t : ScannerTable) (events : List Event) → IsWholeScanner t → TidyScannersLeaveNone t events (table_after t events)
events_leave_none back few keep counts t events whole tidy some vendor serial =
    let ready : IsReady t events = record { whole = whole; tidy = tidy; left = left_of (table_after t events).next_request some; vendor = vendor; serial = serial } in
    record { had = until_end keep counts t events ready; requested = each_requested back few keep counts t events ready }
