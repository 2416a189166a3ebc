-- Openings and closings as requests and changes of a slot.
use Rattle.std.proofs.Common.{◌≡◌, ◌≤◌, ℕ, Bool, true, false, ◌||◌, ◌-◌, ◌^◌, nat_le, nat_lt, if◌then◌else◌, List, [], ◌∷◌, ◌++◌, slice_get, slice_set, Option, Some, None, refl, sym, ◌∙◌, ap, subst, arith, IsTrue, Result, Ok, Err}
use Rattle.std.specs.Result.{IfOk}
use Rattle.cip_types.specs.declared.ids.IdBlock.{IdBlock}
use Rattle.cip_types.specs.declared.memory.OutOfMemory as memory
use Rattle.cip_types.specs.Ids.{end_number}
use Rattle.cip_events.specs.declared.event.StepFault.{StepFault}
use Rattle.cip_events.specs.declared.event.StepFault.TheVariants.{NotAllowedNow}
use Rattle.cip_types.specs.declared.names.Triad.{Triad}
use Rattle.scanner_table.specs.Closing.{idle_slot, reopened, closed, stopped, stopped_at, slot_resigned}
use Rattle.scanner_table.specs.Effects.{Effect, nothing, changed}
use Rattle.scanner_table.specs.Replies.{disowned, disowned_within}
use Rattle.scanner_table.specs.Sessions.{session_with}
use Rattle.conn_state.specs.declared.names.Link.{Link}
use Rattle.scanner_table.specs.declared.slot.SlotState.{SlotState}
use Rattle.scanner_table.specs.declared.slot.PendingClose.{PendingClose}
use Rattle.scanner_table.specs.declared.slot.SlotState.TheVariants.{Idle, TimedOut, Closing}
use Rattle.std.specs.Option.{ForSome}
use Rattle.std.proofs.lemmas.List.{append-nil}
use Rattle.std.proofs.lemmas.Bool.Decides.{nat_tests}
use Rattle.cip_events.specs.declared.event.Frame.{Frame}
use Rattle.scanner_table.specs.declared.profile.ScannerProfile.{ScannerProfile}
use Rattle.scanner_table.specs.declared.profile.SlotConfig.{SlotConfig}
use Rattle.scanner_table.specs.declared.slot.Slot.{Slot}
use Rattle.scanner_table.specs.declared.table.ScannerTable.{ScannerTable}
use Rattle.scanner_table.specs.declared.table.Session.{Session}
use Rattle.scanner_table.specs.Requests.{opening, closing, is_large, open_fields, close_fields, next_requested, numbered, sent_frame}
use Rattle.scanner_table.specs.Opening.{open_session, asking_in, opened, opened_from, opened_within, cleared_within, can_open, has_request, has_id, id_after, serial_after}
use Rattle.scanner_table.specs.Points.{desired_slot}
use Rattle.scanner_table.specs.Profiles.{profile_fault, has_lengths}
use Rattle.scanner_table.specs.Slots.{IndexedSlot, slot_at, with_slot}
use Rattle.scanner_transactions.specs.declared.changes.SlotChange.{SlotChange}
use Rattle.scanner_transactions.specs.Transactions.{Progress, followed, at_found, after_at, slot_changed, with_change, with_request, opening_change, opened_there, cleared_by, rejected_by, open_requested_within, freshly_started, closing_change, close_requested_within, faulted, Adds}
use Rattle.scanner_requests.specs.Lemmas.Waits.{faultless, both_so}
use Rattle.scanner_transactions.proofs.Faultless.{all_at}
use Rattle.scanner_transactions.proofs.Found.{found, refound}
use Rattle.scanner_transactions.proofs.Remaining.{adds_both}
use Rattle.scanner_transactions.proofs.Steps.{adds_nothing}

-- NUMBERS AND LENGTHS

pub within : (a b : ℕ) → nat_le a b ≡ true → a ≤ b
within a b is = grind (arith, nat_tests)

-- an id that is left has a number below the last one
pub id_follows : (multicast : Bool) (number : ℕ) (ids : List IdBlock) → (multicast || nat_lt number (end_number ids)) ≡ true → (multicast || nat_lt number (2 ^ 32 - 1)) ≡ true
id_follows true number ids left = refl
id_follows false number ids left = grind (arith, nat_tests)

-- the numbers left for a slot are left for its configuration
pub left_for : (t : ScannerTable) (number : ℕ) (indexed : IndexedSlot) → Some indexed ≡ slot_at t number → ForSome (slot_at t number) (λ other. IsTrue (can_open t other.config)) → (has_request t ≡ true) × (has_id t indexed.config ≡ true)
left_for t number indexed is left = both_so (has_request t) (has_id t indexed.config) (left indexed (sym is))

pub lengths_at : (profile : ScannerProfile) (number : ℕ) (config : SlotConfig) → profile_fault profile ≡ None → slice_get profile.slots number ≡ Some config → has_lengths config ≡ true
lengths_at profile number config sound is = all_at has_lengths profile.slots number config (faultless profile sound).lengths is

-- OPENINGS

pub requests_open : (so_far : Progress) (number next_id next_serial : ℕ) (indexed : IndexedSlot) (session : Session) (frame : Frame) (slot_change : SlotChange) → Some indexed ≡ slot_at so_far.table number → next_id ≡ id_after indexed.config so_far.table.next_id → next_serial ≡ serial_after so_far.table.next_serial → frame ≡ sent_frame (numbered session so_far.table.next_request (opening (is_large indexed.config) (open_fields so_far.table.profile indexed.config (next_requested so_far.table indexed.config)))) → slot_change ≡ opening_change so_far.table indexed.config indexed.slot → after_at (slot_changed slot_change None) number (with_request frame (record so_far { table = record so_far.table { next_id = next_id; next_serial = next_serial } })) ≡ after_at (open_requested_within session) number so_far
requests_open so_far number next_id next_serial indexed session frame slot_change is ids serials sent stands =
    let before : Progress = with_request frame (record so_far { table = record so_far.table { next_id = next_id; next_serial = next_serial } }) in
    let core : followed before (slot_changed slot_change None before.table indexed) ≡ followed so_far (open_requested_within session so_far.table indexed) = rw (ids, serials, sent, stands) (rw (append-nil (so_far.frames ++ sent_frame (numbered session so_far.table.next_request (opening (is_large indexed.config) (open_fields so_far.table.profile indexed.config (next_requested so_far.table indexed.config)))) ∷ [])) refl) in
    ap (λ (o : Option IndexedSlot). followed before (at_found (slot_changed slot_change None) before.table o)) (sym is)
    ∙ core
    ∙ ap (λ (o : Option IndexedSlot). followed so_far (at_found (open_requested_within session) so_far.table o)) is

-- STARTS

pub starts : (so_far : Progress) (number : ℕ) (indexed : IndexedSlot) (slot_change : SlotChange) (slots : List Slot) → Some indexed ≡ slot_at so_far.table number → slot_change ≡ record { state = indexed.slot.state; desired_up = true; retry_at = so_far.table.clock } → ForSome (slice_get so_far.table.slots number) (λ slot. slots ≡ slice_set so_far.table.slots number (with_change slot_change slot)) → after_at opened number (record so_far { table = record so_far.table { slots = slots } }) ≡ after_at freshly_started number so_far
starts so_far number indexed slot_change slots is stands set =
    let t = so_far.table in
    let known = found number t.profile.slots t.slots indexed is in
    let slot : Slot = desired_slot t indexed.slot in
    let put : slots ≡ slice_set t.slots number slot = set indexed.slot known.slot ∙ ap (λ (s : SlotChange). slice_set t.slots number (with_change s indexed.slot)) stands in
    ap (λ (l : List Slot). after_at opened number (record so_far { table = record t { slots = l } })) put
    ∙ ap (λ (o : Option IndexedSlot). followed so_far (at_found opened (with_slot t number slot) o)) (sym (refound number t.profile.slots t.slots indexed slot is))
    ∙ ap (λ (n : ℕ). followed so_far (opened (with_slot t n slot) (record indexed { slot = slot }))) (sym known.numbered)
    ∙ ap (λ (o : Option IndexedSlot). followed so_far (at_found freshly_started t o)) is

-- CLOSINGS

pub requests_close : (so_far : Progress) (number : ℕ) (indexed : IndexedSlot) (link : Link) (desired_up : Bool) (session : Session) (frame : Frame) (slot_change : SlotChange) → Some indexed ≡ slot_at so_far.table number → frame ≡ sent_frame (numbered session so_far.table.next_request (closing (close_fields indexed.config link.triad))) → slot_change ≡ closing_change so_far.table link desired_up indexed.slot → after_at (slot_changed slot_change None) number (with_request frame so_far) ≡ after_at (close_requested_within link desired_up session) number so_far
requests_close so_far number indexed link desired_up session frame slot_change is sent stands =
    let before : Progress = with_request frame so_far in
    let core : followed before (slot_changed slot_change None before.table indexed) ≡ followed so_far (close_requested_within link desired_up session so_far.table indexed) = rw (sent, stands) (rw (append-nil (so_far.frames ++ sent_frame (numbered session so_far.table.next_request (closing (close_fields indexed.config link.triad))) ∷ [])) refl) in
    ap (λ (o : Option IndexedSlot). followed before (at_found (slot_changed slot_change None) before.table o)) (sym is)
    ∙ core
    ∙ ap (λ (o : Option IndexedSlot). followed so_far (at_found (close_requested_within link desired_up session) so_far.table o)) is

-- THE REPLY TO A CLOSE, AND OPENINGS BEHIND ONE

-- the slot after it became idle
idle_there : (t : ScannerTable) (number : ℕ) (indexed : IndexedSlot) (slot : Slot) → Some indexed ≡ slot_at t number → Some (record indexed { slot = slot }) ≡ slot_at (with_slot t indexed.number slot) number
idle_there t number indexed slot is =
    let known = found number t.profile.slots t.slots indexed is in
    refound number t.profile.slots t.slots indexed slot is ∙ ap (λ (n : ℕ). slot_at (with_slot t n slot) number) (sym known.numbered)

-- any reply to a Forward_Close, and then an opening
pub reopens : (so_far : Progress) (number : ℕ) (indexed : IndexedSlot) (slot_change : SlotChange) → Some indexed ≡ slot_at so_far.table number → slot_change ≡ record { state = Idle; desired_up = indexed.slot.desired_up; retry_at = indexed.slot.retry_at } → indexed.slot.desired_up ≡ true → after_at opened number (after_at (slot_changed slot_change None) number so_far) ≡ after_at closed number so_far
reopens so_far number indexed slot_change is stands desired_up =
    let t = so_far.table in
    let slot : Slot = idle_slot indexed.slot in
    let first : Effect = changed t indexed slot [] in
    let now : IndexedSlot = record indexed { slot = slot } in
    ap (λ (o : Option IndexedSlot). after_at opened number (followed so_far (at_found (slot_changed slot_change None) t o))) (sym is)
    ∙ ap (λ (s : SlotChange). after_at opened number (followed so_far (slot_changed s None t indexed))) stands
    ∙ ap (λ (o : Option IndexedSlot). followed (followed so_far first) (at_found opened first.table o)) (sym (idle_there t number indexed slot is))
    ∙ ap (λ (b : Bool). followed (followed so_far first) (if b then opened first.table now else nothing first.table)) (sym desired_up)
    ∙ adds_both so_far first (reopened now first.table)
    ∙ ap (λ (o : Option IndexedSlot). followed so_far (at_found closed t o)) is

-- and no opening
pub stays_idle : (so_far : Progress) (number : ℕ) (indexed : IndexedSlot) (slot_change : SlotChange) → Some indexed ≡ slot_at so_far.table number → slot_change ≡ record { state = Idle; desired_up = indexed.slot.desired_up; retry_at = indexed.slot.retry_at } → indexed.slot.desired_up ≡ false → after_at (slot_changed slot_change None) number so_far ≡ after_at closed number so_far
stays_idle so_far number indexed slot_change is stands desired_up =
    let t = so_far.table in
    let slot : Slot = idle_slot indexed.slot in
    let first : Effect = changed t indexed slot [] in
    let now : IndexedSlot = record indexed { slot = slot } in
    ap (λ (o : Option IndexedSlot). followed so_far (at_found (slot_changed slot_change None) t o)) (sym is)
    ∙ ap (λ (s : SlotChange). followed so_far (slot_changed s None t indexed)) stands
    ∙ adds_nothing (followed so_far first)
    ∙ ap (λ (b : Bool). followed (followed so_far first) (if b then opened first.table now else nothing first.table)) (sym desired_up)
    ∙ adds_both so_far first (reopened now first.table)
    ∙ ap (λ (o : Option IndexedSlot). followed so_far (at_found closed t o)) is

-- a connection that timed out is closed first
pub clears : (so_far : Progress) (number : ℕ) (indexed : IndexedSlot) (link : Link) → Some indexed ≡ slot_at so_far.table number → indexed.slot.state ≡ TimedOut link → so_far.table.profile.tidy ≡ true → after_at (cleared_by link) number so_far ≡ after_at opened number so_far
unfolding opened
clears so_far number indexed link is st tidy =
    let t = so_far.table in
    let session = session_with t indexed.config.target in
    ap (λ (o : Option IndexedSlot). followed so_far (at_found (cleared_by link) t o)) (sym is)
    ∙ ap (λ (b : Bool). followed so_far (if b then cleared_within t indexed link (if b then session else open_session t indexed.config.target) else opened_within t indexed (if b then session else open_session t indexed.config.target))) (sym tidy)
    ∙ ap (λ (s : SlotState). followed so_far (opened_from t indexed (asking_in t indexed.config.target s) s)) (sym st)
    ∙ ap (λ (o : Option IndexedSlot). followed so_far (at_found opened t o)) is

-- a slot in another state opens
pub opens_there : (so_far : Progress) (number : ℕ) (indexed : IndexedSlot) (state : SlotState) → Some indexed ≡ slot_at so_far.table number → indexed.slot.state ≡ state → opened_within so_far.table indexed (open_session so_far.table indexed.config.target) ≡ opened_from so_far.table indexed (asking_in so_far.table indexed.config.target state) state → after_at opened_there number so_far ≡ after_at opened number so_far
unfolding opened
opens_there so_far number indexed state is st same =
    let t = so_far.table in
    ap (λ (o : Option IndexedSlot). followed so_far (at_found opened_there t o)) (sym is)
    ∙ ap (followed so_far) same
    ∙ ap (λ (s : SlotState). followed so_far (opened_from t indexed (asking_in t indexed.config.target s) s)) (sym st)
    ∙ ap (λ (o : Option IndexedSlot). followed so_far (at_found opened t o)) is

-- without `tidy` a connection that timed out is not closed
pub untidy_opens : (t : ScannerTable) (indexed : IndexedSlot) (link : Link) → t.profile.tidy ≡ false → opened_within t indexed (open_session t indexed.config.target) ≡ opened_from t indexed (asking_in t indexed.config.target (TimedOut link)) (TimedOut link)
untidy_opens t indexed link is =
    let session = session_with t indexed.config.target in
    let turn = open_session t indexed.config.target in
    ap (λ (b : Bool). if b then cleared_within t indexed link (if b then session else turn) else opened_within t indexed (if b then session else turn)) (sym is)

-- REJECTED CONNECTIONS

-- a connection that no slot has is closed within a session
pub rejects : (so_far : Progress) (number : ℕ) (indexed : IndexedSlot) (triad : Triad) (session : Session) (frame : Frame) → Some indexed ≡ slot_at so_far.table number → so_far.table.profile.tidy ≡ true → session_with so_far.table indexed.config.target ≡ Some session → has_request so_far.table ≡ true → frame ≡ sent_frame (numbered session so_far.table.next_request (closing (close_fields indexed.config triad))) → with_request frame so_far ≡ after_at (rejected_by triad) number so_far
rejects so_far number indexed triad session frame is tidy up left sent =
    let t = so_far.table in
    let core : with_request frame so_far ≡ followed so_far (disowned t indexed.config triad session) = rw (sent, append-nil so_far.notices) refl in
    core
    ∙ ap (λ (b : Bool). followed so_far (if b then disowned t indexed.config triad session else nothing t)) (sym left)
    ∙ ap (λ (s : Option Session). followed so_far (disowned_within t indexed.config triad s)) (sym up)
    ∙ ap (λ (b : Bool). followed so_far (if b then disowned_within t indexed.config triad (session_with t indexed.config.target) else nothing t)) (sym tidy)
    ∙ ap (λ (o : Option IndexedSlot). followed so_far (at_found (rejected_by triad) t o)) is

-- STOPS

adds_made : (so_far new : Progress) (effect : Effect) (r : Result (Unit {0}) memory.OutOfMemory) → IfOk r (λ x. new ≡ followed so_far effect) → Adds (Ok effect) so_far (faulted r) new
adds_made so_far new effect (Ok x) made = made
adds_made so_far new effect (Err e) made = refl

pub adds : (so_far new : Progress) (number : ℕ) (indexed : IndexedSlot) (state : SlotState) (effect : ScannerTable → IndexedSlot → Effect) (r : Result (Unit {0}) memory.OutOfMemory) (result : Result (Unit {0}) StepFault) → Some indexed ≡ slot_at so_far.table number → indexed.slot.state ≡ state → stopped so_far.table indexed state ≡ Ok (effect so_far.table indexed) → result ≡ faulted r → IfOk r (λ x. new ≡ after_at effect number so_far) → Adds (stopped_at so_far.table (slot_at so_far.table number)) so_far result new
adds so_far new number indexed state effect r result is st stops res made =
    let t = so_far.table in
    let at : after_at effect number so_far ≡ followed so_far (effect t indexed) = ap (λ (o : Option IndexedSlot). followed so_far (at_found effect t o)) (sym is) in
    let done : Adds (Ok (effect t indexed)) so_far (faulted r) new = adds_made so_far new (effect t indexed) r (subst (λ (d : Progress). IfOk r (λ x. new ≡ d)) at made) in
    subst (λ (o : Option IndexedSlot). Adds (stopped_at t o) so_far result new) is
    (subst (λ (s : SlotState). Adds (stopped t indexed s) so_far result new) (sym st)
    (subst (λ (e : Result Effect StepFault). Adds e so_far result new) (sym stops)
    (subst (λ (x : Result (Unit {0}) StepFault). Adds (Ok (effect t indexed)) so_far x new) (sym res) done)))

pub adds_none : (so_far new : Progress) (number : ℕ) (indexed : IndexedSlot) (state : SlotState) → Some indexed ≡ slot_at so_far.table number → indexed.slot.state ≡ state → stopped so_far.table indexed state ≡ Err NotAllowedNow → Adds (stopped_at so_far.table (slot_at so_far.table number)) so_far (Err NotAllowedNow) new
adds_none so_far new number indexed state is st stops =
    let t = so_far.table in
    subst (λ (o : Option IndexedSlot). Adds (stopped_at t o) so_far (Err NotAllowedNow) new) is
    (subst (λ (s : SlotState). Adds (stopped t indexed s) so_far (Err NotAllowedNow) new) (sym st)
    (subst (λ (e : Result Effect StepFault). Adds e so_far (Err NotAllowedNow) new) (sym stops) refl))

pub closing_stops : (t : ScannerTable) (indexed : IndexedSlot) (c : PendingClose) → indexed.slot.desired_up ≡ true → stopped t indexed (Closing c) ≡ Ok (slot_resigned t indexed)
closing_stops t indexed c is = ap (λ (b : Bool). if b then Ok (slot_resigned t indexed) else Err NotAllowedNow) is

pub closing_stays : (t : ScannerTable) (indexed : IndexedSlot) (c : PendingClose) → indexed.slot.desired_up ≡ false → stopped t indexed (Closing c) ≡ Err NotAllowedNow
closing_stays t indexed c is = ap (λ (b : Bool). if b then Ok (slot_resigned t indexed) else Err NotAllowedNow) is

pub idle_stops : (t : ScannerTable) (indexed : IndexedSlot) → indexed.slot.desired_up ≡ true → stopped t indexed Idle ≡ Ok (slot_resigned t indexed)
idle_stops t indexed is = ap (λ (b : Bool). if b then Ok (slot_resigned t indexed) else Err NotAllowedNow) is

pub idle_stays : (t : ScannerTable) (indexed : IndexedSlot) → indexed.slot.desired_up ≡ false → stopped t indexed Idle ≡ Err NotAllowedNow
idle_stays t indexed is = ap (λ (b : Bool). if b then Ok (slot_resigned t indexed) else Err NotAllowedNow) is
