-- A step leaves at each image and output the bytes that the event says.
use Rattle.std.proofs.Common.{◌≡◌, ℕ, zero, suc, Bool, true, false, cond, not, ◌&&◌, ◌==◌, List, [], ◌∷◌, map, find, replicate, unwrap_or, slice_get, Option, Some, None, Result, Ok, Err, refl, sym, ◌∙◌, ap, subst}
use Rattle.std.proofs.lemmas.Option.{same_Some}
use Rattle.base_lemmas.specs.Numbers.{other_number, number_same}
use Rattle.base_lemmas.specs.Booleans.{not_alone, and_none}
use Rattle.cip_types.specs.declared.names.Ms.{Ms}
use Rattle.cip_types.specs.declared.names.Node.{Node}
use Rattle.cip_datagram.specs.declared.datagram.DatagramFault.{DatagramFault}
use Rattle.cip_datagram.specs.Datagram.{DatagramFields}
use Rattle.cip_datagram.specs.Reading.{datagram_reading}
use Rattle.cip_events.specs.declared.event.Delivery.{Delivery}
use Rattle.cip_events.specs.declared.event.Delivery.TheVariants as delivery
use Rattle.cip_events.specs.declared.event.Event.{Event}
use Rattle.cip_events.specs.declared.event.Event.TheVariants.{Frame, Datagram, Write}
use Rattle.cip_events.specs.declared.event.StepFault.{StepFault}
use Rattle.cip_events.specs.declared.event.StepFault.TheVariants as fault
use Rattle.cip_fwdopen.specs.declared.reply.Opened as made
use Rattle.cip_productions.specs.Acceptance.{is_duplicate}
use Rattle.cip_productions.specs.Kinds.{is_owner}
use Rattle.conn_state.specs.declared.names.Link.{Link}
use Rattle.scanner_table.specs.declared.profile.SlotConfig.{SlotConfig}
use Rattle.scanner_table.specs.declared.slot.SlotConnection.{SlotConnection}
use Rattle.scanner_table.specs.declared.slot.PendingOpen as pending
use Rattle.scanner_table.specs.declared.slot.Slot.{Slot}
use Rattle.scanner_table.specs.declared.slot.SlotState.{SlotState}
use Rattle.scanner_table.specs.declared.slot.SlotState.TheVariants.{Idle, Opening, Established, TimedOut, Closing}
use Rattle.scanner_table.specs.declared.table.ScannerTable.{ScannerTable}
use Rattle.scanner_table.specs.Slots.{IndexedSlot, indexed_slots, slot_at}
use Rattle.scanner_table.specs.Effects.{Next}
use Rattle.scanner_table.specs.Replies.{new_connection, established_slot}
use Rattle.scanner_table.specs.Datagrams.{accepts_at, is_for, accepted_connection, accepted_table, delivered, accepted, sized, state_received, received_at, received_as, received}
use Rattle.scanner_table.specs.Points.{output_slot, output_written, write_at, write}
use Rattle.scanner_table.specs.Productions.{written_state, state_is_due, produced_state}
use Rattle.scanner_table.specs.Step.{scanner_step, fresh_slot, scanner_table}
use Rattle.scanner_table.specs.Runs.{left_by, table_after}
use Rattle.device_laws.specs.ScannerDeliveries.{is_applied, reports_applied, is_slots}
use Rattle.device_laws.specs.Scratch.{or_else, datagram_left, data_left, is_established, opening_left, image_left, written, output_left, StepsLeaveBytes, RefusalsTouchNothing, last_image, last_output, BytesAreFromScratch, FreshBytesAreFromScratch}
use Rattle.scanner_table.specs.Lemmas.SlotLookups.{Stands, indexed_at, slot_is, slot_stands, each_found, each_stands}
use Rattle.scanner_table.specs.Lemmas.Moves.{KeptWidely, OrEstablished, Leads, Writes, Accepts, frame_leads, write_leads, received_leads}
use Rattle.scanner_table.specs.Lemmas.Events.{events_lead, leads_next}
use Rattle.scanner_table.specs.Lemmas.Slotwise.{set_later, Relation, StaysSo, Slotwise, SlotwiseAlways, Goes, goes_always, stays_goes, set_goes, apart_goes, goes_taken, goes_widely, was_of, of_each_change}
use Rattle.scanner_table.specs.Lemmas.Moves.{bare_leads}

-- ---- images that stay

-- the image stays, and a slot that is established now was established before
record Holds (was now : Slot) : Type 0 where
  image : now.image ≡ was.image
  begun : is_established now.state ≡ true → is_established was.state ≡ true

abbrev Calm : Relation
Calm t u number config was now = Holds was now

not_established : (state : SlotState) → state ≡ Idle → is_established state ≡ true → ⊥
not_established Idle is open_now = absurd cc
not_established (Opening o) is open_now = absurd cc
not_established (Established c) is open_now = absurd cc
not_established (TimedOut link) is open_now = absurd cc
not_established (Closing c) is open_now = absurd cc

written_begun : (state : SlotState) → is_established (written_state state) ≡ true → is_established state ≡ true
written_begun Idle is = is
written_begun (Opening o) is = is
written_begun (Established c) is = refl
written_begun (TimedOut link) is = is
written_begun (Closing c) is = is

produced_begun : (clock : Ms) (state : SlotState) → is_established (produced_state clock state) ≡ true → is_established state ≡ true
produced_begun clock Idle is = is
produced_begun clock (Opening o) is = is
produced_begun clock (Established c) is = refl
produced_begun clock (TimedOut link) is = is
produced_begun clock (Closing c) is = is

due_holds : (b : Bool) (clock : Ms) (slot : Slot) → Holds slot (cond b (record slot { state = produced_state clock slot.state }) slot)
due_holds true clock slot = record { image = refl; begun = produced_begun clock slot.state }
due_holds false clock slot = record { image = refl; begun = λ is. is }

moded_holds : (b : Bool) (slot : Slot) → Holds slot (cond b (record slot { state = written_state slot.state }) slot)
moded_holds true slot = record { image = refl; begun = written_begun slot.state }
moded_holds false slot = record { image = refl; begun = λ is. is }

not_begun : (state : SlotState) (link : Link) → state ≡ TimedOut link → is_established state ≡ true → ⊥
not_begun state link timed_out is = absurd (let e : false ≡ true = sym (ap is_established timed_out) ∙ is in cc)

calm_slotwise : Slotwise Calm
calm_slotwise = record {
  stays = λ t u number config slot later. record { image = refl; begun = λ is. is };
  after = λ t u v number config a b c first next before behind. record { image = behind.image ∙ before.image; begun = λ is. before.begun (behind.begun is) };
  opening = λ t indexed closed_before left. record { image = refl; begun = λ is. absurd cc };
  idling = λ t indexed slot idle. record { image = idle.image; begun = λ is. absurd (not_established slot.state idle.state is) };
  timing_out = λ t indexed link slot was becomes. record { image = becomes.image; begun = λ is. absurd (not_begun slot.state link becomes.state is) };
  closing = λ t indexed link desired_up was. record { image = refl; begun = λ is. absurd cc };
  producing = λ t number config slot. due_holds (state_is_due t.clock slot.state) t.clock slot;
  moding = λ t run indexed. moded_holds (is_owner indexed.config.kind) indexed.slot;
}

calm_widely : KeptWidely (Goes Calm)
calm_widely = goes_widely Calm calm_slotwise

-- ---- the bytes left at images

-- the image holds the bytes that are left there, by data or because the slot becomes established, or its bytes from before
abbrev ImageIs : Option (List ℕ) → SlotConfig → Slot → Slot → Type 0
ImageIs left config was now =
    now.image ≡ unwrap_or (or_else left (cond (is_established now.state && not (is_established was.state)) (Some (replicate config.in_len 0)) None)) was.image

calm_image : (config : SlotConfig) (was now : Slot) → Holds was now → ImageIs None config was now
calm_image config was now holds = rw (not_alone (is_established now.state) (is_established was.state) holds.begun) holds.image

abbrev Images : Relation
Images t u number config was now = ImageIs None config was now

images_stay : StaysSo Images
images_stay t u number config slot later = calm_image config slot slot (record { image = refl; begun = λ is. is })

calm_images : (t u : ScannerTable) → Goes Calm t u → Goes Images t u
calm_images t u goes = record {
  later = goes.later;
  fewer = goes.fewer;
  changes = λ number config was at there.
      let end = goes.changes number config was at there in
      record { now = end.now; stands = end.stands; holds = calm_image config was end.now end.holds };
}

-- a slot that is established holds zeros
zeros_stand : (t : ScannerTable) (indexed : IndexedSlot) (o : pending.PendingOpen) (success : made.Opened) → indexed.slot.state ≡ Opening o → ImageIs None indexed.config indexed.slot (established_slot indexed (new_connection t indexed o success))
zeros_stand t indexed o success is = rw is refl

or_established : (t : ScannerTable) → OrEstablished (Goes Calm) (Goes Images) t
or_established t = record {
  kept = calm_widely;
  weaker = calm_images t;
  establishing = λ indexed o success stands is requested.
      let slot = established_slot indexed (new_connection t indexed o success) in
      set_goes Images images_stay t t indexed slot (set_later t indexed.number slot) refl stands (zeros_stand t indexed o success is);
}

calm_leads : (t : ScannerTable) (said : Result Next StepFault) → Leads (Goes Calm) t said → Leads (Goes Images) t said
calm_leads t (Ok next) leads = calm_images t next.1 leads
calm_leads t (Err why) leads = tt

calm_writes : (t : ScannerTable) → Writes (Goes Calm) t
calm_writes t indexed bytes stands =
    set_goes Calm calm_slotwise.stays t t indexed (output_slot bytes indexed.slot) (set_later t indexed.number (output_slot bytes indexed.slot)) refl stands (record { image = refl; begun = written_begun indexed.slot.state })

-- ---- data that are applied

-- by the bytes left at each slot's number
abbrev Left : (ℕ → Option (List ℕ)) → Relation
Left left t u number config was now = ImageIs (left number) config was now

left_nothing : (left : ℕ → Option (List ℕ)) (t u : ScannerTable) → ((number : ℕ) → left number ≡ None) → Goes Images t u → Goes (Left left) t u
left_nothing left t u none goes = record {
  later = goes.later;
  fewer = goes.fewer;
  changes = λ number config was at there.
      let end = goes.changes number config was at there in
      record { now = end.now; stands = end.stands; holds = rw (none number) end.holds };
}

stays_images : (t : ScannerTable) → Goes Images t t
stays_images t = stays_goes Images images_stay t t (calm_widely.slots.same t).later refl

-- the bytes that a delivery leaves at the slots, if the datagram was for a slot
abbrev delivery_left : Option IndexedSlot → DatagramFields → Delivery → ℕ → Option (List ℕ)
delivery_left found d what number = cond (is_slots number found && is_applied what) (Some d.payload) None

none_applied : (found : Option IndexedSlot) (d : DatagramFields) (what : Delivery) (number : ℕ) → is_applied what ≡ false → delivery_left found d what number ≡ None
none_applied found d what number is = rw (is, and_none (is_slots number found)) refl

-- an accepted datagram leaves the image as it is, or its data there
accepted_images : (t : ScannerTable) (indexed : IndexedSlot) (d : DatagramFields) (c : SlotConnection) → Stands t indexed → indexed.slot.state ≡ Established c → Goes Images t (accepted_table t indexed d c indexed.slot.image)
accepted_images t indexed d c stands is =
    let slot : Slot = record indexed.slot { state = Established (accepted_connection t.clock d c) } in
    set_goes Images images_stay t t indexed slot (set_later t indexed.number slot) refl stands (calm_image indexed.config indexed.slot slot (record { image = refl; begun = λ now. rw is refl }))

applied_goes : (t : ScannerTable) (indexed : IndexedSlot) (d : DatagramFields) (c : SlotConnection) → Stands t indexed → indexed.slot.state ≡ Established c → Goes (Left (delivery_left (Some indexed) d delivery.Applied)) t (accepted_table t indexed d c d.payload)
applied_goes t indexed d c stands is =
    let slot : Slot = record indexed.slot { state = Established (accepted_connection t.clock d c); image = d.payload } in
    apart_goes (Left (delivery_left (Some indexed) d delivery.Applied)) t t indexed slot
    (λ number config other apart. rw (other_number number indexed.number apart) (calm_image config other other (record { image = refl; begun = λ is. is })))
    (set_later t indexed.number slot) refl stands (rw (number_same indexed.number) refl)

-- a datagram that was read
abbrev GoesBy : ScannerTable → Option IndexedSlot → DatagramFields → Next → Type 0
GoesBy t found d next = Goes (Left (λ number. cond (is_slots number found && reports_applied next.0.verdict) (Some d.payload) None)) t next.1

stays_by : (t : ScannerTable) (found : Option IndexedSlot) (d : DatagramFields) (what : Delivery) → is_applied what ≡ false → GoesBy t found d (delivered what t)
stays_by t found d what is = left_nothing (delivery_left found d what) t t (λ number. none_applied found d what number is) (stays_images t)

accepted_step : (b : Bool) (t : ScannerTable) (indexed : IndexedSlot) (d : DatagramFields) (c : SlotConnection) → Stands t indexed → indexed.slot.state ≡ Established c → GoesBy t (Some indexed) d (cond b (delivered delivery.Duplicate (accepted_table t indexed d c indexed.slot.image)) (delivered delivery.Applied (accepted_table t indexed d c d.payload)))
accepted_step true t indexed d c stands is = left_nothing (delivery_left (Some indexed) d delivery.Duplicate) t (accepted_table t indexed d c indexed.slot.image) (λ number. none_applied (Some indexed) d delivery.Duplicate number refl) (accepted_images t indexed d c stands is)
accepted_step false t indexed d c stands is = applied_goes t indexed d c stands is

sequence_step : (b : Bool) (t : ScannerTable) (indexed : IndexedSlot) (d : DatagramFields) (c : SlotConnection) → Stands t indexed → indexed.slot.state ≡ Established c → GoesBy t (Some indexed) d (cond b (accepted t indexed d c) (delivered delivery.Old t))
sequence_step true t indexed d c stands is = accepted_step (is_duplicate c.last d.count) t indexed d c stands is
sequence_step false t indexed d c stands is = stays_by t (Some indexed) d delivery.Old refl

sized_step : (b : Bool) (t : ScannerTable) (indexed : IndexedSlot) (d : DatagramFields) (c : SlotConnection) → Stands t indexed → indexed.slot.state ≡ Established c → GoesBy t (Some indexed) d (cond b (sized t indexed d c) (delivered delivery.WrongSize t))
sized_step true t indexed d c stands is = sequence_step (accepts_at t indexed c d.sequence) t indexed d c stands is
sized_step false t indexed d c stands is = stays_by t (Some indexed) d delivery.WrongSize refl

state_step : (t : ScannerTable) (indexed : IndexedSlot) (d : DatagramFields) (state : SlotState) → indexed.slot.state ≡ state → Stands t indexed → GoesBy t (Some indexed) d (state_received t indexed d state)
state_step t indexed d Idle is stands = stays_by t (Some indexed) d delivery.UnknownId refl
state_step t indexed d (Opening o) is stands = stays_by t (Some indexed) d delivery.UnknownId refl
state_step t indexed d (Established c) is stands = sized_step _ t indexed d c stands is
state_step t indexed d (TimedOut link) is stands = stays_by t (Some indexed) d delivery.UnknownId refl
state_step t indexed d (Closing c) is stands = stays_by t (Some indexed) d delivery.UnknownId refl

found_goes : (t : ScannerTable) (d : DatagramFields) (p : IndexedSlot → Bool) (found : Option IndexedSlot) → find p (indexed_slots t) ≡ found → GoesBy t found d (received_at t d found)
found_goes t d p None is = stays_by t None d delivery.UnknownId refl
found_goes t d p (Some indexed) is = state_step t indexed d indexed.slot.state refl (each_found (Stands t) p (indexed_slots t) indexed is (each_stands t))

read_goes : (t : ScannerTable) (peer : Node) (reading : Result DatagramFields DatagramFault) → Goes (Left (λ number. datagram_left number t peer (received_as t peer reading).0.verdict reading)) t (received_as t peer reading).1
read_goes t peer (Err why) = left_nothing (λ number. None) t t (λ number. refl) (stays_images t)
read_goes t peer (Ok d) = found_goes t d (is_for peer d.connection) (find (is_for peer d.connection) (indexed_slots t)) refl

received_goes : (t : ScannerTable) (peer : Node) (bytes : List ℕ) → Goes (Left (λ number. data_left number t (Datagram peer bytes))) t (received t peer bytes).1
unfolding received
received_goes t peer bytes = read_goes t peer (datagram_reading bytes)

-- ---- images after a step

-- an answer leaves the bytes that the event says
abbrev LeavesImages : ScannerTable → Event → Result Next StepFault → Type 0
LeavesImages t event said = Leads (Goes (Left (λ number. data_left number t event))) t said

pub step_images : (t : ScannerTable) (event : Event) → LeavesImages t event (scanner_step t event)
step_images t (Frame stream bytes) = frame_leads (Goes Calm) (Goes Images) t (or_established t) stream bytes
step_images t (Datagram peer bytes) = received_goes t peer bytes
step_images t (Write point bytes) = calm_leads t (scanner_step t (Write point bytes)) (write_leads (Goes Calm) t (calm_writes t) point bytes)
step_images t other = calm_leads t (scanner_step t other) (bare_leads (Goes Calm) calm_widely (goes_taken Calm calm_slotwise) t other refl)

-- ---- outputs

-- the output stays
abbrev Same : Relation
Same t u number config was now = now.output ≡ was.output

due_same : (b : Bool) (clock : Ms) (slot : Slot) → (cond b (record slot { state = produced_state clock slot.state }) slot).output ≡ slot.output
due_same true clock slot = refl
due_same false clock slot = refl

moded_same : (b : Bool) (slot : Slot) → (cond b (record slot { state = written_state slot.state }) slot).output ≡ slot.output
moded_same true slot = refl
moded_same false slot = refl

same_slotwise : Slotwise Same
same_slotwise = record {
  stays = λ t u number config slot later. refl;
  after = λ t u v number config a b c first next before behind. behind ∙ before;
  opening = λ t indexed closed_before left. refl;
  idling = λ t indexed slot idle. idle.output;
  timing_out = λ t indexed link slot was becomes. becomes.output;
  closing = λ t indexed link desired_up was. refl;
  producing = λ t number config slot. due_same (state_is_due t.clock slot.state) t.clock slot;
  moding = λ t run indexed. moded_same (is_owner indexed.config.kind) indexed.slot;
}

same_widely : KeptWidely (Goes Same)
same_widely = goes_widely Same same_slotwise

same_established : (t : ScannerTable) → OrEstablished (Goes Same) (Goes Same) t
same_established t = record {
  kept = same_widely;
  weaker = λ u goes. goes;
  establishing = λ indexed o success stands is requested.
      let slot = established_slot indexed (new_connection t indexed o success) in
      set_goes Same same_slotwise.stays t t indexed slot (set_later t indexed.number slot) refl stands refl;
}

same_accepts : (t : ScannerTable) → Accepts (Goes Same) t
same_accepts t indexed d c bytes stands is =
    let slot : Slot = record indexed.slot { state = Established (accepted_connection t.clock d c); image = bytes } in
    set_goes Same same_slotwise.stays t t indexed slot (set_later t indexed.number slot) refl stands refl

-- the output holds the bytes that are left there, or its bytes from before
abbrev LeftOutput : (ℕ → Option (List ℕ)) → Relation
LeftOutput left t u number config was now = now.output ≡ unwrap_or (left number) was.output

-- the bytes that a write with this answer leaves
abbrev write_left : ℕ → List ℕ → Result Next StepFault → ℕ → Option (List ℕ)
write_left point bytes said number = cond (point == number) (written said bytes) None

abbrev WritesSo : ScannerTable → ℕ → List ℕ → Result Next StepFault → Type 0
WritesSo t point bytes said = Leads (Goes (LeftOutput (write_left point bytes said))) t said

written_goes : (t : ScannerTable) (point : ℕ) (indexed : IndexedSlot) (bytes : List ℕ) → indexed.number ≡ point → Stands t indexed → WritesSo t point bytes (Ok (output_written t indexed bytes))
written_goes t point indexed bytes same stands =
    let slot = output_slot bytes indexed.slot in
    apart_goes (LeftOutput (write_left point bytes (Ok (output_written t indexed bytes)))) t t indexed slot
    (λ number config other apart. rw (sym same, other_number number indexed.number apart) refl)
    (set_later t indexed.number slot) refl stands (rw (sym same, number_same indexed.number) refl)

length_writes : (b : Bool) (t : ScannerTable) (point : ℕ) (indexed : IndexedSlot) (bytes : List ℕ) → indexed.number ≡ point → Stands t indexed → WritesSo t point bytes (cond b (Ok (output_written t indexed bytes)) (Err fault.WrongLength))
length_writes true t point indexed bytes same stands = written_goes t point indexed bytes same stands
length_writes false t point indexed bytes same stands = tt

owner_writes : (b c : Bool) (t : ScannerTable) (point : ℕ) (indexed : IndexedSlot) (bytes : List ℕ) → indexed.number ≡ point → Stands t indexed → WritesSo t point bytes (cond b (cond c (Ok (output_written t indexed bytes)) (Err fault.WrongLength)) (Err fault.NotAllowedNow))
owner_writes true c t point indexed bytes same stands = length_writes c t point indexed bytes same stands
owner_writes false c t point indexed bytes same stands = tt

at_writes : (t : ScannerTable) (point : ℕ) (bytes : List ℕ) (found : Option IndexedSlot) → slot_at t point ≡ found → WritesSo t point bytes (write_at t bytes found)
at_writes t point bytes None is = tt
at_writes t point bytes (Some indexed) is =
    let slot_of = slot_is t point indexed is in
    owner_writes (is_owner indexed.config.kind) _ t point indexed bytes slot_of.number_is slot_of.stands

write_writes : (t : ScannerTable) (point : ℕ) (bytes : List ℕ) → WritesSo t point bytes (write t point bytes)
unfolding write
write_writes t point bytes = at_writes t point bytes (slot_at t point) refl

-- an answer leaves at outputs the bytes that the event says
abbrev LeavesOutputs : ScannerTable → Event → Result Next StepFault → Type 0
LeavesOutputs t event said = Leads (Goes (LeftOutput (λ number. output_left number t event))) t said

step_outputs : (t : ScannerTable) (event : Event) → LeavesOutputs t event (scanner_step t event)
step_outputs t (Frame stream bytes) = frame_leads (Goes Same) (Goes Same) t (same_established t) stream bytes
step_outputs t (Datagram peer bytes) = received_leads (Goes Same) t (same_widely.slots.same t) (same_accepts t) peer bytes
step_outputs t (Write point bytes) = write_writes t point bytes
step_outputs t other = bare_leads (Goes Same) same_widely (goes_taken Same same_slotwise) t other refl

-- ---- one event

image_next : (t : ScannerTable) (event : Event) (next : Next) (number : ℕ) (was now : IndexedSlot) → scanner_step t event ≡ Ok next → slot_at t number ≡ Some was → slot_at next.1 number ≡ Some now → now.slot.image ≡ unwrap_or (image_left number t event next.1) was.slot.image
image_next t event next number was now is before behind =
    let goes = leads_next (Goes (Left (λ n. data_left n t event))) t (scanner_step t event) next is (step_images t event) in
    let same = (slot_is next.1 number now behind).number_is in
    rw (before, behind) (subst (λ (n : ℕ). ImageIs (data_left n t event) now.config was.slot now.slot) same (of_each_change (Left (λ n. data_left n t event)) t next.1 goes number was now before behind))

output_next : (t : ScannerTable) (event : Event) (next : Next) (number : ℕ) (was now : IndexedSlot) → scanner_step t event ≡ Ok next → slot_at t number ≡ Some was → slot_at next.1 number ≡ Some now → now.slot.output ≡ unwrap_or (output_left number t event) was.slot.output
output_next t event next number was now is before behind =
    let goes = leads_next (Goes (LeftOutput (λ n. output_left n t event))) t (scanner_step t event) next is (step_outputs t event) in
    let same = (slot_is next.1 number now behind).number_is in
    subst (λ (n : ℕ). now.slot.output ≡ unwrap_or (output_left n t event) was.slot.output) same (of_each_change (LeftOutput (λ n. output_left n t event)) t next.1 goes number was now before behind)

pub steps_leave : StepsLeaveBytes
steps_leave t event next number was now is before behind = (image_next t event next number was now is before behind, output_next t event next number was now is before behind)

-- ---- refusals

never_begins : (b : Bool) → (b && not b) ≡ false
never_begins true = refl
never_begins false = refl

none_opens : (found : Option IndexedSlot) → opening_left found found ≡ None
none_opens None = refl
none_opens (Some indexed) = rw (never_begins (is_established indexed.slot.state)) refl

refused_left : (point number : ℕ) (bytes : List ℕ) (said : Result Next StepFault) (why : StepFault) → said ≡ Err why → cond (point == number) (written said bytes) None ≡ None
refused_left point number bytes said why is = rw is (either (point == number)) where
  either : (b : Bool) → ◌≡◌ {A = Option (List ℕ)} (cond b None None) None
  either true = refl
  either false = refl

refused_image : (number : ℕ) (t : ScannerTable) (event : Event) (why : StepFault) → scanner_step t event ≡ Err why → data_left number t event ≡ None
refused_image number t (Datagram peer bytes) why is = absurd cc
refused_image number t other why is = refl

refused_output : (number : ℕ) (t : ScannerTable) (event : Event) (why : StepFault) → scanner_step t event ≡ Err why → output_left number t event ≡ None
refused_output number t (Write point bytes) why is = refused_left point number bytes (write t point bytes) why is
refused_output number t other why is = refl

pub refusals_touch_nothing : RefusalsTouchNothing
refusals_touch_nothing t event why number is = (rw (refused_image number t event why is, none_opens (slot_at t number)) refl, refused_output number t event why is)

-- ---- events

-- the slot after an event, or a refusal
record Mid (t : ScannerTable) (event : Event) (u : ScannerTable) (number : ℕ) (was : IndexedSlot) : Type 0 where
  indexed : IndexedSlot
  stands : slot_at u number ≡ Some indexed
  image : indexed.slot.image ≡ unwrap_or (image_left number t event u) was.slot.image
  output : indexed.slot.output ≡ unwrap_or (output_left number t event) was.slot.output

mid_next : (t : ScannerTable) (event : Event) (next : Next) (number : ℕ) (was : IndexedSlot) → scanner_step t event ≡ Ok next → slot_at t number ≡ Some was → Mid t event next.1 number was
mid_next t event next number was is before =
    let goes = leads_next (Goes (LeftOutput (λ n. output_left n t event))) t (scanner_step t event) next is (step_outputs t event) in
    let at = slot_is t number was before in
    let end = goes.changes was.number was.config was.slot at.stands.config at.stands.slot in
    let now = indexed_at was.number was.config end.now in
    let stands : slot_at next.1 number ≡ Some now = subst (λ (n : ℕ). slot_at next.1 n ≡ Some now) at.number_is (slot_stands next.1 now (record { config = rw goes.later.profile at.stands.config; slot = end.stands })) in
    let leaves = steps_leave t event next number was now is before stands in
    record { indexed = now; stands = stands; image = leaves.0; output = leaves.1 }

mid_of : (t : ScannerTable) (event : Event) (said : Result Next StepFault) (number : ℕ) (was : IndexedSlot) → scanner_step t event ≡ said → slot_at t number ≡ Some was → Mid t event (left_by t said) number was
mid_of t event (Ok next) number was is before = mid_next t event next number was is before
mid_of t event (Err why) number was is before =
    let none = refusals_touch_nothing t event why number is in
    record { indexed = was; stands = before; image = rw none.0 refl; output = rw none.1 refl }

unwrap_either : (a b : Option (List ℕ)) (bytes : List ℕ) → unwrap_or a (unwrap_or b bytes) ≡ unwrap_or (or_else a b) bytes
unwrap_either None b bytes = refl
unwrap_either (Some x) b bytes = refl

pub bytes_from_scratch : BytesAreFromScratch
bytes_from_scratch t [] number was now before behind =
    let same : now ≡ was = same_Some now was (sym behind ∙ before) in
    (ap (λ (p : IndexedSlot). p.slot.image) same, ap (λ (p : IndexedSlot). p.slot.output) same)
bytes_from_scratch t (event ∷ events) number was now before behind =
    let next = left_by t (scanner_step t event) in
    let mid = mid_of t event (scanner_step t event) number was refl before in
    let rest = bytes_from_scratch next events number mid.indexed now mid.stands behind in (
      rest.0 ∙ ap (unwrap_or (last_image number next events)) mid.image ∙ unwrap_either (last_image number next events) (image_left number t event next) was.slot.image,
      rest.1 ∙ ap (unwrap_or (last_output number next events)) mid.output ∙ unwrap_either (last_output number next events) (output_left number t event) was.slot.output,
    )

-- ---- fresh scanners

abbrev Anything : Relation
Anything t u number config was now = Unit {0}

anything_always : SlotwiseAlways Anything
anything_always = record {
  widely = record {
    stays = λ t u number config slot later. tt;
    after = λ t u v number config a b c first next before behind. tt;
    opening = λ t indexed closed_before left. tt;
    idling = λ t indexed slot idle. tt;
    timing_out = λ t indexed link slot is becomes. tt;
    closing = λ t indexed link desired_up is. tt;
    producing = λ t number config slot. tt;
    moding = λ t run indexed. tt;
  };
  establishing = λ t indexed o success is requested. tt;
  writing = λ t indexed bytes. tt;
  accepting = λ t indexed d c bytes is. tt;
}

fresh_is : (configs : List SlotConfig) (k : ℕ) (config : SlotConfig) (slot : Slot) → slice_get configs k ≡ Some config → slice_get (map fresh_slot configs) k ≡ Some slot → fresh_slot config ≡ slot
fresh_is [] k config slot at is = absurd cc
fresh_is (first ∷ configs) zero config slot at is = ap fresh_slot (sym (same_Some first config at)) ∙ same_Some (fresh_slot first) slot is
fresh_is (first ∷ configs) (suc k) config slot at is = fresh_is configs k config slot at is

pub fresh_from_scratch : FreshBytesAreFromScratch
fresh_from_scratch profile events number now is =
    let t = scanner_table profile in
    let at = slot_is (table_after t events) number now is in
    let was = was_of Anything t (table_after t events) now (events_lead (Goes Anything) (goes_always Anything anything_always) t events) at.stands in
    let indexed = indexed_at now.number now.config was.slot in
    let before : slot_at t number ≡ Some indexed = subst (λ (n : ℕ). slot_at t n ≡ Some indexed) at.number_is (slot_stands t indexed was.stands) in
    let fresh : fresh_slot now.config ≡ was.slot = fresh_is profile.slots now.number now.config was.slot was.stands.config was.stands.slot in
    let after = bytes_from_scratch t events number indexed now before is in (
      after.0 ∙ ap (λ (s : Slot). unwrap_or (last_image number t events) s.image) (sym fresh),
      after.1 ∙ ap (λ (s : Slot). unwrap_or (last_output number t events) s.output) (sym fresh),
    )
