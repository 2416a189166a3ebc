-- The slots of a scanner, its frames and what it produces have their entries after each event.
use Rattle.std.proofs.Common.{◌≡◌, ◌⊎◌, inl, inr, ℕ, Bool, List, [], ◌∷◌, map, filter, find, slice_get, Some, refl, sym, ◌∙◌, ap, subst, arith, eqb-true}
use Rattle.std.specs.List.{AllByRecursion}
use Rattle.std.specs.Option.{IfSome}
use Rattle.base_lemmas.specs.Lists.{found_passes}
use Rattle.cip_types.specs.declared.ids.IdBlock.{IdBlock}
use Rattle.cip_types.specs.declared.names.ConnId.{ConnId}
use Rattle.cip_types.specs.declared.names.Node.{Node}
use Rattle.cip_events.specs.declared.event.Event.{Event}
use Rattle.cip_events.specs.declared.event.Event.TheVariants as event
use Rattle.cip_events.specs.declared.event.Frame.{Frame}
use Rattle.cip_fwdopen.specs.declared.reply.Opened as made
use Rattle.conn_state.specs.declared.names.Link.{Link}
use Rattle.scanner_table.specs.declared.profile.SlotConfig.{SlotConfig}
use Rattle.scanner_table.specs.declared.slot.SlotConnection.{SlotConnection}
use Rattle.scanner_table.specs.declared.slot.SlotState.{SlotState}
use Rattle.scanner_table.specs.declared.slot.SlotState.TheVariants.{Idle, Opening, Established, TimedOut, Closing}
use Rattle.scanner_table.specs.declared.table.ScannerTable.{ScannerTable}
use Rattle.scanner_table.specs.Productions.{is_due, by_due, due_slots}
use Rattle.scanner_table.specs.declared.table.TargetStream.{TargetStream}
use Rattle.scanner_table.specs.Sessions.{is_stream}
use Rattle.scanner_table.specs.Slots.{IndexedSlot, indexed_slots}
use Rattle.scanner_table.specs.Ticks.{clocked_table, advanced}
use Rattle.cip_tables.specs.declared.table.DeviceTable.TheVariants.{Scanner}
use Rattle.segment_world.specs.World.{World, node_at}
use Rattle.device_laws.specs.Lemmas.Lists.{all_more, all_made, all_ordered, all_filtered}
use Rattle.device_laws.specs.Lemmas.Slots.{advanced_holds}
use Rattle.device_laws.specs.OwnIds.{FrameAsks}
use Rattle.device_laws.specs.Frames.{SuccessIs}
use Rattle.device_laws.specs.TargetStreams.{StreamCame}
use Rattle.device_laws.specs.Replies.{IsNoSuccess}
use Rattle.device_laws.specs.Plain.{SendsPlainly}
use Rattle.device_laws.specs.SlotIds.{WasEstablished, IsEstablishedBy, StateHasItsIds, SlotHasItsIds}
use Rattle.device_laws.specs.Lemmas.SlotIds.{HasItsIds, ids_kept, were_so}
use Rattle.device_laws.specs.Made.{Made, state_made, slot_made, places_made, scanner_makes}
use Rattle.device_laws.specs.Productions.{end_at}
use Rattle.schedule_laws.specs.Chronicle.{Opened}
use Rattle.schedule_laws.specs.Names.{IsAdapterIn, IsOpenedFor, IsOpenedWith, IsOpenedAt, StateHasEntry, SlotHasEntry}
use Rattle.schedule_laws.specs.Streams.{ends_of, IsOver}
use Rattle.schedule_laws.specs.Lemmas.AdapterNames.{over_same}
use Rattle.schedule_laws.specs.Lemmas.Entries.{Waits, successes_more, IsKnownTo, ScannerIsNamed}
use Rattle.schedule_laws.specs.Lemmas.Found.{found_holds, all_contains}
use Rattle.schedule_laws.specs.Lemmas.StreamActs.{FrameSent, FrameArrives, OpeningArrives, EventArrives}
use Rattle.device_laws.specs.Lemmas.Stepping.{table_is}

-- ---- slots

-- the stream of the reply goes to the device that gave it, whose node is the stream's peer
peer_is : (w : World) (device : ℕ) (t : ScannerTable) (n other : ℕ) (stream : TargetStream) → AllByRecursion (IsKnownTo w device) t.streams → find (is_stream n) t.streams ≡ Some stream → IsOver w device other n → stream.peer ≡ node_at w other
peer_is w device t n other stream known found over =
    let k = found_holds (IsKnownTo w device) (is_stream n) t.streams stream known found in
    let number : stream.number ≡ n = eqb-true stream.number n (found_passes (is_stream n) t.streams stream found) in
    k.peer_is ∙ ap (node_at w) (over_same w device k.other other stream.number n number k.over over)

-- a connection that was there, or that a success opened, has its entry
connection_named : (w : World) (opened : List Opened) (device : ℕ) (t : ScannerTable) (happens : Event) (number : ℕ) (config : SlotConfig) (c : SlotConnection) → ScannerIsNamed w opened device t → EventArrives (Waits w opened) w device happens → WasEstablished t number config c ⊎ IsEstablishedBy t happens number config c → IsOpenedAt w opened config.target (end_at device c.opening) c.link.o_t_id.0 c.link.t_o_id.0
connection_named w opened device t happens number config c named comes (inl was) =
    let same = was.same in
    let before : IsOpenedAt w opened was.place.config.target (end_at device was.before.opening) was.before.link.o_t_id.0 was.before.link.t_o_id.0 =
    subst (StateHasEntry w opened device was.place.config.target) was.state (all_contains (SlotHasEntry w opened device) (indexed_slots t) was.place named.slots was.there) in
    subst (λ (x : SlotConfig). IsOpenedAt w opened x.target (end_at device c.opening) c.link.o_t_id.0 c.link.t_o_id.0) was.config_is
    (subst (λ (l : Link). IsOpenedAt w opened was.place.config.target (end_at device c.opening) l.o_t_id.0 l.t_o_id.0) (sym same.link)
    (subst (λ (n : ℕ). IsOpenedAt w opened was.place.config.target (end_at device n) was.before.link.o_t_id.0 was.before.link.t_o_id.0) (sym same.opening) before))
connection_named w opened device t happens number config c named comes (inr by) =
    let replied = by.replied in
    let frame : FrameArrives (Waits w opened) w device replied.stream replied.bytes = subst (EventArrives (Waits w opened) w device) replied.is comes in
    let waits = frame.holds in
    let success : IsOpenedWith opened frame.other (end_at device replied.message.context) by.success.o_t_id.0 by.success.t_o_id.0 =
    subst (SuccessIs (λ (o : made.Opened). IsOpenedWith opened frame.other (end_at device replied.message.context) o.o_t_id.0 o.t_o_id.0)) replied.success_is (waits.successes replied.message replied.reads replied.large) in
    let context : replied.message.context ≡ c.opening = replied.context ∙ sym by.request_is in
    record {
      adapter = frame.other;
      target_is = sym replied.peer ∙ ap (λ (n : Node). n.0) (peer_is w device t replied.stream frame.other replied.over named.streams replied.found frame.over);
      opening = record {
        entry = success.entry;
        there = success.there;
        adapter_is = success.adapter_is;
        slot_is = success.slot_is ∙ ap (end_at device) context;
        o_t_is = success.o_t_is ∙ sym (ap (λ (id : ConnId). id.0) by.o_t);
        t_o_is = success.t_o_is ∙ sym (ap (λ (id : ConnId). id.0) by.t_o);
      };
    }

state_named : (w : World) (opened : List Opened) (device : ℕ) (t : ScannerTable) (happens : Event) (number : ℕ) (config : SlotConfig) (state : SlotState) → ScannerIsNamed w opened device t → EventArrives (Waits w opened) w device happens → StateHasItsIds t happens number config state → StateHasEntry w opened device config.target state
state_named w opened device t happens number config Idle named comes is = tt
state_named w opened device t happens number config (Opening o) named comes is = tt
state_named w opened device t happens number config (Established c) named comes is = connection_named w opened device t happens number config c named comes is
state_named w opened device t happens number config (TimedOut link) named comes is = tt
state_named w opened device t happens number config (Closing c) named comes is = tt

pub slots_named : (w : World) (opened : List Opened) (device : ℕ) (t : ScannerTable) (happens : Event) (all : List IndexedSlot) → ScannerIsNamed w opened device t → EventArrives (Waits w opened) w device happens → AllByRecursion (SlotHasItsIds t happens) all → AllByRecursion (SlotHasEntry w opened device) all
slots_named w opened device t happens all named comes are =
    all_more (SlotHasItsIds t happens) (SlotHasEntry w opened device) (λ place is. state_named w opened device t happens place.number place.config place.slot.state named comes is) all are

-- ---- streams

stream_named : (w : World) (opened : List Opened) (device : ℕ) (t : ScannerTable) (happens : Event) (s : TargetStream) → AllByRecursion (IsKnownTo w device) t.streams → EventArrives (Waits w opened) w device happens → StreamCame t happens s → IsKnownTo w device s
stream_named w opened device t happens s known comes (inl was) =
    let k = all_contains (IsKnownTo w device) t.streams was.old known was.there in
    record { other = k.other; over = subst (IsOver w device k.other) (sym was.number) k.over; peer_is = was.peer ∙ k.peer_is }
stream_named w opened device t happens s known comes (inr is) =
    let by : OpeningArrives w device s.number s.peer = subst (EventArrives (Waits w opened) w device) is comes in
    record { other = by.other; over = by.over; peer_is = by.peer_is }

pub streams_named : (w : World) (opened : List Opened) (device : ℕ) (t : ScannerTable) (happens : Event) (streams : List TargetStream) → AllByRecursion (IsKnownTo w device) t.streams → EventArrives (Waits w opened) w device happens → AllByRecursion (StreamCame t happens) streams → AllByRecursion (IsKnownTo w device) streams
streams_named w opened device t happens streams known comes came =
    all_more (StreamCame t happens) (IsKnownTo w device) (λ s by. stream_named w opened device t happens s known comes by) streams came

-- ---- frames

pub no_adapter : (new : World) (device : ℕ) (u : ScannerTable) → slice_get new.tables device ≡ Some (Scanner u) → IsAdapterIn new device → ⊥
no_adapter new device u at is = absurd (let e = sym is.is ∙ at in cc)

-- the frame is no success, and asks for ids of the blocks
abbrev IsRequest : List IdBlock → Frame → Type 0
IsRequest ids frame = IsNoSuccess frame × (FrameAsks ids frame × SendsPlainly frame)

all_two : (ids : List IdBlock) (frames : List Frame) → AllByRecursion IsNoSuccess frames → AllByRecursion (FrameAsks ids) frames → AllByRecursion SendsPlainly frames → AllByRecursion (IsRequest ids) frames
all_two ids [] none asks plain = tt
all_two ids (frame ∷ frames) none asks plain = ((none.0, (asks.0, plain.0)), all_two ids frames none.1 asks.1 plain.1)

frame_from : (new : World) (opened : List Opened) (device : ℕ) (u : ScannerTable) (giver taker : ℕ) (frame : Frame) → slice_get new.tables device ≡ Some (Scanner u) → giver ≡ device → IsNoSuccess frame → FrameAsks u.ids frame → SendsPlainly frame → Waits new opened giver taker frame.bytes
frame_from new opened device u giver taker frame at is none asks plain =
    let there : slice_get new.tables giver ≡ Some (Scanner u) = ap (slice_get new.tables) is ∙ at in
    record {
      sender = record { table = Scanner u; is = there };
      context = none.context;
      successes = successes_more (λ number o. ⊥) (λ number o. IsOpenedWith opened giver (end_at taker number) o.o_t_id.0 o.t_o_id.0) (λ number o never. absurd never) frame.bytes none.successes;
      opens_nothing = λ adapter. absurd (no_adapter new giver u there adapter);
      asks = λ s so. subst (λ (x : ScannerTable). FrameAsks x.ids frame) (table_is u s (sym there ∙ so)) asks;
      plain = plain;
    }

pub frames_named : (w new : World) (opened : List Opened) (device : ℕ) (u : ScannerTable) (frames : List Frame) → slice_get new.tables device ≡ Some (Scanner u) → AllByRecursion IsNoSuccess frames → AllByRecursion (FrameAsks u.ids) frames → AllByRecursion SendsPlainly frames → AllByRecursion (FrameSent (Waits new opened) (map ends_of w.streams) device) frames
frames_named w new opened device u frames at none asks plain =
    all_more (IsRequest u.ids) (FrameSent (Waits new opened) (map ends_of w.streams) device)
    (λ frame is n e to there. record {
      forth = λ from. frame_from new opened device u e.from e.to frame at from is.0 is.1.0 is.1.1;
      back = λ to_is. frame_from new opened device u e.to e.from frame at to_is is.0 is.1.0 is.1.1;
    }) frames (all_two u.ids frames none asks plain)

-- ---- what is produced

-- the entry of the opening of which it is made
abbrev pub MadeHasEntry : List Opened → ℕ → Made → Type 0
MadeHasEntry opened device made = IsOpenedFor opened (end_at device made.number) made.datagram.connection

made_for : (w : World) (opened : List Opened) (device : ℕ) (run : Bool) (place : IndexedSlot) (state : SlotState) → StateHasEntry w opened device place.config.target state → IfSome (state_made run place state) (MadeHasEntry opened device)
made_for w opened device run place Idle is = tt
made_for w opened device run place (Opening o) is = tt
made_for w opened device run place (Established c) is = let by = is.opening in record { entry = by.entry; there = by.there; slot_is = by.slot_is; o_t_is = by.o_t_is }
made_for w opened device run place (TimedOut link) is = tt
made_for w opened device run place (Closing c) is = tt

places_named : (w : World) (opened : List Opened) (device : ℕ) (t : ScannerTable) → AllByRecursion (SlotHasEntry w opened device) (indexed_slots t) → AllByRecursion (MadeHasEntry opened device) (places_made t)
places_named w opened device t all =
    all_made (SlotHasEntry w opened device) (MadeHasEntry opened device) (slot_made t.run) (λ place is. made_for w opened device t.run place place.slot.state is) (due_slots t)
    (all_ordered (SlotHasEntry w opened device) by_due (filter (is_due t.clock) (indexed_slots t)) (all_filtered (SlotHasEntry w opened device) (is_due t.clock) (indexed_slots t) all))

abbrev Anything : ℕ → Type 0
Anything id = Unit {0}

-- before it produces, a tick leaves slots with the ids that they had
advanced_ids : (t : ScannerTable) (ms : ℕ) → AllByRecursion (SlotHasItsIds t (event.Tick ms)) (indexed_slots (advanced (clocked_table t ms)).table)
advanced_ids t ms =
    let now = clocked_table t ms in
    let h = advanced_holds (HasItsIds t (event.Tick ms)) Anything t (advanced now).table.next_id (event.Tick ms) (ids_kept t (advanced now).table.next_id (event.Tick ms)) (λ now config can. tt) now (record { profile = refl; blocks = refl; ids = omega arith; requests = omega arith }) (omega arith) (were_so t (event.Tick ms)) in
    h.slots

pub makes_named : (w : World) (opened : List Opened) (device : ℕ) (t : ScannerTable) (happens : Event) → ScannerIsNamed w opened device t → AllByRecursion (MadeHasEntry opened device) (scanner_makes t happens)
makes_named w opened device t (event.Tick ms) named =
    places_named w opened device (advanced (clocked_table t ms)).table (slots_named w opened device t (event.Tick ms) (indexed_slots (advanced (clocked_table t ms)).table) named tt (advanced_ids t ms))
makes_named w opened device t other named = tt
