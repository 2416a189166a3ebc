-- What an event of an adapter adds to the chronicle's entries, and that the adapter's connections, its streams and its frames
-- have theirs.
use Rattle.std.proofs.Common.{◌≡◌, ◌≢◌, ◌≤◌, ◌<◌, ◌⊎◌, inl, inr, ℕ, ◌+◌, ◌^◌, ◌||◌, Bool, true, false, List, [], ◌∷◌, ◌++◌, find, map, slice_get, Option, Some, None, Result, Ok, Err, refl, sym, ◌∙◌, ap, subst, arith, eqb-true, eq-eqb, ne_eqb}
use Rattle.std.specs.List.{AllByRecursion, Contains, list_any}
use Rattle.std.specs.Int.{w32}
use Rattle.std.proofs.lemmas.List.Elements.{Contains-push}
use Rattle.std.proofs.lemmas.Option.{same_Some}
use Rattle.base_lemmas.specs.Lists.{found_passes}
use Rattle.cip_types.specs.declared.names.ConnId.{ConnId}
use Rattle.cip_encap.specs.declared.message.EncapFault.{EncapFault}
use Rattle.cip_encap.specs.Message.{MessageFields}
use Rattle.cip_encap.specs.AnyItems.{any_packet_reading}
use Rattle.cip_encap.specs.Reading.{message_reading}
use Rattle.cip_events.specs.declared.event.Answer.{Answer}
use Rattle.cip_events.specs.declared.event.Event.{Event}
use Rattle.cip_events.specs.declared.event.Event.TheVariants as event
use Rattle.cip_events.specs.declared.event.Frame.{Frame}
use Rattle.cip_events.specs.declared.event.Recipient.TheVariants as recipient
use Rattle.cip_fwdopen.specs.declared.reply.Opened as made
use Rattle.cip_fwdopen.specs.Open.{OpenFields}
use Rattle.adapter_table.specs.Connections.{Row}
use Rattle.adapter_table.specs.declared.table.AdapterTable.{AdapterTable}
use Rattle.adapter_table.specs.declared.table.Stream as adapter_stream
use Rattle.adapter_table.specs.Checks.{is_multicast}
use Rattle.adapter_table.specs.Newest.{was_opened_as}
use Rattle.cip_types.specs.Ids.{end_number, id_at}
use Rattle.cip_types.specs.declared.ids.IdBlock.{IdBlock}
use Rattle.adapter_table.specs.Productions.{producer_of}
use Rattle.adapter_table.specs.Rows.{Each}
use Rattle.adapter_table.specs.Sound.{IdsAreDrawn, IsDrawn, MulticastIdIsDrawn, MulticastIdsAreDrawn}
use Rattle.adapter_table.specs.Streams.{is_stream}
use Rattle.cip_netparams.specs.Word.{is_message_trigger}
use Rattle.cip_router.specs.Requests.{router_request_reading}
use Rattle.cip_tables.specs.declared.table.DeviceTable.{DeviceTable}
use Rattle.cip_tables.specs.declared.table.DeviceTable.TheVariants.{Adapter, Scanner}
use Rattle.segment_world.specs.World.{World, node_at}
use Rattle.segment_world.specs.Transit.Streams.{Stream}
use Rattle.device_laws.specs.Lemmas.Lists.{all_more}
use Rattle.device_laws.specs.Lemmas.Texts.{same_again}
use Rattle.device_laws.specs.Ids.{RequestIds}
use Rattle.device_laws.specs.OwnIds.{IsDrawnId, AsksOwnId}
use Rattle.device_laws.specs.Frames.{again, OpensNothing, IsNoOpening, ContextFits, IsOpening}
use Rattle.device_laws.specs.Plain.{IsPlainRequest, PlainPacket, PlainMessage, IsPlainFrame, SendsPlainly, ArePlain}
use Rattle.device_laws.specs.Replies.{IsOfRow, IsOfClass3, IsOfNew, IsSuccessOf, IsReplyTo, IsLateReply, IsAnswerTo}
use Rattle.device_laws.specs.RowIds.{WasThere, IsSingle, IsProduced, IsNewOver, IsNewRow, RowCame, WasOpen, StreamCame, Came}
use Rattle.device_laws.specs.Productions.{End, end_at}
use Rattle.schedule_laws.specs.Ids.{any_stream}
use Rattle.schedule_laws.specs.Chronicle.{Opened, opens_row, other_end, requester, opened_for, frame_opens}
use Rattle.schedule_laws.specs.Names.{IsScannerIn, IsOfGroup, IsOwn, IsEntry, HasEntry, IsOpenedWith}
use Rattle.schedule_laws.specs.Streams.{Ends, ends_of, Waiting, IsBetween, IsOver}
use Rattle.device_laws.specs.Lemmas.Books.{is_other, is_the_end}
use Rattle.schedule_laws.specs.Lemmas.Entries.{AdapterStays, own_later, Later, scanner_later, node_later, has_later, over_later, Waits, IsKnown, known_later, AdapterIsNamed, successes_more}
use Rattle.schedule_laws.specs.Lives.{HasNumber}
use Rattle.schedule_laws.specs.Lemmas.Numbers.{id_later, number_later}
use Rattle.schedule_laws.specs.Lemmas.Found.{find_last, found_holds, all_contains, seen_at}
use Rattle.schedule_laws.specs.Lemmas.StreamActs.{SentOver, FrameSent, FrameArrives, OpeningArrives, EventArrives}

-- ---- the other end of a stream

pub other_is : (device other : ℕ) (s : Stream) → IsBetween (ends_of s) device other → s.from ≢ s.to → other_end device s ≡ other
other_is device other s (inl are) apart = rw (eq-eqb s.from device are.first) are.second
other_is device other s (inr are) apart = rw (ne_eqb s.from device (λ e. apart (e ∙ sym are.second))) are.first

-- one stream goes to one other end
other_same : (e : Ends) (device a b : ℕ) → e.from ≢ e.to → IsBetween e device a → IsBetween e device b → a ≡ b
other_same e device a b apart (inl one) (inl two) = sym one.second ∙ two.second
other_same e device a b apart (inl one) (inr two) = absurd (apart (one.first ∙ sym two.second))
other_same e device a b apart (inr one) (inl two) = absurd (apart (two.first ∙ sym one.second))
other_same e device a b apart (inr one) (inr two) = sym one.first ∙ two.first

pub over_same : (w : World) (device a b n m : ℕ) → n ≡ m → IsOver w device a n → IsOver w device b m → a ≡ b
over_same w device a b n m same one two =
    let ends : one.ends ≡ two.ends = same_Some one.ends two.ends (sym one.there ∙ ap (slice_get (map ends_of w.streams)) same ∙ two.there) in
    other_same two.ends device a b two.apart (subst (λ (e : Ends). IsBetween e device a) ends one.between) two.between

-- ---- what an event opens

-- an event opened one connection, for an opening of the device at the stream's other end
pub record OpensOne (w : World) (device : ℕ) (t u : AdapterTable) (n : ℕ) (bytes : List ℕ) (other : ℕ) (more : List Opened) : Type 0 where
  pub row : Row
  pub found : find (was_opened_as t.next_id) u.rows ≡ Some row
  pub message : MessageFields
  pub reads : message_reading bytes ≡ Ok message
  pub entry : Opened
  pub more_is : more ≡ entry ∷ []
  pub row_is : entry.row ≡ end_at device row.opening
  pub slot_is : entry.slot ≡ end_at other message.context
  pub o_t : entry.o_t_id ≡ row.o_t_id
  pub t_o : entry.t_o_id ≡ row.t_o_id
  pub producer : entry.producer ≡ end_at device (producer_of row.state)
  pub request : OpenFields
  pub requested : IsOpening bytes request
  pub produced : IsProduced t u request row

-- or none
pub record OpensNone (t u : AdapterTable) (more : List Opened) : Type 0 where
  pub none : more ≡ []
  pub found : find (was_opened_as t.next_id) u.rows ≡ None

abbrev pub Opens : World → ℕ → AdapterTable → AdapterTable → ℕ → List ℕ → ℕ → List Opened → Type 0
Opens w device t u n bytes other more = OpensNone t u more ⊎ OpensOne w device t u n bytes other more

opening_below : (profile_rows : List Row) (next : ℕ) (row : Row) → AllByRecursion (λ (r : Row). r.opening < next) profile_rows → Contains profile_rows row → row.opening < next
opening_below rows next row all there = all_contains (λ (r : Row). r.opening < next) rows row all there

each_all : (P : Row → Type 0) (rows : List Row) → Each P rows → AllByRecursion P rows
each_all P [] all = tt
each_all P (row ∷ rows) all = (all.0, each_all P rows all.1)

pub drawn_below : (t : AdapterTable) → IdsAreDrawn t.ids t.next_id t.rows → AllByRecursion (λ (r : Row). r.opening < t.next_id) t.rows
drawn_below t drawn = all_more (IsDrawn t.ids t.next_id) (λ (r : Row). r.opening < t.next_id) (λ row is. is.below) t.rows (each_all (IsDrawn t.ids t.next_id) t.rows drawn)

-- what is new was requested in the event's frame
pub requested_by : (t u : AdapterTable) (n : ℕ) (bytes : List ℕ) (row : Row) → IdsAreDrawn t.ids t.next_id t.rows → was_opened_as t.next_id row ≡ true → RowCame t u (event.Frame n bytes) row → IsNewOver t u n bytes row
requested_by t u n bytes row drawn passes (inl was) =
    let below = opening_below t.rows t.next_id was.old (drawn_below t drawn) was.there in
    let same = was.same in
    let is : row.opening ≡ t.next_id = eqb-true row.opening t.next_id passes in
    absurd (omega (arith, below, is, same.opening))
requested_by t u n bytes row drawn passes (inr new) = new

opens_read : (w : World) (device : ℕ) (t u : AdapterTable) (n : ℕ) (bytes : List ℕ) (other : ℕ) (s : Stream) (row : Row) (reading : Result MessageFields EncapFault) → message_reading bytes ≡ reading → other_end device s ≡ other → find (was_opened_as t.next_id) u.rows ≡ Some row → IsNewOver t u n bytes row → OpensOne w device t u n bytes other (opened_for device (Some row) (requester device (Some s) reading))
opens_read w device t u n bytes other s row (Err why) reads is found new =
    let requested = new.requested in
    absurd (let e = sym reads ∙ requested.reads in cc)
opens_read w device t u n bytes other s row (Ok m) reads is found new = record {
  row = row;
  found = found;
  message = m;
  reads = reads;
  entry = record { row = end_at device row.opening; slot = end_at (other_end device s) m.context; o_t_id = row.o_t_id; t_o_id = row.t_o_id; producer = end_at device (producer_of row.state) };
  more_is = refl;
  row_is = refl;
  slot_is = ap (λ (d : ℕ). end_at d m.context) is;
  o_t = refl;
  t_o = refl;
  producer = refl;
  request = new.request;
  requested = new.requested;
  produced = new.produced;
}

opens_found : (w : World) (device : ℕ) (t u : AdapterTable) (n : ℕ) (bytes : List ℕ) (other : ℕ) (s : Stream) (found : Option Row) → find (was_opened_as t.next_id) u.rows ≡ found → other_end device s ≡ other → IdsAreDrawn t.ids t.next_id t.rows → AllByRecursion (RowCame t u (event.Frame n bytes)) u.rows → Opens w device t u n bytes other (opened_for device found (requester device (Some s) (message_reading bytes)))
opens_found w device t u n bytes other s None is end drawn rows = inl (record { none = refl; found = is })
opens_found w device t u n bytes other s (Some row) is end drawn rows =
    let new = requested_by t u n bytes row drawn (found_passes (was_opened_as t.next_id) u.rows row is) (found_holds (RowCame t u (event.Frame n bytes)) (was_opened_as t.next_id) u.rows row rows is) in
    inr (opens_read w device t u n bytes other s row (message_reading bytes) refl end is new)

pub frame_opening : (w : World) (device : ℕ) (t u : AdapterTable) (n : ℕ) (bytes : List ℕ) (other : ℕ) → IsOver w device other n → IdsAreDrawn t.ids t.next_id t.rows → AllByRecursion (RowCame t u (event.Frame n bytes)) u.rows → Opens w device t u n bytes other (frame_opens w device (Adapter t) (event.Frame n bytes) (Adapter u))
frame_opening w device t u n bytes other over drawn rows =
    let seen = seen_at ends_of w.streams n over.ends over.there in
    let s = seen.element in
    let apart : s.from ≢ s.to = λ e. over.apart (sym (ap (λ (x : Ends). x.from) seen.is) ∙ e ∙ ap (λ (x : Ends). x.to) seen.is) in
    let end : other_end device s ≡ other = other_is device other s (subst (λ (e : Ends). IsBetween e device other) (sym seen.is) over.between) apart in
    subst (λ (o : Option Stream). Opens w device t u n bytes other (opened_for device (find (was_opened_as t.next_id) u.rows) (requester device o (message_reading bytes)))) (sym seen.there)
    (opens_found w device t u n bytes other s (find (was_opened_as t.next_id) u.rows) refl end drawn rows)

-- ---- the new entry

-- no entry of the device has a number still to be drawn
old_rows_differ : (w : World) (opened : List Opened) (device : ℕ) (t : AdapterTable) (n : ℕ) (e : Opened) → slice_get w.tables device ≡ Some (Adapter t) → t.next_id ≤ n → IsEntry w opened e → e.row ≢ end_at device n
old_rows_differ w opened device t n e at up is = λ same.
    let one : e.row.device ≡ device = ap (λ (x : End). x.device) same in
    let two : e.row.number ≡ n = ap (λ (x : End). x.number) same in
    let table : is.table ≡ t = adapter_same is.table t (sym is.there ∙ ap (slice_get w.tables) one ∙ at) in
    absurd (let e = ap (λ (x : AdapterTable). x.next_id) table in omega (arith, is.drawn, two, e, up))
  where
    adapter_same : (a b : AdapterTable) → Some (Adapter a) ≡ Some (Adapter b) → a ≡ b
    adapter_same a b e = cc

none_before : (w : World) (opened : List Opened) (device : ℕ) (t : AdapterTable) (n : ℕ) → slice_get w.tables device ≡ Some (Adapter t) → t.next_id ≤ n → AllByRecursion (IsEntry w opened) opened → AllByRecursion (λ (e : Opened). opens_row (end_at device n) e ≡ false) opened
none_before w opened device t n at up all =
    all_more (IsEntry w opened) (λ (e : Opened). opens_row (end_at device n) e ≡ false) (λ e is. is_other (end_at device n) e.row (old_rows_differ w opened device t n e at up is)) opened all

new_found : (w : World) (opened : List Opened) (device : ℕ) (t : AdapterTable) (n : ℕ) (e : Opened) → slice_get w.tables device ≡ Some (Adapter t) → t.next_id ≤ n → AllByRecursion (IsEntry w opened) opened → e.row ≡ end_at device n → find (opens_row (end_at device n)) (opened ++ e ∷ []) ≡ Some e
new_found w opened device t n e at up all is =
    find_last (opens_row (end_at device n)) opened e (none_before w opened device t n at up all) (is_the_end (end_at device n) e.row is)

-- ---- what is known of the step

pub record AdapterStep (w new : World) (opened : List Opened) (device : ℕ) (t u : AdapterTable) : Type 0 where
  pub at : slice_get w.tables device ≡ Some (Adapter t)
  pub after : slice_get new.tables device ≡ Some (Adapter u)
  pub later : Later w new
  pub entries : AllByRecursion (IsEntry w opened) opened
  pub named : AdapterIsNamed w opened device t
  pub drawn : IdsAreDrawn t.ids t.next_id t.rows
  pub left : t.next_id ≤ end_number t.ids
  pub next_drawn : IdsAreDrawn u.ids u.next_id u.rows
  pub next_left : u.next_id ≤ end_number u.ids
  pub fits : AllByRecursion (λ (row : Row). (row.o_t_id.0 < 2 ^ 32) × (row.t_o_id.0 < 2 ^ 32)) u.rows
  pub stays : AdapterStays t u
  pub groups : MulticastIdsAreDrawn t.ids t.next_id t.rows

pub drawn_found : (u : AdapterTable) (p : Row → Bool) (row : Row) → find p u.rows ≡ Some row → IdsAreDrawn u.ids u.next_id u.rows → IsDrawn u.ids u.next_id row
drawn_found u p row found drawn = found_holds (IsDrawn u.ids u.next_id) p u.rows row (each_all (IsDrawn u.ids u.next_id) u.rows drawn) found

-- the bytes are no request and one
never_opens : (bytes : List ℕ) (request : OpenFields) → IsNoOpening bytes → IsOpening bytes request → ⊥
never_opens bytes request none is = subst (RequestIds (λ id. ⊥)) is.opens (subst OpensNothing is.packet_is (none is.message is.reads))

pub requester_is : (w : World) (opened : List Opened) (other device : ℕ) (bytes : List ℕ) (request : OpenFields) (table : DeviceTable) → slice_get w.tables other ≡ Some table → Waits w opened other device bytes → IsOpening bytes request → IsScannerIn w other
requester_is w opened other device bytes request (Adapter x) at waits requested = absurd (never_opens bytes request (waits.opens_nothing (record { table = x; is = at })) requested)
requester_is w opened other device bytes request (Scanner x) at waits requested = record { table = x; is = at }

own_id : (ids : List IdBlock) (request : OpenFields) → is_multicast request.t_o_params.kind ≡ false → AsksOwnId ids request → IsDrawnId ids request.t_o_id.0
own_id ids request single (inl many) = absurd (let e = sym single ∙ many in cc)
own_id ids request single (inr own) = own

-- a point to point connection has the id that the scanner asked for
pub single_own : (w : World) (opened : List Opened) (device : ℕ) (t u : AdapterTable) (n : ℕ) (bytes : List ℕ) (other : ℕ) (more : List Opened) → Waits w opened other device bytes → IsScannerIn w other → (one : OpensOne w device t u n bytes other more) → IsSingle t one.request one.row → IsOwn w one.entry
single_own w opened device t u n bytes other more waits scanner one single =
    let row = one.row in
    let opening : row.opening ≡ t.next_id = eqb-true row.opening t.next_id (found_passes (was_opened_as t.next_id) u.rows row one.found) in
    let at : one.entry.slot.device ≡ other = ap (λ (x : End). x.device) one.slot_is in
    record {
      scanner = record { table = scanner.table; is = ap (slice_get w.tables) at ∙ scanner.is };
      id = subst (λ (x : ConnId). IsDrawnId scanner.table.ids x.0) (sym (one.t_o ∙ single.t_o)) (own_id scanner.table.ids one.request single.single (waits.asks scanner.table scanner.is one.request one.requested));
      producer = one.producer ∙ ap (end_at device) (single.producer ∙ sym opening) ∙ sym one.row_is;
    }

-- where a new entry has its T->O id from
new_t_o : (w new : World) (opened : List Opened) (device : ℕ) (t u : AdapterTable) (n : ℕ) (bytes : List ℕ) (other : ℕ) (more : List Opened) → AdapterStep w new opened device t u → Waits w opened other device bytes → IsScannerIn w other → (one : OpensOne w device t u n bytes other more) → IsProduced t u one.request one.row → IsOfGroup u one.entry ⊎ IsOwn new one.entry
new_t_o w new opened device t u n bytes other more step waits scanner one (inl joins) =
    let stays = step.stays in
    let left = step.left in
    let ids : MulticastIdIsDrawn t.ids t.next_id joins.member = all_contains (MulticastIdIsDrawn t.ids t.next_id) t.rows joins.member (each_all (MulticastIdIsDrawn t.ids t.next_id) t.rows step.groups) joins.there in
    let id = ids joins.established joins.multicast in
    let below = id.1 in
    let was : HasNumber (Adapter t) (producer_of joins.member.state + 1) = record { begins = omega arith; ends = omega (arith, below, left) } in
    let number : one.entry.producer.number ≡ producer_of joins.member.state = ap (λ (x : End). x.number) one.producer ∙ joins.producer in
    inl (record {
      has = subst (λ (k : ℕ). HasNumber (Adapter u) (k + 1)) (sym number) (number_later (Adapter t) (Adapter u) (producer_of joins.member.state + 1) stays.blocks was);
      id = one.t_o ∙ joins.t_o ∙ id.0 ∙ sym (id_later (Adapter t) (Adapter u) (producer_of joins.member.state + 1) stays.blocks was) ∙ ap (λ (k : ℕ). id_at u.ids (k + 1)) (sym number);
      drawn = omega (arith, number, below, stays.ids);
    })
new_t_o w new opened device t u n bytes other more step waits scanner one (inr (inl starts)) =
    let left = step.next_left in
    let below = starts.drawn in
    let number : one.entry.producer.number ≡ t.next_id = ap (λ (x : End). x.number) one.producer ∙ starts.producer in
    let now : HasNumber (Adapter u) (t.next_id + 1) = record { begins = omega arith; ends = omega (arith, below, left) } in
    inl (record {
      has = subst (λ (k : ℕ). HasNumber (Adapter u) (k + 1)) (sym number) now;
      id = one.t_o ∙ starts.t_o ∙ ap (λ (k : ℕ). id_at u.ids (k + 1)) (sym number);
      drawn = omega (arith, number, below);
    })
new_t_o w new opened device t u n bytes other more step waits scanner one (inr (inr single)) =
    inr (own_later w new one.entry step.later (single_own w opened device t u n bytes other more waits scanner one single))

new_entry : (w new : World) (opened : List Opened) (device : ℕ) (t u : AdapterTable) (n : ℕ) (bytes : List ℕ) (other : ℕ) (more : List Opened) → AdapterStep w new opened device t u → Waits w opened other device bytes → (one : OpensOne w device t u n bytes other more) → IsEntry new (opened ++ more) one.entry
new_entry w new opened device t u n bytes other more step waits one =
    let row = one.row in
    let is : row.opening ≡ t.next_id = eqb-true row.opening t.next_id (found_passes (was_opened_as t.next_id) u.rows row one.found) in
    let drawn = drawn_found u (was_opened_as t.next_id) row one.found step.next_drawn in
    let below = drawn.below in
    let left = step.next_left in
    let own : one.entry.row.device ≡ device = ap (λ (x : End). x.device) one.row_is in
    let number : one.entry.row.number ≡ row.opening = ap (λ (x : End). x.number) one.row_is in
    let sender = waits.sender in
    let scanner : IsScannerIn w other = requester_is w opened other device bytes one.request sender.table sender.is waits one.requested in
    record {
      table = u;
      there = ap (slice_get new.tables) own ∙ step.after;
      has = subst (HasNumber (Adapter u)) (sym number) (record { begins = drawn.begins; ends = omega (arith, below, left) });
      drawn = omega (arith, below, number);
      id = one.o_t ∙ drawn.id ∙ ap (id_at u.ids) (sym number);
      scanner = subst (IsScannerIn new) (sym (ap (λ (x : End). x.device) one.slot_is)) (scanner_later w new other step.later scanner);
      first = subst (λ (l : List Opened). find (opens_row one.entry.row) (opened ++ l) ≡ Some one.entry) (sym one.more_is)
          (subst (λ (x : End). find (opens_row x) (opened ++ one.entry ∷ []) ≡ Some one.entry) (sym one.row_is)
          (new_found w opened device t row.opening one.entry step.at (omega (arith, is)) step.entries one.row_is));
      maker = ap (λ (x : End). x.device) one.producer ∙ sym own;
      t_o = new_t_o w new opened device t u n bytes other more step waits scanner one one.produced;
    }

-- ---- connections

row_later : (w new : World) (opened more : List Opened) (device : ℕ) (t u : AdapterTable) (row : Row) → AdapterStep w new opened device t u → WasThere t row → HasEntry new (opened ++ more) device row
row_later w new opened more device t u row step was =
    let named = step.named in
    let old = has_later w new opened more device was.old step.later (all_contains (HasEntry w opened device) t.rows was.old named.rows was.there) in
    let same = was.same in
    record {
      entry = old.entry;
      found = ap (λ (n : ℕ). find (opens_row (end_at device n)) (opened ++ more)) same.opening ∙ old.found;
      o_t = old.o_t ∙ sym same.o_t;
      t_o = old.t_o ∙ sym same.t_o;
      peer = same.peer ∙ old.peer;
      producer = λ is. old.producer (same.established is) ∙ ap (end_at device) (sym (same.producer is));
    }

-- the stream of the request goes to the other end, whose node is the connection's peer
peer_is : (w : World) (device : ℕ) (t : AdapterTable) (n other : ℕ) (stream : adapter_stream.Stream) → AllByRecursion (IsKnown w device) t.streams → find (is_stream n) t.streams ≡ Some stream → IsOver w device other n → stream.peer ≡ node_at w other
peer_is w device t n other stream known found over =
    let k = found_holds (IsKnown w device) (is_stream n) t.streams stream known found in
    let number : stream.number ≡ n = eqb-true stream.number n (found_passes (is_stream n) t.streams stream found) in
    k.peer_is ∙ ap (node_at w) (over_same w device k.other other stream.number n number k.over over)

new_has : (w new : World) (opened : List Opened) (device : ℕ) (t u : AdapterTable) (n : ℕ) (bytes : List ℕ) (other : ℕ) (more : List Opened) (row : Row) → AdapterStep w new opened device t u → IsOver w device other n → OpensOne w device t u n bytes other more → IsNewOver t u n bytes row → HasEntry new (opened ++ more) device row
new_has w new opened device t u n bytes other more row step over one by =
    let new_of = by.new in
    let named = step.named in
    let same : one.row ≡ row = same_Some one.row row (sym one.found ∙ new_of.new) in
    let is : one.row.opening ≡ t.next_id = eqb-true one.row.opening t.next_id (found_passes (was_opened_as t.next_id) u.rows one.row one.found) in
    let peer : row.peer ≡ node_at w other = new_of.peer_is ∙ peer_is w device t n other by.stream named.streams by.found over in
    subst (HasEntry new (opened ++ more) device) same (record {
      entry = one.entry;
      found = subst (λ (l : List Opened). find (opens_row (end_at device one.row.opening)) (opened ++ l) ≡ Some one.entry) (sym one.more_is) (new_found w opened device t one.row.opening one.entry step.at (omega (arith, is)) step.entries one.row_is);
      o_t = one.o_t;
      t_o = one.t_o;
      peer = ap (λ (r : Row). r.peer) same ∙ peer ∙ ap (node_at w) (sym (ap (λ (x : End). x.device) one.slot_is)) ∙ sym (node_later w new one.entry.slot.device step.later);
      producer = λ established. one.producer;
    })

row_named : (w new : World) (opened : List Opened) (device : ℕ) (t u : AdapterTable) (n : ℕ) (bytes : List ℕ) (other : ℕ) (more : List Opened) (row : Row) → AdapterStep w new opened device t u → IsOver w device other n → Opens w device t u n bytes other more → RowCame t u (event.Frame n bytes) row → HasEntry new (opened ++ more) device row
row_named w new opened device t u n bytes other more row step over opens (inl was) = row_later w new opened more device t u row step was
row_named w new opened device t u n bytes other more row step over (inl none) (inr by) =
    let new_of = by.new in
    absurd (let e = sym none.found ∙ new_of.new in cc)
row_named w new opened device t u n bytes other more row step over (inr one) (inr by) = new_has w new opened device t u n bytes other more row step over one by

-- ---- streams

stream_was : (w new : World) (device : ℕ) (t : AdapterTable) (s : adapter_stream.Stream) → Later w new → AllByRecursion (IsKnown w device) t.streams → WasOpen t s → IsKnown new device s
stream_was w new device t s later known was =
    let k = known_later w new device was.old later (all_contains (IsKnown w device) t.streams was.old known was.there) in
    record { other = k.other; over = subst (IsOver new device k.other) (sym was.number) k.over; peer_is = was.peer ∙ k.peer_is }

opened_stream : (Q : Waiting) (w new : World) (device : ℕ) (happens : Event) (s : adapter_stream.Stream) → Later w new → EventArrives Q w device happens → happens ≡ event.StreamOpened s.number s.peer → IsKnown new device s
opened_stream Q w new device happens s later comes is =
    let by : OpeningArrives w device s.number s.peer = subst (EventArrives Q w device) is comes in
    record { other = by.other; over = over_later w new device by.other s.number later by.over; peer_is = by.peer_is ∙ sym (node_later w new by.other later) }

stream_named : (Q : Waiting) (w new : World) (device : ℕ) (t : AdapterTable) (happens : Event) (s : adapter_stream.Stream) → Later w new → AllByRecursion (IsKnown w device) t.streams → EventArrives Q w device happens → StreamCame t happens s → IsKnown new device s
stream_named Q w new device t happens s later known comes (inl was) = stream_was w new device t s later known was
stream_named Q w new device t happens s later known comes (inr is) = opened_stream Q w new device happens s later comes is

-- ---- frames

-- a plain frame opens no class 3 connection
no_class3 : {X : Type 0} (t u : AdapterTable) (bytes : List ℕ) (m : MessageFields) (o : made.Opened) → IsPlainFrame bytes → message_reading bytes ≡ Ok m → IsOfClass3 t u m.payload o → X
no_class3 t u bytes m o plain reads is =
    let message : PlainPacket (any_packet_reading m.payload) = subst PlainMessage reads plain in
    let packet : IsPlainRequest (router_request_reading is.packet.payload) = subst PlainPacket is.packet_is message in
    let class_1 : is_message_trigger is.request.trigger ≡ false = subst IsPlainRequest is.opens packet in
    absurd (let e : false ≡ true = sym class_1 ∙ is.trigger in cc)

row_success : (w new : World) (opened : List Opened) (device : ℕ) (t u : AdapterTable) (n : ℕ) (bytes : List ℕ) (other : ℕ) (more : List Opened) (number : ℕ) (o : made.Opened) → AdapterStep w new opened device t u → ContextFits bytes → Opens w device t u n bytes other more → IsSuccessOf t u bytes number o → IsOfRow t u o → IsOpenedWith (opened ++ more) device (end_at other number) o.o_t_id.0 o.t_o_id.0
row_success w new opened device t u n bytes other more number o step fits (inl none) is of = absurd (let e = sym none.found ∙ of.new in cc)
row_success w new opened device t u n bytes other more number o step fits (inr one) is of =
    let same : one.row ≡ of.row = same_Some one.row of.row (sym one.found ∙ of.new) in
    let read : one.message ≡ is.message = ok_message one.message is.message (sym one.reads ∙ is.reads) in
    let narrow = found_holds (λ (row : Row). (row.o_t_id.0 < 2 ^ 32) × (row.t_o_id.0 < 2 ^ 32)) (was_opened_as t.next_id) u.rows one.row step.fits one.found in
    let context : one.message.context ≡ number = ap (λ (m : MessageFields). m.context) read ∙ sym (fits is.message is.reads) ∙ sym is.context_is in
    record {
      entry = one.entry;
      there = subst (λ (l : List Opened). Contains (opened ++ l) one.entry) (sym one.more_is) (Contains-push opened one.entry);
      adapter_is = ap (λ (x : End). x.device) one.row_is;
      slot_is = one.slot_is ∙ ap (end_at other) context;
      o_t_is = ap (λ (id : ConnId). id.0) one.o_t ∙ sym (same_again one.row.o_t_id.0 narrow.0) ∙ ap (λ (r : Row). again w32 r.o_t_id.0) same ∙ sym of.o_t;
      t_o_is = ap (λ (id : ConnId). id.0) one.t_o ∙ sym (same_again one.row.t_o_id.0 narrow.1) ∙ ap (λ (r : Row). again w32 r.t_o_id.0) same ∙ sym of.t_o;
    }
  where
    ok_message : (a b : MessageFields) → ◌≡◌ {A = Result MessageFields EncapFault} (Ok a) (Ok b) → a ≡ b
    ok_message a b e = cc

success_by : (w new : World) (opened : List Opened) (device : ℕ) (t u : AdapterTable) (n : ℕ) (bytes : List ℕ) (other : ℕ) (more : List Opened) (number : ℕ) (o : made.Opened) → AdapterStep w new opened device t u → ContextFits bytes → IsPlainFrame bytes → Opens w device t u n bytes other more → (is : IsSuccessOf t u bytes number o) → IsOfNew t u is.message.payload o → IsOpenedWith (opened ++ more) device (end_at other number) o.o_t_id.0 o.t_o_id.0
success_by w new opened device t u n bytes other more number o step fits plain opens is (inl row) = row_success w new opened device t u n bytes other more number o step fits opens is row
success_by w new opened device t u n bytes other more number o step fits plain opens is (inr class3) = no_class3 t u bytes is.message o plain is.reads class3

success_named : (w new : World) (opened : List Opened) (device : ℕ) (t u : AdapterTable) (n : ℕ) (bytes : List ℕ) (other : ℕ) (more : List Opened) (number : ℕ) (o : made.Opened) → AdapterStep w new opened device t u → ContextFits bytes → IsPlainFrame bytes → Opens w device t u n bytes other more → IsSuccessOf t u bytes number o → IsOpenedWith (opened ++ more) device (end_at other number) o.o_t_id.0 o.t_o_id.0
success_named w new opened device t u n bytes other more number o step fits plain opens is = success_by w new opened device t u n bytes other more number o step fits plain opens is is.new

stream_number : (a b : ℕ) → recipient.Stream a ≡ recipient.Stream b → a ≡ b
stream_number a b e = cc

sent_between : (Q : Waiting) (device other : ℕ) (e : Ends) (bytes : List ℕ) → e.from ≢ e.to → IsBetween e device other → Q device other bytes → SentOver Q device e bytes
sent_between Q device other e bytes apart (inl are) holds = record {
  forth = λ from. subst (λ (a : ℕ). Q a e.to bytes) (sym are.first) (subst (λ (b : ℕ). Q device b bytes) (sym are.second) holds);
  back = λ to. absurd (apart (are.first ∙ sym to));
}
sent_between Q device other e bytes apart (inr are) holds = record {
  forth = λ from. absurd (apart (from ∙ sym are.second));
  back = λ to. subst (λ (a : ℕ). Q a e.from bytes) (sym are.second) (subst (λ (b : ℕ). Q device b bytes) (sym are.first) holds);
}

reply_named : (w new : World) (opened : List Opened) (device : ℕ) (t u : AdapterTable) (n : ℕ) (bytes : List ℕ) (other : ℕ) (more : List Opened) (frame : Frame) → AdapterStep w new opened device t u → IsOver w device other n → ContextFits bytes → IsPlainFrame bytes → Opens w device t u n bytes other more → IsReplyTo t u n bytes frame × SendsPlainly frame → FrameSent (Waits new (opened ++ more)) (map ends_of w.streams) device frame
reply_named w new opened device t u n bytes other more frame step over fits plain opens both k e to at =
    let reply = both.0 in
    let number : n ≡ k = stream_number n k (sym reply.to ∙ to) in
    let ends : over.ends ≡ e = same_Some over.ends e (sym over.there ∙ ap (slice_get (map ends_of w.streams)) number ∙ at) in
    sent_between (Waits new (opened ++ more)) device other e frame.bytes
    (subst (λ (x : Ends). x.from ≢ x.to) ends over.apart) (subst (λ (x : Ends). IsBetween x device other) ends over.between)
    (record {
      sender = record { table = Adapter u; is = step.after };
      context = reply.context;
      successes = successes_more (IsSuccessOf t u bytes) (λ number o. IsOpenedWith (opened ++ more) device (end_at other number) o.o_t_id.0 o.t_o_id.0)
          (λ number o is. success_named w new opened device t u n bytes other more number o step fits plain opens is) frame.bytes reply.successes;
      opens_nothing = λ adapter. reply.opens_nothing;
      asks = λ scanner there. absurd (let e = sym step.after ∙ there in cc);
      plain = both.1;
    })

-- the stream of a number is known
known_step : (w : World) (device number : ℕ) (b : Bool) (s : adapter_stream.Stream) (rest : Bool) → is_stream number s ≡ b → (b || rest) ≡ true → IsKnown w device s → (rest ≡ true → (other : ℕ) × IsOver w device other number) → (other : ℕ) × IsOver w device other number
known_step w device number true s rest is any known more = (known.other, subst (IsOver w device known.other) (eqb-true s.number number is) known.over)
known_step w device number false s rest is any known more = more any

known_over : (w : World) (device number : ℕ) (streams : List adapter_stream.Stream) → list_any (is_stream number) streams ≡ true → AllByRecursion (IsKnown w device) streams → (other : ℕ) × IsOver w device other number
known_over w device number [] any known = absurd (let e : false ≡ true = any in cc)
known_over w device number (s ∷ streams) any known =
    known_step w device number (is_stream number s) s (list_any (is_stream number) streams) refl any known.0 (λ later. known_over w device number streams later known.1)

-- a reply to a request that waited has no success, since no such request has the service of an opening
late_named : (w new : World) (opened more : List Opened) (device : ℕ) (t u : AdapterTable) (frame : Frame) → AdapterStep w new opened device t u → ArePlain any_stream t.messaging → IsLateReply t frame → SendsPlainly frame → FrameSent (Waits new (opened ++ more)) (map ends_of w.streams) device frame
late_named w new opened more device t u frame step referred (inl is) plain k e to at = absurd (let x = sym is.to ∙ to in cc)
late_named w new opened more device t u frame step referred (inr is) plain k e to at =
    let named = step.named in
    let number : is.number ≡ k = stream_number is.number k (sym is.to ∙ to) in
    let known = known_over w device is.number t.streams is.over named.streams in
    let other = known.0 in
    let over = known.1 in
    let ends : over.ends ≡ e = same_Some over.ends e (sym over.there ∙ ap (slice_get (map ends_of w.streams)) number ∙ at) in
    sent_between (Waits new (opened ++ more)) device other e frame.bytes
    (subst (λ (x : Ends). x.from ≢ x.to) ends over.apart) (subst (λ (x : Ends). IsBetween x device other) ends over.between)
    (record {
      sender = record { table = Adapter u; is = step.after };
      context = is.context;
      successes = successes_more (λ c o. ⊥) (λ c o. IsOpenedWith (opened ++ more) device (end_at other c) o.o_t_id.0 o.t_o_id.0) (λ c o never. absurd never) frame.bytes (is.successes any_stream referred.services refl);
      opens_nothing = λ adapter. is.opens_nothing;
      asks = λ scanner there. absurd (let x = sym step.after ∙ there in cc);
      plain = plain;
    })

all_pairs : (P R : Frame → Type 0) (xs : List Frame) → AllByRecursion P xs → AllByRecursion R xs → AllByRecursion (λ x. P x × R x) xs
all_pairs P R [] first second = tt
all_pairs P R (x ∷ xs) first second = ((first.0, second.0), all_pairs P R xs first.1 second.1)

-- ---- an event

-- what an event of a device leaves: entries, the device's table, and frames that are sent
pub record LeavesNamed (w new : World) (opened more : List Opened) (device : ℕ) (u : AdapterTable) (answer : Answer) : Type 0 where
  pub entries : AllByRecursion (IsEntry new (opened ++ more)) more
  pub table : AdapterIsNamed new (opened ++ more) device u
  pub frames : AllByRecursion (FrameSent (Waits new (opened ++ more)) (map ends_of w.streams) device) answer.frames

frame_named : (w new : World) (opened : List Opened) (device : ℕ) (t u : AdapterTable) (n : ℕ) (bytes : List ℕ) (answer : Answer) → AdapterStep w new opened device t u → FrameArrives (Waits w opened) w device n bytes → Came t u (event.Frame n bytes) → AllByRecursion (IsReplyTo t u n bytes) answer.frames → AllByRecursion SendsPlainly answer.frames → LeavesNamed w new opened (frame_opens w device (Adapter t) (event.Frame n bytes) (Adapter u)) device u answer
frame_named w new opened device t u n bytes answer step comes came replies plain =
    let other = comes.other in
    let more = frame_opens w device (Adapter t) (event.Frame n bytes) (Adapter u) in
    let opens = frame_opening w device t u n bytes comes.other comes.over step.drawn came.rows in
    let waits = comes.holds in
    let named = step.named in
    record {
      entries = entries_of more opens;
      table = record {
        rows = all_more (RowCame t u (event.Frame n bytes)) (HasEntry new (opened ++ more) device) (λ row by. row_named w new opened device t u n bytes other more row step comes.over opens by) u.rows came.rows;
        streams = all_more (StreamCame t (event.Frame n bytes)) (IsKnown new device) (λ s by. stream_named (Waits w opened) w new device t (event.Frame n bytes) s step.later named.streams comes by) u.streams came.streams;
      };
      frames = all_more (λ frame. IsReplyTo t u n bytes frame × SendsPlainly frame) (FrameSent (Waits new (opened ++ more)) (map ends_of w.streams) device)
          (λ frame reply. reply_named w new opened device t u n bytes other more frame step comes.over waits.context waits.plain opens reply) answer.frames (all_pairs (IsReplyTo t u n bytes) SendsPlainly answer.frames replies plain);
    }
  where
    entries_of : (more : List Opened) → Opens w device t u n bytes comes.other more → AllByRecursion (IsEntry new (opened ++ more)) more
    entries_of more (inl none) = subst (AllByRecursion (IsEntry new (opened ++ more))) (sym none.none) tt
    entries_of more (inr one) = subst (AllByRecursion (IsEntry new (opened ++ more))) (sym one.more_is) (new_entry w new opened device t u n bytes comes.other more step comes.holds one, tt)

-- no frame came, and nothing is opened
quiet_named : (w new : World) (opened : List Opened) (device : ℕ) (t u : AdapterTable) (happens : Event) (answer : Answer) → AdapterStep w new opened device t u → EventArrives (Waits w opened) w device happens → Came t u happens → ((row : Row) → IsNewRow t u happens row → ⊥) → ((frame : Frame) → IsAnswerTo t u happens frame → SendsPlainly frame → FrameSent (Waits new (opened ++ [])) (map ends_of w.streams) device frame) → AllByRecursion (IsAnswerTo t u happens) answer.frames → AllByRecursion SendsPlainly answer.frames → LeavesNamed w new opened [] device u answer
quiet_named w new opened device t u happens answer step comes came none sends frames plain =
    let named = step.named in
    record {
      entries = tt;
      table = record {
        rows = all_more (RowCame t u happens) (HasEntry new (opened ++ []) device) rows u.rows came.rows;
        streams = all_more (StreamCame t happens) (IsKnown new device) (λ s by. stream_named (Waits w opened) w new device t happens s step.later named.streams comes by) u.streams came.streams;
      };
      frames = all_more (λ frame. IsAnswerTo t u happens frame × SendsPlainly frame) (FrameSent (Waits new (opened ++ [])) (map ends_of w.streams) device) (λ frame is. sends frame is.0 is.1) answer.frames (all_pairs (IsAnswerTo t u happens) SendsPlainly answer.frames frames plain);
    }
  where
    rows : (row : Row) → RowCame t u happens row → HasEntry new (opened ++ []) device row
    rows row (inl was) = row_later w new opened [] device t u row step was
    rows row (inr by) = absurd (none row by)

pub adapter_named : (w new : World) (opened : List Opened) (device : ℕ) (t u : AdapterTable) (happens : Event) (answer : Answer) → AdapterStep w new opened device t u → EventArrives (Waits w opened) w device happens → ArePlain any_stream t.messaging → Came t u happens → AllByRecursion (IsAnswerTo t u happens) answer.frames → AllByRecursion SendsPlainly answer.frames → LeavesNamed w new opened (frame_opens w device (Adapter t) happens (Adapter u)) device u answer
adapter_named w new opened device t u (event.Request peer bytes) answer step comes referred came frames plain = absurd comes
adapter_named w new opened device t u (event.Frame n bytes) answer step comes referred came frames plain = frame_named w new opened device t u n bytes answer step comes came frames plain
adapter_named w new opened device t u (event.Inquiry peer bytes) answer step comes referred came frames plain =
    quiet_named w new opened device t u (event.Inquiry peer bytes) answer step comes came (λ row none. none) (λ frame is sends n e to at. absurd (let x = sym is.to ∙ to in cc)) frames plain
adapter_named w new opened device t u (event.Respond number status bytes) answer step comes referred came frames plain =
    quiet_named w new opened device t u (event.Respond number status bytes) answer step comes came (λ row none. none) (λ frame is sends. late_named w new opened [] device t u frame step referred is sends) frames plain
adapter_named w new opened device t u (event.Tick ms) answer step comes referred came frames plain =
    quiet_named w new opened device t u (event.Tick ms) answer step comes came (λ row none. none) (λ frame is sends. late_named w new opened [] device t u frame step referred is sends) frames plain
adapter_named w new opened device t u other answer step comes referred came frames plain =
    quiet_named w new opened device t u other answer step comes came (λ row none. none) (λ frame none sends n e to at. absurd none) frames plain
