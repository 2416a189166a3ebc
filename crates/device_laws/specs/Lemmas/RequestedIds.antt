-- The T->O id for which a text asks that a scanner wrote; and how often one answer asks for an id.
use Rattle.std.proofs.Common.{◌≡◌, inl, inr, ◌≢◌, ◌≤◌, ◌<◌, ℕ, ◌+◌, ◌^◌, ◌==◌, ◌||◌, nat_lt, Bool, true, false, cond, List, [], ◌∷◌, ◌++◌, length, map, Some, None, Result, Ok, Err, IfOk, refl, sym, ◌∙◌, ap, subst, arith, eqb-true}
use Rattle.std.specs.Prelude.{min}
use Rattle.std.specs.List.{AllByRecursion, count_by}
use Rattle.std.proofs.lemmas.Bool.{and_parts}
use Rattle.std.proofs.lemmas.Bool.Decides.{nat_tests}
use Rattle.base_lemmas.specs.Lists.{count_cons, count_both}
use Rattle.cip_types.specs.declared.names.Node.{Node}
use Rattle.cip_encap.specs.declared.message.EncapFault.{EncapFault}
use Rattle.cip_encap.specs.declared.packet.ItemFault.{ItemFault}
use Rattle.cip_encap.specs.Message.{MessageFields, message_text}
use Rattle.cip_encap.specs.Packet.{PacketFields}
use Rattle.cip_encap.specs.AnyItems.{any_packet_reading}
use Rattle.cip_encap.specs.Reading.{message_reading}
use Rattle.cip_encap.specs.ReadsBack.{ItemsReadBack}
use Rattle.cip_events.specs.declared.event.Event.{Event}
use Rattle.cip_events.specs.declared.event.Event.TheVariants as event
use Rattle.cip_events.specs.declared.event.Frame.{Frame}
use Rattle.cip_events.specs.declared.event.StepFault.{StepFault}
use Rattle.cip_events.specs.declared.event.StepFault.TheVariants as fault
use Rattle.cip_fwdopen.specs.Open.{open_text}
use Rattle.cip_fwdopen.specs.Close.{close_text}
use Rattle.cip_router.specs.Requests.{RouterRequestFields, nothing, refused, object, router_request_reading}
use Rattle.cip_router.specs.Requests as router
use Rattle.cip_types.specs.declared.names.Triad.{Triad}
use Rattle.conn_state.specs.declared.names.Link.{Link}
use Rattle.scanner_table.specs.declared.profile.SlotConfig.{SlotConfig}
use Rattle.scanner_table.specs.declared.table.ScannerTable.{ScannerTable}
use Rattle.scanner_table.specs.declared.table.Session.{Session}
use Rattle.cip_fwdopen.specs.Services.{open_service}
use Rattle.cip_types.specs.IdLaws.{ids_fit}
use Rattle.cip_types.specs.Ids.{are_blocks, end_number, id_at}
use Rattle.cip_types.specs.declared.ids.IdBlock.{IdBlock}
use Rattle.scanner_table.specs.Requests.{Request, registering, opening, closing, requesting, Sent, manager_text, sent_message, sent_frame, id_or_zero}
use Rattle.scanner_table.specs.Replies.{disowned}
use Rattle.scanner_table.specs.Effects.{Next, Effect, after, done}
use Rattle.scanner_table.specs.declared.table.TargetStream.{TargetStream}
use Rattle.scanner_table.specs.Encapsulation.{registering_on, registering_again, stream_opened}
use Rattle.scanner_table.specs.Explicit.{explicit_sent}
use Rattle.scanner_table.specs.Opening.{can_open, close_requested, has_id, has_request, open_requested}
use Rattle.scanner_table.specs.Sessions.{is_taken}
use Rattle.scanner_table.specs.Slots.{IndexedSlot}
use Rattle.scanner_table.specs.Step.{scanner_step}
use Rattle.cip_tables.specs.declared.table.DeviceTable.TheVariants.{Scanner}
use Rattle.cip_tables.specs.Step.{as_scanner, step}
use Rattle.answer_sizes.specs.Sizes.{IsShortFrame, IsSmall, AnswersAreSmall}
use Rattle.device_laws.specs.Ids.{RequestIds, PacketIds, MessageIds, FrameIds}
use Rattle.device_laws.specs.Lemmas.Lists.{all_both}
use Rattle.device_laws.specs.Lemmas.Numbered.{between_more, numbered_between}
use Rattle.device_laws.specs.Lemmas.AdapterIds.{plain_protocol, few_bytes}
use Rattle.device_laws.specs.Lemmas.ExplicitRequests.{IsExplicit, explicit_ids, explicit_some}
use Rattle.device_laws.specs.Lemmas.Payloads.{request_ids, close_request_ids}
use Rattle.device_laws.specs.Lemmas.Texts.{either, message_ids, packet_ids, same_again}
use Rattle.device_laws.specs.Frames.{OpensNothing, IsNoOpening}
use Rattle.device_laws.specs.Lemmas.ScannerEffects.{silent, EffectsDo, IsOfEffect, NextDoes, OkDoes, event_does}
use Rattle.device_laws.specs.Requests.{request_asks, packet_asks, message_asks, asks_id, frame_asks, is_between, ScannersAskOnce}

-- ---- what a text asks for

no_way : {X : Type 0} → false ≡ true → X
no_way is = absurd (let e = is in cc)

request_has : (P : ℕ → Type 0) (id : ℕ) (requested : RouterRequestFields) → RequestIds P requested → request_asks id requested ≡ true → P id
request_has P id nothing ids asks = no_way asks
request_has P id (refused service why) ids asks = no_way asks
request_has P id (router.closing request) ids asks = no_way asks
request_has P id (object service class instance attribute body) ids asks = no_way asks
request_has P id (router.opening large request) ids asks = subst P (eqb-true request.t_o_id.0 id asks) ids

packet_has : (P : ℕ → Type 0) (id : ℕ) (reading : Result PacketFields ItemFault) → PacketIds P reading → packet_asks id reading ≡ true → P id
packet_has P id (Err why) ids asks = no_way asks
packet_has P id (Ok packet) ids asks = request_has P id (router_request_reading packet.payload) ids.requested asks

message_has : (P : ℕ → Type 0) (id : ℕ) (reading : Result MessageFields EncapFault) → MessageIds P reading → message_asks id reading ≡ true → P id
message_has P id (Err why) ids asks = no_way asks
message_has P id (Ok m) ids asks = packet_has P id (any_packet_reading m.payload) ids asks

-- the id for which the bytes ask is one of theirs
frame_has : (P : ℕ → Type 0) (id : ℕ) (bytes : List ℕ) → FrameIds P bytes → asks_id id bytes ≡ true → P id
unfolding asks_id
frame_has P id bytes ids asks = message_has P id (message_reading bytes) ids asks

nothing_packet : (id : ℕ) (reading : Result PacketFields ItemFault) → OpensNothing reading → packet_asks id reading ≡ true → ⊥
nothing_packet id (Err why) none asks = no_way asks
nothing_packet id (Ok packet) none asks = request_has (λ id. ⊥) id (router_request_reading packet.payload) none asks

nothing_message : (id : ℕ) (reading : Result MessageFields EncapFault) → ((m : MessageFields) → reading ≡ Ok m → OpensNothing (any_packet_reading m.payload)) → message_asks id reading ≡ true → ⊥
nothing_message id (Err why) none asks = no_way asks
nothing_message id (Ok m) none asks = nothing_packet id (any_packet_reading m.payload) (none m refl) asks

-- a frame that is no request to open asks for no id
pub none_requested : (id : ℕ) (bytes : List ℕ) → IsNoOpening bytes → asks_id id bytes ≡ true → ⊥
unfolding asks_id
none_requested id bytes none asks = nothing_message id (message_reading bytes) none asks

-- ---- a request of a scanner

-- the request asks for the id, as it is read
abbrev asks_for : ℕ → Request → Bool
asks_for id registering = false
asks_for id (opening large fields) = fields.t_o_id.0 == id
asks_for id (closing fields) = false
asks_for id (requesting bytes) = false

abbrev sent_asks : ℕ → Sent → Bool
sent_asks id sent = asks_for id sent.request

-- the id that a request has fits its field; an explicit request has none
abbrev RequestFits : Request → Type 0
RequestFits registering = Unit {0}
RequestFits (opening large fields) = fields.t_o_id.0 < 2 ^ 32
RequestFits (closing fields) = Unit {0}
RequestFits (requesting bytes) = IsExplicit bytes

abbrev SentFits : Sent → Type 0
SentFits sent = RequestFits sent.request

id_requested : ItemsReadBack → (sent : Sent) (request : Request) (id : ℕ) → sent.request ≡ request → RequestFits request → length (message_text (sent_message sent)) ≤ 2048 → asks_id id (message_text (sent_message sent)) ≡ true → asks_for id request ≡ true
id_requested back sent registering id is fits short asks =
    absurd (frame_has (λ id. ⊥) id (message_text (sent_message sent)) (message_ids (λ id. ⊥) (sent_message sent) (rw is (subst (PacketIds (λ id. ⊥)) (sym plain_protocol) tt))) asks)
id_requested back sent (opening large fields) id is fits short asks =
    let P : ℕ → Type 0 = λ n. n ≡ fields.t_o_id.0 in
    let body = manager_text (open_service large) (open_text large fields) in
    let so : id ≡ fields.t_o_id.0 = frame_has P id (message_text (sent_message sent)) (message_ids P (sent_message sent) (rw is
    (packet_ids back P body None (omega arith) (few_bytes (sent_message sent) body None (rw is refl) short) (request_ids P large fields (same_again fields.t_o_id.0 fits))))) asks in
    grind (arith, nat_tests)
id_requested back sent (closing fields) id is fits short asks =
    let body = manager_text 0x4E (close_text fields) in
    absurd (frame_has (λ id. ⊥) id (message_text (sent_message sent)) (message_ids (λ id. ⊥) (sent_message sent) (rw is
    (packet_ids back (λ id. ⊥) body None (omega arith) (few_bytes (sent_message sent) body None (rw is refl) short) (close_request_ids (λ id. ⊥) (close_text fields))))) asks)
id_requested back sent (requesting bytes) id is explicit short asks =
    absurd (frame_has (λ id. ⊥) id (message_text (sent_message sent)) (message_ids (λ id. ⊥) (sent_message sent) (rw is
    (packet_ids back (λ id. ⊥) bytes None (explicit_some bytes explicit) (few_bytes (sent_message sent) bytes None (rw is refl) short) (explicit_ids (λ id. ⊥) bytes explicit)))) asks)

-- ---- counts

pub one_at_most : (a b : Bool) → (a ≡ true → b ≡ true) → cond a 1 0 ≤ cond b 1 0
one_at_most false b on = omega arith
one_at_most true b on = let is = on refl in rw is (omega arith)

frames_count : ItemsReadBack → (id : ℕ) (requests : List Sent) → AllByRecursion SentFits requests → AllByRecursion IsShortFrame (map sent_frame requests) → count_by (frame_asks id) (map sent_frame requests) ≤ count_by (sent_asks id) requests
frames_count back id [] fits short = omega arith
frames_count back id (sent ∷ requests) fits short =
    let one = one_at_most (frame_asks id (sent_frame sent)) (sent_asks id sent) (id_requested back sent sent.request id refl fits.0 short.0) in
    let rest = frames_count back id requests fits.1 short.1 in
    let a = count_cons (frame_asks id) (sent_frame sent) (map sent_frame requests) in
    let b = count_cons (sent_asks id) sent requests in
    omega (arith, one, rest, a, b)

-- ---- effects

-- the requests ask at most once for an id that was allocated between two numbers, and for no other
record AreRequested (id : ℕ) (ids : List IdBlock) (from to : ℕ) (sent : List Sent) : Type 0 where
  fits : AllByRecursion SentFits sent
  count : count_by (sent_asks id) sent ≤ cond (is_between ids from to id) 1 0

-- the table's ids are blocks, and its next number is one of theirs, or the one behind them
record IsNext (t : ScannerTable) : Type 0 where
  blocks : are_blocks t.ids ≡ true
  begins : 1 ≤ t.next_id
  ends : t.next_id ≤ end_number t.ids

record Asks (id : ℕ) (t : ScannerTable) (effect : Effect) : Type 0 where
  blocks : effect.table.ids ≡ t.ids
  ids : t.next_id ≤ effect.table.next_id
  left : t.next_id ≤ end_number t.ids → effect.table.next_id ≤ end_number t.ids
  requested : IsNext t → AreRequested id t.ids t.next_id effect.table.next_id effect.sent

nothing_requested : (id : ℕ) (ids : List IdBlock) (from to : ℕ) → AreRequested id ids from to []
nothing_requested id ids from to = record { fits = tt; count = omega arith }

all_fit : (first next : List Sent) → AllByRecursion SentFits first → AllByRecursion SentFits next → AllByRecursion SentFits (first ++ next)
all_fit first next one other = all_both SentFits first next one other

-- the table behind an effect goes on with the same blocks
next_left : (id : ℕ) (t : ScannerTable) (effect : Effect) → Asks id t effect → IsNext t → IsNext effect.table
next_left id t effect asks next =
    let begins = next.begins in
    let ids = asks.ids in
    record {
      blocks = ap are_blocks asks.blocks ∙ next.blocks;
      begins = omega (arith, begins, ids);
      ends = subst (λ (l : List IdBlock). effect.table.next_id ≤ end_number l) (sym asks.blocks) (asks.left next.ends);
    }

then_left : (id : ℕ) (t : ScannerTable) (first next : Effect) → Asks id t first → Asks id first.table next → t.next_id ≤ end_number t.ids → next.table.next_id ≤ end_number t.ids
then_left id t first next one other ends =
    subst (λ (l : List IdBlock). next.table.next_id ≤ end_number l) one.blocks
    (other.left (subst (λ (l : List IdBlock). first.table.next_id ≤ end_number l) (sym one.blocks) (one.left ends)))

then_asks : (id : ℕ) (t : ScannerTable) (first next : Effect) → Asks id t first → Asks id first.table next → Asks id t (after first next)
then_asks id t first next one other = record {
  blocks = other.blocks ∙ one.blocks;
  ids = omega (arith, one.ids, other.ids);
  left = then_left id t first next one other;
  requested = λ is.
      let before = one.requested is in
      let behind : AreRequested id t.ids first.table.next_id next.table.next_id next.sent =
      subst (λ (l : List IdBlock). AreRequested id l first.table.next_id next.table.next_id next.sent) one.blocks (other.requested (next_left id t first one is)) in
      let both = count_both (sent_asks id) first.sent next.sent in
      let more = between_more t.ids t.next_id first.table.next_id next.table.next_id id is.blocks is.begins (then_left id t first next one other is.ends) one.ids other.ids in
      record { fits = all_fit first.sent next.sent before.fits behind.fits; count = omega (arith, before.count, behind.count, both, more) };
}

silent_asks : (id : ℕ) (t : ScannerTable) (effect : Effect) → effect.table.ids ≡ t.ids → effect.table.next_id ≡ t.next_id → effect.sent ≡ [] → Asks id t effect
silent_asks id t effect blocks same none = record {
  blocks = blocks;
  ids = omega (arith, same);
  left = λ ends. omega (arith, ends, same);
  requested = λ is. subst (AreRequested id t.ids t.next_id effect.table.next_id) (sym none) (nothing_requested id t.ids t.next_id effect.table.next_id);
}

-- ---- openings

-- an opening asks for the next id, or, where it is multicast, for none
record AsksNext (id : ℕ) (ids : List IdBlock) (from to x : ℕ) : Type 0 where
  fits : x < 4294967296
  count : cond (x == id) 1 0 ≤ cond (is_between ids from to id) 1 0
  left : to ≤ end_number ids

asks_next : (id : ℕ) (t : ScannerTable) (multicast : Bool) → id ≢ 0 → (multicast || nat_lt t.next_id (end_number t.ids)) ≡ true → IsNext t → AsksNext id t.ids t.next_id (cond multicast t.next_id (t.next_id + 1)) (id_or_zero (cond multicast None (Some (id_at t.ids t.next_id)))).0
asks_next id t true some has is = record { fits = omega arith; count = rw (differs id some) (omega arith); left = is.ends } where
  differs : (id : ℕ) → id ≢ 0 → (0 == id) ≡ false
  differs id some = grind (arith, nat_tests)
asks_next id t false some has is =
    let under : t.next_id < end_number t.ids = grind (arith, nat_tests, has) in
    record {
      fits = (ids_fit t.ids t.next_id is.blocks is.begins (omega (arith, under))).1;
      count =
          one_at_most ((id_at t.ids t.next_id).0 == id) (is_between t.ids t.next_id (t.next_id + 1) id)
          (λ same. numbered_between t.ids t.next_id (t.next_id + 1) id (record { number = t.next_id; begins = omega arith; ends = omega arith; is = eqb-true (id_at t.ids t.next_id).0 id same }));
      left = omega (arith, under);
    }

-- what a slot needs to ask for an id leaves the number within those of the blocks
left_after : (multicast : Bool) (n end : ℕ) → (multicast || nat_lt n end) ≡ true → n ≤ end → cond multicast n (n + 1) ≤ end
left_after true n end has ends = ends
left_after false n end has ends = grind (arith, nat_tests, has)

requested_asks : (id : ℕ) → id ≢ 0 → (t : ScannerTable) (place : IndexedSlot) (session : Session) → can_open t place.config ≡ true → Asks id t (open_requested t place session)
requested_asks id some t place session can =
    let has = (and_parts (has_request t) (has_id t place.config) can).1 in
    record {
      blocks = refl;
      ids = ids_after place.config.multicast t.next_id;
      left = left_after place.config.multicast t.next_id (end_number t.ids) has;
      requested = λ is.
          let next = asks_next id t place.config.multicast some has is in
          record { fits = (next.fits, tt); count = omega (arith, next.count) };
    }
  where
    ids_after : (multicast : Bool) (n : ℕ) → n ≤ cond multicast n (n + 1)
    ids_after true n = omega arith
    ids_after false n = omega arith

closed_asks : (id : ℕ) (t : ScannerTable) (place : IndexedSlot) (link : Link) (desired_up : Bool) (session : Session) → Asks id t (close_requested t place link desired_up session)
closed_asks id t place link desired_up session = record { blocks = refl; ids = omega arith; left = λ ends. ends; requested = λ is. record { fits = (tt, tt); count = omega arith } }

disowned_asks : (id : ℕ) (t : ScannerTable) (config : SlotConfig) (triad : Triad) (session : Session) → Asks id t (disowned t config triad session)
disowned_asks id t config triad session = record { blocks = refl; ids = omega arith; left = λ ends. ends; requested = λ is. record { fits = (tt, tt); count = omega arith } }

registering_again_asks : (id : ℕ) (t : ScannerTable) (stream : TargetStream) → Asks id t (registering_again t stream)
registering_again_asks id t stream = record { blocks = refl; ids = omega arith; left = λ ends. ends; requested = λ is. record { fits = (tt, tt); count = omega arith } }

explicit_asks : (id : ℕ) (t : ScannerTable) (session : Session) (number : ℕ) (bytes : List ℕ) → IsExplicit bytes → Asks id t (explicit_sent t session number bytes)
explicit_asks id t session number bytes explicit = record { blocks = refl; ids = omega arith; left = λ ends. ends; requested = λ is. record { fits = (explicit, tt); count = omega arith } }

effects_ask : (id : ℕ) → id ≢ 0 → EffectsDo (Asks id)
effects_ask id some = record {
  stays = λ t u notices like. silent_asks id t (silent notices u) like.ids like.next_id refl;
  next = then_asks id;
  opens = λ t place session can is. requested_asks id some t place session can;
  closes = λ t place link desired_up session is. closed_asks id t place link desired_up session;
  disowns = λ t config triad session is. disowned_asks id t config triad session;
  registers = λ t stream is_open. registering_again_asks id t stream;
  requests = λ t target session number bytes goes. explicit_asks id t session number bytes goes.explicit;
}

-- ---- a step

-- what an answer asks for, where it is small
abbrev NextAsks : ℕ → ScannerTable → Next → Type 0
NextAsks id t next =
    IsSmall next.0 → IsNext t → count_by (frame_asks id) next.0.frames ≤ cond (is_between t.ids t.next_id (min next.1.next_id (end_number t.ids)) id) 1 0

abbrev OkAsks : ℕ → ScannerTable → Result Next StepFault → Type 0
OkAsks id t said = IfOk said (NextAsks id t)

-- 1 where the id has a number below this one, and was not allocated before
abbrev one_between : ℕ → ScannerTable → ℕ → ℕ
one_between id t to = cond (is_between t.ids t.next_id to id) 1 0

lowest : (a b end : ℕ) → b ≡ a → a ≤ end → a ≡ min b end
lowest a b end same within = omega (arith, same, within)

effect_asks : ItemsReadBack → (id : ℕ) (t : ScannerTable) (next : Next) → IsOfEffect (Asks id) t next → NextAsks id t next
effect_asks back id t next of small first =
    let effect = of.effect in
    let does = of.does in
    let requested = does.requested first in
    let short : AllByRecursion IsShortFrame (map sent_frame of.effect.sent) = subst (AllByRecursion IsShortFrame) of.frames small.short_frames in
    let frames = frames_count back id of.effect.sent requested.fits short in
    let same : count_by (frame_asks id) next.0.frames ≡ count_by (frame_asks id) (map sent_frame of.effect.sent) = ap (λ (l : List Frame). count_by (frame_asks id) l) of.frames in
    let within = does.left first.ends in
    let last : one_between id t of.effect.table.next_id ≡ one_between id t (min next.1.next_id (end_number t.ids)) = ap (one_between id t) (lowest of.effect.table.next_id next.1.next_id (end_number t.ids) of.next_id within) in
    omega (arith, frames, requested.count, same, last)

next_asks : ItemsReadBack → (id : ℕ) (t : ScannerTable) (next : Next) → NextDoes (Asks id) t next → NextAsks id t next
next_asks back id t next (inl none) = λ small first. rw none (omega arith)
next_asks back id t next (inr of) = effect_asks back id t next of

ok_asks : ItemsReadBack → (id : ℕ) (t : ScannerTable) (said : Result Next StepFault) → OkDoes (Asks id) t said → OkAsks id t said
ok_asks back id t (Err why) goes = tt
ok_asks back id t (Ok next) goes = next_asks back id t next goes

registering_asks : ItemsReadBack → (id : ℕ) (t : ScannerTable) (number : ℕ) (target : Node) → NextAsks id t (done (registering_on t number target))
registering_asks back id t number target =
    effect_asks back id t (done (registering_on t number target))
    (record { effect = registering_on t number target; frames = refl; next_id = refl; does = record { blocks = refl; ids = omega arith; left = λ ends. ends; requested = λ is. record { fits = (tt, tt); count = omega arith } } })

opens_asks : ItemsReadBack → (id : ℕ) (t : ScannerTable) (number : ℕ) (target : Node) → OkAsks id t (stream_opened t number target)
unfolding stream_opened
opens_asks back id t number target =
    either (OkAsks id t) (is_taken t.streams number target) (Err fault.NotAllowedNow) (Ok (done (registering_on t number target))) tt (registering_asks back id t number target)

step_asks : ItemsReadBack → (id : ℕ) → id ≢ 0 → (t : ScannerTable) (happens : Event) → OkAsks id t (scanner_step t happens)
step_asks back id some t (event.Request peer bytes) = tt
step_asks back id some t (event.StreamOpened number peer) = opens_asks back id t number peer
step_asks back id some t other = ok_asks back id t (scanner_step t other) (event_does (Asks id) (effects_ask id some) t other)

pub scanners_ask : ItemsReadBack → AnswersAreSmall → ScannersAskOnce
unfolding step
scanners_ask back few t happens answer next id is whole some =
    let small = few (Scanner t) happens answer (Scanner next) whole (ap as_scanner is) in
    (subst (OkAsks id t) is (step_asks back id some t happens)) small (record { blocks = whole.table.blocks; begins = whole.table.ids_begin; ends = whole.table.ids })
