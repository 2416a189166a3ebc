-- Each step of a device carries ids, and only its own reply establishes a slot of a scanner.
use Rattle.std.proofs.Common.{◌^◌, ◌≡◌, ◌≤◌, ◌<◌, ◌⊎◌, inl, inr, ℕ, ◌==◌, ◌||◌, nat_lt, Bool, true, false, cond, List, [], ◌∷◌, ◌++◌, Option, Some, None, Result, Ok, Err, refl, sym, ◌∙◌, ap, subst, append_assoc, arith}
use Rattle.std.specs.List.{AllByRecursion, Contains}
use Rattle.std.proofs.lemmas.Bool.Decides.{nat_tests}
use Rattle.std.proofs.lemmas.List.Elements.{Contains-append_left, Contains-append_right, Contains-push}
use Rattle.base_lemmas.specs.Numbers.{number_same}
use Rattle.cip_types.specs.declared.names.ConnId.{ConnId}
use Rattle.cip_encap.specs.declared.packet.ItemFault.{ItemFault}
use Rattle.cip_encap.specs.Message.{MessageFields}
use Rattle.cip_encap.specs.Packet.{PacketFields}
use Rattle.cip_encap.specs.PacketReading.{packet_reading}
use Rattle.cip_encap.specs.AnyItems.{any_packet_reading}
use Rattle.cip_encap.specs.Lemmas.AnyItemLemmas.{packet_covered}
use Rattle.cip_encap.specs.ReadsBack.{ItemsReadBack}
use Rattle.cip_events.specs.declared.event.Answer.{Answer}
use Rattle.cip_events.specs.declared.event.Event.{Event}
use Rattle.cip_events.specs.declared.event.StepFault.{StepFault}
use Rattle.cip_fwdopen.specs.declared.reply.Opened.{Opened}
use Rattle.conn_state.specs.Answers.{is_requested_id}
use Rattle.conn_state.specs.declared.names.Link.{Link}
use Rattle.conn_state.specs.declared.names.Requested.{Requested}
use Rattle.adapter_table.specs.declared.table.AdapterTable.{AdapterTable}
use Rattle.adapter_table.specs.Requests.{Next}
use Rattle.adapter_table.specs.Step.{adapter_step}
use Rattle.scanner_table.specs.declared.profile.SlotConfig.{SlotConfig}
use Rattle.scanner_table.specs.declared.slot.SlotState.{SlotState}
use Rattle.scanner_table.specs.declared.slot.SlotState.TheVariants.{Idle, Opening, Established, TimedOut, Closing}
use Rattle.scanner_table.specs.declared.table.ScannerTable.{ScannerTable}
use Rattle.cip_types.specs.IdLaws.{extends_ends}
use Rattle.cip_types.specs.Ids.{Extends, end_number, id_at}
use Rattle.cip_types.specs.declared.ids.IdBlock.{IdBlock}
use Rattle.scanner_table.specs.Counters.{CountsOn}
use Rattle.scanner_table.specs.Requests.{next_t_o_id, id_or_zero}
use Rattle.scanner_table.specs.Runs.{StepsLead}
use Rattle.scanner_table.specs.Effects.{Next as ScannerNext}
use Rattle.scanner_table.specs.Replies.{packet_answer, command_answer, open_answer}
use Rattle.scanner_table.specs.Closing.{requested_link}
use Rattle.scanner_table.specs.Lemmas.Moves.{link_in}
use Rattle.scanner_table.specs.Slots.{IndexedSlot, indexed_slots}
use Rattle.scanner_table.specs.Step.{scanner_step}
use Rattle.std.proofs.lemmas.Option.{same_Some}
use Rattle.device_laws.specs.Newest.{came_from}
use Rattle.cip_tables.specs.declared.table.DeviceTable.{DeviceTable}
use Rattle.cip_tables.specs.declared.table.DeviceTable.TheVariants.{Adapter, Scanner}
use Rattle.cip_tables.specs.Step.{DeviceNext, as_adapter, as_scanner, step}
use Rattle.cip_tables.specs.Sound.{StepsGrow}
use Rattle.cip_tables.specs.Whole.{IsWholeDevice, ids_of, next_id_of}
use Rattle.answer_sizes.specs.Sizes.{IsSmall, AnswersAreSmall}
use Rattle.device_laws.specs.Ids.{ReplyIds, PacketIds, MessageIds, FrameIds, AnswerIds, RowIds, IdsFromTo, EventIds, RequestedId, LinkIds, StateIds, Replied, IdsWithin}
use Rattle.device_laws.specs.Carrying.{Passes, TableIds, StepsCarryIds, IsFrom, WantsFrom, StateFrom, SlotFrom, StepsKeepFrom, Stands, IsAnswered, StateCame, SlotCame, RepliesEstablish}
use Rattle.device_laws.specs.Lemmas.Lists.{all_more}
use Rattle.device_laws.specs.Lemmas.Texts.{either, same_again, Cuts}
use Rattle.device_laws.specs.Lemmas.AdapterIds as adapters
use Rattle.device_laws.specs.Lemmas.AdapterIds.{adapter_holds}
use Rattle.device_laws.specs.Lemmas.Slots.{OfSlots, SlotsHold, CanDraw, Kept}
use Rattle.device_laws.specs.Lemmas.ScannerIds as scanners
use Rattle.device_laws.specs.Lemmas.ScannerIds.{scanner_holds}

-- ---- answers are small

abbrev ok_of : DeviceNext → Result DeviceNext StepFault
ok_of n = Ok n

ok_inside : (p q : DeviceNext) → ok_of p ≡ ok_of q → p ≡ q
ok_inside p q e = cc

next_same : (a b : Answer) (x y : DeviceTable) (said : Result DeviceNext StepFault) → said ≡ Ok (a, x) → said ≡ Ok (b, y) → (a ≡ b) × (x ≡ y)
next_same a b x y said one other =
    let e = ok_inside (a, x) (b, y) (sym one ∙ other) in
    (ap (λ (p : DeviceNext). p.0) e, ap (λ (p : DeviceNext). p.1) e)

-- ---- ids

cuts_passing : (ids : ℕ → Bool) → ((id : ℕ) → Passes ids id → id < 2 ^ 32) → Cuts (Passes ids)
cuts_passing ids fits id passes = subst (Passes ids) (sym (same_again id (fits id passes))) passes

-- the state of a slot, by its ids alone
abbrev ById : (ℕ → Type 0) → OfSlots
ById P number config state = StateIds P state

reported_packet : (P : ℕ → Type 0) (large : Bool) (reading : Result PacketFields ItemFault) → PacketIds P reading → ReplyIds P (packet_answer large reading)
reported_packet P large (Err fault) ids = tt
reported_packet P large (Ok packet) ids = ids.replied large

reported_ids : (P : ℕ → Type 0) (large : Bool) (m : MessageFields) → PacketIds P (packet_reading m.payload) → ReplyIds P (open_answer large m)
unfolding open_answer
reported_ids P large m ids =
    either (ReplyIds P) (m.status == 0) (command_answer large m) _
    (either (ReplyIds P) (m.command == 0x006F) (packet_answer large (packet_reading m.payload)) _ (reported_packet P large (packet_reading m.payload) ids) tt) tt

-- the ids of a reply came with the event
replied_ids : (P : ℕ → Type 0) (t : ScannerTable) (happens : Event) (config : SlotConfig) (request : ℕ) (success : Opened) → Replied t happens config.target request success → EventIds P happens → P success.o_t_id.0 × P success.t_o_id.0
replied_ids P t happens config request success replied ids =
    let frame : FrameIds P replied.bytes = subst (EventIds P) replied.is ids in
    let packet : PacketIds P (any_packet_reading replied.message.payload) = subst (MessageIds P) replied.reads frame in
    subst (ReplyIds P) replied.success_is (reported_ids P replied.large replied.message (packet_covered (PacketIds P) (λ fault. tt) replied.message.payload packet))

or_other : (a b : Bool) → a ≡ false → (a || b) ≡ true → b ≡ true
or_other true b none is = absurd cc
or_other false b none is = is

-- a slot that opens asks for an id that the blocks have
asks_within : (t now : ScannerTable) (config : SlotConfig) (to : ℕ) → config.multicast ≡ false → CanDraw t to now config → now.next_id < end_number t.ids
asks_within t now config to single can =
    let counts = can.counts in
    let left : nat_lt now.next_id (end_number now.ids) ≡ true = or_other config.multicast (nat_lt now.next_id (end_number now.ids)) single can.has in
    subst (λ (ids : List IdBlock). now.next_id < end_number ids) counts.blocks (grind (arith, nat_tests, left))

-- and that is one of those which the scanner draws at the event
requested_drawn : (P : ℕ → Type 0) (ids : List IdBlock) (t now : ScannerTable) (config : SlotConfig) (to : ℕ) (multicast : Bool) → config.multicast ≡ multicast → CanDraw t to now config → 1 ≤ t.next_id → Extends t.ids ids → IdsFromTo P ids t.next_id to → RequestedId P (cond multicast None (Some (id_at now.ids now.next_id)))
requested_drawn P ids t now config to true is can one more drawn = tt
requested_drawn P ids t now config to false is can one more drawn =
    let under = can.left is in
    let counts = can.counts in
    let begins = counts.ids in
    let within = asks_within t now config to is can in
    let old : P (id_at t.ids now.next_id).0 =
    subst (λ (id : ConnId). P id.0) (more.same now.next_id (omega (arith, one, begins)) (omega (arith, within))) (drawn now.next_id counts.ids under) in
    subst (λ (blocks : List IdBlock). P (id_at blocks now.next_id).0) (sym counts.blocks) old

next_requested_id : (P : ℕ → Type 0) (ids : List IdBlock) (t now : ScannerTable) (config : SlotConfig) (to : ℕ) → CanDraw t to now config → 1 ≤ t.next_id → Extends t.ids ids → IdsFromTo P ids t.next_id to → RequestedId P (next_t_o_id now config)
next_requested_id P ids t now config to can one more drawn = requested_drawn P ids t now config to config.multicast refl can one more drawn

zero_or : (P : ℕ → Type 0) (id : Option ConnId) → P 0 → RequestedId P id → P (id_or_zero id).0
zero_or P None zero_passes requested = zero_passes
zero_or P (Some id) zero_passes requested = requested

-- the ids of the connection that the slot has, or asked for
link_ids : (P : ℕ → Type 0) → P 0 → (state : SlotState) (link : Link) → link_in state ≡ Some link → StateIds P state → LinkIds P link
link_ids P zero_passes Idle link from is = absurd cc
link_ids P zero_passes (Opening o) link from is = subst (LinkIds P) (same_Some (requested_link o.requested) link from) (zero_passes, zero_or P o.requested.t_o_id zero_passes is)
link_ids P zero_passes (Established c) link from is = subst (LinkIds P) (same_Some c.link link from) is
link_ids P zero_passes (TimedOut other) link from is = subst (LinkIds P) (same_Some other link from) is
link_ids P zero_passes (Closing c) link from is = subst (LinkIds P) (same_Some c.link link from) is

ids_kept : (P : ℕ → Type 0) → P 0 → (blocks : List IdBlock) (t : ScannerTable) (to : ℕ) (happens : Event) → 1 ≤ t.next_id → Extends t.ids blocks → IdsFromTo P blocks t.next_id to → EventIds P happens → Kept (ById P) t to happens
ids_kept P zero_passes blocks t to happens one more drawn ids = record {
  rests = λ number config. tt;
  times_out = λ number config link state from is. link_ids P zero_passes state link from is;
  closes = λ number config link state close same from is. subst (LinkIds P) (sym same) (link_ids P zero_passes state link from is);
  goes_on = λ number config c d opening link is. subst (LinkIds P) (sym link) is;
  opens = λ number config now o can request requested. let e = ap (λ (w : Requested). w.t_o_id) requested in subst (RequestedId P) (sym e) (next_requested_id P blocks t now config to can one more drawn);
  establishes = λ number config o success c waits replied matches opening link is. subst (LinkIds P) (sym link) (replied_ids P t happens config o.request success replied ids);
}

adapter_carries : (P Q : ℕ → Type 0) (t : AdapterTable) (said : Result Next StepFault) (a : Answer) (next : DeviceTable) → as_adapter said ≡ Ok (a, next) → adapters.OkHolds P Q (next_id_of next) said → IsSmall a → (u : AdapterTable) × (next ≡ Adapter u) × AnswerIds P a × AllByRecursion (RowIds P Q) u.rows
adapter_carries P Q t (Err fault) a next is holds small = absurd cc
adapter_carries P Q t (Ok n) a next is holds small =
    let same = next_same n.0 a (Adapter n.1) next (Ok (n.0, Adapter n.1)) refl is in
    let small_n : IsSmall n.0 = subst IsSmall (sym same.0) small in
    let counts : next_id_of (Adapter n.1) ≡ next_id_of next = ap next_id_of same.1 in
    let h = holds (omega (arith, counts)) small_n in
    (n.1, sym same.1, subst (AnswerIds P) same.0 h.0, h.1)

scanner_carries : (G : OfSlots) (P : ℕ → Type 0) (said : Result ScannerNext StepFault) (a : Answer) (next : DeviceTable) → as_scanner said ≡ Ok (a, next) → scanners.OkHolds G P (next_id_of next) said → IsSmall a → (u : ScannerTable) × (next ≡ Scanner u) × AnswerIds P a × SlotsHold G u
scanner_carries G P (Err fault) a next is holds small = absurd cc
scanner_carries G P (Ok n) a next is holds small =
    let same = next_same n.0 a (Scanner n.1) next (Ok (n.0, Scanner n.1)) refl is in
    let small_n : IsSmall n.0 = subst IsSmall (sym same.0) small in
    let counts : next_id_of (Scanner n.1) ≡ next_id_of next = ap next_id_of same.1 in
    let h = holds (omega (arith, counts)) small_n in
    (n.1, sym same.1, subst (AnswerIds P) same.0 h.0, h.1)

-- ids that the next table's blocks have, of numbers that the blocks before it have
drawn_within : (P : ℕ → Type 0) (old new : List IdBlock) (from to : ℕ) → 1 ≤ from → Extends old new → IdsFromTo P new from to → IdsWithin P old from to
drawn_within P old new from to one more drawn = λ n begins ends within.
    subst (λ (id : ConnId). P id.0) (more.same n (omega (arith, one, begins)) (omega (arith, within))) (drawn n begins ends)

pub steps_carry : ItemsReadBack → AnswersAreSmall → StepsGrow → StepsCarryIds
unfolding step
steps_carry back few grow ids openings (Adapter t) happens a next is whole fits zero_passes drawn numbers event_ids answered table =
    let small = few (Adapter t) happens a next whole is in
    let done = adapter_carries (Passes ids) (Passes openings) t (adapter_step t happens) a next is
    (adapter_holds back (Passes ids) (Passes openings) (cuts_passing ids fits) (next_id_of next) t happens
    (drawn_within (Passes ids) t.ids (ids_of next) t.next_id (next_id_of next) whole.sound.ids_begin (grow (Adapter t) happens (a, next) is) drawn, numbers) event_ids answered table) small in
    (subst (TableIds ids openings) (sym done.1) done.3, done.2)
steps_carry back few grow ids openings (Scanner t) happens a next is whole fits zero_passes drawn numbers event_ids answered table =
    let small = few (Scanner t) happens a next whole is in
    let done = scanner_carries (ById (Passes ids)) (Passes ids) (scanner_step t happens) a next is
    (scanner_holds back (ById (Passes ids)) (Passes ids) (cuts_passing ids fits) (λ number config c link. link.0) (next_id_of next) t happens
    (ids_kept (Passes ids) zero_passes (ids_of next) t (next_id_of next) happens whole.table.ids_begin (grow (Scanner t) happens (a, next) is) drawn event_ids)
    (λ now config can. zero_or (Passes ids) (next_t_o_id now config) zero_passes (next_requested_id (Passes ids) (ids_of next) t now config (next_id_of next) can whole.table.ids_begin (grow (Scanner t) happens (a, next) is) drawn)) table) small in
    (subst (TableIds ids openings) (sym done.1) done.3, done.2)

-- ---- openings of a scanner

abbrev Anything : ℕ → Type 0
Anything id = Unit {0}

-- a step keeps what each move of a slot keeps
scanner_keeps : ItemsReadBack → AnswersAreSmall → (G : OfSlots) (t : ScannerTable) (happens : Event) (a : Answer) (next : ScannerTable) → scanner_step t happens ≡ Ok (a, next) → IsWholeDevice (Scanner t) → Kept G t next.next_id happens → SlotsHold G t → SlotsHold G next
unfolding step
scanner_keeps back few G t happens a next is whole kept slots =
    let stepped : step (Scanner t) happens ≡ Ok (a, Scanner next) = ap as_scanner is in
    let small = few (Scanner t) happens a (Scanner next) whole stepped in
    let holds = scanner_holds back G Anything (λ id any. tt) (λ number config c g. tt) next.next_id t happens kept (λ now config can. tt) slots in
    let h : scanners.NextHolds G Anything next.next_id (a, next) = subst (scanners.OkHolds G Anything next.next_id) is holds in
    (h (omega arith) small).1

-- ---- later openings have later ids

abbrev From : List IdBlock → (request first : ℕ) → OfSlots
From ids request first number config state = config.multicast ≡ false → StateFrom ids request first state

-- an id of the blocks is one of those that go on from them
from_later : (old new : List IdBlock) (first : ℕ) (id : ConnId) → Extends old new → end_number old ≤ end_number new → IsFrom old first id → IsFrom new first id
from_later old new first id more later from =
    let ends = from.ends in
    record {
      number = from.number;
      is = from.is ∙ sym (more.same from.number from.one (omega (arith, ends)));
      one = from.one;
      begins = from.begins;
      ends = omega (arith, ends, later);
    }

wants_later : (old new : List IdBlock) (first : ℕ) (wants : Option ConnId) → Extends old new → end_number old ≤ end_number new → WantsFrom old first wants → WantsFrom new first wants
wants_later old new first None more later from = absurd from
wants_later old new first (Some id) more later from = from_later old new first id more later from

state_later : (old new : List IdBlock) (request first : ℕ) (state : SlotState) → Extends old new → end_number old ≤ end_number new → StateFrom old request first state → StateFrom new request first state
state_later old new request first Idle more later from = tt
state_later old new request first (Opening o) more later from = λ over. wants_later old new first o.requested.t_o_id more later (from over)
state_later old new request first (Established c) more later from = λ over. from_later old new first c.link.t_o_id more later (from over)
state_later old new request first (TimedOut link) more later from = tt
state_later old new request first (Closing c) more later from = tt

slots_later : (old new : List IdBlock) (request first : ℕ) (slots : List IndexedSlot) → Extends old new → end_number old ≤ end_number new → AllByRecursion (SlotFrom old request first) slots → AllByRecursion (SlotFrom new request first) slots
slots_later old new request first slots more later from =
    all_more (SlotFrom old request first) (SlotFrom new request first) (λ indexed before single. state_later old new request first indexed.slot.state more later (before single)) slots from

-- the id that a slot asks for where it opens is of the blocks of the table, which go on
wants_from : (t now : ScannerTable) (config : SlotConfig) (to first : ℕ) (ids : List IdBlock) (multicast : Bool) → config.multicast ≡ multicast → multicast ≡ false → CanDraw t to now config → 1 ≤ t.next_id → first ≤ t.next_id → Extends t.ids ids → end_number t.ids ≤ end_number ids → WantsFrom ids first (cond multicast None (Some (id_at now.ids now.next_id)))
wants_from t now config to first ids true is single can one below more later = absurd cc
wants_from t now config to first ids false is single can one below more later =
    let counts = can.counts in
    let begins = counts.ids in
    let under = asks_within t now config to is can in
    record {
      number = now.next_id;
      is = ap (λ (l : List IdBlock). id_at l now.next_id) counts.blocks ∙ sym (more.same now.next_id (omega (arith, one, begins)) (omega (arith, under)));
      one = omega (arith, one, begins);
      begins = omega (arith, below, begins);
      ends = omega (arith, under, later);
    }

id_same : (a b : ConnId) → (a.0 == b.0) ≡ true → a ≡ b
id_same a b is = let e : a.0 ≡ b.0 = grind (arith, nat_tests) in ap (λ (n : ℕ). conn n) e where
  conn : ℕ → ConnId
  conn n = record { 0 = n }

requested_from : (ids : List IdBlock) (first : ℕ) (requested : Option ConnId) (id : ConnId) → is_requested_id requested id ≡ true → WantsFrom ids first requested → IsFrom ids first id
requested_from ids first None id is wants = absurd wants
requested_from ids first (Some requested) id is wants = subst (IsFrom ids first) (id_same requested id is) wants

from_kept : (request first : ℕ) (t : ScannerTable) (to : ℕ) (happens : Event) (ids : List IdBlock) → 1 ≤ t.next_id → first ≤ t.next_id → Extends t.ids ids → end_number t.ids ≤ end_number ids → Kept (From ids request first) t to happens
from_kept request first t to happens ids one below more later = record {
  rests = λ number config single. tt;
  times_out = λ number config link state from is single. tt;
  closes = λ number config link state close same from is single. tt;
  goes_on = λ number config c d opening link is single over.
      let before = is single (omega (arith, over, opening)) in
      subst (IsFrom ids first) (ap (λ (l : Link). l.t_o_id) (sym link)) before;
  opens = λ number config now o can numbered requested single over.
      subst (WantsFrom ids first) (sym (ap (λ (w : Requested). w.t_o_id) requested)) (wants_from t now config to first ids config.multicast refl single can one below more later);
  establishes = λ number config o success c waits replied matches opening link is single over.
      let before = is single (omega (arith, over, opening)) in
      subst (IsFrom ids first) (ap (λ (l : Link). l.t_o_id) (sym link)) (requested_from ids first o.requested.t_o_id success.t_o_id matches before);
}

pub steps_keep_from : ItemsReadBack → AnswersAreSmall → StepsLead CountsOn → StepsKeepFrom
steps_keep_from back few counts request first t happens a next is whole below slots =
    let goes = counts t happens (a, next) is in
    let more = extends_ends t.ids next.ids goes.blocks in
    scanner_keeps back few (From next.ids request first) t happens a next is whole
    (from_kept request first t next.next_id happens next.ids whole.table.ids_begin below goes.blocks more)
    (slots_later t.ids next.ids request first (indexed_slots t) goes.blocks more slots)

-- ---- what establishes a slot

abbrev Came : ScannerTable → Event → OfSlots
Came t happens number config state = StateCame t happens number state

came_same : (t : ScannerTable) (happens : Event) (number a b : ℕ) → b ≡ a → Stands t number a ⊎ IsAnswered t happens number a → Stands t number b ⊎ IsAnswered t happens number b
came_same t happens number a b same is = subst (λ (n : ℕ). Stands t number n ⊎ IsAnswered t happens number n) (sym same) is

came_kept : (t : ScannerTable) (to : ℕ) (happens : Event) → Kept (Came t happens) t to happens
came_kept t to happens = record {
  rests = λ number config. tt;
  times_out = λ number config link state from is. tt;
  closes = λ number config link state close same from is. tt;
  goes_on = λ number config c d opening link is. came_same t happens number c.opening d.opening opening is;
  opens = λ number config now o can numbered requested. tt;
  establishes = λ number config o success c waits replied matches opening link is.
      came_same t happens number o.request c.opening opening
      (inr (record { config = config; opening = o; waits = waits; request_is = refl; success = success; replied = replied }));
}

stands_now : (t : ScannerTable) (happens : Event) (indexed : IndexedSlot) (state : SlotState) → Contains (indexed_slots t) indexed → indexed.slot.state ≡ state → StateCame t happens indexed.number state
stands_now t happens indexed Idle there is = tt
stands_now t happens indexed (Opening o) there is = tt
stands_now t happens indexed (Established c) there is =
    inl (record { indexed = indexed; there = there; number_is = refl; state = ap (came_from c.opening) is ∙ number_same c.opening })
stands_now t happens indexed (TimedOut link) there is = tt
stands_now t happens indexed (Closing c) there is = tt

stand_from : (t : ScannerTable) (happens : Event) (before rest : List IndexedSlot) → indexed_slots t ≡ before ++ rest → AllByRecursion (SlotCame t happens) rest
stand_from t happens before [] is = tt
stand_from t happens before (indexed ∷ rest) is =
    let there : Contains (indexed_slots t) indexed = subst (λ (l : List IndexedSlot). Contains l indexed) (sym is) (Contains-append_right before (indexed ∷ rest) indexed (Contains-append_left (indexed ∷ []) rest indexed (Contains-push [] indexed))) in
    (stands_now t happens indexed indexed.slot.state there refl, stand_from t happens (before ++ indexed ∷ []) rest (is ∙ sym (append_assoc before (indexed ∷ []) rest)))

pub replies_establish : ItemsReadBack → AnswersAreSmall → RepliesEstablish
replies_establish back few t happens a next is whole =
    scanner_keeps back few (Came t happens) t happens a next is whole (came_kept t next.next_id happens) (stand_from t happens [] (indexed_slots t) refl)
