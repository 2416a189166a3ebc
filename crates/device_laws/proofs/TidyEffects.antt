-- Effects of a tidy scanner, while a request number is left: each connection stays with its slot, or a Forward_Close of it is sent;
-- and each connection that is requested is that of a slot.
use Rattle.std.proofs.Common.{◌≡◌, ◌≢◌, ◌⊎◌, inl, inr, ◌≤◌, ℕ, ◌+◌, ◌^◌, ◌==◌, nat_le, Bool, true, false, cond, List, [], ◌∷◌, ◌++◌, filter, slice_get, Option, Some, None, refl, sym, ◌∙◌, ap, subst, arith, eqb-true as number_is}
use Rattle.std.specs.List.{AllByRecursion, Contains}
use Rattle.std.proofs.lemmas.Bool.{and_parts, eqb-false}
use Rattle.std.proofs.lemmas.Bool.Decides.{nat_tests}
use Rattle.std.proofs.lemmas.List.Elements.{Contains-append_left, Contains-append_right, Contains-push}
use Rattle.std.proofs.lemmas.Option.{same_Some}
use Rattle.cip_types.specs.declared.names.Ms.{Ms}
use Rattle.cip_types.specs.declared.names.Node.{Node}
use Rattle.cip_types.specs.declared.names.Triad.{Triad}
use Rattle.cip_events.specs.declared.event.Notice.{Notice}
use Rattle.cip_events.specs.declared.event.Notice.TheVariants as notice
use Rattle.cip_fwdopen.specs.Open.{OpenFields}
use Rattle.conn_state.specs.declared.names.Link.{Link}
use Rattle.scanner_table.specs.declared.profile.ScannerProfile.{ScannerProfile}
use Rattle.scanner_table.specs.declared.profile.SlotConfig.{SlotConfig}
use Rattle.scanner_table.specs.declared.slot.Slot.{Slot}
use Rattle.scanner_table.specs.declared.slot.SlotState.{SlotState}
use Rattle.scanner_table.specs.declared.slot.SlotState.TheVariants.{Idle, Opening, Established, TimedOut, Closing}
use Rattle.scanner_table.specs.declared.table.ScannerTable.{ScannerTable}
use Rattle.scanner_table.specs.declared.table.Session.{Session}
use Rattle.scanner_table.specs.Closing.{requested_link, left_state, unclosed_slot, given_up_state, given_up, target_lost}
use Rattle.scanner_table.specs.Effects.{Effect, nothing, after, on_each, changed}
use Rattle.scanner_table.specs.Opening.{has_request, can_open, open_requested, opening_slot, resigned, exhausted, opened_within, closing_slot, close_requested, cleared_within, opened_from, asking_session, opened, is_ready_slot, ready_slots, ready_opened, target_opened}
use Rattle.scanner_table.specs.Replies.{failed_slot}
use Rattle.scanner_table.specs.Requests.{Request, registering, opening, closing, requesting, Sent, close_fields, numbered}
use Rattle.scanner_table.specs.Sessions.{session_with}
use Rattle.scanner_table.specs.Slots.{IndexedSlot, indexed_slots, is_with, is_closed, needs_request}
use Rattle.scanner_table.specs.Ticks.{by_deadline, has_expired, expired_slots, expired_state, expired, all_expired, is_overdue, all_given_up, advanced}
use Rattle.scanner_table.specs.Lemmas.Moves.{link_in, Local, stand_on, IsClosedSlot}
use Rattle.scanner_table.specs.Lemmas.SlotLookups.{Stands, Each, EachTwo, Any, Apart, each_any, each_more, each_filter, two_filter, each_passes, each_in_order, two_in_order, each_stands, slots_apart, get_same, get_other}
use Rattle.device_laws.specs.Lemmas.ExplicitRequests.{IsExplicit}
use Rattle.device_laws.specs.Lemmas.Lists.{all_both, all_more}
use Rattle.device_laws.specs.Lemmas.ScannerEffects.{IsOfTarget, asks_in}
use Rattle.device_laws.specs.TidyScanners.{triad_in}

-- ---- what stays, and what is closed

abbrev pub IsTidy : ScannerTable → Type 0
IsTidy t = t.profile.tidy ≡ true

-- a request number is left
abbrev pub IsLeft : ScannerTable → Type 0
IsLeft t = t.next_request ≤ 2 ^ 48

-- the slot of this number has the connection
pub record Keeps (t : ScannerTable) (number : ℕ) (triad : Triad) : Type 0 where
  pub slot : Slot
  pub there : slice_get t.slots number ≡ Some slot
  pub has : triad_in slot.state ≡ Some triad

-- of the requests one is its Forward_Close, over the session that the table has with the target
pub record Closes (t : ScannerTable) (requests : List Sent) (config : SlotConfig) (triad : Triad) : Type 0 where
  pub session : Session
  pub registered : session_with t config.target ≡ Some session
  pub request : ℕ
  pub sent : Contains requests (numbered session request (closing (close_fields config triad)))

abbrev pub KeepsOrCloses : ScannerTable → List Sent → ℕ → SlotConfig → Triad → Type 0
KeepsOrCloses t requests number config triad = Keeps t number triad ⊎ Closes t requests config triad

-- the slot of this number has the connection that the request opens, and the request goes to the slot's target
pub record IsRequestOf (t : ScannerTable) (number stream : ℕ) (request : OpenFields) : Type 0 where
  pub config : SlotConfig
  pub at : slice_get t.profile.slots number ≡ Some config
  pub keeps : Keeps t number request.triad
  pub session : Session
  pub registered : session_with t config.target ≡ Some session
  pub stream_is : stream ≡ session.stream
  pub serial : request.triad.serial ≤ 65535
  pub vendor : request.triad.vendor ≡ t.profile.vendor
  pub originator : request.triad.originator ≡ t.profile.serial

abbrev pub RequestIsOf : ScannerTable → ℕ → ℕ → Request → Type 0
RequestIsOf t number stream registering = Unit {0}
RequestIsOf t number stream (opening large fields) = IsRequestOf t number stream fields
RequestIsOf t number stream (closing fields) = Unit {0}
RequestIsOf t number stream (requesting bytes) = IsExplicit bytes

abbrev pub SentIsOf : ScannerTable → ℕ → Sent → Type 0
SentIsOf t number sent = RequestIsOf t number sent.stream sent.request

-- a slot has the connection that the request opens, if it opens one
pub record HasSlot (t : ScannerTable) (sent : Sent) : Type 0 where
  pub number : ℕ
  pub is : SentIsOf t number sent

-- what an effect does
pub record Cares (t : ScannerTable) (effect : Effect) : Type 0 where
  pub profile : effect.table.profile ≡ t.profile
  pub streams : effect.table.streams ≡ t.streams
  pub requests : t.next_request ≤ effect.table.next_request
  pub serial : t.next_serial ≤ 65535 → effect.table.next_serial ≤ 65535
  pub slots :
      IsTidy t → IsLeft effect.table → (number : ℕ) (config : SlotConfig) (slot : Slot) (triad : Triad) →
      slice_get t.profile.slots number ≡ Some config → slice_get t.slots number ≡ Some slot → triad_in slot.state ≡ Some triad →
      KeepsOrCloses effect.table effect.sent number config triad
  pub opens : t.next_serial ≤ 65535 → AllByRecursion (HasSlot effect.table) effect.sent

-- what an effect on one slot does
pub record CaresAt (t : ScannerTable) (place : IndexedSlot) (effect : Effect) : Type 0 where
  pub profile : effect.table.profile ≡ t.profile
  pub streams : effect.table.streams ≡ t.streams
  pub requests : t.next_request ≤ effect.table.next_request
  pub serial : t.next_serial ≤ 65535 → effect.table.next_serial ≤ 65535
  pub elsewhere : (k : ℕ) → k ≢ place.number → slice_get effect.table.slots k ≡ slice_get t.slots k
  pub own :
      IsTidy t → IsLeft effect.table → (triad : Triad) → triad_in place.slot.state ≡ Some triad →
      KeepsOrCloses effect.table effect.sent place.number place.config triad
  pub opens : t.next_serial ≤ 65535 → AllByRecursion (SentIsOf effect.table place.number) effect.sent

-- ---- tables with the same slot

-- the sessions are those of the streams
same_session : (t u : ScannerTable) (target : Node) (session : Session) → u.streams ≡ t.streams → session_with t target ≡ Some session → session_with u target ≡ Some session
same_session t u target session same is = rw same is

keeps_on : (t u : ScannerTable) (number : ℕ) (triad : Triad) → slice_get u.slots number ≡ slice_get t.slots number → Keeps t number triad → Keeps u number triad
keeps_on t u number triad same keeps = record { slot = keeps.slot; there = same ∙ keeps.there; has = keeps.has }

closes_on : (t u : ScannerTable) (requests more : List Sent) (config : SlotConfig) (triad : Triad) → u.streams ≡ t.streams → Closes t requests config triad → Closes u (requests ++ more) config triad
closes_on t u requests more config triad same closes = record {
  session = closes.session;
  registered = same_session t u config.target closes.session same closes.registered;
  request = closes.request;
  sent = Contains-append_left requests more _ closes.sent;
}

closes_behind : (t : ScannerTable) (requests more : List Sent) (config : SlotConfig) (triad : Triad) → Closes t more config triad → Closes t (requests ++ more) config triad
closes_behind t requests more config triad closes = record {
  session = closes.session;
  registered = closes.registered;
  request = closes.request;
  sent = Contains-append_right requests more _ closes.sent;
}

-- the table has the same profile, the same streams, and the same connection of this slot
pub record SameAt (number : ℕ) (t u : ScannerTable) : Type 0 where
  pub profile : u.profile ≡ t.profile
  pub streams : u.streams ≡ t.streams
  pub keeps : (triad : Triad) → Keeps t number triad → Keeps u number triad

request_on : (t u : ScannerTable) (number stream : ℕ) (request : OpenFields) → SameAt number t u → IsRequestOf t number stream request → IsRequestOf u number stream request
request_on t u number stream request same is = record {
  config = is.config;
  at = subst (λ (p : ScannerProfile). slice_get p.slots number ≡ Some is.config) (sym same.profile) is.at;
  keeps = same.keeps request.triad is.keeps;
  session = is.session;
  registered = same_session t u is.config.target is.session same.streams is.registered;
  stream_is = is.stream_is;
  serial = is.serial;
  vendor = is.vendor ∙ ap (λ (p : ScannerProfile). p.vendor) (sym same.profile);
  originator = is.originator ∙ ap (λ (p : ScannerProfile). p.serial) (sym same.profile);
}

of_on : (t u : ScannerTable) (number stream : ℕ) (request : Request) → SameAt number t u → RequestIsOf t number stream request → RequestIsOf u number stream request
of_on t u number stream registering same is = tt
of_on t u number stream (opening large fields) same is = request_on t u number stream fields same is
of_on t u number stream (closing fields) same is = tt
of_on t u number stream (requesting bytes) same is = is

pub sent_on : (t u : ScannerTable) (number : ℕ) (requests : List Sent) → SameAt number t u → AllByRecursion (SentIsOf t number) requests → AllByRecursion (HasSlot u) requests
sent_on t u number requests same all =
    all_more (SentIsOf t number) (HasSlot u) (λ sent is. record { number = number; is = of_on t u number sent.stream sent.request same is }) requests all

-- the requests are still those of slots at a table that keeps the connections
pub still_have : (t u : ScannerTable) → ((number : ℕ) → SameAt number t u) → (requests : List Sent) → AllByRecursion (HasSlot t) requests → AllByRecursion (HasSlot u) requests
still_have t u same requests all =
    all_more (HasSlot t) (HasSlot u) (λ sent has. record { number = has.number; is = of_on t u has.number sent.stream sent.request (same has.number) has.is }) requests all

-- ---- from one slot to all

one_step : (b : Bool) (t : ScannerTable) (place : IndexedSlot) (effect : Effect) → Stands t place → CaresAt t place effect → IsTidy t → IsLeft effect.table → (number : ℕ) (config : SlotConfig) (slot : Slot) (triad : Triad) → (number == place.number) ≡ b → slice_get t.profile.slots number ≡ Some config → slice_get t.slots number ≡ Some slot → triad_in slot.state ≡ Some triad → KeepsOrCloses effect.table effect.sent number config triad
one_step true t place effect stands cares tidy left number config slot triad is at there has =
    let same : number ≡ place.number = number_is number place.number is in
    let configs : place.config ≡ config = same_Some place.config config (sym stands.config ∙ subst (λ (n : ℕ). slice_get t.profile.slots n ≡ Some config) same at) in
    let slots : slot ≡ place.slot = same_Some slot place.slot (sym (subst (λ (n : ℕ). slice_get t.slots n ≡ Some slot) same there) ∙ stands.slot) in
    let own = cares.own tidy left triad (subst (λ (s : Slot). triad_in s.state ≡ Some triad) slots has) in
    subst (λ (n : ℕ). KeepsOrCloses effect.table effect.sent n config triad) (sym same) (subst (λ (c : SlotConfig). KeepsOrCloses effect.table effect.sent place.number c triad) configs own)
one_step false t place effect stands cares tidy left number config slot triad is at there has =
    inl (record { slot = slot; there = cares.elsewhere number (eqb-false number place.number is) ∙ there; has = has })

pub cares_of : (t : ScannerTable) (place : IndexedSlot) (effect : Effect) → Stands t place → CaresAt t place effect → Cares t effect
cares_of t place effect stands cares = record {
  profile = cares.profile;
  streams = cares.streams;
  requests = cares.requests;
  serial = cares.serial;
  slots = λ tidy left number config slot triad at there has. one_step (number == place.number) t place effect stands cares tidy left number config slot triad refl at there has;
  opens = λ below. sent_on effect.table effect.table place.number effect.sent (record { profile = refl; streams = refl; keeps = λ triad keeps. keeps }) (cares.opens below);
}

-- ---- one effect after another

left_before : (n m : ℕ) → n ≤ m → m ≤ 2 ^ 48 → n ≤ 2 ^ 48
left_before n m later left = omega (arith, later, left)

-- after the first effect the connection is kept or closed, and the second one keeps or closes what is kept
both_care : (t : ScannerTable) (first second : Effect) → Cares t first → Cares first.table second → IsTidy t → IsLeft second.table → (number : ℕ) (config : SlotConfig) (triad : Triad) → slice_get t.profile.slots number ≡ Some config → KeepsOrCloses first.table first.sent number config triad → KeepsOrCloses second.table (first.sent ++ second.sent) number config triad
both_care t first second one two tidy left number config triad at (inr closes) = inr (closes_on first.table second.table first.sent second.sent config triad two.streams closes)
both_care t first second one two tidy left number config triad at (inl keeps) =
    let config_at = subst (λ (p : ScannerProfile). slice_get p.slots number ≡ Some config) (sym one.profile) at in
    let tidy_still = ap (λ (p : ScannerProfile). p.tidy) one.profile ∙ tidy in
    behind (two.slots tidy_still left number config keeps.slot triad config_at keeps.there keeps.has)
  where
    behind : KeepsOrCloses second.table second.sent number config triad → KeepsOrCloses second.table (first.sent ++ second.sent) number config triad
    behind (inl still) = inl still
    behind (inr closes) = inr (closes_behind second.table first.sent second.sent config triad closes)

-- what the first effect requested is still that of slots after the second one
pub then_cares : (t : ScannerTable) (first second : Effect) → Cares t first → (t.next_serial ≤ 65535 → AllByRecursion (HasSlot second.table) first.sent) → Cares first.table second → Cares t (after first second)
then_cares t first second one still two = record {
  profile = two.profile ∙ one.profile;
  streams = two.streams ∙ one.streams;
  requests = omega (arith, one.requests, two.requests);
  serial = λ below. two.serial (one.serial below);
  slots = λ tidy left number config slot triad at there has.
      both_care t first second one two tidy left number config triad at
      (one.slots tidy (left_before first.table.next_request second.table.next_request two.requests left) number config slot triad at there has);
  opens = λ below. all_both (HasSlot second.table) first.sent second.sent (still below) (two.opens (one.serial below));
}

-- the first effect requests nothing
pub quiet_then_cares : (t : ScannerTable) (first second : Effect) → first.sent ≡ [] → Cares t first → Cares first.table second → Cares t (after first second)
quiet_then_cares t first second quiet one two = then_cares t first second one (λ below. subst (AllByRecursion (HasSlot second.table)) (sym quiet) tt) two

-- ---- effects on slots, one after another

-- the effect changes none but these slots
pub record CaresEach (t : ScannerTable) (places : List IndexedSlot) (effect : Effect) : Type 0 where
  pub cares : Cares t effect
  pub elsewhere : (k : ℕ) → Each (λ place. k ≢ place.number) places → slice_get effect.table.slots k ≡ slice_get t.slots k

pub cares_nothing : (t : ScannerTable) → Cares t (nothing t)
cares_nothing t = record {
  profile = refl;
  streams = refl;
  requests = omega arith;
  serial = λ below. below;
  slots = λ tidy left number config slot triad at there has. inl (record { slot = slot; there = there; has = has });
  opens = λ below. tt;
}

pub each_cares : (Q : IndexedSlot → Type 0) (effect : ScannerTable → IndexedSlot → Effect) → ((t : ScannerTable) (place : IndexedSlot) → Stands t place → Q place → CaresAt t place (effect t place)) → (places : List IndexedSlot) (t : ScannerTable) → Each (Stands t) places → EachTwo Apart places → Each Q places → CaresEach t places (on_each effect places t)
each_cares Q effect all [] t stand apart holds = record { cares = cares_nothing t; elsewhere = λ k away. refl }
each_cares Q effect all (place ∷ places) t stand apart holds =
    let first = effect t place in
    let one = all t place stand.0 holds.0 in
    let u = (effect t place).table in
    let rest = on_each effect places u in
    let local : Local place.number t (effect t place).table = record { profile = one.profile; elsewhere = one.elsewhere } in
    let two = each_cares Q effect all places u (stand_on t u place.number places local apart.0 stand.1) apart.1 holds.1 in
    let same : SameAt place.number (effect t place).table (on_each effect places (effect t place).table).table = record { profile = two.cares.profile; streams = two.cares.streams; keeps = λ triad keeps. keeps_on u rest.table place.number triad (two.elsewhere place.number apart.0) keeps } in
    record {
      cares = then_cares t first rest (cares_of t place first stand.0 one) (λ below. sent_on u rest.table place.number first.sent same (one.opens below)) two.cares;
      elsewhere = λ k away. two.elsewhere k away.1 ∙ one.elsewhere k away.0;
    }

-- ---- effects on one slot

at_nothing : (t : ScannerTable) (place : IndexedSlot) → Stands t place → CaresAt t place (nothing t)
at_nothing t place stands = record {
  profile = refl;
  streams = refl;
  requests = omega arith;
  serial = λ below. below;
  elsewhere = λ k other. refl;
  own = λ tidy left triad has. inl (record { slot = place.slot; there = stands.slot; has = has });
  opens = λ below. tt;
}

-- the slot changes, and keeps its connection if it has one
pub at_changed : (t : ScannerTable) (place : IndexedSlot) (slot : Slot) (reported : List Notice) → Stands t place → (IsTidy t → IsLeft t → (triad : Triad) → triad_in place.slot.state ≡ Some triad → triad_in slot.state ≡ Some triad) → CaresAt t place (changed t place slot reported)
at_changed t place slot reported stands still = record {
  profile = refl;
  streams = refl;
  requests = omega arith;
  serial = λ below. below;
  elsewhere = λ k other. get_other place.number k t.slots slot other;
  own = λ tidy left triad has. inl (record { slot = slot; there = get_same place.number t.slots slot place.slot stands.slot; has = still tidy left triad has });
  opens = λ below. tt;
}

none_left : (n : ℕ) → nat_le n (2 ^ 48) ≡ false → n ≤ 2 ^ 48 → ⊥
none_left n none left = absurd (grind (arith, nat_tests))

-- the triad of a link
pub link_triad : (state : SlotState) (link : Link) (triad : Triad) → link_in state ≡ Some link → triad_in state ≡ Some triad → link.triad ≡ triad
link_triad Idle link triad from has = absurd cc
link_triad (Opening o) link triad from has = ap (λ (l : Link). l.triad) (sym (same_Some (requested_link o.requested) link from)) ∙ same_Some o.requested.triad triad has
link_triad (Established c) link triad from has = ap (λ (l : Link). l.triad) (sym (same_Some c.link link from)) ∙ same_Some c.link.triad triad has
link_triad (TimedOut other) link triad from has = ap (λ (l : Link). l.triad) (sym (same_Some other link from)) ∙ same_Some other.triad triad has
link_triad (Closing c) link triad from has = absurd cc

-- the slot closes its connection
pub at_close : (b : Bool) (t : ScannerTable) (place : IndexedSlot) (link : Link) (desired_up : Bool) (session : Session) → has_request t ≡ b → Stands t place → link_in place.slot.state ≡ Some link → session_with t place.config.target ≡ Some session → CaresAt t place (cond b (close_requested t place link desired_up session) (exhausted t place))
at_close true t place link desired_up session is stands from registered = record {
  profile = refl;
  streams = refl;
  requests = omega arith;
  serial = λ below. below;
  elsewhere = λ k other. get_other place.number k t.slots (closing_slot t link desired_up place.slot) other;
  own = λ tidy left triad has.
      inr (subst (Closes (close_requested t place link desired_up session).table (close_requested t place link desired_up session).sent place.config) (link_triad place.slot.state link triad from has)
      (record { session = session; registered = registered; request = t.next_request; sent = Contains-push [] _ }));
  opens = λ below. (tt, tt);
}
at_close false t place link desired_up session is stands from registered =
    at_changed t place (resigned place.slot) (notice.NoIds place.number ∷ []) stands (λ tidy left triad has. absurd (none_left t.next_request is left))

serial_within : (b : Bool) (serial : ℕ) → (serial == 65535) ≡ b → serial ≤ 65535 → cond b 1 (serial + 1) ≤ 65535
serial_within true serial is below = omega arith
serial_within false serial is below = omega (arith, below, below_end)
  where
    below_end : serial ≢ 65535
    below_end = eqb-false serial 65535 is

-- the slot opens, and had no connection
at_open : (b : Bool) (t : ScannerTable) (place : IndexedSlot) (session : Session) → Stands t place → (IsTidy t → (triad : Triad) → triad_in place.slot.state ≡ Some triad → ⊥) → session_with t place.config.target ≡ Some session → CaresAt t place (cond b (open_requested t place session) (exhausted t place))
at_open true t place session stands none registered = record {
  profile = refl;
  streams = refl;
  requests = omega arith;
  serial = λ below. serial_within (t.next_serial == 65535) t.next_serial refl below;
  elsewhere = λ k other. get_other place.number k t.slots (opening_slot t place) other;
  own = λ tidy left triad has. absurd (none tidy triad has);
  opens = λ below. (
    record {
      config = place.config;
      at = stands.config;
      keeps = record { slot = opening_slot t place; there = get_same place.number t.slots (opening_slot t place) place.slot stands.slot; has = refl };
      session = session;
      registered = registered;
      stream_is = refl;
      serial = below;
      vendor = refl;
      originator = refl;
    },
    tt,
  );
}
at_open false t place session stands none registered =
    at_changed t place (resigned place.slot) (notice.NoIds place.number ∷ []) stands (λ tidy left triad has. absurd (none tidy triad has))

at_within : (t : ScannerTable) (place : IndexedSlot) (session : Option Session) → IsOfTarget t place.config.target session → Stands t place → (IsTidy t → (triad : Triad) → triad_in place.slot.state ≡ Some triad → ⊥) → CaresAt t place (opened_within t place session)
at_within t place None is stands none = at_nothing t place stands
at_within t place (Some session) is stands none = at_open (can_open t place.config) t place session stands none (is session refl)

at_cleared : (t : ScannerTable) (place : IndexedSlot) (link : Link) (session : Option Session) → IsOfTarget t place.config.target session → Stands t place → link_in place.slot.state ≡ Some link → CaresAt t place (cleared_within t place link session)
at_cleared t place link None is stands from = at_nothing t place stands
at_cleared t place link (Some session) is stands from = at_close (has_request t) t place link place.slot.desired_up session refl stands from (is session refl)

tidy_not : (t : ScannerTable) → t.profile.tidy ≡ false → IsTidy t → ⊥
tidy_not t untidy tidy = absurd (let e : true ≡ false = sym tidy ∙ untidy in cc)

timed_out_step : (b : Bool) (t : ScannerTable) (place : IndexedSlot) (link : Link) (session : Option Session) → t.profile.tidy ≡ b → IsOfTarget t place.config.target session → Stands t place → link_in place.slot.state ≡ Some link → CaresAt t place (cond b (cleared_within t place link session) (opened_within t place session))
timed_out_step true t place link session tidies is stands from = at_cleared t place link session is stands from
timed_out_step false t place link session tidies is stands from = at_within t place session is stands (λ tidy triad has. tidy_not t tidies tidy)

idle_none : (state : SlotState) (triad : Triad) → state ≡ Idle → triad_in state ≡ Some triad → ⊥
idle_none state triad is has = absurd (let e : triad_in Idle ≡ Some triad = subst (λ (s : SlotState). triad_in s ≡ Some triad) is has in cc)

closing_none : (state : SlotState) (triad : Triad) → triad_in state ≡ None → triad_in state ≡ Some triad → ⊥
closing_none state triad is has = absurd (let e : None ≡ Some triad = sym is ∙ has in cc)

at_from : (t : ScannerTable) (place : IndexedSlot) (session : Option Session) (state : SlotState) → place.slot.state ≡ state → IsOfTarget t place.config.target session → Stands t place → is_closed state ≡ true → CaresAt t place (opened_from t place session state)
at_from t place session Idle state is stands closed_before = at_within t place session is stands (λ tidy triad has. idle_none place.slot.state triad state has)
at_from t place session (TimedOut link) state is stands closed_before = timed_out_step t.profile.tidy t place link session refl is stands (ap link_in state)
at_from t place session (Opening o) state is stands closed_before = absurd cc
at_from t place session (Established c) state is stands closed_before = absurd cc
at_from t place session (Closing c) state is stands closed_before = absurd cc

pub at_opened : (t : ScannerTable) (place : IndexedSlot) → Stands t place → IsClosedSlot place → CaresAt t place (opened t place)
unfolding opened
at_opened t place stands closed_before = at_from t place (asking_session t place) place.slot.state refl (asks_in t place.config.target place.slot.state) stands closed_before

-- ---- connections that are given up

left_step : (b : Bool) (link : Link) → b ≡ true → triad_in (cond b (TimedOut link) Idle) ≡ Some link.triad
left_step true link tidy = refl
left_step false link tidy = absurd cc

pub left_has : (t : ScannerTable) (link : Link) → IsTidy t → triad_in (left_state t link) ≡ Some link.triad
left_has t link tidy = left_step t.profile.tidy link tidy

-- a slot that has the connection of this link keeps it as timed out
pub left_keeps : (t : ScannerTable) (place : IndexedSlot) (link : Link) → link_in place.slot.state ≡ Some link → IsTidy t → (triad : Triad) → triad_in place.slot.state ≡ Some triad → triad_in (left_state t link) ≡ Some triad
left_keeps t place link from tidy triad has = left_has t link tidy ∙ ap (λ (x : Triad). Some x) (link_triad place.slot.state link triad from has)

at_given : (t : ScannerTable) (place : IndexedSlot) (state : SlotState) → place.slot.state ≡ state → Stands t place → CaresAt t place (given_up_state t place state)
at_given t place Idle is stands = at_nothing t place stands
at_given t place (Opening o) is stands =
    at_changed t place (failed_slot t (left_state t (requested_link o.requested)) place.slot) [] stands (λ tidy left triad has. left_keeps t place (requested_link o.requested) (ap link_in is) tidy triad has)
at_given t place (Established c) is stands = at_nothing t place stands
at_given t place (TimedOut link) is stands = at_nothing t place stands
at_given t place (Closing c) is stands = at_changed t place (unclosed_slot t c place.slot) [] stands (λ tidy left triad has. absurd (closing_none place.slot.state triad (ap triad_in is) has))

at_expired : (t : ScannerTable) (place : IndexedSlot) (state : SlotState) → place.slot.state ≡ state → Stands t place → CaresAt t place (expired_state t place state)
at_expired t place Idle is stands = at_nothing t place stands
at_expired t place (Opening o) is stands = at_nothing t place stands
at_expired t place (Established c) is stands = at_changed t place (failed_slot t (TimedOut c.link) place.slot) [] stands (λ tidy left triad has. sym (ap triad_in is) ∙ has)
at_expired t place (TimedOut link) is stands = at_nothing t place stands
at_expired t place (Closing c) is stands = at_nothing t place stands

-- ---- all slots

ready_rests : (clock : Ms) (place : IndexedSlot) → is_ready_slot clock place ≡ true → IsClosedSlot place
ready_rests clock place ready = (and_parts (is_closed place.slot.state) _ (and_parts (needs_request place.slot) _ ready).1).0

pub ready_stand : (t : ScannerTable) → Each (Stands t) (ready_slots t)
ready_stand t = each_filter (Stands t) (is_ready_slot t.clock) (indexed_slots t) (each_stands t)

pub ready_apart : (t : ScannerTable) → EachTwo Apart (ready_slots t)
ready_apart t = two_filter Apart (is_ready_slot t.clock) (indexed_slots t) (slots_apart t)

pub ready_rest : (t : ScannerTable) → Each IsClosedSlot (ready_slots t)
ready_rest t = each_more (λ place. is_ready_slot t.clock place ≡ true) IsClosedSlot (ready_rests t.clock) (ready_slots t) (each_passes (is_ready_slot t.clock) (indexed_slots t))

pub ready_cares : (t : ScannerTable) → Cares t (ready_opened t)
unfolding ready_opened
ready_cares t = (each_cares IsClosedSlot opened at_opened (ready_slots t) t (ready_stand t) (ready_apart t) (ready_rest t)).cares

pub target_cares : (target : Node) (t : ScannerTable) → Cares t (target_opened target t)
unfolding target_opened
target_cares target t =
    (each_cares IsClosedSlot opened at_opened (filter (is_with target) (ready_slots t)) t
    (each_filter (Stands t) (is_with target) (ready_slots t) (ready_stand t)) (two_filter Apart (is_with target) (ready_slots t) (ready_apart t)) (each_filter IsClosedSlot (is_with target) (ready_slots t) (ready_rest t))).cares

pub given_at : (t : ScannerTable) (place : IndexedSlot) → Stands t place → Any place → CaresAt t place (given_up t place)
given_at t place stands any = at_given t place place.slot.state refl stands

pub lost_cares : (target : Node) (t : ScannerTable) → Cares t (target_lost target t)
unfolding target_lost
lost_cares target t =
    (each_cares Any given_up given_at (filter (is_with target) (indexed_slots t)) t (each_filter (Stands t) (is_with target) (indexed_slots t) (each_stands t))
    (two_filter Apart (is_with target) (indexed_slots t) (slots_apart t)) (each_any (filter (is_with target) (indexed_slots t)))).cares

given_cares : (t : ScannerTable) → Cares t (all_given_up t)
unfolding all_given_up
given_cares t =
    (each_cares Any given_up given_at (filter (is_overdue t.clock) (indexed_slots t)) t (each_filter (Stands t) (is_overdue t.clock) (indexed_slots t) (each_stands t))
    (two_filter Apart (is_overdue t.clock) (indexed_slots t) (slots_apart t)) (each_any (filter (is_overdue t.clock) (indexed_slots t)))).cares

expired_at : (t : ScannerTable) (place : IndexedSlot) → Stands t place → Any place → CaresAt t place (expired t place)
expired_at t place stands any = at_expired t place place.slot.state refl stands

expired_cares : (t : ScannerTable) → Cares t (all_expired t)
unfolding all_expired
expired_cares t =
    (each_cares Any expired expired_at (expired_slots t) t
    (each_in_order (Stands t) by_deadline (filter (has_expired t.clock) (indexed_slots t)) (each_filter (Stands t) (has_expired t.clock) (indexed_slots t) (each_stands t)))
    (two_in_order by_deadline (filter (has_expired t.clock) (indexed_slots t)) (two_filter Apart (has_expired t.clock) (indexed_slots t) (slots_apart t))) (each_any (expired_slots t))).cares

-- slots that give up or time out request nothing
each_quiet : (effect : ScannerTable → IndexedSlot → Effect) → ((t : ScannerTable) (place : IndexedSlot) → (effect t place).sent ≡ []) → (places : List IndexedSlot) (t : ScannerTable) → (on_each effect places t).sent ≡ []
each_quiet effect none [] t = refl
each_quiet effect none (place ∷ places) t =
    let one = none t place in
    let rest = each_quiet effect none places (effect t place).table in
    rw (one, rest) refl

given_quiet : (t : ScannerTable) (place : IndexedSlot) (state : SlotState) → (given_up_state t place state).sent ≡ []
given_quiet t place Idle = refl
given_quiet t place (Opening o) = refl
given_quiet t place (Established c) = refl
given_quiet t place (TimedOut link) = refl
given_quiet t place (Closing c) = refl

expired_quiet : (t : ScannerTable) (place : IndexedSlot) (state : SlotState) → (expired_state t place state).sent ≡ []
expired_quiet t place Idle = refl
expired_quiet t place (Opening o) = refl
expired_quiet t place (Established c) = refl
expired_quiet t place (TimedOut link) = refl
expired_quiet t place (Closing c) = refl

all_expired_quiet : (t : ScannerTable) → (all_expired t).sent ≡ []
unfolding all_expired
all_expired_quiet t = each_quiet expired (λ u place. expired_quiet u place place.slot.state) (expired_slots t) t

all_given_quiet : (t : ScannerTable) → (all_given_up t).sent ≡ []
unfolding all_given_up
all_given_quiet t = each_quiet given_up (λ u place. given_quiet u place place.slot.state) (filter (is_overdue t.clock) (indexed_slots t)) t

pub lost_quiet : (target : Node) (t : ScannerTable) → (target_lost target t).sent ≡ []
unfolding target_lost
lost_quiet target t = each_quiet given_up (λ u place. given_quiet u place place.slot.state) (filter (is_with target) (indexed_slots t)) t

pub advanced_cares : (t : ScannerTable) → Cares t (advanced t)
advanced_cares t =
    let first = all_expired t in
    let second = all_given_up first.table in
    let third = ready_opened second.table in
    let quiet : (all_expired t).sent ++ (all_given_up (all_expired t).table).sent ≡ [] = rw (all_expired_quiet t, all_given_quiet (all_expired t).table) refl in
    quiet_then_cares t (after first second) third quiet (quiet_then_cares t first second (all_expired_quiet t) (expired_cares t) (given_cares first.table)) (ready_cares second.table)
