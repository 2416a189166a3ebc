-- What a scanner's frames ask for: each request to open asks for the points of the slot that has its number, now and later.
use Rattle.std.proofs.Common.{◌≡◌, ◌≤◌, ◌<◌, ℕ, Bool, true, List, [], ◌∷◌, map, Some, None, Ok, refl, sym, subst, arith}
use Rattle.std.specs.Int.{w64}
use Rattle.std.specs.List.{AllByRecursion, list_all}
use Rattle.std.proofs.lemmas.Bool.{and_parts}
use Rattle.std.proofs.lemmas.Nat.{from_le_bytes-to_le_bytes_8}
use Rattle.cip_encap.specs.ReadsBack.{ItemsReadBack}
use Rattle.cip_epath.specs.ReadsBack.{PathReadsBack}
use Rattle.cip_events.specs.declared.event.Answer.{Answer}
use Rattle.cip_events.specs.declared.event.Event.{Event}
use Rattle.cip_events.specs.declared.event.Frame.{Frame}
use Rattle.cip_fwdopen.specs.Open.{OpenFields}
use Rattle.adapter_table.specs.Connections.{Row}
use Rattle.adapter_table.specs.declared.profile.Profile.{Profile}
use Rattle.scanner_table.specs.declared.profile.SlotConfig.{SlotConfig}
use Rattle.scanner_table.specs.declared.table.ScannerTable.{ScannerTable}
use Rattle.scanner_table.specs.Profiles.{has_lengths, profile_fault}
use Rattle.scanner_table.specs.Requests.{Request, registering, opening, closing, requesting, Sent, is_large, open_fields, sent_frame}
use Rattle.scanner_table.specs.Slots.{IndexedSlot, slot_at}
use Rattle.scanner_table.specs.Step.{scanner_step}
use Rattle.device_laws.specs.Newest.{OpeningsAreNumbered}
use Rattle.scanner_table.specs.Lemmas.SlotLookups.{slot_is}
use Rattle.scanner_table.specs.Lemmas.Slotwise.{Goes}
use Rattle.answer_sizes.specs.Sizes.{IsShortFrame}
use Rattle.device_laws.specs.Lemmas.Texts.{again}
use Rattle.device_laws.specs.ProductionRuns.{opening_number}
use Rattle.device_laws.specs.Lemmas.RequestTexts.{HoldsAsRead, read_back}
use Rattle.answer_sizes.specs.Lemmas.SlotLengths.{has_all_lengths}
use Rattle.schedule_laws.specs.Lemmas.Lists.{all_get}
use Rattle.schedule_laws.specs.JoinedPoints.{HasPath, JoinsPoints}
use Rattle.schedule_laws.proofs.Asking.{AsksFor, OpeningsCome, frame_comes, slot_asks}
use Rattle.schedule_laws.proofs.RequestedOpenings.{Draws, WasNumbered, was_numbered, IsRequestOf, RequestIsFor, SentIsFor, step_goes, step_opens}

-- ---- a scanner's table later on

pub record IsLater (t u : ScannerTable) : Type 0 where
  pub requests : t.next_request ≤ u.next_request
  pub was : (place : IndexedSlot) (number : ℕ) → slot_at u place.number ≡ Some place → opening_number place.slot.state ≡ Some number → number < t.next_request → WasNumbered t place.config number

pub same_later : (t : ScannerTable) → IsLater t t
same_later t = record {
  requests = omega arith;
  was = λ place number there has less. record { place = place; there = there; config_is = refl; has = has };
}

goes_later : (t u : ScannerTable) → Goes Draws t u → IsLater t u
goes_later t u goes = let later = goes.later in record {
  requests = later.requests;
  was = λ place number there has less. was_numbered t u place number goes there has less;
}

pub step_later : (t : ScannerTable) (happens : Event) (answer : Answer) (u : ScannerTable) → scanner_step t happens ≡ Ok (answer, u) → IsLater t u
step_later t happens answer u is = goes_later t u (step_goes t happens (answer, u) is)

-- ---- requests and connections of slots

-- a request of this number was sent, and asks for the points of the slot that has it
pub record NamesSlots (t : ScannerTable) (number : ℕ) (request : OpenFields) : Type 0 where
  pub last : number < t.next_request
  pub slots : (place : IndexedSlot) → slot_at t place.number ≡ Some place → opening_number place.slot.state ≡ Some number → AsksFor place.config request

pub names_later : (t u : ScannerTable) (number : ℕ) (request : OpenFields) → IsLater t u → NamesSlots t number request → NamesSlots u number request
names_later t u number request later names_slots = record {
  last = omega (arith, names_slots.last, later.requests);
  slots = λ place there has.
      let was = later.was place number there has names_slots.last in
      subst (λ (c : SlotConfig). AsksFor c request) was.config_is (names_slots.slots was.place was.there was.has);
}

-- the connection joins the points of the slot that has the number
pub record JoinsSlots (t : ScannerTable) (number : ℕ) (profile : Profile) (row : Row) : Type 0 where
  pub last : number < t.next_request
  pub slots : (place : IndexedSlot) → slot_at t place.number ≡ Some place → opening_number place.slot.state ≡ Some number → JoinsPoints place.config profile row

pub joins_later : (t u : ScannerTable) (number : ℕ) (profile : Profile) (row : Row) → IsLater t u → JoinsSlots t number profile row → JoinsSlots u number profile row
joins_later t u number profile row later joined = record {
  last = omega (arith, joined.last, later.requests);
  slots = λ place there has.
      let was = later.was place number there has joined.last in
      subst (λ (c : SlotConfig). JoinsPoints c profile row) was.config_is (joined.slots was.place was.there was.has);
}

-- ---- the frames of a step

abbrev IsSized : SlotConfig → Type 0
IsSized config = has_lengths config ≡ true

all_sized : (configs : List SlotConfig) → list_all has_lengths configs ≡ true → AllByRecursion IsSized configs
all_sized [] is = tt
all_sized (config ∷ configs) is = let parts = and_parts (has_lengths config) (list_all has_lengths configs) is in (parts.0, all_sized configs parts.1)

-- what is known of the slots of a table
pub record HasSlots (t : ScannerTable) : Type 0 where
  pub paths : AllByRecursion HasPath t.profile.slots
  pub faultless : profile_fault t.profile ≡ None
  pub few : t.next_request ≤ 281474976710657

-- a number of 48 bits comes back from its field
number_back : (n : ℕ) → n < 281474976710657 → again w64 n ≡ n
number_back n few = from_le_bytes-to_le_bytes_8 n (omega (arith, few))

open_asks : PathReadsBack → (config : SlotConfig) (large : Bool) (fields : OpenFields) → HasPath config → IsSized config → IsRequestOf config large fields → AsksFor config (read_back large fields)
open_asks reads config large fields has sized is =
    let asks : AsksFor config (read_back (is_large config) (open_fields is.profile config is.requested)) = slot_asks reads is.profile config is.requested has sized in
    subst (λ (b : Bool). AsksFor config (read_back b fields)) (sym is.large_is) (subst (λ (f : OpenFields). AsksFor config (read_back (is_large config) f)) (sym is.fields_are) asks)

request_names : PathReadsBack → (from : ℕ) (t : ScannerTable) (number : ℕ) (request : Request) → HasSlots t → RequestIsFor from t number request → HoldsAsRead (NamesSlots t (again w64 number)) request
request_names reads from t number registering slots is = tt
request_names reads from t number (opening large fields) slots is =
    let same : again w64 number ≡ number = number_back number (omega (arith, is.last, slots.few)) in
    let names_slots : NamesSlots t number (read_back large fields) = record {
      last = is.last;
      slots = λ place there has.
          let at = slot_is t place.number place there in
          let stands = at.stands in
          open_asks reads place.config large fields (all_get HasPath t.profile.slots place.number place.config slots.paths stands.config)
          (all_get IsSized t.profile.slots place.number place.config (all_sized t.profile.slots (has_all_lengths t.profile slots.faultless)) stands.config) (is.slots place there has);
    } in
    subst (λ (n : ℕ). NamesSlots t n (read_back large fields)) (sym same) names_slots
request_names reads from t number (closing fields) slots is = tt
request_names reads from t number (requesting bytes) slots is = is

-- the requests to open in the frame ask for the points of their slots
abbrev pub FrameAsks : ScannerTable → Frame → Type 0
FrameAsks t frame = OpeningsCome (NamesSlots t) frame.bytes

frames_name : PathReadsBack → ItemsReadBack → (from : ℕ) (t : ScannerTable) (requests : List Sent) → HasSlots t → AllByRecursion (SentIsFor from t) requests → AllByRecursion IsShortFrame (map sent_frame requests) → AllByRecursion (FrameAsks t) (map sent_frame requests)
frames_name reads back from t [] slots are short = tt
frames_name reads back from t (sent ∷ requests) slots are short = (
  frame_comes back (NamesSlots t) sent (request_names reads from t sent.number sent.request slots are.0) short.0,
  frames_name reads back from t requests slots are.1 short.1,
)

pub step_asks : PathReadsBack → ItemsReadBack → (t : ScannerTable) (happens : Event) (answer : Answer) (u : ScannerTable) → scanner_step t happens ≡ Ok (answer, u) → OpeningsAreNumbered t → HasSlots u → AllByRecursion IsShortFrame answer.frames → AllByRecursion (FrameAsks u) answer.frames
step_asks reads back t happens answer u is all slots short =
    let opens = step_opens t happens (answer, u) is all in
    subst (AllByRecursion (FrameAsks u)) (sym opens.frames)
    (frames_name reads back t.next_request u opens.requests slots opens.are_for (subst (AllByRecursion IsShortFrame) opens.frames short))
