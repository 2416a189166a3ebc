-- A whole table stays whole when one slot changes, when numbers are used up, and when streams open and close.
use Rattle.std.proofs.Common.{◌≡◌, ◌≤◌, ℕ, zero, suc, ◌+◌, Bool, true, false, cond, ◌||◌, List, [], ◌∷◌, ◌++◌, length, map, filter, find, slice_get, slice_set, Option, Some, refl, sym, ◌∙◌, ap, subst, arith, length-append}
use Rattle.std.specs.List.{list_any, AllByRecursion}
use Rattle.std.proofs.lemmas.Bool.{or_parts}
use Rattle.std.proofs.lemmas.Grind.{common_steps}
use Rattle.std.proofs.lemmas.List.Folds.{list_any-append}
use Rattle.std.proofs.lemmas.Option.{same_Some}
use Rattle.base_lemmas.specs.Numbers.{other_number}
use Rattle.scanner_table.specs.declared.profile.SlotConfig.{SlotConfig}
use Rattle.scanner_table.specs.declared.profile.ScannerProfile.{ScannerProfile}
use Rattle.scanner_table.specs.declared.slot.Slot.{Slot}
use Rattle.scanner_table.specs.declared.slot.SlotState.{SlotState}
use Rattle.scanner_table.specs.declared.slot.SlotState.TheVariants.{Idle, Opening, Established, TimedOut, Closing}
use Rattle.scanner_table.specs.declared.table.ScannerTable.{ScannerTable}
use Rattle.scanner_table.specs.declared.table.Stage.{Stage}
use Rattle.scanner_table.specs.declared.table.TargetStream.{TargetStream}
use Rattle.scanner_table.specs.Slots.{IndexedSlot, indexed_from, indexed_slots, with_slot}
use Rattle.scanner_table.specs.Sessions.{is_stream, is_to, staged_stream}
use Rattle.scanner_table.specs.Effects.{Effect, on_each, nothing}
use Rattle.scanner_table.specs.WellFormed.{FitsState, FitsSlot, SlotsFit, IsDesired, IdsDiffer, RequestsDiffer, StreamsDiffer, IsWellFormed}

-- ---- later tables

pub state_later : (r s k l : ℕ) (desired_up : Bool) (state : SlotState) → r ≤ s → k ≤ l → FitsState r k desired_up state → FitsState s l desired_up state
state_later r s k l desired_up Idle up on fits = tt
state_later r s k l desired_up (Opening o) up on fits = (fits.0, omega (arith, fits.1))
state_later r s k l desired_up (Established c) up on fits =
    (fits.0, record { opening = omega (arith, fits.1.opening); o_t_api_ms = fits.1.o_t_api_ms; t_o_api_ms = fits.1.t_o_api_ms; due = omega (arith, fits.1.due) })
state_later r s k l desired_up (TimedOut link) up on fits = fits
state_later r s k l desired_up (Closing c) up on fits = omega (arith, fits)

pub slot_later : (r s k l : ℕ) (config : SlotConfig) (slot : Slot) → r ≤ s → k ≤ l → FitsSlot r k config slot → FitsSlot s l config slot
slot_later r s k l config slot up on fits = record { output = fits.output; image = fits.image; state = state_later r s k l slot.desired_up slot.state up on fits.state; watchdog = fits.watchdog }

pub slots_later : (r s k l : ℕ) (configs : List SlotConfig) (slots : List Slot) → r ≤ s → k ≤ l → SlotsFit r k configs slots → SlotsFit s l configs slots
slots_later r s k l [] [] up on fit = tt
slots_later r s k l [] (slot ∷ slots) up on fit = absurd fit
slots_later r s k l (config ∷ configs) [] up on fit = absurd fit
slots_later r s k l (config ∷ configs) (slot ∷ slots) up on fit = (slot_later r s k l config slot up on fit.0, slots_later r s k l configs slots up on fit.1)

-- a table with the same profile and clock, and no fewer requests
pub record Later (t u : ScannerTable) : Type 0 where
  pub profile : u.profile ≡ t.profile
  pub clock : u.clock ≡ t.clock
  pub requests : t.next_request ≤ u.next_request

pub same_later : (t : ScannerTable) → Later t t
same_later t = record { profile = refl; clock = refl; requests = omega arith }

pub later_later : (t u v : ScannerTable) → Later t u → Later u v → Later t v
later_later t u v first next = record { profile = next.profile ∙ first.profile; clock = next.clock ∙ first.clock; requests = omega (arith, first.requests, next.requests) }

-- ---- indexed slots

-- the indexed slot has a configuration of the table's profile, and fits it
pub record IsAt (t : ScannerTable) (indexed : IndexedSlot) : Type 0 where
  pub config : slice_get t.profile.slots indexed.number ≡ Some indexed.config
  pub fits : FitsSlot t.next_request t.clock.0 indexed.config indexed.slot
  pub desires : t.profile.tidy ≡ false → IsDesired indexed.slot

pub is_at_later : (t u : ScannerTable) (indexed : IndexedSlot) → Later t u → IsAt t indexed → IsAt u indexed
is_at_later t u indexed later at = record {
  config = rw later.profile at.config;
  fits = rw later.clock (slot_later t.next_request u.next_request t.clock.0 t.clock.0 indexed.config indexed.slot later.requests (omega arith) at.fits);
  desires = λ untidy. at.desires (ap (λ (p : ScannerProfile). p.tidy) (sym later.profile) ∙ untidy);
}

-- it holds of each indexed slot
abbrev pub Each : (IndexedSlot → Type 0) → List IndexedSlot → Type 0
Each P [] = Unit {0}
Each P (indexed ∷ rest) = P indexed × Each P rest

pub each_filter : (P : IndexedSlot → Type 0) (p : IndexedSlot → Bool) (rest : List IndexedSlot) → Each P rest → Each P (filter p rest)
each_filter P p [] all = tt
each_filter P p (indexed ∷ rest) all =
    elim (p indexed) as (λ b. Each P (cond b (indexed ∷ filter p rest) (filter p rest))) [
      | true ↦ (all.0, each_filter P p rest all.1)
      | false ↦ each_filter P p rest all.1
    ]

found_step : (b : Bool) (P : IndexedSlot → Type 0) (first indexed : IndexedSlot) (rest : Option IndexedSlot) → cond b (Some first) rest ≡ Some indexed → P first → (rest ≡ Some indexed → P indexed) → P indexed
found_step true P first indexed rest is here more = let same : first ≡ indexed = cc in subst P same here
found_step false P first indexed rest is here more = more is

pub each_found : (P : IndexedSlot → Type 0) (p : IndexedSlot → Bool) (all : List IndexedSlot) (indexed : IndexedSlot) → find p all ≡ Some indexed → Each P all → P indexed
each_found P p [] indexed is all = absurd cc
each_found P p (first ∷ rest) indexed is all = found_step (p first) P first indexed (find p rest) is all.0 (λ later. each_found P p rest indexed later all.1)

-- the configurations of the slots from a number on are those of the whole profile
abbrev StandsIn : List SlotConfig → ℕ → List SlotConfig → Type 0
StandsIn all number configs = (k : ℕ) (config : SlotConfig) → slice_get configs k ≡ Some config → slice_get all (number + k) ≡ Some config

head_stands : (all : List SlotConfig) (number : ℕ) (config : SlotConfig) (configs : List SlotConfig) → StandsIn all number (config ∷ configs) → slice_get all number ≡ Some config
head_stands all number config configs stands = let same : number + 0 ≡ number = omega arith in subst (λ (n : ℕ). slice_get all n ≡ Some config) same (stands 0 config refl)

tail_stands : (all : List SlotConfig) (number : ℕ) (config : SlotConfig) (configs : List SlotConfig) → StandsIn all number (config ∷ configs) → StandsIn all (suc number) configs
tail_stands all number config configs stands = λ k other is.
    let same : number + suc k ≡ suc number + k = omega arith in
    subst (λ (n : ℕ). slice_get all n ≡ Some other) same (stands (suc k) other is)

slots_at : (t : ScannerTable) (number : ℕ) (configs : List SlotConfig) (slots : List Slot) → StandsIn t.profile.slots number configs → SlotsFit t.next_request t.clock.0 configs slots → (t.profile.tidy ≡ false → AllByRecursion IsDesired slots) → Each (IsAt t) (indexed_from number configs slots)
slots_at t number [] slots stands fit desires = tt
slots_at t number (config ∷ configs) [] stands fit desires = tt
slots_at t number (config ∷ configs) (slot ∷ slots) stands fit desires = (
  record { config = head_stands t.profile.slots number config configs stands; fits = fit.0; desires = λ untidy. (desires untidy).0 },
  slots_at t (suc number) configs slots (tail_stands t.profile.slots number config configs stands) fit.1 (λ untidy. (desires untidy).1),
)

all_stand : (configs : List SlotConfig) → StandsIn configs 0 configs
all_stand configs = λ k config is. let same : k ≡ 0 + k = omega arith in subst (λ (n : ℕ). slice_get configs n ≡ Some config) same is

pub each_at : (t : ScannerTable) → IsWellFormed t → Each (IsAt t) (indexed_slots t)
each_at t whole = slots_at t 0 t.profile.slots t.slots (all_stand t.profile.slots) whole.slots whole.desires

-- the indexed slot is one of the table's now
abbrev pub IsNow : ScannerTable → IndexedSlot → Type 0
IsNow t indexed = slice_get t.slots indexed.number ≡ Some indexed.slot

abbrev SlotStands : List Slot → ℕ → List Slot → Type 0
SlotStands all number slots = (k : ℕ) (slot : Slot) → slice_get slots k ≡ Some slot → slice_get all (number + k) ≡ Some slot

head_now : (all : List Slot) (number : ℕ) (slot : Slot) (slots : List Slot) → SlotStands all number (slot ∷ slots) → slice_get all number ≡ Some slot
head_now all number slot slots stands = let same : number + 0 ≡ number = omega arith in subst (λ (n : ℕ). slice_get all n ≡ Some slot) same (stands 0 slot refl)

tail_now : (all : List Slot) (number : ℕ) (slot : Slot) (slots : List Slot) → SlotStands all number (slot ∷ slots) → SlotStands all (suc number) slots
tail_now all number slot slots stands = λ k other is.
    let same : number + suc k ≡ suc number + k = omega arith in
    subst (λ (n : ℕ). slice_get all n ≡ Some other) same (stands (suc k) other is)

slots_now : (t : ScannerTable) (number : ℕ) (configs : List SlotConfig) (slots : List Slot) → SlotStands t.slots number slots → Each (IsNow t) (indexed_from number configs slots)
slots_now t number [] slots stands = tt
slots_now t number (config ∷ configs) [] stands = tt
slots_now t number (config ∷ configs) (slot ∷ slots) stands =
    (head_now t.slots number slot slots stands, slots_now t (suc number) configs slots (tail_now t.slots number slot slots stands))

all_now : (slots : List Slot) → SlotStands slots 0 slots
all_now slots = λ k slot is. let same : k ≡ 0 + k = omega arith in subst (λ (n : ℕ). slice_get slots n ≡ Some slot) same is

pub each_now : (t : ScannerTable) → Each (IsNow t) (indexed_slots t)
each_now t = slots_now t 0 t.profile.slots t.slots (all_now t.slots)

-- ---- another slot

set_fits : (r c k : ℕ) (configs : List SlotConfig) (slots : List Slot) (slot : Slot) → SlotsFit r c configs slots → ((config : SlotConfig) → slice_get configs k ≡ Some config → FitsSlot r c config slot) → SlotsFit r c configs (slice_set slots k slot)
set_fits r c k [] [] slot fit new = tt
set_fits r c k [] (first ∷ slots) slot fit new = absurd fit
set_fits r c k (config ∷ configs) [] slot fit new = absurd fit
set_fits r c zero (config ∷ configs) (first ∷ slots) slot fit new = (new config refl, fit.1)
set_fits r c (suc k) (config ∷ configs) (first ∷ slots) slot fit new = (fit.0, set_fits r c k configs slots slot fit.1 new)

set_desired : (k : ℕ) (slots : List Slot) (slot : Slot) → AllByRecursion IsDesired slots → IsDesired slot → AllByRecursion IsDesired (slice_set slots k slot)
set_desired k [] slot all new = tt
set_desired zero (first ∷ slots) slot all new = (new, all.1)
set_desired (suc k) (first ∷ slots) slot all new = (all.0, set_desired k slots slot all.1 new)

-- without `tidy` the slot is as desired
abbrev pub DesiredIn : ScannerTable → Slot → Type 0
DesiredIn t slot = t.profile.tidy ≡ false → IsDesired slot

pub whole_with : (t : ScannerTable) (indexed : IndexedSlot) (slot : Slot) → IsWellFormed t → slice_get t.profile.slots indexed.number ≡ Some indexed.config → FitsSlot t.next_request t.clock.0 indexed.config slot → DesiredIn t slot → IdsDiffer (indexed_from 0 t.profile.slots (slice_set t.slots indexed.number slot)) → RequestsDiffer (slice_set t.slots indexed.number slot) → IsWellFormed (with_slot t indexed.number slot)
whole_with t indexed slot whole at fits desires differ apart = record {
  ids_differ = differ;
  requests_differ = apart;
  faultless = whole.faultless;
  slots = set_fits t.next_request t.clock.0 indexed.number t.profile.slots t.slots slot whole.slots
      (λ config is. subst (λ (c : SlotConfig). FitsSlot t.next_request t.clock.0 c slot) (same_Some indexed.config config (sym at ∙ is)) fits);
  desires = λ untidy. set_desired indexed.number t.slots slot (whole.desires untidy) (desires untidy);
  clock = whole.clock;
  blocks = whole.blocks;
  ids_begin = whole.ids_begin;
  ids = whole.ids;
  serial_begins = whole.serial_begins;
  serial_ends = whole.serial_ends;
  requests = whole.requests;
  few_streams = whole.few_streams;
  streams_differ = whole.streams_differ;
}

-- ---- effects

-- the table after an effect is whole, and later than the one before it
pub record Keeps (t : ScannerTable) (effect : Effect) : Type 0 where
  pub whole : IsWellFormed effect.table
  pub later : Later t effect.table

pub keeps_nothing : (t : ScannerTable) → IsWellFormed t → Keeps t (nothing t)
keeps_nothing t whole = record { whole = whole; later = same_later t }

-- an effect on slots of which something holds keeps a table whole
abbrev pub KeepsAt : (IndexedSlot → Type 0) → (ScannerTable → IndexedSlot → Effect) → Type 0
KeepsAt Q effect = (t : ScannerTable) (indexed : IndexedSlot) → IsWellFormed t → IsAt t indexed → Q indexed → Keeps t (effect t indexed)

each_later : (t u : ScannerTable) (rest : List IndexedSlot) → Later t u → Each (IsAt t) rest → Each (IsAt u) rest
each_later t u [] later all = tt
each_later t u (indexed ∷ rest) later all = (is_at_later t u indexed later all.0, each_later t u rest later all.1)

pub keeps_each : (Q : IndexedSlot → Type 0) (effect : ScannerTable → IndexedSlot → Effect) → KeepsAt Q effect → (rest : List IndexedSlot) (t : ScannerTable) → IsWellFormed t → Each (IsAt t) rest → Each Q rest → Keeps t (on_each effect rest t)
keeps_each Q effect keep [] t whole at holds = keeps_nothing t whole
keeps_each Q effect keep (indexed ∷ rest) t whole at holds =
    let first = keep t indexed whole at.0 holds.0 in
    let next = keeps_each Q effect keep rest (effect t indexed).table first.whole (each_later t (effect t indexed).table rest first.later at.1) holds.1 in
    record { whole = next.whole; later = later_later t (effect t indexed).table (on_each effect rest (effect t indexed).table).table first.later next.later }

-- nothing more need hold
abbrev pub Any : IndexedSlot → Type 0
Any indexed = Unit {0}

pub each_any : (rest : List IndexedSlot) → Each Any rest
each_any [] = tt
each_any (indexed ∷ rest) = (tt, each_any rest)

passes_step : (p : IndexedSlot → Bool) (b : Bool) (indexed : IndexedSlot) (rest : List IndexedSlot) → p indexed ≡ b → Each (λ other. p other ≡ true) rest → Each (λ other. p other ≡ true) (cond b (indexed ∷ rest) rest)
passes_step p true indexed rest is all = (is, all)
passes_step p false indexed rest is all = all

-- the slots that a filter selects pass its test
pub each_passes : (p : IndexedSlot → Bool) (all : List IndexedSlot) → Each (λ indexed. p indexed ≡ true) (filter p all)
each_passes p [] = tt
each_passes p (indexed ∷ rest) = passes_step p (p indexed) indexed (filter p rest) refl (each_passes p rest)

-- ---- streams

pub few_with : (streams : List TargetStream) (stream : TargetStream) → length streams + 1 ≤ 16 → length (streams ++ stream ∷ []) ≤ 16
few_with streams stream space = simp length-append (omega arith)

pub differ_with : (streams : List TargetStream) (new : TargetStream) → StreamsDiffer streams → list_any (is_stream new.number) streams ≡ false → list_any (is_to new.peer) streams ≡ false → StreamsDiffer (streams ++ new ∷ [])
differ_with [] new differ none alone = (refl, refl, tt)
differ_with (stream ∷ streams) new differ none alone =
    let parts = or_parts (is_stream new.number stream) (list_any (is_stream new.number) streams) none in
    let apart = or_parts (is_to new.peer stream) (list_any (is_to new.peer) streams) alone in (
      rw (list_any-append (is_stream stream.number) streams (new ∷ []), differ.0, other_number stream.number new.number parts.0) refl,
      rw (list_any-append (is_to stream.peer) streams (new ∷ []), differ.1, other_number stream.peer.0 new.peer.0 apart.0) refl,
      differ_with streams new differ.2 parts.1 apart.1,
    )

pub few_left : (p : TargetStream → Bool) (streams : List TargetStream) → length (filter p streams) ≤ length streams
few_left p [] = omega arith
few_left p (stream ∷ streams) = grind (arith, common_steps, few_left p streams)

any_left : (p q : TargetStream → Bool) (streams : List TargetStream) → list_any q streams ≡ false → list_any q (filter p streams) ≡ false
any_left p q [] none = refl
any_left p q (stream ∷ streams) none =
    let parts = or_parts (q stream) (list_any q streams) none in
    grind (arith, common_steps, parts, any_left p q streams parts.1)

pub differ_left : (p : TargetStream → Bool) (streams : List TargetStream) → StreamsDiffer streams → StreamsDiffer (filter p streams)
differ_left p [] differ = tt
differ_left p (stream ∷ streams) differ =
    elim (p stream) as (λ b. StreamsDiffer (cond b (stream ∷ filter p streams) (filter p streams))) [
      | true ↦ (any_left p (is_stream stream.number) streams differ.0, any_left p (is_to stream.peer) streams differ.1, differ_left p streams differ.2)
      | false ↦ differ_left p streams differ.2
    ]

same_number : (b : Bool) (stage : Stage) (stream : TargetStream) → (cond b (record stream { stage = stage }) stream).number ≡ stream.number
same_number true stage stream = refl
same_number false stage stream = refl

same_peer : (b : Bool) (stage : Stage) (stream : TargetStream) → (cond b (record stream { stage = stage }) stream).peer ≡ stream.peer
same_peer true stage stream = refl
same_peer false stage stream = refl

pub any_staged : (number other : ℕ) (stage : Stage) (streams : List TargetStream) → list_any (is_stream other) (map (staged_stream number stage) streams) ≡ list_any (is_stream other) streams
any_staged number other stage [] = refl
any_staged number other stage (stream ∷ streams) =
    rw (same_number (is_stream number stream) stage stream) (ap (λ b. is_stream other stream || b) (any_staged number other stage streams))

any_to_staged : (number : ℕ) (stage : Stage) (one : TargetStream) (streams : List TargetStream) → list_any (is_to one.peer) (map (staged_stream number stage) streams) ≡ list_any (is_to one.peer) streams
any_to_staged number stage one [] = refl
any_to_staged number stage one (stream ∷ streams) =
    rw (same_peer (is_stream number stream) stage stream) (ap (λ b. is_to one.peer stream || b) (any_to_staged number stage one streams))

pub differ_staged : (number : ℕ) (stage : Stage) (streams : List TargetStream) → StreamsDiffer streams → StreamsDiffer (map (staged_stream number stage) streams)
differ_staged number stage [] differ = tt
differ_staged number stage (stream ∷ streams) differ = (
  rw (same_number (is_stream number stream) stage stream, any_staged number stream.number stage streams) differ.0,
  rw (same_peer (is_stream number stream) stage stream, any_to_staged number stage stream streams) differ.1,
  differ_staged number stage streams differ.2,
)
