-- Properties of a slot that a lookup found in a whole table.
use Rattle.std.proofs.Common.{◌≡◌, ◌<◌, ◌≤◌, ℕ, zero, suc, ◌+◌, ◌==◌, ◌&&◌, not, Bool, true, false, cond, nat_le, List, [], ◌∷◌, find, filter, map, length, get_or, Option, Some, None, refl, sym, ◌∙◌, subst, arith}
use Rattle.std.specs.List.{list_all}
use Rattle.std.proofs.lemmas.Bool.Decides.{nat_tests}
use Rattle.cip_types.specs.Ids.{are_ids}
use Rattle.cip_types.specs.Cases.{Case, first_case}
use Rattle.cip_types.specs.declared.names.Ms.{Ms}
use Rattle.cip_netparams.specs.Rate.{timeout}
use Rattle.cip_netparams.specs.Timeouts.{timeout_fits}
use Rattle.cip_events.specs.declared.profile_fault.ProfileFault.{ProfileFault}
use Rattle.cip_events.specs.declared.profile_fault.ProfileFault.TheVariants as fault
use Rattle.scanner_table.specs.declared.profile.SlotConfig.{SlotConfig}
use Rattle.scanner_table.specs.declared.profile.ScannerProfile.{ScannerProfile}
use Rattle.scanner_table.specs.declared.slot.SlotConnection.{SlotConnection}
use Rattle.scanner_table.specs.declared.slot.Slot.{Slot}
use Rattle.scanner_table.specs.declared.slot.SlotState.{SlotState}
use Rattle.scanner_table.specs.declared.slot.SlotState.TheVariants.{Established}
use Rattle.scanner_table.specs.declared.table.ScannerTable.{ScannerTable}
use Rattle.scanner_table.specs.Profiles.{are_few, listens_to_group, are_served, are_apart, is_point_len, is_out_len, is_config, has_lengths, has_times, keeps_time, are_paced, are_openings, are_serials, is_wait, profile_fault}
use Rattle.cip_types.specs.Order.{in_order, inserted}
use Rattle.cip_productions.specs.Kinds.{is_owner}
use Rattle.scanner_slots.specs.declared.indexed_slots.SlotView.{SlotView}
use Rattle.scanner_slots.specs.Views.{view_slot}
use Rattle.scanner_table.specs.Slots.{IndexedSlot, indexed_from, indexed_slots, is_numbered}
use Rattle.scanner_table.specs.WellFormed.{FitsState, FitsSlot, SlotsFit, IsWellFormed, IsWatched}

-- ---- profiles

none_step : {A : Type 0} (b : Bool) (said : A) (rest : Option A) → cond b (Some said) rest ≡ None → (b ≡ false) × (rest ≡ None)
none_step true said rest is = absurd cc
none_step false said rest is = (refl, is)

-- the first test fails not, and none of the others does
case_none : {A : Type 0} (b : Bool) (said : A) (rest : List (Case A)) → first_case ((b, said) ∷ rest) ≡ None → (b ≡ false) × (first_case rest ≡ None)
case_none b said rest is = none_step b said (first_case rest) is

not_false : (b : Bool) → not b ≡ false → b ≡ true
not_false true is = refl
not_false false is = absurd (let e : true ≡ false = is in cc)

pub and_parts : (a b : Bool) → (a && b) ≡ true → (a ≡ true) × (b ≡ true)
and_parts true b is = (refl, is)
and_parts false b is = absurd (let e : false ≡ true = is in cc)

-- the properties of a profile without a fault that are needed here
pub record Faultless (profile : ScannerProfile) : Type 0 where
  pub few : length profile.slots ≤ 64
  pub lengths : list_all has_lengths profile.slots ≡ true
  pub times : list_all has_times profile.slots ≡ true

at_most : (n m : ℕ) → nat_le n m ≡ true → n ≤ m
at_most n m is = grind (arith, nat_tests)

five_cases : (a b c d e : Bool) (v w x y z : ProfileFault) (rest : List (Case ProfileFault)) → first_case ((a, v) ∷ (b, w) ∷ (c, x) ∷ (d, y) ∷ (e, z) ∷ rest) ≡ None → (b ≡ false) × ((d ≡ false) × (e ≡ false))
five_cases a b c d e v w x y z rest is =
    let first = case_none a v ((b, w) ∷ (c, x) ∷ (d, y) ∷ (e, z) ∷ rest) is in
    let second = case_none b w ((c, x) ∷ (d, y) ∷ (e, z) ∷ rest) first.1 in
    let third = case_none c x ((d, y) ∷ (e, z) ∷ rest) second.1 in
    let fourth = case_none d y ((e, z) ∷ rest) third.1 in
    (second.0, (fourth.0, (case_none e z rest fourth.1).0))

pub faultless : (profile : ScannerProfile) → profile_fault profile ≡ None → Faultless profile
unfolding profile_fault
faultless profile is =
    let none = five_cases (not (are_ids profile.incarnation profile.ids)) (not (are_served profile)) (not (are_apart profile.slots)) (not (list_all has_lengths profile.slots)) (not (keeps_time profile)) fault.Incarnation fault.Points fault.SameInstance fault.Length fault.Timing ((not (are_paced profile.newer profile.slots), fault.Limits) ∷ (not (are_openings profile.openings), fault.Limits) ∷ (not (are_serials profile.serials), fault.Limits) ∷ []) is in
    let are = and_parts (are_few profile.slots) (list_all listens_to_group profile.slots) (not_false (are_served profile) none.0) in
    let counts = and_parts (nat_le 1 (length profile.slots)) (nat_le (length profile.slots) 64) are.0 in
    record {
      few = at_most (length profile.slots) 64 counts.1;
      lengths = not_false (list_all has_lengths profile.slots) none.1.0;
      times = (and_parts (list_all has_times profile.slots) (is_wait profile.open_timeout && is_wait profile.retry) (not_false (keeps_time profile) none.1.1)).0;
    }

pub few_slots : (t : ScannerTable) → IsWellFormed t → length t.profile.slots ≤ 4294967296
few_slots t whole = omega (arith, (faultless t.profile whole.faultless).few)

-- ---- slots

-- a slot among those from a number on
record Stands (test : IndexedSlot → Bool) (r k from : ℕ) (configs : List SlotConfig) (slots : List Slot) (indexed : IndexedSlot) : Type 0 where
  pub index : ℕ
  pub number : indexed.number ≡ from + index
  pub below : index < length slots
  pub slot : (d : Slot) → get_or slots index d ≡ indexed.slot
  pub fits : FitsSlot r k indexed.config indexed.slot
  pub times : has_times indexed.config ≡ true
  pub passes : test indexed ≡ true

some_is : {A : Type 0} (a b : A) → Some a ≡ Some b → a ≡ b
some_is a b is = cc

here_stands : (test : IndexedSlot → Bool) (r k from : ℕ) (config : SlotConfig) (configs : List SlotConfig) (slot : Slot) (slots : List Slot) → FitsSlot r k config slot → has_times config ≡ true → test (record { number = from; config = config; slot = slot }) ≡ true → Stands test r k from (config ∷ configs) (slot ∷ slots) (record { number = from; config = config; slot = slot })
here_stands test r k from config configs slot slots fits times passes =
    record { index = 0; number = omega arith; below = omega arith; slot = λ d. refl; fits = fits; times = times; passes = passes }

later_stands : (test : IndexedSlot → Bool) (r k from : ℕ) (config : SlotConfig) (configs : List SlotConfig) (slot : Slot) (slots : List Slot) (indexed : IndexedSlot) → Stands test r k (suc from) configs slots indexed → Stands test r k from (config ∷ configs) (slot ∷ slots) indexed
later_stands test r k from config configs slot slots indexed stands =
    record { index = suc stands.index; number = stands.number ∙ omega arith; below = omega (arith, stands.below); slot = stands.slot; fits = stands.fits; times = stands.times; passes = stands.passes }

stands_step : (test : IndexedSlot → Bool) (b : Bool) (r k from : ℕ) (config : SlotConfig) (configs : List SlotConfig) (slot : Slot) (slots : List Slot) (indexed : IndexedSlot) (rest : Option IndexedSlot) → test (record { number = from; config = config; slot = slot }) ≡ b → FitsSlot r k config slot → has_times config ≡ true → cond b (Some (record { number = from; config = config; slot = slot })) rest ≡ Some indexed → (rest ≡ Some indexed → Stands test r k (suc from) configs slots indexed) → Stands test r k from (config ∷ configs) (slot ∷ slots) indexed
stands_step test true r k from config configs slot slots indexed rest passes fits times is more =
    subst (Stands test r k from (config ∷ configs) (slot ∷ slots)) (some_is _ indexed is) (here_stands test r k from config configs slot slots fits times passes)
stands_step test false r k from config configs slot slots indexed rest passes fits times is more = later_stands test r k from config configs slot slots indexed (more is)

found_stands : (test : IndexedSlot → Bool) (r k from : ℕ) (configs : List SlotConfig) (slots : List Slot) (indexed : IndexedSlot) → SlotsFit r k configs slots → list_all has_times configs ≡ true → find test (indexed_from from configs slots) ≡ Some indexed → Stands test r k from configs slots indexed
found_stands test r k from [] slots indexed fit times is = absurd cc
found_stands test r k from (config ∷ configs) [] indexed fit times is = absurd cc
found_stands test r k from (config ∷ configs) (slot ∷ slots) indexed fit times is =
    let both = and_parts (has_times config) (list_all has_times configs) times in
    stands_step test (test (record { number = from; config = config; slot = slot })) r k from config configs slot slots indexed (find test (indexed_from (suc from) configs slots)) refl fit.0 both.0 is
    (λ later. found_stands test r k (suc from) configs slots indexed fit.1 both.1 later)

-- a slot that a lookup found in a whole table
pub record Found (test : IndexedSlot → Bool) (t : ScannerTable) (indexed : IndexedSlot) : Type 0 where
  pub below : indexed.number < length t.slots
  pub slot : (d : Slot) → get_or t.slots indexed.number d ≡ indexed.slot
  pub output : length indexed.slot.output ≡ indexed.config.out_len
  pub image : length indexed.slot.image ≡ indexed.config.in_len
  pub state : FitsState t.next_request t.clock.0 indexed.slot.desired_up indexed.slot.state
  pub watchdog : IsWatched indexed.config.mult indexed.slot.state
  pub mult : indexed.config.mult ≤ 7
  pub passes : test indexed ≡ true

mult_of : (config : SlotConfig) → has_times config ≡ true → config.mult ≤ 7
mult_of config is =
    let rest = and_parts _ _ is in
    let last = and_parts _ _ rest.1 in
    let of = and_parts (nat_le config.mult 7) _ last.1 in
    at_most config.mult 7 of.0

pub found : (test : IndexedSlot → Bool) (t : ScannerTable) (indexed : IndexedSlot) → IsWellFormed t → Some indexed ≡ find test (indexed_slots t) → Found test t indexed
found test t indexed whole is =
    let stands = found_stands test t.next_request t.clock.0 0 t.profile.slots t.slots indexed whole.slots (faultless t.profile whole.faultless).times (sym is) in
    let same : stands.index ≡ indexed.number = omega (arith, stands.number) in
    record {
      below = subst (λ n. n < length t.slots) same stands.below;
      slot = λ d. subst (λ n. get_or t.slots n d ≡ indexed.slot) same (stands.slot d);
      output = stands.fits.output;
      image = stands.fits.image;
      state = stands.fits.state;
      watchdog = stands.fits.watchdog;
      mult = mult_of indexed.config stands.times;
      passes = stands.passes;
    }

-- an established one's watchdog is that of the largest multiplier and the longest packet interval, or less
pub watchdog_of : (mult r k : ℕ) (desired_up : Bool) (state : SlotState) (c : SlotConnection) → state ≡ Established c → FitsState r k desired_up state → IsWatched mult state → mult ≤ 7 → c.watchdog.0 ≤ 5120000
watchdog_of mult r k desired_up state c is fits watched few =
    let fit : FitsState r k desired_up (Established c) = subst (FitsState r k desired_up) is fits in
    let same : c.watchdog ≡ record { 0 = timeout mult c.t_o_api_ms } = subst (IsWatched mult) is watched in
    subst (λ (w : Ms). w.0 ≤ 5120000) (sym same) (timeout_fits mult c.t_o_api_ms few fit.1.t_o_api_ms)

-- the slot that has a number
pub number_is : (number : ℕ) (indexed : IndexedSlot) → is_numbered number indexed ≡ true → indexed.number ≡ number
number_is number indexed is = grind (arith, nat_tests)

-- the slot under its number, by another name of the number
pub stood_at : (slots : List Slot) (number other : ℕ) (old stood d : Slot) → other ≡ number → ((e : Slot) → get_or slots other e ≡ stood) → old ≡ get_or slots number d → old ≡ stood
stood_at slots number other old stood d same at is = is ∙ subst (λ n. get_or slots n d ≡ stood) same (at d)

-- ---- outputs

-- no longer than the data of a datagram behind a run/idle header
abbrev pub Short : List IndexedSlot → Type 0
Short [] = Unit {0}
Short (indexed ∷ indexed_slots) = (length indexed.slot.output ≤ 65529) × Short indexed_slots

out_step : (owner : Bool) (n : ℕ) → cond owner (is_point_len n) (n == 0) ≡ true → n ≤ 1400
out_step true n is = at_most n 1400 (and_parts (nat_le 1 n) (nat_le n 1400) is).1
out_step false n is = grind (arith, nat_tests)

pub out_len : (config : SlotConfig) → has_lengths config ≡ true → config.out_len ≤ 1400
out_len config is =
    let rest = (and_parts (is_point_len config.in_len) (is_out_len config.kind config.out_len && is_config config.config config.config_data) is).1 in
    out_step (is_owner config.kind) config.out_len (and_parts (is_out_len config.kind config.out_len) (is_config config.config config.config_data) rest).0

short_from : (r k number : ℕ) (configs : List SlotConfig) (slots : List Slot) → SlotsFit r k configs slots → list_all has_lengths configs ≡ true → Short (indexed_from number configs slots)
short_from r k number [] slots fit is = tt
short_from r k number (config ∷ configs) [] fit is = tt
short_from r k number (config ∷ configs) (slot ∷ slots) fit is =
    let both = and_parts (has_lengths config) (list_all has_lengths configs) is in
    (omega (arith, fit.0.output, out_len config both.0), short_from r k (suc number) configs slots fit.1 both.1)

filter_step : (b : Bool) (p : IndexedSlot → Bool) (indexed : IndexedSlot) (rest : List IndexedSlot) → length indexed.slot.output ≤ 65529 → Short (filter p rest) → Short (cond b (indexed ∷ filter p rest) (filter p rest))
filter_step true p indexed rest here more = (here, more)
filter_step false p indexed rest here more = more

short_filter : (p : IndexedSlot → Bool) (all : List IndexedSlot) → Short all → Short (filter p all)
short_filter p [] short = tt
short_filter p (indexed ∷ rest) short = filter_step (p indexed) p indexed rest short.0 (short_filter p rest short.1)

insert_step : (b : Bool) (indexed first : IndexedSlot) (rest more : List IndexedSlot) → length indexed.slot.output ≤ 65529 → length first.slot.output ≤ 65529 → Short rest → Short more → Short (cond b (indexed ∷ first ∷ rest) (first ∷ more))
insert_step true indexed first rest more here next short short' = (here, (next, short))
insert_step false indexed first rest more here next short short' = (next, short')

short_inserted : (before : IndexedSlot → IndexedSlot → Bool) (indexed : IndexedSlot) (all : List IndexedSlot) → length indexed.slot.output ≤ 65529 → Short all → Short (inserted before indexed all)
short_inserted before indexed [] here short = (here, tt)
short_inserted before indexed (first ∷ rest) here short = insert_step (before indexed first) indexed first rest (inserted before indexed rest) here short.0 short.1 (short_inserted before indexed rest here short.1)

short_order : (before : IndexedSlot → IndexedSlot → Bool) (all : List IndexedSlot) → Short all → Short (in_order before all)
short_order before [] short = tt
short_order before (indexed ∷ rest) short = short_inserted before indexed (in_order before rest) short.0 (short_order before rest short.1)

-- the outputs of the slots that a test chooses are short, in any order
pub short_due : (t : ScannerTable) (p : IndexedSlot → Bool) (before : IndexedSlot → IndexedSlot → Bool) → IsWellFormed t → Short (in_order before (filter p (indexed_slots t)))
short_due t p before whole = short_order before (filter p (indexed_slots t)) (short_filter p (indexed_slots t) (short_from t.next_request t.clock.0 0 t.profile.slots t.slots whole.slots (faultless t.profile whole.faultless).lengths))

pub short_at : (views : List SlotView) → Short (map view_slot views) → (i : ℕ) (d : SlotView) → i < length views → length (get_or views i d).slot.now.output ≤ 65529
short_at [] short i d lt = absurd (omega (arith, lt))
short_at (view ∷ views) short zero d lt = short.0
short_at (view ∷ views) short (suc i) d lt = short_at views short.1 i d (omega (arith, lt))

-- a slot for each configuration
pub as_many : (r k : ℕ) (configs : List SlotConfig) (slots : List Slot) → SlotsFit r k configs slots → length slots ≤ length configs
as_many r k [] [] fit = omega arith
as_many r k [] (slot ∷ slots) fit = absurd fit
as_many r k (config ∷ configs) [] fit = absurd fit
as_many r k (config ∷ configs) (slot ∷ slots) fit = let rest = as_many r k configs slots fit.1 in omega (arith, rest)
