-- No two slots wait for the reply to one request, whichever slot is changed.
use Rattle.std.proofs.Common.{◌≡◌, ℕ, zero, suc, Bool, false, ◌==◌, List, [], ◌∷◌, map, slice_get, slice_set, Some, refl}
use Rattle.std.specs.List.{list_any}
use Rattle.std.proofs.lemmas.Bool.{or_parts}
use Rattle.base_lemmas.specs.Numbers.{less_other, other_number}
use Rattle.scanner_table.specs.declared.profile.SlotConfig.{SlotConfig}
use Rattle.scanner_table.specs.declared.slot.Slot.{Slot}
use Rattle.scanner_table.specs.declared.slot.SlotState.{SlotState}
use Rattle.scanner_table.specs.declared.slot.SlotState.TheVariants.{Idle, Opening, Established, TimedOut, Closing}
use Rattle.scanner_table.specs.Encapsulation.{waits_for}
use Rattle.scanner_table.specs.WellFormed.{FitsState, SlotsFit, states_share, shares_request, RequestsDiffer}

-- the new state waits for nothing, or for what the old one waits for
pub record Quieter (old new : SlotState) : Type 0 where
  pub waits : (number : ℕ) → waits_for number old ≡ false → waits_for number new ≡ false
  pub shares : (other : SlotState) → states_share old other ≡ false → states_share new other ≡ false

pub idle_quieter : (old : SlotState) → Quieter old Idle
idle_quieter old = record { waits = λ n none. refl; shares = λ other none. refl }

pub established_quieter : (old : SlotState) (c : _) → Quieter old (Established c)
established_quieter old c = record { waits = λ n none. refl; shares = λ other none. refl }

pub timed_out_quieter : (old : SlotState) (link : _) → Quieter old (TimedOut link)
timed_out_quieter old link = record { waits = λ n none. refl; shares = λ other none. refl }

pub same_quieter : (state : SlotState) → Quieter state state
same_quieter state = record { waits = λ n none. none; shares = λ other none. none }

share_quieter : (old new other next : SlotState) → Quieter old new → Quieter other next → states_share old other ≡ false → states_share new next ≡ false
share_quieter old Idle other next q v none = refl
share_quieter old (Opening o) other next q v none = v.waits o.request (q.shares other none)
share_quieter old (Established c) other next q v none = refl
share_quieter old (TimedOut link) other next q v none = refl
share_quieter old (Closing c) other next q v none = v.waits c.request (q.shares other none)

-- each slot waits for no more than it did
abbrev pub AllQuieter : List Slot → List Slot → Type 0
AllQuieter [] [] = Unit {0}
AllQuieter [] (new ∷ news) = ⊥
AllQuieter (old ∷ olds) [] = ⊥
AllQuieter (old ∷ olds) (new ∷ news) = Quieter old.state new.state × AllQuieter olds news

all_quiet : (slots : List Slot) → AllQuieter slots slots
all_quiet [] = tt
all_quiet (slot ∷ slots) = (same_quieter slot.state, all_quiet slots)

pub set_quieter : (k : ℕ) (slots : List Slot) (slot : Slot) → ((old : Slot) → slice_get slots k ≡ Some old → Quieter old.state slot.state) → AllQuieter slots (slice_set slots k slot)
set_quieter k [] slot quieter = tt
set_quieter zero (old ∷ olds) slot quieter = (quieter old refl, all_quiet olds)
set_quieter (suc k) (old ∷ olds) slot quieter = (same_quieter old.state, set_quieter k olds slot quieter)

pub map_quieter : (f : Slot → Slot) → ((slot : Slot) → Quieter slot.state (f slot).state) → (slots : List Slot) → AllQuieter slots (map f slots)
map_quieter f quieter [] = tt
map_quieter f quieter (slot ∷ slots) = (quieter slot, map_quieter f quieter slots)

any_quieter : (old new : Slot) (olds news : List Slot) → Quieter old.state new.state → AllQuieter olds news → list_any (shares_request old) olds ≡ false → list_any (shares_request new) news ≡ false
any_quieter old new [] [] q all none = refl
any_quieter old new [] (x ∷ news) q all none = absurd all
any_quieter old new (y ∷ olds) [] q all none = absurd all
any_quieter old new (y ∷ olds) (x ∷ news) q all none =
    let parts = or_parts (shares_request old y) (list_any (shares_request old) olds) none in
    rw (share_quieter old.state new.state y.state x.state q all.0 parts.0) (any_quieter old new olds news q all.1 parts.1)

pub differ_quieter : (olds news : List Slot) → AllQuieter olds news → RequestsDiffer olds → RequestsDiffer news
differ_quieter [] [] all differ = tt
differ_quieter [] (new ∷ news) all differ = absurd all
differ_quieter (old ∷ olds) [] all differ = absurd all
differ_quieter (old ∷ olds) (new ∷ news) all differ = (any_quieter old new olds news all.0 all.1 differ.0, differ_quieter olds news all.1 differ.1)

-- ---- the next request

-- the state waits for the reply to the request of this number, if for any
abbrev pub WaitsFor : ℕ → SlotState → Type 0
WaitsFor number Idle = ⊥
WaitsFor number (Opening o) = o.request ≡ number
WaitsFor number (Established c) = ⊥
WaitsFor number (TimedOut link) = ⊥
WaitsFor number (Closing c) = c.request ≡ number

-- no state waits for a request that is not numbered yet
state_unnumbered : (next clock : ℕ) (desired_up : Bool) (state : SlotState) → FitsState next clock desired_up state → waits_for next state ≡ false
state_unnumbered next clock desired_up Idle fits = refl
state_unnumbered next clock desired_up (Opening o) fits = less_other o.request next fits.1
state_unnumbered next clock desired_up (Established c) fits = refl
state_unnumbered next clock desired_up (TimedOut link) fits = refl
state_unnumbered next clock desired_up (Closing c) fits = less_other c.request next fits

-- it shares the request with none that does not wait for it, and none of these with it
new_shares : (next : ℕ) (new other : SlotState) → WaitsFor next new → waits_for next other ≡ false → states_share new other ≡ false
new_shares next Idle other waits none = absurd waits
new_shares next (Opening o) other waits none = rw waits none
new_shares next (Established c) other waits none = absurd waits
new_shares next (TimedOut link) other waits none = absurd waits
new_shares next (Closing c) other waits none = rw waits none

waits_other : (next number : ℕ) (new : SlotState) → WaitsFor next new → (number == next) ≡ false → waits_for number new ≡ false
waits_other next number Idle waits none = refl
waits_other next number (Opening o) waits none = rw waits (other_number number next none)
waits_other next number (Established c) waits none = refl
waits_other next number (TimedOut link) waits none = refl
waits_other next number (Closing c) waits none = rw waits (other_number number next none)

others_share : (next : ℕ) (new other : SlotState) → WaitsFor next new → waits_for next other ≡ false → states_share other new ≡ false
others_share next new Idle waits none = refl
others_share next new (Opening o) waits none = waits_other next o.request new waits none
others_share next new (Established c) waits none = refl
others_share next new (TimedOut link) waits none = refl
others_share next new (Closing c) waits none = waits_other next c.request new waits none

none_shares : (next clock : ℕ) (configs : List SlotConfig) (slots : List Slot) (new : Slot) → WaitsFor next new.state → SlotsFit next clock configs slots → list_any (shares_request new) slots ≡ false
none_shares next clock [] [] new waits fit = refl
none_shares next clock [] (slot ∷ slots) new waits fit = absurd fit
none_shares next clock (config ∷ configs) [] new waits fit = absurd fit
none_shares next clock (config ∷ configs) (slot ∷ slots) new waits fit =
    rw (new_shares next new.state slot.state waits (state_unnumbered next clock slot.desired_up slot.state fit.0.state)) (none_shares next clock configs slots new waits fit.1)

head_shares : (next clock k : ℕ) (configs : List SlotConfig) (slots : List Slot) (head new : Slot) → WaitsFor next new.state → waits_for next head.state ≡ false → list_any (shares_request head) slots ≡ false → list_any (shares_request head) (slice_set slots k new) ≡ false
head_shares next clock k configs [] head new waits none alone = refl
head_shares next clock zero configs (slot ∷ slots) head new waits none alone =
    let parts = or_parts (shares_request head slot) (list_any (shares_request head) slots) alone in
    rw (others_share next new.state head.state waits none) parts.1
head_shares next clock (suc k) configs (slot ∷ slots) head new waits none alone =
    let parts = or_parts (shares_request head slot) (list_any (shares_request head) slots) alone in
    rw parts.0 (head_shares next clock k configs slots head new waits none parts.1)

pub differ_numbered : (next clock k : ℕ) (configs : List SlotConfig) (slots : List Slot) (new : Slot) → WaitsFor next new.state → SlotsFit next clock configs slots → RequestsDiffer slots → RequestsDiffer (slice_set slots k new)
differ_numbered next clock k [] [] new waits fit differ = tt
differ_numbered next clock k [] (slot ∷ slots) new waits fit differ = absurd fit
differ_numbered next clock k (config ∷ configs) [] new waits fit differ = absurd fit
differ_numbered next clock zero (config ∷ configs) (slot ∷ slots) new waits fit differ = (none_shares next clock configs slots new waits fit.1, differ.1)
differ_numbered next clock (suc k) (config ∷ configs) (slot ∷ slots) new waits fit differ = (
  head_shares next clock k configs slots slot new waits (state_unnumbered next clock slot.desired_up slot.state fit.0.state) differ.0,
  differ_numbered next clock k configs slots new waits fit.1 differ.1,
)
