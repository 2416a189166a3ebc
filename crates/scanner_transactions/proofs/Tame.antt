-- An effect on a slot changes the slot of its number alone, and no profile.
use Rattle.std.proofs.Common.{◌≡◌, ◌<◌, ℕ, zero, suc, ◌==◌, Bool, true, false, cond, List, [], ◌∷◌, drop, slice_get, slice_set, Option, Some, None, refl, ◌∙◌, ap, arith}
use Rattle.std.proofs.lemmas.Bool.Decides.{nat_tests}
use Rattle.std.proofs.lemmas.List.{drop-set-lt}
use Rattle.scanner_table.specs.declared.slot.Slot.{Slot}
use Rattle.scanner_table.specs.declared.slot.SlotState.{SlotState}
use Rattle.scanner_table.specs.declared.slot.SlotState.TheVariants.{Idle, Opening, Established, TimedOut, Closing}
use Rattle.scanner_table.specs.declared.table.ScannerTable.{ScannerTable}
use Rattle.scanner_table.specs.declared.table.Session.{Session}
use Rattle.scanner_table.specs.Slots.{IndexedSlot, with_slot}
use Rattle.scanner_table.specs.Effects.{Effect}
use Rattle.conn_state.specs.declared.names.Link.{Link}
use Rattle.scanner_table.specs.Opening.{has_request, can_open, open_requested, exhausted, opened_within, close_requested, cleared_within, opened_from, asking_session, opened}
use Rattle.scanner_table.specs.Closing.{given_up_state}
use Rattle.scanner_table.specs.Ticks.{expired, expired_state}
use Rattle.scanner_transactions.specs.declared.running.SlotAction.{SlotAction}
use Rattle.scanner_transactions.specs.declared.running.SlotAction.TheVariants as slot_action
use Rattle.scanner_transactions.specs.Runs.{effect_of}

-- the table has the profile, and but for the slot of a number the slots, of another
pub record Changes (number : ℕ) (old new : ScannerTable) : Type 0 where
  pub profile : new.profile ≡ old.profile
  pub others : (n : ℕ) → (n == number) ≡ false → slice_get new.slots n ≡ slice_get old.slots n
  pub later : (n : ℕ) → number < n → drop n new.slots ≡ drop n old.slots

abbrev pub IsTame : (ScannerTable → IndexedSlot → Effect) → Type 0
IsTame effect = (t : ScannerTable) (indexed : IndexedSlot) → Changes indexed.number t (effect t indexed).table

nothing_changes : (number : ℕ) (t : ScannerTable) → Changes number t t
nothing_changes number t = record { profile = refl; others = λ n other. refl; later = λ n less. refl }

pub get_other : (slots : List Slot) (number n : ℕ) (slot : Slot) → (n == number) ≡ false → slice_get (slice_set slots number slot) n ≡ slice_get slots n
get_other [] number n slot other = refl
get_other (first ∷ slots) zero zero slot other = absurd (let e : true ≡ false = other in cc)
get_other (first ∷ slots) zero (suc n) slot other = refl
get_other (first ∷ slots) (suc number) zero slot other = refl
get_other (first ∷ slots) (suc number) (suc n) slot other = get_other slots number n slot (grind (arith, nat_tests))

set_changes : (number : ℕ) (t u : ScannerTable) (slot : Slot) → u.profile ≡ t.profile → u.slots ≡ t.slots → Changes number t (with_slot u number slot)
set_changes number t u slot profile slots = record {
  profile = profile;
  others = λ n other. get_other u.slots number n slot other ∙ ap (λ (s : List Slot). slice_get s n) slots;
  later = λ n less. drop-set-lt n u.slots number slot less ∙ ap (drop n) slots;
}

either_changes : (b : Bool) (number : ℕ) (t : ScannerTable) (x y : Effect) → Changes number t x.table → Changes number t y.table → Changes number t (cond b x y).table
either_changes true number t x y first second = first
either_changes false number t x y first second = second

tame_within : (t : ScannerTable) (indexed : IndexedSlot) (session : Option Session) → Changes indexed.number t (opened_within t indexed session).table
tame_within t indexed None = nothing_changes indexed.number t
tame_within t indexed (Some session) =
    either_changes (can_open t indexed.config) indexed.number t (open_requested t indexed session) (exhausted t indexed) (set_changes indexed.number t _ _ refl refl) (set_changes indexed.number t _ _ refl refl)

tame_cleared : (t : ScannerTable) (indexed : IndexedSlot) (link : Link) (session : Option Session) → Changes indexed.number t (cleared_within t indexed link session).table
tame_cleared t indexed link None = nothing_changes indexed.number t
tame_cleared t indexed link (Some session) =
    either_changes (has_request t) indexed.number t (close_requested t indexed link indexed.slot.desired_up session) (exhausted t indexed) (set_changes indexed.number t _ _ refl refl) (set_changes indexed.number t _ _ refl refl)

tame_from : (t : ScannerTable) (indexed : IndexedSlot) (session : Option Session) (state : SlotState) → Changes indexed.number t (opened_from t indexed session state).table
tame_from t indexed session (TimedOut link) =
    either_changes t.profile.tidy indexed.number t (cleared_within t indexed link session) (opened_within t indexed session) (tame_cleared t indexed link session) (tame_within t indexed session)
tame_from t indexed session other = tame_within t indexed session

tame_opened : IsTame opened
unfolding opened
tame_opened t indexed = tame_from t indexed (asking_session t indexed) indexed.slot.state

tame_given : (t : ScannerTable) (indexed : IndexedSlot) (state : SlotState) → Changes indexed.number t (given_up_state t indexed state).table
tame_given t indexed Idle = nothing_changes indexed.number t
tame_given t indexed (Opening o) = set_changes indexed.number t _ _ refl refl
tame_given t indexed (Established c) = nothing_changes indexed.number t
tame_given t indexed (TimedOut link) = nothing_changes indexed.number t
tame_given t indexed (Closing c) = set_changes indexed.number t _ _ refl refl

tame_expired : (t : ScannerTable) (indexed : IndexedSlot) (state : SlotState) → Changes indexed.number t (expired_state t indexed state).table
tame_expired t indexed Idle = nothing_changes indexed.number t
tame_expired t indexed (Opening o) = nothing_changes indexed.number t
tame_expired t indexed (Established c) = set_changes indexed.number t _ _ refl refl
tame_expired t indexed (TimedOut link) = nothing_changes indexed.number t
tame_expired t indexed (Closing c) = nothing_changes indexed.number t

pub expiries_are_tame : IsTame expired
expiries_are_tame t indexed = tame_expired t indexed indexed.slot.state

-- each action changes one slot
pub actions_are_tame : (action : SlotAction) → IsTame (effect_of action)
actions_are_tame slot_action.Open t indexed = tame_opened t indexed
actions_are_tame slot_action.GiveUp t indexed = tame_given t indexed indexed.slot.state
