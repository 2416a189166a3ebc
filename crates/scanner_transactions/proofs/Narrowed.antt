-- Bounds after a transaction.
use Rattle.std.proofs.Common.{◌≡◌, ◌<◌, ◌≤◌, ℕ, zero, suc, ◌==◌, Bool, true, false, List, [], ◌∷◌, length, drop, drop-cons, get_or, slice_get, Option, Some, None, unwrap_or, refl, sym, ap, subst, ◌∙◌, arith}
use Rattle.std.specs.Option.{is_some}
use Rattle.std.proofs.lemmas.Bool.Decides.{nat_tests}
use Rattle.scanner_table.specs.declared.slot.Slot.{Slot}
use Rattle.scanner_table.specs.declared.table.ScannerTable.{ScannerTable}
use Rattle.scanner_table.specs.declared.table.TargetStream.{TargetStream}
use Rattle.scanner_table.specs.Slots.{slot_at}
use Rattle.scanner_slots.specs.declared.bounds.Bounds.{Bounds}
use Rattle.scanner_slots.specs.Bounding.{IsBounded, IsBoundedAt, IsHinted, IsNoLater, has_target}
use Rattle.scanner_transactions.specs.declared.undo.SlotBefore.{SlotBefore}
use Rattle.scanner_transactions.specs.Undoing.{slot_before, undone_at, undone_slots}
use Rattle.scanner_transactions.proofs.Found.{indexed_at, found_at}
use Rattle.scanner_transactions.proofs.Tame.{get_other}

-- earlier bounds hold of the slot of a number where later ones do
abbrev pub Earlier : Type 0
Earlier = (bounds later : Bounds) (t : ScannerTable) (number : ℕ) → IsNoLater bounds later → IsBoundedAt later t number → IsBoundedAt bounds t number

-- the changed slots are bounded
abbrev pub AreBoundedAt : Bounds → ScannerTable → List SlotBefore → Type 0
AreBoundedAt bounds t [] = Unit {0}
AreBoundedAt bounds t (before ∷ kept) = IsBoundedAt bounds t before.number × AreBoundedAt bounds t kept

pub no_later_than : (a b c : Bounds) → IsNoLater a b → IsNoLater b c → IsNoLater a c
no_later_than a b c first second = record { deadlines = omega (arith, first.deadlines, second.deadlines); retries = omega (arith, first.retries, second.retries); dues = omega (arith, first.dues, second.dues) }

pub no_later : (a : Bounds) → IsNoLater a a
no_later a = record { deadlines = omega arith; retries = omega arith; dues = omega arith }

-- ---- a walk over the changed slots

-- what bounds the changed slots from a place on, and is no later than the bounds so far, bounds all of them
abbrev pub Narrows : Bounds → ScannerTable → List SlotBefore → ℕ → Type 0
Narrows so_far t kept index = (bounds : Bounds) → IsNoLater bounds so_far → AreBoundedAt bounds t (drop index kept) → AreBoundedAt bounds t kept

pub narrows_more : Earlier → (so_far next : Bounds) (t : ScannerTable) (kept : List SlotBefore) (index : ℕ) (before d : SlotBefore) → index < length kept → before ≡ get_or kept index d → IsNoLater next so_far → IsBoundedAt next t before.number → Narrows so_far t kept index → (more : ℕ) → more ≡ suc index → Narrows next t kept more
narrows_more earlier so_far next t kept index before d lt is le at narrows more same bounds le' rest =
    let behind : AreBoundedAt bounds t (drop (suc index) kept) = subst (λ (n : ℕ). AreBoundedAt bounds t (drop n kept)) same rest in
    let begins : drop index kept ≡ before ∷ drop (suc index) kept = drop-cons kept index d lt ∙ ap (λ (b : SlotBefore). b ∷ drop (suc index) kept) (sym is) in
    narrows bounds (no_later_than bounds next so_far le' le) (subst (AreBoundedAt bounds t) (sym begins) (earlier bounds next t before.number le' at, behind))

none_left : (kept : List SlotBefore) (index : ℕ) → length kept ≤ index → drop index kept ≡ []
none_left [] zero le = refl
none_left [] (suc index) le = refl
none_left (before ∷ kept) zero le = absurd (omega (arith, le))
none_left (before ∷ kept) (suc index) le = none_left kept index (omega (arith, le))

pub narrows_all : (so_far : Bounds) (t : ScannerTable) (kept : List SlotBefore) (index : ℕ) → length kept ≤ index → Narrows so_far t kept index → AreBoundedAt so_far t kept
narrows_all so_far t kept index le narrows = narrows so_far (no_later so_far) (subst (AreBoundedAt so_far t) (sym (none_left kept index le)) tt)

-- ---- the slots that are not changed

undone_other : (before : SlotBefore) (slots : List Slot) (number : ℕ) (found : Option Slot) → (number == before.number) ≡ false → slice_get (undone_at before slots found) number ≡ slice_get slots number
undone_other before slots number None other = refl
undone_other before slots number (Some slot) other = get_other slots before.number number (slot_before before slot) other

carried_step : (b : Bool) (next : Bounds) (t : ScannerTable) (number : ℕ) (before : SlotBefore) → (number == before.number) ≡ b → IsBoundedAt next t before.number → ((number == before.number) ≡ false → IsBoundedAt next t number) → IsBoundedAt next t number
carried_step true next t number before is here more =
    let same : before.number ≡ number = grind (arith, nat_tests, is) in
    subst (IsBoundedAt next t) same here
carried_step false next t number before is here more = more is

-- a slot was changed and is bounded, or is as it was
carried : (next : Bounds) (t : ScannerTable) (number : ℕ) (kept : List SlotBefore) (slots : List Slot) → AreBoundedAt next t kept → (slice_get (undone_slots kept slots) number ≡ slice_get slots number → IsBoundedAt next t number) → IsBoundedAt next t number
carried next t number [] slots hold more = more refl
carried next t number (before ∷ kept) slots hold more =
    carried_step (number == before.number) next t number before refl hold.0 (λ other. carried next t number kept slots hold.1 (λ same. more (undone_other before (undone_slots kept slots) number (slice_get (undone_slots kept slots) before.number) other ∙ same)))

-- ---- the table

-- the same slot at a number, in a table with the same streams
same_at : (bounds : Bounds) (old new : ScannerTable) (number : ℕ) → old.profile ≡ new.profile → old.streams ≡ new.streams → slice_get old.slots number ≡ slice_get new.slots number → IsBoundedAt bounds old number → IsBoundedAt bounds new number
same_at bounds old new number profile streams slot at indexed is =
    let here : slot_at old number ≡ slot_at new number = found_at number old.profile.slots old.slots ∙ ap (λ p. indexed_at number (slice_get p.slots number) (slice_get old.slots number)) profile ∙ ap (indexed_at number (slice_get new.profile.slots number)) slot ∙ sym (found_at number new.profile.slots new.slots) in
    subst (λ (s : List TargetStream). IsBounded bounds (has_target s indexed) indexed) streams (at indexed (here ∙ is))

pub narrowed_hinted : Earlier → ((bounds : Bounds) (t : ScannerTable) (number : ℕ) → IsHinted bounds t → IsBoundedAt bounds t number) → ((bounds : Bounds) (t : ScannerTable) → ((number : ℕ) → IsBoundedAt bounds t number) → IsHinted bounds t) → (bounds next : Bounds) (old new : ScannerTable) (kept : List SlotBefore) → IsNoLater next bounds → AreBoundedAt next new kept → old.profile ≡ new.profile → old.streams ≡ new.streams → old.slots ≡ undone_slots kept new.slots → IsHinted bounds old → IsHinted next new
narrowed_hinted earlier each all bounds next old new kept le hold profile streams slots hinted =
    all next new (λ number. carried next new number kept new.slots hold (λ same. same_at next old new number profile streams (ap (λ (s : List Slot). slice_get s number) slots ∙ same) (earlier next bounds old number le (each bounds old number hinted))))

-- no streams were kept, so none has changed
pub no_streams : (b : Bool) (kept : Option (List TargetStream)) (streams : List TargetStream) → b ≡ is_some kept → b ≡ false → unwrap_or kept streams ≡ streams
no_streams b None streams is not = refl
no_streams b (Some before) streams is not = absurd (let e : true ≡ false = sym is ∙ not in cc)
