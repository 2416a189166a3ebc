-- The runs of actions are the effects of the table.
use Rattle.std.proofs.Common.{◌≡◌, ◌&&◌, Bool, true, false, cond, List, [], ◌∷◌, filter, refl, sym, ap}
use Rattle.cip_types.specs.declared.names.Ms.{Ms}
use Rattle.cip_types.specs.declared.names.Node.{Node}
use Rattle.scanner_table.specs.declared.table.ScannerTable.{ScannerTable}
use Rattle.scanner_table.specs.Slots.{IndexedSlot, indexed_slots, is_with}
use Rattle.scanner_table.specs.Effects.{on_each}
use Rattle.scanner_table.specs.Opening.{is_ready_slot, opened, ready_opened, target_opened}
use Rattle.scanner_slots.specs.declared.search.SlotTest.TheVariants as slot_test
use Rattle.scanner_slots.specs.Views.{passes}
use Rattle.scanner_transactions.specs.declared.running.SlotAction.TheVariants as slot_action
use Rattle.scanner_transactions.specs.Runs.{run}

filter_step : {A : Type 0} (a b : Bool) (p : A → Bool) (x : A) (xs ys : List A) → p x ≡ b → filter p xs ≡ ys → filter p (cond a (x ∷ xs) xs) ≡ cond (a && b) (x ∷ ys) ys
filter_step true true p x xs ys is rest = rw (is, rest) refl
filter_step true false p x xs ys is rest = rw (is, rest) refl
filter_step false b p x xs ys is rest = rest

-- what passes one test, of what passes another
filter_both : {A : Type 0} (p q : A → Bool) (xs : List A) → filter p (filter q xs) ≡ filter (λ x. q x && p x) xs
filter_both p q [] = refl
filter_both p q (x ∷ xs) = filter_step (q x) (p x) p x (filter q xs) _ refl (filter_both p q xs)

-- the slots of a target that may try
ready_with : (target : Node) (clock : Ms) (all : List IndexedSlot) → filter (passes (slot_test.ReadyWith target clock)) all ≡ filter (is_with target) (filter (is_ready_slot clock) all)
ready_with target clock all = sym (filter_both (is_with target) (is_ready_slot clock) all)

pub ready_is : (t : ScannerTable) → run slot_action.Open (slot_test.Ready t.clock) t ≡ ready_opened t
unfolding ready_opened
ready_is t = refl

pub target_is : (target : Node) (t : ScannerTable) → run slot_action.Open (slot_test.ReadyWith target t.clock) t ≡ target_opened target t
unfolding target_opened
target_is target t = ap (λ (ps : List IndexedSlot). on_each opened ps t) (ready_with target t.clock (indexed_slots t))
