-- What a transaction needs to go back: what the changed slots held, in the order of the changes, and the other parts of the
-- table as they were at the beginning.
use Rattle.std.specs.Prelude.{◌≡◌, ℕ, Bool, List, [], ◌∷◌, Option, Some, None, Result, slice_get, slice_set, unwrap_or}
use Rattle.std.specs.Result.{IfOk}
use Rattle.cip_types.specs.declared.ids.IdBlock.{IdBlock}
use Rattle.cip_types.specs.declared.names.Ms.{Ms}
use Rattle.cip_types.specs.declared.memory.OutOfMemory as memory
use Rattle.scanner_table.specs.declared.explicit.PendingExplicit.{PendingExplicit}
use Rattle.scanner_table.specs.declared.profile.ScannerProfile.{ScannerProfile}
use Rattle.scanner_table.specs.declared.slot.Slot.{Slot}
use Rattle.scanner_table.specs.declared.table.ScannerTable.{ScannerTable}
use Rattle.scanner_table.specs.declared.table.TargetStream.{TargetStream}
use Rattle.scanner_slots.specs.declared.scanner.ScannerState.{ScannerState}
use Rattle.scanner_transactions.specs.declared.transaction.Transaction.{Transaction}
use Rattle.scanner_transactions.specs.declared.undo.SlotBefore.{SlotBefore}
use Rattle.scanner_transactions.specs.Transactions.{Progress, view_transaction}

-- a slot as it was before a change
abbrev pub slot_before : SlotBefore → Slot → Slot
slot_before before slot = record slot { state = before.state; desired_up = before.desired_up; retry_at = before.retry_at; image = unwrap_or before.image slot.image }

-- what is kept of a slot whose image stays
abbrev pub kept_slot : ℕ → Slot → SlotBefore
kept_slot number slot = record { number = number; state = slot.state; desired_up = slot.desired_up; retry_at = slot.retry_at; image = None }

-- what is kept of a slot whose image is replaced
abbrev pub kept_with_image : ℕ → Slot → SlotBefore
kept_with_image number slot = record { number = number; state = slot.state; desired_up = slot.desired_up; retry_at = slot.retry_at; image = Some slot.image }

-- the slots with one change undone, at the slot that the lookup found
abbrev pub undone_at : SlotBefore → List Slot → Option Slot → List Slot
undone_at before slots None = slots
undone_at before slots (Some slot) = slice_set slots before.number (slot_before before slot)

-- the slots with the changes undone, the last one first
abbrev pub undone_slots : List SlotBefore → List Slot → List Slot
undone_slots [] slots = slots
undone_slots (before ∷ kept) slots = undone_at before (undone_slots kept slots) (slice_get (undone_slots kept slots) before.number)

-- the table of a scanner beside its profile
pub record State : Type 0 where
  pub slots : List Slot
  pub run : Bool
  pub clock : Ms
  pub ids : List IdBlock
  pub next_id : ℕ
  pub next_serial : ℕ
  pub next_request : ℕ
  pub streams : List TargetStream
  pub explicit : List PendingExplicit

abbrev pub state_of : ScannerState → State
state_of scanner = record {
  slots = scanner.slots.items;
  run = scanner.run;
  clock = scanner.clock;
  ids = scanner.ids.items;
  next_id = scanner.next_id;
  next_serial = scanner.next_serial;
  next_request = scanner.next_request;
  streams = scanner.streams.items;
  explicit = scanner.explicit.items;
}

-- the table with this profile
abbrev pub table_with : ScannerProfile → State → ScannerTable
table_with profile state = record {
  profile = profile;
  slots = state.slots;
  run = state.run;
  clock = state.clock;
  ids = state.ids;
  next_id = state.next_id;
  next_serial = state.next_serial;
  next_request = state.next_request;
  streams = state.streams;
  explicit = state.explicit;
}

-- the table beside the profile at the beginning of the transaction
abbrev pub state_before : Transaction → State
state_before transaction = record {
  slots = undone_slots transaction.undo.slots.items transaction.scanner.slots.items;
  run = transaction.scanner.run;
  clock = transaction.undo.clock;
  ids = transaction.scanner.ids.items;
  next_id = transaction.undo.next_id;
  next_serial = transaction.undo.next_serial;
  next_request = transaction.undo.next_request;
  streams = unwrap_or transaction.undo.streams transaction.scanner.streams.items;
  explicit = unwrap_or transaction.undo.explicit transaction.scanner.explicit.items;
}

-- the transaction goes on: its profile and its clock stay, and it can still go back to its beginning
abbrev pub GoesOn : Transaction → Transaction → Type 0
GoesOn old new = (new.profile.now ≡ old.profile.now) × (new.scanner.clock ≡ old.scanner.clock) × (state_before new ≡ state_before old)

-- A call within a transaction: it has this effect, or finds no memory. The transaction goes on in both cases.
pub record Performs (change : Progress → Progress) (old : Transaction) (result : Result (Unit {0}) memory.OutOfMemory) (new : Transaction) : Type 0 where
  pub effect : IfOk result (λ _. view_transaction new ≡ change (view_transaction old))
  pub kept : GoesOn old new
