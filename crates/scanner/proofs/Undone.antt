-- Transactions that begin at the table of a scanner, and end at it.
use Rattle.std.proofs.Common.{◌≡◌, Result, Err, IsOk, refl, sym, ap, subst, ◌∙◌}
use Rattle.cip_events.specs.declared.event.Answer.{Answer}
use Rattle.cip_events.specs.declared.event.StepFault.{StepFault}
use Rattle.cip_events.specs.declared.event.StepFault.TheVariants.{OutOfMemory}
use Rattle.cip_events.specs.Outcomes.{Follows}
use Rattle.scanner_table.specs.declared.profile.ScannerProfile.{ScannerProfile}
use Rattle.scanner_table.specs.declared.table.ScannerTable.{ScannerTable}
use Rattle.scanner_table.specs.Effects.{Next}
use Rattle.scanner_slots.specs.declared.scanner.ScannerState.{ScannerState}
use Rattle.scanner_slots.specs.declared.bounds.Bounds.{Bounds}
use Rattle.scanner_slots.specs.Bounding.{IsHinted}
use Rattle.scanner_slots.specs.Views.{table_of}
use Rattle.scanner_transactions.specs.declared.transaction.Transaction.{Transaction}
use Rattle.scanner_transactions.specs.Transactions.{Progress, begun, view_transaction}
use Rattle.scanner_transactions.specs.Undoing.{state_of, state_before, table_with}

-- a transaction that was undone leaves the table as it was
pub same_table : (profile : ScannerProfile) (first last : Transaction) (old new : ScannerState) → state_before first ≡ state_of old → state_before last ≡ state_before first → state_of new ≡ state_before last → table_of profile new ≡ table_of profile old
same_table profile first last old new begins kept ends = ap (table_with profile) (ends ∙ kept ∙ begins)

-- so a step that finds no memory is as its outcome says
pub undone_follows : (said : Result Next StepFault) (old new : ScannerTable) (why : StepFault) → why ≡ OutOfMemory → new ≡ old → IsOk said → Follows said old (Err why) new
undone_follows said old new why is same ok = subst (λ (w : StepFault). Follows said old (Err w) new) (sym is) (ok, same)

-- a transaction that has just begun
pub is_fresh : (first : Transaction) (t : ScannerTable) → view_transaction first ≡ begun t → view_transaction first ≡ begun (view_transaction first).table
is_fresh first t begins = begins ∙ ap (λ (d : Progress). begun d.table) (sym begins)

-- the table that a transaction leaves, with the profile that it began with
pub same_profile : (first last : Transaction) (profile : ScannerProfile) (new : ScannerState) → first.profile.now ≡ profile → last.profile.now ≡ first.profile.now → table_of last.profile.now new ≡ (view_transaction last).table → table_of profile new ≡ (view_transaction last).table
same_profile first last profile new begins kept ends = ap (λ (p : ScannerProfile). table_of p new) (sym (kept ∙ begins)) ∙ ends

-- the table at the beginning of a transaction that goes on
before_is : (first last : Transaction) (profile : ScannerProfile) (old : ScannerState) → first.profile.now ≡ profile → last.profile.now ≡ first.profile.now → state_before first ≡ state_of old → state_before last ≡ state_before first → table_with last.profile.now (state_before last) ≡ table_of profile old
before_is first last profile old begins kept was goes = ap (λ (p : ScannerProfile). table_with p (state_before last)) (kept ∙ begins) ∙ ap (table_with profile) (goes ∙ was)

-- the bounds that a transaction leaves hold of its table
pub bounded_on : (bounds next : Bounds) (first last : Transaction) (profile : ScannerProfile) (old new : ScannerState) → first.profile.now ≡ profile → last.profile.now ≡ first.profile.now → state_before first ≡ state_of old → state_before last ≡ state_before first → table_of last.profile.now new ≡ (view_transaction last).table → (IsHinted bounds (table_with last.profile.now (state_before last)) → IsHinted next (view_transaction last).table) → IsHinted bounds (table_of profile old) → IsHinted next (table_of profile new)
bounded_on bounds next first last profile old new begins kept was goes ends leads hinted =
    subst (IsHinted next) (sym (same_profile first last profile new begins kept ends)) (leads (subst (IsHinted bounds) (sym (before_is first last profile old begins kept was goes)) hinted))

-- the same of the bounds that a frame leaves
pub answered_on : (bounds next : Bounds) (first last : Transaction) (profile : ScannerProfile) (old new : ScannerState) → first.profile.now ≡ profile → last.profile.now ≡ first.profile.now → state_before first ≡ state_of old → state_before last ≡ state_before first → (IsHinted bounds (table_with last.profile.now (state_before last)) → IsHinted next (table_of last.profile.now new)) → IsHinted bounds (table_of profile old) → IsHinted next (table_of profile new)
answered_on bounds next first last profile old new begins kept was goes leads hinted =
    subst (λ (p : ScannerProfile). IsHinted next (table_of p new)) (kept ∙ begins) (leads (subst (IsHinted bounds) (sym (before_is first last profile old begins kept was goes)) hinted))

pub both_same : (a b : Answer) (t u : ScannerTable) → a ≡ b → t ≡ u → ◌≡◌ {A = Next} (a, t) (b, u)
both_same a b t u same are = rw (same, are) refl
