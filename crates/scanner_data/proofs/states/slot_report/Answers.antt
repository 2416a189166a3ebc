use Rattle.std.proofs.Common.{◌≡◌, Some, find}
use Rattle.scanner_table.specs.Slots.{indexed_slots, is_numbered}
use Rattle.scanner_slots.specs.Views.{view_slot, table_of}
use Rattle.scanner_data.proofs.Facts.{found, watchdog_of}
use Rattle.scanner_data.proofs.states.slot_report.Goals as goal

pub target_report-requires-clause-waits : goal.target_report-requires-clause-waits
target_report-requires-clause-waits c =
    let t = table_of c.args.profile.now c.args.scanner.now in
    let is : Some (view_slot c.in_ok-indexed.indexed) ≡ find (is_numbered c.args.number) (indexed_slots t) = rw (← c.as_slice.ensures, ← c.deref.ensures.value) c.in_ok-indexed.ensures.found in
    let at = found _ t (view_slot c.in_ok-indexed.indexed) c.requires.whole is in
    watchdog_of _ _ _ _ _ c.in-Established.connection c.in-Established.is at.state at.watchdog at.mult
