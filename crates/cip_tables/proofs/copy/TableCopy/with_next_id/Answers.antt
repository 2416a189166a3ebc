use Rattle.scanner_table.specs.declared.table.ScannerTable.{ScannerTable}
use Rattle.scanner_table.specs.Whole.{IsWholeScanner}
use Rattle.cip_types.specs.Ids.{end_number}
use Rattle.cip_tables.specs.Whole.{ids_of, next_id_of}
use Rattle.std.proofs.Common.{◌≤◌, subst, sym, rules}
use Rattle.cip_tables.proofs.RunKeeps.{later_scanner}
use Rattle.cip_tables.proofs.copy.TableCopy.with_next_id.Goals as goal

pub scanner-requires : goal.scanner-requires
scanner-requires c =
    let later = subst (λ d. next_id_of d ≤ c.args.counter) (sym c.self.view_is) c.requires.later in
    let last = subst (λ d. c.args.counter ≤ end_number (ids_of d)) (sym c.self.view_is) c.requires.last in
    let whole = later_scanner c.later_counters_keep_tables_whole.ensures c.self.inside.table c.in-Scanner.table c.args.counter c.in-Scanner.is later last c.self.invariant in
    let moved = subst (λ (t : ScannerTable). IsWholeScanner (record t { next_id = c.args.counter })) (sym c.in-Scanner.table-is) whole in
    subst IsWholeScanner (sym c.with_next_id-in-Scanner.ensures.value) moved

pub returns-in-Adapter : goal.returns-in-Adapter
returns-in-Adapter c = search rules
