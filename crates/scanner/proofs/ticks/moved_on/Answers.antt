use Rattle.std.proofs.Common.{sym, ap, subst}
use Rattle.scanner_table.specs.Ticks.{clocked_table}
use Rattle.scanner_table.specs.WellFormed.{IsWellFormed}
use Rattle.scanner_transactions.specs.Transactions.{Progress, view_transaction}
use Rattle.scanner.proofs.Ticking.{clock_moved, moved_advanced, whole_on}
use Rattle.scanner.proofs.ticks.moved_on.Goals as goal

pub due_datagrams-requires : goal.due_datagrams-requires
due_datagrams-requires c =
    let first = view_transaction c.args.transaction.now in
    let whole = whole_on (clocked_table first.table c.args.ms) (c.advancing_keeps_tables_well_formed.ensures first.table c.args.ms c.requires.time c.requires.whole) in
    let made = moved_advanced _ _ _ (clock_moved first.table c.args.ms c.from.result first c.requires.fresh c.from.ensures) c.in_ok-move_on.ensures.effect in
    record { whole = subst IsWellFormed (sym (ap (λ (d : Progress). d.table) made)) whole }

pub returns-clause-effect : goal.returns-clause-effect
returns-clause-effect c =
    let first = view_transaction c.args.transaction.now in
    moved_advanced _ _ _ (clock_moved first.table c.args.ms c.from.result first c.requires.fresh c.from.ensures) c.in_ok-move_on.ensures.effect

pub returns-clause-whole : goal.returns-clause-whole
returns-clause-whole c =
    let first = view_transaction c.args.transaction.now in
    let whole = whole_on (clocked_table first.table c.args.ms) (c.advancing_keeps_tables_well_formed.ensures first.table c.args.ms c.requires.time c.requires.whole) in
    let made = moved_advanced _ _ _ (clock_moved first.table c.args.ms c.from.result first c.requires.fresh c.from.ensures) c.in_ok-move_on.ensures.effect in
    subst IsWellFormed (sym (ap (λ (d : Progress). d.table) made)) whole
