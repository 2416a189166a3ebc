use Rattle.std.proofs.Common.{◌≡◌, find, Some, rules}
use Rattle.adapter_table.specs.EachLemmas.{each_found}
use Rattle.adapter_table.specs.Rows.{has_triad}
use Rattle.adapter_table.specs.Whole.{FitsRow}
use Rattle.adapter.proofs.state.AdapterState.connection_of.Goals as goal

pub report_of-requires-clause-waits : goal.report_of-requires-clause-waits
report_of-requires-clause-waits g c =
    let f : find (has_triad c.args.triad) (g.T.ConnectionsView.rows c.self.inside.table) ≡ Some c.in-Some.row = rw (← c.find.ensures) (search rules) in
    (each_found FitsRow (has_triad c.args.triad) (g.T.ConnectionsView.rows c.self.inside.table) c.in-Some.row f c.self.invariant.fits).watchdog
