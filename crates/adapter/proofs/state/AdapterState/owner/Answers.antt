use Rattle.std.proofs.Common.{◌≡◌, find, Some, rules}
use Rattle.adapter_table.specs.EachLemmas.{each_found}
use Rattle.adapter_table.specs.Rows.{drives}
use Rattle.adapter_table.specs.Whole.{FitsRow}
use Rattle.adapter.proofs.state.AdapterState.owner.Goals as goal

pub report_of-requires-clause-waits : goal.report_of-requires-clause-waits
report_of-requires-clause-waits g c =
    let f : find (drives c.args.output) (g.T.ConnectionsView.rows c.self.inside.table) ≡ Some c.in_ok-row.row = rw (← c.owner.ensures) (search rules) in
    (each_found FitsRow (drives c.args.output) (g.T.ConnectionsView.rows c.self.inside.table) c.in_ok-row.row f c.self.invariant.fits).watchdog
