use Rattle.std.proofs.Common.{◌≡◌, filter, rules}
use Rattle.std.specs.List.{filter_map}
use Rattle.adapter_table.specs.Productions.{producer_in, produces_on_change}
use Rattle.indexed_connections.specs.List.Orders.{picked}
use Rattle.indexed_connections.proofs.Loops.{all_picked}
use Rattle.indexed_connections.proofs.list.changes.producers_on_change.Goals as goal

pub returns : goal.returns
returns c =
    let test = produces_on_change c.args.clock c.args.point in
    let all : filter_map (picked test) c.args.rows.now ≡ filter_map producer_in (filter test c.args.rows.now) = all_picked test c.args.rows.now in
    search rules
