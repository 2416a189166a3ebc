use Rattle.std.proofs.Common.{◌≡◌, filter, rules}
use Rattle.std.specs.List.{filter_map}
use Rattle.adapter_table.specs.Productions.{producer_in, is_due}
use Rattle.indexed_connections.specs.List.Orders.{picked}
use Rattle.indexed_connections.proofs.Loops.{all_picked}
use Rattle.indexed_connections.proofs.list.productions.due_producers.Goals as goal

pub returns : goal.returns
returns c =
    let test = is_due c.args.clock in
    let all : filter_map (picked test) c.args.rows.now ≡ filter_map producer_in (filter test c.args.rows.now) = all_picked test c.args.rows.now in
    search rules
