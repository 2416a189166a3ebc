use Rattle.std.proofs.Common.{rules, not}
use Rattle.std.proofs.lemmas.Fn.{filter_same}
use Rattle.adapter_table.specs.Rows.{has_triad}
use Rattle.indexed_connections.proofs.list.rows.remove_triad.Goals as goal

pub returns : goal.returns
returns c = record {
  items = filter_same _ (λ row. not (has_triad c.args.triad row)) _ (λ x b f' called. (search rules, search rules)) _ _ c.retain.ensures.filtered;
  len = c.retain.ensures.bound;
  capacity = c.retain.ensures.capacity;
}
