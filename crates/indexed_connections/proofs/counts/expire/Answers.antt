use Rattle.std.proofs.Common.{List, ◌+◌, drop, sym, ap, subst, ◌∙◌, arith}
use Rattle.std.proofs.lemmas.List.{drop_more}
use Rattle.adapter_table.specs.Connections.{Row}
use Rattle.adapter_table.specs.Sound.{TriadsDiffer}
use Rattle.conn_slab.specs.Connections.{timed_out_if}
use Rattle.indexed_connections.specs.List.Lone.{differ_mapped}
use Rattle.indexed_connections.specs.CountChanges.{timed_out_each}
use Rattle.indexed_connections.proofs.Expiring.{keeps_triad}
use Rattle.indexed_connections.proofs.counts.expire.Goals as goal

pub loop-row-preserved : goal.loop-row-preserved
loop-row-preserved c =
    let rows = c.loop-row.connections in
    record {
      same = ap (timed_out_each (drop (c.loop-row.row-index + 1) c.args.timed_out.now)) c.time_out.ensures.rows
          ∙ sym (ap (λ (l : List Row). timed_out_each l rows) (drop_more c.args.timed_out.now c.loop-row.row-index _ (omega arith)))
          ∙ c.loop-row.invariant.same;
      differ = subst TriadsDiffer (sym c.time_out.ensures.rows) (differ_mapped (timed_out_if _) (keeps_triad _) rows c.loop-row.invariant.differ);
      counted = c.time_out.ensures.counted;
    }
