use Rattle.std.proofs.Common.{List, ◌+◌, not, drop, sym, ap, subst, ◌∙◌, arith}
use Rattle.std.proofs.lemmas.List.{drop_more}
use Rattle.cip_types.specs.declared.names.Triad.{Triad}
use Rattle.adapter_table.specs.Rows.{has_triad}
use Rattle.adapter_table.specs.Sound.{TriadsDiffer}
use Rattle.adapter_table.specs.Lemmas.SoundLemmas.{triads_filter}
use Rattle.indexed_connections.specs.List.Removals.{without_each}
use Rattle.indexed_connections.proofs.counts.close_each.Goals as goal

pub loop-triad-preserved : goal.loop-triad-preserved
loop-triad-preserved c =
    let rows = c.loop-triad.connections in
    record {
      same = ap (without_each (drop (c.loop-triad.triad-index + 1) c.args.triads.now)) c.close.ensures.rows
          ∙ sym (ap (λ (l : List Triad). without_each l rows) (drop_more c.args.triads.now c.loop-triad.triad-index _ (omega arith)))
          ∙ c.loop-triad.invariant.same;
      differ = subst TriadsDiffer (sym c.close.ensures.rows) (triads_filter (λ row. not (has_triad _ row)) rows c.loop-triad.invariant.differ);
      counted = c.close.ensures.counted;
    }
