use Rattle.std.proofs.Common.{◌≡◌, List, map, ap, ◌∙◌}
use Rattle.cip_productions.specs.Productions.{sent}
use Rattle.adapter_table.specs.Connections.{Row}
use Rattle.adapter_table.specs.Opening.{triad_of}
use Rattle.adapter_table.specs.Closing.{unsupported, staying}
use Rattle.adapter_table.specs.Productions.{due_productions}
use Rattle.adapter_table.specs.Ticks.{expired, expired_rows}
use Rattle.indexed_connections.proofs.Advancing.{expired_back, left_after}
use Rattle.indexed_connections.proofs.list.expiries.tick_plan.Goals as goal

pub returns : goal.returns
returns c =
    let clock = c.args.clock in
    let rows = c.args.rows.items in
    let back = expired_back clock c.args.rows.len rows c.deref_mut.result.now c.expire_rows.new.rows c.deref_mut.ensures.value c.deref_mut.ensures.len c.expire_rows.ensures in
    let dropped : c.in_ok-dropped.dropped.items ≡ map triad_of (unsupported (expired_rows clock rows)) =
    c.in_ok-dropped.ensures ∙ ap (λ (l : List Row). map triad_of (unsupported l)) (c.deref-2.ensures.value ∙ back) in
    let left : c.deref-4.result.now ≡ staying (expired_rows clock rows) =
    c.deref-4.ensures.value ∙ left_after clock rows _ c.remove_each.new.rows.items c.deref-3.result.now back c.remove_each.ensures c.requires (c.deref-3.ensures.value ∙ dropped) in
    record {
      expired = c.in_ok-expired.ensures ∙ ap (expired clock) c.deref.ensures.value;
      dropped = dropped;
      datagrams = c.in_ok-datagrams.ensures ∙ ap (λ (l : List Row). map sent (due_productions clock l c.args.assemblies.now.values)) left;
    }
