use Rattle.std.proofs.Common.{◌≡◌, ◌∙◌, ℕ, Option, is_some, sym, ap}
use Rattle.std.specs.List.{list_any}
use Rattle.std.specs.Map.{lookup}
use Rattle.adapter_table.specs.Rows.{holds_triad}
use Rattle.conn_slab.specs.Records.{key_for, same_key}
use Rattle.conn_slab.specs.Layout.{running_key}
use Rattle.conn_slab.proofs.Effects.{held_by}
use Rattle.conn_slab.proofs.connections.Connections.is_open.Goals as goal

pub returns : goal.returns
returns c =
    let own = c.self.inside in
    let is : c.running.result ≡ running_key own.records (lookup (same_key (key_for c.args.triad)) own.by_triad.entries) =
    c.running.ensures ∙ ap (running_key own.records) c.get.ensures.value ∙ ap (λ n. running_key own.records (lookup (same_key n) own.by_triad.entries)) c.key_for.ensures in
    c.is_some.ensures ∙ ap (λ (o : Option (ℕ × ℕ)). is_some o) is
    ∙ sym (held_by own.records own.by_triad.entries own.by_source.entries own.pool c.self.invariant c.args.triad)
    ∙ ap (list_any (holds_triad c.args.triad)) c.self.view_is
