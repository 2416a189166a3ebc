use Rattle.std.proofs.Common.{◌≡◌, ◌∙◌, Some, None, List, map, sym, ap, subst}
use Rattle.std.specs.List.{list_any}
use Rattle.std.specs.Map.{lookup}
use Rattle.adapter_table.specs.Connections.{Row}
use Rattle.adapter_table.specs.Datagrams.{is_for}
use Rattle.conn_slab.specs.Records.{same_source}
use Rattle.conn_slab.specs.Layout.{running_key}
use Rattle.conn_slab.specs.Connections.{accepting_if}
use Rattle.conn_slab.proofs.Effects.{accepts, unaccepted}
use Rattle.conn_slab.proofs.connections.Connections.accept.Goals as goal

pub returns-in_default-clause-found : goal.returns-in_default-clause-found
returns-in_default-clause-found c =
    let own = c.self.inside in
    let none : running_key own.records (lookup (same_source (record { peer = c.args.peer.0; id = c.args.id.0 })) own.by_source.entries) ≡ None = ap (running_key own.records) (sym c.get.ensures.value) ∙ sym c.running.ensures ∙ c.in_default.is in
    sym (unaccepted own.records own.by_triad.entries own.by_source.entries own.pool c.self.invariant c.args.peer c.args.id.0 c.args.accepted.number c.args.accepted.count c.args.deadline none).0 ∙ ap (list_any (is_for c.args.peer c.args.id.0)) c.self.view_is

pub returns-in_default-clause-rows : goal.returns-in_default-clause-rows
returns-in_default-clause-rows c =
    let own = c.self.inside in
    let none : running_key own.records (lookup (same_source (record { peer = c.args.peer.0; id = c.args.id.0 })) own.by_source.entries) ≡ None = ap (running_key own.records) (sym c.get.ensures.value) ∙ sym c.running.ensures ∙ c.in_default.is in
    let P : List Row → Type 0 = λ rows. rows ≡ map (accepting_if c.args.peer c.args.id.0 c.args.accepted.number c.args.accepted.count c.args.deadline) rows in
    subst P c.self.view_is (sym (unaccepted own.records own.by_triad.entries own.by_source.entries own.pool c.self.invariant c.args.peer c.args.id.0 c.args.accepted.number c.args.accepted.count c.args.deadline none).1)

pub invariant_of-self : goal.invariant_of-self
invariant_of-self c =
    let own = c.self.inside in
    let some : running_key own.records (lookup (same_source (record { peer = c.args.peer.0; id = c.args.id.0 })) own.by_source.entries) ≡ Some (c.in-Some.key, c.in-Some.field-0-1) = ap (running_key own.records) (sym c.get.ensures.value) ∙ sym c.running.ensures ∙ c.in-Some.is in
    let all = accepts own.records own.by_triad.entries own.by_source.entries own.pool c.self.invariant c.args.peer c.args.id.0 c.in-Some.key c.in-Some.field-0-1 c.index_mut-record.result.now c.args.accepted c.args.deadline some c.index_mut-record.ensures.value in
    all.kept

pub returns-clause-found : goal.returns-clause-found
returns-clause-found c =
    let own = c.self.inside in
    let some : running_key own.records (lookup (same_source (record { peer = c.args.peer.0; id = c.args.id.0 })) own.by_source.entries) ≡ Some (c.in-Some.key, c.in-Some.field-0-1) = ap (running_key own.records) (sym c.get.ensures.value) ∙ sym c.running.ensures ∙ c.in-Some.is in
    let all = accepts own.records own.by_triad.entries own.by_source.entries own.pool c.self.invariant c.args.peer c.args.id.0 c.in-Some.key c.in-Some.field-0-1 c.index_mut-record.result.now c.args.accepted c.args.deadline some c.index_mut-record.ensures.value in
    sym all.found ∙ ap (list_any (is_for c.args.peer c.args.id.0)) c.self.view_is

pub returns-clause-rows : goal.returns-clause-rows
returns-clause-rows c =
    let own = c.self.inside in
    let some : running_key own.records (lookup (same_source (record { peer = c.args.peer.0; id = c.args.id.0 })) own.by_source.entries) ≡ Some (c.in-Some.key, c.in-Some.field-0-1) = ap (running_key own.records) (sym c.get.ensures.value) ∙ sym c.running.ensures ∙ c.in-Some.is in
    let all = accepts own.records own.by_triad.entries own.by_source.entries own.pool c.self.invariant c.args.peer c.args.id.0 c.in-Some.key c.in-Some.field-0-1 c.index_mut-record.result.now c.args.accepted c.args.deadline some c.index_mut-record.ensures.value in
    all.rows ∙ ap (map (accepting_if c.args.peer c.args.id.0 c.args.accepted.number c.args.accepted.count c.args.deadline)) c.self.view_is
