use Rattle.std.proofs.Common.{◌≡◌, ◌∙◌, ℕ, Some, None, find, sym, ap}
use Rattle.std.specs.Option.{option_map}
use Rattle.std.specs.Map.{lookup}
use Rattle.cip_datagram.specs.Datagram.{view_datagram}
use Rattle.adapter_table.specs.Datagrams.{is_for}
use Rattle.adapter_table.specs.Whole.{FitsRow}
use Rattle.conn_slab.specs.Records.{row_of, same_source}
use Rattle.conn_slab.specs.Layout.{running_key}
use Rattle.conn_slab.specs.Reception.{reception}
use Rattle.conn_slab.proofs.ReceptionLemmas.{found_fits, received_by, unreceived, received_found, received_kept, received_rows}
use Rattle.conn_slab.proofs.connections.Connections.receive.Goals as goal

abbrev second : ℕ × ℕ → ℕ
second found = found.1

pub returns-in_err-position : goal.returns-in_err-position
returns-in_err-position c =
    let own = c.self.inside in
    let d = view_datagram c.args.datagram.now in
    let nowhere : lookup (same_source (record { peer = c.args.peer.0; id = d.connection })) own.by_source.entries ≡ None = sym c.find_at_position.ensures ∙ ap (option_map second) c.in_err-position.was in
    let none : running_key own.records (lookup (same_source (record { peer = c.args.peer.0; id = d.connection })) own.by_source.entries) ≡ None = ap (running_key own.records) nowhere in
    let nobody : find (is_for c.args.peer d.connection) c.args.self.now ≡ None =
    ap (find (is_for c.args.peer d.connection)) (sym c.self.view_is) ∙ unreceived own.records own.by_triad.entries own.by_source.entries own.pool c.self.invariant c.args.peer d.connection none in
    record {
      received = rw (nobody, c.from_residual.ensures) tt;
      rows = ap (λ o. reception c.args.profile.now c.args.clock c.args.peer d o c.args.self.now) (sym nobody);
    }

pub returns-in_err-key : goal.returns-in_err-key
returns-in_err-key c =
    let own = c.self.inside in
    let d = view_datagram c.args.datagram.now in
    let none : running_key own.records (lookup (same_source (record { peer = c.args.peer.0; id = d.connection })) own.by_source.entries) ≡ None = ap (running_key own.records) (sym c.find_at_position.ensures ∙ ap (option_map second) c.in_ok-position.was) ∙ sym c.running.ensures ∙ c.in_err-key.was in
    let nobody : find (is_for c.args.peer d.connection) c.args.self.now ≡ None =
    ap (find (is_for c.args.peer d.connection)) (sym c.self.view_is) ∙ unreceived own.records own.by_triad.entries own.by_source.entries own.pool c.self.invariant c.args.peer d.connection none in
    record {
      received = rw (nobody, c.from_residual-in_err-key.ensures) tt;
      rows = c.self.view_is ∙ ap (λ o. reception c.args.profile.now c.args.clock c.args.peer d o c.args.self.now) (sym nobody);
    }

some : (c : goal.After-index_mut-record) → running_key c.self.inside.records (lookup (same_source (record { peer = c.args.peer.0; id = (view_datagram c.args.datagram.now).connection })) c.self.inside.by_source.entries) ≡ Some (c.in_ok-key.key, c.in_ok-key.field-0-1)
some c = ap (running_key c.self.inside.records) (sym c.find_at_position.ensures ∙ ap (option_map second) c.in_ok-position.was) ∙ sym c.running.ensures ∙ c.in_ok-key.was

fits : (c : goal.After-index_mut-record) → FitsRow (row_of c.self.inside.pool c.index_mut-record.result.now)
fits c =
    let own = c.self.inside in
    let d = view_datagram c.args.datagram.now in
    found_fits (is_for c.args.peer d.connection) c.args.self.now (row_of own.pool c.index_mut-record.result.now)
    (ap (find (is_for c.args.peer d.connection)) (sym c.self.view_is)
    ∙ received_found own.records own.by_triad.entries own.by_source.entries own.pool c.self.invariant c.args.profile.now c.args.clock c.args.peer d c.in_ok-key.key c.in_ok-key.field-0-1 c.index_mut-record.result.now (some c) c.index_mut-record.ensures.value)
    c.requires.fit

pub receive_record-requires-clause-waits : goal.receive_record-requires-clause-waits
receive_record-requires-clause-waits c = (fits c).watchdog

done : (c : goal.After-self-1) → running_key c.self.inside.records (lookup (same_source (record { peer = c.args.peer.0; id = (view_datagram c.args.datagram.now).connection })) c.self.inside.by_source.entries) ≡ Some (c.in_ok-key.key, c.in_ok-key.field-0-1)
done c = ap (running_key c.self.inside.records) (sym c.find_at_position.ensures ∙ ap (option_map second) c.in_ok-position.was) ∙ sym c.running.ensures ∙ c.in_ok-key.was

pub invariant_of-self : goal.invariant_of-self
invariant_of-self c = c.self.invariant

pub invariant_of-self-2 : goal.invariant_of-self-2
invariant_of-self-2 c =
    let own = c.self.inside in
    let d = view_datagram c.args.datagram.now in
    rw c.receive_record.ensures.after
    (received_kept own.records own.by_triad.entries own.by_source.entries own.pool c.self.invariant c.args.profile.now c.args.clock c.args.peer d c.in_ok-key.key c.in_ok-key.field-0-1 c.index_mut-record.result.now (done c) c.index_mut-record.ensures.value)

pub returns-clause-received : goal.returns-clause-received
returns-clause-received c =
    let own = c.self.inside in
    let d = view_datagram c.args.datagram.now in
    let found : find (is_for c.args.peer d.connection) c.args.self.now ≡ Some (row_of own.pool c.index_mut-record.result.now) =
    ap (find (is_for c.args.peer d.connection)) (sym c.self.view_is)
    ∙ received_found own.records own.by_triad.entries own.by_source.entries own.pool c.self.invariant c.args.profile.now c.args.clock c.args.peer d c.in_ok-key.key c.in_ok-key.field-0-1 c.index_mut-record.result.now (done c) c.index_mut-record.ensures.value in
    rw found (received_by c.args.profile.now c.args.clock d own.pool c.index_mut-record.result.now _ c.receive_record.ensures.received)

pub returns-clause-rows : goal.returns-clause-rows
returns-clause-rows c =
    let own = c.self.inside in
    let d = view_datagram c.args.datagram.now in
    rw (← c.self.view_is, c.receive_record.ensures.after)
    (received_rows own.records own.by_triad.entries own.by_source.entries own.pool c.self.invariant c.args.profile.now c.args.clock c.args.peer d c.in_ok-key.key c.in_ok-key.field-0-1 c.index_mut-record.result.now (done c) c.index_mut-record.ensures.value)
