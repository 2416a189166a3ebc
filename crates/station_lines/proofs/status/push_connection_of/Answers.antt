use Rattle.std.proofs.Common.{◌≡◌, sym, ap, ◌∙◌}
use Rattle.station_lines.specs.Status.{connection_at, connection_line}
use Rattle.station_lines.proofs.status.push_connection_of.Goals as goal

-- the line of the connection that there is
pub returns-in-Some : goal.returns-in-Some
returns-in-Some c =
    let line : connection_at c.args.at c.args.connections.now c.args.report ≡ connection_line c.args.at c.counted_of.result c.in-Some.report =
    ap (connection_at c.args.at c.args.connections.now) c.in-Some.is ∙ ap (λ counted. connection_line c.args.at counted c.in-Some.report) (sym c.counted_of.ensures) in
    rw line c.push_connection.ensures
