use Rattle.std.proofs.Common.{◌≤◌, ◌<◌, length, sym, ◌∙◌, rules}
use Rattle.indexed_connections.specs.List.Replacing.{leaves_found, leaves_replaced, leaves_none, leaves_first}
use Rattle.indexed_connections.proofs.list.rows.replaced_row.Goals as goal

pub returns-in-Some : goal.returns-in-Some
returns-in-Some c = sym (leaves_found c.args.rows.now c.args.triad c.in-Some.row (sym c.in-Some.is ∙ c.find_row.ensures))

pub returns-then-rows-lt-MOST_CONNECTIONS : goal.returns-then-rows-lt-MOST_CONNECTIONS
returns-then-rows-lt-MOST_CONNECTIONS c =
    let few : length c.args.rows.now < 64 = search rules in
    sym (leaves_replaced c.args.rows.now c.args.triad (sym c.in_default.is ∙ c.find_row.ensures) few)

pub returns-in_err-first : goal.returns-in_err-first
returns-in_err-first c =
    let many : 64 ≤ length c.args.rows.now = search rules in
    c.from_residual.ensures ∙ sym (leaves_none c.args.rows.now c.args.triad (sym c.in_default.is ∙ c.find_row.ensures) many (sym c.first_timed_out.ensures ∙ c.in_err-first.was))

pub returns : goal.returns
returns c =
    let many : 64 ≤ length c.args.rows.now = search rules in
    c.find_opening.ensures
    ∙ sym (leaves_first c.args.rows.now c.args.triad c.in_ok-first.first (sym c.in_default.is ∙ c.find_row.ensures) many (sym c.first_timed_out.ensures ∙ c.in_ok-first.was))
