use Rattle.std.proofs.Common.{◌≡◌, ◌≤◌, ◌<◌, None, find, sym, ap, ◌∙◌, arith, rules}
use Rattle.adapter_table.specs.Rows.{is_timed_out}
use Rattle.indexed_connections.specs.List.Replacing.{leaves_found, leaves_replaced, leaves_none, leaves_first}
use Rattle.indexed_connections.proofs.from_list.replaced_row.Goals as goal

pub returns-in-Some : goal.returns-in-Some
returns-in-Some c = sym (leaves_found c.args.connections.now c.args.triad c.in-Some.row (sym c.in-Some.is ∙ c.of.ensures))

pub returns-then-len-lt-MOST_CONNECTIONS : goal.returns-then-len-lt-MOST_CONNECTIONS
returns-then-len-lt-MOST_CONNECTIONS c =
    let lt : c.len.result < 64 = search rules in
    let len = c.len.ensures.len in
    sym (leaves_replaced c.args.connections.now c.args.triad (sym c.in_default.is ∙ c.of.ensures) (omega arith))

pub returns-in_err-first : goal.returns-in_err-first
returns-in_err-first c =
    let many : 64 ≤ c.len.result = search rules in
    let len = c.len.ensures.len in
    let none : find is_timed_out c.args.connections.now ≡ None = ap (find is_timed_out) (sym c.rows.ensures.rows) ∙ sym c.first_timed_out.ensures ∙ c.in_err-first.was in
    c.from_residual.ensures ∙ sym (leaves_none c.args.connections.now c.args.triad (sym c.in_default.is ∙ c.of.ensures) (omega arith) none)

pub returns : goal.returns
returns c =
    let many : 64 ≤ c.len.result = search rules in
    let len = c.len.ensures.len in
    c.numbered.ensures
    ∙ sym (leaves_first c.args.connections.now c.args.triad c.in_ok-first.first (sym c.in_default.is ∙ c.of.ensures) (omega arith)
    (ap (find is_timed_out) (sym c.rows.ensures.rows) ∙ sym c.first_timed_out.ensures ∙ c.in_ok-first.was))
