use Rattle.std.proofs.Common.{rules, refl}
use Rattle.adapter_table.specs.Step.{written_table}
use Rattle.adapter.proofs.state.AdapterState.write_on_change.Goals as goal

pub returns-in_err-datagrams : goal.returns-in_err-datagrams
returns-in_err-datagrams g c = search rules

pub returns : goal.returns
unfolding written_table
returns g c = rw (c.notices_answer.ensures, c.in_ok-datagrams.ensures, c.new.ensures.items, c.put.ensures, ← c.self.view_is) refl
