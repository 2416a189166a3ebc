use Rattle.std.proofs.Common.{◌≡◌, ◌+◌, length, arith}
use Rattle.eip_line.proofs.Owning.{line_count, line_is_own}
use Rattle.eip_line.proofs.line_setup.script.scripts.Goals as goal

pub returns-clause-own : goal.returns-clause-own
returns-clause-own c = line_is_own c.loop-number.scripts.items c.loop-number.number c.args.turns c.loop-number.invariant

pub returns-clause-count : goal.returns-clause-count
returns-clause-count c =
    let count : length c.loop-number.scripts.items ≡ c.loop-number.number + 1 = line_count c.loop-number.scripts.items c.loop-number.number c.args.turns c.loop-number.invariant in
    omega arith
