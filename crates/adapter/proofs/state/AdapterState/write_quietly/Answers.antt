use Rattle.std.proofs.Common.{refl}
use Rattle.adapter_table.specs.Step.{written_table}
use Rattle.adapter.proofs.EngineEffects.{nothing_on_change}
use Rattle.adapter.proofs.state.AdapterState.write_quietly.Goals as goal

pub returns-clause-answer : goal.returns-clause-answer
unfolding written_table
returns-clause-answer g c =
    rw (c.plain.ensures, nothing_on_change c.args.self.now.clock c.args.point c.args.bytes.now c.args.self.now.rows c.requires.quiet) refl
