use Rattle.std.proofs.Common.{ap}
use Rattle.segment_world.proofs.Outputs.{answer_carried, none_fails}
use Rattle.segment_world.proofs.traffic.Traffic.fan_out.Goals as goal

pub unreachable-requires : goal.unreachable-requires
unreachable-requires c = absurd (none_fails c.args.device c.args.node c.args.answer.now c.args.self.now c.send_answer.new.network c.requires.space c.requires.small c.in_default.ensures)

pub returns-clause-sent : goal.returns-clause-sent
returns-clause-sent c = ap (λ t. t.0) (answer_carried c.args.device c.args.node c.args.answer.now c.args.self.now c.send_answer.new.network c.in-Ok.ensures.0)

pub returns-clause-streams : goal.returns-clause-streams
returns-clause-streams c = ap (λ t. t.1) (answer_carried c.args.device c.args.node c.args.answer.now c.args.self.now c.send_answer.new.network c.in-Ok.ensures.0)
