use Rattle.std.proofs.Common.{arith, sym, subst, ◌∙◌}
use Rattle.cip_epath.specs.Path.{IsReading}
use Rattle.cip_epath.specs.MessagePath.{IsMessagePath}
use Rattle.cip_epath.proofs.MessageWalk.{message_reading_is, one_message_reading}
use Rattle.cip_epath.proofs.message_path.read_message_path.Goals as goal

pub returns-clause-reading : goal.returns-clause-reading
returns-clause-reading c = subst (IsReading IsMessagePath c.args.bytes.now) (sym c.walked_message.ensures) (message_reading_is c.args.bytes.now (λ i. omega (arith, c.type_inv.bytes i)))

pub returns-clause-only : goal.returns-clause-only
returns-clause-only c = λ other is. c.walked_message.ensures ∙ one_message_reading c.args.bytes.now (λ i. omega (arith, c.type_inv.bytes i)) other is
