use Rattle.std.proofs.Common.{sym, ◌∙◌}
use Rattle.messaging.specs.Class3Connections.{has_class3_id, executed_class3}
use Rattle.messaging.proofs.Changing.{changed_at, none_changed}
use Rattle.messaging.proofs.class3_connections.execute.Goals as goal

pub returns-in_default : goal.returns-in_default
returns-in_default c = none_changed (has_class3_id c.args.id) (executed_class3 c.args.count c.args.reply c.args.deadline) c.args.class3_connections.now (sym c.place_of_id.ensures ∙ c.in_default.is)

pub returns : goal.returns
returns c = changed_at (has_class3_id c.args.id) (executed_class3 c.args.count c.args.reply c.args.deadline) c.args.class3_connections.now c.in-Some.place _ (sym c.place_of_id.ensures ∙ c.in-Some.is)
