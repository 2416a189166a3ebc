use Rattle.std.proofs.Common.{sym, ◌∙◌}
use Rattle.messaging.specs.Class3Connections.{is_last_message, replied_class3}
use Rattle.messaging.proofs.Changing.{changed_at, none_changed}
use Rattle.messaging.proofs.class3_connections.reply_to.Goals as goal

pub returns-in_default : goal.returns-in_default
returns-in_default c = none_changed (is_last_message c.args.id c.args.count) (replied_class3 c.args.reply) c.args.class3_connections.now (sym c.place_of_message.ensures ∙ c.in_default.is)

pub returns : goal.returns
returns c = changed_at (is_last_message c.args.id c.args.count) (replied_class3 c.args.reply) c.args.class3_connections.now c.in-Some.place _ (sym c.place_of_message.ensures ∙ c.in-Some.is)
