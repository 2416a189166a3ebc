use Rattle.std.proofs.Common.{arith, rules}
use Rattle.std.proofs.lemmas.Grind.{common_steps}
use Rattle.cip_encap.specs.Message.{view_message, MessageFits}
use Rattle.cip_encap.proofs.MessageLaws.{message_reads}
use Rattle.cip_encap.proofs.StreamLaws.{message_is_first}
use Rattle.cip_encap.proofs.write.write_message.Goals as goal

pub returns-clause-text : goal.returns-clause-text
returns-clause-text c = grind (arith, common_steps)

pub returns-clause-is_text : goal.returns-clause-is_text
returns-clause-is_text c =
    let fits : MessageFits (view_message c.args.message.now) = search rules in
    (fits, returns-clause-text c)

pub returns-clause-read_back : goal.returns-clause-read_back
returns-clause-read_back c = message_reads _ _ (returns-clause-is_text c)

pub returns-clause-first : goal.returns-clause-first
returns-clause-first c = λ short. message_is_first _ (view_message c.args.message.now, returns-clause-is_text c, short)
