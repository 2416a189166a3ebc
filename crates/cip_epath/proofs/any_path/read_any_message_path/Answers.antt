use Rattle.std.proofs.Common.{◌∙◌}
use Rattle.cip_epath.specs.Laws.AnyLaws.{plain_message_reads}
use Rattle.cip_epath.proofs.any_path.read_any_message_path.Goals as goal

pub returns-clause-format_4 : goal.returns-clause-format_4
returns-clause-format_4 c = λ key reads. c.walked_any_message.ensures ∙ plain_message_reads c.args.bytes.now key reads
