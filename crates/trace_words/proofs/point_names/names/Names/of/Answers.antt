use Rattle.std.proofs.Common.{◌∙◌}
use Rattle.trace_words.proofs.Found.{name_found}
use Rattle.trace_words.proofs.point_names.names.Names.of.Goals as goal

pub returns : goal.returns
returns c = c.found.ensures ∙ name_found c.args.self.now.names.items c.args.named
