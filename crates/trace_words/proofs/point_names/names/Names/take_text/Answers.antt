use Rattle.std.proofs.Common.{rules}
use Rattle.trace_words.specs.PointNames.Things.{names_in}
use Rattle.trace_words.proofs.Taking.{is_text, is_no_text}
use Rattle.trace_words.proofs.point_names.names.Names.take_text.Goals as goal

pub returns-in-Some : goal.returns-in-Some
returns-in-Some c = rw (is_text (names_in c.args.self.now) c.args.named c.args.text.now c.in-Some.ensures.1, ← c.in-Some.ensures.0) c.take_name.ensures

pub returns-in-None : goal.returns-in-None
returns-in-None c = rw (is_no_text (names_in c.args.self.now) c.args.named c.args.text.now c.in-None.ensures) (search rules)
