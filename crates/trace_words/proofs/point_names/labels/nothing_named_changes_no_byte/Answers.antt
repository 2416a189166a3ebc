use Rattle.trace_words.proofs.NothingNamed.{same_text}
use Rattle.trace_words.proofs.point_names.labels.nothing_named_changes_no_byte.Goals as goal

pub returns : goal.returns
returns c = same_text
