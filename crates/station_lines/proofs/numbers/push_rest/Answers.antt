use Rattle.std.specs.Prelude.{codes}
use Rattle.station_lines.specs.Numbers.{counts_numbers, ends_numbers, jitter_number}
use Rattle.trace_words.specs.Words.{node_word}
use Rattle.station_lines.specs.Attributes.Lemmas.Appended.{five}
use Rattle.station_lines.proofs.numbers.push_rest.Goals as goal

pub returns : goal.returns
returns c = five _ _ _ _ _ _ (codes ",") (node_word c.args.peer) (counts_numbers c.args.entry.now) (jitter_number c.args.entry.now) (ends_numbers c.args.entry.now) c.in_ok-push_text.ensures c.in_ok-push_node.ensures c.in_ok-write.ensures.bytes c.in_ok-push_mean_tenths.ensures c.in_ok-write-2.ensures.bytes
