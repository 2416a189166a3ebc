use Rattle.std.specs.Prelude.{codes, decimal}
use Rattle.trace_words.specs.Words.{node_word}
use Rattle.station_lines.specs.Reports.{sizes_text}
use Rattle.station_lines.specs.Attributes.Lemmas.Appended.{behind_two}
use Rattle.station_lines.proofs.reports.push_missized.Goals as goal

pub returns : goal.returns
returns c = behind_two _ _ _ _ (codes "eip_station: slot ") (decimal c.args.slot) (codes ": the datagrams of ") (node_word c.args.target) (sizes_text c.args.came c.args.takes) c.in_ok-write.ensures.bytes c.in_ok-push_node.ensures c.in_ok-push_sizes.ensures
