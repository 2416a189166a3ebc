use Rattle.std.specs.Prelude.{codes}
use Rattle.station_lines.specs.Details.{count_text, entry_text}
use Rattle.station_lines.specs.Status.{moment_text}
use Rattle.station_lines.specs.Attributes.Lemmas.Appended.{three}
use Rattle.station_lines.proofs.details.push_slot_gaps.Goals as goal

pub returns : goal.returns
returns c = three _ _ _ _ (moment_text c.args.at) (count_text (codes "gaps slot ") c.args.slot) (entry_text c.args.at.ms c.args.entry.now) c.in_ok-push_moment.ensures c.in_ok-write.ensures.bytes c.in_ok-push_entry.ensures
