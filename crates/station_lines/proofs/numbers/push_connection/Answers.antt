use Rattle.std.specs.Prelude.{codes}
use Rattle.station_lines.specs.Numbers.{numbers_front, numbers_rest}
use Rattle.station_lines.specs.Status.{id_text}
use Rattle.station_lines.specs.Attributes.Lemmas.Appended.{four}
use Rattle.station_lines.proofs.numbers.push_connection.Goals as goal

pub returns : goal.returns
returns c = four _ _ _ _ _ (numbers_front c.args.at) (codes "connection ") (id_text c.args.entry.now.id) (numbers_rest c.args.peer c.args.entry.now) c.in_ok-push_front.ensures c.in_ok-push_text.ensures c.in_ok-push_id.ensures c.in_ok-push_rest.ensures
