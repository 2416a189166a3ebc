use Rattle.std.proofs.Common.{◌++◌, decimal}
use Rattle.std.specs.Prelude.{codes}
use Rattle.station_lines.specs.Numbers.{numbers_front, numbers_rest}
use Rattle.station_lines.specs.Attributes.Lemmas.Appended.{three}
use Rattle.station_lines.proofs.numbers.push_slot.Goals as goal

pub returns : goal.returns
returns c = three _ _ _ _ (numbers_front c.args.at) (codes "slot " ++ decimal c.args.slot) (numbers_rest c.args.target c.args.entry.now) c.in_ok-push_front.ensures c.in_ok-write.ensures.bytes c.in_ok-push_rest.ensures
