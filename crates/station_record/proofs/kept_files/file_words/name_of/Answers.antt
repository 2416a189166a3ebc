use Rattle.std.proofs.Common.{arith, rules}
use Rattle.station_record.proofs.LastSplits.{parted_last}
use Rattle.station_record.proofs.kept_files.file_words.name_of.Goals as goal

pub returns-in-Some : goal.returns-in-Some
returns-in-Some c =
    let parted = parted_last 47 c.args.path.now _ c.rsplit_once.ensures.cases (omega arith) in
    rw (← parted) (grind rules)

pub returns-in-None : goal.returns-in-None
returns-in-None c =
    let parted = parted_last 47 c.args.path.now _ c.rsplit_once.ensures.cases (omega arith) in
    rw (← parted) (grind rules)
