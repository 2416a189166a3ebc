use Rattle.std.proofs.Common.{arith, rules}
use Rattle.station_record.proofs.LastSplits.{parted_last}
use Rattle.station_record.proofs.kept_files.file_words.stem_of.Goals as goal

pub returns-in-Some : goal.returns-in-Some
returns-in-Some c =
    let parted = parted_last 46 c.name_of-name.result.now _ c.rsplit_once.ensures.cases (omega arith) in
    rw (← c.name_of-name.ensures, ← parted) (grind rules)

pub returns-in_default : goal.returns-in_default
returns-in_default c =
    let parted = parted_last 46 c.name_of-name.result.now _ c.rsplit_once.ensures.cases (omega arith) in
    rw (← c.name_of-name.ensures, ← parted) (grind rules)

pub returns-in_default-2 : goal.returns-in_default-2
returns-in_default-2 c =
    let parted = parted_last 46 c.name_of-name.result.now _ c.rsplit_once.ensures.cases (omega arith) in
    rw (← c.name_of-name.ensures, ← parted) (grind rules)
