use Rattle.station_record.proofs.NumberTexts.{unread}
use Rattle.station_record.proofs.kept_state.text.read_number.Goals as goal

pub returns-in-Err : goal.returns-in-Err
returns-in-Err c = unread _ c.in-Err.ensures.cases.0
