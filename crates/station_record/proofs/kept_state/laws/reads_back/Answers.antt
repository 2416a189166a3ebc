use Rattle.station_record.proofs.ReadBack.{read_back}
use Rattle.station_record.proofs.kept_state.laws.reads_back.Goals as goal

pub returns : goal.returns
returns c = read_back
