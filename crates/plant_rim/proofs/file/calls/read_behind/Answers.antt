use Rattle.plant_rim.proofs.Words.{cut_is, restart_is, takes_as}
use Rattle.plant_rim.proofs.file.calls.read_behind.Goals as goal

pub returns-in-cut : goal.returns-in-cut
returns-in-cut c = takes_as _ _ _ _ (cut_is c.args.word.now _ c.in-cut.is) c.last.ensures

pub returns-in-restart : goal.returns-in-restart
returns-in-restart c = takes_as _ _ _ _ (restart_is c.args.word.now _ c.in-restart.is) c.read_restart.ensures
