use Rattle.device_laws.proofs.TurnReading.{ends_between}
use Rattle.device_laws.proofs.TurnRuns.{owners_follow, drivers_go_on}
use Rattle.device_laws.proofs.owners.owners_follow_one_another.Goals as goal

pub returns-clause-follow : goal.returns-clause-follow
returns-clause-follow c = owners_follow c.tables_are_whole.ensures.effects c.tables_are_whole-2.ensures.run

pub returns-clause-first : goal.returns-clause-first
returns-clause-first c = drivers_go_on c.tables_are_whole.ensures.effects c.tables_are_whole-2.ensures.run

pub returns-clause-between : goal.returns-clause-between
returns-clause-between c = ends_between (owners_follow c.tables_are_whole.ensures.effects c.tables_are_whole-2.ensures.run)
