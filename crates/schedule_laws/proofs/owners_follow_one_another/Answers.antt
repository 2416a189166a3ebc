use Rattle.schedule_laws.proofs.OwnersFollowing.{owners_follow, opened_owners_follow}
use Rattle.schedule_laws.proofs.owners_follow_one_another.Goals as goal

pub returns-clause-follow : goal.returns-clause-follow
returns-clause-follow c = owners_follow c.owners_follow_one_another.ensures.between

pub returns-clause-opened : goal.returns-clause-opened
returns-clause-opened c = opened_owners_follow c.tables_are_whole.ensures.opening c.owners_follow_one_another.ensures.between
