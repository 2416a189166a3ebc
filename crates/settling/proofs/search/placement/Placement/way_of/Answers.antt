use Rattle.settling.proofs.search.placement.Placement.way_of.Goals as goal

pub returns-clause-none : goal.returns-clause-none
returns-clause-none g c = rw (← c.self.view_is, ← c.deref.ensures.value) c.cut_way.ensures.none
