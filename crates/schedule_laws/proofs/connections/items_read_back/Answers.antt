use Rattle.schedule_laws.proofs.connections.items_read_back.Goals as goal

pub returns : goal.returns
returns c = c.reads_back.ensures.items
