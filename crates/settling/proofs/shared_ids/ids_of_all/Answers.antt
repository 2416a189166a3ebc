use Rattle.settling.specs.Search.Lemmas.Listing.{valid_at}
use Rattle.settling.proofs.shared_ids.ids_of_all.Goals as goal

pub last_ids-requires-clause-valid : goal.last_ids-requires-clause-valid
last_ids-requires-clause-valid g c = valid_at c.args.histories.now c.loop-history.history-index c.history-item.result c.requires.valid c.loop-history-test.true c.history-item.is
