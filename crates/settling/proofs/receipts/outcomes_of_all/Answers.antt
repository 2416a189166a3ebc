use Rattle.settling.specs.Search.Lemmas.Listing.{valid_at}
use Rattle.settling.proofs.receipts.outcomes_of_all.Goals as goal

pub outcomes_of-requires-clause-valid : goal.outcomes_of-requires-clause-valid
outcomes_of-requires-clause-valid g c = valid_at c.args.histories.now c.loop-history.history-index c.history-item.result c.requires.valid c.loop-history-test.true c.history-item.is
