use Rattle.std.proofs.Common.{arith}
use Rattle.settling.specs.Search.Histories.{events_in, events_of_all}
use Rattle.settling.proofs.Joining.{few}
use Rattle.settling.specs.Search.Lemmas.Listing.{length_all}
use Rattle.settling.proofs.search.finding.open_first.Goals as goal

pub returns-then-histories-lt2 : goal.returns-then-histories-lt2
returns-then-histories-lt2 g c = few c.args.world.now (events_of_all c.args.histories.now) c.args.acts.now.items c.requires.none (omega (arith, length_all events_in c.args.histories.now, c.if-histories-lt2.true))
