use Rattle.std.specs.Prelude.{codes}
use Rattle.page_feed.specs.Waits.{facts_why, wait_front}
use Rattle.page_feed.proofs.Pieces.{of_three}
use Rattle.page_feed.proofs.waits.push_said_wait.Goals as goal

pub returns : goal.returns
returns c = of_three _ _ _ _ (wait_front c.args.facts.wait) (facts_why c.args.facts) (codes "\"") c.in_ok-push_wait_front.ensures c.in_ok-push_facts_why.ensures c.in_ok-push_text.ensures
