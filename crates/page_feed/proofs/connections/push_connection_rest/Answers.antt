use Rattle.page_feed.specs.Connections.{established_text, kind_text, mode_text}
use Rattle.page_feed.proofs.Pieces.{of_three}
use Rattle.page_feed.proofs.connections.push_connection_rest.Goals as goal

pub returns : goal.returns
returns c = of_three _ _ _ _ (kind_text c.args.report) (established_text c.args.report.established) (mode_text c.args.report) c.in_ok-push_kind.ensures c.in_ok-push_established.ensures c.in_ok-push_mode.ensures
