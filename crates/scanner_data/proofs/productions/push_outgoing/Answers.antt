use Rattle.scanner_slots.specs.Views.{view_slot}
use Rattle.scanner_data.proofs.Changes.{pushed_is}
use Rattle.scanner_data.proofs.productions.push_outgoing.Goals as goal

pub returns : goal.returns
returns c = pushed_is c.args.run (view_slot c.args.indexed) c.in-Established.connection c.args.due_datagrams.now.items c.push.new.self.items _ c.in-Established.is c.in_ok-outgoing.ensures c.in_ok-push.ensures.items
