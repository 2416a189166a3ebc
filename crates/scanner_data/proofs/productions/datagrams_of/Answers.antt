use Rattle.std.proofs.Common.{arith}
use Rattle.cip_productions.specs.Productions.{sent}
use Rattle.scanner_table.specs.Productions.{slot_production}
use Rattle.scanner_slots.specs.Views.{view_slot}
use Rattle.scanner_data.proofs.Changes.{sent_more}
use Rattle.scanner_data.proofs.productions.datagrams_of.Goals as goal

pub loop-indexed-preserved : goal.loop-indexed-preserved
loop-indexed-preserved c = sent_more view_slot (slot_production c.args.run) sent c.args.indexed_slots.now c.loop-indexed.indexed-index c.indexed-item.result _ c.loop-indexed.due_datagrams.items _ (omega arith) c.indexed-item.is c.loop-indexed.invariant c.in_ok-push_outgoing.ensures
