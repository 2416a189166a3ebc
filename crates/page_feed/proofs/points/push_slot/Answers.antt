use Rattle.cip_tables.specs.States.{slot_in}
use Rattle.page_feed.specs.Points.{slot_end, slot_front, slot_image, slot_output, slot_state}
use Rattle.page_feed.proofs.Pieces.{of_four}
use Rattle.page_feed.proofs.points.push_slot.Goals as goal

pub returns : goal.returns
returns g c = of_four _ _ _ _ _ (slot_front c.args.number c.args.config.now) (slot_image (g.D.Device.table c.args.device.now) c.args.number) (slot_output c.args.output.now) (slot_end (slot_state (slot_in (g.D.Device.table c.args.device.now) c.args.number)) c.args.facts) c.in_ok-push_slot_front.ensures c.in_ok-push_slot_image.ensures c.in_ok-push_slot_output.ensures c.in_ok-push_slot_end.ensures
