use Rattle.std.proofs.Common.{◌≡◌, ◌≤◌, ◌++◌, ◌∷◌, [], length, arith}
use Rattle.std.proofs.lemmas.Grind.{common_steps}
use Rattle.segment_world.proofs.Spares.{spare_push}
use Rattle.segment_world.proofs.transit.buffers.Buffers.refill.Goals as goal

pub loop-self-preserved : goal.loop-self-preserved
loop-self-preserved c =
    let spare = c.in_ok-spare.ensures in
    let items : c.push.new.self.items ≡ c.loop-self.self-inside.spares.items ++ c.in_ok-spare.spare ∷ [] = c.in_ok-push.ensures.items in
    let more : length c.loop-self.self-inside.spares.items ≤ length c.push.new.self.items = rw items (grind (arith, common_steps)) in
    (omega (arith, c.loop-self.invariant.0), rw items (spare_push c.loop-self.self-inside.spares.items c.in_ok-spare.spare c.loop-self.invariant.1 spare.items spare.capacity))
