use Rattle.std.proofs.Common.{◌≡◌, ◌-◌}
use Rattle.cip_encap.specs.AnyItems.{are_items}
use Rattle.cip_encap.proofs.packet.are_items.Given as goal

abbrev pub invariant-loop-done : goal.invariant-loop-done
invariant-loop-done l = are_items (l.fn.count - l.done) l.rest ≡ are_items l.fn.count l.fn.bytes
