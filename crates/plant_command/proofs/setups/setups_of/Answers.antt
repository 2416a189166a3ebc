-- No two devices have one address, one device more.
use Rattle.std.proofs.Common.{◌≡◌, None, position, subst}
use Rattle.plant_command.specs.Setups.{is_at}
use Rattle.plant_command.proofs.Apart.{apart_none, apart_push}
use Rattle.plant_command.proofs.setups.setups_of.Goals as goal

pub loop-place-init : goal.loop-place-init
loop-place-init g c = rw c.new-setups.ensures.items apart_none

pub loop-place-preserved : goal.loop-place-preserved
loop-place-preserved g c =
    let set_up = c.in_ok-set_up.set_up in
    let none = subst (λ setups. position (is_at set_up.member.address) setups ≡ None) c.as_slice.ensures.value c.in_ok-report_shared.ensures in
    rw c.in_ok-push.ensures.items (apart_push c.loop-place.setups.items set_up c.loop-place.invariant none)
