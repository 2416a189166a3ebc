-- A call makes an event of one device, and no item of a stream. A law cites this in place of a list of calls. (Of two clauses the
-- last one is read call by call, so a new call changes nothing here.)
use Rattle.std.proofs.Common.{◌≡◌, true, refl}
use Rattle.cip_events.specs.Arrivals.{is_own}
use Rattle.segment_world.specs.declared.act.Call.{Call}
use Rattle.segment_world.specs.declared.act.Call.TheVariants as call
use Rattle.segment_world.specs.World.{event_of_call}

pub call_is_own : (c : Call) → is_own (event_of_call c) ≡ true
call_is_own (call.Tick ms) = refl
call_is_own other = refl
