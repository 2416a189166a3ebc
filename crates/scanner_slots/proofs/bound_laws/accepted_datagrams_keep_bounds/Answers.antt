use Rattle.scanner_slots.proofs.Changes.{accepted_hints}
use Rattle.scanner_slots.proofs.bound_laws.accepted_datagrams_keep_bounds.Goals as goal

pub returns : goal.returns
returns c bounds t test indexed d connection bytes is state hinted =
    accepted_hints bounds t indexed d connection bytes (c.found_slots_match.ensures test t.profile.slots t.slots indexed is).1 state hinted
