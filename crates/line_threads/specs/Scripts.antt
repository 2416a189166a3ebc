-- What the application of a device does, and the passing of time.
use Rattle.std.specs.Prelude.{◌≡◌, Bool, true, false, List, All, Vec}
use Rattle.std.specs.Global.{Global}
use Rattle.cip_events.specs.Arrivals.{is_own}
use Rattle.cip_events.specs.declared.event.Event.{Event}
use Rattle.cip_events.specs.declared.event.Event.TheVariants.{Inquiry}

-- the application of the device makes this event, or time does; an inquiry arrives from outside
abbrev pub is_local : Event → Bool
is_local (Inquiry peer bytes) = false
is_local e = is_own e

-- all events of a script are such
abbrev pub IsOwn : List Event → Type 0
IsOwn es = All (λ e. is_local e ≡ true) es

-- the events of a script
abbrev pub events_in : Vec Event Global → List Event
events_in script = script.items
