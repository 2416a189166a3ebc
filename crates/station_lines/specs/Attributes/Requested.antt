-- What a station requested of its targets, under the numbers of the requests, until they end.
use Rattle.std.specs.Prelude.{ℕ, ◌+◌, ◌*◌, ◌%◌, ◌^◌, ◌==◌, not, nat_lt, if◌then◌else◌, Bool, List, [], ◌∷◌, ◌++◌, length, take, filter, find, Option, Some, None, Result, Ok, Err}
use Rattle.cip_epath.specs.declared.fault.PathFault.{PathFault}
use Rattle.cip_epath.specs.declared.path.Target.{Target}
use Rattle.cip_epath.specs.Reading.{target_reading}
use Rattle.cip_events.specs.declared.event.Event.{Event}
use Rattle.cip_events.specs.declared.event.Event.TheVariants as event
use Rattle.cip_types.specs.Cases.{first_case}
use Rattle.cip_types.specs.declared.names.Node.{Node}
use Rattle.station_lines.specs.declared.attributes.requested.RequestedAttribute.{RequestedAttribute}
use Rattle.station_lines.specs.declared.attributes.requested.AttributeService.{AttributeService}
use Rattle.station_lines.specs.declared.attributes.requested.AttributeService.TheVariants.{Get, Set}
use Rattle.station_lines.specs.declared.attributes.requested.TargetAttribute.{TargetAttribute}

-- WHAT A REQUEST ASKS

-- Get_Attribute_Single, Set_Attribute_Single
abbrev pub service_of : ℕ → Option AttributeService
service_of code = first_case ((code == 0x0E, Get) ∷ (code == 0x10, Set) ∷ [])

abbrev pub attribute_with : Node → Target → Option ℕ → Option TargetAttribute
attribute_with target path None = None
attribute_with target path (Some attribute) = Some (record { target = target; class = path.class; instance = path.instance; attribute = attribute })

-- the attribute of a target that a path names
abbrev pub attribute_of : Node → Result Target PathFault → Option TargetAttribute
attribute_of target (Err fault) = None
attribute_of target (Ok path) = attribute_with target path path.attribute

abbrev pub requested_with : ℕ → Option AttributeService → Option TargetAttribute → Option RequestedAttribute
requested_with number None at = None
requested_with number (Some service) None = None
requested_with number (Some service) (Some at) = Some (record { number = number; service = service; at = at })

-- a request whose path has this number of bytes
abbrev pub requested_within : Node → ℕ → ℕ → ℕ → List ℕ → Option RequestedAttribute
requested_within target number code len rest =
    if nat_lt (length rest) len then None
    else requested_with number (service_of code) (attribute_of target (target_reading (take len rest)))

-- the attribute that a request gets or sets; none if it asks for something else
unfoldable pub requested_of : Node → ℕ → List ℕ → Option RequestedAttribute
requested_of target number (code ∷ words ∷ rest) = requested_within target number code (2 * words) rest
requested_of target number _ = None

-- NUMBERS

-- one above the last one, on the circle of 32 bits
abbrev pub next_number : ℕ → ℕ
next_number last = (last + 1) % 2 ^ 32

-- the number of the request that was accepted last
abbrev pub last_after : Event → ℕ → ℕ
last_after (event.Explicit target number bytes) last = number
last_after other last = last

-- WHAT WAITS

abbrev pub has_number : ℕ → RequestedAttribute → Bool
has_number number requested = requested.number == number

-- with one more, if there are fewer than 16
abbrev pub with_requested : Option RequestedAttribute → List RequestedAttribute → List RequestedAttribute
with_requested None requested = requested
with_requested (Some new) requested = if nat_lt (length requested) 16 then requested ++ new ∷ [] else requested

-- after an event that the device accepted
abbrev pub requested_after : Event → List RequestedAttribute → List RequestedAttribute
requested_after (event.Explicit target number bytes) requested = with_requested (requested_of target number bytes) requested
requested_after other requested = requested

-- what was requested under this number
abbrev pub requested_at : ℕ → List RequestedAttribute → Option RequestedAttribute
requested_at number requested = find (has_number number) requested

-- without what was requested under this number
abbrev pub requested_without : ℕ → List RequestedAttribute → List RequestedAttribute
requested_without number requested = filter (λ other. not (has_number number other)) requested
