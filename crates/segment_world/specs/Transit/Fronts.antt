-- Views of a stream: its ends, whether it is open, and the front of each direction.
use Rattle.std.specs.Prelude.{not, Bool, false, slice_get, Option, Some, None}
use Rattle.segment_world.specs.declared.transit.direction.Direction.{Direction}
use Rattle.segment_world.specs.declared.transit.front.QueueFront.{QueueFront}
use Rattle.segment_world.specs.declared.transit.front.QueueFront.TheVariants as front
use Rattle.segment_world.specs.declared.transit.links.Endpoints.{Endpoints}
use Rattle.segment_world.specs.Transit.Streams.{QueueItem, Opening, Queued, Ending, Stream, side_of}

-- the ends of a stream
abbrev pub endpoints_of : Stream → Endpoints
endpoints_of s = record { from = s.from; to = s.to; ended = s.ended }

-- there is such a stream, and it has not ended
abbrev pub is_open : Option Stream → Bool
is_open None = false
is_open (Some s) = not s.ended

abbrev pub view_front : QueueFront → QueueItem
view_front front.Opening = Opening
view_front (front.Frame bytes) = Queued bytes.now
view_front front.Ending = Ending

-- the front of a direction of a stream
abbrev pub front_of : Direction → Option Stream → Option QueueItem
front_of direction None = None
front_of direction (Some s) = slice_get (side_of direction s).queue 0

-- the end that takes from a direction has taken the mark that the stream opens
abbrev pub has_taken : Direction → Option Stream → Bool
has_taken direction None = false
has_taken direction (Some s) = (side_of direction s).taken
