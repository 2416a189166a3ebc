-- What an output does to the links to a scanner's targets.
use Rattle.std.specs.Prelude.{ℕ, List, if◌then◌else◌}
use Rattle.station_port.specs.Streams.Sessions.{asks_session}
use Rattle.socket_port.specs.declared.rules.links.TargetLink.{TargetLink}
use Rattle.socket_port.specs.Rules.Links.{Links, again_link, requested_link, at_stream, lost_link}
use Rattle.udp_runner.specs.declared.output.Output.{Output}
use Rattle.udp_runner.specs.declared.output.Output.TheVariants as output

-- over a stream that takes the message an answer is waited for, and a session again if the message asks for one
abbrev pub sent_link : List ℕ → ℕ → ℕ → TargetLink → TargetLink
sent_link bytes session now link = if asks_session bytes then again_link session now link else requested_link link

-- the stream that the device closes at this time is opened again later, as one that was cut; over one that takes a message an answer
-- is waited for
abbrev pub links_after : Output → ℕ → Links → Links
links_after (output.Frame stream bytes) now links = at_stream links stream (sent_link bytes.now links.session_ms now)
links_after (output.Close stream) now links = at_stream links stream (lost_link now)
links_after other now links = links
