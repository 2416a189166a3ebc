-- How long a station waits for its streams.
use Rattle.std.specs.Prelude.{ℕ}
use Rattle.socket_port.specs.Rules.Keeping.{Keeper}
use Rattle.socket_port.specs.Rules.Keeping as keeping
use Rattle.socket_port.specs.Rules.Links.{Links}
use Rattle.socket_port.specs.Rules.Links as linking

-- The milliseconds until a stream to a target is to be opened or given up, or one of a peer has been silent for the
-- time-out; at most so many.
abbrev pub streams_wait : Keeper → Links → ℕ → ℕ → ℕ
streams_wait keeper links now most = keeping.wait_of keeper now (linking.wait_of now most most links.links)
