-- The routes of requests that the application has to answer: over a stream, or over a class 3 connection.
use Rattle.std.specs.Prelude.{ℕ, ◌==◌, Bool, true, false}
use Rattle.cip_types.specs.declared.names.ConnId.{ConnId}
use Rattle.messaging.specs.declared.requests.Requester.{Requester}
use Rattle.messaging.specs.declared.requests.Requester.TheVariants.{Peer, Stream, Class3Connection}

-- an unconnected message over this stream brought the request
abbrev pub is_over_stream : ℕ → Requester → Bool
is_over_stream stream (Peer node) = false
is_over_stream stream (Stream number context) = number == stream
is_over_stream stream (Class3Connection id count) = false

-- what a test says of the O->T id and the count, if a class 3 connection brought the request; otherwise true
abbrev pub if_connected : (ConnId → ℕ → Bool) → Requester → Bool
if_connected test (Peer node) = true
if_connected test (Stream number context) = true
if_connected test (Class3Connection id count) = test id count
