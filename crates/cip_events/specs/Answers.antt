-- Answers without bytes to send, and accepted deliveries.
use Rattle.std.specs.Prelude.{ℕ, Bool, true, false, List, []}
use Rattle.cip_events.specs.declared.event.Delivery.{Delivery}
use Rattle.cip_events.specs.declared.event.Delivery.TheVariants.{Applied, Idle, Heartbeat, Duplicate, Old, UnknownId, WrongSize, Malformed}
use Rattle.cip_events.specs.declared.event.Verdict.{Verdict}
use Rattle.cip_events.specs.declared.event.Answer.{Answer}
use Rattle.cip_events.specs.declared.event.Verdict.TheVariants.{Value}

-- the delivery is that of an accepted datagram
abbrev pub is_accepted : Delivery → Bool
is_accepted Applied = true
is_accepted Idle = true
is_accepted Heartbeat = true
is_accepted Duplicate = true
is_accepted Old = false
is_accepted UnknownId = false
is_accepted WrongSize = false
is_accepted Malformed = false

-- an answer of a verdict alone
abbrev pub plain_answer : Verdict → Answer
plain_answer verdict = record { frames = []; datagrams = []; verdict = verdict; notices = [] }

abbrev pub value_answer : List ℕ → Answer
value_answer bytes = plain_answer (Value bytes)
