-- What the outputs of an answer send over a port.
use Rattle.std.specs.Prelude.{ℕ, ◌≡◌, ◌+◌, ◌&&◌, nat_le, nat_lt, Bool, true, List, [], ◌∷◌, ◌++◌}
use Rattle.std.specs.List.{flat_map}
use Rattle.cip_types.specs.declared.names.Node.{Node}
use Rattle.cip_events.specs.declared.event.Answer.{Answer}
use Rattle.cip_events.specs.declared.event.Frame.{Frame}
use Rattle.cip_events.specs.declared.event.Recipient.{Recipient}
use Rattle.cip_events.specs.declared.event.Recipient.TheVariants.{Stream, Peer}
use Rattle.cip_events.specs.Outputs.{AnswerOutput, answer_outputs}
use Rattle.cip_events.specs.Outputs.AnswerOutput.{Message, Datagram, End}
use Rattle.udp_runner.specs.declared.output.Output.{Output}
use Rattle.udp_runner.specs.declared.output.Output.TheVariants as output
use Rattle.udp_runner.specs.declared.output.SentOutput.{SentOutput}
use Rattle.udp_runner.specs.declared.output.SentOutput.TheVariants as sent
use Rattle.udp_runner.specs.Tape.{Tape, with_sent}

-- an output, wherever its bytes lie in memory
abbrev pub view_output : Output → SentOutput
view_output (output.Frame stream bytes) = sent.Frame stream bytes.now
view_output (output.Datagram node bytes) = sent.Datagram node bytes.now
view_output (output.Close stream) = sent.Close stream
view_output (output.Reply peer bytes) = sent.Reply peer bytes.now

-- the address is that of a multicast group, 224.0.0.0 to 239.255.255.255
abbrev pub is_group : Node → Bool
is_group address = nat_le 0xE0000000 address.0 && nat_lt address.0 0xF0000000

-- one copy of a datagram
abbrev pub copy_to : List ℕ → Node → List SentOutput
copy_to bytes node = sent.Datagram node bytes ∷ []

-- what an output of an answer sends: a datagram goes once to each of its nodes
abbrev pub output_sent : AnswerOutput → List SentOutput
output_sent (Message stream bytes) = sent.Frame stream bytes ∷ []
output_sent (Datagram datagram) = flat_map (copy_to datagram.bytes) datagram.nodes
output_sent (End stream) = sent.Close stream ∷ []

-- the reply of an inquiry is for a peer, and goes to where that inquired from
abbrev pub reply_to : Recipient → List ℕ → List SentOutput
reply_to (Stream stream) bytes = []
reply_to (Peer peer) bytes = sent.Reply peer bytes ∷ []

abbrev pub reply_sent : Frame → List SentOutput
reply_sent frame = reply_to frame.to frame.bytes

-- all that an answer sends, in order: its outputs, and then its replies to inquiries
abbrev pub answer_sent : Answer → List SentOutput
answer_sent answer = flat_map output_sent (answer_outputs answer) ++ flat_map reply_sent answer.frames

-- the first of these outputs were sent, and the next one was not
pub record SendsSome (old new : Tape) (all : List SentOutput) : Type 0 where
  pub done : List SentOutput
  pub failed : SentOutput
  pub unsent : List SentOutput
  pub parts : all ≡ done ++ failed ∷ unsent
  pub sends : new ≡ with_sent old done

-- An output of an answer went over a port.
pub record PortSends (scripted : Bool) (old new : Tape) (failed failed_new : ℕ) (output : AnswerOutput) : Type 0 where
  pub sent : scripted ≡ true → new ≡ with_sent old (output_sent output)
  pub worked : failed_new ≡ failed

-- An output of an answer did not go over a port, or went in part.
pub record PortFails (scripted : Bool) (old new : Tape) (failed failed_new : ℕ) (output : AnswerOutput) : Type 0 where
  pub some : scripted ≡ true → SendsSome old new (output_sent output)
  pub counted : failed_new ≡ failed + 1
