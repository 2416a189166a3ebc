-- Samples of class 3 connections and of requests that wait, worked out by hand.
use Rattle.std.proofs.Common.{◌≡◌, ℕ, ◌+◌, true, false, List, [], ◌∷◌, Option, Some, None, refl}
use Rattle.cip_types.specs.declared.names.ConnId.{ConnId}
use Rattle.cip_types.specs.declared.names.Ms.{Ms}
use Rattle.cip_types.specs.declared.names.Node.{Node}
use Rattle.messaging.specs.declared.class3.Class3Connection as kept
use Rattle.messaging.specs.declared.requests.Requester.{Requester}
use Rattle.messaging.specs.declared.requests.Requester.TheVariants.{Stream, Class3Connection}
use Rattle.messaging.specs.declared.requests.Waiting.{Waiting}
use Rattle.messaging.specs.declared.table.Messaging.{Messaging}
use Rattle.messaging.specs.Changes.{lacks_share, referred, referred_over, executed, replied, repeated, without_stream}
use Rattle.messaging.specs.Class3Connections.{repeats_last}
use Rattle.messaging.specs.Times.{aged, first_moment, late_class3_connections, late_text, without_late_class3_connections, without_late_waiting}

abbrev at : ℕ → Ms
at ms = record { 0 = ms }

abbrev id_of : ℕ → ConnId
id_of id = record { 0 = id }

-- the seventh connection and the ninth, over streams 3 and 4, with their last message, the reply to it, and their deadline
abbrev connection : (opening stream : ℕ) → Option ℕ → List ℕ → ℕ → kept.Class3Connection
connection opening stream last reply deadline = record {
  triad = record { serial = opening; vendor = 77; originator = 0x1234 };
  peer = record { 0 = 0x0A000001 };
  stream = stream;
  o_t_id = id_of (0x05000000 + opening);
  t_o_id = id_of 0x99;
  o_t_api_ms = 3000;
  t_o_api_ms = 3000;
  o_t_size = 500;
  t_o_size = 500;
  watchdog = at 12000;
  opening = opening;
  last = last;
  reply = reply;
  deadline = at deadline;
}

-- 10.0.0.1, and another node
abbrev panel : Node
panel = record { 0 = 0x0A000001 }

abbrev stranger : Node
stranger = record { 0 = 0x0A000002 }

abbrev request : (number : ℕ) → Requester → (deadline : ℕ) → Waiting
request number from deadline = record { number = number; peer = panel; asker = from; service = 0x0E; deadline = at deadline }

abbrev table : List kept.Class3Connection → List Waiting → ℕ → Messaging
table class3_connections waiting next_number = record { class3_connections = class3_connections; waiting = waiting; next_number = next_number }

-- ---- messages

-- before the first message none is repeated, not even that of count 0
sample_first : repeats_last (connection 7 3 None [] 12000) 0 ≡ false
sample_first = refl

-- message 41 asks the application at 5 s: it has no reply yet, and the request waits 10 s
sample_referred : referred_over (table (connection 7 3 (Some 40) (1 ∷ []) 12000 ∷ []) [] 1) panel (id_of 0x05000007) 41 0x0E (at 17000) (at 5000)
    ≡ table (connection 7 3 (Some 41) [] 17000 ∷ []) (request 1 (Class3Connection (id_of 0x05000007) 41) 15000 ∷ []) 2
unfolding referred_over referred executed
sample_referred = refl

-- message 42 is executed while the application still owes the answer to message 41, which waits no more
sample_overtaken : executed (table (connection 7 3 (Some 41) [] 17000 ∷ []) (request 1 (Class3Connection (id_of 0x05000007) 41) 15000 ∷ request 2 (Stream 3 9) 15000 ∷ []) 3) (id_of 0x05000007) 42 (2 ∷ []) (at 18000)
    ≡ table (connection 7 3 (Some 42) (2 ∷ []) 18000 ∷ []) (request 2 (Stream 3 9) 15000 ∷ []) 3
unfolding executed
sample_overtaken = refl

-- message 41 is repeated: the deadline moves, and the application is asked once
sample_repeated : repeated (table (connection 7 3 (Some 41) [] 17000 ∷ []) (request 1 (Class3Connection (id_of 0x05000007) 41) 15000 ∷ []) 2) (id_of 0x05000007) (at 18000)
    ≡ table (connection 7 3 (Some 41) [] 18000 ∷ []) (request 1 (Class3Connection (id_of 0x05000007) 41) 15000 ∷ []) 2
unfolding repeated
sample_repeated = refl

-- an answer to message 41 is no reply to message 42
sample_answer_comes_late : replied (table (connection 7 3 (Some 42) (2 ∷ []) 18000 ∷ []) [] 2) (id_of 0x05000007) 41 (1 ∷ [])
    ≡ table (connection 7 3 (Some 42) (2 ∷ []) 18000 ∷ []) [] 2
unfolding replied
sample_answer_comes_late = refl

-- ---- shares

-- four requests of 10.0.0.1 wait, and one of another node
abbrev four_wait : Messaging
four_wait = table [] (request 1 (Stream 3 9) 15000 ∷ request 2 (Stream 3 9) 15000 ∷ record (request 3 (Stream 4 9) 15000) { peer = stranger } ∷ request 4 (Stream 3 9) 15000 ∷ request 5 (Stream 3 9) 15000 ∷ []) 6

-- where the places are shared, a fifth one of 10.0.0.1 cannot wait, and a second one of the other node can
sample_shared : (lacks_share true four_wait panel ≡ true) × (lacks_share true four_wait stranger ≡ false)
sample_shared = (refl, refl)

-- where they are not, it can
sample_not_shared : lacks_share false four_wait panel ≡ false
sample_not_shared = refl

-- ---- streams

-- stream 3 ends: its connection, what that asked, and what came over the stream itself
sample_stream_ended : without_stream (table (connection 7 3 (Some 41) [] 17000 ∷ connection 9 4 (Some 1) [] 17000 ∷ []) (request 1 (Class3Connection (id_of 0x05000007) 41) 15000 ∷ request 2 (Stream 3 9) 15000 ∷ request 3 (Class3Connection (id_of 0x05000009) 1) 15000 ∷ request 4 (Stream 4 9) 15000 ∷ []) 5) 3
    ≡ table (connection 9 4 (Some 1) [] 17000 ∷ []) (request 3 (Class3Connection (id_of 0x05000009) 1) 15000 ∷ request 4 (Stream 4 9) 15000 ∷ []) 5
unfolding without_stream
sample_stream_ended = refl

-- ---- time

-- the reply to a Get_Attribute_Single that the application did not answer: service 8E, status 1F
sample_late_text : late_text 0x0E ≡ 0x8E ∷ 0x00 ∷ 0x1F ∷ 0x00 ∷ []
sample_late_text = refl

-- at 15 s the request of message 41 is late, and the reply stays for a repetition of it
sample_late_request : aged (at 15000) (table (connection 7 3 (Some 41) [] 17000 ∷ []) (request 1 (Class3Connection (id_of 0x05000007) 41) 15000 ∷ request 2 (Stream 3 9) 15001 ∷ []) 3)
    ≡ table (connection 7 3 (Some 41) (0x8E ∷ 0x00 ∷ 0x1F ∷ 0x00 ∷ []) 17000 ∷ []) (request 2 (Stream 3 9) 15001 ∷ []) 3
unfolding aged without_late_class3_connections without_late_waiting replied
sample_late_request = refl

-- a connection that ends takes its request along
sample_late_connection : aged (at 17000) (table (connection 7 3 (Some 41) [] 17000 ∷ []) (request 1 (Class3Connection (id_of 0x05000007) 41) 15000 ∷ []) 2) ≡ table [] [] 2
unfolding aged without_late_class3_connections without_late_waiting
sample_late_connection = refl

-- by deadlines, and then by openings
sample_ends : late_class3_connections (at 17000) (table (connection 7 3 None [] 17000 ∷ connection 8 3 None [] 17001 ∷ connection 9 4 None [] 17000 ∷ connection 11 4 None [] 16000 ∷ []) [] 1)
    ≡ connection 11 4 None [] 16000 ∷ connection 7 3 None [] 17000 ∷ connection 9 4 None [] 17000 ∷ []
sample_ends = refl

sample_first_moment : first_moment (table (connection 7 3 None [] 17000 ∷ []) (request 1 (Stream 3 9) 15001 ∷ []) 2) ≡ 15001
unfolding first_moment
sample_first_moment = refl
