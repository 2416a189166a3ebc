-- What a record says, worked by hand.
use Rattle.std.proofs.Common.{◌≡◌, ℕ, List, [], ◌∷◌, Some, Ok, Err, false, refl}
use Rattle.cip_types.specs.declared.names.Node.{Node}
use Rattle.cip_datagram.specs.Reading.{datagram_reading}
use Rattle.cip_events.specs.declared.event.Answer.{Answer}
use Rattle.cip_events.specs.declared.event.Delivery.TheVariants.{Old, UnknownId}
use Rattle.cip_events.specs.declared.event.Event.TheVariants.{Datagram, Frame, Read, StreamCut, StreamOpened, Tick}
use Rattle.cip_events.specs.declared.event.Notice.TheVariants.{StreamClosed}
use Rattle.cip_events.specs.declared.event.StepFault.TheVariants.{NoSuchPoint}
use Rattle.cip_events.specs.declared.event.Verdict.TheVariants.{Delivered, Done}
use Rattle.cip_events.specs.Answers.{plain_answer}
use Rattle.trace_text.specs.Reading.{Entry}
use Rattle.record_settling.specs.declared.stream_names.renaming.StreamName.{StreamName}
use Rattle.record_settling.specs.declared.account.EventRole.TheVariants.{Cut, LeftOut, Whole}
use Rattle.record_settling.specs.Accounts.{accounted, role_of}
use Rattle.record_settling.specs.Senders.{is_bare}

abbrev peer : Node
peer = record { 0 = 2130706452 }

-- the answer of a stream that ends with its session
abbrev closing : ℕ → Answer
closing stream = record { frames = []; datagrams = []; verdict = Done; notices = StreamClosed stream ∷ [] }

-- FATES

a_nop : role_of (Frame 3 (0 ∷ 0 ∷ [])) (plain_answer Done) ≡ LeftOut
a_nop = refl

an_end : role_of (Frame 3 (0x66 ∷ 0 ∷ [])) (closing 3) ≡ Cut
an_end = refl

another_end : role_of (Frame 3 (0x66 ∷ 0 ∷ [])) (closing 4) ≡ Whole
another_end = refl

a_request : role_of (Frame 3 (0x6F ∷ 0 ∷ [])) (plain_answer Done) ≡ Whole
a_request = refl

for_nobody : role_of (Datagram peer []) (plain_answer (Delivered UnknownId)) ≡ LeftOut
for_nobody = refl

too_late : role_of (Datagram peer []) (plain_answer (Delivered Old)) ≡ Whole
too_late = refl

-- HISTORIES: the station calls two streams 3, one after the other; a read is refused

abbrev names : List StreamName
names = record { own = 3; target = 3; number = 5 } ∷ record { own = 3; target = 3; number = 6 } ∷ []

abbrev entries : List Entry
entries =
    (StreamOpened 3 peer, Some (Ok (plain_answer Done)))
    ∷ (Read 9, Some (Err NoSuchPoint))
    ∷ (StreamCut 3, Some (Ok (plain_answer Done)))
    ∷ (StreamOpened 3 peer, Some (Ok (plain_answer Done)))
    ∷ (Frame 3 (0x66 ∷ 0 ∷ []), Some (Ok (closing 3)))
    ∷ (Tick 10, Some (Ok (plain_answer Done)))
    ∷ []

its_history : accounted names 0 entries
    ≡ (StreamOpened 5 peer, plain_answer Done)
    ∷ (StreamCut 5, plain_answer Done)
    ∷ (StreamOpened 6 peer, plain_answer Done)
    ∷ (StreamCut 6, plain_answer Done)
    ∷ (Tick 10, plain_answer Done)
    ∷ []
its_history = refl

-- no datagram is sent as bytes that are none
no_datagram : is_bare [] [] ≡ false
unfolding datagram_reading
no_datagram = refl
