-- Answers that pass the derived test for equal values are equal, and equal ones pass it.
use Rattle.std.proofs.Common.{◌≡◌, rules}
use Rattle.std.specs.Bool.{Decides}
use Rattle.std.specs.Cmp.Lexicographic.{pointwise_decides}
use Rattle.std.proofs.lemmas.Bool.Decides.{Decides-eqb, Decides-and, Decides-like}
use Rattle.cip_events.specs.declared.event.Recipient.{Recipient}
use Rattle.cip_events.specs.declared.event.Frame.{Frame}
use Rattle.cip_events.specs.declared.event.OutgoingDatagram.{OutgoingDatagram}
use Rattle.cip_events.specs.declared.event.Delivery.{Delivery}
use Rattle.cip_events.specs.declared.event.Verdict.{Verdict}
use Rattle.cip_events.specs.declared.event.Notice.{Notice}
use Rattle.cip_events.specs.declared.event.Answer.{Answer}
use Rattle.cip_events.specs.contracts.event.RecipientPartialEq.TheImpl as recipient
use Rattle.cip_events.specs.contracts.event.FramePartialEq.TheImpl as frame
use Rattle.cip_events.specs.contracts.event.OutgoingDatagramPartialEq.TheImpl as outgoing
use Rattle.cip_events.specs.contracts.event.DeliveryPartialEq.TheImpl as delivery
use Rattle.cip_events.specs.contracts.event.VerdictPartialEq.TheImpl as verdict
use Rattle.cip_events.specs.contracts.event.NoticePartialEq.TheImpl as notice
use Rattle.cip_events.specs.contracts.event.AnswerPartialEq.TheImpl as answer
use Rattle.cip_events.specs.Lemmas.EqualLemmas.{node_decides, id_decides, triad_decides}

recipient_decides : (a b : Recipient) → Decides ((recipient.ghosts).eq a b) (a ≡ b)
recipient_decides a b = search rules

frame_decides : (a b : Frame) → Decides ((frame.ghosts).eq a b) (a ≡ b)
frame_decides a b = search (rules, recipient_decides)

outgoing_decides : (a b : OutgoingDatagram) → Decides ((outgoing.ghosts).eq a b) (a ≡ b)
outgoing_decides a b =
    Decides-like ((outgoing.ghosts).eq a b) (λ p. search rules) (λ e. search rules)
    (Decides-and _ _ (node_decides a.address b.address)
    (Decides-and _ _ (pointwise_decides node_decides a.nodes b.nodes)
    (pointwise_decides Decides-eqb a.bytes b.bytes)))

delivery_decides : (a b : Delivery) → Decides ((delivery.ghosts).eq a b) (a ≡ b)
delivery_decides a b = search rules

verdict_decides : (a b : Verdict) → Decides ((verdict.ghosts).eq a b) (a ≡ b)
verdict_decides a b = search (rules, delivery_decides)

notice_decides : (a b : Notice) → Decides ((notice.ghosts).eq a b) (a ≡ b)
notice_decides a b = search (rules, triad_decides, id_decides)

pub answer_decides : (a b : Answer) → Decides ((answer.ghosts).eq a b) (a ≡ b)
answer_decides a b =
    Decides-like ((answer.ghosts).eq a b) (λ p. search rules) (λ e. search rules)
    (Decides-and _ _ (pointwise_decides frame_decides a.frames b.frames)
    (Decides-and _ _ (pointwise_decides outgoing_decides a.datagrams b.datagrams)
    (Decides-and _ _ (verdict_decides a.verdict b.verdict)
    (pointwise_decides notice_decides a.notices b.notices))))
