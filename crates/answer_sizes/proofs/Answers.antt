-- Short texts, and small answers.
use Rattle.std.proofs.Common.{◌≡◌, ◌≤◌, List, [], length, Result, Ok, Err, refl, arith, length-append}
use Rattle.cip_types.specs.Fields.{fields_text}
use Rattle.cip_datagram.specs.Datagram.{DatagramFields, datagram_widths, datagram_numbers, datagram_text}
use Rattle.cip_encap.specs.Message.{MessageFields, header_widths, header_numbers, message_text}
use Rattle.cip_events.specs.declared.event.Answer.{Answer}
use Rattle.cip_events.specs.declared.event.Frame.{Frame}
use Rattle.cip_events.specs.declared.event.Notice.{Notice}
use Rattle.cip_events.specs.declared.event.OutgoingDatagram.{OutgoingDatagram}
use Rattle.cip_events.specs.declared.event.StepFault.{StepFault}
use Rattle.cip_events.specs.declared.event.Verdict.{Verdict}
use Rattle.cip_events.specs.Answers.{plain_answer}
use Rattle.answer_sizes.specs.Sizes.{IsShortFrame, IsShortDatagram, IsSmall}
use Rattle.answer_sizes.proofs.Few.{Few, few_none}

-- ---- texts

-- the header of an encapsulation message has 24 bytes
pub message_short : (m : MessageFields) → length m.payload ≤ 2000 → length (message_text m) ≤ 2048
message_short m short =
    let header = fields_text header_widths (header_numbers m) in
    let front : length header ≡ 24 = refl in
    omega (arith, length-append header m.payload, front)

-- and the fixed part of a datagram 20
pub datagram_short : (d : DatagramFields) → length d.payload ≤ 2000 → length (datagram_text d) ≤ 2048
datagram_short d short =
    let fixed = fields_text datagram_widths (datagram_numbers d) in
    let front : length fixed ≡ 20 = refl in
    omega (arith, length-append fixed d.payload, front)

-- ---- answers

-- an answer of few short frames and few short datagrams
pub both_small : (frames : List Frame) (datagrams : List OutgoingDatagram) (verdict : Verdict) (notices : List Notice) → Few 64 IsShortFrame frames → Few 64 IsShortDatagram datagrams → IsSmall (record { frames = frames; datagrams = datagrams; verdict = verdict; notices = notices })
both_small frames datagrams verdict notices few sent =
    record { few_frames = few.count; short_frames = few.each; few_datagrams = sent.count; short_datagrams = sent.each }

pub plain_small : (verdict : Verdict) → IsSmall (plain_answer verdict)
plain_small verdict = record { few_frames = omega arith; short_frames = tt; few_datagrams = omega arith; short_datagrams = tt }

-- an answer of notices alone
pub noted_small : (verdict : Verdict) (notices : List Notice) → IsSmall (record (plain_answer verdict) { notices = notices })
noted_small verdict notices = both_small [] [] verdict notices (few_none 64 IsShortFrame) (few_none 64 IsShortDatagram)

-- ---- steps

-- the answer of a step is small, if it gives one
abbrev pub AnswersSmall : {T : Type 0} → Result (Answer × T) StepFault → Type 0
AnswersSmall (Ok next) = IsSmall next.0
AnswersSmall (Err fault) = Unit {0}
