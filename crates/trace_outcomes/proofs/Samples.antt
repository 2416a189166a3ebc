-- Samples of the definitions, by hand.
use Rattle.std.proofs.Common.{◌≡◌, [], ◌∷◌, Some, None, Ok, Err, refl}
use Rattle.std.specs.Prelude.{codes}
use Rattle.std.specs.Fmt.{digits}
use Rattle.hex.specs.Hex.{encode_with, decode_pairs}
use Rattle.cip_events.specs.declared.event.OutgoingDatagram.{OutgoingDatagram}
use Rattle.cip_events.specs.declared.event.StepFault.TheVariants as fault
use Rattle.cip_events.specs.declared.event.Verdict.TheVariants as verdict
use Rattle.trace_words.specs.Words.{id_of, number_of, words_of}
use Rattle.trace_outcomes.specs.declared.sums.sum.OutcomeSum.{OutcomeSum}
use Rattle.trace_outcomes.specs.declared.sums.verdict.PlainVerdict.TheVariants as plain
use Rattle.trace_outcomes.specs.Sums.Sums.{sum_of}
use Rattle.trace_outcomes.specs.Sums.SumLines.{plain_verdict_of, sum_line, sum_reader}

-- a datagram of two bytes to 192.168.1.20
abbrev datagram : OutgoingDatagram
datagram = record { address = record { 0 = 0xC0A8_0114 }; nodes = record { 0 = 0xC0A8_0114 } ∷ []; bytes = 2 ∷ 0 ∷ [] }

-- its sum: the CRC is that of "5 done" and "5 send 192.168.1.20 192.168.1.20 0200", each with its LF
abbrev sent : OutcomeSum
sent = record { verdict = plain.Done; frames = 0; datagrams = 1; notices = 0; crc = 0xE495_1BDA }

of_one_datagram : sum_of 5 (Ok (record { frames = []; datagrams = datagram ∷ []; verdict = verdict.Done; notices = [] })) ≡ Some sent
unfolding digits encode_with
of_one_datagram = refl

-- a fault has no sum, and neither has a value
of_a_fault : sum_of 5 (Err fault.WrongLength) ≡ None
of_a_fault = refl

of_a_value : sum_of 5 (Ok (record { frames = []; datagrams = []; verdict = verdict.Value (1 ∷ []); notices = [] })) ≡ None
of_a_value = refl

-- its line
line : sum_line 5 sent ≡ codes "5 sum done 0 1 0 e4951bda\n"
unfolding digits encode_with
line = refl

line_back : sum_reader (words_of (codes "5 sum done 0 1 0 E4951BDA")) ≡ Some ((5, sent), [])
unfolding plain_verdict_of number_of id_of decode_pairs
line_back = refl

-- seven digits are no CRC, and no word is left out
too_short : sum_reader (words_of (codes "5 sum done 0 1 0 e4951bd")) ≡ None
unfolding plain_verdict_of number_of id_of
too_short = refl

without_notices : sum_reader (words_of (codes "5 sum done 0 1 e4951bda")) ≡ None
unfolding plain_verdict_of number_of id_of
without_notices = refl

with_data : sum_reader (words_of (codes "5 sum value 00 0 1 0 e4951bda")) ≡ None
unfolding plain_verdict_of number_of id_of
with_data = refl
