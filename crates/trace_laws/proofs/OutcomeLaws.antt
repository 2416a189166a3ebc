-- An outcome that is recorded is read as itself, part by part.
use Rattle.std.proofs.Common.{◌≡◌, ℕ, ◌<◌, ◌^◌, ◌+◌, true, List, [], ◌∷◌, ◌++◌, length, Some, None, Ok, Err, refl, sym, ap, subst, ◌∙◌, append_assoc}
use Rattle.std.specs.Prelude.{decimal, codes, flat_map}
use Rattle.std.specs.List.{All, join_with_byte}
use Rattle.std.proofs.lemmas.List.{append-nil}
use Rattle.cip_types.specs.declared.names.Mismatch.TheVariants as mismatch
use Rattle.cip_types.specs.declared.names.Triad.{Triad}
use Rattle.cip_tables.specs.declared.table.Config.{Config}
use Rattle.cip_events.specs.declared.event.Answer.{Answer}
use Rattle.cip_events.specs.declared.event.Delivery.TheVariants as delivery
use Rattle.cip_events.specs.declared.event.Event.{Event}
use Rattle.cip_events.specs.declared.event.Frame.{Frame}
use Rattle.cip_events.specs.declared.event.Notice.{Notice}
use Rattle.cip_events.specs.declared.event.Notice.TheVariants as notice
use Rattle.cip_events.specs.declared.event.Reason.{Reason}
use Rattle.cip_events.specs.declared.event.Reason.TheVariants as reason
use Rattle.cip_events.specs.declared.event.Recipient.{Recipient}
use Rattle.cip_events.specs.declared.event.Recipient.TheVariants as recipient
use Rattle.cip_events.specs.declared.event.OutgoingDatagram.{OutgoingDatagram}
use Rattle.cip_events.specs.declared.event.Unanswered.{Unanswered}
use Rattle.cip_events.specs.declared.event.Unanswered.TheVariants as unanswered
use Rattle.cip_events.specs.declared.event.StepFault.{StepFault}
use Rattle.cip_events.specs.declared.event.StepFault.TheVariants as fault
use Rattle.cip_events.specs.declared.event.Verdict.{Verdict}
use Rattle.cip_events.specs.declared.event.Verdict.TheVariants as verdict
use Rattle.cip_events.specs.Outcomes.{Outcome}
use Rattle.trace_words.specs.Words.{node_word, nodes_word, bytes_word, id_word, general_word, extended_word, line_text}
use Rattle.trace_lines.specs.Kinds.{instance_word}
use Rattle.trace_outcomes.specs.declared.part.Part.TheVariants as part
use Rattle.trace_outcomes.specs.Parts.{part_reader, verdict_of, fault_of, mismatch_of}
use Rattle.trace_outcomes.specs.WrittenOutcomes.{fault_word, delivery_word, verdict_words, triad_words, recipient_words, notice_words, frame_line, outgoing_line, notice_line, outcome_text}
use Rattle.trace_text.specs.declared.builder.TraceBuilder.{TraceBuilder}
use Rattle.trace_text.specs.declared.builder.TraceBuilder.TheVariants.{Events}
use Rattle.trace_text.specs.Reading.{Entry}
use Rattle.trace_laws.specs.TraceBack.{NoticeFits, FrameFits, OutgoingDatagramFits, VerdictFits, OutcomeFits}
use Rattle.trace_laws.proofs.WordLaws.{node_back, bytes_back, id_back, general_back, extended_back}
use Rattle.trace_laws.proofs.NodeLaws.{nodes_back, nodes_clean}
use Rattle.trace_laws.proofs.CleanWords.{decimal_clean, node_clean, bytes_clean, id_clean, general_clean, extended_clean}
use Rattle.trace_laws.proofs.LineLaws.{are_clean}
use Rattle.trace_laws.proofs.ProfileLaws.{n8, n16, n32, n64, c8, c16, c32}
use Rattle.trace_laws.proofs.ScannerLaws.{instance_back, instance_clean}
use Rattle.trace_laws.proofs.EventLaws.{part_read}
use Rattle.trace_laws.proofs.TextLaws.{first_of, rest_of, Reads, reads_none, reads_both, reads_as}

-- THE WORDS OF EACH PART

abbrev verdict_first : Verdict → List ℕ
verdict_first verdict.Done = codes "done"
verdict_first verdict.BadFrame = codes "bad-frame"
verdict_first verdict.Ignored = codes "ignored"
verdict_first (verdict.Value bytes) = codes "value"
verdict_first (verdict.Delivered what) = delivery_word what
verdict_first (verdict.Replied number status additional bytes) = codes "replied"
verdict_first (verdict.Asked number service class instance attribute bytes) = codes "asked"

abbrev verdict_rest : Verdict → List (List ℕ)
verdict_rest (verdict.Value bytes) = bytes_word bytes ∷ []
verdict_rest verdict.Done = []
verdict_rest verdict.BadFrame = []
verdict_rest verdict.Ignored = []
verdict_rest (verdict.Delivered what) = []
verdict_rest (verdict.Replied number status additional bytes) = decimal number ∷ general_word status ∷ bytes_word additional ∷ bytes_word bytes ∷ []
verdict_rest (verdict.Asked number service class instance attribute bytes) = decimal number ∷ decimal service ∷ decimal class ∷ decimal instance ∷ instance_word attribute ∷ bytes_word bytes ∷ []

verdict_joined : (given : Verdict) → verdict_words given ≡ join_with_byte 32 (verdict_first given ∷ verdict_rest given)
verdict_joined verdict.Done = refl
verdict_joined given = refl

verdict_read : (given : Verdict) → VerdictFits given → part_reader (verdict_first given ∷ verdict_rest given) ≡ Some (part.Verdict given, [])
unfolding verdict_of
verdict_read verdict.Done fits = refl
verdict_read (verdict.Value bytes) fits = rw (bytes_back bytes fits) refl
verdict_read (verdict.Delivered delivery.Applied) fits = refl
verdict_read (verdict.Replied number status additional bytes) fits = rw (n32 number fits.0, general_back status fits.1, bytes_back additional fits.2, bytes_back bytes fits.3) refl
verdict_read (verdict.Asked number service class instance attribute bytes) fits = rw (n64 number fits.0, n8 service fits.1, n32 class fits.2, n32 instance fits.3, instance_back attribute fits.4, bytes_back bytes fits.5) refl
verdict_read given fits = refl

verdict_clean : (given : Verdict) → VerdictFits given → are_clean (verdict_first given ∷ verdict_rest given) ≡ true
verdict_clean verdict.Done fits = refl
verdict_clean (verdict.Value bytes) fits = rw (bytes_clean bytes fits) refl
verdict_clean (verdict.Delivered delivery.Applied) fits = refl
verdict_clean (verdict.Replied number status additional bytes) fits = rw (c32 number fits.0, general_clean status fits.1, bytes_clean additional fits.2, bytes_clean bytes fits.3) refl
verdict_clean (verdict.Asked number service class instance attribute bytes) fits = rw (decimal_clean number fits.0, c8 service fits.1, c32 class fits.2, c32 instance fits.3, instance_clean attribute fits.4, bytes_clean bytes fits.5) refl
verdict_clean given fits = refl

fault_read : (why : StepFault) → part_reader (codes "fault" ∷ fault_word why ∷ []) ≡ Some (part.Fault why, [])
unfolding fault_of
fault_read fault.OutOfMemory = refl
fault_read why = refl

fault_clean : (why : StepFault) → are_clean (codes "fault" ∷ fault_word why ∷ []) ≡ true
fault_clean fault.OutOfMemory = refl
fault_clean why = refl

abbrev frame_first : Recipient → List ℕ
frame_first (recipient.Stream stream) = codes "frame"
frame_first (recipient.Peer node) = codes "reply"

abbrev recipient_word : Recipient → List ℕ
recipient_word (recipient.Stream stream) = decimal stream
recipient_word (recipient.Peer node) = node_word node

recipient_joined : (to : Recipient) (rest : List ℕ) → recipient_words to ++ rest ≡ frame_first to ++ 32 ∷ (recipient_word to ++ rest)
recipient_joined (recipient.Stream stream) rest = refl
recipient_joined (recipient.Peer node) rest = refl

frame_read : (to : Recipient) (bytes : List ℕ) → FrameFits (record { to = to; bytes = bytes }) → part_reader (frame_first to ∷ recipient_word to ∷ bytes_word bytes ∷ []) ≡ Some (part.Frame (record { to = to; bytes = bytes }), [])
frame_read (recipient.Stream stream) bytes fits = rw (n16 stream fits.0, bytes_back bytes fits.1) refl
frame_read (recipient.Peer node) bytes fits = rw (node_back node fits.0, bytes_back bytes fits.1) refl

frame_clean : (to : Recipient) (bytes : List ℕ) → FrameFits (record { to = to; bytes = bytes }) → are_clean (frame_first to ∷ recipient_word to ∷ bytes_word bytes ∷ []) ≡ true
frame_clean (recipient.Stream stream) bytes fits = rw (c16 stream fits.0, bytes_clean bytes fits.1) refl
frame_clean (recipient.Peer node) bytes fits = rw (node_clean node, bytes_clean bytes fits.1) refl

outgoing_read : (outgoing : OutgoingDatagram) → OutgoingDatagramFits outgoing → part_reader (codes "send" ∷ node_word outgoing.address ∷ nodes_word outgoing.nodes ∷ bytes_word outgoing.bytes ∷ []) ≡ Some (part.Datagram outgoing, [])
outgoing_read outgoing fits = rw (node_back outgoing.address fits.0, nodes_back outgoing.nodes fits.1, bytes_back outgoing.bytes fits.2) refl

outgoing_clean : (outgoing : OutgoingDatagram) → OutgoingDatagramFits outgoing → are_clean (codes "send" ∷ node_word outgoing.address ∷ nodes_word outgoing.nodes ∷ bytes_word outgoing.bytes ∷ []) ≡ true
outgoing_clean outgoing fits = rw (node_clean outgoing.address, nodes_clean outgoing.nodes, bytes_clean outgoing.bytes fits.2) refl

abbrev reason_list : Reason → List (List ℕ)
reason_list (reason.Encap status) = codes "encap" ∷ decimal status ∷ []
reason_list reason.Unreadable = codes "unreadable" ∷ []
reason_list (reason.Cip why) = codes "cip" ∷ general_word why.general ∷ extended_word why.extended ∷ []
reason_list (reason.Mismatch mismatch.Triad) = codes "mismatch" ∷ codes "Triad" ∷ []
reason_list (reason.Mismatch mismatch.Id) = codes "mismatch" ∷ codes "Id" ∷ []
reason_list (reason.Mismatch mismatch.Api) = codes "mismatch" ∷ codes "Api" ∷ []
reason_list (reason.Mismatch (mismatch.Refused why)) = []

abbrev unanswered_list : Unanswered → List (List ℕ)
unanswered_list unanswered.TimedOut = codes "timed-out" ∷ []
unanswered_list unanswered.Lost = codes "lost" ∷ []
unanswered_list (unanswered.Encap status) = codes "encap" ∷ decimal status ∷ []
unanswered_list unanswered.Unreadable = codes "unreadable" ∷ []

abbrev triad_list : Triad → List (List ℕ) → List (List ℕ)
triad_list triad more = decimal triad.serial ∷ decimal triad.vendor ∷ decimal triad.originator ∷ more

abbrev notice_list : Notice → List (List ℕ)
notice_list (notice.Opened triad id) = codes "opened" ∷ triad_list triad (id_word id ∷ [])
notice_list (notice.Closed triad) = codes "closed" ∷ triad_list triad []
notice_list (notice.Expired triad) = codes "expired" ∷ triad_list triad []
notice_list (notice.Dropped triad) = codes "dropped" ∷ triad_list triad []
notice_list (notice.Replaced triad) = codes "replaced" ∷ triad_list triad []
notice_list (notice.StreamClosed stream) = codes "stream-closed" ∷ decimal stream ∷ []
notice_list (notice.Slot slot state) = codes "slot" ∷ decimal slot ∷ decimal state ∷ []
notice_list (notice.Refused slot why) = codes "refused" ∷ decimal slot ∷ reason_list why
notice_list (notice.NoIds slot) = codes "no-ids" ∷ decimal slot ∷ []
notice_list (notice.Reset type) = codes "reset" ∷ decimal type ∷ []
notice_list (notice.Unanswered number why) = codes "unanswered" ∷ decimal number ∷ unanswered_list why

triad_joined : (triad : Triad) (rest : List ℕ) → triad_words triad ++ rest ≡ decimal triad.serial ++ 32 ∷ (decimal triad.vendor ++ 32 ∷ (decimal triad.originator ++ rest))
triad_joined triad rest =
    append_assoc (decimal triad.serial) (32 ∷ (decimal triad.vendor ++ 32 ∷ decimal triad.originator)) rest
    ∙ ap (λ t. decimal triad.serial ++ 32 ∷ t) (append_assoc (decimal triad.vendor) (32 ∷ decimal triad.originator) rest)

notice_joined : (given : Notice) → NoticeFits given → notice_words given ≡ join_with_byte 32 (notice_list given)
notice_joined (notice.Opened triad id) fits = ap (λ t. codes "opened " ++ t) (triad_joined triad (32 ∷ id_word id))
notice_joined (notice.Refused slot (reason.Mismatch (mismatch.Refused why))) fits = absurd fits.1
notice_joined (notice.Unanswered number unanswered.TimedOut) fits = refl
notice_joined given fits = refl

notice_read : (given : Notice) → NoticeFits given → part_reader (codes "note" ∷ notice_list given) ≡ Some (part.Notice given, [])
unfolding mismatch_of
notice_read (notice.Opened triad id) fits = rw (n16 triad.serial fits.0.0, n16 triad.vendor fits.0.1, n32 triad.originator fits.0.2, id_back id fits.1) refl
notice_read (notice.Closed triad) fits = rw (n16 triad.serial fits.0, n16 triad.vendor fits.1, n32 triad.originator fits.2) refl
notice_read (notice.Expired triad) fits = rw (n16 triad.serial fits.0, n16 triad.vendor fits.1, n32 triad.originator fits.2) refl
notice_read (notice.Dropped triad) fits = rw (n16 triad.serial fits.0, n16 triad.vendor fits.1, n32 triad.originator fits.2) refl
notice_read (notice.Replaced triad) fits = rw (n16 triad.serial fits.0, n16 triad.vendor fits.1, n32 triad.originator fits.2) refl
notice_read (notice.StreamClosed stream) fits = rw (n16 stream fits) refl
notice_read (notice.Slot slot state) fits = rw (n32 slot fits.0, n8 state fits.1) refl
notice_read (notice.Refused slot (reason.Encap status)) fits = rw (n32 slot fits.0, n32 status fits.1) refl
notice_read (notice.Refused slot (reason.Cip why)) fits = rw (n32 slot fits.0, general_back why.general fits.1.0, extended_back why.extended fits.1.1) refl
notice_read (notice.Refused slot (reason.Mismatch (mismatch.Refused why))) fits = absurd fits.1
notice_read (notice.Refused slot why) fits = rw (n32 slot fits.0) refl
notice_read (notice.NoIds slot) fits = rw (n32 slot fits) refl
notice_read (notice.Reset type) fits = rw (n8 type fits) refl
notice_read (notice.Unanswered number (unanswered.Encap status)) fits = rw (n32 number fits.0, n32 status fits.1) refl
notice_read (notice.Unanswered number why) fits = rw (n32 number fits.0) refl

notice_clean : (given : Notice) → NoticeFits given → are_clean (codes "note" ∷ notice_list given) ≡ true
notice_clean (notice.Opened triad id) fits = rw (c16 triad.serial fits.0.0, c16 triad.vendor fits.0.1, c32 triad.originator fits.0.2, id_clean id) refl
notice_clean (notice.Closed triad) fits = rw (c16 triad.serial fits.0, c16 triad.vendor fits.1, c32 triad.originator fits.2) refl
notice_clean (notice.Expired triad) fits = rw (c16 triad.serial fits.0, c16 triad.vendor fits.1, c32 triad.originator fits.2) refl
notice_clean (notice.Dropped triad) fits = rw (c16 triad.serial fits.0, c16 triad.vendor fits.1, c32 triad.originator fits.2) refl
notice_clean (notice.Replaced triad) fits = rw (c16 triad.serial fits.0, c16 triad.vendor fits.1, c32 triad.originator fits.2) refl
notice_clean (notice.StreamClosed stream) fits = rw (c16 stream fits) refl
notice_clean (notice.Slot slot state) fits = rw (c32 slot fits.0, c8 state fits.1) refl
notice_clean (notice.Refused slot (reason.Encap status)) fits = rw (c32 slot fits.0, c32 status fits.1) refl
notice_clean (notice.Refused slot (reason.Cip why)) fits = rw (c32 slot fits.0, general_clean why.general fits.1.0, extended_clean why.extended) refl
notice_clean (notice.Refused slot (reason.Mismatch (mismatch.Refused why))) fits = absurd fits.1
notice_clean (notice.Refused slot why) fits = rw (c32 slot fits.0) refl
notice_clean (notice.NoIds slot) fits = rw (c32 slot fits) refl
notice_clean (notice.Reset type) fits = rw (c8 type fits) refl
notice_clean (notice.Unanswered number (unanswered.Encap status)) fits = rw (c32 number fits.0, c32 status fits.1) refl
notice_clean (notice.Unanswered number why) fits = rw (c32 number fits.0) refl

-- THE LINES AS THEY ARE PRINTED

numbered_line : (n : ℕ) (body word : List ℕ) (words : List (List ℕ)) → body ≡ join_with_byte 32 (word ∷ words) → decimal n ++ (32 ∷ (body ++ 10 ∷ [])) ≡ line_text (decimal n ∷ word ∷ words)
numbered_line n body word words is = ap (λ t. decimal n ++ (32 ∷ (t ++ 10 ∷ []))) is ∙ sym (append_assoc (decimal n) (32 ∷ join_with_byte 32 (word ∷ words)) (10 ∷ []))

numbered_front : (n : ℕ) (body rest word : List ℕ) (words : List (List ℕ)) → body ≡ join_with_byte 32 (word ∷ words) → decimal n ++ (32 ∷ (body ++ 10 ∷ rest)) ≡ line_text (decimal n ∷ word ∷ words) ++ rest
numbered_front n body rest word words is =
    ap (λ t. decimal n ++ (32 ∷ (t ++ 10 ∷ rest))) is
    ∙ sym (append_assoc (decimal n ++ 32 ∷ join_with_byte 32 (word ∷ words)) (10 ∷ []) rest ∙ append_assoc (decimal n) (32 ∷ join_with_byte 32 (word ∷ words)) (10 ∷ rest))

frame_spelled : (n : ℕ) (frame : Frame) → frame_line n frame ≡ line_text (decimal n ∷ frame_first frame.to ∷ recipient_word frame.to ∷ bytes_word frame.bytes ∷ [])
frame_spelled n frame =
    ap (λ t. decimal n ++ 32 ∷ t) (sym (append_assoc (recipient_words frame.to) (32 ∷ bytes_word frame.bytes) (10 ∷ [])))
    ∙ numbered_line n (recipient_words frame.to ++ 32 ∷ bytes_word frame.bytes) (frame_first frame.to) (recipient_word frame.to ∷ bytes_word frame.bytes ∷ []) (recipient_joined frame.to (32 ∷ bytes_word frame.bytes))

outgoing_spelled : (n : ℕ) (outgoing : OutgoingDatagram) → outgoing_line n outgoing ≡ line_text (decimal n ∷ codes "send" ∷ node_word outgoing.address ∷ nodes_word outgoing.nodes ∷ bytes_word outgoing.bytes ∷ [])
outgoing_spelled n outgoing =
    let inner : (nodes_word outgoing.nodes ++ 32 ∷ bytes_word outgoing.bytes) ++ 10 ∷ [] ≡ nodes_word outgoing.nodes ++ 32 ∷ (bytes_word outgoing.bytes ++ 10 ∷ []) = append_assoc (nodes_word outgoing.nodes) (32 ∷ bytes_word outgoing.bytes) (10 ∷ []) in
    let outer : (node_word outgoing.address ++ 32 ∷ (nodes_word outgoing.nodes ++ 32 ∷ bytes_word outgoing.bytes)) ++ 10 ∷ [] ≡ node_word outgoing.address ++ 32 ∷ (nodes_word outgoing.nodes ++ 32 ∷ (bytes_word outgoing.bytes ++ 10 ∷ [])) = append_assoc (node_word outgoing.address) (32 ∷ (nodes_word outgoing.nodes ++ 32 ∷ bytes_word outgoing.bytes)) (10 ∷ []) ∙ ap (λ t. node_word outgoing.address ++ 32 ∷ t) inner in
    ap (λ t. decimal n ++ (codes " send " ++ t)) (sym outer)
    ∙ numbered_line n (codes "send " ++ (node_word outgoing.address ++ 32 ∷ (nodes_word outgoing.nodes ++ 32 ∷ bytes_word outgoing.bytes))) (codes "send") (node_word outgoing.address ∷ nodes_word outgoing.nodes ∷ bytes_word outgoing.bytes ∷ []) refl

noted : (given : Notice) → NoticeFits given → codes "note " ++ notice_words given ≡ join_with_byte 32 (codes "note" ∷ notice_list given)
noted (notice.Opened triad id) fits = ap (λ t. codes "note " ++ t) (notice_joined (notice.Opened triad id) fits)
noted given fits = ap (λ t. codes "note " ++ t) (notice_joined given fits)

spelled : (n : ℕ) (body : List ℕ) (words : List (List ℕ)) → body ≡ join_with_byte 32 (codes "note" ∷ words) → decimal n ++ (32 ∷ (body ++ 10 ∷ [])) ≡ line_text (decimal n ∷ codes "note" ∷ words)
spelled n body words is = numbered_line n body (codes "note") words is

notice_spelled : (n : ℕ) (given : Notice) → NoticeFits given → notice_line n given ≡ line_text (decimal n ∷ codes "note" ∷ notice_list given)
notice_spelled n given fits = spelled n (codes "note " ++ notice_words given) (notice_list given) (noted given fits)

-- PART AFTER PART

abbrev answer_of : Verdict → List Frame → List OutgoingDatagram → List Notice → Answer
answer_of given frames datagrams notices = record { frames = frames; datagrams = datagrams; verdict = given; notices = notices }

abbrev recording : Config → List Entry → Event → Answer → TraceBuilder
recording made_of entries event answer = Events made_of entries (Some (event, Some (Ok answer)))

module _ (made_of : Config) (entries : List Entry) (event : Event) (n : ℕ) (fits : n < 2 ^ 64) (number : n ≡ length entries + 1) where
  frames_read : (given : Verdict) (before frames : List Frame) → All FrameFits frames → Reads (recording made_of entries event (answer_of given before [] [])) (flat_map (frame_line n) frames) (recording made_of entries event (answer_of given (before ++ frames) [] []))
  frames_read given before [] fit = subst (λ all. Reads (recording made_of entries event (answer_of given before [] [])) [] (recording made_of entries event (answer_of given all [] []))) (sym (append-nil before)) (reads_none (recording made_of entries event (answer_of given before [] [])))
  frames_read given before (frame ∷ frames) fit =
      let fits_one : FrameFits frame = first_of FrameFits frame frames fit in
      let one : Reads (recording made_of entries event (answer_of given before [] [])) (frame_line n frame) (recording made_of entries event (answer_of given (before ++ frame ∷ []) [] [])) = reads_as _ _ _ _ (frame_spelled n frame) (part_read made_of entries event (Some (Ok (answer_of given before [] []))) (Ok (answer_of given (before ++ frame ∷ []) [] [])) n (frame_first frame.to ∷ recipient_word frame.to ∷ bytes_word frame.bytes ∷ []) (part.Frame frame) fits number (frame_clean frame.to frame.bytes fits_one) (frame_read frame.to frame.bytes fits_one) refl) in
      let more : Reads (recording made_of entries event (answer_of given (before ++ frame ∷ []) [] [])) (flat_map (frame_line n) frames) (recording made_of entries event (answer_of given (before ++ frame ∷ frames) [] [])) = subst (λ all. Reads (recording made_of entries event (answer_of given (before ++ frame ∷ []) [] [])) (flat_map (frame_line n) frames) (recording made_of entries event (answer_of given all [] []))) (append_assoc before (frame ∷ []) frames) (frames_read given (before ++ frame ∷ []) frames (rest_of FrameFits frame frames fit)) in
      reads_both _ _ _ _ _ one more

  datagrams_read : (given : Verdict) (frames : List Frame) (before outgoing_datagrams : List OutgoingDatagram) → All OutgoingDatagramFits outgoing_datagrams → Reads (recording made_of entries event (answer_of given frames before [])) (flat_map (outgoing_line n) outgoing_datagrams) (recording made_of entries event (answer_of given frames (before ++ outgoing_datagrams) []))
  datagrams_read given frames before [] fit = subst (λ all. Reads (recording made_of entries event (answer_of given frames before [])) [] (recording made_of entries event (answer_of given frames all []))) (sym (append-nil before)) (reads_none (recording made_of entries event (answer_of given frames before [])))
  datagrams_read given frames before (outgoing ∷ outgoing_datagrams) fit =
      let fits_one : OutgoingDatagramFits outgoing = first_of OutgoingDatagramFits outgoing outgoing_datagrams fit in
      let one : Reads (recording made_of entries event (answer_of given frames before [])) (outgoing_line n outgoing) (recording made_of entries event (answer_of given frames (before ++ outgoing ∷ []) [])) = reads_as _ _ _ _ (outgoing_spelled n outgoing) (part_read made_of entries event (Some (Ok (answer_of given frames before []))) (Ok (answer_of given frames (before ++ outgoing ∷ []) [])) n (codes "send" ∷ node_word outgoing.address ∷ nodes_word outgoing.nodes ∷ bytes_word outgoing.bytes ∷ []) (part.Datagram outgoing) fits number (outgoing_clean outgoing fits_one) (outgoing_read outgoing fits_one) refl) in
      let more : Reads (recording made_of entries event (answer_of given frames (before ++ outgoing ∷ []) [])) (flat_map (outgoing_line n) outgoing_datagrams) (recording made_of entries event (answer_of given frames (before ++ outgoing ∷ outgoing_datagrams) [])) = subst (λ all. Reads (recording made_of entries event (answer_of given frames (before ++ outgoing ∷ []) [])) (flat_map (outgoing_line n) outgoing_datagrams) (recording made_of entries event (answer_of given frames all []))) (append_assoc before (outgoing ∷ []) outgoing_datagrams) (datagrams_read given frames (before ++ outgoing ∷ []) outgoing_datagrams (rest_of OutgoingDatagramFits outgoing outgoing_datagrams fit)) in
      reads_both _ _ _ _ _ one more

  notices_read : (given : Verdict) (frames : List Frame) (datagrams : List OutgoingDatagram) (before notices : List Notice) → All NoticeFits notices → Reads (recording made_of entries event (answer_of given frames datagrams before)) (flat_map (notice_line n) notices) (recording made_of entries event (answer_of given frames datagrams (before ++ notices)))
  notices_read given frames datagrams before [] fit = subst (λ all. Reads (recording made_of entries event (answer_of given frames datagrams before)) [] (recording made_of entries event (answer_of given frames datagrams all))) (sym (append-nil before)) (reads_none (recording made_of entries event (answer_of given frames datagrams before)))
  notices_read given frames datagrams before (what ∷ notices) fit =
      let fits_one : NoticeFits what = first_of NoticeFits what notices fit in
      let one : Reads (recording made_of entries event (answer_of given frames datagrams before)) (notice_line n what) (recording made_of entries event (answer_of given frames datagrams (before ++ what ∷ []))) = reads_as _ _ _ _ (notice_spelled n what fits_one) (part_read made_of entries event (Some (Ok (answer_of given frames datagrams before))) (Ok (answer_of given frames datagrams (before ++ what ∷ []))) n (codes "note" ∷ notice_list what) (part.Notice what) fits number (notice_clean what fits_one) (notice_read what fits_one) refl) in
      let more : Reads (recording made_of entries event (answer_of given frames datagrams (before ++ what ∷ []))) (flat_map (notice_line n) notices) (recording made_of entries event (answer_of given frames datagrams (before ++ what ∷ notices))) = subst (λ all. Reads (recording made_of entries event (answer_of given frames datagrams (before ++ what ∷ []))) (flat_map (notice_line n) notices) (recording made_of entries event (answer_of given frames datagrams all))) (append_assoc before (what ∷ []) notices) (notices_read given frames datagrams (before ++ what ∷ []) notices (rest_of NoticeFits what notices fit)) in
      reads_both _ _ _ _ _ one more

  -- an outcome behind its event
  pub outcome_read : (outcome : Outcome) → OutcomeFits outcome → Reads (Events made_of entries (Some (event, None))) (outcome_text n outcome) (Events made_of entries (Some (event, Some outcome)))
  outcome_read (Ok answer) fit =
      let rest : List ℕ = flat_map (frame_line n) answer.frames ++ (flat_map (outgoing_line n) answer.datagrams ++ flat_map (notice_line n) answer.notices) in
      let one : Reads (Events made_of entries (Some (event, None))) (line_text (decimal n ∷ verdict_first answer.verdict ∷ verdict_rest answer.verdict)) (recording made_of entries event (answer_of answer.verdict [] [] [])) = part_read made_of entries event None (Ok (answer_of answer.verdict [] [] [])) n (verdict_first answer.verdict ∷ verdict_rest answer.verdict) (part.Verdict answer.verdict) fits number (verdict_clean answer.verdict fit.verdict_fits) (verdict_read answer.verdict fit.verdict_fits) refl in
      reads_as _ _ _ _ (numbered_front n (verdict_words answer.verdict) rest (verdict_first answer.verdict) (verdict_rest answer.verdict) (verdict_joined answer.verdict))
      (reads_both _ _ _ _ _ one
      (reads_both _ _ _ _ _ (frames_read answer.verdict [] answer.frames fit.frames_fit)
      (reads_both _ _ _ _ _ (datagrams_read answer.verdict answer.frames [] answer.datagrams fit.datagrams_fit)
      (notices_read answer.verdict answer.frames answer.datagrams [] answer.notices fit.notices_fit))))
  outcome_read (Err why) fit = reads_as _ _ _ _ (numbered_line n (codes "fault " ++ fault_word why) (codes "fault") (fault_word why ∷ []) refl) (part_read made_of entries event None (Err why) n (codes "fault" ∷ fault_word why ∷ []) (part.Fault why) fits number (fault_clean why) (fault_read why) refl)
