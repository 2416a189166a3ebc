-- Inquiries at a described adapter, over streams and over none, and at devices that none finds (Volume 2, chapter 2,
-- ListIdentity, ListServices and ListInterfaces).
use Rattle.std.proofs.Common.{◌≡◌, refl, ℕ, List, [], ◌∷◌, ◌++◌, map, length, Some, Ok, Err}
use Rattle.cip_events.specs.declared.event.Event.{Event}
use Rattle.cip_events.specs.declared.event.Event.TheVariants.{Datagram, Frame, Inquiry, StreamOpened}
use Rattle.cip_events.specs.declared.event.StepFault.TheVariants.{NotAllowedNow}
use Rattle.cip_events.specs.declared.event.Verdict.TheVariants.{BadFrame, Done}
use Rattle.cip_events.specs.Outcomes.{Outcome}
use Rattle.adapter_table.specs.declared.profile.Profile.{Profile}
use Rattle.scanner_table.specs.Step.{scanner_table}
use Rattle.cip_tables.specs.declared.table.DeviceTable.TheVariants.{Scanner}
use Rattle.cip_tables.specs.Run.{outcomes_of, table_after}
use Rattle.samples.specs.Hex.{hex}
use Rattle.samples.specs.Devices.{common, fresh, peer, other}
use Rattle.samples.specs.Described.{pump, described}
use Rattle.samples.specs.Requests.{owner}
use Rattle.samples.specs.Datagrams.{datagram, running}
use Rattle.samples.specs.Runs.{said, after, opens, replies, says}
use Rattle.samples.specs.Messages.{message, register, in_session, frames}
use Rattle.samples.specs.Computing.{computing}
use Rattle.samples.proofs.SmallScanner.{profile}

-- requests without data, within no session
abbrev list_services : List ℕ
list_services = message 0x04 0 0 []

abbrev list_identity : List ℕ
list_identity = message 0x63 0 0 []

abbrev list_interfaces : List ℕ
list_interfaces = message 0x64 0 0 []

-- one item, 000C, of 38 bytes: protocol version 1, port 44818 of 192.168.1.10 with the first byte first, vendor 1, device type 12,
-- product 7, revision 2.3, this status word, the serial number, the name Pump behind its length, and the state
abbrev identity_data : List ℕ → List ℕ
identity_data status =
    hex "01 00 0C 00 26 00 01 00 00 02 AF 12 C0 A8 01 0A 00 00 00 00 00 00 00 00 01 00 0C 00 07 00 02 03" ++ status
    ++ hex "78 56 34 12 04 50 75 6D 70 03"

-- one item, 0100, of 20 bytes: version 1, encapsulation over TCP and class 1 over UDP, the name Communications
abbrev services_data : List ℕ
services_data = hex "01 00 00 01 14 00 01 00 20 01 43 6F 6D 6D 75 6E 69 63 61 74 69 6F 6E 73 00 00"

-- the replies repeat the session handle and the sender context
abbrev services : List ℕ
services = message 0x04 0 0 services_data

abbrev identity : List ℕ
identity = message 0x63 0 0 (identity_data (hex "30 00"))

abbrev interfaces : List ℕ
interfaces = message 0x64 0 0 (hex "00 00")

-- ---- over no stream

abbrev inquired : List (List ℕ) → List Outcome
inquired messages = said described (map (Inquiry peer) messages)

abbrev gets : List ℕ → Outcome
gets bytes = replies peer bytes []

the_identity_byte_for_byte :
    identity
    ≡ hex "63 00 2C 00 00 00 00 00 00 00 00 00 01 02 03 04 05 06 07 08 00 00 00 00 01 00 0C 00 26 00 01 00 00 02 AF 12 C0 A8 01 0A 00 00 00 00 00 00 00 00 01 00 0C 00 07 00 02 03 30 00 78 56 34 12 04 50 75 6D 70 03"
the_identity_byte_for_byte = refl

each_inquiry_is_answered : inquired (list_services ∷ list_identity ∷ list_interfaces ∷ []) ≡ gets services ∷ gets identity ∷ gets interfaces ∷ []
unfolding computing
each_inquiry_is_answered = refl

the_reply_goes_to_who_asks : said described (Inquiry other list_interfaces ∷ []) ≡ replies other interfaces [] ∷ []
unfolding computing
the_reply_goes_to_who_asks = refl

a_session_handle_is_repeated : inquired (message 0x63 0x11223344 0 [] ∷ []) ≡ gets (message 0x63 0x11223344 0 (identity_data (hex "30 00"))) ∷ []
unfolding computing
a_session_handle_is_repeated = refl

other_messages_have_no_reply :
    inquired (register ∷ message 0x00 0 0 [] ∷ message 0x66 1 0 [] ∷ message 0x6F 1 0 [] ∷ message 0x70 1 0 [] ∷ [] ∷ hex "63 00" ∷ [])
    ≡ says BadFrame ∷ says BadFrame ∷ says BadFrame ∷ says BadFrame ∷ says BadFrame ∷ says BadFrame ∷ says BadFrame ∷ []
unfolding computing
other_messages_have_no_reply = refl

nor_have_inquiries_with_data_or_a_status :
    inquired (message 0x04 0 0 (hex "FF") ∷ message 0x63 0 0 (hex "00") ∷ message 0x64 0 1 [] ∷ (list_identity ++ hex "00") ∷ [])
    ≡ says BadFrame ∷ says BadFrame ∷ says BadFrame ∷ says BadFrame ∷ []
unfolding computing
nor_have_inquiries_with_data_or_a_status = refl

nothing_changes : table_after (fresh described) (map (Inquiry peer) (list_identity ∷ list_services ∷ register ∷ [])) ≡ fresh described
unfolding computing
nothing_changes = refl

-- ---- over a stream: the same bytes, without a session and within one

abbrev opened : List (List ℕ) → List Outcome
opened messages = outcomes_of (after described (StreamOpened 0 peer ∷ [])) (map (Frame 0) messages)

abbrev registered : List (List ℕ) → List Outcome
registered messages = outcomes_of (after described in_session) (map (Frame 0) messages)

abbrev back : List ℕ → Outcome
back bytes = frames bytes []

without_a_session : opened (list_services ∷ list_identity ∷ list_interfaces ∷ []) ≡ back services ∷ back identity ∷ back interfaces ∷ []
unfolding computing
without_a_session = refl

within_a_session : registered (list_services ∷ list_identity ∷ list_interfaces ∷ []) ≡ back services ∷ back identity ∷ back interfaces ∷ []
unfolding computing
within_a_session = refl

the_table_stays :
    table_after (fresh described) (StreamOpened 0 peer ∷ Frame 0 list_identity ∷ [])
    ≡ table_after (fresh described) (StreamOpened 0 peer ∷ [])
unfolding computing
the_table_stays = refl

-- the three commands have no data
with_data_they_are_no_inquiries :
    opened (message 0x04 0 0 (hex "FF") ∷ message 0x63 7 0 (hex "00") ∷ message 0x64 7 0 (hex "00") ∷ [])
    ≡ back (message 0x04 0 0x65 []) ∷ back (message 0x63 7 0x65 []) ∷ back (message 0x64 7 0x65 []) ∷ []
unfolding computing
with_data_they_are_no_inquiries = refl

a_wrong_length_is_one : opened ((list_identity ++ hex "00") ∷ []) ≡ back (message 0x63 0 0x65 []) ∷ []
unfolding computing
a_wrong_length_is_one = refl

-- ---- the status word of the identity is that of the Identity object

abbrev runs : Event
runs = Datagram peer (datagram 0x10000001 1 1 (running (hex "11 22 33 44")))

an_owner_in_run_mode :
    outcomes_of (after described (opens owner ∷ runs ∷ [])) (Inquiry peer list_identity ∷ [])
    ≡ gets (message 0x63 0 0 (identity_data (hex "61 00"))) ∷ []
unfolding computing
an_owner_in_run_mode = refl

-- ---- the longest reply

-- a name of 32 bytes
abbrev long : Profile
long = record described {
  description = Some (record pump { name = hex "41 41 41 41 41 41 41 41 41 41 41 41 41 41 41 41 41 41 41 41 41 41 41 41 41 41 41 41 41 41 41 41" });
}

abbrev lengths : Outcome → List ℕ
lengths (Ok answer) = map (λ frame. length frame.bytes) answer.frames
lengths (Err fault) = []

-- a header of 24, and 72 bytes behind it
ninety_six_bytes : map lengths (said long (Inquiry peer list_identity ∷ [])) ≡ (96 ∷ []) ∷ []
unfolding computing
ninety_six_bytes = refl

-- ---- devices that no inquiry finds

without_a_description : said common (map (Inquiry peer) (list_services ∷ list_identity ∷ list_interfaces ∷ [])) ≡ says BadFrame ∷ says BadFrame ∷ says BadFrame ∷ []
unfolding computing
without_a_description = refl

over_a_stream_it_lists_services_alone :
    said common (StreamOpened 0 peer ∷ map (Frame 0) (list_services ∷ list_identity ∷ list_interfaces ∷ []))
    ≡ says Done ∷ back services ∷ back (message 0x63 0 0x01 []) ∷ back (message 0x64 0 0x01 []) ∷ []
unfolding computing
over_a_stream_it_lists_services_alone = refl

a_scanner_answers_no_inquiry : outcomes_of (Scanner (scanner_table (profile []))) (Inquiry peer list_identity ∷ []) ≡ Err NotAllowedNow ∷ []
unfolding computing
a_scanner_answers_no_inquiry = refl
