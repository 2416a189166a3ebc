-- Frames and their answers at a described adapter, byte for byte: options, a connected message without a session, and data of
-- commands that have none. An adapter without a description answers as before.
use Rattle.std.proofs.Common.{◌≡◌, ℕ, true, List, [], ◌∷◌, Option, Some, None, Result, Ok, refl}
use Rattle.cip_encap.specs.Reading as messages
use Rattle.cip_events.specs.declared.event.Event.TheVariants.{Frame}
use Rattle.cip_events.specs.declared.event.Recipient.TheVariants.{Stream as OnStream}
use Rattle.cip_events.specs.declared.event.StepFault.{StepFault}
use Rattle.cip_events.specs.declared.event.Verdict.TheVariants.{Done}
use Rattle.cip_events.specs.Answers.{plain_answer}
use Rattle.cip_router.specs.Frames.{frame_reading}
use Rattle.adapter_table.specs.declared.profile.Action.TheVariants.{Zero}
use Rattle.adapter_table.specs.declared.profile.Description.{Description}
use Rattle.adapter_table.specs.declared.profile.Profile.{Profile}
use Rattle.adapter_table.specs.declared.table.AdapterTable.{AdapterTable}
use Rattle.adapter_table.specs.Profiles.{no_limits}
use Rattle.adapter_table.specs.Encapsulation.{handled, described_frame, frame}
use Rattle.adapter_table.specs.Inquiries.{inquiry_reply}
use Rattle.adapter_table.specs.Requests.{Next}
use Rattle.adapter_table.specs.Step.{adapter_table, adapter_step}

abbrev described : Option Description
described = Some (record { serial = 0x11223344; name = []; port = 44818; speed = 100; flags = 0xF; mac = 2 ∷ 0 ∷ 192 ∷ 168 ∷ 1 ∷ 10 ∷ []; inactivity = 120 })

-- an adapter at 192.168.1.10 with the output 150 and the input 100 of 4 bytes
abbrev profile : Option Description → Profile
profile description = record {
  incarnation = 0x10;
  node = record { 0 = 0xC0A8010A };
  mask = 0xFFFFFF00;
  identity = record { vendor = 1; device_type = 12; product = 7; major = 2; minor = 3 };
  outputs = record { instance = 150; len = 4; idle = Zero; fault = Zero } ∷ [];
  inputs = record { instance = 100; len = 4 } ∷ [];
  config = None;
  input_only = 152;
  listen_only = 153;
  description = description;
  limits = no_limits;
  objects = [];
  ids = None;
}

-- with a stream of 192.168.1.20, whose session is registered
abbrev registered : Option Description → AdapterTable
registered description = record (adapter_table (profile description)) { streams = record { number = 0; peer = record { 0 = 0xC0A80114 }; registered = true } ∷ [] }

abbrev after : Option Description → List ℕ → Result Next StepFault
after description bytes = adapter_step (registered description) (Frame 0 bytes)

-- nothing is sent, and nothing changes
abbrev silent : Option Description → Result Next StepFault
silent description = Ok (plain_answer Done, registered description)

-- one frame is sent, and nothing changes
abbrev replied : Option Description → List ℕ → Result Next StepFault
replied description bytes = Ok (record { frames = record { to = OnStream 0; bytes = bytes } ∷ []; datagrams = []; verdict = Done; notices = [] }, registered description)

-- ---- options

-- ListServices with options 1
abbrev optional_services : List ℕ
optional_services = 0x04 ∷ 0x00 ∷ 0x00 ∷ 0x00 ∷ 0x00 ∷ 0x00 ∷ 0x00 ∷ 0x00 ∷ 0x00 ∷ 0x00 ∷ 0x00 ∷ 0x00 ∷ 0x01 ∷ 0x02 ∷ 0x03 ∷ 0x04 ∷ 0x05 ∷ 0x06 ∷ 0x07 ∷ 0x08 ∷ 0x01 ∷ 0x00 ∷ 0x00 ∷ 0x00 ∷ []

abbrev services : List ℕ
services = 0x04 ∷ 0x00 ∷ 0x1A ∷ 0x00 ∷ 0x00 ∷ 0x00 ∷ 0x00 ∷ 0x00 ∷ 0x00 ∷ 0x00 ∷ 0x00 ∷ 0x00 ∷ 0x01 ∷ 0x02 ∷ 0x03 ∷ 0x04 ∷ 0x05 ∷ 0x06 ∷ 0x07 ∷ 0x08 ∷ 0x00 ∷ 0x00 ∷ 0x00 ∷ 0x00 ∷ 0x01 ∷ 0x00 ∷ 0x00 ∷ 0x01 ∷ 0x14 ∷ 0x00 ∷ 0x01 ∷ 0x00 ∷ 0x20 ∷ 0x01 ∷ 0x43 ∷ 0x6F ∷ 0x6D ∷ 0x6D ∷ 0x75 ∷ 0x6E ∷ 0x69 ∷ 0x63 ∷ 0x61 ∷ 0x74 ∷ 0x69 ∷ 0x6F ∷ 0x6E ∷ 0x73 ∷ 0x00 ∷ 0x00 ∷ []

options_are_discarded : after described optional_services ≡ silent described
unfolding frame inquiry_reply described_frame handled messages.message_reading
options_are_discarded = refl

without_a_description_options_are_served : after None optional_services ≡ replied None services
unfolding frame inquiry_reply frame_reading handled messages.message_reading
without_a_description_options_are_served = refl

-- UnRegisterSession of the session, with options 0x100
abbrev optional_end : List ℕ
optional_end = 0x66 ∷ 0x00 ∷ 0x00 ∷ 0x00 ∷ 0x01 ∷ 0x00 ∷ 0x00 ∷ 0x00 ∷ 0x00 ∷ 0x00 ∷ 0x00 ∷ 0x00 ∷ 0x01 ∷ 0x02 ∷ 0x03 ∷ 0x04 ∷ 0x05 ∷ 0x06 ∷ 0x07 ∷ 0x08 ∷ 0x00 ∷ 0x01 ∷ 0x00 ∷ 0x00 ∷ []

a_session_does_not_end_with_options : after described optional_end ≡ silent described
unfolding frame inquiry_reply described_frame handled messages.message_reading
a_session_does_not_end_with_options = refl

-- ---- a connected message of another session

-- SendUnitData of session 5
abbrev other_unit : List ℕ
other_unit = 0x70 ∷ 0x00 ∷ 0x00 ∷ 0x00 ∷ 0x05 ∷ 0x00 ∷ 0x00 ∷ 0x00 ∷ 0x00 ∷ 0x00 ∷ 0x00 ∷ 0x00 ∷ 0x01 ∷ 0x02 ∷ 0x03 ∷ 0x04 ∷ 0x05 ∷ 0x06 ∷ 0x07 ∷ 0x08 ∷ 0x00 ∷ 0x00 ∷ 0x00 ∷ 0x00 ∷ []

-- its refusal with a status
abbrev unit_refused : ℕ → List ℕ
unit_refused status = 0x70 ∷ 0x00 ∷ 0x00 ∷ 0x00 ∷ 0x05 ∷ 0x00 ∷ 0x00 ∷ 0x00 ∷ status ∷ 0x00 ∷ 0x00 ∷ 0x00 ∷ 0x01 ∷ 0x02 ∷ 0x03 ∷ 0x04 ∷ 0x05 ∷ 0x06 ∷ 0x07 ∷ 0x08 ∷ 0x00 ∷ 0x00 ∷ 0x00 ∷ 0x00 ∷ []

a_connected_message_of_another_session_names_it : after described other_unit ≡ replied described (unit_refused 0x64)
unfolding frame inquiry_reply described_frame handled messages.message_reading
a_connected_message_of_another_session_names_it = refl

without_a_description_it_is_an_unknown_command : after None other_unit ≡ replied None (unit_refused 0x01)
unfolding frame inquiry_reply frame_reading handled messages.message_reading
without_a_description_it_is_an_unknown_command = refl

-- ---- data of commands that have none

-- a message of a command with one byte of data
abbrev with_data : ℕ → List ℕ
with_data command = command ∷ 0x00 ∷ 0x01 ∷ 0x00 ∷ 0x00 ∷ 0x00 ∷ 0x00 ∷ 0x00 ∷ 0x00 ∷ 0x00 ∷ 0x00 ∷ 0x00 ∷ 0x01 ∷ 0x02 ∷ 0x03 ∷ 0x04 ∷ 0x05 ∷ 0x06 ∷ 0x07 ∷ 0x08 ∷ 0x00 ∷ 0x00 ∷ 0x00 ∷ 0x00 ∷ 0xFF ∷ []

abbrev list_refused : (command status : ℕ) → List ℕ
list_refused command status = command ∷ 0x00 ∷ 0x00 ∷ 0x00 ∷ 0x00 ∷ 0x00 ∷ 0x00 ∷ 0x00 ∷ status ∷ 0x00 ∷ 0x00 ∷ 0x00 ∷ 0x01 ∷ 0x02 ∷ 0x03 ∷ 0x04 ∷ 0x05 ∷ 0x06 ∷ 0x07 ∷ 0x08 ∷ 0x00 ∷ 0x00 ∷ 0x00 ∷ 0x00 ∷ []

list_services_has_no_data : after described (with_data 0x04) ≡ replied described (list_refused 0x04 0x65)
unfolding frame inquiry_reply described_frame handled messages.message_reading
list_services_has_no_data = refl

list_identity_has_no_data : after described (with_data 0x63) ≡ replied described (list_refused 0x63 0x65)
unfolding frame inquiry_reply described_frame handled messages.message_reading
list_identity_has_no_data = refl

list_interfaces_has_no_data : after described (with_data 0x64) ≡ replied described (list_refused 0x64 0x65)
unfolding frame inquiry_reply described_frame handled messages.message_reading
list_interfaces_has_no_data = refl

without_a_description_list_services_is_served : after None (with_data 0x04) ≡ replied None services
unfolding frame inquiry_reply frame_reading handled messages.message_reading
without_a_description_list_services_is_served = refl

without_a_description_list_identity_is_unknown : after None (with_data 0x63) ≡ replied None (list_refused 0x63 0x01)
unfolding frame inquiry_reply frame_reading handled messages.message_reading
without_a_description_list_identity_is_unknown = refl

-- NOP carries any data, and has no reply
a_nop_has_data : after described (with_data 0x00) ≡ silent described
unfolding frame inquiry_reply described_frame handled messages.message_reading
a_nop_has_data = refl
