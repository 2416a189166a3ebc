-- Inquiries and their replies, worked by hand from the format.
use Rattle.std.proofs.Common.{◌≡◌, refl, ℕ, List, [], ◌∷◌, Some, None}
use Rattle.cip_encap.specs.declared.packet.SocketAddress.{SocketAddress}
use Rattle.list_identity.specs.declared.station.StationIdentity.{StationIdentity}
use Rattle.list_identity.specs.Identity.{identity_item, item_head, view_socket, view_device, view_product, view_unit, view_name}
use Rattle.list_identity.specs.Inquiries.{identity_answer, inquiry_answer}
use Rattle.cip_encap.specs.Reading.{message_reading}

-- a communications adapter named Pump, of vendor 1, product 7, revision 2.3
pump : StationIdentity
pump = record {
  device = record { vendor = 1; device_type = 12; product = 7; major = 2; minor = 3 };
  status = 0x0030;
  serial = 0x12345678;
  name = 0x50 ∷ 0x75 ∷ 0x6D ∷ 0x70 ∷ [];
  state = 3;
}

-- who asks reaches it at 192.168.1.10
here : SocketAddress
here = record { port = 44818; address = record { 0 = 0xC0A8010A } }

-- the header of a request without data: its command, and bytes 1 to 8 as its sender context
asking : ℕ → List ℕ
asking command =
    command ∷ 0x00 ∷ 0x00 ∷ 0x00 ∷ 0x00 ∷ 0x00 ∷ 0x00 ∷ 0x00 ∷ 0x00 ∷ 0x00 ∷ 0x00 ∷ 0x00 ∷ 0x01 ∷ 0x02 ∷ 0x03 ∷ 0x04 ∷
    0x05 ∷ 0x06 ∷ 0x07 ∷ 0x08 ∷ 0x00 ∷ 0x00 ∷ 0x00 ∷ 0x00 ∷ []

-- The reply repeats the context. Of the item 38 bytes follow its length. The address is that under which the device is
-- reached, with its first byte first.
pump_identity : List ℕ
pump_identity =
    0x63 ∷ 0x00 ∷ 0x2C ∷ 0x00 ∷ 0x00 ∷ 0x00 ∷ 0x00 ∷ 0x00 ∷ 0x00 ∷ 0x00 ∷ 0x00 ∷ 0x00 ∷ 0x01 ∷ 0x02 ∷ 0x03 ∷ 0x04 ∷
    0x05 ∷ 0x06 ∷ 0x07 ∷ 0x08 ∷ 0x00 ∷ 0x00 ∷ 0x00 ∷ 0x00 ∷ 0x01 ∷ 0x00 ∷ 0x0C ∷ 0x00 ∷ 0x26 ∷ 0x00 ∷ 0x01 ∷ 0x00 ∷
    0x00 ∷ 0x02 ∷ 0xAF ∷ 0x12 ∷ 0xC0 ∷ 0xA8 ∷ 0x01 ∷ 0x0A ∷ 0x00 ∷ 0x00 ∷ 0x00 ∷ 0x00 ∷ 0x00 ∷ 0x00 ∷ 0x00 ∷ 0x00 ∷
    0x01 ∷ 0x00 ∷ 0x0C ∷ 0x00 ∷ 0x07 ∷ 0x00 ∷ 0x02 ∷ 0x03 ∷ 0x30 ∷ 0x00 ∷ 0x78 ∷ 0x56 ∷ 0x34 ∷ 0x12 ∷ 0x04 ∷ 0x50 ∷
    0x75 ∷ 0x6D ∷ 0x70 ∷ 0x03 ∷ []

list_identity_is_answered : inquiry_answer (asking 0x63) pump here ≡ Some pump_identity
unfolding pump here asking pump_identity identity_item item_head view_socket view_device view_product view_unit view_name message_reading
list_identity_is_answered = refl

over_a_stream_too : identity_answer (asking 0x63) pump here ≡ Some pump_identity
unfolding pump here asking pump_identity identity_item item_head view_socket view_device view_product view_unit view_name message_reading
over_a_stream_too = refl

-- it takes no session: a handle is not looked at, and the reply repeats it
a_session_is_repeated : inquiry_answer (
    0x63 ∷ 0x00 ∷ 0x00 ∷ 0x00 ∷ 0x44 ∷ 0x33 ∷ 0x22 ∷ 0x11 ∷ 0x00 ∷ 0x00 ∷ 0x00 ∷ 0x00 ∷ 0x01 ∷ 0x02 ∷ 0x03 ∷ 0x04 ∷
    0x05 ∷ 0x06 ∷ 0x07 ∷ 0x08 ∷ 0x00 ∷ 0x00 ∷ 0x00 ∷ 0x00 ∷ []) pump here ≡ Some (
    0x63 ∷ 0x00 ∷ 0x2C ∷ 0x00 ∷ 0x44 ∷ 0x33 ∷ 0x22 ∷ 0x11 ∷ 0x00 ∷ 0x00 ∷ 0x00 ∷ 0x00 ∷ 0x01 ∷ 0x02 ∷ 0x03 ∷ 0x04 ∷
    0x05 ∷ 0x06 ∷ 0x07 ∷ 0x08 ∷ 0x00 ∷ 0x00 ∷ 0x00 ∷ 0x00 ∷ 0x01 ∷ 0x00 ∷ 0x0C ∷ 0x00 ∷ 0x26 ∷ 0x00 ∷ 0x01 ∷ 0x00 ∷
    0x00 ∷ 0x02 ∷ 0xAF ∷ 0x12 ∷ 0xC0 ∷ 0xA8 ∷ 0x01 ∷ 0x0A ∷ 0x00 ∷ 0x00 ∷ 0x00 ∷ 0x00 ∷ 0x00 ∷ 0x00 ∷ 0x00 ∷ 0x00 ∷
    0x01 ∷ 0x00 ∷ 0x0C ∷ 0x00 ∷ 0x07 ∷ 0x00 ∷ 0x02 ∷ 0x03 ∷ 0x30 ∷ 0x00 ∷ 0x78 ∷ 0x56 ∷ 0x34 ∷ 0x12 ∷ 0x04 ∷ 0x50 ∷
    0x75 ∷ 0x6D ∷ 0x70 ∷ 0x03 ∷ [])
unfolding pump here identity_item item_head view_socket view_device view_product view_unit view_name message_reading
a_session_is_repeated = refl

-- the one service: encapsulation over TCP, class 1 over UDP; it is named Communications
list_services_is_answered : inquiry_answer (asking 0x04) pump here ≡ Some (
    0x04 ∷ 0x00 ∷ 0x1A ∷ 0x00 ∷ 0x00 ∷ 0x00 ∷ 0x00 ∷ 0x00 ∷ 0x00 ∷ 0x00 ∷ 0x00 ∷ 0x00 ∷ 0x01 ∷ 0x02 ∷ 0x03 ∷ 0x04 ∷
    0x05 ∷ 0x06 ∷ 0x07 ∷ 0x08 ∷ 0x00 ∷ 0x00 ∷ 0x00 ∷ 0x00 ∷ 0x01 ∷ 0x00 ∷ 0x00 ∷ 0x01 ∷ 0x14 ∷ 0x00 ∷ 0x01 ∷ 0x00 ∷
    0x20 ∷ 0x01 ∷ 0x43 ∷ 0x6F ∷ 0x6D ∷ 0x6D ∷ 0x75 ∷ 0x6E ∷ 0x69 ∷ 0x63 ∷ 0x61 ∷ 0x74 ∷ 0x69 ∷ 0x6F ∷ 0x6E ∷ 0x73 ∷
    0x00 ∷ 0x00 ∷ [])
unfolding pump here asking message_reading
list_services_is_answered = refl

-- no interfaces
list_interfaces_is_answered : inquiry_answer (asking 0x64) pump here ≡ Some (
    0x64 ∷ 0x00 ∷ 0x02 ∷ 0x00 ∷ 0x00 ∷ 0x00 ∷ 0x00 ∷ 0x00 ∷ 0x00 ∷ 0x00 ∷ 0x00 ∷ 0x00 ∷ 0x01 ∷ 0x02 ∷ 0x03 ∷ 0x04 ∷
    0x05 ∷ 0x06 ∷ 0x07 ∷ 0x08 ∷ 0x00 ∷ 0x00 ∷ 0x00 ∷ 0x00 ∷ 0x00 ∷ 0x00 ∷ [])
unfolding pump here asking message_reading
list_interfaces_is_answered = refl

-- over a stream the device itself answers ListServices
the_device_answers_services : identity_answer (asking 0x04) pump here ≡ None
unfolding pump here asking message_reading
the_device_answers_services = refl

-- RegisterSession is no inquiry, and no command of two bytes is, whose first is one's
a_session_is_no_inquiry : inquiry_answer (asking 0x65) pump here ≡ None
unfolding pump here asking message_reading
a_session_is_no_inquiry = refl

another_command_is_no_inquiry : inquiry_answer (0x63 ∷ 0x01 ∷ 0 ∷ 0 ∷ 0 ∷ 0 ∷ 0 ∷ 0 ∷ 0 ∷ 0 ∷ 0 ∷ 0 ∷ 1 ∷ 2 ∷ 3 ∷ 4 ∷ 5 ∷ 6 ∷ 7 ∷ 8 ∷ 0 ∷ 0 ∷ 0 ∷ 0 ∷ []) pump here ≡ None
unfolding message_reading
another_command_is_no_inquiry = refl

-- nor is a message with a status, with options or with data, nor one that is cut short
a_status_is_not_answered : inquiry_answer (0x63 ∷ 0 ∷ 0 ∷ 0 ∷ 0 ∷ 0 ∷ 0 ∷ 0 ∷ 1 ∷ 0 ∷ 0 ∷ 0 ∷ 1 ∷ 2 ∷ 3 ∷ 4 ∷ 5 ∷ 6 ∷ 7 ∷ 8 ∷ 0 ∷ 0 ∷ 0 ∷ 0 ∷ []) pump here ≡ None
unfolding message_reading
a_status_is_not_answered = refl

options_are_not_answered : inquiry_answer (0x04 ∷ 0 ∷ 0 ∷ 0 ∷ 0 ∷ 0 ∷ 0 ∷ 0 ∷ 0 ∷ 0 ∷ 0 ∷ 0 ∷ 1 ∷ 2 ∷ 3 ∷ 4 ∷ 5 ∷ 6 ∷ 7 ∷ 8 ∷ 1 ∷ 0 ∷ 0 ∷ 0 ∷ []) pump here ≡ None
unfolding message_reading
options_are_not_answered = refl

options_of_list_identity_are_not_answered : identity_answer (0x63 ∷ 0 ∷ 0 ∷ 0 ∷ 0 ∷ 0 ∷ 0 ∷ 0 ∷ 0 ∷ 0 ∷ 0 ∷ 0 ∷ 1 ∷ 2 ∷ 3 ∷ 4 ∷ 5 ∷ 6 ∷ 7 ∷ 8 ∷ 0 ∷ 0 ∷ 0 ∷ 1 ∷ []) pump here ≡ None
unfolding message_reading
options_of_list_identity_are_not_answered = refl

data_are_not_answered : inquiry_answer (0x64 ∷ 0 ∷ 1 ∷ 0 ∷ 0 ∷ 0 ∷ 0 ∷ 0 ∷ 0 ∷ 0 ∷ 0 ∷ 0 ∷ 1 ∷ 2 ∷ 3 ∷ 4 ∷ 5 ∷ 6 ∷ 7 ∷ 8 ∷ 0 ∷ 0 ∷ 0 ∷ 0 ∷ 9 ∷ []) pump here ≡ None
unfolding message_reading
data_are_not_answered = refl

half_a_request_is_not_answered : inquiry_answer (0x63 ∷ 0 ∷ 0 ∷ 0 ∷ []) pump here ≡ None
unfolding message_reading
half_a_request_is_not_answered = refl
