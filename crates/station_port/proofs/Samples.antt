-- What worked messages name, what becomes of them, and where datagrams go.
use Rattle.std.proofs.Common.{◌≡◌, ℕ, List, [], ◌∷◌, ◌++◌, replicate, Some, None, refl}
use Rattle.cip_types.specs.declared.names.Node.{Node}
use Rattle.cip_types.specs.declared.names.Triad.{Triad}
use Rattle.cip_encap.specs.Reading as messages
use Rattle.cip_encap.specs.PacketReading as packets
use Rattle.cip_encap.specs.AnyItems as any_items
use Rattle.cip_epath.specs.Reading as paths
use Rattle.cip_fwdopen.specs.Close as closes
use Rattle.cip_fwdopen.specs.Open as opens
use Rattle.cip_fwdopen.specs.Reply as replies
use Rattle.cip_fwdopen.specs.Request as requests
use Rattle.cip_netparams.specs.Word as words
use Rattle.cip_router.specs.Requests.{router_request_reading}
use Rattle.cip_encap.specs.declared.packet.SocketAddress.{SocketAddress}
use Rattle.station_port.specs.declared.named_ports.held.NamedRoute.{NamedRoute}
use Rattle.station_port.specs.declared.named_ports.ports.ItemUse.TheVariants.{Unused, Named, Obeyed, Honoured}
use Rattle.station_port.specs.declared.named_ports.reply.ReplyOutcome.TheVariants.{Opened, Closed, Nothing}
use Rattle.station_port.specs.NamedPorts.Naming.{named_among, named_port}
use Rattle.station_port.specs.NamedPorts.Closing.{closed_triad}
use Rattle.station_port.specs.NamedPorts.Destinations.{at_host, destination_in, named_destination}
use Rattle.station_port.specs.NamedPorts.Editing.{with_item, without_item}
use Rattle.station_port.specs.NamedPorts.Replies.{reply_outcome}
use Rattle.station_port.specs.NamedPorts.Held.{after_answer, after_reply, without_closed}
use Rattle.station_port.specs.NamedPorts.Ports.{requested_after, requested_on, destination_for, received_after, seen_after, sent_after}
use Rattle.station_port.proofs.Messages.{answering, around, asking, closed, closing, item, multicast, o_t_item, opened, other_command, own_item, point_to_point, refused, short_item, t_o_item, unknown_item, with_one, with_two, with_unknown}

-- ---- the port that a request names

pub a_port_is_named : named_port (with_one point_to_point t_o_item) ≡ Some (record { from_end = 20; port = 2230 })
unfolding named_port messages.message_reading named_among any_items.any_packet_reading any_items.are_items any_items.behind_item router_request_reading requests.request_reading paths.target_reading paths.segments_at paths.segment_at paths.logical_at paths.value_at opens.open_reading words.params16
a_port_is_named = refl

-- among the items behind the request

pub behind_another_item : named_among 2 (o_t_item ++ t_o_item) ≡ Some (record { from_end = 20; port = 2230 })
unfolding named_among any_items.behind_item
behind_another_item = refl

pub in_front_of_another_item : named_among 2 (t_o_item ++ o_t_item) ≡ Some (record { from_end = 40; port = 2230 })
unfolding named_among any_items.behind_item
in_front_of_another_item = refl

pub no_item_names_none : named_among 0 [] ≡ None
unfolding named_among any_items.behind_item
no_item_names_none = refl

pub another_direction_names_none : named_among 1 o_t_item ≡ None
unfolding named_among any_items.behind_item
another_direction_names_none = refl

pub another_family_names_none : named_among 1 (item 1 3 0x08 0xB6) ≡ None
unfolding named_among any_items.behind_item
another_family_names_none = refl

pub port_0_names_none : named_among 1 (item 1 2 0 0) ≡ None
unfolding named_among any_items.behind_item
port_0_names_none = refl

pub a_good_item_behind_a_bad_one_names_its_port : named_among 2 (item 1 2 0 0 ++ t_o_item) ≡ Some (record { from_end = 20; port = 2230 })
unfolding named_among any_items.behind_item
a_good_item_behind_a_bad_one_names_its_port = refl

pub behind_an_item_that_nobody_knows : named_among 2 (unknown_item ++ t_o_item) ≡ Some (record { from_end = 20; port = 2230 })
unfolding named_among any_items.behind_item
behind_an_item_that_nobody_knows = refl

pub within_an_item_that_nobody_knows_is_none : named_among 1 (around t_o_item) ≡ None
unfolding named_among any_items.behind_item
within_an_item_that_nobody_knows_is_none = refl

-- in whole messages

pub a_port_is_named_among_items_that_nobody_knows : named_port (with_unknown t_o_item) ≡ Some (record { from_end = 20; port = 2230 })
unfolding named_port messages.message_reading named_among any_items.any_packet_reading any_items.are_items any_items.behind_item router_request_reading requests.request_reading paths.target_reading paths.segments_at paths.segment_at paths.logical_at paths.value_at opens.open_reading words.params16
a_port_is_named_among_items_that_nobody_knows = refl

pub another_length_names_none : named_port (with_one point_to_point short_item) ≡ None
unfolding named_port messages.message_reading named_among any_items.any_packet_reading any_items.are_items any_items.behind_item router_request_reading requests.request_reading paths.target_reading paths.segments_at paths.segment_at paths.logical_at paths.value_at opens.open_reading words.params16
another_length_names_none = refl

pub a_multicast_one_names_none : named_port (with_one multicast t_o_item) ≡ None
unfolding named_port messages.message_reading named_among any_items.any_packet_reading any_items.are_items any_items.behind_item router_request_reading requests.request_reading paths.target_reading paths.segments_at paths.segment_at paths.logical_at paths.value_at opens.open_reading words.params16
a_multicast_one_names_none = refl

pub another_command_names_none : named_port other_command ≡ None
unfolding named_port messages.message_reading
another_command_names_none = refl

pub a_close_names_none : named_port closing ≡ None
unfolding named_port messages.message_reading named_among any_items.any_packet_reading any_items.are_items any_items.behind_item router_request_reading requests.request_reading paths.target_reading paths.segments_at paths.segment_at paths.logical_at paths.value_at closes.close_reading
a_close_names_none = refl

-- ---- an item is added and taken off

pub an_item_is_added : with_item (asking point_to_point) 2230 ≡ Some (with_one point_to_point own_item)
unfolding with_item messages.message_reading packets.packet_reading packets.are_sockets packets.behind_socket router_request_reading requests.request_reading paths.target_reading paths.segments_at paths.segment_at paths.logical_at paths.value_at opens.open_reading words.params16
an_item_is_added = refl

pub none_to_a_multicast_one : with_item (asking multicast) 2230 ≡ None
unfolding with_item messages.message_reading packets.packet_reading packets.are_sockets packets.behind_socket router_request_reading requests.request_reading paths.target_reading paths.segments_at paths.segment_at paths.logical_at paths.value_at opens.open_reading words.params16
none_to_a_multicast_one = refl

pub none_behind_another : with_item (with_one point_to_point o_t_item) 2230 ≡ None
unfolding with_item messages.message_reading packets.packet_reading packets.are_sockets packets.behind_socket router_request_reading requests.request_reading paths.target_reading paths.segments_at paths.segment_at paths.logical_at paths.value_at opens.open_reading words.params16
none_behind_another = refl

pub what_was_added_is_taken_off : without_item (with_one point_to_point own_item) 20 ≡ asking point_to_point
unfolding without_item
what_was_added_is_taken_off = refl

pub another_item_stays_in_front : without_item (with_two o_t_item t_o_item) 20 ≡ with_one point_to_point o_t_item
unfolding without_item
another_item_stays_in_front = refl

pub another_item_stays_behind : without_item (with_two t_o_item o_t_item) 40 ≡ with_one point_to_point o_t_item
unfolding without_item
another_item_stays_behind = refl

pub an_unused_item_stays : seen_after Unused (with_one point_to_point t_o_item) ≡ None
an_unused_item_stays = refl

pub an_originator_takes_none_off : seen_after (Named 2230) (with_one point_to_point t_o_item) ≡ None
an_originator_takes_none_off = refl

pub a_target_adds_none : sent_after Honoured (asking point_to_point) ≡ None
a_target_adds_none = refl

pub a_bad_item_stays : seen_after Honoured (with_one point_to_point (item 1 2 0 0)) ≡ None
unfolding named_port messages.message_reading named_among any_items.any_packet_reading any_items.are_items any_items.behind_item router_request_reading requests.request_reading paths.target_reading paths.segments_at paths.segment_at paths.logical_at paths.value_at opens.open_reading words.params16
a_bad_item_stays = refl

-- ---- what is requested

pub a_request_without_a_port_ends_what_was_requested : requested_after Honoured 3 (asking point_to_point) (Some (record { stream = 3; port = 2230 })) ≡ None
unfolding named_port messages.message_reading named_among any_items.any_packet_reading any_items.are_items any_items.behind_item router_request_reading requests.request_reading paths.target_reading paths.segments_at paths.segment_at paths.logical_at paths.value_at opens.open_reading words.params16
a_request_without_a_port_ends_what_was_requested = refl

pub a_request_names_a_port : requested_after Honoured 3 (with_one point_to_point t_o_item) None ≡ Some (record { stream = 3; port = 2230 })
unfolding named_port messages.message_reading named_among any_items.any_packet_reading any_items.are_items any_items.behind_item router_request_reading requests.request_reading paths.target_reading paths.segments_at paths.segment_at paths.logical_at paths.value_at opens.open_reading words.params16
a_request_names_a_port = refl

pub over_another_stream_none_was_requested : requested_on 4 (Some (record { stream = 3; port = 2230 })) ≡ None
over_another_stream_none_was_requested = refl

-- ---- what a reply says

abbrev triad : Triad
triad = record { serial = 7; vendor = 1; originator = 101 }

pub opened_is_read : reply_outcome (opened 0xD4) ≡ Opened triad 0x10000005 0x20000001
unfolding reply_outcome messages.message_reading packets.packet_reading packets.are_sockets packets.behind_socket replies.open_reply_reading replies.unread_reading
opened_is_read = refl

pub a_large_one_is_read : reply_outcome (opened 0xDB) ≡ Opened triad 0x10000005 0x20000001
unfolding reply_outcome messages.message_reading packets.packet_reading packets.are_sockets packets.behind_socket replies.open_reply_reading replies.unread_reading
a_large_one_is_read = refl

pub another_service_says_nothing : reply_outcome (opened 0x8E) ≡ Nothing
unfolding reply_outcome messages.message_reading packets.packet_reading packets.are_sockets packets.behind_socket
another_service_says_nothing = refl

pub a_refusal_says_nothing : reply_outcome refused ≡ Nothing
unfolding reply_outcome messages.message_reading packets.packet_reading packets.are_sockets packets.behind_socket replies.open_reply_reading replies.unread_reading
a_refusal_says_nothing = refl

pub closed_is_read : reply_outcome closed ≡ Closed triad
unfolding reply_outcome messages.message_reading packets.packet_reading packets.are_sockets packets.behind_socket closes.close_reply_reading replies.unread_reading
closed_is_read = refl

-- ---- the entries

abbrev peer : Node
peer = record { 0 = 0x7F000003 }

abbrev stranger : Node
stranger = record { 0 = 0x7F000004 }

abbrev other : Triad
other = record { serial = 7; vendor = 1; originator = 102 }

abbrev address : Node → ℕ → SocketAddress
address at port = record { port = port; address = at }

abbrev entry : Node → Triad → ℕ → ℕ → NamedRoute
entry at of id port = record { peer = at; triad = of; id = id; to = address at port }

-- two originators at one address
abbrev both : List NamedRoute
both = entry peer triad 0x20000001 2230 ∷ entry peer other 0x30000001 2231 ∷ []

pub an_opening_is_learned : after_reply peer (Some 2231) (Opened other 9 0x30000001) (entry peer triad 0x20000001 2230 ∷ []) ≡ both
an_opening_is_learned = refl

pub a_refused_one_is_not : after_reply peer (Some 2230) Nothing [] ≡ []
a_refused_one_is_not = refl

pub an_opening_without_a_port_ends_its_entry : after_reply peer None (Opened triad 9 0x20000001) both ≡ entry peer other 0x30000001 2231 ∷ []
an_opening_without_a_port_ends_its_entry = refl

pub an_id_given_again_ends_its_entry : after_reply peer (Some 2240) (Opened triad 9 0x30000001) both ≡ entry peer triad 0x30000001 2240 ∷ []
an_id_given_again_ends_its_entry = refl

pub the_id_of_another_peer_stays : after_reply stranger None (Opened (record { serial = 8; vendor = 1; originator = 101 }) 9 0x20000001) both ≡ both
the_id_of_another_peer_stays = refl

pub a_close_ends_its_entry : after_reply peer None (Closed triad) both ≡ entry peer other 0x30000001 2231 ∷ []
a_close_ends_its_entry = refl

pub the_oldest_of_64_makes_room : after_reply peer (Some 2231) (Opened other 8 9) (entry peer triad 1 2229 ∷ replicate 63 (entry peer triad 2 2230)) ≡ replicate 63 (entry peer triad 2 2230) ++ entry peer other 9 2231 ∷ []
the_oldest_of_64_makes_room = refl

pub none_of_63_does : after_reply peer (Some 2231) (Opened other 8 9) (replicate 63 (entry peer triad 2 2230)) ≡ replicate 63 (entry peer triad 2 2230) ++ entry peer other 9 2231 ∷ []
none_of_63_does = refl

-- ---- where a datagram goes

-- the beginning of a datagram of the id 0x20000001: 2 items, type 0x8002, 8 bytes, the id, a sequence number
abbrev datagram : ℕ → List ℕ
datagram first = 0x02 ∷ 0x00 ∷ 0x02 ∷ 0x80 ∷ 0x08 ∷ 0x00 ∷ first ∷ 0x00 ∷ 0x00 ∷ 0x20 ∷ 0x01 ∷ 0x00 ∷ 0x00 ∷ 0x00 ∷ []

pub to_the_port_that_was_named : destination_for both peer (datagram 1) 2222 ≡ address peer 2230
to_the_port_that_was_named = refl

pub another_id_to_the_usual_port : destination_for both peer (datagram 2) 2222 ≡ address peer 2222
another_id_to_the_usual_port = refl

pub another_node_to_the_usual_port : destination_for both stranger (datagram 1) 2222 ≡ address stranger 2222
another_node_to_the_usual_port = refl

pub without_an_id_to_the_usual_port : destination_for both peer (0x02 ∷ 0x00 ∷ 0x02 ∷ 0x80 ∷ 0x08 ∷ 0x00 ∷ 1 ∷ 0x00 ∷ 0x00 ∷ []) 2222 ≡ address peer 2222
without_an_id_to_the_usual_port = refl

-- ---- what a reply names, at an originator

-- 10.1.2.3, which the items name
abbrev named_host : Node
named_host = record { 0 = 0x0A010203 }

pub a_reply_names_a_destination : named_destination (answering o_t_item) ≡ Some (address named_host 2231)
unfolding named_destination messages.message_reading packets.packet_reading packets.are_sockets packets.behind_socket
a_reply_names_a_destination = refl

pub the_other_direction_names_none : named_destination (answering t_o_item) ≡ None
unfolding named_destination messages.message_reading packets.packet_reading packets.are_sockets packets.behind_socket
the_other_direction_names_none = refl

pub a_reply_without_an_item_names_none : named_destination (opened 0xD4) ≡ None
unfolding named_destination messages.message_reading packets.packet_reading packets.are_sockets packets.behind_socket
a_reply_without_an_item_names_none = refl

pub behind_the_group_of_the_other_direction : destination_in (t_o_item ++ o_t_item) ≡ Some (address named_host 2231)
behind_the_group_of_the_other_direction = refl

pub port_0_is_no_destination : destination_in (item 0 2 0 0) ≡ None
port_0_is_no_destination = refl

pub the_address_of_an_item_is_obeyed : at_host peer (address named_host 2231) ≡ address named_host 2231
the_address_of_an_item_is_obeyed = refl

pub no_address_is_the_peers : at_host peer (address (record { 0 = 0 }) 2231) ≡ address peer 2231
no_address_is_the_peers = refl

pub the_address_of_a_group_is_the_peers : at_host peer (address (record { 0 = 0xE0000001 }) 2231) ≡ address peer 2231
the_address_of_a_group_is_the_peers = refl

-- the entry of the O->T id 0x10000005, to 10.1.2.3 at port 2231
abbrev obeyed : NamedRoute
obeyed = record { peer = peer; triad = triad; id = 0x10000005; to = address named_host 2231 }

pub an_originator_learns_of_a_reply : after_answer peer (Some (address named_host 2231)) (Opened triad 0x10000005 0x20000001) [] ≡ obeyed ∷ []
an_originator_learns_of_a_reply = refl

pub a_reply_without_an_address_ends_its_entry : after_answer peer None (Opened triad 0x10000006 0x20000001) (obeyed ∷ []) ≡ []
a_reply_without_an_address_ends_its_entry = refl

pub a_refusal_ends_no_entry : after_answer peer None Nothing (obeyed ∷ []) ≡ obeyed ∷ []
a_refusal_ends_no_entry = refl

pub the_datagrams_go_there : destination_for (obeyed ∷ []) peer (0x02 ∷ 0x00 ∷ 0x02 ∷ 0x80 ∷ 0x08 ∷ 0x00 ∷ 0x05 ∷ 0x00 ∷ 0x00 ∷ 0x10 ∷ []) 2222 ≡ address named_host 2231
the_datagrams_go_there = refl

pub a_request_to_close_names_its_triad : closed_triad closing ≡ Some triad
unfolding messages.message_reading packets.packet_reading packets.are_sockets packets.behind_socket router_request_reading requests.request_reading paths.target_reading paths.segments_at paths.segment_at paths.logical_at paths.value_at closes.close_reading
a_request_to_close_names_its_triad = refl

pub a_request_to_open_closes_none : closed_triad (asking point_to_point) ≡ None
unfolding messages.message_reading packets.packet_reading packets.are_sockets packets.behind_socket router_request_reading requests.request_reading paths.target_reading paths.segments_at paths.segment_at paths.logical_at paths.value_at opens.open_reading words.params16
a_request_to_open_closes_none = refl

pub a_request_to_close_ends_its_entry : without_closed (Some triad) (obeyed ∷ both) ≡ entry peer other 0x30000001 2231 ∷ []
a_request_to_close_ends_its_entry = refl

pub a_target_obeys_no_reply : received_after Honoured (Some peer) (answering o_t_item) both ≡ both
a_target_obeys_no_reply = refl

pub unused_items_are_not_obeyed : received_after Unused (Some peer) (answering o_t_item) [] ≡ []
unused_items_are_not_obeyed = refl

pub an_originator_without_a_port_of_its_own_obeys : received_after Obeyed (Some peer) (answering o_t_item) [] ≡ obeyed ∷ []
unfolding named_destination reply_outcome messages.message_reading packets.packet_reading packets.are_sockets packets.behind_socket replies.open_reply_reading replies.unread_reading
an_originator_without_a_port_of_its_own_obeys = refl

pub an_originator_with_a_port_of_its_own_obeys : received_after (Named 2230) (Some peer) (answering o_t_item) [] ≡ obeyed ∷ []
unfolding named_destination reply_outcome messages.message_reading packets.packet_reading packets.are_sockets packets.behind_socket replies.open_reply_reading replies.unread_reading
an_originator_with_a_port_of_its_own_obeys = refl
