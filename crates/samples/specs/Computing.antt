-- The definitions that a sample unfolds.
use Rattle.cip_datagram.specs.Reading as datagrams
use Rattle.cip_encap.specs.Reading as messages
use Rattle.cip_encap.specs.PacketReading as packets
use Rattle.cip_encap.specs.AnyItems as any_items
use Rattle.cip_encap.specs.ConnectedReading.{connected_reading}
use Rattle.cip_epath.specs.AnyPath as any_paths
use Rattle.cip_epath.specs.MessagePath.{message_path_reading}
use Rattle.cip_epath.specs.Reading as paths
use Rattle.cip_fwdopen.specs.Close as closes
use Rattle.cip_router.specs.Replies as values
use Rattle.list_identity.specs.Identity as identities
use Rattle.cip_fwdopen.specs.Open as opens
use Rattle.cip_fwdopen.specs.Reply as replies
use Rattle.cip_fwdopen.specs.Request as requests
use Rattle.cip_netparams.specs.Word as words
use Rattle.cip_router.specs.Requests.{router_request_reading}
use Rattle.messaging.specs.Changes as changes
use Rattle.messaging.specs.Times as times
use Rattle.adapter_table.specs.Answering.{respond}
use Rattle.adapter_table.specs.Checks.{verdict}
use Rattle.adapter_table.specs.Closing.{closed_table}
use Rattle.adapter_table.specs.Datagrams.{accepted_table, received}
use Rattle.adapter_table.specs.Class3Opening.{class3_refusal, opened_class3, served_class3}
use Rattle.cip_router.specs.Frames.{frame_reading}
use Rattle.adapter_table.specs.Encapsulation.{handled, frame, described_frame}
use Rattle.adapter_table.specs.Inquiries.{inquiry_reply, inquired}
use Rattle.adapter_table.specs.Messages.{messages_table}
use Rattle.adapter_table.specs.Objects.{instance_at, status_word, alone_answer}
use Rattle.adapter_table.specs.Carrying.{object_answer}
use Rattle.adapter_table.specs.Opening.{opened_row, opened_table}
use Rattle.adapter_table.specs.Profiles.{profile_fault}
use Rattle.adapter_table.specs.Requests.{admitted_open, served_open, served_close, served_end, served_object, requested}
use Rattle.adapter_table.specs.Step.{read, written_table, changed_table, write}
use Rattle.cip_tables.specs.Step.{step}
use Rattle.adapter_table.specs.Streams.{with_stream, without_stream, registered_table, stream_opened, stream_cut}
use Rattle.adapter_table.specs.Ticks.{clocked_table, expired_table, produced_table, tick}

-- `unfolding computing` lets `refl` compute a step on events that are written out
unfoldable pub computing : Unit {0}
unfolding connected_reading message_path_reading values.own_reply_text messages_table changes.with_class3 changes.without_class3 changes.without_stream changes.executed changes.repeated changes.referred changes.referred_over changes.answered changes.replied times.without_late_class3_connections times.without_late_waiting times.aged times.first_moment class3_refusal opened_class3 served_class3 respond datagrams.datagram_reading messages.message_reading packets.packet_reading packets.are_sockets packets.behind_socket any_items.any_packet_reading any_items.any_connected_reading any_items.are_items any_items.behind_item paths.path_reading paths.target_reading paths.segments_at paths.segment_at paths.logical_at paths.value_at paths.key_at paths.key_fields_at paths.data_at any_paths.serial_key_at any_paths.any_segment_at any_paths.any_segments_at any_paths.any_path_reading any_paths.any_message_reading any_paths.key_serial closes.close_reading closes.closed_text values.object_reply_text identities.identity_item identities.item_head identities.view_socket identities.view_device identities.view_product identities.view_unit identities.view_name instance_at status_word object_answer alone_answer inquiry_reply inquired opens.open_reading replies.opened_text replies.refused_text replies.intervals_words replies.intervals_text requests.request_reading words.params16 words.params32 router_request_reading verdict closed_table accepted_table received frame_reading described_frame handled frame opened_row opened_table profile_fault admitted_open served_open served_close served_end served_object requested read written_table changed_table write step with_stream without_stream registered_table stream_opened stream_cut clocked_table expired_table produced_table tick
computing = tt
