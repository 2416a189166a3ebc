-- What a sample unfolds.
use Rattle.cip_datagram.specs.Reading as datagrams
use Rattle.cip_encap.specs.PacketReading as packets
use Rattle.cip_encap.specs.AnyItems as any_items
use Rattle.cip_encap.specs.Reading as messages
use Rattle.cip_epath.specs.Reading as paths
use Rattle.cip_fwdopen.specs.Close as close
use Rattle.cip_fwdopen.specs.Open as open_text
use Rattle.cip_fwdopen.specs.Reply as replies
use Rattle.cip_fwdopen.specs.Request as requests
use Rattle.cip_netparams.specs.Word as words
use Rattle.cip_router.specs.Requests.{router_request_reading}
use Rattle.cip_router.specs.Frames.{frame_reading}
use Rattle.messaging.specs.Changes.{without_stream as without_messages}
use Rattle.messaging.specs.Times.{without_late_class3_connections, without_late_waiting, aged}
use Rattle.adapter_table.specs.Checks.{verdict}
use Rattle.adapter_table.specs.Closing.{closed_table}
use Rattle.adapter_table.specs.Datagrams.{accepted_table, received}
use Rattle.adapter_table.specs.Encapsulation.{handled, frame, described_frame}
use Rattle.adapter_table.specs.Inquiries.{inquiry_reply}
use Rattle.adapter_table.specs.Messages.{messages_table}
use Rattle.adapter_table.specs.Opening.{opened_row, opened_table}
use Rattle.adapter_table.specs.Profiles.{profile_fault}
use Rattle.adapter_table.specs.Requests.{admitted_open, served_open, served_close, served_end, served_object, requested}
use Rattle.adapter_table.specs.Step.{read, written_table, changed_table, write}
use Rattle.adapter_table.specs.Streams.{with_stream, without_stream, registered_table, stream_opened, stream_cut}
use Rattle.adapter_table.specs.Ticks.{clocked_table, expired_table, produced_table, tick}
use Rattle.scanner_table.specs.Closing.{target_lost}
use Rattle.scanner_table.specs.Datagrams as scanner_datagrams
use Rattle.scanner_table.specs.Encapsulation as scanner_frames
use Rattle.scanner_table.specs.Explicit as scanner_explicit
use Rattle.scanner_table.specs.Opening as scanner_opening
use Rattle.scanner_table.specs.Points as scanner_points
use Rattle.scanner_table.specs.Productions as scanner_productions
use Rattle.scanner_table.specs.Profiles as scanner_profiles
use Rattle.scanner_table.specs.Replies as scanner_replies
use Rattle.scanner_table.specs.Ticks as scanner_ticks
use Rattle.cip_tables.specs.Step.{step}
use Rattle.segment_world.specs.Transit.Streams.{frames_sent, notices_applied}
use Rattle.segment_world.specs.Configs.{any_twice, first_fault}
use Rattle.schedule_laws.specs.Chronicle.{chronicles}
use Rattle.schedule_laws.specs.Order.{HalfCircle}

-- `unfolding playing` lets `refl` compute schedules that are written out
unfoldable pub playing : Unit {0}
unfolding messages_table without_messages without_late_class3_connections without_late_waiting aged datagrams.datagram_reading messages.message_reading packets.packet_reading packets.are_sockets packets.behind_socket any_items.any_packet_reading any_items.any_connected_reading any_items.are_items any_items.behind_item paths.path_reading paths.target_reading paths.segments_at paths.segment_at paths.logical_at paths.value_at paths.key_at paths.key_fields_at paths.data_at close.close_reading close.close_text close.closed_text close.close_reply_reading open_text.open_reading open_text.open_text replies.opened_text replies.refused_text replies.unread_reading replies.open_reply_reading requests.request_reading words.params16 words.params32 router_request_reading frame_reading described_frame verdict closed_table accepted_table received handled frame opened_row opened_table profile_fault admitted_open served_open served_close served_end served_object requested inquiry_reply read written_table changed_table write with_stream without_stream registered_table stream_opened stream_cut clocked_table expired_table produced_table tick target_lost scanner_datagrams.received scanner_frames.stream_opened scanner_frames.stream_cut scanner_frames.frame scanner_opening.opened scanner_opening.ready_opened scanner_opening.target_opened scanner_points.write scanner_points.read scanner_points.mode scanner_points.start scanner_points.stop scanner_productions.produced_table scanner_profiles.profile_fault scanner_replies.open_answer scanner_replies.answered scanner_ticks.all_expired scanner_ticks.all_given_up scanner_ticks.tick scanner_explicit.explicit_request scanner_explicit.explicit_reply scanner_explicit.explicit_timed_out scanner_explicit.explicit_lost step frames_sent notices_applied any_twice first_fault chronicles HalfCircle
playing = tt
