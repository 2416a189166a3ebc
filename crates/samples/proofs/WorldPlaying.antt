-- The definitions that a sample unfolds.
use Rattle.cip_datagram.specs.Reading as datagrams
use Rattle.cip_encap.specs.Reading as messages
use Rattle.adapter_table.specs.Datagrams.{received}
use Rattle.cip_router.specs.Frames.{frame_reading}
use Rattle.adapter_table.specs.Encapsulation.{handled, frame, described_frame}
use Rattle.adapter_table.specs.Inquiries.{inquiry_reply, inquired}
use Rattle.messaging.specs.Times.{without_late_class3_connections, without_late_waiting, aged}
use Rattle.adapter_table.specs.Messages.{messages_table}
use Rattle.adapter_table.specs.Profiles.{profile_fault}
use Rattle.adapter_table.specs.Step.{read}
use Rattle.cip_tables.specs.Step.{step}
use Rattle.adapter_table.specs.Streams.{with_stream, without_stream, registered_table, stream_opened, stream_cut}
use Rattle.adapter_table.specs.Ticks.{clocked_table, expired_table, produced_table, tick}
use Rattle.segment_world.specs.Transit.Streams.{frames_sent, notices_applied}
use Rattle.segment_world.specs.Configs.{any_twice, first_fault}

-- `unfolding playing` lets `refl` compute acts that are written out
unfoldable pub playing : Unit {0}
unfolding messages_table without_late_class3_connections without_late_waiting aged datagrams.datagram_reading messages.message_reading received frame_reading described_frame inquiry_reply inquired handled frame profile_fault read step with_stream without_stream registered_table stream_opened stream_cut clocked_table expired_table produced_table tick frames_sent notices_applied any_twice first_fault
playing = tt
