use Rattle.trace_files.specs.Pcap.Packets.{record_header}
use Rattle.trace_files.proofs.Pieces.{four}
use Rattle.trace_files.proofs.pcap.packets.push_record_header.Goals as goal

pub returns : goal.returns
unfolding record_header
returns c = four _ _ _ _ _ _ _ _ _ c.in_ok-put_u32.ensures.ok c.in_ok-put_u32-2.ensures.ok c.in_ok-put_u32-3.ensures.ok c.in_ok-put_u32-4.ensures.ok
