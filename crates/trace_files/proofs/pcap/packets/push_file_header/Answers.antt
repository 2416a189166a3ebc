use Rattle.trace_files.proofs.Pieces.{seven}
use Rattle.trace_files.proofs.pcap.packets.push_file_header.Goals as goal

pub returns : goal.returns
returns c = seven _ _ _ _ _ _ _ _ _ _ _ _ _ _ _ c.in_ok-put_u32.ensures.ok c.in_ok-put_u16.ensures.ok c.in_ok-put_u16-2.ensures.ok c.in_ok-put_u32-2.ensures.ok c.in_ok-put_u32-3.ensures.ok c.in_ok-put_u32-4.ensures.ok c.in_ok-put_u32-5.ensures.ok
