use Rattle.cip_datagram.proofs.DatagramLaws.{datagram_text_reads}
use Rattle.cip_datagram.proofs.HeaderLaws.{header_reads}
use Rattle.cip_datagram.proofs.laws.reads_back.Goals as goal

pub returns-clause-datagram : goal.returns-clause-datagram
returns-clause-datagram c = datagram_text_reads

pub returns-clause-header : goal.returns-clause-header
returns-clause-header c = header_reads
