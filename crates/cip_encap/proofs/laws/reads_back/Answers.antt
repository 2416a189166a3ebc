use Rattle.cip_encap.proofs.MessageLaws.{message_text_reads}
use Rattle.cip_encap.proofs.PacketLaws.{packet_text_reads}
use Rattle.cip_encap.proofs.ConnectedLaws.{connected_text_reads}
use Rattle.cip_encap.proofs.laws.reads_back.Goals as goal

pub returns-clause-message : goal.returns-clause-message
returns-clause-message c = message_text_reads

pub returns-clause-items : goal.returns-clause-items
returns-clause-items c = packet_text_reads

pub returns-clause-connected : goal.returns-clause-connected
returns-clause-connected c = connected_text_reads
