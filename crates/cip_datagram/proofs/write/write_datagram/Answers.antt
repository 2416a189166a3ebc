use Rattle.std.proofs.Common.{◌++◌, ap, append_assoc}
use Rattle.cip_datagram.specs.Datagram.{view_datagram}
use Rattle.cip_datagram.proofs.DatagramLaws.{datagram_text_reads}
use Rattle.cip_datagram.proofs.write.write_datagram.Goals as goal

pub returns-clause-text : goal.returns-clause-text
returns-clause-text c =
    rw (c.put-2.ensures.items, c.put.ensures.items)
    (rw (append_assoc c.args.out.now.items c.fixed_part.result c.args.datagram.now.«data».now)
    (ap (λ text. c.args.out.now.items ++ text) c.fixed_part.ensures.text))

pub returns-clause-read_back : goal.returns-clause-read_back
returns-clause-read_back c = datagram_text_reads (view_datagram c.args.datagram.now) c.fixed_part.ensures.is_text.0
