use Rattle.std.proofs.Common.{subst}
use Rattle.cip_datagram.specs.Datagram.{IsDatagramReading}
use Rattle.cip_datagram.specs.Reading.{datagram_reading}
use Rattle.station_record.proofs.Repeating.{bare_is}
use Rattle.station_record.proofs.shortened.stays_itself.Goals as goal

pub returns : goal.returns
returns c =
    bare_is c.reads_back.ensures.datagram c.args.bytes.now (datagram_reading c.args.bytes.now)
    (subst (IsDatagramReading c.args.bytes.now) c.read_datagram-reading.ensures.value c.read_datagram-reading.ensures.reading)
