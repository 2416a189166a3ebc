use Rattle.std.proofs.Common.{List, ℕ, sym, subst}
use Rattle.cip_datagram.specs.Reading.{datagram_reading}
use Rattle.station_record.specs.Shortened.{IsBare, Repeats, bare_bytes}
use Rattle.station_record.proofs.Repeating.{datagram_repeats}
use Rattle.station_record.proofs.shortened.repeats.Goals as goal

pub returns-in-Datagram : goal.returns-in-Datagram
returns-in-Datagram c = λ outcome.
    subst (λ event. Repeats event outcome) (sym c.in-Datagram.is)
    (datagram_repeats c.in-Datagram.peer c.in-Datagram.bytes outcome
    (subst (λ (bytes : List ℕ). IsBare (datagram_reading bytes) (datagram_reading (bare_bytes (datagram_reading bytes)))) c.as_slice.ensures c.stays_itself.ensures))
