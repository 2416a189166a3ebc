use Rattle.scanner_table.specs.Sessions.{staged_stream}
use Rattle.cip_types.specs.Indices.{Mapped}
use Rattle.scanner_slots.proofs.scanner.stage_streams.Given as goal

abbrev pub invariant-loop-stream : goal.invariant-loop-stream
invariant-loop-stream l = Mapped (staged_stream l.number l.stage) l.initial.streams l.streams l.stream-index
