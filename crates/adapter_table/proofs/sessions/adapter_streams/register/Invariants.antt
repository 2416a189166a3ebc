use Rattle.adapter_table.specs.Streams.{registered_stream}
use Rattle.cip_types.specs.Indices.{Mapped}
use Rattle.adapter_table.proofs.sessions.adapter_streams.register.Given as goal

abbrev pub invariant-loop-stream : goal.invariant-loop-stream
invariant-loop-stream l = Mapped (registered_stream l.number) l.initial.streams l.streams l.stream-index
