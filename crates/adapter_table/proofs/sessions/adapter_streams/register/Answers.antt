use Rattle.std.proofs.Common.{arith}
use Rattle.adapter_table.specs.Streams.{registered_stream}
use Rattle.cip_types.specs.Indices.{map_more}
use Rattle.adapter_table.proofs.sessions.adapter_streams.register.Goals as goal

pub loop-stream-preserved : goal.loop-stream-preserved
loop-stream-preserved c = map_more (registered_stream c.args.number) c.args.streams.now c.loop-stream.streams c.loop-stream.stream-index _ _ (omega arith) (omega arith) c.loop-stream.invariant c.registered_stream.ensures
