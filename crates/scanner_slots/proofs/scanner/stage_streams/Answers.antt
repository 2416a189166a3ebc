use Rattle.std.proofs.Common.{arith}
use Rattle.scanner_table.specs.Sessions.{staged_stream}
use Rattle.cip_types.specs.Indices.{map_more}
use Rattle.scanner_slots.proofs.scanner.stage_streams.Goals as goal

pub loop-stream-preserved : goal.loop-stream-preserved
loop-stream-preserved c = map_more (staged_stream c.args.number c.args.stage) c.args.streams.now c.loop-stream.streams c.loop-stream.stream-index _ _ (omega arith) (omega arith) c.loop-stream.invariant c.staged_stream.ensures
