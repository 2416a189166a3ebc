use Rattle.std.proofs.Common.{rules}
use Rattle.adapter_table.proofs.sessions.adapter_streams.registered_stream.Goals as goal

pub returns : goal.returns
returns c = search rules
