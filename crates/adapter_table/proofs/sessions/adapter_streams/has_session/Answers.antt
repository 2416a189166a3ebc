use Rattle.std.proofs.Common.{rules}
use Rattle.adapter_table.proofs.sessions.adapter_streams.has_session.Goals as goal

pub returns-then-stream : goal.returns-then-stream
returns-then-stream c = search rules
