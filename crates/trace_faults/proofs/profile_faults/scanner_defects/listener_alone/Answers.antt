use Rattle.std.proofs.Common.{rules}
use Rattle.trace_faults.proofs.Named.{is_failing}
use Rattle.trace_faults.proofs.profile_faults.scanner_defects.listener_alone.Goals as goal

pub returns-then-not-listens_to_group : goal.returns-then-not-listens_to_group
returns-then-not-listens_to_group c =
    is_failing _ c.loop-index.index c.index-slots-index.result c.loop-index-test.true c.index-slots-index.is (search rules)
