use Rattle.std.proofs.Common.{◌≡◌, ◌++◌, filter, map, drop}
use Rattle.scanner_table.specs.Explicit.{unanswered_notice}
use Rattle.explicit_requests.specs.Endings.{ends, why_of}
use Rattle.explicit_requests.proofs.endings.report_ended.Given as goal

abbrev pub invariant-loop-explicit : goal.invariant-loop-explicit
invariant-loop-explicit l =
    l.notices.items ++ map (unanswered_notice (why_of l.end)) (filter (ends l.end) (drop l.explicit-index l.pending))
    ≡ l.initial.notices.items ++ map (unanswered_notice (why_of l.end)) (filter (ends l.end) l.pending)
