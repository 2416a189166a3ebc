use Rattle.trace_outcomes.proofs.written_outcomes.push_unanswered.Goals as goal

pub returns-in_ok-write-in-Encap : goal.returns-in_ok-write-in-Encap
returns-in_ok-write-in-Encap c = rw c.in-Encap.is c.in_ok-write-in-Encap.ensures.bytes

pub returns-in_ok-write-in-Unreadable : goal.returns-in_ok-write-in-Unreadable
returns-in_ok-write-in-Unreadable c = rw c.in-Unreadable.is c.in_ok-write-in-Unreadable.ensures.bytes
