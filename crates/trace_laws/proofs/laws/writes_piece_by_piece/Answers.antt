use Rattle.trace_laws.proofs.EntryLaws.{trace_begins, trace_grows}
use Rattle.trace_laws.proofs.EventLaws.{event_back}
use Rattle.trace_laws.proofs.laws.writes_piece_by_piece.Goals as goal

pub returns-clause-begins : goal.returns-clause-begins
returns-clause-begins c = trace_begins

pub returns-clause-grows : goal.returns-clause-grows
returns-clause-grows c = trace_grows

pub returns-clause-events : goal.returns-clause-events
returns-clause-events c = event_back
