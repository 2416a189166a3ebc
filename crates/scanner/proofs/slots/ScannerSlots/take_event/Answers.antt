use Rattle.scanner.proofs.slots.ScannerSlots.take_event.Goals as goal

pub returns-in-Frame-clause-hints : goal.returns-in-Frame-clause-hints
returns-in-Frame-clause-hints g c = c.frame.ensures.hints c.requires.hints

pub returns-in-StreamCut-clause-hints : goal.returns-in-StreamCut-clause-hints
returns-in-StreamCut-clause-hints g c = c.cut.ensures.hints c.requires.hints

pub returns-in-Start-clause-hints : goal.returns-in-Start-clause-hints
returns-in-Start-clause-hints g c = c.start.ensures.hints c.requires.hints

pub returns-in-Stop-clause-hints : goal.returns-in-Stop-clause-hints
returns-in-Stop-clause-hints g c = c.stop.ensures.hints c.requires.hints

pub returns-in-Explicit-clause-hints : goal.returns-in-Explicit-clause-hints
returns-in-Explicit-clause-hints g c = c.request_explicit.ensures.hints _ c.requires.hints

pub returns-in-Ids-clause-hints : goal.returns-in-Ids-clause-hints
returns-in-Ids-clause-hints g c = c.take_ids.ensures.hints _ c.requires.hints
