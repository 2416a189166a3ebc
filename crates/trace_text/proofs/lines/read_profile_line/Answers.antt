use Rattle.trace_text.proofs.lines.read_profile_line.Goals as goal

pub returns-in-tidy : goal.returns-in-tidy
returns-in-tidy c = rw c.in-tidy.is c.last.ensures
