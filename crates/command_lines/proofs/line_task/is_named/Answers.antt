use Rattle.command_lines.proofs.line_task.is_named.Goals as goal

pub returns-in-Step : goal.returns-in-Step
returns-in-Step g c = rw c.in-Step.is c.is_alone.ensures

pub returns-in-Loop : goal.returns-in-Loop
returns-in-Loop g c = rw c.in-Loop.is c.is_second.ensures

pub returns-in-Line : goal.returns-in-Line
returns-in-Line g c = rw c.in-Line.is c.is_second-in-Line.ensures
