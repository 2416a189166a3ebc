use Rattle.script_checks.proofs.Signs.{takes_value}
use Rattle.script_checks.proofs.words.read_behind_sign.Goals as goal

pub returns-in-text : goal.returns-in-text
returns-in-text c = takes_value _ _ _ _ c.in-text.is c.bytes.ensures
