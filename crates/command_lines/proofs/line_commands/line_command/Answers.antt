use Rattle.std.proofs.Common.{rules, ap₂, codes, ◌≡◌, ◌∙◌}
use Rattle.std.proofs.lemmas.Result.{IfOk-weaker}
use Rattle.clap.specs.Words.{rule_of, with_rule}
use Rattle.command_lines.specs.LineCommands.{number_rule}
use Rattle.command_lines.proofs.line_commands.line_command.Goals as goal

pub returns : goal.returns
returns c =
    let scanners_is : rule_of c.value_parser-scanners.result ≡ number_rule (codes "scanners") 8 = search rules in
    let ticks_is : rule_of c.value_parser-ticks.result ≡ number_rule (codes "ticks") 10000 = search rules in
    let first = c.in_ok-arg.ensures.shape (search rules) ∙ ap₂ with_rule c.new-5.ensures.app scanners_is in
    IfOk-weaker c.arg-2.result _ _ (λ command h. h.shape (search rules) ∙ ap₂ with_rule first ticks_is) c.arg-2.ensures
