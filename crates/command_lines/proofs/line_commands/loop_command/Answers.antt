use Rattle.std.proofs.Common.{rules, ap₂, codes, ◌≡◌, ◌∙◌}
use Rattle.std.proofs.lemmas.Result.{IfOk-weaker}
use Rattle.clap.specs.Words.{rule_of, with_rule}
use Rattle.command_lines.specs.LineCommands.{number_rule}
use Rattle.command_lines.proofs.line_commands.loop_command.Goals as goal

pub returns : goal.returns
returns c =
    let turns_is : rule_of c.value_parser-turns.result ≡ number_rule (codes "turns") 1000000 = search rules in
    let first = c.in_ok-arg.ensures.shape c.port.ensures.local ∙ ap₂ with_rule c.new-3.ensures.app c.port.ensures.rule in
    let second = c.in_ok-arg-2.ensures.shape c.port-2.ensures.local ∙ ap₂ with_rule first c.port-2.ensures.rule in
    IfOk-weaker c.arg-3.result _ _ (λ command h. h.shape (search rules) ∙ ap₂ with_rule second turns_is) c.arg-3.ensures
