use Rattle.std.proofs.Common.{refl, sym, ◌≡◌, ◌∙◌}
use Rattle.std.proofs.lemmas.Result.{IfOk-weaker}
use Rattle.clap.specs.Words.{app_of}
use Rattle.command_lines.specs.LineCommands.{eip_line_app}
use Rattle.command_lines.proofs.Lines.{err_is, if_err, misused_by, parsed_by}
use Rattle.command_lines.proofs.line_commands.parse.Goals as goal

pub returns-in-Ok-clause-task : goal.returns-in-Ok-clause-task
returns-in-Ok-clause-task g c =
    let app_is : app_of c.in_ok-command.command ≡ eip_line_app = c.in_ok-command.ensures in
    IfOk-weaker c.task_met.result _ _ (λ t h. parsed_by _ _ c.in-Ok.matches app_is c.in-Ok.ensures.kinds c.in-Ok.ensures.matches ∙ h) c.task_met.ensures.task

pub returns-in-Ok-clause-usage : goal.returns-in-Ok-clause-usage
returns-in-Ok-clause-usage g c err =
    let app_is : app_of c.in_ok-command.command ≡ eip_line_app = c.in_ok-command.ensures in
    parsed_by _ _ c.in-Ok.matches app_is c.in-Ok.ensures.kinds c.in-Ok.ensures.matches ∙ (if_err c.task_met.result _ _ c.task_met.ensures.usage err).1

pub returns-in-Err-clause-usage : goal.returns-in-Err-clause-usage
returns-in-Err-clause-usage g c err =
    let app_is : app_of c.in_ok-command.command ≡ eip_line_app = c.in_ok-command.ensures in
    misused_by _ _ c.in-Err.error app_is c.in-Err.ensures.kinds (sym c.misuse_of.ensures ∙ err_is _ _ _ refl err)
