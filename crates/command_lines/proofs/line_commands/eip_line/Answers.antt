use Rattle.std.proofs.Common.{ap, ap₂, true, ◌≡◌, ◌∙◌}
use Rattle.std.proofs.lemmas.Result.{IfOk-weaker}
use Rattle.clap.specs.Simple.{App, app_of_fields, with_subcommand}
use Rattle.clap.specs.Words.{app_of}
use Rattle.command_lines.proofs.LineNumbers.{no_globals}
use Rattle.command_lines.specs.LineCommands.{line_app, loop_app, program_app}
use Rattle.command_lines.proofs.line_commands.eip_line.Goals as goal

pub returns : goal.returns
returns c =
    let top : app_of c.subcommand_required.result ≡ program_app = ap app_of_fields c.subcommand_required.ensures ∙ ap (λ (a : App). record a { top = record a.top { subcommand_required = true } }) c.new.ensures.app in
    let one = c.in_ok-subcommand.ensures.shape c.new-2.ensures.local ∙ ap₂ with_subcommand top (ap (λ (a : App). a.top) c.new-2.ensures.app) in
    let loop_is : app_of c.in_ok-loop_command.field-0 ≡ loop_app = c.in_ok-loop_command.ensures in
    let line_is : app_of c.in_ok-line_command.field-0 ≡ line_app = c.in_ok-line_command.ensures in
    let two = c.in_ok-subcommand-2.ensures.shape (no_globals _ _ _ _ (ap (λ (a : App). a.top.is_plain) loop_is)) ∙ ap₂ with_subcommand one (ap (λ (a : App). a.top) loop_is) in
    IfOk-weaker c.subcommand-3.result _ _ (λ command h. h.shape (no_globals _ _ _ _ (ap (λ (a : App). a.top.is_plain) line_is)) ∙ ap₂ with_subcommand two (ap (λ (a : App). a.top) line_is)) c.subcommand-3.ensures
