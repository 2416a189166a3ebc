use Rattle.std.proofs.Common.{rules, refl, ap, sym, subst, ◌≡◌, ◌∙◌, Some, None}
use Rattle.clap.specs.Words.{found_of, rows_of, subcommand_rows_of}
use Rattle.command_lines.specs.LineCommands.{met_task}
use Rattle.command_lines.specs.declared.line_task.Task.TheVariants as task
use Rattle.command_lines.proofs.Lines.{mapped, met_is, named_line, named_loop, named_none, named_step}
use Rattle.command_lines.proofs.line_commands.task_met.Goals as goal

pub returns-in-step-clause-task : goal.returns-in-step-clause-task
returns-in-step-clause-task c =
    let met : subcommand_rows_of c.args.matches.now ≡ Some (c.in-Some.name.now, rows_of (found_of c.in-Some.given.now)) =
    met_is _ _ c.subcommand.result _ _ c.in-Some.is (c.subcommand.ensures.name ∙ sym (mapped _ _ _)) c.subcommand.ensures.rows in
    subst (λ m. met_task m ≡ Some task.Step) (sym met) (named_step _ _ (search rules))

pub returns-in-loop-clause-task : goal.returns-in-loop-clause-task
returns-in-loop-clause-task c =
    let met : subcommand_rows_of c.args.matches.now ≡ Some (c.in-Some.name.now, rows_of (found_of c.in-Some.given.now)) =
    met_is _ _ c.subcommand.result _ _ c.in-Some.is (c.subcommand.ensures.name ∙ sym (mapped _ _ _)) c.subcommand.ensures.rows in
    subst (λ m. met_task m ≡ Some (task.Loop c.loop_task.result)) (sym met) (named_loop _ _ (search rules) ∙ ap (λ t. Some (task.Loop t)) (sym c.loop_task.ensures))

pub returns-in-line-clause-task : goal.returns-in-line-clause-task
returns-in-line-clause-task c =
    let met : subcommand_rows_of c.args.matches.now ≡ Some (c.in-Some.name.now, rows_of (found_of c.in-Some.given.now)) =
    met_is _ _ c.subcommand.result _ _ c.in-Some.is (c.subcommand.ensures.name ∙ sym (mapped _ _ _)) c.subcommand.ensures.rows in
    subst (λ m. met_task m ≡ Some (task.Line c.line_task.result)) (sym met) (named_line _ _ (search rules) ∙ ap (λ t. Some (task.Line t)) (sym c.line_task.ensures))

pub returns-in_default-name-clause-usage : goal.returns-in_default-name-clause-usage
returns-in_default-name-clause-usage c =
    let met : subcommand_rows_of c.args.matches.now ≡ Some (c.in-Some.name.now, rows_of (found_of c.in-Some.given.now)) =
    met_is _ _ c.subcommand.result _ _ c.in-Some.is (c.subcommand.ensures.name ∙ sym (mapped _ _ _)) c.subcommand.ensures.rows in
    (refl, subst (λ m. met_task m ≡ None) (sym met) (named_none _ _ c.in_default-name.not-step c.in_default-name.not-loop c.in_default-name.not-line))
