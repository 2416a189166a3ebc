use Rattle.std.proofs.Common.{refl, codes, arith, ◌≡◌, ◌∙◌}
use Rattle.std.specs.Str.Parse.{ParsesUnsigned, ExplainsUnsignedError, HasUnsignedDigitsIfOk}
use Rattle.clap.specs.Words.{found_of, rows_of}
use Rattle.command_lines.specs.LineCommands.{number_or}
use Rattle.command_lines.proofs.LineNumbers.{number_read}
use Rattle.command_lines.proofs.line_commands.line_task.Goals as goal

pub returns : goal.returns
returns c =
    let scanners : c.unwrap_or.result ≡ number_or 255 2 (codes "scanners") (rows_of (found_of c.args.given.now)) =
    c.unwrap_or.ensures ∙ number_read _ 8 255 refl (omega arith) (λ bs r. ParsesUnsigned 8 10 bs r × ExplainsUnsignedError 10 bs r × HasUnsignedDigitsIfOk bs r) (λ u x g. g.0) (found_of c.args.given.now) (codes "scanners") 2 _ c.get_one.ensures.none c.get_one.ensures.value in
    let ticks : c.unwrap_or-2.result ≡ number_or 4294967295 100 (codes "ticks") (rows_of (found_of c.args.given.now)) =
    c.unwrap_or-2.ensures ∙ number_read _ 32 4294967295 refl (omega arith) (λ bs r. ParsesUnsigned 32 10 bs r × ExplainsUnsignedError 10 bs r × HasUnsignedDigitsIfOk bs r) (λ u x g. g.0) (found_of c.args.given.now) (codes "ticks") 100 _ c.get_one-2.ensures.none c.get_one-2.ensures.value in
    rw (scanners, ticks) refl
