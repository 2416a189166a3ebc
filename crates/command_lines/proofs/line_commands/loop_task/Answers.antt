use Rattle.std.proofs.Common.{refl, codes, arith, ◌≡◌, ◌∙◌}
use Rattle.std.specs.Str.Parse.{ParsesUnsigned, ExplainsUnsignedError, HasUnsignedDigitsIfOk}
use Rattle.clap.specs.Words.{found_of, rows_of}
use Rattle.command_lines.specs.LineCommands.{number_or}
use Rattle.command_lines.proofs.LineNumbers.{number_read}
use Rattle.command_lines.proofs.line_commands.loop_task.Goals as goal

pub returns : goal.returns
returns c =
    let tcp : c.unwrap_or.result ≡ number_or 65535 44818 (codes "tcp") (rows_of (found_of c.args.given.now)) =
    c.unwrap_or.ensures ∙ number_read _ 16 65535 refl (omega arith) (λ bs r. ParsesUnsigned 16 10 bs r × ExplainsUnsignedError 10 bs r × HasUnsignedDigitsIfOk bs r) (λ u x g. g.0) (found_of c.args.given.now) (codes "tcp") 44818 _ c.get_one.ensures.none c.get_one.ensures.value in
    let udp : c.unwrap_or-2.result ≡ number_or 65535 2222 (codes "udp") (rows_of (found_of c.args.given.now)) =
    c.unwrap_or-2.ensures ∙ number_read _ 16 65535 refl (omega arith) (λ bs r. ParsesUnsigned 16 10 bs r × ExplainsUnsignedError 10 bs r × HasUnsignedDigitsIfOk bs r) (λ u x g. g.0) (found_of c.args.given.now) (codes "udp") 2222 _ c.get_one-2.ensures.none c.get_one-2.ensures.value in
    let turns : c.unwrap_or-3.result ≡ number_or 4294967295 1000 (codes "turns") (rows_of (found_of c.args.given.now)) =
    c.unwrap_or-3.ensures ∙ number_read _ 32 4294967295 refl (omega arith) (λ bs r. ParsesUnsigned 32 10 bs r × ExplainsUnsignedError 10 bs r × HasUnsignedDigitsIfOk bs r) (λ u x g. g.0) (found_of c.args.given.now) (codes "turns") 1000 _ c.get_one-3.ensures.none c.get_one-3.ensures.value in
    rw (tcp, udp, turns) refl
