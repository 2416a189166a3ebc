use Rattle.std.proofs.Common.{◌≡◌}
use Rattle.std.proofs.lemmas.Result.{err_from_is_err_and}
use Rattle.command_lines.specs.Version.{version_text}
use Rattle.eip_line.proofs.Runs.{begun, begun_within, taken_at_last}
use Rattle.eip_line.proofs.output.write_version.Goals as goal

pub returns-in_err-write_text : goal.returns-in_err-write_text
returns-in_err-write_text g c =
    let p = err_from_is_err_and c.from_residual.result c.from_residual.ensures.1 in
    rw p.1 (begun _ _ _ _ c.in_err-write_text.ensures)

pub returns-in_err-write_text-2 : goal.returns-in_err-write_text-2
returns-in_err-write_text-2 g c =
    let p = err_from_is_err_and c.from_residual-in_err-write_text-2.result c.from_residual-in_err-write_text-2.ensures.1 in
    let text : c.as_bytes.result.now ≡ version_text = c.as_bytes.ensures.value in
    rw p.1 (begun_within _ _ _ _ _ _ c.in_ok-write_text.ensures (rw text at c.in_err-write_text-2.ensures))

pub returns : goal.returns
returns g c =
    let text : c.as_bytes.result.now ≡ version_text = c.as_bytes.ensures.value in
    taken_at_last _ _ _ _ _ _ _ _ c.in_ok-write_text.ensures (rw text at c.in_ok-write_text-2.ensures) c.write_text-3.ensures
