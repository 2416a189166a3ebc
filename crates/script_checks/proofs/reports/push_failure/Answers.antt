use Rattle.std.proofs.Common.{◌≡◌, ◌++◌}
use Rattle.std.specs.Prelude.{codes}
use Rattle.script_checks.specs.Reports.{value_text}
use Rattle.script_checks.proofs.Appending.{two}
use Rattle.script_checks.proofs.reports.push_failure.Goals as goal

pub returns : goal.returns
returns c =
    let front : c.push_value.new.out.items ≡ c.args.out.now.items ++ value_text (codes ">\n      <failure message=\"") c.args.message.now = c.in_ok-push_value.ensures in
    let rest : c.put_bytes.new.out.items ≡ c.push_value.new.out.items ++ codes "/>\n    </testcase>\n" = c.in_ok-put_bytes.ensures.ok in
    two c.args.out.now.items (value_text (codes ">\n      <failure message=\"") c.args.message.now) (codes "/>\n    </testcase>\n") c.push_value.new.out.items c.put_bytes.new.out.items front rest
