use Rattle.std.proofs.Common.{◌≡◌, ◌++◌, ◌∙◌, ap}
use Rattle.std.specs.Prelude.{codes}
use Rattle.script_checks.specs.Reports.{duration_text, value_text}
use Rattle.script_checks.proofs.Appending.{three}
use Rattle.script_checks.proofs.reports.push_case_head.Goals as goal

pub returns : goal.returns
returns c =
    let suite : c.push_value.new.out.items ≡ c.args.out.now.items ++ value_text (codes "    <testcase classname=\"") c.args.suite.now = c.in_ok-push_value.ensures ∙ ap (λ t. c.args.out.now.items ++ value_text (codes "    <testcase classname=\"") t) c.as_bytes.ensures.value in
    let name : c.push_value-2.new.out.items ≡ c.push_value.new.out.items ++ value_text (codes " name=\"") c.args.name.now = c.in_ok-push_value-2.ensures in
    let time : c.push_duration.new.out.items ≡ c.push_value-2.new.out.items ++ duration_text (codes " time=\"") c.args.longest_ms = c.in_ok-push_duration.ensures in
    three c.args.out.now.items (value_text (codes "    <testcase classname=\"") c.args.suite.now) (value_text (codes " name=\"") c.args.name.now) (duration_text (codes " time=\"") c.args.longest_ms) c.push_value.new.out.items c.push_value-2.new.out.items c.push_duration.new.out.items suite name time
