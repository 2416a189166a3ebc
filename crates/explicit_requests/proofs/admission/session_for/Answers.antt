use Rattle.std.proofs.Common.{rules, ◌≡◌, true, false, Some, sym, ◌∙◌}
use Rattle.std.specs.List.{list_any}
use Rattle.scanner_table.specs.Explicit.{connects_to, has_explicit_length, is_barred}
use Rattle.scanner_table.specs.Sessions.{session_with}
use Rattle.scanner_slots.specs.Views.{table_of}
use Rattle.explicit_requests.proofs.Judged.{judged}
use Rattle.explicit_requests.proofs.admission.session_for.Goals as goal

pub returns-then-is_barred-clause-outcome : goal.returns-then-is_barred-clause-outcome
returns-then-is_barred-clause-outcome c =
    let t = table_of c.args.profile.now c.args.scanner.now in
    let connects : list_any (connects_to c.args.target) t.profile.slots ≡ true = search rules in
    let sized : has_explicit_length c.args.bytes.now ≡ true = search rules in
    let within : session_with t c.args.target ≡ Some c.in-Some.session = search rules in
    let barred : is_barred t c.args.number c.args.bytes.now ≡ true = sym (c.is_barred.ensures.value c.args.profile.now) ∙ c.if-is_barred.true in
    judged t c.args.target c.args.number c.args.bytes.now c.in-Some.session true connects sized within barred

pub returns-clause-outcome : goal.returns-clause-outcome
returns-clause-outcome c =
    let t = table_of c.args.profile.now c.args.scanner.now in
    let connects : list_any (connects_to c.args.target) t.profile.slots ≡ true = search rules in
    let sized : has_explicit_length c.args.bytes.now ≡ true = search rules in
    let within : session_with t c.args.target ≡ Some c.in-Some.session = search rules in
    let barred : is_barred t c.args.number c.args.bytes.now ≡ false = sym (c.is_barred.ensures.value c.args.profile.now) ∙ c.if-is_barred.false in
    judged t c.args.target c.args.number c.args.bytes.now c.in-Some.session false connects sized within barred
