-- Judgements, verdicts, conditions and reports, worked by hand.
use Rattle.std.proofs.Common.{◌≡◌, [], true, false, Some, None, refl}
use Rattle.std.specs.Prelude.{codes}
use Rattle.std.specs.Fmt.{digits}
use Rattle.std.specs.Net.Reader.{read_ipv4, read_octet, read_number}
use Rattle.trace_words.specs.Words.{bytes_of, node_of, number_of}
use Rattle.script_checks.specs.declared.condition.Condition.TheVariants as condition
use Rattle.script_checks.specs.declared.condition.OwnerState.TheVariants as owner
use Rattle.script_checks.specs.declared.condition.ExpectedState.TheVariants as state
use Rattle.script_checks.specs.declared.judging.ExpectationState.TheVariants.{Waiting, Met, Failed}
use Rattle.script_checks.specs.declared.verdicts.Goal.TheVariants as goal
use Rattle.script_checks.specs.declared.verdicts.LineVerdict.TheVariants as verdict
use Rattle.script_checks.specs.Judging.{deadline, judgement}
use Rattle.script_checks.specs.Reading.{condition_of}
use Rattle.script_checks.specs.Reports.{case_text, duration_text, escaped, seconds_text, suite_head, value_text}
use Rattle.script_checks.specs.Texts.{condition_text}
use Rattle.script_checks.specs.Verdicts.{line_verdict}

-- JUDGEMENTS: an expectation of 500 ms that began at 2000

its_deadline : deadline 2000 500 ≡ 2500
its_deadline = refl

met_at_once : judgement true 2000 2500 ≡ Met
met_at_once = refl

met_at_the_last_moment : judgement true 2500 2500 ≡ Met
met_at_the_last_moment = refl

waits_up_to_it : judgement false 2500 2500 ≡ Waiting
waits_up_to_it = refl

fails_behind_it : judgement false 2501 2500 ≡ Failed
fails_behind_it = refl

too_late : judgement true 2501 2500 ≡ Failed
too_late = refl

-- VERDICTS

a_call_judges_nothing : line_verdict goal.Call (record { met = 3; failed = false }) false ≡ None
a_call_judges_nothing = refl

one_failure_is_enough : line_verdict goal.Expect (record { met = 9; failed = true }) true ≡ Some verdict.Failed
one_failure_is_enough = refl

not_reached_is_not_passed : line_verdict goal.Expect (record { met = 0; failed = false }) false ≡ Some verdict.NotReached
not_reached_is_not_passed = refl

another_line_decided : line_verdict goal.Expect (record { met = 0; failed = false }) true ≡ Some verdict.Skipped
another_line_decided = refl

a_fail_that_is_not_taken : line_verdict goal.Fail (record { met = 0; failed = false }) false ≡ Some verdict.Passed
a_fail_that_is_not_taken = refl

a_pass_that_is_not_taken : line_verdict goal.Pass (record { met = 0; failed = false }) false ≡ Some verdict.NotReached
a_pass_that_is_not_taken = refl

-- CONDITIONS

an_output : condition_of (codes "output 150 = -") ≡ Some (condition.Output 150 [])
unfolding condition_of number_of bytes_of
an_output = refl

no_bytes : condition_of (codes "image 0 = -") ≡ Some (condition.Image 0 [])
unfolding condition_of number_of bytes_of
no_bytes = refl

a_slot : condition_of (codes "slot 3 established") ≡ Some (condition.Slot 3 state.Established)
unfolding condition_of number_of
a_slot = refl

a_lost_owner : condition_of (codes "owner 150 lost") ≡ Some (condition.Owner 150 owner.Lost)
unfolding condition_of number_of
a_lost_owner = refl

an_owner_by_its_address : condition_of (codes "owner 150 of 10.0.0.2") ≡ Some (condition.Owner 150 (owner.Of (record { 0 = 167772162 })))
unfolding condition_of number_of node_of read_ipv4 read_octet read_number
an_owner_by_its_address = refl

no_such_state : condition_of (codes "slot 3 open") ≡ None
unfolding condition_of number_of
no_such_state = refl

no_sign : condition_of (codes "output 150 01") ≡ None
unfolding condition_of number_of bytes_of
no_sign = refl

one_word_too_many : condition_of (codes "owner 150 lost now") ≡ None
unfolding condition_of number_of
one_word_too_many = refl

as_it_is_read : condition_text (condition.Output 150 []) ≡ codes "output 150 = -"
unfolding digits
as_it_is_read = refl

-- REPORTS

three_places : seconds_text 3045 ≡ codes "3.045"
unfolding digits
three_places = refl

a_text_of_xml : escaped (codes "a<b & \"c\">") ≡ codes "a&lt;b &amp; &quot;c&quot;&gt;"
unfolding escaped
a_text_of_xml = refl

a_suite : suite_head (codes "island") (record { cases = 2; failures = 1; skipped = 0 }) ≡ codes "  <testsuite name=\"island\" tests=\"2\" failures=\"1\" skipped=\"0\">\n"
unfolding suite_head escaped digits
a_suite = refl

a_case : case_text (codes "island") (codes "1: pass") 20 verdict.Passed [] ≡ codes "    <testcase classname=\"island\" name=\"1: pass\" time=\"0.020\"/>\n"
unfolding case_text duration_text value_text escaped digits
a_case = refl

a_case_that_failed : case_text (codes "s") (codes "1: fail x") 0 verdict.Failed (codes "x") ≡ codes "    <testcase classname=\"s\" name=\"1: fail x\" time=\"0.000\">\n      <failure message=\"x\"/>\n    </testcase>\n"
unfolding case_text duration_text value_text escaped digits
a_case_that_failed = refl
