-- What came of scripts, in the form of JUnit: a suite for each device, a case for each line that judges.
use Rattle.std.specs.Prelude.{ℕ, ◌+◌, ◌-◌, ◌^◌, ◌/◌, ◌%◌, ◌==◌, min, if◌then◌else◌, List, [], ◌∷◌, ◌++◌, codes, decimal, flat_map}
use Rattle.script_checks.specs.declared.reports.ReportCounts.{ReportCounts}
use Rattle.script_checks.specs.declared.verdicts.LineVerdict.{LineVerdict}
use Rattle.script_checks.specs.declared.verdicts.LineVerdict.TheVariants.{Passed, Skipped}

-- COUNTS

abbrev pub one_more : ℕ → ℕ
one_more n = min (n + 1) (2 ^ 32 - 1)

-- with one case more
abbrev pub counted : LineVerdict → ReportCounts → ReportCounts
counted Passed counts = record counts { cases = one_more counts.cases }
counted Skipped counts = record counts { cases = one_more counts.cases; skipped = one_more counts.skipped }
counted other counts = record counts { cases = one_more counts.cases; failures = one_more counts.failures }

-- TEXTS

-- a byte of an attribute's value (XML 1.0, section 2.4)
abbrev pub entity_of : ℕ → List ℕ
entity_of byte =
    if byte == 38 then codes "&amp;" else
    (if byte == 60 then codes "&lt;" else
    (if byte == 62 then codes "&gt;" else
    (if byte == 34 then codes "&quot;" else byte ∷ [])))

-- a text as the value of an attribute
unfoldable pub escaped : List ℕ → List ℕ
escaped text = flat_map entity_of text

abbrev pub attribute_text : List ℕ → ℕ → List ℕ
attribute_text attribute count = attribute ++ (decimal count ++ codes "\"")

abbrev pub counts_text : ReportCounts → List ℕ
counts_text counts = attribute_text (codes " tests=\"") counts.cases ++ (attribute_text (codes " failures=\"") counts.failures ++ (attribute_text (codes " skipped=\"") counts.skipped ++ codes ">\n"))

-- the beginning of a suite
unfoldable pub suite_head : List ℕ → ReportCounts → List ℕ
suite_head suite counts = codes "  <testsuite name=\"" ++ (escaped suite ++ (codes "\"" ++ counts_text counts))

-- seconds with three places behind the point
abbrev pub seconds_text : ℕ → List ℕ
seconds_text ms = decimal (ms / 1000) ++ (codes "." ++ (decimal (ms / 100 % 10) ++ (decimal (ms / 10 % 10) ++ decimal (ms % 10))))

-- an attribute whose value is a text
unfoldable pub value_text : (attribute text : List ℕ) → List ℕ
value_text attribute text = attribute ++ (escaped text ++ codes "\"")

-- an attribute whose value is a time
unfoldable pub duration_text : (attribute : List ℕ) → ℕ → List ℕ
duration_text attribute ms = attribute ++ (seconds_text ms ++ codes "\"")

abbrev pub case_head : (suite name : List ℕ) → ℕ → List ℕ
case_head suite name ms = value_text (codes "    <testcase classname=\"") suite ++ (value_text (codes " name=\"") name ++ duration_text (codes " time=\"") ms)

abbrev pub message_text : List ℕ → List ℕ
message_text message = value_text (codes ">\n      <failure message=\"") message ++ codes "/>\n    </testcase>\n"

abbrev pub case_rest : LineVerdict → (message : List ℕ) → List ℕ
case_rest Passed message = codes "/>\n"
case_rest Skipped message = codes ">\n      <skipped/>\n    </testcase>\n"
case_rest other message = message_text message

-- a case
unfoldable pub case_text : (suite name : List ℕ) → ℕ → LineVerdict → (message : List ℕ) → List ℕ
case_text suite name ms verdict message = case_head suite name ms ++ case_rest verdict message
