-- The file of a report on scripts.
use Rattle.std.specs.Prelude.{ℕ, nat_eq, length, ◌==◌, ◌||◌, if◌then◌else◌, Bool, List, ◌++◌, codes, Result, Ok, Err}
use Rattle.std.specs.List.{starts_with}
use Rattle.trace_files.specs.declared.regular.fault.FileFault.{FileFault}
use Rattle.trace_files.specs.declared.regular.fault.FileFault.TheVariants as file
use Rattle.station_setup.specs.declared.reports.ReportFault.{ReportFault}
use Rattle.station_setup.specs.declared.reports.ReportFault.TheVariants as report

-- what a report begins with
abbrev pub report_head : List ℕ
report_head = codes "<?xml version=\"1.0\" encoding=\"UTF-8\"?>\n<testsuites>\n"

-- a report of these suites
abbrev pub ended_text : List ℕ → List ℕ
ended_text suites = report_head ++ (suites ++ codes "</testsuites>\n")

-- a report of a run that goes on
abbrev pub begun_text : List ℕ
begun_text = ended_text (codes "  <testsuite name=\"run\" tests=\"1\" failures=\"1\" skipped=\"0\">\n    <testcase classname=\"run\" name=\"ends\" time=\"0.000\">\n      <failure message=\"the run has not ended\"/>\n    </testcase>\n  </testsuite>\n")

-- WHAT A REPORT MAY REPLACE

-- a text is that of a report, or none
abbrev pub is_report : List ℕ → Bool
is_report text = (length text == 0) || starts_with nat_eq text report_head

-- whether a report may be written over a text: no file but an earlier report is replaced
abbrev pub place_of_text : List ℕ → Result Unit ReportFault
place_of_text text = if is_report text then Ok tt else Err report.Taken

-- whether it may where a file is not read
abbrev pub place_of_fault : FileFault → Result Unit ReportFault
place_of_fault file.Missing = Ok tt
place_of_fault file.Special = Ok tt
place_of_fault (file.TooLong most) = Err report.Taken
place_of_fault file.Unread = Err report.Unwritten
place_of_fault file.OutOfMemory = Err report.OutOfMemory
