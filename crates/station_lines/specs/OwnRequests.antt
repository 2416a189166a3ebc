-- What a station prints of a request to an object of the maker's own, which its application is to answer.
use Rattle.std.specs.Prelude.{ℕ, List, [], ◌++◌, codes}
use Rattle.cip_events.specs.declared.event.Verdict.{Verdict}
use Rattle.cip_events.specs.declared.event.Verdict.TheVariants as verdict
use Rattle.trace_outcomes.specs.WrittenOutcomes.{verdict_words}
use Rattle.station_lines.specs.declared.points.EventMoment.{EventMoment}
use Rattle.station_lines.specs.Status.{moment_text}

-- a verdict behind the number of the event and the time
abbrev pub said_line : EventMoment → Verdict → List ℕ
said_line at given = moment_text at ++ (verdict_words given ++ codes "\n")

-- a request that the application is to answer
abbrev pub own_request_line : EventMoment → Verdict → List ℕ
own_request_line at (verdict.Asked number service class instance attribute bytes) = said_line at (verdict.Asked number service class instance attribute bytes)
own_request_line at other = []
