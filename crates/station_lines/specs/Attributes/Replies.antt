-- The lines of replies to requests for attributes, and of requests that have none.
use Rattle.std.specs.Prelude.{ℕ, ◌==◌, if◌then◌else◌, List, [], ◌∷◌, ◌++◌, codes, decimal, Option, Some, None}
use Rattle.cip_events.specs.declared.event.Notice.{Notice}
use Rattle.cip_events.specs.declared.event.Notice.TheVariants as notice
use Rattle.cip_events.specs.declared.event.Unanswered.{Unanswered}
use Rattle.cip_events.specs.declared.event.Unanswered.TheVariants as unanswered
use Rattle.cip_events.specs.declared.event.Verdict.{Verdict}
use Rattle.cip_events.specs.declared.event.Verdict.TheVariants as verdict
use Rattle.trace_words.specs.Words.{bytes_word, general_word, node_word}
use Rattle.station_lines.specs.declared.attributes.requested.RequestedAttribute.{RequestedAttribute}
use Rattle.station_lines.specs.declared.attributes.requested.AttributeService.{AttributeService}
use Rattle.station_lines.specs.declared.attributes.requested.AttributeService.TheVariants.{Get, Set}
use Rattle.station_lines.specs.declared.attributes.requested.TargetAttribute.{TargetAttribute}
use Rattle.station_lines.specs.declared.attributes.replies.ReplyMoment.{ReplyMoment}
use Rattle.station_lines.specs.Attributes.Requested.{requested_at, requested_without}
use Rattle.station_lines.specs.Attributes.Names.{Known, known_attribute}
use Rattle.trace_words.specs.StatusWords.Statuses.{status_name}
use Rattle.station_lines.specs.Attributes.Values.{raw_text, value_text}

-- WHICH ATTRIBUTE

abbrev pub service_word : AttributeService → List ℕ
service_word Get = codes " get "
service_word Set = codes " set "

-- the number of the last event, and the time in milliseconds
abbrev pub moment_text : ReplyMoment → List ℕ
moment_text moment = decimal moment.number ++ (codes " at " ++ decimal moment.ms)

abbrev pub numbers_text : TargetAttribute → List ℕ
numbers_text at = codes " " ++ (decimal at.class ++ (codes " " ++ (decimal at.instance ++ (codes " " ++ (decimal at.attribute ++ codes " ")))))

-- what was requested: the call, the target, the class, the instance and the attribute
abbrev pub requested_text : ReplyMoment → RequestedAttribute → List ℕ
requested_text moment requested = moment_text moment ++ (service_word requested.service ++ (node_word requested.at.target ++ numbers_text requested.at))

-- WHAT A REPLY SAYS

-- a value behind the name of its attribute, if that is known
abbrev pub named_text : Option Known → List ℕ → List ℕ
named_text None content = raw_text content
named_text (Some known) content = known.1 ++ (codes " " ++ value_text known.0 content)

abbrev pub attribute_text : TargetAttribute → List ℕ → List ℕ
attribute_text at content = named_text (known_attribute at.class at.instance at.attribute) content

-- the attribute was read or set
abbrev pub success_text : RequestedAttribute → AttributeService → List ℕ → List ℕ
success_text requested Get content = attribute_text requested.at content
success_text requested Set content = codes "done"

-- the target refuses the request: general status, its name, bytes of the additional status
abbrev pub status_text : ℕ → List ℕ → List ℕ
status_text status additional = codes "status " ++ (general_word status ++ (codes " (" ++ (status_name status ++ (codes ") additional " ++ bytes_word additional))))

abbrev pub reply_text : RequestedAttribute → ℕ → List ℕ → List ℕ → List ℕ
reply_text requested status additional content = if status == 0 then success_text requested requested.service content else status_text status additional

-- why there is no reply
abbrev pub reason_text : Unanswered → List ℕ
reason_text unanswered.TimedOut = codes "unanswered timed-out"
reason_text unanswered.Lost = codes "unanswered lost"
reason_text (unanswered.Encap status) = codes "unanswered encap " ++ decimal status
reason_text unanswered.Unreadable = codes "unanswered unreadable"

-- LINES

abbrev pub reply_line : ReplyMoment → Option RequestedAttribute → ℕ → List ℕ → List ℕ → List ℕ
reply_line moment None status additional content = []
reply_line moment (Some requested) status additional content = requested_text moment requested ++ (reply_text requested status additional content ++ codes "\n")

abbrev pub unanswered_line : ReplyMoment → Option RequestedAttribute → Unanswered → List ℕ
unanswered_line moment None why = []
unanswered_line moment (Some requested) why = requested_text moment requested ++ (reason_text why ++ codes "\n")

-- the line of a verdict, if it is the reply to what was requested
abbrev pub verdict_line : ReplyMoment → List RequestedAttribute → Verdict → List ℕ
verdict_line moment requested (verdict.Replied number status additional content) = reply_line moment (requested_at number requested) status additional content
verdict_line moment requested other = []

-- the line of a notice, if it ends what was requested
abbrev pub notice_line : ReplyMoment → List RequestedAttribute → Notice → List ℕ
notice_line moment requested (notice.Unanswered number why) = unanswered_line moment (requested_at number requested) why
notice_line moment requested other = []

-- WHAT STILL WAITS

abbrev pub requested_behind : Verdict → List RequestedAttribute → List RequestedAttribute
requested_behind (verdict.Replied number status additional content) requested = requested_without number requested
requested_behind other requested = requested

abbrev pub requested_past : Notice → List RequestedAttribute → List RequestedAttribute
requested_past (notice.Unanswered number why) requested = requested_without number requested
requested_past other requested = requested

-- the lines of notices, one behind the other
abbrev pub notice_lines : ReplyMoment → List Notice → List RequestedAttribute → List ℕ
notice_lines moment [] requested = []
notice_lines moment (first ∷ notices) requested = notice_line moment requested first ++ notice_lines moment notices (requested_past first requested)

abbrev pub requested_through : List Notice → List RequestedAttribute → List RequestedAttribute
requested_through [] requested = requested
requested_through (first ∷ notices) requested = requested_through notices (requested_past first requested)

-- the lines of an answer, and what still waits behind it
abbrev pub answer_lines : ReplyMoment → Verdict → List Notice → List RequestedAttribute → List ℕ
answer_lines moment given notices requested = verdict_line moment requested given ++ notice_lines moment notices (requested_behind given requested)

abbrev pub requested_left : Verdict → List Notice → List RequestedAttribute → List RequestedAttribute
requested_left given notices requested = requested_through notices (requested_behind given requested)
