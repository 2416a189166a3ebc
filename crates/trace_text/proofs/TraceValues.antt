-- What was read so far, as the lines that were read: each line that is allowed adds itself, each beginning can be
-- completed, and the lines of a trace lead to that trace.
use Rattle.std.proofs.Common.{◌≡◌, ℕ, ◌+◌, Bool, true, false, cond, is_none, not, ◌&&◌, eqb, List, [], ◌∷◌, ◌++◌, length, map, Option, Some, None, Ok, Err, refl, sym, ap, ◌∙◌, arith, append_assoc}
use Rattle.std.specs.Prelude.{option_to_list, option_map, option_and_then, IfSome}
use Rattle.std.proofs.lemmas.Bool.Decides.{nat_tests}
use Rattle.std.proofs.lemmas.List.{append-nil, length-append, map-append}
use Rattle.cip_types.specs.declared.ids.IdBlock.{IdBlock}
use Rattle.adapter_table.specs.declared.profile.Description.{Description}
use Rattle.adapter_table.specs.declared.maker_limits.MakerLimits.{MakerLimits}
use Rattle.adapter_table.specs.Profiles.{no_limits}
use Rattle.adapter_table.specs.declared.profile.Profile.{Profile}
use Rattle.adapter_table.specs.declared.profile.InputPoint.{InputPoint}
use Rattle.adapter_table.specs.declared.profile.OutputPoint.{OutputPoint}
use Rattle.scanner_table.specs.declared.profile.ScannerProfile.{ScannerProfile}
use Rattle.scanner_table.specs.declared.profile.SlotConfig.{SlotConfig}
use Rattle.cip_events.specs.declared.event.Answer.{Answer}
use Rattle.cip_events.specs.declared.event.Event.{Event}
use Rattle.cip_events.specs.declared.event.Event.TheVariants as happening
use Rattle.cip_events.specs.declared.event.Frame.{Frame}
use Rattle.cip_events.specs.declared.event.Notice.{Notice}
use Rattle.cip_events.specs.declared.event.OutgoingDatagram.{OutgoingDatagram}
use Rattle.cip_events.specs.declared.event.Verdict.{Verdict}
use Rattle.cip_events.specs.Outcomes.{Outcome}
use Rattle.cip_tables.specs.declared.table.Config.{Config}
use Rattle.cip_tables.specs.declared.table.Config.TheVariants as config
use Rattle.trace_lines.specs.declared.forms.AdapterLine.{AdapterLine}
use Rattle.trace_lines.specs.declared.forms.HeartbeatLine.{HeartbeatLine}
use Rattle.trace_lines.specs.declared.forms.ScannerLine.{ScannerLine}
use Rattle.trace_lines.specs.declared.forms.ScannerTerms.{ScannerTerms}
use Rattle.trace_lines.specs.declared.forms.TermLine.{TermLine}
use Rattle.trace_lines.specs.declared.forms.TermLine.TheVariants as term
use Rattle.trace_lines.specs.declared.limit_lines.LimitLine.{LimitLine}
use Rattle.trace_lines.specs.declared.limit_lines.LimitLine.TheVariants as limit
use Rattle.trace_lines.specs.LimitLemmas.{Steps, limit_added, limit_steps}
use Rattle.trace_lines.specs.Limits.{with_limit, limit_lines}
use Rattle.trace_lines.specs.Profiles.{profile_with}
use Rattle.trace_lines.specs.Slots.{terms_of, scanner_with}
use Rattle.trace_outcomes.specs.declared.part.Part.{Part}
use Rattle.trace_outcomes.specs.declared.part.Part.TheVariants as part
use Rattle.trace_text.specs.Recorded.{recorded_with}
use Rattle.trace_text.specs.declared.builder.ProfileFront.{ProfileFront}
use Rattle.trace_text.specs.declared.builder.TraceBuilder.{TraceBuilder}
use Rattle.trace_text.specs.declared.builder.TraceBuilder.TheVariants.{Empty, Points, Configured, Stated, Objects, Counted, Slots, Events}
use Rattle.trace_text.specs.declared.forms.TraceLine.{TraceLine}
use Rattle.trace_text.specs.declared.forms.TraceLine.TheVariants as line
use Rattle.trace_text.specs.declared.trace.Trace.{Trace}
use Rattle.trace_text.specs.Reading.{Entry, front_of, with_stated, no_terms, none_stated, given_block, early_block, with_ids, with_block, with_event, with_newer, with_line, with_term, builder_with, parsed, judged_by}
use Rattle.trace_text.specs.Texts.{adapter_line_of, heartbeat_line_of, scanner_line_of, term_lines, ids_line, ids_lines, may_begin, may_follow, config_values, outcome_parts, recorded_parts, entry_values, entries_values, trace_values}

-- LISTS AND OPTIONS

no_elements : {A : Type 0} (xs : List A) → length xs ≡ 0 → xs ≡ []
no_elements [] none = refl
no_elements (x ∷ xs) none = absurd (omega arith)

pub some_is : {A : Type 0} (x y : A) → Some x ≡ Some y → x ≡ y
some_is x y is = cc

-- a test that was passed, and the value behind it
passed : {A : Type 0} (test : Bool) (value : Option A) (got : A) → cond test value None ≡ Some got → (test ≡ true) × (value ≡ Some got)
passed true value got is = (refl, is)
passed false value got is = absurd (cc)

pub found_in : {A B : Type 0} (next : A → Option B) (value : Option A) (got : B) → option_and_then next value ≡ Some got → (inner : A) × ((value ≡ Some inner) × (next inner ≡ Some got))
found_in next None got is = absurd (cc)
found_in next (Some inner) got is = (inner, (refl, is))

mapped_from : {A B : Type 0} (f : A → B) (value : Option A) (got : B) → option_map f value ≡ Some got → (inner : A) × ((value ≡ Some inner) × (f inner ≡ got))
mapped_from f None got is = absurd (cc)
mapped_from f (Some inner) got is = (inner, (refl, some_is (f inner) got is))

is_zero : (n : ℕ) → eqb n 0 ≡ true → n ≡ 0
is_zero n is = grind (arith, nat_tests, is)

same_number : (a b : ℕ) → a ≡ b → eqb a b ≡ true
same_number a b is = grind (arith, nat_tests, is)

is_same : (a b : ℕ) → eqb a b ≡ true → a ≡ b
is_same a b is = grind (arith, nat_tests, is)

-- WHAT WAS READ SO FAR

abbrev pub so_far : TraceBuilder → List TraceLine
so_far Empty = []
so_far (Points adapter outputs inputs) = line.Adapter adapter ∷ (map line.Output outputs ++ map line.Input inputs)
so_far (Configured adapter outputs inputs point) = line.Adapter adapter ∷ (map line.Output outputs ++ (map line.Input inputs ++ line.Config point ∷ []))
so_far (Stated front) = line.Adapter front.adapter ∷ (map line.Output front.outputs ++ (map line.Input front.inputs ++ (map line.Config (option_to_list front.config) ++ (map line.Description (option_to_list front.description) ++ map line.Limit (limit_lines front.limits)))))
so_far (Objects front objects) = line.Adapter front.adapter ∷ (map line.Output front.outputs ++ (map line.Input front.inputs ++ (map line.Config (option_to_list front.config) ++ (map line.Description (option_to_list front.description) ++ (map line.Limit (limit_lines front.limits) ++ map line.Object objects)))))
so_far (Counted front objects block) = line.Adapter front.adapter ∷ (map line.Output front.outputs ++ (map line.Input front.inputs ++ (map line.Config (option_to_list front.config) ++ (map line.Description (option_to_list front.description) ++ (map line.Limit (limit_lines front.limits) ++ (map line.Object objects ++ ids_line block ∷ []))))))
so_far (Slots scanner newer terms slots) = line.Scanner scanner ∷ (map line.Limit (option_to_list (option_map limit.Newer newer)) ++ (map line.Term (term_lines terms) ++ (ids_lines terms.ids ++ map line.Slot slots)))
so_far (Events made_of entries last) = config_values made_of ++ entries_values 1 (entries ++ option_to_list last)

so_far_is : (one other : TraceBuilder) → Some one ≡ Some other → so_far other ≡ so_far one
so_far_is one other is = ap so_far (sym (some_is one other is))

entries_last : (number : ℕ) (entries : List Entry) (last : Entry) → entries_values number (entries ++ last ∷ []) ≡ entries_values number entries ++ entry_values (number + length entries) last
entries_last number [] last =
    let here : number ≡ number + 0 = omega arith in
    append-nil (entry_values number last) ∙ ap (λ n. entry_values n last) here
entries_last number (entry ∷ entries) last =
    let place : number + 1 + length entries ≡ number + length (entry ∷ entries) = omega arith in
    ap (λ rest. entry_values number entry ++ rest) (entries_last (number + 1) entries last ∙ ap (λ n. entries_values (number + 1) entries ++ entry_values n last) place)
    ∙ sym (append_assoc (entry_values number entry) (entries_values (number + 1) entries) _)

event_added : (made_of : Config) (entries : List Entry) (event : Event) → config_values made_of ++ entries_values 1 (entries ++ (event, None) ∷ []) ≡ (config_values made_of ++ entries_values 1 entries) ++ line.Event event ∷ []
event_added made_of entries event =
    ap (λ t. config_values made_of ++ t) (entries_last 1 entries (event, None))
    ∙ sym (append_assoc (config_values made_of) (entries_values 1 entries) (line.Event event ∷ []))

output_added : (adapter : AdapterLine) (outputs : List OutputPoint) (inputs : List InputPoint) (output : OutputPoint) (next : TraceBuilder) → builder_with (Points adapter outputs inputs) (line.Output output) ≡ Some next → so_far next ≡ so_far (Points adapter outputs inputs) ++ line.Output output ∷ []
output_added adapter outputs inputs output next is =
    let pair = passed (eqb (length inputs) 0) (Some (Points adapter (outputs ++ output ∷ []) inputs)) next is in
    let none : inputs ≡ [] = no_elements inputs (is_zero (length inputs) pair.0) in
    so_far_is _ _ pair.1
    ∙ ap (λ points. line.Adapter adapter ∷ (map line.Output (outputs ++ output ∷ []) ++ map line.Input points)) none
    ∙ ap (λ t. line.Adapter adapter ∷ t) (append-nil (map line.Output (outputs ++ output ∷ [])) ∙ map-append line.Output outputs (output ∷ []))
    ∙ ap (λ t. line.Adapter adapter ∷ (t ++ line.Output output ∷ [])) (sym (append-nil (map line.Output outputs)))
    ∙ ap (λ points. line.Adapter adapter ∷ ((map line.Output outputs ++ map line.Input points) ++ line.Output output ∷ [])) (sym none)

-- the parts of an outcome, in their order
abbrev parts_with : List Frame → List OutgoingDatagram → List Notice → List Part
parts_with frames datagrams notices = map part.Frame frames ++ (map part.Datagram datagrams ++ map part.Notice notices)

frame_last : (frames : List Frame) (datagrams : List OutgoingDatagram) (notices : List Notice) (frame : Frame) → datagrams ≡ [] → notices ≡ [] → parts_with (frames ++ frame ∷ []) datagrams notices ≡ parts_with frames datagrams notices ++ part.Frame frame ∷ []
frame_last frames datagrams notices frame no_datagrams no_notices =
    ap (λ ds. parts_with (frames ++ frame ∷ []) ds notices) no_datagrams
    ∙ ap (λ ns. parts_with (frames ++ frame ∷ []) [] ns) no_notices
    ∙ append-nil (map part.Frame (frames ++ frame ∷ []))
    ∙ map-append part.Frame frames (frame ∷ [])
    ∙ ap (λ t. t ++ part.Frame frame ∷ []) (sym (append-nil (map part.Frame frames)))
    ∙ ap (λ ns. parts_with frames [] ns ++ part.Frame frame ∷ []) (sym no_notices)
    ∙ ap (λ ds. parts_with frames ds notices ++ part.Frame frame ∷ []) (sym no_datagrams)

datagram_last : (frames : List Frame) (datagrams : List OutgoingDatagram) (notices : List Notice) (outgoing : OutgoingDatagram) → notices ≡ [] → parts_with frames (datagrams ++ outgoing ∷ []) notices ≡ parts_with frames datagrams notices ++ part.Datagram outgoing ∷ []
datagram_last frames datagrams notices outgoing no_notices =
    ap (λ ns. parts_with frames (datagrams ++ outgoing ∷ []) ns) no_notices
    ∙ ap (λ t. map part.Frame frames ++ t) (append-nil (map part.Datagram (datagrams ++ outgoing ∷ [])) ∙ map-append part.Datagram datagrams (outgoing ∷ []))
    ∙ sym (append_assoc (map part.Frame frames) (map part.Datagram datagrams) (part.Datagram outgoing ∷ []))
    ∙ ap (λ t. (map part.Frame frames ++ t) ++ part.Datagram outgoing ∷ []) (sym (append-nil (map part.Datagram datagrams)))
    ∙ ap (λ ns. parts_with frames datagrams ns ++ part.Datagram outgoing ∷ []) (sym no_notices)

notice_last : (frames : List Frame) (datagrams : List OutgoingDatagram) (notices : List Notice) (notice : Notice) → parts_with frames datagrams (notices ++ notice ∷ []) ≡ parts_with frames datagrams notices ++ part.Notice notice ∷ []
notice_last frames datagrams notices notice =
    ap (λ t. map part.Frame frames ++ (map part.Datagram datagrams ++ t)) (map-append part.Notice notices (notice ∷ []))
    ∙ ap (λ t. map part.Frame frames ++ t) (sym (append_assoc (map part.Datagram datagrams) (map part.Notice notices) (part.Notice notice ∷ [])))
    ∙ sym (append_assoc (map part.Frame frames) (map part.Datagram datagrams ++ map part.Notice notices) (part.Notice notice ∷ []))

none_of_both : (a b : ℕ) → a + b ≡ 0 → (a ≡ 0) × (b ≡ 0)
none_of_both a b none = (omega arith, omega arith)

recorded_last : (recorded : Option Outcome) (more : Part) (outcome : Outcome) → recorded_with recorded more ≡ Some outcome → outcome_parts outcome ≡ recorded_parts recorded ++ more ∷ []
recorded_last None (part.Verdict verdict) outcome is = ap outcome_parts (sym (some_is _ outcome is))
recorded_last None (part.Fault why) outcome is = ap outcome_parts (sym (some_is _ outcome is))
recorded_last (Some (Ok answer)) (part.Frame frame) outcome is =
    let (grown, (from, made)) = mapped_from Ok _ outcome is in
    let pair = passed (eqb (length answer.datagrams + length answer.notices) 0) (Some (record answer { frames = answer.frames ++ frame ∷ [] })) grown from in
    let both = none_of_both (length answer.datagrams) (length answer.notices) (is_zero _ pair.0) in
    ap outcome_parts (sym made) ∙ ap (λ a. outcome_parts (Ok a)) (sym (some_is _ grown pair.1))
    ∙ ap (λ t. part.Verdict answer.verdict ∷ t) (frame_last answer.frames answer.datagrams answer.notices frame (no_elements _ both.0) (no_elements _ both.1))
recorded_last (Some (Ok answer)) (part.Datagram outgoing) outcome is =
    let (grown, (from, made)) = mapped_from Ok _ outcome is in
    let pair = passed (eqb (length answer.notices) 0) (Some (record answer { datagrams = answer.datagrams ++ outgoing ∷ [] })) grown from in
    ap outcome_parts (sym made) ∙ ap (λ a. outcome_parts (Ok a)) (sym (some_is _ grown pair.1))
    ∙ ap (λ t. part.Verdict answer.verdict ∷ t) (datagram_last answer.frames answer.datagrams answer.notices outgoing (no_elements _ (is_zero _ pair.0)))
recorded_last (Some (Ok answer)) (part.Notice notice) outcome is =
    ap outcome_parts (sym (some_is _ outcome is))
    ∙ ap (λ t. part.Verdict answer.verdict ∷ t) (notice_last answer.frames answer.datagrams answer.notices notice)
recorded_last recorded more outcome is = absurd (cc)

part_added : (made_of : Config) (entries : List Entry) (event : Event) (recorded : Option Outcome) (number : ℕ) (more : Part) (next : TraceBuilder) → builder_with (Events made_of entries (Some (event, recorded))) (line.Recorded number more) ≡ Some next → so_far next ≡ so_far (Events made_of entries (Some (event, recorded))) ++ line.Recorded number more ∷ []
part_added made_of entries event recorded number more next is =
    let pair = passed (eqb number (length entries + 1)) (option_map (λ outcome. Events made_of entries (Some (event, Some outcome))) (recorded_with recorded more)) next is in
    let (outcome, (from, made)) = mapped_from (λ outcome. Events made_of entries (Some (event, Some outcome))) (recorded_with recorded more) next pair.1 in
    let place : 1 + length entries ≡ number = (let same : number ≡ length entries + 1 = is_same number (length entries + 1) pair.0 in omega arith) in
    let parts : outcome_parts outcome ≡ recorded_parts recorded ++ more ∷ [] = recorded_last recorded more outcome from in
    let grown : entry_values (1 + length entries) (event, Some outcome) ≡ entry_values (1 + length entries) (event, recorded) ++ line.Recorded number more ∷ [] =
    ap (λ ps. line.Event event ∷ map (line.Recorded (1 + length entries)) ps) parts
    ∙ ap (λ t. line.Event event ∷ t) (map-append (line.Recorded (1 + length entries)) (recorded_parts recorded) (more ∷ []))
    ∙ ap (λ n. (line.Event event ∷ map (line.Recorded (1 + length entries)) (recorded_parts recorded)) ++ line.Recorded n more ∷ []) place in
    ap so_far (sym made)
    ∙ ap (λ t. config_values made_of ++ t) (entries_last 1 entries (event, Some outcome) ∙ ap (λ t. entries_values 1 entries ++ t) grown
    ∙ sym (append_assoc (entries_values 1 entries) (entry_values (1 + length entries) (event, recorded)) (line.Recorded number more ∷ []))
    ∙ ap (λ t. t ++ line.Recorded number more ∷ []) (sym (entries_last 1 entries (event, recorded))))
    ∙ sym (append_assoc (config_values made_of) (entries_values 1 (entries ++ (event, recorded) ∷ [])) (line.Recorded number more ∷ []))

-- a line behind the lists of a profile
ends_last : (adapter : AdapterLine) (outputs inputs ends : List TraceLine) (last : TraceLine) → line.Adapter adapter ∷ (outputs ++ (inputs ++ (ends ++ last ∷ []))) ≡ (line.Adapter adapter ∷ (outputs ++ (inputs ++ ends))) ++ last ∷ []
ends_last adapter outputs inputs ends last =
    ap (λ t. line.Adapter adapter ∷ t) (sym (append_assoc outputs (inputs ++ ends) (last ∷ []) ∙ ap (λ t. outputs ++ t) (append_assoc inputs ends (last ∷ []))))

points_last : (adapter : AdapterLine) (outputs inputs : List TraceLine) (last : TraceLine) → line.Adapter adapter ∷ (outputs ++ (inputs ++ last ∷ [])) ≡ (line.Adapter adapter ∷ (outputs ++ inputs)) ++ last ∷ []
points_last adapter outputs inputs last = ap (λ t. line.Adapter adapter ∷ t) (sym (append_assoc outputs inputs (last ∷ [])))

stated_last : (adapter : AdapterLine) (outputs inputs settings described limits : List TraceLine) (last : TraceLine) → line.Adapter adapter ∷ (outputs ++ (inputs ++ (settings ++ (described ++ (limits ++ last ∷ []))))) ≡ (line.Adapter adapter ∷ (outputs ++ (inputs ++ (settings ++ (described ++ limits))))) ++ last ∷ []
stated_last adapter outputs inputs settings described limits last =
    ap (λ t. line.Adapter adapter ∷ (outputs ++ (inputs ++ (settings ++ t)))) (sym (append_assoc described limits (last ∷ [])))
    ∙ ap (λ t. line.Adapter adapter ∷ (outputs ++ (inputs ++ t))) (sym (append_assoc settings (described ++ limits) (last ∷ [])))
    ∙ ends_last adapter outputs inputs (settings ++ (described ++ limits)) last

objects_last : (adapter : AdapterLine) (outputs inputs settings described limits objects : List TraceLine) (last : TraceLine) → line.Adapter adapter ∷ (outputs ++ (inputs ++ (settings ++ (described ++ (limits ++ (objects ++ last ∷ [])))))) ≡ (line.Adapter adapter ∷ (outputs ++ (inputs ++ (settings ++ (described ++ (limits ++ objects)))))) ++ last ∷ []
objects_last adapter outputs inputs settings described limits objects last =
    ap (λ t. line.Adapter adapter ∷ (outputs ++ (inputs ++ (settings ++ (described ++ t))))) (sym (append_assoc limits objects (last ∷ [])))
    ∙ stated_last adapter outputs inputs settings described (limits ++ objects) last

-- a line behind what is stated, and one behind own classes
behind_stated : (front : ProfileFront) (last : TraceLine) → line.Adapter front.adapter ∷ (map line.Output front.outputs ++ (map line.Input front.inputs ++ (map line.Config (option_to_list front.config) ++ (map line.Description (option_to_list front.description) ++ (map line.Limit (limit_lines front.limits) ++ last ∷ []))))) ≡ so_far (Stated front) ++ last ∷ []
behind_stated front last = stated_last front.adapter (map line.Output front.outputs) (map line.Input front.inputs) (map line.Config (option_to_list front.config)) (map line.Description (option_to_list front.description)) (map line.Limit (limit_lines front.limits)) last

behind_objects : (front : ProfileFront) (objects : List ℕ) (last : TraceLine) → line.Adapter front.adapter ∷ (map line.Output front.outputs ++ (map line.Input front.inputs ++ (map line.Config (option_to_list front.config) ++ (map line.Description (option_to_list front.description) ++ (map line.Limit (limit_lines front.limits) ++ (map line.Object objects ++ last ∷ [])))))) ≡ so_far (Objects front objects) ++ last ∷ []
behind_objects front objects last = objects_last front.adapter (map line.Output front.outputs) (map line.Input front.inputs) (map line.Config (option_to_list front.config)) (map line.Description (option_to_list front.description)) (map line.Limit (limit_lines front.limits)) (map line.Object objects) last

-- a line behind a block of ids
behind_ids : (front : ProfileFront) (objects : List ℕ) (block : IdBlock) (last : TraceLine) → line.Adapter front.adapter ∷ (map line.Output front.outputs ++ (map line.Input front.inputs ++ (map line.Config (option_to_list front.config) ++ (map line.Description (option_to_list front.description) ++ (map line.Limit (limit_lines front.limits) ++ (map line.Object objects ++ (ids_line block ∷ last ∷ []))))))) ≡ so_far (Counted front objects block) ++ last ∷ []
behind_ids front objects block last =
    ap (λ t. line.Adapter front.adapter ∷ (map line.Output front.outputs ++ (map line.Input front.inputs ++ (map line.Config (option_to_list front.config) ++ (map line.Description (option_to_list front.description) ++ (map line.Limit (limit_lines front.limits) ++ t)))))) (sym (append_assoc (map line.Object objects) (ids_line block ∷ []) (last ∷ [])))
    ∙ objects_last front.adapter (map line.Output front.outputs) (map line.Input front.inputs) (map line.Config (option_to_list front.config)) (map line.Description (option_to_list front.description)) (map line.Limit (limit_lines front.limits)) (map line.Object objects ++ ids_line block ∷ []) last

newer_here : (scanner : ScannerLine) (newer : Option ℕ) (tidy : Bool) (openings serials : Option ℕ) (ids : Option IdBlock) (slots : List SlotConfig) (within : ℕ) → (is_none newer && (not tidy && ((is_none openings && (is_none serials && is_none ids)) && eqb (length slots) 0))) ≡ true → so_far (Slots scanner (Some within) (record { tidy = tidy; openings = openings; serials = serials; ids = ids }) slots) ≡ so_far (Slots scanner newer (record { tidy = tidy; openings = openings; serials = serials; ids = ids }) slots) ++ line.Limit (limit.Newer within) ∷ []
newer_here scanner (Some other) tidy openings serials ids slots within first = absurd (cc)
newer_here scanner None true openings serials ids slots within first = absurd (cc)
newer_here scanner None false (Some most) serials ids slots within first = absurd (cc)
newer_here scanner None false None (Some from) ids slots within first = absurd (cc)
newer_here scanner None false None None (Some block) slots within first = absurd (cc)
newer_here scanner None false None None None [] within first = refl
newer_here scanner None false None None None (slot ∷ slots) within first = absurd (let none = no_elements (slot ∷ slots) (is_zero (length (slot ∷ slots)) first) in cc)

newer_added : (scanner : ScannerLine) (newer : Option ℕ) (terms : ScannerTerms) (slots : List SlotConfig) (value : LimitLine) (next : TraceBuilder) → with_newer scanner newer terms slots value ≡ Some next → so_far next ≡ so_far (Slots scanner newer terms slots) ++ line.Limit value ∷ []
newer_added scanner newer terms slots (limit.Newer within) next is =
    let pair = passed (is_none newer && (not terms.tidy && (none_stated terms && eqb (length slots) 0))) (Some (Slots scanner (Some within) terms slots)) next is in
    so_far_is _ _ pair.1 ∙ newer_here scanner newer terms.tidy terms.openings terms.serials terms.ids slots within pair.0
newer_added scanner newer terms slots other next is = absurd (cc)

-- what is said of openings, with one line more, before a block of ids
record OneMore (terms more : ScannerTerms) (said : TermLine) : Type 0 where
  lines : term_lines more ≡ term_lines terms ++ said ∷ []
  had : terms.ids ≡ None
  has : more.ids ≡ None

line_is : (terms one other : ScannerTerms) (said : TermLine) → Some one ≡ Some other → term_lines one ≡ term_lines terms ++ said ∷ [] → terms.ids ≡ None → one.ids ≡ None → OneMore terms other said
line_is terms one other said is lines had has = record {
  lines = ap term_lines (sym (some_is one other is)) ∙ lines;
  had = had;
  has = ap (λ (t : ScannerTerms). t.ids) (sym (some_is one other is)) ∙ has;
}

line_added : (tidy : Bool) (openings serials : Option ℕ) (ids : Option IdBlock) (said : TermLine) (more : ScannerTerms) → with_line (record { tidy = tidy; openings = openings; serials = serials; ids = ids }) said ≡ Some more → OneMore (record { tidy = tidy; openings = openings; serials = serials; ids = ids }) more said
line_added false None None None term.Tidy more is = line_is _ _ more _ is refl refl refl
line_added true openings serials ids term.Tidy more is = absurd (cc)
line_added false (Some other) serials ids term.Tidy more is = absurd (cc)
line_added false None (Some other) ids term.Tidy more is = absurd (cc)
line_added false None None (Some block) term.Tidy more is = absurd (cc)
line_added true None None None (term.Openings most) more is = line_is _ _ more _ is refl refl refl
line_added false None None None (term.Openings most) more is = line_is _ _ more _ is refl refl refl
line_added tidy (Some other) serials ids (term.Openings most) more is = absurd (cc)
line_added tidy None (Some other) ids (term.Openings most) more is = absurd (cc)
line_added tidy None None (Some block) (term.Openings most) more is = absurd (cc)
line_added true None None None (term.Serials first) more is = line_is _ _ more _ is refl refl refl
line_added false None None None (term.Serials first) more is = line_is _ _ more _ is refl refl refl
line_added true (Some most) None None (term.Serials first) more is = line_is _ _ more _ is refl refl refl
line_added false (Some most) None None (term.Serials first) more is = line_is _ _ more _ is refl refl refl
line_added tidy openings (Some other) ids (term.Serials first) more is = absurd (cc)
line_added tidy openings None (Some block) (term.Serials first) more is = absurd (cc)

-- the lines of openings, before all slots
terms_last : (scanner : TraceLine) (limits terms : List TraceLine) (last : TraceLine) → scanner ∷ (limits ++ ((terms ++ last ∷ []) ++ [])) ≡ (scanner ∷ (limits ++ (terms ++ []))) ++ last ∷ []
terms_last scanner limits terms last =
    ap (λ t. scanner ∷ (limits ++ t)) (append-nil (terms ++ last ∷ []) ∙ ap (λ t. t ++ last ∷ []) (sym (append-nil terms)))
    ∙ ap (λ t. scanner ∷ t) (sym (append_assoc limits (terms ++ []) (last ∷ [])))

term_here : (scanner : ScannerLine) (newer : Option ℕ) (terms more : ScannerTerms) (slots : List SlotConfig) (said : TermLine) → slots ≡ [] → OneMore terms more said → so_far (Slots scanner newer more slots) ≡ so_far (Slots scanner newer terms slots) ++ line.Term said ∷ []
term_here scanner newer terms more slots said none one =
    let limits = map line.Limit (option_to_list (option_map limit.Newer newer)) in
    ap (λ l. so_far (Slots scanner newer more l)) none
    ∙ ap (λ (ids : Option IdBlock). line.Scanner scanner ∷ (limits ++ (map line.Term (term_lines more) ++ (ids_lines ids ++ [])))) one.has
    ∙ ap (λ t. line.Scanner scanner ∷ (limits ++ (t ++ []))) (ap (map line.Term) one.lines ∙ map-append line.Term (term_lines terms) (said ∷ []))
    ∙ terms_last (line.Scanner scanner) limits (map line.Term (term_lines terms)) (line.Term said)
    ∙ ap (λ (ids : Option IdBlock). (line.Scanner scanner ∷ (limits ++ (map line.Term (term_lines terms) ++ (ids_lines ids ++ [])))) ++ line.Term said ∷ []) (sym one.had)
    ∙ ap (λ l. so_far (Slots scanner newer terms l) ++ line.Term said ∷ []) (sym none)

term_added : (scanner : ScannerLine) (newer : Option ℕ) (terms : ScannerTerms) (slots : List SlotConfig) (said : TermLine) (next : TraceBuilder) → with_term scanner newer terms slots said ≡ Some next → so_far next ≡ so_far (Slots scanner newer terms slots) ++ line.Term said ∷ []
term_added scanner newer terms slots said next is =
    let pair = passed (eqb (length slots) 0) (option_map (λ more. Slots scanner newer more slots) (with_line terms said)) next is in
    let (more, (from, made)) = mapped_from (λ more. Slots scanner newer more slots) (with_line terms said) next pair.1 in
    ap so_far (sym made)
    ∙ term_here scanner newer terms more slots said (no_elements slots (is_zero (length slots) pair.0)) (line_added terms.tidy terms.openings terms.serials terms.ids said more from)

-- BLOCKS OF CONNECTION IDS

-- an event that gives a block has the line of a block
block_is : (happens : Event) (block : IdBlock) → given_block happens ≡ Some block → line.Event happens ≡ ids_line block
block_is (happening.Ids own) block is = ap ids_line (some_is own block is)
block_is other block is = absurd (cc)

none_there : (ids : Option IdBlock) → is_none ids ≡ true → ids ≡ None
none_there None is = refl
none_there (Some block) is = absurd (cc)

-- a block that an adapter's profile states
counted_added : (front : ProfileFront) (objects : List ℕ) (before : List TraceLine) (happens : Event) (next : TraceBuilder) → ((block : IdBlock) → so_far (Counted front objects block) ≡ before ++ ids_line block ∷ []) → with_ids front objects happens ≡ Some next → so_far next ≡ before ++ line.Event happens ∷ []
counted_added front objects before happens next goes is =
    let (block, (from, made)) = mapped_from (λ (block : IdBlock). Counted front objects block) (given_block happens) next is in
    ap so_far (sym made) ∙ goes block ∙ ap (λ (l : TraceLine). before ++ l ∷ []) (sym (block_is happens block from))

-- and one that a scanner's does, before all slots
block_here : (scanner : TraceLine) (limits terms : List TraceLine) (last : TraceLine) → scanner ∷ (limits ++ (terms ++ last ∷ [])) ≡ (scanner ∷ (limits ++ (terms ++ []))) ++ last ∷ []
block_here scanner limits terms last =
    ap (λ t. scanner ∷ t) (sym (append_assoc limits terms (last ∷ [])))
    ∙ ap (λ t. (scanner ∷ (limits ++ t)) ++ last ∷ []) (sym (append-nil terms))

block_added : (scanner : ScannerLine) (newer : Option ℕ) (terms : ScannerTerms) (slots : List SlotConfig) (block : IdBlock) (next : TraceBuilder) → slots ≡ [] → with_block scanner newer terms slots block ≡ Some next → so_far next ≡ so_far (Slots scanner newer terms slots) ++ ids_line block ∷ []
block_added scanner newer terms slots block next none is =
    let pair = passed (is_none terms.ids) (Some (Slots scanner newer (record terms { ids = Some block }) slots)) next is in
    let limits = map line.Limit (option_to_list (option_map limit.Newer newer)) in
    so_far_is _ _ pair.1
    ∙ ap (λ l. so_far (Slots scanner newer (record terms { ids = Some block }) l)) none
    ∙ block_here (line.Scanner scanner) limits (map line.Term (term_lines terms)) (ids_line block)
    ∙ ap (λ (ids : Option IdBlock). (line.Scanner scanner ∷ (limits ++ (map line.Term (term_lines terms) ++ (ids_lines ids ++ [])))) ++ ids_line block ∷ []) (sym (none_there terms.ids pair.0))
    ∙ ap (λ l. so_far (Slots scanner newer terms l) ++ ids_line block ∷ []) (sym none)

first_added : (scanner : ScannerLine) (newer : Option ℕ) (terms : ScannerTerms) (slots : List SlotConfig) (happens : Event) (next : TraceBuilder) (early : Option IdBlock) → early_block slots happens ≡ early → with_event scanner newer terms slots happens early ≡ Some next → so_far next ≡ so_far (Slots scanner newer terms slots) ++ line.Event happens ∷ []
first_added scanner newer terms slots happens next (Some block) early is =
    let pair = passed (eqb (length slots) 0) (given_block happens) block early in
    block_added scanner newer terms slots block next (no_elements slots (is_zero (length slots) pair.0)) is
    ∙ ap (λ (l : TraceLine). so_far (Slots scanner newer terms slots) ++ l ∷ []) (sym (block_is happens block pair.1))
first_added scanner newer terms slots happens next None early is = so_far_is _ _ is

limit_added_to : (front : ProfileFront) (limit : LimitLine) (next : TraceBuilder) → with_stated front limit ≡ Some next → so_far next ≡ so_far (Stated front) ++ line.Limit limit ∷ []
limit_added_to front limit next is =
    let (more, (from, made)) = mapped_from (λ more. Stated (record front { limits = more })) (with_limit front.limits limit) next is in
    ap so_far (sym made)
    ∙ ap (λ t. line.Adapter front.adapter ∷ (map line.Output front.outputs ++ (map line.Input front.inputs ++ (map line.Config (option_to_list front.config) ++ (map line.Description (option_to_list front.description) ++ t))))) (ap (map line.Limit) (limit_added front.limits limit more from) ∙ map-append line.Limit (limit_lines front.limits) (limit ∷ []))
    ∙ behind_stated front (line.Limit limit)

object_added_to : (front : ProfileFront) (objects : List ℕ) (class : ℕ) → so_far (Objects front (objects ++ class ∷ [])) ≡ so_far (Objects front objects) ++ line.Object class ∷ []
object_added_to front objects class =
    ap (λ t. line.Adapter front.adapter ∷ (map line.Output front.outputs ++ (map line.Input front.inputs ++ (map line.Config (option_to_list front.config) ++ (map line.Description (option_to_list front.description) ++ (map line.Limit (limit_lines front.limits) ++ t)))))) (map-append line.Object objects (class ∷ []))
    ∙ behind_objects front objects (line.Object class)

-- a line that is allowed is one line more
pub added : (builder : TraceBuilder) (parsed : TraceLine) (next : TraceBuilder) → builder_with builder parsed ≡ Some next → so_far next ≡ so_far builder ++ parsed ∷ []
added Empty (line.Adapter value) next is = so_far_is _ _ is
added Empty (line.Scanner value) next is = so_far_is _ _ is
added (Points adapter outputs inputs) (line.Output value) next is = output_added adapter outputs inputs value next is
added (Points adapter outputs inputs) (line.Input value) next is = so_far_is _ _ is ∙ ap (λ t. line.Adapter adapter ∷ (map line.Output outputs ++ t)) (map-append line.Input inputs (value ∷ [])) ∙ ap (λ t. line.Adapter adapter ∷ t) (sym (append_assoc (map line.Output outputs) (map line.Input inputs) (line.Input value ∷ [])))
added (Points adapter outputs inputs) (line.Config value) next is = so_far_is _ _ is ∙ ap (λ t. line.Adapter adapter ∷ t) (sym (append_assoc (map line.Output outputs) (map line.Input inputs) (line.Config value ∷ [])))
added (Points adapter outputs inputs) (line.Description value) next is = so_far_is _ _ is ∙ points_last adapter (map line.Output outputs) (map line.Input inputs) (line.Description value)
added (Points adapter outputs inputs) (line.Limit value) next is = limit_added_to (front_of adapter outputs inputs None None) value next is ∙ ap (λ t. (line.Adapter adapter ∷ (map line.Output outputs ++ t)) ++ line.Limit value ∷ []) (append-nil (map line.Input inputs))
added (Points adapter outputs inputs) (line.Object value) next is = so_far_is _ _ is ∙ points_last adapter (map line.Output outputs) (map line.Input inputs) (line.Object value)
added (Points adapter outputs inputs) (line.Event value) next is =
    counted_added (front_of adapter outputs inputs None None) [] (so_far (Points adapter outputs inputs)) value next (λ block. points_last adapter (map line.Output outputs) (map line.Input inputs) (ids_line block)) is
added (Points adapter outputs inputs) (line.Heartbeat value) next is = so_far_is _ _ is ∙ append-nil _ ∙ points_last adapter (map line.Output outputs) (map line.Input inputs) (line.Heartbeat value)
added (Configured adapter outputs inputs point) (line.Description value) next is = so_far_is _ _ is ∙ ends_last adapter (map line.Output outputs) (map line.Input inputs) (line.Config point ∷ []) (line.Description value)
added (Configured adapter outputs inputs point) (line.Limit value) next is = limit_added_to (front_of adapter outputs inputs (Some point) None) value next is
added (Configured adapter outputs inputs point) (line.Object value) next is = so_far_is _ _ is ∙ ends_last adapter (map line.Output outputs) (map line.Input inputs) (line.Config point ∷ []) (line.Object value)
added (Configured adapter outputs inputs point) (line.Event value) next is =
    counted_added (front_of adapter outputs inputs (Some point) None) [] (so_far (Configured adapter outputs inputs point)) value next (λ block. ends_last adapter (map line.Output outputs) (map line.Input inputs) (line.Config point ∷ []) (ids_line block)) is
added (Configured adapter outputs inputs point) (line.Heartbeat value) next is = so_far_is _ _ is ∙ append-nil _ ∙ ends_last adapter (map line.Output outputs) (map line.Input inputs) (line.Config point ∷ []) (line.Heartbeat value)
added (Stated front) (line.Limit value) next is = limit_added_to front value next is
added (Stated front) (line.Object value) next is = so_far_is _ _ is ∙ behind_stated front (line.Object value)
added (Stated front) (line.Event value) next is = counted_added front [] (so_far (Stated front)) value next (λ block. behind_stated front (ids_line block)) is
added (Stated front) (line.Heartbeat value) next is = so_far_is _ _ is ∙ append-nil _ ∙ behind_stated front (line.Heartbeat value)
added (Objects front objects) (line.Object value) next is = so_far_is _ _ is ∙ object_added_to front objects value
added (Objects front objects) (line.Event value) next is = counted_added front objects (so_far (Objects front objects)) value next (λ block. behind_objects front objects (ids_line block)) is
added (Objects front objects) (line.Heartbeat value) next is = so_far_is _ _ is ∙ append-nil _ ∙ behind_objects front objects (line.Heartbeat value)
added (Counted front objects block) (line.Heartbeat value) next is = so_far_is _ _ is ∙ append-nil _ ∙ behind_ids front objects block (line.Heartbeat value)
added (Slots scanner newer terms slots) (line.Limit value) next is = newer_added scanner newer terms slots value next is
added (Slots scanner newer terms slots) (line.Term said) next is = term_added scanner newer terms slots said next is
added (Slots scanner newer terms slots) (line.Slot value) next is =
    let limits = map line.Limit (option_to_list (option_map limit.Newer newer)) in
    so_far_is _ _ is
    ∙ ap (λ t. line.Scanner scanner ∷ (limits ++ (map line.Term (term_lines terms) ++ (ids_lines terms.ids ++ t)))) (map-append line.Slot slots (value ∷ []))
    ∙ ap (λ t. line.Scanner scanner ∷ (limits ++ (map line.Term (term_lines terms) ++ t))) (sym (append_assoc (ids_lines terms.ids) (map line.Slot slots) (line.Slot value ∷ [])))
    ∙ ap (λ t. line.Scanner scanner ∷ (limits ++ t)) (sym (append_assoc (map line.Term (term_lines terms)) (ids_lines terms.ids ++ map line.Slot slots) (line.Slot value ∷ [])))
    ∙ ap (λ t. line.Scanner scanner ∷ t) (sym (append_assoc limits (map line.Term (term_lines terms) ++ (ids_lines terms.ids ++ map line.Slot slots)) (line.Slot value ∷ [])))
added (Slots scanner newer terms slots) (line.Event value) next is = first_added scanner newer terms slots value next (early_block slots value) refl is
added (Events made_of entries None) (line.Event value) next is = so_far_is _ _ is ∙ event_added made_of (entries ++ []) value
added (Events made_of entries (Some (event, recorded))) (line.Event value) next is = so_far_is _ _ is ∙ event_added made_of (entries ++ (event, recorded) ∷ []) value
added (Events made_of entries (Some (event, recorded))) (line.Recorded number value) next is = part_added made_of entries event recorded number value next is
added builder parsed next is = absurd (cc)

-- LINES ONE AFTER THE OTHER

-- what was read after these lines; None is what is no line of a trace
abbrev pub run : TraceBuilder → List (Option TraceLine) → Option TraceBuilder
run builder [] = Some builder
run builder (None ∷ lines) = None
run builder (Some value ∷ lines) = option_and_then (λ next. run next lines) (builder_with builder value)

after_both : (xs ys : List (Option TraceLine)) (go : (next : TraceBuilder) → run next (xs ++ ys) ≡ option_and_then (λ b. run b ys) (run next xs)) (first : Option TraceBuilder) → option_and_then (λ next. run next (xs ++ ys)) first ≡ option_and_then (λ b. run b ys) (option_and_then (λ next. run next xs) first)
after_both xs ys go None = refl
after_both xs ys go (Some next) = go next

pub run_both : (builder : TraceBuilder) (xs ys : List (Option TraceLine)) → run builder (xs ++ ys) ≡ option_and_then (λ b. run b ys) (run builder xs)
run_both builder [] ys = refl
run_both builder (None ∷ xs) ys = refl
run_both builder (Some value ∷ xs) ys = after_both xs ys (λ next. run_both next xs ys) (builder_with builder value)

-- what is read adds up to the lines
pub run_adds : (builder : TraceBuilder) (lines : List (Option TraceLine)) (end : TraceBuilder) → run builder lines ≡ Some end → map Some (so_far builder) ++ lines ≡ map Some (so_far end)
run_adds builder [] end is = append-nil (map Some (so_far builder)) ∙ ap (λ b. map Some (so_far b)) (some_is builder end is)
run_adds builder (None ∷ lines) end is = absurd (cc)
run_adds builder (Some value ∷ lines) end is =
    let (next, (first, rest)) = found_in (λ next. run next lines) (builder_with builder value) end is in
    sym (append_assoc (map Some (so_far builder)) (Some value ∷ []) lines)
    ∙ ap (λ t. t ++ lines) (sym (map-append Some (so_far builder) (value ∷ [])) ∙ ap (map Some) (sym (added builder value next first)))
    ∙ run_adds next lines end rest

-- EVENTS BEHIND A PROFILE

-- there are events, of which the first one is no line of the profile
abbrev has_begun : List SlotConfig → List Entry → Bool
has_begun slots [] = false
has_begun slots (first ∷ entries) = is_none (early_block slots first.0)

-- what was read so far has its events behind its profile
abbrev pub is_in_order : TraceBuilder → Bool
is_in_order (Events (config.Scanner profile) entries last) = has_begun profile.slots (entries ++ option_to_list last)
is_in_order other = true

begun_more : (slots : List SlotConfig) (entries more : List Entry) → has_begun slots entries ≡ true → has_begun slots (entries ++ more) ≡ true
begun_more slots [] more begun = absurd (cc)
begun_more slots (first ∷ entries) more begun = begun

begun_same : (slots : List SlotConfig) (entries : List Entry) (one other : Entry) → one.0 ≡ other.0 → has_begun slots (entries ++ one ∷ []) ≡ true → has_begun slots (entries ++ other ∷ []) ≡ true
begun_same slots [] one other same begun = ap (λ (happens : Event). is_none (early_block slots happens)) (sym same) ∙ begun
begun_same slots (first ∷ entries) one other same begun = begun

begun_begins : (slots : List SlotConfig) (entries : List Entry) → has_begun slots entries ≡ true → may_begin slots entries ≡ true
begun_begins slots [] begun = refl
begun_begins slots (first ∷ entries) begun = begun

pub order_follows : (made_of : Config) (entries : List Entry) (last : Option Entry) → is_in_order (Events made_of entries last) ≡ true → may_follow made_of (entries ++ option_to_list last) ≡ true
order_follows (config.Adapter profile) entries last ordered = refl
order_follows (config.Scanner profile) entries last ordered = begun_begins profile.slots (entries ++ option_to_list last) ordered

-- WHAT IS READ CAN BE COMPLETED

abbrev no_scanner : ScannerProfile
no_scanner = record { incarnation = 0; node = record { 0 = 0 }; vendor = 0; serial = 0; open_timeout = 0; retry = 0; newer = None; tidy = false; openings = None; serials = None; ids = None; slots = [] }

abbrev no_points : HeartbeatLine
no_points = record { input_only = 0; listen_only = 0 }

-- the profile of these lines
abbrev whole_of : ProfileFront → List ℕ → Option IdBlock → HeartbeatLine → Profile
whole_of front objects ids points = profile_with front.adapter front.outputs front.inputs front.config front.description front.limits objects ids points

-- what was read, and more lines, are those of a trace
pub record Completed (builder : TraceBuilder) : Type 0 where
  pub trace : Trace
  pub follow : may_follow trace.config trace.events ≡ true
  pub more : List TraceLine
  pub is : so_far builder ++ more ≡ trace_values trace

-- by the points without data
by_points : (builder : TraceBuilder) (profile : Profile) → builder_with builder (line.Heartbeat no_points) ≡ Some (Events (config.Adapter profile) [] None) → Completed builder
by_points builder profile is = record {
  trace = record { config = config.Adapter profile; events = [] };
  follow = refl;
  more = line.Heartbeat no_points ∷ [];
  is = sym (added builder (line.Heartbeat no_points) (Events (config.Adapter profile) [] None) is);
}

pub completed : (builder : TraceBuilder) → is_in_order builder ≡ true → Completed builder
completed Empty ordered = record { trace = record { config = config.Scanner no_scanner; events = [] }; follow = refl; more = config_values (config.Scanner no_scanner) ++ []; is = refl }
completed (Points adapter outputs inputs) ordered = by_points (Points adapter outputs inputs) (profile_with adapter outputs inputs None None no_limits [] None no_points) refl
completed (Configured adapter outputs inputs point) ordered = by_points (Configured adapter outputs inputs point) (profile_with adapter outputs inputs (Some point) None no_limits [] None no_points) refl
completed (Stated front) ordered = by_points (Stated front) (whole_of front [] None no_points) refl
completed (Objects front objects) ordered = by_points (Objects front objects) (whole_of front objects None no_points) refl
completed (Counted front objects block) ordered = by_points (Counted front objects block) (whole_of front objects (Some block) no_points) refl
completed (Slots scanner newer terms slots) ordered = record { trace = record { config = config.Scanner (scanner_with scanner newer terms slots); events = [] }; follow = refl; more = []; is = refl }
completed (Events made_of entries last) ordered = record { trace = record { config = made_of; events = entries ++ option_to_list last }; follow = order_follows made_of entries last ordered; more = []; is = append-nil _ }

-- THE LINES OF A TRACE LEAD TO IT

-- one line, and those behind it
first_run : (builder next : TraceBuilder) (value : TraceLine) (lines : List (Option TraceLine)) (said : Option TraceBuilder) → builder_with builder value ≡ Some next → run next lines ≡ said → run builder (Some value ∷ lines) ≡ said
first_run builder next value lines said first rest = ap (option_and_then (λ b. run b lines)) first ∙ rest

-- lines, and those behind them
both_run : (builder next : TraceBuilder) (xs ys : List TraceLine) (said : Option TraceBuilder) → run builder (map Some xs) ≡ Some next → run next (map Some ys) ≡ said → run builder (map Some (xs ++ ys)) ≡ said
both_run builder next xs ys said first rest =
    ap (run builder) (map-append Some xs ys) ∙ run_both builder (map Some xs) (map Some ys) ∙ ap (option_and_then (λ b. run b (map Some ys))) first ∙ rest

outputs_run : (adapter : AdapterLine) (before outputs : List OutputPoint) → run (Points adapter before []) (map Some (map line.Output outputs)) ≡ Some (Points adapter (before ++ outputs) [])
outputs_run adapter before [] = ap (λ t. Some (Points adapter t [])) (sym (append-nil before))
outputs_run adapter before (output ∷ outputs) = outputs_run adapter (before ++ output ∷ []) outputs ∙ ap (λ t. Some (Points adapter t [])) (append_assoc before (output ∷ []) outputs)

inputs_run : (adapter : AdapterLine) (outputs : List OutputPoint) (before inputs : List InputPoint) → run (Points adapter outputs before) (map Some (map line.Input inputs)) ≡ Some (Points adapter outputs (before ++ inputs))
inputs_run adapter outputs before [] = ap (λ t. Some (Points adapter outputs t)) (sym (append-nil before))
inputs_run adapter outputs before (input ∷ inputs) = inputs_run adapter outputs (before ++ input ∷ []) inputs ∙ ap (λ t. Some (Points adapter outputs t)) (append_assoc before (input ∷ []) inputs)

-- the lines of own classes, and those behind them
abbrev objects_end : HeartbeatLine → Option IdBlock → List ℕ → List TraceLine
objects_end points ids objects = map line.Object objects ++ (ids_lines ids ++ line.Heartbeat points ∷ [])

-- the lines of limits, and those behind them
abbrev limits_end : List TraceLine → List LimitLine → List (Option TraceLine)
limits_end behind limits = map Some (map line.Limit limits ++ behind)

objects_run : (front : ProfileFront) (points : HeartbeatLine) (ids : Option IdBlock) (before more : List ℕ) → run (Objects front before) (map Some (objects_end points ids more)) ≡ Some (Events (config.Adapter (whole_of front (before ++ more) ids points)) [] None)
objects_run front points None before [] = ap (λ t. Some (Events (config.Adapter (whole_of front t None points)) [] None)) (sym (append-nil before))
objects_run front points (Some block) before [] = ap (λ t. Some (Events (config.Adapter (whole_of front t (Some block) points)) [] None)) (sym (append-nil before))
objects_run front points ids before (class ∷ more) =
    objects_run front points ids (before ++ class ∷ []) more
    ∙ ap (λ t. Some (Events (config.Adapter (whole_of front t ids points)) [] None)) (append_assoc before (class ∷ []) more)

stated_run : (front : ProfileFront) (points : HeartbeatLine) (ids : Option IdBlock) (more : List ℕ) → run (Stated front) (map Some (objects_end points ids more)) ≡ Some (Events (config.Adapter (whole_of front more ids points)) [] None)
stated_run front points None [] = refl
stated_run front points (Some block) [] = refl
stated_run front points ids (class ∷ more) = objects_run front points ids (class ∷ []) more

module _ (adapter : AdapterLine) (outputs : List OutputPoint) (inputs : List InputPoint) (settings : Option InputPoint) (described : Option Description) (classes : List ℕ) (ids : Option IdBlock) (points : HeartbeatLine) where
  abbrev stated : MakerLimits → ProfileFront
  stated limits = record (front_of adapter outputs inputs settings described) { limits = limits }

  abbrev whole : MakerLimits → Option TraceBuilder
  whole limits = Some (Events (config.Adapter (profile_with adapter outputs inputs settings described limits classes ids points)) [] None)

  abbrev behind : List TraceLine
  behind = objects_end points ids classes

  steps_run : (limits end : MakerLimits) (lines : List LimitLine) → Steps limits lines end → run (Stated (stated limits)) (limits_end behind lines) ≡ whole end
  steps_run limits end [] is = stated_run (stated limits) points ids classes ∙ ap whole is
  steps_run limits end (given ∷ lines) (next, (is, more)) =
      first_run (Stated (stated limits)) (Stated (stated next)) (line.Limit given) (limits_end behind lines) _ (ap (option_map (λ to. Stated (stated to))) is) (steps_run next end lines more)

  limits_run : (limits : MakerLimits) → run (Stated (stated no_limits)) (limits_end behind (limit_lines limits)) ≡ whole limits
  limits_run limits = steps_run no_limits limits (limit_lines limits) (limit_steps limits)

-- the limits, the own classes, the block of ids and the points without data, where no description is before them
after_points : (adapter : AdapterLine) (outputs : List OutputPoint) (inputs : List InputPoint) (points : HeartbeatLine) (ids : Option IdBlock) (objects : List ℕ) (limits : List LimitLine) → run (Points adapter outputs inputs) (limits_end (objects_end points ids objects) limits) ≡ run (Stated (front_of adapter outputs inputs None None)) (limits_end (objects_end points ids objects) limits)
after_points adapter outputs inputs points None [] [] = refl
after_points adapter outputs inputs points (Some block) [] [] = refl
after_points adapter outputs inputs points ids (class ∷ objects) [] = refl
after_points adapter outputs inputs points ids objects (limit ∷ limits) = refl

after_settings : (adapter : AdapterLine) (outputs : List OutputPoint) (inputs : List InputPoint) (point : InputPoint) (points : HeartbeatLine) (ids : Option IdBlock) (objects : List ℕ) (limits : List LimitLine) → run (Configured adapter outputs inputs point) (limits_end (objects_end points ids objects) limits) ≡ run (Stated (front_of adapter outputs inputs (Some point) None)) (limits_end (objects_end points ids objects) limits)
after_settings adapter outputs inputs point points None [] [] = refl
after_settings adapter outputs inputs point points (Some block) [] [] = refl
after_settings adapter outputs inputs point points ids (class ∷ objects) [] = refl
after_settings adapter outputs inputs point points ids objects (limit ∷ limits) = refl

ends_run : (adapter : AdapterLine) (outputs : List OutputPoint) (inputs : List InputPoint) (settings : Option InputPoint) (described : Option Description) (limits : MakerLimits) (objects : List ℕ) (ids : Option IdBlock) (points : HeartbeatLine) → run (Points adapter outputs inputs) (map Some (map line.Config (option_to_list settings) ++ (map line.Description (option_to_list described) ++ (map line.Limit (limit_lines limits) ++ objects_end points ids objects)))) ≡ Some (Events (config.Adapter (profile_with adapter outputs inputs settings described limits objects ids points)) [] None)
ends_run adapter outputs inputs None None limits objects ids points = after_points adapter outputs inputs points ids objects (limit_lines limits) ∙ limits_run adapter outputs inputs None None objects ids points limits
ends_run adapter outputs inputs None (Some described) limits objects ids points = limits_run adapter outputs inputs None (Some described) objects ids points limits
ends_run adapter outputs inputs (Some point) None limits objects ids points = after_settings adapter outputs inputs point points ids objects (limit_lines limits) ∙ limits_run adapter outputs inputs (Some point) None objects ids points limits
ends_run adapter outputs inputs (Some point) (Some described) limits objects ids points = limits_run adapter outputs inputs (Some point) (Some described) objects ids points limits

adapter_run : (profile : Profile) → run Empty (map Some (config_values (config.Adapter profile))) ≡ Some (Events (config.Adapter profile) [] None)
adapter_run profile =
    both_run (Points (adapter_line_of profile) [] []) (Points (adapter_line_of profile) profile.outputs []) (map line.Output profile.outputs) _ _ (outputs_run (adapter_line_of profile) [] profile.outputs)
    (both_run (Points (adapter_line_of profile) profile.outputs []) (Points (adapter_line_of profile) profile.outputs profile.inputs) (map line.Input profile.inputs) _ _ (inputs_run (adapter_line_of profile) profile.outputs [] profile.inputs)
    (ends_run (adapter_line_of profile) profile.outputs profile.inputs profile.config profile.description profile.limits profile.objects profile.ids (heartbeat_line_of profile)))

slots_run : (scanner : ScannerLine) (newer : Option ℕ) (terms : ScannerTerms) (before slots : List SlotConfig) → run (Slots scanner newer terms before) (map Some (map line.Slot slots)) ≡ Some (Slots scanner newer terms (before ++ slots))
slots_run scanner newer terms before [] = ap (λ t. Some (Slots scanner newer terms t)) (sym (append-nil before))
slots_run scanner newer terms before (slot ∷ slots) = slots_run scanner newer terms (before ++ slot ∷ []) slots ∙ ap (λ t. Some (Slots scanner newer terms t)) (append_assoc before (slot ∷ []) slots)

slot_limit_run : (scanner : ScannerLine) (newer : Option ℕ) → run (Slots scanner None no_terms []) (map Some (map line.Limit (option_to_list (option_map limit.Newer newer)))) ≡ Some (Slots scanner newer no_terms [])
slot_limit_run scanner None = refl
slot_limit_run scanner (Some within) = refl

terms_run : (scanner : ScannerLine) (newer : Option ℕ) (tidy : Bool) (openings serials : Option ℕ) → run (Slots scanner newer no_terms []) (map Some (map line.Term (term_lines (record { tidy = tidy; openings = openings; serials = serials; ids = None })))) ≡ Some (Slots scanner newer (record { tidy = tidy; openings = openings; serials = serials; ids = None }) [])
terms_run scanner newer true None None = refl
terms_run scanner newer true None (Some first) = refl
terms_run scanner newer true (Some most) None = refl
terms_run scanner newer true (Some most) (Some first) = refl
terms_run scanner newer false None None = refl
terms_run scanner newer false None (Some first) = refl
terms_run scanner newer false (Some most) None = refl
terms_run scanner newer false (Some most) (Some first) = refl

ids_run : (scanner : ScannerLine) (newer : Option ℕ) (tidy : Bool) (openings serials : Option ℕ) (ids : Option IdBlock) → run (Slots scanner newer (record { tidy = tidy; openings = openings; serials = serials; ids = None }) []) (map Some (ids_lines ids)) ≡ Some (Slots scanner newer (record { tidy = tidy; openings = openings; serials = serials; ids = ids }) [])
ids_run scanner newer tidy openings serials None = refl
ids_run scanner newer tidy openings serials (Some block) = refl

abbrev uncounted : ScannerProfile → ScannerTerms
uncounted profile = record { tidy = profile.tidy; openings = profile.openings; serials = profile.serials; ids = None }

scanner_run : (profile : ScannerProfile) → run Empty (map Some (config_values (config.Scanner profile))) ≡ Some (Slots (scanner_line_of profile) profile.newer (terms_of profile) profile.slots)
scanner_run profile =
    both_run (Slots (scanner_line_of profile) None no_terms []) (Slots (scanner_line_of profile) profile.newer no_terms []) (map line.Limit (option_to_list (option_map limit.Newer profile.newer))) (map line.Term (term_lines (terms_of profile)) ++ (ids_lines profile.ids ++ map line.Slot profile.slots)) _
    (slot_limit_run (scanner_line_of profile) profile.newer)
    (both_run (Slots (scanner_line_of profile) profile.newer no_terms []) (Slots (scanner_line_of profile) profile.newer (uncounted profile) []) (map line.Term (term_lines (terms_of profile))) (ids_lines profile.ids ++ map line.Slot profile.slots) _
    (terms_run (scanner_line_of profile) profile.newer profile.tidy profile.openings profile.serials)
    (both_run (Slots (scanner_line_of profile) profile.newer (uncounted profile) []) (Slots (scanner_line_of profile) profile.newer (terms_of profile) []) (ids_lines profile.ids) (map line.Slot profile.slots) _
    (ids_run (scanner_line_of profile) profile.newer profile.tidy profile.openings profile.serials profile.ids) (slots_run (scanner_line_of profile) profile.newer (terms_of profile) [] profile.slots)))

-- an event that is none of the profile's own lines comes behind it
first_taken : (scanner : ScannerLine) (newer : Option ℕ) (terms : ScannerTerms) (slots : List SlotConfig) (happens : Event) → is_none (early_block slots happens) ≡ true → builder_with (Slots scanner newer terms slots) (line.Event happens) ≡ Some (Events (config.Scanner (scanner_with scanner newer terms slots)) [] (Some (happens, None)))
first_taken scanner newer terms slots happens late = ap (with_event scanner newer terms slots happens) (none_there (early_block slots happens) late)

abbrev answer_of : Verdict → List Frame → List OutgoingDatagram → List Notice → Answer
answer_of verdict frames datagrams notices = record { frames = frames; datagrams = datagrams; verdict = verdict; notices = notices }

module _ (made_of : Config) (entries : List Entry) (event : Event) (n : ℕ) (number : n ≡ length entries + 1) where
  abbrev recording : Option Outcome → TraceBuilder
  recording recorded = Events made_of entries (Some (event, recorded))

  abbrev answering : Verdict → List Frame → List OutgoingDatagram → List Notice → TraceBuilder
  answering verdict frames datagrams notices = recording (Some (Ok (answer_of verdict frames datagrams notices)))

  abbrev numbered_parts : List Part → List (Option TraceLine)
  numbered_parts parts = map Some (map (line.Recorded n) parts)

  part_run : (recorded : Option Outcome) (outcome : Outcome) (more : Part) (lines : List (Option TraceLine)) (said : Option TraceBuilder) → recorded_with recorded more ≡ Some outcome → run (recording (Some outcome)) lines ≡ said → run (recording recorded) (Some (line.Recorded n more) ∷ lines) ≡ said
  part_run recorded outcome more lines said with rest =
      let built : builder_with (recording recorded) (line.Recorded n more) ≡ Some (recording (Some outcome)) = rw (same_number n (length entries + 1) number, with) refl in
      first_run (recording recorded) (recording (Some outcome)) (line.Recorded n more) lines said built rest

  parts_run : (builder next : TraceBuilder) (xs ys : List Part) (said : Option TraceBuilder) → run builder (numbered_parts xs) ≡ Some next → run next (numbered_parts ys) ≡ said → run builder (numbered_parts (xs ++ ys)) ≡ said
  parts_run builder next xs ys said first rest =
      ap (λ t. run builder (map Some t)) (map-append (line.Recorded n) xs ys) ∙ both_run builder next (map (line.Recorded n) xs) (map (line.Recorded n) ys) said first rest

  frames_run : (verdict : Verdict) (before frames : List Frame) → run (answering verdict before [] []) (numbered_parts (map part.Frame frames)) ≡ Some (answering verdict (before ++ frames) [] [])
  frames_run verdict before [] = ap (λ t. Some (answering verdict t [] [])) (sym (append-nil before))
  frames_run verdict before (frame ∷ frames) =
      part_run (Some (Ok (answer_of verdict before [] []))) (Ok (answer_of verdict (before ++ frame ∷ []) [] [])) (part.Frame frame) _ _ refl
      (frames_run verdict (before ++ frame ∷ []) frames ∙ ap (λ t. Some (answering verdict t [] [])) (append_assoc before (frame ∷ []) frames))

  datagrams_run : (verdict : Verdict) (frames : List Frame) (before datagrams : List OutgoingDatagram) → run (answering verdict frames before []) (numbered_parts (map part.Datagram datagrams)) ≡ Some (answering verdict frames (before ++ datagrams) [])
  datagrams_run verdict frames before [] = ap (λ t. Some (answering verdict frames t [])) (sym (append-nil before))
  datagrams_run verdict frames before (outgoing ∷ datagrams) =
      part_run (Some (Ok (answer_of verdict frames before []))) (Ok (answer_of verdict frames (before ++ outgoing ∷ []) [])) (part.Datagram outgoing) _ _ refl
      (datagrams_run verdict frames (before ++ outgoing ∷ []) datagrams ∙ ap (λ t. Some (answering verdict frames t [])) (append_assoc before (outgoing ∷ []) datagrams))

  notices_run : (verdict : Verdict) (frames : List Frame) (datagrams : List OutgoingDatagram) (before notices : List Notice) → run (answering verdict frames datagrams before) (numbered_parts (map part.Notice notices)) ≡ Some (answering verdict frames datagrams (before ++ notices))
  notices_run verdict frames datagrams before [] = ap (λ t. Some (answering verdict frames datagrams t)) (sym (append-nil before))
  notices_run verdict frames datagrams before (notice ∷ notices) =
      part_run (Some (Ok (answer_of verdict frames datagrams before))) (Ok (answer_of verdict frames datagrams (before ++ notice ∷ []))) (part.Notice notice) _ _ refl
      (notices_run verdict frames datagrams (before ++ notice ∷ []) notices ∙ ap (λ t. Some (answering verdict frames datagrams t)) (append_assoc before (notice ∷ []) notices))

  pub recorded_run : (recorded : Option Outcome) → run (recording None) (numbered_parts (recorded_parts recorded)) ≡ Some (recording recorded)
  recorded_run None = refl
  recorded_run (Some (Err why)) = part_run None (Err why) (part.Fault why) [] _ refl refl
  recorded_run (Some (Ok answer)) =
      part_run None (Ok (answer_of answer.verdict [] [] [])) (part.Verdict answer.verdict) _ _ refl
      (parts_run (answering answer.verdict [] [] []) (answering answer.verdict answer.frames [] []) (map part.Frame answer.frames) _ _ (frames_run answer.verdict [] answer.frames)
      (parts_run (answering answer.verdict answer.frames [] []) (answering answer.verdict answer.frames answer.datagrams []) (map part.Datagram answer.datagrams) _ _ (datagrams_run answer.verdict answer.frames [] answer.datagrams)
      (notices_run answer.verdict answer.frames answer.datagrams [] answer.notices)))

-- all entries
abbrev all_entries : List Entry → Option Entry → List Entry
all_entries entries last = entries ++ option_to_list last

abbrev EntriesRun : Config → List Entry → Option Entry → ℕ → List Entry → Type 0
EntriesRun made_of entries last n events = (entries' : List Entry) × ((last' : Option Entry) × ((run (Events made_of entries last) (map Some (entries_values n events)) ≡ Some (Events made_of entries' last')) × (all_entries entries' last' ≡ all_entries entries last ++ events)))

entries_run : (made_of : Config) (entries : List Entry) (last : Option Entry) (n : ℕ) (events : List Entry) → n ≡ length (all_entries entries last) + 1 → EntriesRun made_of entries last n events
entries_run made_of entries last n [] number = (entries, (last, (refl, sym (append-nil (all_entries entries last)))))
entries_run made_of entries last n ((event, recorded) ∷ events) number =
    let before : List Entry = all_entries entries last in
    let more : length (before ++ (event, recorded) ∷ []) ≡ length before + 1 = length-append before ((event, recorded) ∷ []) in
    let next : n + 1 ≡ length (all_entries (all_entries entries last) (Some (event, recorded))) + 1 = omega (arith, number, more) in
    let (entries', (last', (runs, all))) = entries_run made_of (all_entries entries last) (Some (event, recorded)) (n + 1) events next in
    let one : run (Events made_of entries last) (map Some (entry_values n (event, recorded))) ≡ Some (Events made_of (all_entries entries last) (Some (event, recorded))) =
    recorded_run made_of (all_entries entries last) event n number recorded in
    (entries', (last', (both_run (Events made_of entries last) (Events made_of (all_entries entries last) (Some (event, recorded))) (entry_values n (event, recorded)) (entries_values (n + 1) events) _ one runs, all ∙ append_assoc (all_entries entries last) ((event, recorded) ∷ []) events)))

-- a trace that is read to its end
abbrev TraceRun : Config → List Entry → Type 0
TraceRun made_of events = (end : TraceBuilder) × ((run Empty (map Some (trace_values (record { config = made_of; events = events }))) ≡ Some end) × ((number : ℕ) → parsed number end ≡ judged_by made_of events))

of_entries : (made_of : Config) (values : List TraceLine) (entries : List Entry) (last : Option Entry) (n : ℕ) (events all : List Entry) → run Empty (map Some values) ≡ Some (Events made_of entries last) → n ≡ length (all_entries entries last) + 1 → all_entries entries last ++ events ≡ all → (end : TraceBuilder) × ((run Empty (map Some (values ++ entries_values n events)) ≡ Some end) × ((number : ℕ) → parsed number end ≡ judged_by made_of all))
of_entries made_of values entries last n events all begun number are =
    let (entries', (last', (runs, same))) = entries_run made_of entries last n events number in
    (Events made_of entries' last', (both_run Empty (Events made_of entries last) values (entries_values n events) _ begun runs, λ place. ap (judged_by made_of) (same ∙ are)))

pub trace_run : (made_of : Config) (events : List Entry) → may_follow made_of events ≡ true → TraceRun made_of events
trace_run (config.Adapter profile) events follow = of_entries (config.Adapter profile) (config_values (config.Adapter profile)) [] None 1 events events (adapter_run profile) refl refl
trace_run (config.Scanner profile) [] follow =
    (Slots (scanner_line_of profile) profile.newer (terms_of profile) profile.slots, (ap (λ t. run Empty (map Some t)) (append-nil (config_values (config.Scanner profile))) ∙ scanner_run profile, λ place. refl))
trace_run (config.Scanner profile) ((event, recorded) ∷ events) follow =
    let slots : run Empty (map Some (config_values (config.Scanner profile))) ≡ Some (Slots (scanner_line_of profile) profile.newer (terms_of profile) profile.slots) = scanner_run profile in
    let taken : builder_with (Slots (scanner_line_of profile) profile.newer (terms_of profile) profile.slots) (line.Event event) ≡ Some (Events (config.Scanner profile) [] (Some (event, None))) = first_taken (scanner_line_of profile) profile.newer (terms_of profile) profile.slots event follow in
    let one : run (Slots (scanner_line_of profile) profile.newer (terms_of profile) profile.slots) (map Some (entry_values 1 (event, recorded))) ≡ Some (Events (config.Scanner profile) [] (Some (event, recorded))) =
    first_run (Slots (scanner_line_of profile) profile.newer (terms_of profile) profile.slots) (Events (config.Scanner profile) [] (Some (event, None))) (line.Event event) (map Some (map (line.Recorded 1) (recorded_parts recorded))) _ taken (recorded_run (config.Scanner profile) [] event 1 refl recorded) in
    let front : run Empty (map Some (config_values (config.Scanner profile) ++ entry_values 1 (event, recorded))) ≡ Some (Events (config.Scanner profile) [] (Some (event, recorded))) = both_run Empty (Slots (scanner_line_of profile) profile.newer (terms_of profile) profile.slots) (config_values (config.Scanner profile)) (entry_values 1 (event, recorded)) _ slots one in
    let (end, (runs, ends)) = of_entries (config.Scanner profile) (config_values (config.Scanner profile) ++ entry_values 1 (event, recorded)) [] (Some (event, recorded)) 2 events ((event, recorded) ∷ events) front refl refl in
    (end, (ap (λ t. run Empty (map Some t)) (sym (append_assoc (config_values (config.Scanner profile)) (entry_values 1 (event, recorded)) (entries_values 2 events))) ∙ runs, ends))

-- WHAT IS READ CAN BE WRITTEN

abbrev InOrder : Option TraceBuilder → Type 0
InOrder said = IfSome said (λ next. is_in_order next ≡ true)

order_if : (test : Bool) (next : TraceBuilder) → is_in_order next ≡ true → InOrder (cond test (Some next) None)
order_if true next ordered = ordered
order_if false next ordered = tt

order_map : {A : Type 0} (f : A → TraceBuilder) (value : Option A) → ((a : A) → is_in_order (f a) ≡ true) → InOrder (option_map f value)
order_map f None ordered = tt
order_map f (Some a) ordered = ordered a

order_if_map : {A : Type 0} (test : Bool) (f : A → TraceBuilder) (value : Option A) → ((a : A) → is_in_order (f a) ≡ true) → InOrder (cond test (option_map f value) None)
order_if_map true f value ordered = order_map f value ordered
order_if_map false f value ordered = tt

order_stated : (front : ProfileFront) (given : LimitLine) → InOrder (with_stated front given)
order_stated front given = order_map (λ (more : MakerLimits). Stated (record front { limits = more })) (with_limit front.limits given) (λ more. refl)

order_ids : (front : ProfileFront) (objects : List ℕ) (happens : Event) → InOrder (with_ids front objects happens)
order_ids front objects happens = order_map (λ (block : IdBlock). Counted front objects block) (given_block happens) (λ block. refl)

order_first : (scanner : ScannerLine) (newer : Option ℕ) (terms : ScannerTerms) (slots : List SlotConfig) (happens : Event) (early : Option IdBlock) → early_block slots happens ≡ early → InOrder (with_event scanner newer terms slots happens early)
order_first scanner newer terms slots happens (Some block) early = order_if (is_none terms.ids) (Slots scanner newer (record terms { ids = Some block }) slots) refl
order_first scanner newer terms slots happens None early = ap is_none early

order_event : (made_of : Config) (entries : List Entry) (last : Option Entry) (happens : Event) → is_in_order (Events made_of entries last) ≡ true → is_in_order (Events made_of (entries ++ option_to_list last) (Some (happens, None))) ≡ true
order_event (config.Adapter profile) entries last happens ordered = refl
order_event (config.Scanner profile) entries last happens ordered = begun_more profile.slots (entries ++ option_to_list last) ((happens, None) ∷ []) ordered

order_recorded : (made_of : Config) (entries : List Entry) (last : Entry) (outcome : Outcome) → is_in_order (Events made_of entries (Some last)) ≡ true → is_in_order (Events made_of entries (Some (last.0, Some outcome))) ≡ true
order_recorded (config.Adapter profile) entries last outcome ordered = refl
order_recorded (config.Scanner profile) entries last outcome ordered = begun_same profile.slots entries last (last.0, Some outcome) refl ordered

order_newer : (scanner : ScannerLine) (newer : Option ℕ) (terms : ScannerTerms) (slots : List SlotConfig) (value : LimitLine) → InOrder (with_newer scanner newer terms slots value)
order_newer scanner newer terms slots (limit.Newer within) = order_if (is_none newer && (not terms.tidy && (none_stated terms && eqb (length slots) 0))) (Slots scanner (Some within) terms slots) refl
order_newer scanner newer terms slots other = tt

-- a line that is allowed keeps it so
order_on : (builder : TraceBuilder) (value : TraceLine) → is_in_order builder ≡ true → InOrder (builder_with builder value)
order_on Empty (line.Adapter value) ordered = refl
order_on Empty (line.Scanner value) ordered = refl
order_on (Points adapter outputs inputs) (line.Output value) ordered = order_if (eqb (length inputs) 0) (Points adapter (outputs ++ value ∷ []) inputs) refl
order_on (Points adapter outputs inputs) (line.Input value) ordered = refl
order_on (Points adapter outputs inputs) (line.Config value) ordered = refl
order_on (Points adapter outputs inputs) (line.Description value) ordered = refl
order_on (Points adapter outputs inputs) (line.Limit value) ordered = order_stated (front_of adapter outputs inputs None None) value
order_on (Points adapter outputs inputs) (line.Object value) ordered = refl
order_on (Points adapter outputs inputs) (line.Event value) ordered = order_ids (front_of adapter outputs inputs None None) [] value
order_on (Points adapter outputs inputs) (line.Heartbeat value) ordered = refl
order_on (Configured adapter outputs inputs point) (line.Description value) ordered = refl
order_on (Configured adapter outputs inputs point) (line.Limit value) ordered = order_stated (front_of adapter outputs inputs (Some point) None) value
order_on (Configured adapter outputs inputs point) (line.Object value) ordered = refl
order_on (Configured adapter outputs inputs point) (line.Event value) ordered = order_ids (front_of adapter outputs inputs (Some point) None) [] value
order_on (Configured adapter outputs inputs point) (line.Heartbeat value) ordered = refl
order_on (Stated front) (line.Limit value) ordered = order_stated front value
order_on (Stated front) (line.Object value) ordered = refl
order_on (Stated front) (line.Event value) ordered = order_ids front [] value
order_on (Stated front) (line.Heartbeat value) ordered = refl
order_on (Objects front objects) (line.Object value) ordered = refl
order_on (Objects front objects) (line.Event value) ordered = order_ids front objects value
order_on (Objects front objects) (line.Heartbeat value) ordered = refl
order_on (Counted front objects block) (line.Heartbeat value) ordered = refl
order_on (Slots scanner newer terms slots) (line.Limit value) ordered = order_newer scanner newer terms slots value
order_on (Slots scanner newer terms slots) (line.Term said) ordered = order_if_map (eqb (length slots) 0) (λ (more : ScannerTerms). Slots scanner newer more slots) (with_line terms said) (λ more. refl)
order_on (Slots scanner newer terms slots) (line.Slot value) ordered = refl
order_on (Slots scanner newer terms slots) (line.Event value) ordered = order_first scanner newer terms slots value (early_block slots value) refl
order_on (Events made_of entries None) (line.Event value) ordered = order_event made_of entries None value ordered
order_on (Events made_of entries (Some last)) (line.Event value) ordered = order_event made_of entries (Some last) value ordered
order_on (Events made_of entries (Some last)) (line.Recorded number value) ordered =
    order_if_map (eqb number (length entries + 1)) (λ (outcome : Outcome). Events made_of entries (Some (last.0, Some outcome))) (recorded_with last.1 value) (λ outcome. order_recorded made_of entries last outcome ordered)
order_on builder value ordered = tt

order_from : (said : Option TraceBuilder) (next : TraceBuilder) → InOrder said → said ≡ Some next → is_in_order next ≡ true
order_from None next ordered is = absurd (cc)
order_from (Some own) next ordered is = ap is_in_order (sym (some_is own next is)) ∙ ordered

-- and so do lines
pub run_in_order : (builder : TraceBuilder) (lines : List (Option TraceLine)) (end : TraceBuilder) → is_in_order builder ≡ true → run builder lines ≡ Some end → is_in_order end ≡ true
run_in_order builder [] end ordered is = ap is_in_order (sym (some_is builder end is)) ∙ ordered
run_in_order builder (None ∷ lines) end ordered is = absurd (cc)
run_in_order builder (Some value ∷ lines) end ordered is =
    let (next, (first, rest)) = found_in (λ next. run next lines) (builder_with builder value) end is in
    run_in_order next lines end (order_from (builder_with builder value) next (order_on builder value ordered) first) rest
