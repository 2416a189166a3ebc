-- A trace that is written is read as itself.
use Rattle.std.proofs.Common.{◌≡◌, ℕ, ◌<◌, ◌^◌, ◌+◌, ◌-◌, ◌==◌, nat_le, true, false, List, [], ◌∷◌, ◌++◌, length, Option, Some, None, Ok, refl, sym, ap, ◌∙◌, arith, append_assoc}
use Rattle.std.specs.Prelude.{IfSome, option_to_list}
use Rattle.std.specs.List.{All, list_all}
use Rattle.std.proofs.lemmas.Bool.{and_parts, not-false}
use Rattle.std.proofs.lemmas.Bool.Decides.{nat_tests}
use Rattle.std.proofs.lemmas.List.{append-nil, length-append}
use Rattle.adapter_table.specs.declared.profile.Profile.{Profile}
use Rattle.adapter_table.specs.Profiles.{profile_fault}
use Rattle.adapter_table.specs.Shaping.{all_pass}
use Rattle.cip_events.specs.declared.event.Event.{Event}
use Rattle.cip_events.specs.Outcomes.{Outcome}
use Rattle.cip_tables.specs.declared.table.Config.{Config}
use Rattle.cip_tables.specs.declared.table.Config.TheVariants as config
use Rattle.cip_tables.specs.Step.{config_fault}
use Rattle.trace_lines.specs.WrittenProfiles.{profile_text}
use Rattle.trace_text.specs.declared.builder.TraceBuilder.TheVariants.{Empty, Slots, Events}
use Rattle.trace_text.specs.declared.trace.Trace.{Trace}
use Rattle.trace_text.specs.Reading.{Entry, trace_reading, parsed_from, parsed, judged, parts_of}
use Rattle.trace_text.specs.Written.{event_words, recorded_text, entries_text, trace_text}
use Rattle.trace_words.specs.Words.{line_text}
use Rattle.scanner_table.specs.declared.profile.ScannerProfile.{ScannerProfile}
use Rattle.scanner_table.specs.Profiles as scanner
use Rattle.trace_lines.specs.Slots.{terms_of, scanner_text}
use Rattle.trace_laws.specs.TraceBack.{ProfileFits, ScannerFits, OutcomeFits, EntryFits}
use Rattle.trace_laws.proofs.ProfileLaws.{profile_read}
use Rattle.trace_laws.proofs.EventLaws.{event_read, event_reads, taken_first}
use Rattle.trace_laws.proofs.OutcomeLaws.{outcome_read}
use Rattle.trace_laws.proofs.ScannerLaws.{scanner_line, scanner_read}
use Rattle.trace_laws.proofs.TextLaws.{first_of, rest_of, Reads, reads_none, reads_both}

-- what is recorded of the last event
recorded_read : (made_of : Config) (entries : List Entry) (event : Event) (n : ℕ) (recorded : Option Outcome) → n < 2 ^ 64 → n ≡ length entries + 1 → IfSome recorded OutcomeFits → Reads (Events made_of entries (Some (event, None))) (recorded_text n recorded) (Events made_of entries (Some (event, recorded)))
recorded_read made_of entries event n None fits number fit = reads_none (Events made_of entries (Some (event, None)))
recorded_read made_of entries event n (Some outcome) fits number fit = outcome_read made_of entries event n fits number outcome fit

-- all entries so far
abbrev so_far : List Entry → Option Entry → List Entry
so_far entries last = entries ++ option_to_list last

abbrev ReadsOn : Config → List Entry → Option Entry → List ℕ → List Entry → Type 0
ReadsOn made_of entries last text events = (entries' : List Entry) × ((last' : Option Entry) × (Reads (Events made_of entries last) text (Events made_of entries' last') × (so_far entries' last' ≡ so_far entries last ++ events)))

one_more : (entries : List Entry) (entry : Entry) → length (entries ++ entry ∷ []) ≡ length entries + 1
one_more entries entry = length-append entries (entry ∷ [])

entries_read : (made_of : Config) (entries : List Entry) (last : Option Entry) (n : ℕ) (events : List Entry) → n ≡ length (so_far entries last) + 1 → n + length events < 2 ^ 64 → All EntryFits events → ReadsOn made_of entries last (entries_text n events) events
entries_read made_of entries last n [] number few fit = (entries, (last, (reads_none (Events made_of entries last), sym (append-nil (so_far entries last)))))
entries_read made_of entries last n ((event, recorded) ∷ events) number few fit =
    let fits : EntryFits (event, recorded) = first_of EntryFits (event, recorded) events fit in
    let small : n < 2 ^ 64 = omega (arith, few) in
    let more = one_more (so_far entries last) (event, recorded) in
    let next : n + 1 ≡ length (so_far (so_far entries last) (Some (event, recorded))) + 1 = omega (arith, number, more) in
    let fewer : n + 1 + length events < 2 ^ 64 = omega (arith, few) in
    let (entries', (last', (reads, all))) = entries_read made_of (so_far entries last) (Some (event, recorded)) (n + 1) events next fewer (rest_of EntryFits (event, recorded) events fit) in
    let one : Reads (Events made_of entries last) (line_text (event_words event)) (Events made_of (so_far entries last) (Some (event, None))) = event_read made_of entries last event fits.0 in
    let two : Reads (Events made_of (so_far entries last) (Some (event, None))) (recorded_text n recorded) (Events made_of (so_far entries last) (Some (event, recorded))) = recorded_read made_of (so_far entries last) event n recorded small number fits.1 in
    (entries', (last', (reads_both _ _ _ _ _ one (reads_both _ _ _ _ _ two reads), all ∙ append_assoc (so_far entries last) ((event, recorded) ∷ []) events)))

good : (trace : Trace) (made_of : Config) → config_fault made_of ≡ None → judged trace (config_fault made_of) ≡ Ok trace
good trace made_of is = ap (judged trace) is

parsed_whole : (made_of : Config) (entries events : List Entry) (last : Option Entry) (number : ℕ) → config_fault made_of ≡ None → so_far entries last ≡ events → parsed number (Events made_of entries last) ≡ Ok (record { config = made_of; events = events })
parsed_whole made_of entries events last number is all =
    good (record { config = made_of; events = so_far entries last }) made_of is ∙ ap (λ es. Ok (record { config = made_of; events = es })) all

led : (made_of : Config) (text : List ℕ) (entries events : List Entry) (last : Option Entry) → Reads Empty text (Events made_of entries last) → config_fault made_of ≡ None → so_far entries last ≡ events → parsed_from 1 (Ok Empty) (parts_of text) ≡ Ok (record { config = made_of; events = events })
led made_of text entries events last reads is all =
    let step = reads.leads [] 1 in
    ap (λ t. parsed_from 1 (Ok Empty) (parts_of t)) (sym (append-nil text)) ∙ step.1 ∙ parsed_whole made_of entries events last step.0 is all

reads_as : (text : List ℕ) (trace : Trace) → parsed_from 1 (Ok Empty) (parts_of text) ≡ Ok trace → trace_reading text ≡ Ok trace
unfolding trace_reading
reads_as text trace is = is

spelled : (profile : Profile) (events : List Entry) → trace_text (record { config = config.Adapter profile; events = events }) ≡ profile_text profile ++ entries_text 1 events
unfolding trace_text
spelled profile events = refl

all_read : (made_of : Config) (front : List ℕ) (events : List Entry) → Reads Empty front (Events made_of [] None) → config_fault made_of ≡ None → ReadsOn made_of [] None (entries_text 1 events) events → parsed_from 1 (Ok Empty) (parts_of (front ++ entries_text 1 events)) ≡ Ok (record { config = made_of; events = events })
all_read made_of front events first is (entries, (last, (reads, all))) = led made_of (front ++ entries_text 1 events) entries events last (reads_both Empty (Events made_of [] None) (Events made_of entries last) front (entries_text 1 events) first reads) is all

pub trace_back : (profile : Profile) (events : List Entry) → ProfileFits profile → profile_fault profile ≡ None → All EntryFits events → length events < 2 ^ 64 - 1 → trace_reading (trace_text (record { config = config.Adapter profile; events = events })) ≡ Ok (record { config = config.Adapter profile; events = events })
trace_back profile events fits is fit few =
    ap trace_reading (spelled profile events)
    ∙ reads_as (profile_text profile ++ entries_text 1 events) (record { config = config.Adapter profile; events = events })
    (all_read (config.Adapter profile) (profile_text profile) events (profile_read profile fits) is (entries_read (config.Adapter profile) [] None 1 events refl (omega (arith, few)) fit))

-- SCANNERS

scanner_spelled : (profile : ScannerProfile) (events : List Entry) → trace_text (record { config = config.Scanner profile; events = events }) ≡ scanner_text profile ++ entries_text 1 events
unfolding trace_text
scanner_spelled profile events = refl

-- a scanner without events
slots_parsed : (profile : ScannerProfile) (number : ℕ) → scanner.profile_fault profile ≡ None → parsed number (Slots (scanner_line profile) profile.newer (terms_of profile) profile.slots) ≡ Ok (record { config = config.Scanner profile; events = [] })
slots_parsed profile number is = good (record { config = config.Scanner profile; events = [] }) (config.Scanner profile) is

no_events : (profile : ScannerProfile) (front : List ℕ) → Reads Empty front (Slots (scanner_line profile) profile.newer (terms_of profile) profile.slots) → scanner.profile_fault profile ≡ None → parsed_from 1 (Ok Empty) (parts_of (front ++ [])) ≡ Ok (record { config = config.Scanner profile; events = [] })
no_events profile front reads is =
    let step = reads.leads [] 1 in
    step.1 ∙ slots_parsed profile step.0 is

-- the first event of a scanner ends its profile
some_slots : (profile : ScannerProfile) → scanner.profile_fault profile ≡ None → (length profile.slots == 0) ≡ false
unfolding scanner.profile_fault
some_slots profile none =
    let served : scanner.are_served profile ≡ true = not-false (scanner.are_served profile) (all_pass (scanner.profile_tests profile) none).1.0 in
    let few : scanner.are_few profile.slots ≡ true = (and_parts (scanner.are_few profile.slots) (list_all scanner.listens_to_group profile.slots) served).0 in
    let one = (and_parts (nat_le 1 (length profile.slots)) (nat_le (length profile.slots) 64) few).0 in
    grind (arith, nat_tests, one)

first_entry : (profile : ScannerProfile) (event : Event) (recorded : Option Outcome) (events : List Entry) → (length profile.slots == 0) ≡ false → 1 + length ((event, recorded) ∷ events) < 2 ^ 64 → All EntryFits ((event, recorded) ∷ events)
    → (entries : List Entry) × ((last : Option Entry) × (Reads (Slots (scanner_line profile) profile.newer (terms_of profile) profile.slots) (entries_text 1 ((event, recorded) ∷ events)) (Events (config.Scanner profile) entries last) × (so_far entries last ≡ (event, recorded) ∷ events)))
first_entry profile event recorded events some few fit =
    let fits : EntryFits (event, recorded) = first_of EntryFits (event, recorded) events fit in
    let one : Reads (Slots (scanner_line profile) profile.newer (terms_of profile) profile.slots) (line_text (event_words event)) (Events (config.Scanner profile) [] (Some (event, None))) = event_reads (Slots (scanner_line profile) profile.newer (terms_of profile) profile.slots) (Events (config.Scanner profile) [] (Some (event, None))) event fits.0 (taken_first (scanner_line profile) profile.newer (terms_of profile) profile.slots event some) in
    let two : Reads (Events (config.Scanner profile) [] (Some (event, None))) (recorded_text 1 recorded) (Events (config.Scanner profile) [] (Some (event, recorded))) = recorded_read (config.Scanner profile) [] event 1 recorded (omega arith) refl fits.1 in
    let fewer : 2 + length events < 2 ^ 64 = omega (arith, few) in
    let (entries, (last, (reads, all))) = entries_read (config.Scanner profile) [] (Some (event, recorded)) 2 events refl fewer (rest_of EntryFits (event, recorded) events fit) in
    (entries, (last, (reads_both _ _ _ _ _ one (reads_both _ _ _ _ _ two reads), all)))

scanner_events : (profile : ScannerProfile) (front : List ℕ) (events : List Entry) → Reads Empty front (Slots (scanner_line profile) profile.newer (terms_of profile) profile.slots) → scanner.profile_fault profile ≡ None → 1 + length events < 2 ^ 64 → All EntryFits events → parsed_from 1 (Ok Empty) (parts_of (front ++ entries_text 1 events)) ≡ Ok (record { config = config.Scanner profile; events = events })
scanner_events profile front [] reads is few fit = no_events profile front reads is
scanner_events profile front ((event, recorded) ∷ events) reads is few fit =
    let (entries, (last, (more, all))) = first_entry profile event recorded events (some_slots profile is) few fit in
    led (config.Scanner profile) (front ++ entries_text 1 ((event, recorded) ∷ events)) entries ((event, recorded) ∷ events) last (reads_both Empty (Slots (scanner_line profile) profile.newer (terms_of profile) profile.slots) (Events (config.Scanner profile) entries last) front (entries_text 1 ((event, recorded) ∷ events)) reads more) is all

pub scanner_trace_back : (profile : ScannerProfile) (events : List Entry) → ScannerFits profile → scanner.profile_fault profile ≡ None → All EntryFits events → length events < 2 ^ 64 - 1 → trace_reading (trace_text (record { config = config.Scanner profile; events = events })) ≡ Ok (record { config = config.Scanner profile; events = events })
scanner_trace_back profile events fits is fit few =
    ap trace_reading (scanner_spelled profile events)
    ∙ reads_as (scanner_text profile ++ entries_text 1 events) (record { config = config.Scanner profile; events = events })
    (scanner_events profile (scanner_text profile) events (scanner_read profile fits) is (omega (arith, few)) fit)
