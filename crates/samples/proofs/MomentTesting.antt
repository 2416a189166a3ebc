-- The laws of two moments pass their tests.
use Rattle.std.proofs.Common.{◌≡◌, ℕ, ◌==◌, ◌&&◌, ◌||◌, ◌⊎◌, ◌++◌, Bool, true, List, [], ◌∷◌, inl, inr, replicate, slice_get, unwrap_or, Option, Some, Result, Ok, refl, ◌∙◌, ap}
use Rattle.std.specs.Int.{w32, to_le_bytes}
use Rattle.std.specs.List.{AllByRecursion}
use Rattle.std.specs.Str.{bytes_eq}
use Rattle.std.proofs.lemmas.Bool.{and_parts}
use Rattle.cip_datagram.specs.Header.{mode_header}
use Rattle.cip_events.specs.declared.event.Event.{Event}
use Rattle.cip_events.specs.declared.event.Event.TheVariants.{Write}
use Rattle.adapter_table.specs.Points.{bytes_at}
use Rattle.adapter_table.specs.Productions.{producer_of}
use Rattle.scanner_table.specs.declared.profile.ScannerProfile.{ScannerProfile}
use Rattle.scanner_table.specs.declared.table.ScannerTable.{ScannerTable}
use Rattle.scanner_table.specs.Slots.{IndexedSlot, indexed_slots}
use Rattle.scanner_table.specs.Step.{scanner_table}
use Rattle.scanner_table.specs.Runs.{table_after}
use Rattle.device_laws.specs.Scratch.{last_output}
use Rattle.cip_tables.specs.declared.table.Config.{Config}
use Rattle.cip_tables.specs.declared.table.Config.TheVariants as config
use Rattle.cip_tables.specs.declared.table.DeviceTable.{DeviceTable}
use Rattle.cip_tables.specs.declared.table.DeviceTable.TheVariants.{Scanner}
use Rattle.segment_world.specs.declared.act.Act.{Act}
use Rattle.segment_world.specs.declared.act.ActFault.{ActFault}
use Rattle.segment_world.specs.Configs.{opening_world}
use Rattle.segment_world.specs.Story.{Story, begins, events_of, runs}
use Rattle.device_laws.specs.Made.{Made}
use Rattle.device_laws.specs.Productions.{End, Production}
use Rattle.device_laws.specs.ProductionRuns.{opening_number}
use Rattle.schedule_laws.specs.OpeningNumbers.{HasOpening, OpeningNumbersNameOneSlot}
use Rattle.schedule_laws.specs.ScheduledOpenings.{SchedulesNameOneSlot}
use Rattle.schedule_laws.specs.Chronicle.{Acceptance, Chronicle, blank, chronicles, then_act}
use Rattle.schedule_laws.specs.Written.{CarriesValue, HappensNext, HeldInput, HeldOutput, IsMomentOf, WasInput, WasWritten}
use Rattle.samples.specs.MomentTests.{adapter_held, any_moment, began_and_held, carries_value, event_writes, happening_writes, has_opening, held_input, held_output, is_input, is_one_slot, is_still, is_written, next_writes, once, one_slot_has, passes_at, row_held, scanner_held, slot_held, was_input, was_written, were_inputs, were_written}
use Rattle.samples.proofs.Passing.{all_pass, both, bytes_are, left_passes, number_is, one_passes, right_passes, slot_among, slots_pass, then_passes, number_found}

-- ---- which slot has an opening number

one_slot_step : (number : ℕ) (t u : ScannerTable) → ((first later : IndexedSlot) → HasOpening t first number → HasOpening u later number → first.number ≡ later.number) → one_slot_has number t u ≡ true
one_slot_step number t u law =
    slots_pass t (is_still number u) (λ first here. slots_pass u (is_one_slot number first) (λ later there.
    then_passes (has_opening number first && has_opening number later) (first.number == later.number) (λ have.
    let parts = and_parts (has_opening number first) (has_opening number later) have in
    number_is first.number later.number
    (law first later (record { there = here; has = number_found number (opening_number first.slot.state) parts.0 }) (record { there = there; has = number_found number (opening_number later.slot.state) parts.1 })))))

-- after any events, and after any more
pub one_slot_passes : OpeningNumbersNameOneSlot → (profile : ScannerProfile) (events more : List Event) (number : ℕ) → one_slot_has number (table_after (scanner_table profile) events) (table_after (scanner_table profile) (events ++ more)) ≡ true
one_slot_passes law profile events more number =
    one_slot_step number (table_after (scanner_table profile) events) (table_after (scanner_table profile) (events ++ more))
    (λ first later here there. law profile events more first later number here there)

-- after any acts, and after any more
pub one_slot_in_schedules : SchedulesNameOneSlot → (configs : List Config) (acts more : List Act) (device : ℕ) (profile : ScannerProfile) (was now : Story) (t u : ScannerTable) (number : ℕ) → slice_get configs device ≡ Some (config.Scanner profile) → runs (begins (opening_world configs)) acts ≡ Ok was → runs (begins (opening_world configs)) (acts ++ more) ≡ Ok now → slice_get was.world.tables device ≡ Some (Scanner t) → slice_get now.world.tables device ≡ Some (Scanner u) → one_slot_has number t u ≡ true
one_slot_in_schedules law configs acts more device profile was now t u number is first then here there =
    one_slot_step number t u (λ one two has keeps.
    law configs acts more device profile one two number is (record { story = was; ran = first; table = t; there = here; has = has }) (record { story = now; ran = then; table = u; there = there; has = keeps }))

-- ---- some moment

here_passes : (test : Chronicle → List Act → Bool) (r : Result Chronicle ActFault) (late : List Act) → passes_at test r late ≡ true → any_moment test r late ≡ true
here_passes test r [] is = is
here_passes test r (act ∷ acts) is = left_passes (passes_at test r (act ∷ acts)) (any_moment test (then_act r act) acts) is

moment_passes : (test : Chronicle → List Act → Bool) (r : Result Chronicle ActFault) (early late : List Act) (was : Chronicle) → chronicles r early ≡ Ok was → test was late ≡ true → any_moment test r (early ++ late) ≡ true
unfolding chronicles
moment_passes test r [] late was ran is = here_passes test r late (ap (λ (x : Result Chronicle ActFault). passes_at test x late) ran ∙ is)
moment_passes test r (act ∷ early) late was ran is =
    right_passes (passes_at test r (act ∷ (early ++ late))) (any_moment test (then_act r act) (early ++ late)) (moment_passes test (then_act r act) early late was ran is)

once_passes : (test : Chronicle → List Act → Bool) (configs : List Config) (acts : List Act) (was : Chronicle) (moment : IsMomentOf configs acts was) → test was moment.late ≡ true → once test configs acts ≡ true
once_passes test configs acts was moment is =
    ap (λ (all : List Act). once test configs all) moment.parts ∙ moment_passes test (Ok (blank (opening_world configs))) moment.early moment.late was moment.is.ran is

-- ---- what was written before

held_output_passes : (configs : List Config) (opening : End) (bytes : List ℕ) (was : Chronicle) (late : List Act) → HeldOutput configs was opening bytes → held_output configs opening bytes was late ≡ true
held_output_passes configs opening bytes was late held =
    let written = unwrap_or (last_output held.place.number held.first (events_of opening.device was.story.reported)) (replicate held.place.config.out_len 0) in
    ap (λ (found : Option DeviceTable). began_and_held was opening bytes found) held.begins
    ∙ ap (λ (found : Option DeviceTable). scanner_held was held.first opening bytes found) held.there
    ∙ one_passes (slot_held was held.first opening bytes) (indexed_slots held.table) held.place (slot_among held.table held.place.number held.place held.at)
    (both held.came (both (bytes_are bytes held.place.slot.output held.output) (bytes_are bytes written held.written)))

carries_passes : (m : Made) → CarriesValue m → carries_value m ≡ true
carries_passes m (inl value) =
    left_passes (bytes_eq m.datagram.payload (to_le_bytes w32 (mode_header m.run) ++ m.value)) (bytes_eq m.datagram.payload []) (bytes_are m.datagram.payload (to_le_bytes w32 (mode_header m.run) ++ m.value) value)
carries_passes m (inr none) =
    right_passes (bytes_eq m.datagram.payload (to_le_bytes w32 (mode_header m.run) ++ m.value)) (bytes_eq m.datagram.payload []) (bytes_are m.datagram.payload [] none)

pub value_passes : (configs : List Config) (acts : List Act) (p : Production) → WasWritten configs acts p → was_written configs acts p ≡ true
value_passes configs acts p is =
    both (once_passes (held_output configs p.producer p.made.value) configs acts is.was is.moment (held_output_passes configs p.producer p.made.value is.was is.moment.late is.held)) (carries_passes p.made is.carries)

-- each that was accepted was written before
abbrev pub AreWritten : List Config → List Act → Chronicle → Type 0
AreWritten configs acts c = AllByRecursion (λ (a : Acceptance). WasWritten configs acts a.production) c.accepted

pub were_written_passes : (configs : List Config) (acts : List Act) (c : Chronicle) → AreWritten configs acts c → were_written configs acts c ≡ true
were_written_passes configs acts c law =
    all_pass (λ (a : Acceptance). WasWritten configs acts a.production) (is_written configs acts) (λ a is. value_passes configs acts a.production is) c.accepted law

-- ---- what was an input before

next_step : (was : Chronicle) (late : List Act) (device point : ℕ) (bytes : List ℕ) → HappensNext was late device (Write point bytes) → next_writes was late device point bytes ≡ true
next_step was late device point bytes next =
    ap (λ (acts : List Act). next_writes was acts device point bytes) next.parts
    ∙ ap (happening_writes device point bytes) next.is
    ∙ both (number_is next.reported.device device next.device_is)
    (ap (event_writes point bytes) next.event_is ∙ both (number_is point point refl) (bytes_are bytes bytes refl))

held_input_passes : (producer : End) (bytes : List ℕ) (was : Chronicle) (late : List Act) → HeldInput was late producer bytes → held_input producer bytes was late ≡ true
held_input_passes producer bytes was late held =
    ap (adapter_held was late producer bytes) held.there
    ∙ one_passes (row_held was late held.table producer bytes) held.table.rows held.row held.among
    (both (both held.established (number_is (producer_of held.row.state) producer.number held.number)) (step held.input))
  where
    input : List ℕ
    input = unwrap_or (bytes_at held.table.values held.row.produced) []

    step : (bytes ≡ input) ⊎ HappensNext was late producer.device (Write held.row.produced bytes) → (bytes_eq bytes input || next_writes was late producer.device held.row.produced bytes) ≡ true
    step (inl is) = left_passes (bytes_eq bytes input) (next_writes was late producer.device held.row.produced bytes) (bytes_are bytes input is)
    step (inr next) = right_passes (bytes_eq bytes input) (next_writes was late producer.device held.row.produced bytes) (next_step was late producer.device held.row.produced bytes next)

pub input_passes : (configs : List Config) (acts : List Act) (p : Production) → WasInput configs acts p → was_input configs acts p ≡ true
input_passes configs acts p is =
    both (once_passes (held_input p.producer p.made.value) configs acts is.was is.moment (held_input_passes p.producer p.made.value is.was is.moment.late is.held)) (bytes_are p.made.datagram.payload p.made.value is.carries)

abbrev pub AreInputs : List Config → List Act → Chronicle → Type 0
AreInputs configs acts c = AllByRecursion (λ (a : Acceptance). WasInput configs acts a.production) c.accepted

pub were_inputs_passes : (configs : List Config) (acts : List Act) (c : Chronicle) → AreInputs configs acts c → were_inputs configs acts c ≡ true
were_inputs_passes configs acts c law =
    all_pass (λ (a : Acceptance). WasInput configs acts a.production) (is_input configs acts) (λ a is. input_passes configs acts a.production is) c.accepted law
