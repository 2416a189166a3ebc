-- A record with one entry more.
use Rattle.std.proofs.Common.{append_assoc, ◌≡◌, ◌≢◌, ℕ, ◌+◌, ◌-◌, ◌^◌, min, List, [], ◌∷◌, ◌++◌, length, Option, Some, None, Ok, Err, refl, sym, ap, subst, ◌∙◌, arith}
use Rattle.std.specs.Prelude.{IfSome, IsSome}
use Rattle.std.specs.Io.KnownBytes.{Appends}
use Rattle.std.proofs.lemmas.List.{append-nil, length-append}
use Rattle.cip_events.specs.declared.event.Event.{Event}
use Rattle.cip_events.specs.declared.event.StepFault.TheVariants as fault
use Rattle.cip_events.specs.Outcomes.{Outcome}
use Rattle.cip_tables.specs.declared.table.Config.{Config}
use Rattle.trace_text.specs.Written.{config_lines}
use Rattle.station_record.specs.Records.{GoesOn, IsNoted, IsRecordedAs, IsTextOf, Records, SaysEnd, entries_of, entries_text, entry_text, left_after, next_number, record_text, said_end}
use Rattle.station_record.specs.declared.fault.RecordFault.{RecordFault}
use Rattle.station_record.specs.declared.recorder.Recorder.{Recorder}

-- entries, and one more
entries_and : (number : ℕ) (entries : List (Event × Outcome)) (event : Event) (outcome : Outcome) → entries_text number (entries ++ (event, outcome) ∷ []) ≡ entries_text number entries ++ entry_text (number + length entries) event outcome
entries_and number [] event outcome =
    let here : number ≡ number + 0 = omega arith in
    append-nil (entry_text number event outcome) ∙ ap (λ n. entry_text n event outcome) here
entries_and number (entry ∷ entries) event outcome =
    let place : number + 1 + length entries ≡ number + length (entry ∷ entries) = omega arith in
    let lines : List ℕ = entry_text number entry.0 entry.1 in
    ap (λ rest. lines ++ rest) (entries_and (number + 1) entries event outcome ∙ ap (λ n. entries_text (number + 1) entries ++ entry_text n event outcome) place)
    ∙ sym (append_assoc lines (entries_text (number + 1) entries) _)

-- the text of a record with one entry more
grows : (config : Config) (entries : List (Event × Outcome)) (event : Event) (outcome : Outcome) → record_text config (entries ++ (event, outcome) ∷ []) ≡ record_text config entries ++ entry_text (length entries + 1) event outcome
grows config entries event outcome =
    let number : 1 + length entries ≡ length entries + 1 = omega arith in
    ap (λ text. config_lines config ++ text) (entries_and 1 entries event outcome ∙ ap (λ n. entries_text 1 entries ++ entry_text n event outcome) number)
    ∙ sym (append_assoc (config_lines config) (entries_text 1 entries) (entry_text (length entries + 1) event outcome))

-- the text of a record without entries
begins : (config : Config) → record_text config [] ≡ config_lines config
begins config = append-nil (config_lines config)

-- a record that begins
pub begun : {W : Type 0} (contents : W → Option (List ℕ)) (old new : W) (recorder : Recorder W) (head : List ℕ) (config : Config) (text : List ℕ) → contents old ≡ Some [] → text ≡ head ++ config_lines config → Appends (contents old) (contents new) text → recorder.out ≡ Some new → recorder.count ≡ 0 → Records contents recorder head config []
begun {W} contents old new recorder head config text empty is more opened count = record {
  counts = count;
  text = subst (λ out. IfSome out (λ w. IsTextOf (contents w) head config [])) (sym opened) (first (contents new) (subst (λ known. Appends known (contents new) text) empty more));
}
  where
    first : (known : Option (List ℕ)) → Appends (Some []) known text → IsTextOf known head config []
    first None given = absurd given
    first (Some bytes) given = given ∙ is ∙ ap (λ lines. head ++ lines) (sym (begins config))

-- the known bytes of a record, with the text of one entry more
appended : (old new : Option (List ℕ)) (head : List ℕ) (config : Config) (entries : List (Event × Outcome)) (event : Event) (outcome : Outcome) → IsTextOf old head config entries → Appends old new (entry_text (length entries + 1) event outcome) → IsTextOf new head config (entries ++ (event, outcome) ∷ [])
appended None new head config entries event outcome had more = absurd had
appended (Some xs) None head config entries event outcome had more = absurd more
appended (Some xs) (Some ys) head config entries event outcome had more =
    let text : List ℕ = entry_text (length entries + 1) event outcome in
    let before : List ℕ = record_text config entries in
    more ∙ ap (λ front. front ++ text) had ∙ append_assoc head before text ∙ ap (λ rest. head ++ rest) (sym (grows config entries event outcome))

-- the same of a record that may be closed
pub recorded : {W : Type 0} (contents : W → Option (List ℕ)) (accepts : W → List ℕ → Type 0) (left : ℕ) (old new : Option W) (number : ℕ) (head : List ℕ) (config : Config) (entries : List (Event × Outcome)) (event : Event) (outcome : Outcome) (answer : Option RecordFault) → number ≡ length entries + 1 → IfSome old (λ out. IsTextOf (contents out) head config entries) → IsRecordedAs contents accepts left old new (entry_text number event outcome) answer → IfSome new (λ out. IsTextOf (contents out) head config (entries ++ (event, outcome) ∷ []))
recorded contents accepts left None None number head config entries event outcome answer count had more = tt
recorded contents accepts left None (Some new) number head config entries event outcome answer count had (none, silent) = absurd (cc)
recorded contents accepts left (Some old) None number head config entries event outcome answer count had more = tt
recorded contents accepts left (Some old) (Some new) number head config entries event outcome (Some fault) count had more = absurd more
recorded contents accepts left (Some old) (Some new) number head config entries event outcome None count had more =
    appended (contents old) (contents new) head config entries event outcome had (subst (λ n. Appends (contents old) (contents new) (entry_text n event outcome)) count more.0)

-- a record that was handed a text says its end
pub says_end : {W : Type 0} (contents : W → Option (List ℕ)) (accepts : W → List ℕ → Type 0) (left : ℕ) (old new : Option W) (text : List ℕ) (before answer after : Option RecordFault) → IsRecordedAs contents accepts left old new text answer → after ≡ said_end before answer → SaysEnd old new before after
says_end contents accepts left None new text before answer after (none, silent) is = (none, is ∙ ap (said_end before) silent)
says_end contents accepts left (Some old) None text before None after more is = absurd more
says_end contents accepts left (Some old) None text before (Some fault) after more is = subst IsSome (sym is) refl
says_end contents accepts left (Some old) (Some new) text before None after more is = is
says_end contents accepts left (Some old) (Some new) text before (Some fault) after more is = absurd more

pub says_nothing : {W : Type 0} (out : Option W) (ended : Option RecordFault) → SaysEnd out out ended ended
says_nothing None ended = (refl, refl)
says_nothing (Some out) ended = refl

-- the entry of an event that found memory
entry_is : (event : Event) (outcome : Outcome) → outcome ≢ Err fault.OutOfMemory → entries_of event outcome ≡ (event, outcome) ∷ []
entry_is event (Ok answer) other = refl
entry_is event (Err fault.OutOfMemory) other = absurd (other refl)
entry_is event (Err fault.TickTooLong) other = refl
entry_is event (Err fault.ClockEnd) other = refl
entry_is event (Err fault.NoSuchPoint) other = refl
entry_is event (Err fault.WrongLength) other = refl
entry_is event (Err fault.NoSuchSlot) other = refl
entry_is event (Err fault.NotAllowedNow) other = refl

-- an event that found no memory changes nothing
pub notes_nothing : {W : Type 0} (contents : W → Option (List ℕ)) (recorder : Recorder W) (event : Event) (outcome : Outcome) → outcome ≡ Err fault.OutOfMemory → GoesOn contents recorder event outcome recorder
notes_nothing contents recorder event outcome is head config entries few had =
    let same : entries ++ entries_of event outcome ≡ entries = ap (λ o. entries ++ entries_of event o) is ∙ append-nil entries in
    subst (Records contents recorder head config) (sym same) had

-- each other event is an entry more
pub notes_entry : {W : Type 0} (contents : W → Option (List ℕ)) (accepts : W → List ℕ → Type 0) (old new : Recorder W) (event : Event) (outcome : Outcome) (answer : Option RecordFault) (number : ℕ) → outcome ≢ Err fault.OutOfMemory → number ≡ min (old.count + 1) (2 ^ 64 - 1) → new.count ≡ number → IsRecordedAs contents accepts old.left old.out new.out (entry_text number event outcome) answer → GoesOn contents old event outcome new
notes_entry contents accepts old new event outcome answer number other rises count more head config entries few had =
    let next : number ≡ length entries + 1 = grind (arith, rises, had.counts, few) in
    let longer : length (entries ++ (event, outcome) ∷ []) ≡ length entries + 1 = length-append entries _ in
    subst (λ last. Records contents new head config (entries ++ last)) (sym (entry_is event outcome other))
    (record {
      counts = count ∙ next ∙ sym longer;
      text = recorded contents accepts old.left old.out new.out number head config entries event outcome answer next had.text more;
    })

-- what was handed to the record, if the event found memory
pub is_noted : {W : Type 0} (contents : W → Option (List ℕ)) (accepts : W → List ℕ → Type 0) (old new : Recorder W) (event : Event) (outcome : Outcome) (answer : Option RecordFault) → outcome ≢ Err fault.OutOfMemory → IsRecordedAs contents accepts old.left old.out new.out (entry_text (next_number old) event outcome) answer → new.ended ≡ said_end old.ended answer → new.left ≡ left_after new.out old.left (entry_text (next_number old) event outcome) → IsNoted contents accepts old event outcome new answer
is_noted contents accepts old new event (Ok answer) given other more is room = (more, (is, room))
is_noted contents accepts old new event (Err fault.OutOfMemory) given other more is room = absurd (other refl)
is_noted contents accepts old new event (Err fault.TickTooLong) given other more is room = (more, (is, room))
is_noted contents accepts old new event (Err fault.ClockEnd) given other more is room = (more, (is, room))
is_noted contents accepts old new event (Err fault.NoSuchPoint) given other more is room = (more, (is, room))
is_noted contents accepts old new event (Err fault.WrongLength) given other more is room = (more, (is, room))
is_noted contents accepts old new event (Err fault.NoSuchSlot) given other more is room = (more, (is, room))
is_noted contents accepts old new event (Err fault.NotAllowedNow) given other more is room = (more, (is, room))

pub is_noted_nothing : {W : Type 0} (contents : W → Option (List ℕ)) (accepts : W → List ℕ → Type 0) (recorder : Recorder W) (event : Event) (outcome : Outcome) → outcome ≡ Err fault.OutOfMemory → IsNoted contents accepts recorder event outcome recorder None
is_noted_nothing contents accepts recorder event outcome is = subst (λ o. IsNoted contents accepts recorder event o recorder None) (sym is) (refl, refl)
