-- Entries that are appended to the text of a trace.
use Rattle.std.proofs.Common.{◌≡◌, ℕ, ◌+◌, List, [], ◌∷◌, ◌++◌, length, sym, ap, ◌∙◌, arith, append_assoc}
use Rattle.std.proofs.lemmas.List.{append-nil}
use Rattle.cip_tables.specs.declared.table.Config.{Config}
use Rattle.trace_words.specs.Words.{line_text}
use Rattle.trace_text.specs.Reading.{Entry}
use Rattle.trace_text.specs.Written.{config_lines, event_words, recorded_text, entries_text, trace_text}

abbrev entry_text : ℕ → Entry → List ℕ
entry_text number entry = line_text (event_words entry.0) ++ recorded_text number entry.1

one_more : (number : ℕ) (entries : List Entry) (last : Entry) → entries_text number (entries ++ last ∷ []) ≡ entries_text number entries ++ entry_text (number + length entries) last
one_more number [] last =
    let here : number ≡ number + 0 = omega arith in
    ap (λ text. line_text (event_words last.0) ++ text) (append-nil _) ∙ ap (λ n. entry_text n last) here
one_more number (entry ∷ entries) last =
    let place : number + 1 + length entries ≡ number + length (entry ∷ entries) = omega arith in
    let front : List ℕ = line_text (event_words entry.0) in
    ap (λ rest. front ++ (recorded_text number entry.1 ++ rest)) (one_more (number + 1) entries last ∙ ap (λ n. entries_text (number + 1) entries ++ entry_text n last) place)
    ∙ ap (λ rest. front ++ rest) (sym (append_assoc (recorded_text number entry.1) (entries_text (number + 1) entries) _))
    ∙ sym (append_assoc front (recorded_text number entry.1 ++ entries_text (number + 1) entries) _)

pub trace_begins : (made_of : Config) → trace_text (record { config = made_of; events = [] }) ≡ config_lines made_of
unfolding trace_text
trace_begins made_of = append-nil (config_lines made_of)

pub trace_grows : (made_of : Config) (events : List Entry) (entry : Entry) → trace_text (record { config = made_of; events = events ++ entry ∷ [] }) ≡ trace_text (record { config = made_of; events = events }) ++ (line_text (event_words entry.0) ++ recorded_text (length events + 1) entry.1)
unfolding trace_text
trace_grows made_of events entry =
    let number : 1 + length events ≡ length events + 1 = omega arith in
    ap (λ text. config_lines made_of ++ text) (one_more 1 events entry ∙ ap (λ n. entries_text 1 events ++ entry_text n entry) number)
    ∙ sym (append_assoc (config_lines made_of) (entries_text 1 events) (entry_text (length events + 1) entry))
