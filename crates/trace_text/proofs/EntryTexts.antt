-- Entries that are written one after the other.
use Rattle.std.proofs.Common.{◌≡◌, ℕ, ◌+◌, ◌<◌, List, [], ◌∷◌, ◌++◌, length, take, get_or, sym, ap, ◌∙◌, arith, append_assoc}
use Rattle.std.proofs.lemmas.List.{append-nil, take_more, length-take}
use Rattle.trace_text.specs.Reading.{Entry}
use Rattle.trace_text.specs.Written.{event_words, recorded_text, entries_text}
use Rattle.trace_words.specs.Words.{line_text}

abbrev pub entry_text : ℕ → Entry → List ℕ
entry_text number entry = line_text (event_words entry.0) ++ recorded_text number entry.1

entries_text-push : (number : ℕ) (entries : List Entry) (last : Entry) → entries_text number (entries ++ last ∷ []) ≡ entries_text number entries ++ entry_text (number + length entries) last
entries_text-push number [] last =
    let here : number ≡ number + 0 = omega arith in
    ap (λ text. line_text (event_words last.0) ++ text) (append-nil _) ∙ ap (λ n. entry_text n last) here
entries_text-push number (entry ∷ entries) last =
    let place : number + 1 + length entries ≡ number + length (entry ∷ entries) = omega arith in
    let front : List ℕ = line_text (event_words entry.0) in
    ap (λ rest. front ++ (recorded_text number entry.1 ++ rest)) (entries_text-push (number + 1) entries last ∙ ap (λ n. entries_text (number + 1) entries ++ entry_text n last) place)
    ∙ ap (λ rest. front ++ rest) (sym (append_assoc (recorded_text number entry.1) (entries_text (number + 1) entries) _))
    ∙ sym (append_assoc front (recorded_text number entry.1 ++ entries_text (number + 1) entries) _)

pub entry_more : (old so_far mid more : List ℕ) (entries : List Entry) (i number : ℕ) (entry : Entry) → i < length entries → entry ≡ get_or entries i entry → number ≡ i + 1 → so_far ≡ old ++ entries_text 1 (take i entries) → mid ≡ so_far ++ line_text (event_words entry.0) → more ≡ mid ++ recorded_text number entry.1 → more ≡ old ++ entries_text 1 (take (i + 1) entries)
entry_more old so_far mid more entries i number entry below is numbered parsed line recorded =
    let taken : take (i + 1) entries ≡ take i entries ++ entry ∷ [] = take_more entries i entry below ∙ ap (λ x. take i entries ++ x ∷ []) (sym is) in
    let place : number ≡ 1 + length (take i entries) = numbered ∙ (let same : i + 1 ≡ 1 + length (take i entries) = simp length-take (omega arith) in same) in
    recorded ∙ ap (λ front. front ++ recorded_text number entry.1) (line ∙ ap (λ front. front ++ line_text (event_words entry.0)) parsed)
    ∙ append_assoc (old ++ entries_text 1 (take i entries)) (line_text (event_words entry.0)) (recorded_text number entry.1)
    ∙ append_assoc old (entries_text 1 (take i entries)) (entry_text number entry)
    ∙ ap (λ n. old ++ (entries_text 1 (take i entries) ++ entry_text n entry)) place
    ∙ ap (λ text. old ++ text) (sym (entries_text-push 1 (take i entries) entry) ∙ ap (entries_text 1) (sym taken))
