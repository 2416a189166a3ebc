-- An event that is written is read as itself.
use Rattle.std.proofs.Common.{◌≡◌, ℕ, ◌<◌, ◌^◌, ◌+◌, ◌==◌, Bool, true, false, cond, List, [], ◌∷◌, ◌++◌, length, Option, Some, None, refl, ap, ◌∙◌, arith, eqb}
use Rattle.std.specs.Prelude.{decimal, codes, option_and_then, option_to_list}
use Rattle.std.specs.List.{join_with_byte}
use Rattle.std.proofs.lemmas.Bool.Decides.{nat_tests}
use Rattle.cip_events.specs.declared.event.Event.{Event}
use Rattle.cip_events.specs.declared.event.Event.TheVariants as event
use Rattle.cip_events.specs.Outcomes.{Outcome}
use Rattle.cip_tables.specs.declared.table.Config.{Config}
use Rattle.cip_tables.specs.declared.table.Config.TheVariants as config
use Rattle.scanner_table.specs.declared.profile.SlotConfig.{SlotConfig}
use Rattle.trace_words.specs.Words.{node_word, bytes_word, general_word, line_text}
use Rattle.trace_words.specs.Reader.{Reader, gives}
use Rattle.trace_outcomes.specs.declared.part.Part.{Part}
use Rattle.trace_lines.specs.declared.forms.ScannerLine.{ScannerLine}
use Rattle.trace_lines.specs.declared.forms.ScannerTerms.{ScannerTerms}
use Rattle.trace_lines.specs.Kinds.{mode_of, mode_word}
use Rattle.trace_lines.specs.Slots.{scanner_with}
use Rattle.trace_outcomes.specs.Parts.{part_reader}
use Rattle.trace_text.specs.Recorded.{recorded_with}
use Rattle.trace_text.specs.declared.builder.TraceBuilder.{TraceBuilder}
use Rattle.trace_text.specs.declared.builder.TraceBuilder.TheVariants.{Slots, Events}
use Rattle.trace_text.specs.declared.forms.TraceLine.{TraceLine}
use Rattle.trace_text.specs.declared.forms.TraceLine.TheVariants as line
use Rattle.trace_text.specs.Forms.{line_reader, line_meanings, numbered, of_limit, limit_or_part, event_only, event_of}
use Rattle.trace_lines.specs.Limits.{limit_meanings}
use Rattle.trace_text.specs.Reading.{Entry, given_block, with_event, builder_with}
use Rattle.trace_text.specs.Written.{event_words}
use Rattle.trace_laws.specs.TraceBack.{EventFits}
use Rattle.trace_laws.proofs.WordLaws.{node_back, bytes_back, general_back}
use Rattle.trace_laws.proofs.CleanWords.{decimal_clean, node_clean, bytes_clean, general_clean}
use Rattle.trace_laws.proofs.LineLaws.{is_clean, are_clean}
use Rattle.trace_laws.proofs.ProfileLaws.{n16, n32, n64, c16, c32, ids_clean, ids_read}
use Rattle.trace_laws.proofs.TextLaws.{Reads, IsLine, line_is, line_reads, none_meant, decimal_low, decimal_begins}

mode_back : (run : Bool) → mode_of (mode_word run) ≡ Some run
unfolding mode_of
mode_back true = refl
mode_back false = refl

mode_clean : (run : Bool) → is_clean (mode_word run) ≡ true
mode_clean true = refl
mode_clean false = refl

-- the line of an event
pub event_is : (given : Event) → EventFits given → IsLine (event_words given) (line.Event given)
event_is (event.Request peer bytes) fits = line_is (codes "request") (node_word peer ∷ bytes_word bytes ∷ []) (line.Event (event.Request peer bytes)) refl refl (rw (node_clean peer, bytes_clean bytes fits.1) refl) (rw (node_back peer fits.0, bytes_back bytes fits.1) refl)
event_is (event.StreamOpened stream peer) fits = line_is (codes "stream") (decimal stream ∷ node_word peer ∷ []) (line.Event (event.StreamOpened stream peer)) refl refl (rw (c16 stream fits.0, node_clean peer) refl) (rw (n16 stream fits.0, node_back peer fits.1) refl)
event_is (event.Frame stream bytes) fits = line_is (codes "frame") (decimal stream ∷ bytes_word bytes ∷ []) (line.Event (event.Frame stream bytes)) refl refl (rw (c16 stream fits.0, bytes_clean bytes fits.1) refl) (rw (n16 stream fits.0, bytes_back bytes fits.1) refl)
event_is (event.StreamCut stream) fits = line_is (codes "cut") (decimal stream ∷ []) (line.Event (event.StreamCut stream)) refl refl (rw (c16 stream fits) refl) (rw (n16 stream fits) refl)
event_is (event.Datagram peer bytes) fits = line_is (codes "datagram") (node_word peer ∷ bytes_word bytes ∷ []) (line.Event (event.Datagram peer bytes)) refl refl (rw (node_clean peer, bytes_clean bytes fits.1) refl) (rw (node_back peer fits.0, bytes_back bytes fits.1) refl)
event_is (event.Inquiry peer bytes) fits = line_is (codes "inquiry") (node_word peer ∷ bytes_word bytes ∷ []) (line.Event (event.Inquiry peer bytes)) refl refl (rw (node_clean peer, bytes_clean bytes fits.1) refl) (rw (node_back peer fits.0, bytes_back bytes fits.1) refl)
event_is (event.Write point bytes) fits = line_is (codes "write") (decimal point ∷ bytes_word bytes ∷ []) (line.Event (event.Write point bytes)) refl refl (rw (c32 point fits.0, bytes_clean bytes fits.1) refl) (rw (n32 point fits.0, bytes_back bytes fits.1) refl)
event_is (event.Read point) fits = line_is (codes "read") (decimal point ∷ []) (line.Event (event.Read point)) refl refl (rw (c32 point fits) refl) (rw (n32 point fits) refl)
event_is (event.Tick ms) fits = line_is (codes "tick") (decimal ms ∷ []) (line.Event (event.Tick ms)) refl refl (rw (c32 ms fits) refl) (rw (n32 ms fits) refl)
event_is (event.Mode run) fits = line_is (codes "mode") (mode_word run ∷ []) (line.Event (event.Mode run)) refl refl (rw (mode_clean run) refl) (rw (mode_back run) refl)
event_is (event.Start slot) fits = line_is (codes "start") (decimal slot ∷ []) (line.Event (event.Start slot)) refl refl (rw (c32 slot fits) refl) (rw (n32 slot fits) refl)
event_is (event.Stop slot) fits = line_is (codes "stop") (decimal slot ∷ []) (line.Event (event.Stop slot)) refl refl (rw (c32 slot fits) refl) (rw (n32 slot fits) refl)
event_is (event.Explicit target number bytes) fits = line_is (codes "explicit") (node_word target ∷ decimal number ∷ bytes_word bytes ∷ []) (line.Event (event.Explicit target number bytes)) refl refl (rw (node_clean target, c32 number fits.1, bytes_clean bytes fits.2) refl) (rw (node_back target fits.0, n32 number fits.1, bytes_back bytes fits.2) refl)
event_is (event.Respond number status bytes) fits = line_is (codes "answer") (decimal number ∷ general_word status ∷ bytes_word bytes ∷ []) (line.Event (event.Respond number status bytes)) refl refl (rw (decimal_clean number fits.0, general_clean status fits.1, bytes_clean bytes fits.2) refl) (rw (n64 number fits.0, general_back status fits.1, bytes_back bytes fits.2) refl)
event_is (event.Counters bytes) fits = line_is (codes "counters") (bytes_word bytes ∷ []) (line.Event (event.Counters bytes)) refl refl (rw (bytes_clean bytes fits) refl) (rw (bytes_back bytes fits) refl)
event_is (event.Ids block) fits = line_is (codes "ids") (decimal block.first ∷ decimal block.count ∷ []) (line.Event (event.Ids block)) refl refl (ids_clean block fits) (ids_read block fits)

-- an event, wherever it is allowed
pub event_reads : (builder builder' : TraceBuilder) (given : Event) → EventFits given → builder_with builder (line.Event given) ≡ Some builder' → Reads builder (line_text (event_words given)) builder'
event_reads builder builder' given fits built = (event_is given fits).reads builder builder' built

-- the line of an event, alone
pub event_back : (given : Event) → EventFits given → event_of (join_with_byte 32 (event_words given)) ≡ Some given
unfolding event_of
event_back given fits = ap (option_and_then event_only) (event_is given fits).found

-- an event behind those before it
pub event_read : (made_of : Config) (entries : List Entry) (last : Option Entry) (given : Event) → EventFits given → Reads (Events made_of entries last) (line_text (event_words given)) (Events made_of (entries ++ option_to_list last) (Some (given, None)))
event_read made_of entries last given fits = event_reads (Events made_of entries last) _ given fits refl

-- the first event of a scanner, behind its slots
pub taken_first : (scanner : ScannerLine) (newer : Option ℕ) (terms : ScannerTerms) (slots : List SlotConfig) (given : Event) → (length slots == 0) ≡ false → builder_with (Slots scanner newer terms slots) (line.Event given) ≡ Some (Events (config.Scanner (scanner_with scanner newer terms slots)) [] (Some (given, None)))
taken_first scanner newer terms slots given some = ap (λ (b : Bool). with_event scanner newer terms slots given (cond b (given_block given) None)) some

-- PARTS OF OUTCOMES

recorded_read : (n : ℕ) (words : List (List ℕ)) (part : Part) → n < 2 ^ 64 → part_reader words ≡ Some (part, []) → line_reader (decimal n ∷ words) ≡ Some (line.Recorded n part, [])
recorded_read n words part fits read =
    ap (λ (reader : Reader TraceLine). reader words) (none_meant line_meanings (limit_or_part (decimal n)) (decimal n) refl (decimal_low n fits) ∙ ap (of_limit (decimal n)) (none_meant limit_meanings None (decimal n) refl (decimal_low n fits)))
    ∙ ap (λ (number : Option ℕ). numbered number words) (n64 n fits)
    ∙ ap (λ r. option_and_then {T = Part × List (List ℕ)} (λ got. gives (line.Recorded n got.0) got.1) r) read

-- a part of the outcome of the last event
pub part_read : (made_of : Config) (entries : List Entry) (given : Event) (recorded : Option Outcome) (outcome : Outcome) (n : ℕ) (words : List (List ℕ)) (part : Part) → n < 2 ^ 64 → n ≡ length entries + 1 → are_clean words ≡ true → part_reader words ≡ Some (part, []) → recorded_with recorded part ≡ Some outcome → Reads (Events made_of entries (Some (given, recorded))) (line_text (decimal n ∷ words)) (Events made_of entries (Some (given, Some outcome)))
part_read made_of entries given recorded outcome n words part fits number clean read with =
    let last : eqb n (length entries + 1) ≡ true = grind (arith, nat_tests, number) in
    let built : builder_with (Events made_of entries (Some (given, recorded))) (line.Recorded n part) ≡ Some (Events made_of entries (Some (given, Some outcome))) = rw (last, with) refl in
    line_reads (Events made_of entries (Some (given, recorded))) (Events made_of entries (Some (given, Some outcome))) (decimal n) words (line.Recorded n part) (decimal_begins n fits) (decimal_clean n fits) clean (recorded_read n words part fits read) built
