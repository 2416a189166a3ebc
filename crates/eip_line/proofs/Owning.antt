-- The scripts of a line have events of applications and of time alone, and one for each device.
use Rattle.std.proofs.Common.{◌≡◌, ℕ, zero, suc, ◌+◌, true, List, [], ◌∷◌, ◌++◌, map, length, Option, Some, None, Vec, Global, refl, sym, ap, subst, arith}
use Rattle.std.specs.Prelude.{All}
use Rattle.std.proofs.lemmas.List.{length-map, length_push}
use Rattle.std.proofs.lemmas.List.Elements.{All-append, All-cons, All-head, All-nil, All-push, All-tail}
use Rattle.cip_events.specs.declared.event.Event.{Event}
use Rattle.cip_events.specs.declared.event.Event.TheVariants.{Mode, Start, Tick}
use Rattle.line_threads.specs.Scripts.{is_local, events_in, IsOwn}
use Rattle.eip_line.specs.LineSetup.Scripts.{adapter_script, line_scripts, output_of, scanner_script, scanner_scripts, turn_of, turns_of, write_of}

-- the event is a call of the application, or a tick
abbrev Own : Event → Type 0
Own e = is_local e ≡ true

turn_is_own : (point : Option ℕ) (turn : ℕ) → IsOwn (turn_of point turn)
turn_is_own None turn = All-cons Own (Tick 1) [] refl (All-nil Own)
turn_is_own (Some point) turn = All-cons Own (write_of point turn) (Tick 1 ∷ []) refl (All-cons Own (Tick 1) [] refl (All-nil Own))

turns_are_own : (point : Option ℕ) (turns : ℕ) → IsOwn (turns_of point turns)
turns_are_own point zero = All-nil Own
turns_are_own point (suc n) = All-append Own (turns_of point n) (turn_of point (suc n)) (turns_are_own point n) (turn_is_own point (suc n))

scanner_is_own : (turns number : ℕ) → IsOwn (scanner_script turns number)
scanner_is_own turns number =
    let each = turns_of (output_of number) turns in
    All-cons Own (Start 0) (Mode true ∷ each) refl (All-cons Own (Mode true) each refl (turns_are_own (output_of number) turns))

scanners_are_own : (turns scanners : ℕ) → All IsOwn (scanner_scripts turns scanners)
scanners_are_own turns zero = All-nil IsOwn
scanners_are_own turns (suc n) = All-push IsOwn (scanner_scripts turns n) (scanner_script turns n) (scanners_are_own turns n) (scanner_is_own turns n)

each_is_own : (scripts : List (Vec Event Global)) → All IsOwn (map events_in scripts) → All (λ script. IsOwn script.items) scripts
each_is_own [] all = All-nil (λ script. IsOwn script.items)
each_is_own (script ∷ scripts) all =
    All-cons (λ script. IsOwn script.items) script scripts (All-head IsOwn script.items (map events_in scripts) all) (each_is_own scripts (All-tail IsOwn script.items (map events_in scripts) all))

pub line_is_own : (scripts : List (Vec Event Global)) (scanners turns : ℕ) → map events_in scripts ≡ line_scripts scanners turns → All (λ script. IsOwn script.items) scripts
line_is_own scripts scanners turns is =
    let all = All-cons IsOwn (adapter_script turns) (scanner_scripts turns scanners) (turns_are_own (Some 100) turns) (scanners_are_own turns scanners) in
    each_is_own scripts (subst (All IsOwn) (sym is) all)

count_of : (turns scanners : ℕ) → length (scanner_scripts turns scanners) ≡ scanners
count_of turns zero = refl
count_of turns (suc n) =
    let so_far : length (scanner_scripts turns n) ≡ n = count_of turns n in
    let more : length (scanner_scripts turns n ++ scanner_script turns n ∷ []) ≡ length (scanner_scripts turns n) + 1 = length_push (scanner_scripts turns n) (scanner_script turns n) in
    omega arith

pub line_count : (scripts : List (Vec Event Global)) (scanners turns : ℕ) → map events_in scripts ≡ line_scripts scanners turns → length scripts ≡ scanners + 1
line_count scripts scanners turns is =
    let many : length (map events_in scripts) ≡ suc (length (scanner_scripts turns scanners)) = ap length is in
    let same : length (map events_in scripts) ≡ length scripts = length-map scripts events_in in
    let count : length (scanner_scripts turns scanners) ≡ scanners = count_of turns scanners in
    omega arith
