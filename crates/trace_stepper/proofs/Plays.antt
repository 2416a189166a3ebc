-- A trace that is played.
use Rattle.std.proofs.Common.{suc, ◌≡◌, ℕ, ◌+◌, ◌<◌, Bool, true, false, List, [], ◌∷◌, ◌++◌, length, Option, Some, None, Ok, refl, sym, ap, subst, ◌∙◌, arith, append_assoc}
use Rattle.std.specs.Prelude.{slice_get, nat_lt}
use Rattle.std.specs.Io.KnownBytes.{Appends}
use Rattle.std.proofs.lemmas.Bool.Decides.{nat_tests}
use Rattle.std.proofs.lemmas.List.{append-nil}
use Rattle.cip_tables.specs.declared.table.DeviceTable.{DeviceTable}
use Rattle.cip_tables.specs.Step.{opening_table}
use Rattle.cip_events.specs.Outcomes.{Outcome}
use Rattle.cip_tables.specs.Run.{outcomes_of}
use Rattle.trace_text.specs.declared.trace.Trace.{Trace}
use Rattle.trace_text.specs.Reading.{Entry}
use Rattle.trace_outcomes.specs.WrittenOutcomes.{outcome_text, outcomes_text}
use Rattle.trace_stepper.specs.Compared.{AgreesWith, AgreeAt, AgreeBefore, recorded_at, IsJudged, JudgesOn}
use Rattle.trace_stepper.specs.Stepping.{events_of, outcomes_of_trace, MovesOn}
use Rattle.trace_stepper.specs.Written.{BeginsToWrite}
use Rattle.trace_stepper.proofs.Steps.{begun, continued}
use Rattle.trace_stepper.proofs.Writes.{chained, nothing}

text_pushed : (number : ℕ) (outcomes : List Outcome) (last : Outcome) → outcomes_text number (outcomes ++ last ∷ []) ≡ outcomes_text number outcomes ++ outcome_text (number + length outcomes) last
text_pushed number [] last = let here : number ≡ number + 0 = omega arith in append-nil _ ∙ ap (λ n. outcome_text n last) here
text_pushed number (outcome ∷ outcomes) last =
    let place : number + 1 + length outcomes ≡ number + length (outcome ∷ outcomes) = omega arith in
    ap (λ rest. outcome_text number outcome ++ rest) (text_pushed (number + 1) outcomes last ∙ ap (λ n. outcomes_text (number + 1) outcomes ++ outcome_text n last) place)
    ∙ sym (append_assoc (outcome_text number outcome) (outcomes_text (number + 1) outcomes) _)

text_apart : (number : ℕ) (front rest : List Outcome) → outcomes_text number (front ++ rest) ≡ outcomes_text number front ++ outcomes_text (number + length front) rest
text_apart number [] rest = let here : number ≡ number + 0 = omega arith in ap (λ n. outcomes_text n rest) here
text_apart number (outcome ∷ front) rest =
    let place : number + 1 + length front ≡ number + length (outcome ∷ front) = omega arith in
    ap (λ more. outcome_text number outcome ++ more) (text_apart (number + 1) front rest ∙ ap (λ n. outcomes_text (number + 1) front ++ outcomes_text n rest) place)
    ∙ sym (append_assoc (outcome_text number outcome) (outcomes_text (number + 1) front) _)

got : (front rest : List Outcome) (outcome : Outcome) → slice_get (front ++ outcome ∷ rest) (length front) ≡ Some outcome
got [] rest outcome = refl
got (first ∷ front) rest outcome = got front rest outcome

length_pushed : (front : List Outcome) (outcome : Outcome) → length (front ++ outcome ∷ []) ≡ length front + 1
length_pushed [] outcome = refl
length_pushed (first ∷ front) outcome = let more = length_pushed front outcome in omega (arith, more)

before_more : (entries : List Entry) (outcomes : List Outcome) (count : ℕ) → AgreeBefore entries outcomes count → AgreeAt entries outcomes count → AgreeBefore entries outcomes (count + 1)
before_more entries outcomes count before at place below = choose (nat_lt place count) refl
  where
    choose : (b : Bool) → nat_lt place count ≡ b → AgreeAt entries outcomes place
    choose true is = before place (grind (arith, nat_tests, is))
    choose false is = let same : count ≡ place = grind (arith, nat_tests, is, below) in subst (AgreeAt entries outcomes) same at

judged_more : (entries : List Entry) (outcomes : List Outcome) (place : ℕ) (outcome : Outcome) (differs differs' : Option ℕ) → slice_get outcomes place ≡ Some outcome → IsJudged entries outcomes place differs → JudgesOn entries place outcome differs differs' → IsJudged entries outcomes (place + 1) differs'
judged_more entries outcomes place outcome (Some number) differs' given judged on = subst (IsJudged entries outcomes (place + 1)) (sym on) judged
judged_more entries outcomes place outcome None None given judged on = before_more entries outcomes place judged (subst (AgreesWith (recorded_at entries place)) (sym given) on)
judged_more entries outcomes place outcome None (Some number) given judged on = (place, on.0, judged, λ agree. on.1 (subst (AgreesWith (recorded_at entries place)) given agree))

-- the first outcomes are told and judged, and the others are to come
pub record IsPlaying (trace : Trace) (old now : Option (List ℕ)) (table : DeviceTable) (left : List Entry) (place : ℕ) (differs : Option ℕ) : Type 0 where
  pub front : List Outcome
  pub reported : outcomes_of_trace trace ≡ front ++ outcomes_of table (events_of left)
  pub counted : length front ≡ place
  pub written : Appends old now (outcomes_text 1 front)
  pub judged : IsJudged trace.events (outcomes_of_trace trace) place differs
  pub all : place + length left ≡ length trace.events

pub play_begun : (trace : Trace) (old : Option (List ℕ)) (table : DeviceTable) (left : List Entry) → table ≡ opening_table trace.config → left ≡ trace.events → IsPlaying trace old old table left 0 None
play_begun trace old table left fresh all = record {
  front = [];
  reported = begun trace [] table left refl fresh all;
  counted = refl;
  written = nothing old;
  judged = λ place below. absurd (omega (arith, below));
  all = omega (arith, ap length all);
}

pub play_more : (trace : Trace) (old now next : Option (List ℕ)) (table table' : DeviceTable) (left rest : List Entry) (place : ℕ) (differs differs' : Option ℕ) (outcome : Outcome) (text : List ℕ) → IsPlaying trace old now table left place differs → MovesOn table left (Ok (Some outcome)) table' rest → text ≡ outcome_text (place + 1) outcome → Appends now next text → JudgesOn trace.events place outcome differs differs' → IsPlaying trace old next table' rest (place + 1) differs'
play_more trace old now next table table' left rest place differs differs' outcome text playing moves is written judges =
    let front : List Outcome = playing.front in
    let reported : outcomes_of_trace trace ≡ (front ++ outcome ∷ []) ++ outcomes_of table' (events_of rest) = continued (outcomes_of_trace trace) front (front ++ outcome ∷ []) table table' left rest outcome playing.reported moves refl in
    let apart : outcomes_of_trace trace ≡ front ++ outcome ∷ outcomes_of table' (events_of rest) = reported ∙ append_assoc front (outcome ∷ []) (outcomes_of table' (events_of rest)) in
    let given : slice_get (outcomes_of_trace trace) place ≡ Some outcome = ap (λ os. slice_get os place) apart ∙ ap (λ n. slice_get (front ++ outcome ∷ outcomes_of table' (events_of rest)) n) (sym playing.counted) ∙ got front (outcomes_of table' (events_of rest)) outcome in
    let number : 1 + length front ≡ place + 1 = omega (arith, playing.counted) in
    let text_is : outcomes_text 1 front ++ text ≡ outcomes_text 1 (front ++ outcome ∷ []) = ap (λ t. outcomes_text 1 front ++ t) (is ∙ ap (λ n. outcome_text n outcome) (sym number)) ∙ sym (text_pushed 1 front outcome) in
    let fewer : length left ≡ suc (length rest) = ap length moves.1 in
    record {
      front = front ++ outcome ∷ [];
      reported = reported;
      counted = length_pushed front outcome ∙ ap (λ n. n + 1) playing.counted;
      written = subst (Appends old next) text_is (chained old now next (outcomes_text 1 front) text playing.written written);
      judged = judged_more trace.events (outcomes_of_trace trace) place outcome differs differs' given playing.judged judges;
      all = omega (arith, playing.all, fewer);
    }

-- a place is left where an entry is
pub place_left : (trace : Trace) (old now : Option (List ℕ)) (table table' : DeviceTable) (left rest : List Entry) (place : ℕ) (differs : Option ℕ) (outcome : Outcome) → IsPlaying trace old now table left place differs → MovesOn table left (Ok (Some outcome)) table' rest → place < length trace.events
place_left trace old now table table' left rest place differs outcome playing moves =
    let fewer : length left ≡ suc (length rest) = ap length moves.1 in
    omega (arith, playing.all, fewer)

-- a text is cleared, and the outcome is put there
pub put_alone : (text before after reported : List ℕ) → text ≡ after → after ≡ before ++ reported → before ≡ [] → text ≡ reported
put_alone text before after reported is put cleared = is ∙ put ∙ ap (λ front. front ++ reported) cleared

pub played_on : (trace : Trace) (old now next : Option (List ℕ)) (table table' : DeviceTable) (left rest : List Entry) (place number : ℕ) (differs differs' : Option ℕ) (outcome : Outcome) (text : List ℕ) → IsPlaying trace old now table left place differs → MovesOn table left (Ok (Some outcome)) table' rest → number ≡ place + 1 → text ≡ outcome_text number outcome → Appends now next text → JudgesOn trace.events place outcome differs differs' → IsPlaying trace old next table' rest number differs'
played_on trace old now next table table' left rest place number differs differs' outcome text playing moves numbered is written judges =
    let reported : text ≡ outcome_text (place + 1) outcome = is ∙ ap (λ n. outcome_text n outcome) numbered in
    subst (λ n. IsPlaying trace old next table' rest n differs') (sym numbered) (play_more trace old now next table table' left rest place differs differs' outcome text playing moves reported written judges)

-- the stream took a beginning of the next outcome's text
pub play_broken : (trace : Trace) (old now next : Option (List ℕ)) (table table' : DeviceTable) (left rest : List Entry) (place number : ℕ) (differs : Option ℕ) (outcome : Outcome) (text : List ℕ) → IsPlaying trace old now table left place differs → MovesOn table left (Ok (Some outcome)) table' rest → number ≡ place + 1 → text ≡ outcome_text number outcome → BeginsToWrite now text next → BeginsToWrite old (outcomes_text 1 (outcomes_of_trace trace)) next
play_broken trace old now next table table' left rest place number differs outcome text playing moves numbered is (first, (last, (parts, written))) =
    let front : List Outcome = playing.front in
    let more : List Outcome = outcomes_of table' (events_of rest) in
    let reported : outcomes_of_trace trace ≡ (front ++ outcome ∷ []) ++ more = continued (outcomes_of_trace trace) front (front ++ outcome ∷ []) table table' left rest outcome playing.reported moves refl in
    let apart : outcomes_of_trace trace ≡ front ++ outcome ∷ more = reported ∙ append_assoc front (outcome ∷ []) more in
    let number_is : 1 + length front ≡ number = omega (arith, playing.counted, numbered) in
    let all_text : outcomes_text 1 (outcomes_of_trace trace) ≡ outcomes_text 1 front ++ (text ++ outcomes_text (number + 1) more) =
    ap (outcomes_text 1) apart ∙ text_apart 1 front (outcome ∷ more) ∙ ap (λ n. outcomes_text 1 front ++ outcomes_text n (outcome ∷ more)) number_is ∙ ap (λ t. outcomes_text 1 front ++ (t ++ outcomes_text (number + 1) more)) (sym is) in
    let parted : outcomes_text 1 front ++ (text ++ outcomes_text (number + 1) more) ≡ (outcomes_text 1 front ++ first) ++ (last ++ outcomes_text (number + 1) more) =
    ap (λ t. outcomes_text 1 front ++ (t ++ outcomes_text (number + 1) more)) parts ∙ ap (λ t. outcomes_text 1 front ++ t) (append_assoc first last (outcomes_text (number + 1) more)) ∙ sym (append_assoc (outcomes_text 1 front) first (last ++ outcomes_text (number + 1) more)) in
    (outcomes_text 1 front ++ first, (last ++ outcomes_text (number + 1) more, (all_text ∙ parted, chained old now next (outcomes_text 1 front) first playing.written written)))
