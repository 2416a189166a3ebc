-- How the parts of a run make the whole.
use Rattle.std.proofs.Common.{◌≡◌, ℕ, ◌+◌, Bool, List, [], ◌∷◌, ◌++◌, length, Option, Some, None, Result, Ok, Err, refl, sym, ap, subst, ◌∙◌, inl, inr, append_assoc, arith}
use Rattle.std.specs.Io.KnownBytes.{Appends, Keeps}
use Rattle.std.proofs.lemmas.List.{append-nil}
use Rattle.cip_events.specs.Outcomes.{Outcome}
use Rattle.trace_text.specs.declared.trace.Trace.{Trace}
use Rattle.trace_outcomes.specs.WrittenOutcomes.{outcome_text, outcomes_text}
use Rattle.trace_stepper.specs.declared.stepper.StepperFault.{StepperFault}
use Rattle.trace_stepper.specs.declared.stepper.StepperFault.TheVariants as stepper
use Rattle.trace_stepper.specs.Playing.{IsPlayed, WritesFirst}
use Rattle.trace_stepper.specs.Stepping.{outcomes_of_trace}
use Rattle.trace_stepper.specs.Written.{BeginsToWrite, IsTaken}
use Rattle.eip_line.specs.Faults.{program_fault_of_step}
use Rattle.eip_line.specs.Printed.{differs_line, Reads, PrintsRun, PrintsDifference, BeginsToPrint, IsStepped}

chained : (old mid new : Option (List ℕ)) (a b : List ℕ) → Appends old mid a → Appends mid new b → Appends old new (a ++ b)
chained None mid new a b one two = tt
chained (Some xs) None new a b one two = absurd one
chained (Some xs) (Some ys) None a b one two = absurd two
chained (Some xs) (Some ys) (Some zs) a b one two = two ∙ ap (λ f. f ++ b) one ∙ append_assoc xs a b

pub kept : (old mid new : Option (List ℕ)) (a : List ℕ) → Appends old mid a → Appends mid new [] → Appends old new a
kept old mid new a one two = subst (Appends old new) (append-nil a) (chained old mid new a [] one two)

-- known bytes that stay have grown by nothing
pub stayed : (old new : Option (List ℕ)) → Keeps old new → Appends old new []
stayed None new same = tt
stayed (Some xs) None same = absurd same
stayed (Some xs) (Some ys) same = same ∙ sym (append-nil xs)

-- A LINE IN PARTS

pub begun : (old new : Option (List ℕ)) (a b : List ℕ) → BeginsToWrite old a new → BeginsToWrite old (a ++ b) new
begun old new a b (first, (rest, (parts, written))) = (first, (rest ++ b, (ap (λ t. t ++ b) parts ∙ append_assoc first rest b, written)))

pub begun_behind : (old mid new : Option (List ℕ)) (a b : List ℕ) → Appends old mid a → BeginsToWrite mid b new → BeginsToWrite old (a ++ b) new
begun_behind old mid new a b one (first, (rest, (parts, written))) = (a ++ first, (rest, (ap (λ t. a ++ t) parts ∙ sym (append_assoc a first rest), chained old mid new a first one written)))

pub begun_all : (old new : Option (List ℕ)) (a : List ℕ) → Appends old new a → BeginsToWrite old a new
begun_all old new a written = (a, ([], (sym (append-nil a), written)))

-- what the stream took is a beginning of the text, whether it took all or not
pub begun_taken : {F : Type 0} (old new : Option (List ℕ)) (a : List ℕ) (result : Result Unit F) → IsTaken old a result new → BeginsToWrite old a new
begun_taken old new a (Ok done) taken = begun_all old new a taken
begun_taken old new a (Err refused) taken = taken

begun_kept : (old mid new : Option (List ℕ)) (a : List ℕ) → BeginsToWrite old a mid → Keeps mid new → BeginsToWrite old a new
begun_kept old mid new a (first, (rest, (parts, written))) same = (first, (rest, (parts, kept old mid new first written (stayed mid new same))))

pub taken_behind : {F : Type 0} (old mid new : Option (List ℕ)) (a b : List ℕ) (result : Result Unit F) → Appends old mid a → IsTaken mid b result new → IsTaken old (a ++ b) result new
taken_behind old mid new a b (Ok done) one two = chained old mid new a b one two
taken_behind old mid new a b (Err refused) one two = begun_behind old mid new a b one two

pub taken_at_last : {F : Type 0} (old mid next new : Option (List ℕ)) (a b c : List ℕ) (result : Result Unit F) → Appends old mid a → Appends mid next b → IsTaken next c result new → IsTaken old (a ++ (b ++ c)) result new
taken_at_last old mid next new a b c result one two three = taken_behind old mid new a (b ++ c) result one (taken_behind mid next new b c result two three)

pub begun_within : (old mid new : Option (List ℕ)) (a b c : List ℕ) → Appends old mid a → BeginsToWrite mid b new → BeginsToWrite old (a ++ (b ++ c)) new
begun_within old mid new a b c one two = begun_behind old mid new a (b ++ c) one (begun mid new b c two)

-- THE RUN

text_apart : (number : ℕ) (front rest : List Outcome) → outcomes_text number (front ++ rest) ≡ outcomes_text number front ++ outcomes_text (number + length front) rest
text_apart number [] rest = let here : number ≡ number + 0 = omega arith in ap (λ n. outcomes_text n rest) here
text_apart number (outcome ∷ front) rest =
    let place : number + 1 + length front ≡ number + length (outcome ∷ front) = omega arith in
    ap (λ more. outcome_text number outcome ++ more) (text_apart (number + 1) front rest ∙ ap (λ n. outcomes_text (number + 1) front ++ outcomes_text n rest) place)
    ∙ sym (append_assoc (outcome_text number outcome) (outcomes_text (number + 1) front) _)

nothing : (old mid : Option (List ℕ)) → mid ≡ old → Appends old mid []
nothing None mid is = tt
nothing (Some xs) None is = absurd (cc)
nothing (Some xs) (Some ys) is = let same : ys ≡ xs = cc in same ∙ sym (append-nil xs)

first_kept : (old mid new : Option (List ℕ)) (trace : Trace) → WritesFirst trace old mid → Keeps mid new → WritesFirst trace old new
first_kept old mid new trace (first, (rest, (reported, written))) same = (first, (rest, (reported, kept old mid new _ written (stayed mid new same))))

none_reported : (old mid : Option (List ℕ)) (trace : Trace) → mid ≡ old → WritesFirst trace old mid
none_reported old mid trace same = ([], (outcomes_of_trace trace, (refl, nothing old mid same)))

first_begun : (old new : Option (List ℕ)) (trace : Trace) → WritesFirst trace old new → BeginsToWrite old (outcomes_text 1 (outcomes_of_trace trace)) new
first_begun old new trace (first, (rest, (reported, written))) = (outcomes_text 1 first, (outcomes_text (1 + length first) rest, (ap (outcomes_text 1) reported ∙ text_apart 1 first rest, written)))

-- THE END OF A RUN

-- all was played, and nothing differs
pub run_same : (input old mid new : Option (List ℕ)) (same_kind : Bool) (trace : Trace) → Reads input trace → IsPlayed same_kind trace old mid (Ok None) → Keeps mid new → PrintsRun input old new
run_same input old mid new same_kind trace read played same = (trace, (read, kept old mid new _ played.0 (stayed mid new same), played.1))

-- all was played, and the line of the first difference is written
pub run_differs : (input old mid next new : Option (List ℕ)) (same_kind : Bool) (trace : Trace) (number : ℕ) → Reads input trace → IsPlayed same_kind trace old mid (Ok (Some number)) → Appends mid next (differs_line number) → Keeps next new → PrintsDifference input old new
run_differs input old mid next new same_kind trace number read played line same = (trace, (number, (read, kept old next new _ (chained old mid next _ _ played.0 line) (stayed next new same), played.1)))

-- a beginning of the line is written
pub difference_begun : (input old mid new : Option (List ℕ)) (same_kind : Bool) (trace : Trace) (number : ℕ) → Reads input trace → IsPlayed same_kind trace old mid (Ok (Some number)) → BeginsToWrite mid (differs_line number) new → BeginsToPrint input old new
difference_begun input old mid new same_kind trace number read played begins = (trace, (read, inr (number, (played.1, begun_behind old mid new _ _ played.0 begins))))

-- all is written, and the output could not be flushed
pub all_begun : (input old mid new : Option (List ℕ)) (same_kind : Bool) (trace : Trace) → Reads input trace → IsPlayed same_kind trace old mid (Ok None) → Keeps mid new → BeginsToPrint input old new
all_begun input old mid new same_kind trace read played same = (trace, (read, inl (begun_all old new _ (kept old mid new _ played.0 (stayed mid new same)))))

-- the run ended before the last event, and the output could not be flushed
pub stop_begun : (input old mid new : Option (List ℕ)) (same_kind : Bool) (trace : Trace) (fault : StepperFault) → Reads input trace → IsPlayed same_kind trace old mid (Err fault) → Keeps mid new → BeginsToPrint input old new
stop_begun input old mid new same_kind trace stepper.OutOfMemory read played same = (trace, (read, inl (first_begun old new trace (first_kept old mid new trace played same))))
stop_begun input old mid new same_kind trace stepper.Profile read played same = (trace, (read, inl (first_begun old new trace (first_kept old mid new trace (none_reported old mid trace played.1) same))))
stop_begun input old mid new same_kind trace stepper.WrongKind read played same = (trace, (read, inl (first_begun old new trace (first_kept old mid new trace (none_reported old mid trace played.1) same))))
stop_begun input old mid new same_kind trace stepper.Write read played same = (trace, (read, inl (begun_kept old mid new _ played same)))

-- the run ended before the last event
pub run_stopped : (input old mid new : Option (List ℕ)) (same_kind : Bool) (trace : Trace) (fault : StepperFault) → Reads input trace → IsPlayed same_kind trace old mid (Err fault) → Keeps mid new → IsStepped input old new (Err (program_fault_of_step fault))
run_stopped input old mid new same_kind trace stepper.OutOfMemory read played same = inr (trace, (read, first_kept old mid new trace played same))
run_stopped input old mid new same_kind trace stepper.Profile read played same = inr (trace, (read, first_kept old mid new trace (none_reported old mid trace played.1) same))
run_stopped input old mid new same_kind trace stepper.WrongKind read played same = inr (trace, (read, first_kept old mid new trace (none_reported old mid trace played.1) same))
run_stopped input old mid new same_kind trace stepper.Write read played same = stop_begun input old mid new same_kind trace stepper.Write read played same
