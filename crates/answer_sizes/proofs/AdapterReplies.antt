-- The answer to a reply of the application: one frame at most, and short.
use Rattle.std.proofs.Common.{◌≡◌, ◌≤◌, ℕ, nat_lt, Bool, true, false, cond, List, [], length, find, Option, Some, None, Ok, Err, refl, arith}
use Rattle.std.proofs.lemmas.Bool.Decides.{nat_tests}
use Rattle.cip_events.specs.declared.event.StepFault.TheVariants as fault
use Rattle.cip_events.specs.declared.event.Verdict.TheVariants.{Done}
use Rattle.cip_router.specs.Replies.{own}
use Rattle.messaging.specs.declared.requests.Waiting.{Waiting}
use Rattle.messaging.specs.Changes.{longest_answer, has_request_number}
use Rattle.adapter_table.specs.declared.table.AdapterTable.{AdapterTable}
use Rattle.adapter_table.specs.Answering.{route_frames, responded, respond_of, respond}
use Rattle.answer_sizes.specs.Sizes.{IsShortFrame, IsShortDatagram}
use Rattle.answer_sizes.proofs.AdapterFrames.{route_small}
use Rattle.answer_sizes.proofs.Answers.{both_small, AnswersSmall}
use Rattle.answer_sizes.proofs.Few.{few_none, few_most}

within : (n : ℕ) → nat_lt longest_answer n ≡ false → n ≤ 1400
within n is = grind (arith, nat_tests)

responded_small : (b : Bool) (t : AdapterTable) (status : ℕ) (bytes : List ℕ) (w : Waiting) → nat_lt longest_answer (length bytes) ≡ b → AnswersSmall (cond b (Err fault.WrongLength) (Ok (responded t w (own w.service status bytes))))
responded_small true t status bytes w is = tt
responded_small false t status bytes w is =
    let frames = route_frames t.messaging w.asker w.service (own w.service status bytes) in
    both_small frames [] Done [] (few_most 64 1 IsShortFrame frames (omega arith) (route_small t.messaging w.asker w.service (own w.service status bytes) (within (length bytes) is))) (few_none 64 IsShortDatagram)

found_small : (t : AdapterTable) (status : ℕ) (bytes : List ℕ) (found : Option Waiting) → AnswersSmall (respond_of t status bytes found)
found_small t status bytes None = tt
found_small t status bytes (Some w) = responded_small (nat_lt longest_answer (length bytes)) t status bytes w refl

pub respond_small : (t : AdapterTable) (number status : ℕ) (bytes : List ℕ) → AnswersSmall (respond t number status bytes)
unfolding respond
respond_small t number status bytes = found_small t status bytes (find (has_request_number number) t.messaging.waiting)
