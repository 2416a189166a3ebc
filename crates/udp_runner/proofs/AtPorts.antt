-- The outputs of an answer at a port.
use Rattle.std.proofs.Common.{◌≡◌, ◌<◌, ◌-◌, ◌^◌, ℕ, ◌+◌, Bool, true, List, [], ◌∷◌, Result, Ok, Err, OnOk, OnErr, ap, ◌∙◌, sym, subst}
use Rattle.std.specs.List.{flat_map}
use Rattle.cip_events.specs.Outputs.{AnswerOutput}
use Rattle.cip_events.specs.Transmission.{BreaksOff, Puts, SendsAll}
use Rattle.udp_runner.specs.declared.fault.PortFault.{PortFault}
use Rattle.udp_runner.specs.declared.output.SentOutput.{SentOutput}
use Rattle.udp_runner.specs.Outputs.{PortFails, PortSends, SendsSome, output_sent}
use Rattle.udp_runner.specs.Tape.{Tape, with_sent}
use Rattle.udp_runner.proofs.SentOutputs.{one_unsent, sends_both, sends_none, some_within}
use Rattle.udp_runner.proofs.SentOutputs.{flat_map-append}

-- a call that sends one output
pub puts_sent : {P : Type 0} (scripted : Bool) (tape : P → Tape) (failed : P → ℕ) (old new : P) (output : AnswerOutput) (o : SentOutput) (r : Result Unit PortFault)
    → output_sent output ≡ o ∷ [] → failed old < 2 ^ 64 - 1
    → OnOk r (scripted ≡ true → tape new ≡ with_sent (tape old) (o ∷ [])) → OnErr r (scripted ≡ true → tape new ≡ tape old)
    → OnOk r (failed new ≡ failed old) → OnErr r (failed new ≡ failed old + 1)
    → Puts (λ p. failed p < 2 ^ 64 - 1) (λ a x b. PortSends scripted (tape a) (tape b) (failed a) (failed b) x) (λ a x b. PortFails scripted (tape a) (tape b) (failed a) (failed b) x) old output new r
puts_sent scripted tape failed old new output o (Ok done) is room sent kept worked counted =
    (record { sent = λ s. sent s ∙ ap (λ os. with_sent (tape old) os) (sym is); worked = worked }, subst (λ n. n < 2 ^ 64 - 1) (sym worked) room)
puts_sent scripted tape failed old new output o (Err fault) is room sent kept worked counted =
    record { some = λ s. subst (λ os. SendsSome (tape old) (tape new) os) (sym is) (one_unsent (tape old) (tape new) o (kept s)); counted = counted }

-- outputs that went
pub went_sent : {P : Type 0} (scripted : Bool) (tape : P → Tape) (failed : P → ℕ) (old new : P) (outputs : List AnswerOutput)
    → SendsAll (λ a x b. PortSends scripted (tape a) (tape b) (failed a) (failed b) x) old outputs new → scripted ≡ true → tape new ≡ with_sent (tape old) (flat_map output_sent outputs)
went_sent scripted tape failed old new [] same s = ap tape same ∙ sends_none (tape old)
went_sent scripted tape failed old new (x ∷ xs) (middle, went, rest) s =
    sends_both (tape old) (tape middle) (tape new) (output_sent x) (flat_map output_sent xs) (went.sent s) (went_sent scripted tape failed middle new xs rest s)

pub went_worked : {P : Type 0} (scripted : Bool) (tape : P → Tape) (failed : P → ℕ) (old new : P) (outputs : List AnswerOutput)
    → SendsAll (λ a x b. PortSends scripted (tape a) (tape b) (failed a) (failed b) x) old outputs new → failed new ≡ failed old
went_worked scripted tape failed old new [] same = ap failed same
went_worked scripted tape failed old new (x ∷ xs) (middle, went, rest) = went_worked scripted tape failed middle new xs rest ∙ went.worked

-- outputs of which one failed
pub broke_some : {P : Type 0} (scripted : Bool) (tape : P → Tape) (failed : P → ℕ) (old new : P) (outputs : List AnswerOutput)
    → BreaksOff (λ a x b. PortSends scripted (tape a) (tape b) (failed a) (failed b) x) (λ a x b. PortFails scripted (tape a) (tape b) (failed a) (failed b) x) old outputs new
    → scripted ≡ true → SendsSome (tape old) (tape new) (flat_map output_sent outputs)
broke_some scripted tape failed old new outputs broke s =
    some_within (tape old) (tape broke.middle) (tape new) (flat_map output_sent broke.done) (output_sent broke.failed) (flat_map output_sent broke.unsent) (flat_map output_sent outputs)
    (went_sent scripted tape failed old broke.middle broke.done broke.went s) (broke.fails_there.some s)
    (ap (flat_map output_sent) broke.parts ∙ flat_map-append output_sent broke.done (broke.failed ∷ broke.unsent))

pub broke_counted : {P : Type 0} (scripted : Bool) (tape : P → Tape) (failed : P → ℕ) (old new : P) (outputs : List AnswerOutput)
    → BreaksOff (λ a x b. PortSends scripted (tape a) (tape b) (failed a) (failed b) x) (λ a x b. PortFails scripted (tape a) (tape b) (failed a) (failed b) x) old outputs new
    → failed new ≡ failed old + 1
broke_counted scripted tape failed old new outputs broke = broke.fails_there.counted ∙ ap (λ n. n + 1) (went_worked scripted tape failed old broke.middle broke.done broke.went)
