-- Events that leave a table as it is: such an event is refused, or its answer is a verdict alone. A law has clauses for the
-- other events, and cites this for all that are passive.
use Rattle.std.proofs.Common.{◌≡◌, ℕ, Bool, true, false, List, Option, Some, None, Result, Ok, Err}
use Rattle.cip_events.specs.declared.event.Event.{Event}
use Rattle.cip_events.specs.declared.event.Event.TheVariants.{Request, StreamOpened, Frame, StreamCut, Datagram, Inquiry, Write, Read, Tick, Respond, Counters, Ids}
use Rattle.cip_events.specs.declared.event.StepFault.{StepFault}
use Rattle.cip_events.specs.declared.event.StepFault.TheVariants.{NoSuchPoint}
use Rattle.cip_events.specs.declared.event.Verdict.{Verdict}
use Rattle.cip_events.specs.declared.event.Verdict.TheVariants.{Value}
use Rattle.cip_events.specs.Answers.{plain_answer}
use Rattle.adapter_table.specs.declared.table.AdapterTable.{AdapterTable}
use Rattle.adapter_table.specs.Points.{bytes_at}
use Rattle.adapter_table.specs.Requests.{Next}
use Rattle.adapter_table.specs.Step.{adapter_step, read, read_of}
use Rattle.adapter_table.specs.Lemmas.RequestLemmas.{next_is}

-- the event changes no table and sends nothing
abbrev pub is_passive : Event → Bool
is_passive (Request peer bytes) = false
is_passive (StreamOpened stream peer) = false
is_passive (Frame stream bytes) = false
is_passive (StreamCut stream) = false
is_passive (Datagram peer bytes) = false
is_passive (Inquiry peer bytes) = false
is_passive (Write point bytes) = false
is_passive (Tick ms) = false
is_passive (Respond number status bytes) = false
is_passive (Counters bytes) = false
is_passive (Ids block) = false
is_passive other = true

read_passive : (Q : Result Next StepFault → Type 0) (t : AdapterTable) → ((why : StepFault) → Q (Err why)) → ((verdict : Verdict) → Q (Ok (plain_answer verdict, t))) → (found : Option (List ℕ)) → Q (read_of t found)
read_passive Q t refused answered None = refused NoSuchPoint
read_passive Q t refused answered (Some bytes) = answered (Value bytes)

-- what holds of each fault, and of the same table with each verdict, holds after a passive event
pub passive_holds : (Q : Result Next StepFault → Type 0) (t : AdapterTable) → ((why : StepFault) → Q (Err why)) → ((verdict : Verdict) → Q (Ok (plain_answer verdict, t))) → (event : Event) → is_passive event ≡ true → Q (adapter_step t event)
unfolding read
passive_holds Q t refused answered (Request peer bytes) passive = absurd (let e = passive in cc)
passive_holds Q t refused answered (StreamOpened stream peer) passive = absurd (let e = passive in cc)
passive_holds Q t refused answered (Frame stream bytes) passive = absurd (let e = passive in cc)
passive_holds Q t refused answered (StreamCut stream) passive = absurd (let e = passive in cc)
passive_holds Q t refused answered (Datagram peer bytes) passive = absurd (let e = passive in cc)
passive_holds Q t refused answered (Inquiry peer bytes) passive = absurd (let e = passive in cc)
passive_holds Q t refused answered (Write point bytes) passive = absurd (let e = passive in cc)
passive_holds Q t refused answered (Read point) passive = read_passive Q t refused answered (bytes_at t.values point)
passive_holds Q t refused answered (Tick ms) passive = absurd (let e = passive in cc)
passive_holds Q t refused answered (Respond number status bytes) passive = absurd (let e = passive in cc)
passive_holds Q t refused answered (Counters bytes) passive = absurd (let e = passive in cc)
passive_holds Q t refused answered (Ids block) passive = absurd (let e = passive in cc)
passive_holds Q t refused answered other passive = search (refused, answered)

-- a passive event that is answered leaves the table as it is
pub record IsPassive (t : AdapterTable) (next : Next) : Type 0 where
  pub verdict : Verdict
  pub said : ◌≡◌ {A = Next} (plain_answer verdict, t) next

pub passive_is : (t : AdapterTable) (event : Event) (next : Next) → is_passive event ≡ true → adapter_step t event ≡ Ok next → IsPassive t next
passive_is t event next passive is =
    passive_holds (λ said. said ≡ Ok next → IsPassive t next) t (λ why refuses. absurd (let e = refuses in cc))
    (λ verdict answers. record { verdict = verdict; said = next_is _ _ answers }) event passive is
