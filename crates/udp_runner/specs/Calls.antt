-- What a call of a port did to its tape and to its count of failures, as the contract of `Port` says it: for a port around
-- another one, whose calls are those of the other one.
use Rattle.std.specs.Prelude.{◌≡◌, ℕ, ◌+◌, Bool, true, [], ◌∷◌, Option, None, Result, IfOk, OnOk, OnErr}
use Rattle.cip_events.specs.declared.arrival.Arrival.{Arrival}
use Rattle.udp_runner.specs.declared.fault.PortFault.{PortFault}
use Rattle.udp_runner.specs.declared.output.Output.{Output}
use Rattle.udp_runner.specs.Outputs.{view_output}
use Rattle.udp_runner.specs.Tape.{Tape, first_or, with_sent, with_taken}

-- it received
pub record Received (scripted : Bool) (old new : Tape) (before after : ℕ) (result : Result (Option Arrival) PortFault) : Type 0 where
  pub given : IfOk result (λ arrival. scripted ≡ true → arrival ≡ first_or None old.coming)
  pub taken : OnOk result (scripted ≡ true → new ≡ with_taken old)
  pub kept : OnErr result (scripted ≡ true → new ≡ old)
  pub worked : OnOk result (after ≡ before)
  pub counted : OnErr result (after ≡ before + 1)

-- it looked for a datagram that waits
pub record Looked (scripted : Bool) (old new : Tape) (before after : ℕ) (result : Result (Option Arrival) PortFault) : Type 0 where
  pub none : IfOk result (λ arrival. scripted ≡ true → arrival ≡ None)
  pub kept : scripted ≡ true → new ≡ old
  pub worked : OnOk result (after ≡ before)
  pub counted : OnErr result (after ≡ before + 1)

-- it sent an output
pub record Sent (scripted : Bool) (output : Output) (old new : Tape) (before after : ℕ) (result : Result Unit PortFault) : Type 0 where
  pub sent : OnOk result (scripted ≡ true → new ≡ with_sent old (view_output output ∷ []))
  pub kept : OnErr result (scripted ≡ true → new ≡ old)
  pub worked : OnOk result (after ≡ before)
  pub counted : OnErr result (after ≡ before + 1)

-- it received and sent nothing
pub record Idled (scripted : Bool) (old new : Tape) (before after : ℕ) : Type 0 where
  pub kept : scripted ≡ true → new ≡ old
  pub worked : after ≡ before
