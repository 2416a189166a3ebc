-- What arrives at a scripted port, and its outputs.
use Rattle.std.specs.Prelude.{List, [], ◌∷◌, ◌++◌, Option}
use Rattle.cip_events.specs.declared.arrival.Arrival.{Arrival}
use Rattle.udp_runner.specs.declared.output.SentOutput.{SentOutput}

-- the arrivals of the next receives, and all outputs that were sent
pub record Tape : Type 0 where
  pub coming : List (Option Arrival)
  pub sent : List SentOutput

-- the first element; a default where the list is empty
abbrev pub first_or : {X : Type 0} → X → List X → X
first_or default [] = default
first_or default (x ∷ xs) = x

abbrev pub rest_of : {X : Type 0} → List X → List X
rest_of [] = []
rest_of (x ∷ xs) = xs

-- the tape after a receive
abbrev pub with_taken : Tape → Tape
with_taken tape = record tape { coming = rest_of tape.coming }

-- the tape after these were sent
abbrev pub with_sent : Tape → List SentOutput → Tape
with_sent tape sent = record tape { sent = tape.sent ++ sent }
