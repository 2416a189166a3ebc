-- Outputs that go over a network, one after another, until one fails.
use Rattle.std.specs.Prelude.{◌≡◌, List, [], ◌∷◌, ◌++◌, Result, Ok, Err}
use Rattle.cip_events.specs.Outputs.{AnswerOutput}

-- What a call for one output did: the output went, and the network can take another one; or it failed.
abbrev pub Puts : {N F : Type 0} → (N → Type 0) → (sends fails : N → AnswerOutput → N → Type 0) → N → AnswerOutput → N → Result Unit F → Type 0
Puts is_ready sends fails old output new (Ok done) = sends old output new × is_ready new
Puts is_ready sends fails old output new (Err fault) = fails old output new

-- these outputs went, one after another, and nothing else happened
abbrev pub SendsAll : {N : Type 0} → (N → AnswerOutput → N → Type 0) → N → List AnswerOutput → N → Type 0
SendsAll sends old [] new = new ≡ old
SendsAll {N} sends old (output ∷ outputs) new = (middle : N) × sends old output middle × SendsAll sends middle outputs new

-- The first of these outputs went, in order, and the next one failed.
pub record BreaksOff {N : Type 0} (sends fails : N → AnswerOutput → N → Type 0) (old : N) (outputs : List AnswerOutput) (new : N) : Type 0 where
  pub done : List AnswerOutput
  pub failed : AnswerOutput
  pub unsent : List AnswerOutput
  pub parts : outputs ≡ done ++ failed ∷ unsent
  pub middle : N
  pub went : SendsAll sends old done middle
  pub fails_there : fails middle failed new

-- What a call for some outputs did: all of them went, and the network can take another one; or one failed.
abbrev pub Sends : {N F : Type 0} → (N → Type 0) → (sends fails : N → AnswerOutput → N → Type 0) → N → List AnswerOutput → N → Result Unit F → Type 0
Sends is_ready sends fails old outputs new (Ok done) = SendsAll sends old outputs new × is_ready new
Sends is_ready sends fails old outputs new (Err fault) = BreaksOff sends fails old outputs new
