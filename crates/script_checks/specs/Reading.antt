-- The words of a condition, and the condition that they write.
use Rattle.std.specs.Prelude.{ℕ, List, [], ◌∷◌, codes, option_map, Option, Some}
use Rattle.script_checks.specs.declared.condition.Condition.{Condition}
use Rattle.script_checks.specs.declared.condition.Condition.TheVariants as condition
use Rattle.script_checks.specs.declared.condition.OwnerState.{OwnerState}
use Rattle.script_checks.specs.declared.condition.OwnerState.TheVariants as owner
use Rattle.script_checks.specs.declared.condition.ExpectedState.{ExpectedState}
use Rattle.script_checks.specs.declared.condition.ExpectedState.TheVariants as state
use Rattle.trace_words.specs.Reader.{Reader, Meanings, meaning, next_word, gives, ends, refuses, mapped, ◌>>=◌}
use Rattle.trace_words.specs.Words.{bytes_of, node_of, number_of, words_of}

abbrev pub value_meanings : Meanings (Reader (List ℕ))
value_meanings = (codes "=", next_word bytes_of) ∷ []

-- the bytes behind `=`
abbrev pub value_reader : Reader (List ℕ)
value_reader = do
  word ← next_word Some
  meaning value_meanings refuses word

abbrev pub state_meanings : Meanings (Reader ExpectedState)
state_meanings =
    (codes "idle", gives state.Idle)
    ∷ (codes "opening", gives state.Opening)
    ∷ (codes "established", gives state.Established)
    ∷ (codes "timed-out", gives state.TimedOut)
    ∷ (codes "closing", gives state.Closing)
    ∷ []

-- the state of a slot
abbrev pub state_reader : Reader ExpectedState
state_reader = do
  word ← next_word Some
  meaning state_meanings refuses word

abbrev pub owner_meanings : Meanings (Reader OwnerState)
owner_meanings =
    (codes "none", gives owner.Unowned)
    ∷ (codes "lost", gives owner.Lost)
    ∷ (codes "run", gives owner.Running)
    ∷ (codes "idle", gives owner.Idle)
    ∷ (codes "of", mapped owner.Of (next_word node_of))
    ∷ []

-- how an output is owned
abbrev pub owner_reader : Reader OwnerState
owner_reader = do
  word ← next_word Some
  meaning owner_meanings refuses word

abbrev pub output_reader : Reader Condition
output_reader = do
  point ← next_word (number_of 32)
  bytes ← value_reader
  ends (condition.Output point bytes)

abbrev pub image_reader : Reader Condition
image_reader = do
  slot ← next_word (number_of 32)
  bytes ← value_reader
  ends (condition.Image slot bytes)

abbrev pub slot_reader : Reader Condition
slot_reader = do
  slot ← next_word (number_of 32)
  required ← state_reader
  ends (condition.Slot slot required)

abbrev pub owned_reader : Reader Condition
owned_reader = do
  point ← next_word (number_of 32)
  required ← owner_reader
  ends (condition.Owner point required)

-- conditions, by their first words
abbrev pub condition_meanings : Meanings (Reader Condition)
condition_meanings =
    (codes "output", output_reader)
    ∷ (codes "image", image_reader)
    ∷ (codes "slot", slot_reader)
    ∷ (codes "owner", owned_reader)
    ∷ []

abbrev pub condition_reader : Reader Condition
condition_reader = do
  word ← next_word Some
  meaning condition_meanings refuses word

-- the condition that a text writes
unfoldable pub condition_of : List ℕ → Option Condition
condition_of text = option_map (λ got. got.0) (condition_reader (words_of text))
