-- The acts of a story's devices.
use Rattle.std.specs.Prelude.{ℕ, if◌then◌else◌, List, [], ◌∷◌, codes, option_map, option_and_then, Option, Some, None}
use Rattle.cip_events.specs.Arrivals.{is_own}
use Rattle.trace_text.specs.Forms.{event_of}
use Rattle.trace_words.specs.Reader.{Reader, Meanings, meaning, next_word, ends, refuses, ◌>>=◌}
use Rattle.trace_words.specs.Words.{number_of}
use Rattle.world_command.specs.Story.Names.{device_at}
use Rattle.world_command.specs.declared.story.acts.StoryAct.{StoryAct}
use Rattle.world_command.specs.declared.story.acts.StoryAct.TheVariants as act

-- a stream to the device of a name
abbrev pub opens_reader : List (List ℕ) → Reader StoryAct
opens_reader names = do
  device ← next_word (device_at names)
  ends (act.Opens device)

-- an act with a number of so many bits
abbrev pub number_reader : ℕ → (ℕ → StoryAct) → Reader StoryAct
number_reader bits of = do
  number ← next_word (number_of bits)
  ends (of number)

-- the acts of the network, by their words
abbrev pub act_meanings : List (List ℕ) → Meanings (Reader StoryAct)
act_meanings names =
    (codes "opens", opens_reader names)
    ∷ (codes "forth", number_reader 16 act.Forth)
    ∷ (codes "back", number_reader 16 act.Back)
    ∷ (codes "takes", number_reader 32 act.Takes)
    ∷ (codes "cuts", number_reader 16 act.Cuts)
    ∷ (codes "restarts", number_reader 8 act.Restarts)
    ∷ []

abbrev pub act_reader : List (List ℕ) → Reader StoryAct
act_reader names = do
  word ← next_word Some
  meaning (act_meanings names) refuses word

-- the event of a trace that a text writes, if it is one of the device's own
abbrev pub own_act_of : List ℕ → Option StoryAct
own_act_of text = option_and_then (λ event. if is_own event then Some (act.Own event) else None) (event_of text)

abbrev pub or_own_act : List ℕ → Option StoryAct → Option StoryAct
or_own_act text (Some given) = Some given
or_own_act text None = own_act_of text

-- the act that words write, which are this text: one of the network, or else an event of the device's own
abbrev pub act_of : List (List ℕ) → (words : List (List ℕ)) (text : List ℕ) → Option StoryAct
act_of names words text = or_own_act text (option_map (λ got. got.0) (act_reader names words))
