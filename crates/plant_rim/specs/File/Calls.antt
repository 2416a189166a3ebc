-- The steps that texts have a device of a plant do: those that only a plant has, and those of a station.
use Rattle.std.specs.Prelude.{ℕ, if◌then◌else◌, true, false, List, [], ◌∷◌, codes, option_map, Option, Some, None}
use Rattle.station.specs.declared.step.LifeEnd.TheVariants.{Restart}
use Rattle.station.specs.declared.step.StationStep.{StationStep}
use Rattle.station.specs.declared.step.StationStep.TheVariants as step
use Rattle.port_faults.specs.declared.orders.order.PortOrder.TheVariants as order
use Rattle.station_lines.specs.Calls.{call_of, line_of}
use Rattle.station_lines.specs.declared.calls.InputLine.{InputLine}
use Rattle.station_lines.specs.declared.calls.InputLine.TheVariants as input
use Rattle.trace_text.specs.Forms.{is_ascii}
use Rattle.trace_words.specs.Reader.{Reader, Meanings, meaning, next_word, ends, refuses, ◌>>=◌}
use Rattle.trace_words.specs.Words.{bytes_of, is_word, node_of, number_of, words_of}

-- `restart` alone, or `restart same`
abbrev pub restart_reader : Reader StationStep
restart_reader [] = Some (step.End (Restart false), [])
restart_reader (word ∷ words) = if is_word (codes "same") word then ends (step.End (Restart true)) words else None

abbrev pub pause_reader : Reader StationStep
pause_reader = do
  ms ← next_word (number_of 32)
  ends (step.Order (order.Pause ms))

abbrev pub send_reader : Reader StationStep
send_reader = do
  peer ← next_word node_of
  bytes ← next_word bytes_of
  ends (step.Order (order.Send peer bytes))

-- what only a plant has, by its first words
abbrev pub own_meanings : Meanings (Reader StationStep)
own_meanings =
    (codes "cut", ends (step.Order order.Cut))
    ∷ (codes "pause", pause_reader)
    ∷ (codes "restart", restart_reader)
    ∷ (codes "send", send_reader)
    ∷ []

abbrev pub own_reader : Reader StationStep
own_reader = do
  word ← next_word Some
  meaning own_meanings refuses word

-- the step that a text writes, if only a plant has it
unfoldable pub own_call_of : List ℕ → Option StationStep
own_call_of text = if is_ascii text then option_map (λ got. got.0) (own_reader (words_of text)) else None

-- the step of a text that writes a call of a station
abbrev pub station_call_of : List ℕ → Option StationStep
station_call_of text = option_map step.Call (call_of text)

abbrev pub or_station_call : List ℕ → Option StationStep → Option StationStep
or_station_call text (Some own) = Some own
or_station_call text None = station_call_of text

-- the step that a text of a script writes: one that only a plant has, or else a station's call
abbrev pub plant_call_of : List ℕ → Option StationStep
plant_call_of text = or_station_call text (own_call_of text)

-- TYPED TEXTS

-- the step of a line of a station's input
abbrev pub step_of_line : InputLine → Option StationStep
step_of_line (input.Call event) = Some (step.Call event)
step_of_line (input.Attribute call) = Some (step.Ask call)
step_of_line input.Status = Some step.Status
step_of_line input.Numbers = Some step.Numbers
step_of_line input.Skipped = None
step_of_line input.NoCall = None

abbrev pub or_station_line : List ℕ → Option StationStep → Option StationStep
or_station_line text (Some own) = Some own
or_station_line text None = step_of_line (line_of text)

-- the step that a typed text writes: one that only a plant has, or else what it is as a line of a station's input
abbrev pub typed_call_of : List ℕ → Option StationStep
typed_call_of text = or_station_line text (own_call_of text)
