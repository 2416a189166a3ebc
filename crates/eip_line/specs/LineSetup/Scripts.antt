-- What the applications of a line do, turn after turn of a millisecond.
use Rattle.std.specs.Prelude.{ℕ, zero, suc, ◌==◌, if◌then◌else◌, true, List, [], ◌∷◌, ◌++◌, Option, Some, None}
use Rattle.std.specs.Int.{w32, to_le_bytes}
use Rattle.cip_events.specs.declared.event.Event.{Event}
use Rattle.cip_events.specs.declared.event.Event.TheVariants.{Write, Tick, Mode, Start}

-- TURNS

-- the number of the turn, in four bytes, is written to a point
abbrev pub write_of : ℕ → ℕ → Event
write_of point turn = Write point (to_le_bytes w32 turn)

-- .. if there is a point
abbrev pub writes : Option ℕ → ℕ → List Event
writes None turn = []
writes (Some point) turn = write_of point turn ∷ []

-- a turn: the write, and a millisecond
abbrev pub turn_of : Option ℕ → ℕ → List Event
turn_of point turn = writes point turn ++ Tick 1 ∷ []

-- so many turns, the first of which has number 1
abbrev pub turns_of : Option ℕ → ℕ → List Event
turns_of point zero = []
turns_of point (suc n) = turns_of point n ++ turn_of point (suc n)

-- SCRIPTS

-- the adapter's application writes input 100 in each turn
abbrev pub adapter_script : (turns : ℕ) → List Event
adapter_script turns = turns_of (Some 100) turns

-- scanner 0 alone has an output: that of its slot 0
abbrev pub output_of : ℕ → Option ℕ
output_of number = if number == 0 then Some 0 else None

-- a scanner's application starts slot 0 and runs, and writes the output, if there is one, in each turn
abbrev pub scanner_script : (turns : ℕ) → ℕ → List Event
scanner_script turns number = Start 0 ∷ Mode true ∷ turns_of (output_of number) turns

-- the scripts of so many scanners
abbrev pub scanner_scripts : (turns : ℕ) → ℕ → List (List Event)
scanner_scripts turns zero = []
scanner_scripts turns (suc n) = scanner_scripts turns n ++ scanner_script turns n ∷ []

-- the scripts of the adapter and of so many scanners, over so many turns
abbrev pub line_scripts : (scanners turns : ℕ) → List (List Event)
line_scripts scanners turns = adapter_script turns ∷ scanner_scripts turns scanners
