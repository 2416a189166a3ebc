-- The calls that a page hands on.
use Rattle.std.specs.Prelude.{ℕ, ◌+◌, ◌==◌, ◌&&◌, ◌||◌, not, if◌then◌else◌, Bool, true, false, List, [], ◌∷◌, ◌++◌, drop, position, Option, Some, None}
use Rattle.std.specs.List.{list_any}
use Rattle.cip_events.specs.declared.event.Event.{Event}
use Rattle.cip_events.specs.declared.event.Event.TheVariants as event
use Rattle.station_lines.specs.Calls.{call_of}

-- a call that changes a device
abbrev pub writes : Event → Bool
writes (event.Write point bytes) = true
writes (event.Mode run) = true
writes (event.Start slot) = true
writes (event.Stop slot) = true
writes other = false

-- the call of a line is handed on
abbrev pub is_page_call : Option Event → Bool
is_page_call (Some call) = writes call
is_page_call None = false

-- LINES

-- LF or CR
abbrev pub is_line_break : ℕ → Bool
is_line_break byte = (byte == 10) || (byte == 13)

-- a call is several lines of the input
abbrev pub has_line_break : List ℕ → Bool
has_line_break call = list_any is_line_break call

-- A CALL AT A DEVICE OF A PLANT

abbrev pub is_space : ℕ → Bool
is_space byte = byte == 32

abbrev pub behind_place : List ℕ → Option ℕ → List ℕ
behind_place line (Some end) = drop (end + 1) line
behind_place line None = []

-- the call behind the name of a device, which ends with the first space
abbrev pub behind_name : List ℕ → List ℕ
behind_name line = behind_place line (position is_space line)

-- what a call says to its device
abbrev pub own_call : (is_plant : Bool) → List ℕ → List ℕ
own_call is_plant call = if is_plant then behind_name call else call

-- the line of the input for a call: none for what is no call of a page, and for several lines
abbrev pub call_line : (is_plant : Bool) → List ℕ → Option (List ℕ)
call_line is_plant call = if not (has_line_break call) && is_page_call (call_of (own_call is_plant call)) then Some (call ++ 10 ∷ []) else None
