-- The lines of devices in the text of a plant, by their numbers from 1.
use Rattle.std.specs.Prelude.{ℕ, ◌+◌, nat_eq, if◌then◌else◌, Bool, List, [], ◌∷◌, ◌++◌, codes, slice_index_or}
use Rattle.std.specs.List.{starts_with}
use Rattle.trace_text.specs.Reading.{parts_of}
use Rattle.plant_rim.specs.File.Texts.{trimmed}

-- a line whose first word is `device`, with words behind it
abbrev pub is_device_line : List ℕ → Bool
is_device_line line = starts_with nat_eq (trimmed line) (codes "device ")

-- the number of a line, if it is one of a device
abbrev pub device_number : (number : ℕ) → (line : List ℕ) → List ℕ
device_number number line = if is_device_line line then number ∷ [] else []

-- the numbers of the lines of devices, where the first of these lines has this number
abbrev pub numbers_from : ℕ → List (List ℕ) → List ℕ
numbers_from number [] = []
numbers_from number (line ∷ lines) = device_number number line ++ numbers_from (number + 1) lines

-- the numbers of the lines of devices in a text, whose lines LFs separate
abbrev pub device_lines : List ℕ → List ℕ
device_lines text = numbers_from 1 (parts_of text)

-- the line of the device of this number, from 0; 0 if there is none
abbrev pub device_line : (lines : List ℕ) → (device : ℕ) → ℕ
device_line lines device = slice_index_or lines device 0
