-- Numbers of a plant's file, and values that are made of others.
use Rattle.std.specs.Prelude.{ℕ, nat_lt, if◌then◌else◌, List, ok_or, option_and_then, Option, Some, None, Result, Ok, Err}
use Rattle.trace_words.specs.Words.{number_of}
use Rattle.plant_rim.specs.declared.file.faults.PlantLineFault.{PlantLineFault}
use Rattle.plant_rim.specs.declared.file.faults.PlantLineFault.TheVariants as fault

-- a value made of another one
abbrev pub made : {A B : Type 0} → (A → B) → Result A PlantLineFault → Result B PlantLineFault
made of (Ok value) = Ok (of value)
made of (Err why) = Err why

abbrev pub up_to : ℕ → List ℕ → Option ℕ
up_to most word = option_and_then (λ number. if nat_lt most number then None else Some number) (number_of 64 word)

abbrev pub time_of : List ℕ → Option ℕ
time_of word = up_to 4294967295 word

-- the time within which a condition is expected
abbrev pub within_of : List ℕ → Result ℕ PlantLineFault
within_of word = ok_or (time_of word) fault.BadTime
