-- Lines under the name of a device.
use Rattle.std.specs.Prelude.{ℕ, ◌==◌, if◌then◌else◌, Bool, true, false, List, [], ◌∷◌, ◌++◌, bytes_eq, codes, drop, length, nat_lt, take}
use Rattle.plant_rim.specs.declared.named.NameForm.{NameForm}
use Rattle.plant_rim.specs.declared.named.NameForm.TheVariants.{Result, Report}

-- a byte, behind the name and a space if it begins a line
abbrev pub byte_text : List ℕ → Bool → ℕ → List ℕ
byte_text name true byte = name ++ 32 ∷ byte ∷ []
byte_text name false byte = byte ∷ []

-- a text whose first byte begins a line or not: an LF ends a line
abbrev pub results_text : List ℕ → Bool → List ℕ → List ℕ
results_text name begins [] = []
results_text name begins (byte ∷ rest) = byte_text name begins byte ++ results_text name (byte == 10) rest

-- what stands before each report of a station
abbrev pub program : List ℕ
program = codes "eip_station: "

-- a text without that
abbrev pub bare : List ℕ → List ℕ
bare text = if nat_lt (length text) 13 then text else (if bytes_eq (take 13 text) program then drop 13 text else text)

-- a report, with the name behind that of the program
abbrev pub report_text : List ℕ → List ℕ → List ℕ
report_text name text = program ++ (name ++ (codes ": " ++ bare text))

abbrev pub named_text : NameForm → List ℕ → List ℕ → List ℕ
named_text Result name text = results_text name true text
named_text Report name text = report_text name text
