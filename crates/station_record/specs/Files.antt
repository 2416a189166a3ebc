-- The files of a record: where a piece goes, and what a file is called.
use Rattle.std.specs.Prelude.{ℕ, ◌+◌, ◌-◌, ◌^◌, ◌==◌, ◌||◌, nat_le, min, Bool, if◌then◌else◌, List, ◌++◌, codes, decimal}
use Rattle.station_record.specs.declared.files.Placed.{Placed}
use Rattle.station_record.specs.declared.files.Placed.TheVariants.{Same, Next}
use Rattle.station_record.specs.declared.files.RecordFiles.{RecordFiles}

-- the most bytes of a file
abbrev pub longest_file : ℕ
longest_file = 16777216

-- the first file, which is empty
abbrev pub first_file : RecordFiles
first_file = record { number = 1; bytes = 0 }

-- whether a piece of so many bytes goes behind so many others: there are none, or the file has room
abbrev pub goes_behind : ℕ → ℕ → Bool
goes_behind bytes len = (bytes == 0) || nat_le (bytes + len) longest_file

-- the present file with so many bytes more; a count stays at 2^64 - 1
abbrev pub grown : RecordFiles → ℕ → RecordFiles
grown files len = record files { bytes = min (files.bytes + len) (2 ^ 64 - 1) }

-- the number of the next file; 2^32 - 1 is the last number
abbrev pub next_number : RecordFiles → ℕ
next_number files = min (files.number + 1) (2 ^ 32 - 1)

-- where a piece of so many bytes goes, and the present file then
abbrev pub placed : RecordFiles → ℕ → Placed × RecordFiles
placed files len =
    if goes_behind files.bytes len
    then (Same, grown files len)
    else (Next (next_number files), record { number = next_number files; bytes = len })

-- the name of a file
abbrev pub file_name_text : List ℕ → ℕ → List ℕ
file_name_text name number = if nat_le number 1 then name else name ++ (codes "." ++ decimal number)
