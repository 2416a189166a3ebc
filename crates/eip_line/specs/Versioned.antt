-- The output of the request for the version.
use Rattle.std.specs.Prelude.{ℕ, Bool, true, List, codes, ◌++◌, Option, Result, Ok, Err}
use Rattle.std.specs.Io.KnownBytes.{Appends}
use Rattle.trace_stepper.specs.Written.{BeginsToWrite}
use Rattle.command_lines.specs.Version.{version_text}
use Rattle.eip_line.specs.declared.faults.ProgramFault.{ProgramFault}
use Rattle.eip_line.specs.declared.faults.ProgramFault.TheVariants as program

-- the line with the program's name and version
abbrev pub version_line : List ℕ
version_line = codes "eip_line " ++ (version_text ++ codes "\n")

-- The output when the request ends so. It has no other end.
abbrev pub IsVersioned : Option (List ℕ) → Result Bool ProgramFault → Option (List ℕ) → Type 0
IsVersioned old (Ok true) new = Appends old new version_line
IsVersioned old (Err program.Write) new = BeginsToWrite old version_line new
IsVersioned old ended new = ⊥
