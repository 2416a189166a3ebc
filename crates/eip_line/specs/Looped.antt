-- The output of a run over sockets.
use Rattle.std.specs.Prelude.{ℕ, ◌≡◌, Bool, true, List, codes, Option, Result, Ok, Err}
use Rattle.std.specs.Io.KnownBytes.{Appends}
use Rattle.trace_stepper.specs.Written.{BeginsToWrite}
use Rattle.eip_line.specs.Faults.{numbered_line}
use Rattle.eip_line.specs.declared.faults.ProgramFault.{ProgramFault}
use Rattle.eip_line.specs.declared.faults.ProgramFault.TheVariants as program

-- the line with the number of turns
abbrev pub turns_line : ℕ → List ℕ
turns_line turns = numbered_line (codes "turns ") turns

-- The output when a loop of this many turns ends so: none if the devices or their ports failed. It has no other end.
abbrev pub IsLooped : ℕ → Option (List ℕ) → Result Bool ProgramFault → Option (List ℕ) → Type 0
IsLooped turns old (Ok true) new = Appends old new (turns_line turns)
IsLooped turns old (Err (program.Loop fault)) new = new ≡ old
IsLooped turns old (Err program.Write) new = BeginsToWrite old (turns_line turns) new
IsLooped turns old ended new = ⊥
