-- What a line of workers answers.
use Rattle.std.specs.Prelude.{◌≡◌, ◌≢◌, ℕ, ◌<◌, List, [], ◌∷◌, ◌++◌, All, Result, Ok, Err, Option, Some, None, Vec, length, slice_index_or}
use Rattle.std.specs.Global.{Global}
use Rattle.cip_events.specs.declared.event.Event.{Event}
use Rattle.cip_tables.specs.declared.table.Config.{Config}
use Rattle.cip_tables.specs.Step.{incarnation_of, opening_table}
use Rattle.device_lock.specs.declared.receipt.Receipt.{Receipt}
use Rattle.line_threads.specs.Accounts.{of_device, own_events}
use Rattle.line_threads.specs.Scripts.{IsOwn}
use Rattle.line_threads.specs.declared.fault.LineFault.{LineFault}
use Rattle.line_threads.specs.declared.line.Job.{Job}

-- DEVICES

-- the incarnation byte of a device that is made of this configuration
abbrev pub byte_of : Config → ℕ
byte_of config = incarnation_of (opening_table config)

-- no two of these numbers are equal
abbrev pub Apart : List ℕ → Type 0
Apart [] = Unit {0}
Apart (n ∷ ns) = All (λ m. m ≢ n) ns × Apart ns

-- WORKERS

-- the work for one of n devices
abbrev pub IsJob : ℕ → Job → Type 0
IsJob n job = (job.place < n) × IsOwn job.script.items

-- a script, and the place of its device
abbrev pub job_of : ℕ × Vec Event Global → Job
job_of numbered = record { place = numbered.0; script = numbered.1 }

-- how a worker ends
abbrev pub Account : Type 0
Account = Result (Vec Receipt Global) LineFault

-- the receipts of the workers that ended well, in order
abbrev pub all_receipts : List Account → List Receipt
all_receipts [] = []
all_receipts (Ok v ∷ accounts) = v.items ++ all_receipts accounts
all_receipts (Err fault ∷ accounts) = all_receipts accounts

-- the fault of the first worker that has one
abbrev pub first_fault : List Account → Option LineFault
first_fault [] = None
first_fault (Ok v ∷ accounts) = first_fault accounts
first_fault (Err fault ∷ accounts) = Some fault

-- the receipts of each of these devices, kept to its application and to time, are for its script, in order and each once
abbrev pub ReportsScripts : List ℕ → List (Vec Event Global) → List Receipt → Type 0
ReportsScripts bytes scripts receipts =
    (i : ℕ) (script : Vec Event Global) → i < length bytes → own_events (of_device (slice_index_or bytes i 0) receipts) ≡ (slice_index_or scripts i script).items
