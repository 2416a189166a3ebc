-- A plant's file, line by line: what the lines so far say of the plant, and whether one more line fits.
use Rattle.std.specs.Prelude.{ℕ, ◌==◌, nat_le, bytes_eq, if◌then◌else◌, Bool, false, List, [], ◌∷◌, ◌++◌, length, option_to_list, Option, Some, None, Result, Ok, Err}
use Rattle.std.specs.List.{list_any}
use Rattle.cip_types.specs.declared.names.Node.{Node}
use Rattle.port_faults.specs.declared.rates.FaultRates.{FaultRates}
use Rattle.station.specs.declared.script.lines.ScriptLine.{ScriptLine}
use Rattle.plant_rim.specs.declared.file.draft.PlantDraft.{PlantDraft}
use Rattle.plant_rim.specs.declared.file.faults.PlantLineFault.{PlantLineFault}
use Rattle.plant_rim.specs.declared.file.faults.PlantLineFault.TheVariants as fault
use Rattle.plant_rim.specs.declared.file.line.FaultSetting.{FaultSetting}
use Rattle.plant_rim.specs.declared.file.line.FaultSetting.TheVariants as setting
use Rattle.plant_rim.specs.declared.file.line.PlantLine.{PlantLine}
use Rattle.plant_rim.specs.declared.file.line.PlantLine.TheVariants as line
use Rattle.plant_rim.specs.declared.file.plant.FaultOptions.{FaultOptions}
use Rattle.plant_rim.specs.declared.file.plant.PlantFile.{PlantFile}
use Rattle.plant_rim.specs.declared.file.plant.PlantDevice.{PlantDevice}
use Rattle.plant_rim.specs.File.Made.{made}

-- FAULTS ON PURPOSE

abbrev pub or_zero : Option ℕ → ℕ
or_zero None = 0
or_zero (Some number) = number

-- nothing becomes of the datagrams, where the file says nothing
abbrev pub rates_of : FaultOptions → FaultRates
rates_of options = record { lose = or_zero options.lose; repeat = or_zero options.repeat; reorder = or_zero options.reorder; delay_ms = or_zero options.delay_ms; seed = or_zero options.seed }

abbrev pub no_options : FaultOptions
no_options = record { lose = None; repeat = None; reorder = None; delay_ms = None; seed = None }

-- what is not said twice
abbrev pub unless_said : {A B : Type 0} → Option A → B → Result B PlantLineFault
unless_said None value = Ok value
unless_said (Some before) value = Err fault.SaidTwice

-- the options with one more
abbrev pub options_with : FaultOptions → FaultSetting → Result FaultOptions PlantLineFault
options_with options (setting.Lose percent) = unless_said options.lose (record options { lose = Some percent })
options_with options (setting.Repeat percent) = unless_said options.repeat (record options { repeat = Some percent })
options_with options (setting.Reorder percent) = unless_said options.reorder (record options { reorder = Some percent })
options_with options (setting.Delay ms) = unless_said options.delay_ms (record options { delay_ms = Some ms })
options_with options (setting.Seed seed) = unless_said options.seed (record options { seed = Some seed })

-- DEVICES

abbrev pub new_device : (name profile : List ℕ) → Option Node → PlantDevice
new_device name profile address = record { name = name; profile = profile; address = address; faults = no_options; script = [] }

abbrev pub with_options : PlantDevice → FaultOptions → PlantDevice
with_options device options = record device { faults = options }

abbrev pub device_with_fault : PlantDevice → FaultSetting → Result PlantDevice PlantLineFault
device_with_fault device given = made (with_options device) (options_with device.faults given)

abbrev pub device_with_line : PlantDevice → ScriptLine → Result PlantDevice PlantLineFault
device_with_line device given = if nat_le 256 (length device.script) then Err fault.LongScript else Ok (record device { script = device.script ++ given ∷ [] })

-- whether one of these devices has the name, or the address
abbrev pub has_name : List ℕ → List PlantDevice → Bool
has_name name devices = list_any (λ device. bytes_eq device.name name) devices

abbrev pub is_at : Node → Option Node → Bool
is_at node None = false
is_at node (Some address) = address.0 == node.0

abbrev pub has_node : Node → List PlantDevice → Bool
has_node node devices = list_any (λ device. is_at node device.address) devices

abbrev pub has_address : Option Node → List PlantDevice → Bool
has_address None devices = false
has_address (Some node) devices = has_node node devices

-- why a device is not one more beside these
abbrev pub misfit : List PlantDevice → List ℕ → Option Node → Option PlantLineFault
misfit devices name address =
    if nat_le 127 (length devices) then Some fault.TooManyDevices else
    (if has_name name devices then Some fault.SameName else
    (if has_address address devices then Some fault.SameAddress else None))

-- THE LINES SO FAR

-- all devices so far
abbrev pub devices_of : PlantDraft → List PlantDevice
devices_of draft = draft.devices ++ option_to_list draft.last

-- no line so far
abbrev pub no_draft : PlantDraft
no_draft = record { devices = []; last = None; seconds = None; record_path = None }

abbrev pub with_device : PlantDraft → PlantDevice → Option PlantLineFault → Result PlantDraft PlantLineFault
with_device draft device None = Ok (record draft { devices = devices_of draft; last = Some device })
with_device draft device (Some why) = Err why

abbrev pub with_last : PlantDraft → PlantDevice → PlantDraft
with_last draft device = record draft { last = Some device }

abbrev pub with_fault : PlantDraft → FaultSetting → Option PlantDevice → Result PlantDraft PlantLineFault
with_fault draft given None = Err fault.BeforeDevice
with_fault draft given (Some device) = made (with_last draft) (device_with_fault device given)

abbrev pub with_script : PlantDraft → ScriptLine → Option PlantDevice → Result PlantDraft PlantLineFault
with_script draft given None = Err fault.BeforeDevice
with_script draft given (Some device) = made (with_last draft) (device_with_line device given)

-- what the lines say with one more, or why that one does not fit
abbrev pub draft_with : PlantDraft → PlantLine → Result PlantDraft PlantLineFault
draft_with draft line.Skipped = Ok draft
draft_with draft (line.Device name profile address) = with_device draft (new_device name profile address) (misfit (devices_of draft) name address)
draft_with draft (line.Fault given) = with_fault draft given draft.last
draft_with draft (line.Script given) = with_script draft given draft.last
draft_with draft (line.Seconds seconds) = unless_said draft.seconds (record draft { seconds = Some seconds })
draft_with draft (line.Record path) = unless_said draft.record_path (record draft { record_path = Some path })

-- the plant of all lines, if it has a device
abbrev pub plant_of : PlantDraft → Result PlantFile PlantLineFault
plant_of draft = if length (devices_of draft) == 0 then Err fault.NoDevice else Ok (record { devices = devices_of draft; seconds = draft.seconds; record_path = draft.record_path })
