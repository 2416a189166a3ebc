-- What is printed of a bad line.
use Rattle.std.specs.Prelude.{ℕ, List, ◌++◌, codes, decimal}
use Rattle.plant_rim.specs.declared.file.faults.PlantLineFault.{PlantLineFault}
use Rattle.plant_rim.specs.declared.file.faults.PlantLineFault.TheVariants as fault

abbrev pub sentence_of_context : PlantLineFault → List ℕ
sentence_of_context fault.BadTime = codes "a time is a number of milliseconds up to 4294967295, and behind every it is not 0"
sentence_of_context fault.NoCall = codes "a call is write, read, mode, start, stop, cut, pause, restart or send, and the words behind it; else it is expect, fail or pass"
sentence_of_context fault.BadCondition = codes "a condition is output POINT = HEX, image SLOT = HEX, slot N and idle, opening, established, timed-out or closing, or owner POINT and none, lost, run, idle or of NODE"
sentence_of_context fault.NoDo = codes "behind when is a condition, and do, and what is done"
sentence_of_context fault.NoScriptLine = codes "a line of a script begins with at, every or when"
sentence_of_context fault.BadText = codes "behind fail is a text of 1 to 200 bytes without control characters"
sentence_of_context fault.BeforeDevice = codes "no device is before it"
sentence_of_context fault.TooManyDevices = codes "a plant has at most 127 devices"
sentence_of_context fault.SameName = codes "an earlier device has this name"
sentence_of_context fault.SameAddress = codes "word 4: an earlier device has this address"
sentence_of_context fault.LongScript = codes "a script has at most 256 lines"
sentence_of_context fault.SaidTwice = codes "an earlier line says the same"
sentence_of_context other = codes "a plant has at least one device"

-- what is wrong, as a sentence
abbrev pub sentence_of : PlantLineFault → List ℕ
sentence_of fault.NotText = codes "it has bytes that are no UTF-8"
sentence_of fault.UnknownWord = codes "a line begins with device, lose, repeat, reorder, delay, seed, at, every, when, seconds or record"
sentence_of fault.BadName = codes "a name has 1 to 64 letters, digits, - and _"
sentence_of fault.NoProfile = codes "the path of the device's profile is missing"
sentence_of fault.BadAddress = codes "an address is four numbers below 256 with dots between them"
sentence_of fault.BadPercent = codes "a percentage is a number from 0 to 100"
sentence_of fault.BadDelay = codes "a delay is a number of milliseconds from 0 to 60000"
sentence_of fault.BadSeed = codes "a seed is a number from 0 to 18446744073709551615"
sentence_of fault.BadSeconds = codes "the seconds are a number from 1 to 1000000000"
sentence_of fault.NoFolder = codes "the path of the folder is missing"
sentence_of other = sentence_of_context other

-- the sentence of the line of this number
abbrev pub fault_text : ℕ → PlantLineFault → List ℕ
fault_text number fault = codes "line " ++ (decimal number ++ (codes ": " ++ sentence_of fault))
