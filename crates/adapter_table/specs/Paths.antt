-- The path of a Forward_Open, as a device reads it: a described one in any form, with a key of either format, any other one in the
-- compressed form, with a key of format 4 (Volume 1, chapter 3, connection path, and appendix C, electronic key segment).
use Rattle.std.specs.Prelude.{ℕ, Bool, false, List, Option, Some, None, Result}
use Rattle.cip_epath.specs.declared.fault.PathFault.{PathFault}
use Rattle.cip_epath.specs.ElectronicKey.{KeyFields}
use Rattle.cip_epath.specs.Path.{PathFields}
use Rattle.cip_epath.specs.Reading.{path_reading}
use Rattle.cip_epath.specs.MessagePath.{message_path_reading}
use Rattle.cip_epath.specs.AnyPath.{any_path_reading, any_message_reading, key_serial, is_other_serial}
use Rattle.adapter_table.specs.declared.profile.Description.{Description}

-- what the bytes say as a connection path
abbrev pub opening_path : Option Description → List ℕ → Result PathFields PathFault
opening_path None path = path_reading path
opening_path (Some d) path = any_path_reading path

-- what they say as the path of a class 3 connection: its key, if it has one
abbrev pub opening_message_path : Option Description → List ℕ → Result (Option KeyFields) PathFault
opening_message_path None path = message_path_reading path
opening_message_path (Some d) path = any_message_reading path

-- the key names the serial number of another device than this one, which is described
abbrev pub names_another : Option Description → List ℕ → Bool
names_another None path = false
names_another (Some d) path = is_other_serial d.serial (key_serial path)
