-- What a path in the compressed form, with a key of format 4, says, it says at every device, and its key names no other serial number.
use Rattle.std.proofs.Common.{◌≡◌, ℕ, false, List, Option, Some, None, Ok, refl, ap}
use Rattle.cip_epath.specs.ElectronicKey.{KeyFields}
use Rattle.cip_epath.specs.Path.{PathFields}
use Rattle.cip_epath.specs.Reading.{path_reading}
use Rattle.cip_epath.specs.MessagePath.{message_path_reading}
use Rattle.cip_epath.specs.AnyPath.{is_other_serial}
use Rattle.cip_epath.specs.Laws.AnyLaws.{compressed_reads, plain_message_reads, compressed_serial}
use Rattle.adapter_table.specs.declared.profile.Description.{Description}
use Rattle.adapter_table.specs.Paths.{opening_path, opening_message_path, names_another}

pub opening_reads : (description : Option Description) (bytes : List ℕ) (path : PathFields) → path_reading bytes ≡ Ok path → opening_path description bytes ≡ Ok path
opening_reads None bytes path reads = reads
opening_reads (Some d) bytes path reads = compressed_reads bytes path reads

pub message_reads : (description : Option Description) (bytes : List ℕ) (key : Option KeyFields) → message_path_reading bytes ≡ Ok key → opening_message_path description bytes ≡ Ok key
message_reads None bytes key reads = reads
message_reads (Some d) bytes key reads = plain_message_reads bytes key reads

pub names_no_other : (description : Option Description) (bytes : List ℕ) (path : PathFields) → path_reading bytes ≡ Ok path → names_another description bytes ≡ false
names_no_other None bytes path reads = refl
names_no_other (Some d) bytes path reads = ap (is_other_serial d.serial) (compressed_serial bytes path reads)
