-- What worked bytes say, and which devices worked keys want.
use Rattle.std.proofs.Common.{◌≡◌, ℕ, List, [], ◌∷◌, ◌++◌, take, Some, None, Ok, Err, true, false, refl}
use Rattle.cip_types.specs.declared.names.Identity.{Identity}
use Rattle.cip_epath.specs.declared.fault.PathFault.TheVariants as fault
use Rattle.cip_epath.specs.declared.key.KeyFault.TheVariants as differs
use Rattle.cip_epath.specs.declared.path.Target.{Target}
use Rattle.cip_epath.specs.ElectronicKey.{key_fault}
use Rattle.cip_epath.specs.Path.{PathFields}
use Rattle.cip_epath.specs.Reading.{data_at, key_fields_at, key_at, value_at, logical_at, segment_at, segments_at, path_reading, target_reading}
use Rattle.cip_epath.specs.MessagePath.{message_path_reading}
use Rattle.cip_epath.specs.Written.{path_text, target_text}

-- ---- connection paths

-- class 4, configuration 0x97, consumed point 0x96, produced point 0x64
abbrev points : List ℕ
points = 0x20 ∷ 4 ∷ 0x24 ∷ 0x97 ∷ 0x2C ∷ 0x96 ∷ 0x2C ∷ 0x64 ∷ []

-- a key for vendor 1, device type 12, product 7, revision 2.2 or a compatible one
abbrev key_bytes : List ℕ
key_bytes = 0x34 ∷ 4 ∷ 1 ∷ 0 ∷ 12 ∷ 0 ∷ 7 ∷ 0 ∷ 0x82 ∷ 2 ∷ []

-- inhibit time 5, configuration and consumed point 300, empty data
abbrev wide_bytes : List ℕ
wide_bytes = 0x43 ∷ 5 ∷ 0x20 ∷ 4 ∷ 0x25 ∷ 0 ∷ 0x2C ∷ 1 ∷ 0x2D ∷ 0 ∷ 0x2C ∷ 1 ∷ 0x2C ∷ 0x64 ∷ 0x80 ∷ 0 ∷ []

abbrev pointed : PathFields
pointed = record { key = None; inhibit = None; class = 4; config = Some 0x97; consumed = 0x96; produced = 0x64; segment = None }

abbrev wide : PathFields
wide = record { key = None; inhibit = Some 5; class = 4; config = Some 300; consumed = 300; produced = 0x64; segment = Some [] }

abbrev keyed : PathFields
keyed = record { key = Some (record { vendor = 1; device_type = 12; product = 7; compatible = true; major = 2; minor = 2 }); inhibit = None; class = 4; config = Some 0x97; consumed = 0x96; produced = 0x64; segment = None }

pub points_read : path_reading points ≡ Ok pointed
unfolding path_reading segments_at segment_at logical_at value_at
points_read = refl

pub points_written : path_text pointed ≡ points
points_written = refl

pub wide_read : path_reading wide_bytes ≡ Ok wide
unfolding path_reading segments_at segment_at logical_at value_at data_at
wide_read = refl

-- a value of 300 takes the form of 16 bits, and empty data is written
pub wide_written : path_text wide ≡ wide_bytes
wide_written = refl

pub long_value_written : path_text (record { key = None; inhibit = None; class = 4; config = None; consumed = 0x1_0000; produced = 0x64; segment = None }) ≡ 0x20 ∷ 4 ∷ 0x2E ∷ 0 ∷ 0 ∷ 0 ∷ 1 ∷ 0 ∷ 0x2C ∷ 0x64 ∷ []
long_value_written = refl

pub keyed_read : path_reading (key_bytes ++ points) ≡ Ok keyed
unfolding path_reading segments_at segment_at logical_at value_at key_at key_fields_at
keyed_read = refl

pub keyed_written : path_text keyed ≡ key_bytes ++ points
keyed_written = refl

-- two points are the consumed and the produced one
pub two_points : path_reading (take 6 points) ≡ Ok (record { key = None; inhibit = None; class = 4; config = None; consumed = 0x97; produced = 0x96; segment = None })
unfolding path_reading segments_at segment_at logical_at value_at
two_points = refl

pub data_behind : path_reading (points ++ 0x80 ∷ 1 ∷ 0xAA ∷ 0xBB ∷ []) ≡ Ok (record { key = None; inhibit = None; class = 4; config = Some 0x97; consumed = 0x96; produced = 0x64; segment = Some (0xAA ∷ 0xBB ∷ []) })
unfolding path_reading segments_at segment_at logical_at value_at data_at
data_behind = refl

-- an inhibit time may stand at the end
pub inhibited : path_reading (points ++ 0x43 ∷ 5 ∷ []) ≡ Ok (record { key = None; inhibit = Some 5; class = 4; config = Some 0x97; consumed = 0x96; produced = 0x64; segment = None })
unfolding path_reading segments_at segment_at logical_at value_at
inhibited = refl

pub twice_inhibited : path_reading (0x43 ∷ 5 ∷ (points ++ 0x43 ∷ 6 ∷ [])) ≡ Err fault.Shape
unfolding path_reading segments_at segment_at logical_at value_at
twice_inhibited = refl

pub no_bytes : path_reading [] ≡ Err fault.Shape
unfolding path_reading segments_at
no_bytes = refl

pub within_a_segment : path_reading (take 3 points) ≡ Err fault.Truncated
unfolding path_reading segments_at segment_at logical_at value_at
within_a_segment = refl

pub class_alone : path_reading (take 2 points) ≡ Err fault.Shape
unfolding path_reading segments_at segment_at logical_at value_at
class_alone = refl

pub one_point : path_reading (0x20 ∷ 4 ∷ 0x2C ∷ 0x96 ∷ []) ≡ Err fault.Shape
unfolding path_reading segments_at segment_at logical_at value_at
one_point = refl

pub no_segment : path_reading (0x91 ∷ 2 ∷ []) ≡ Err fault.Segment
unfolding path_reading segments_at segment_at logical_at value_at
no_segment = refl

pub other_format : path_reading (0x34 ∷ 3 ∷ []) ≡ Err fault.KeyFormat
unfolding path_reading segments_at segment_at key_at
other_format = refl

-- what does not read goes before a wrong arrangement
pub fault_before_shape : path_reading (0x24 ∷ 1 ∷ 0x20 ∷ []) ≡ Err fault.Truncated
unfolding path_reading segments_at segment_at logical_at value_at
fault_before_shape = refl

-- ---- the paths of requests

abbrev to_manager : Target
to_manager = record { class = 6; instance = 1; attribute = None }

abbrev to_attribute : Target
to_attribute = record { class = 4; instance = 300; attribute = Some 3 }

pub manager_read : target_reading (0x20 ∷ 6 ∷ 0x24 ∷ 1 ∷ []) ≡ Ok to_manager
unfolding target_reading segments_at segment_at logical_at value_at
manager_read = refl

pub attribute_read : target_reading (0x20 ∷ 4 ∷ 0x25 ∷ 0 ∷ 0x2C ∷ 1 ∷ 0x30 ∷ 3 ∷ []) ≡ Ok to_attribute
unfolding target_reading segments_at segment_at logical_at value_at
attribute_read = refl

pub attribute_written : target_text to_attribute ≡ 0x20 ∷ 4 ∷ 0x25 ∷ 0 ∷ 0x2C ∷ 1 ∷ 0x30 ∷ 3 ∷ []
attribute_written = refl

-- a connection path is no path of a request
pub points_are_no_target : target_reading points ≡ Err fault.Shape
unfolding target_reading segments_at segment_at logical_at value_at
points_are_no_target = refl

-- ---- the paths of class 3 connections

-- class 2, instance 1
abbrev to_router : List ℕ
to_router = 0x20 ∷ 2 ∷ 0x24 ∷ 1 ∷ []

pub router_read : message_path_reading to_router ≡ Ok None
unfolding message_path_reading segments_at segment_at logical_at value_at
router_read = refl

pub keyed_router_read : message_path_reading (key_bytes ++ to_router) ≡ Ok (Some (record { vendor = 1; device_type = 12; product = 7; compatible = true; major = 2; minor = 2 }))
unfolding message_path_reading segments_at segment_at logical_at value_at key_at key_fields_at
keyed_router_read = refl

-- a value may have more bytes than it needs
pub wide_router_read : message_path_reading (0x21 ∷ 0 ∷ 2 ∷ 0 ∷ 0x26 ∷ 0 ∷ 1 ∷ 0 ∷ 0 ∷ 0 ∷ []) ≡ Ok None
unfolding message_path_reading segments_at segment_at logical_at value_at
wide_router_read = refl

pub to_other_class : message_path_reading (0x20 ∷ 6 ∷ 0x24 ∷ 1 ∷ []) ≡ Err fault.Shape
unfolding message_path_reading segments_at segment_at logical_at value_at
to_other_class = refl

pub to_other_instance : message_path_reading (0x20 ∷ 2 ∷ 0x24 ∷ 2 ∷ []) ≡ Err fault.Shape
unfolding message_path_reading segments_at segment_at logical_at value_at
to_other_instance = refl

pub to_a_point : message_path_reading (0x20 ∷ 2 ∷ 0x2C ∷ 1 ∷ []) ≡ Err fault.Shape
unfolding message_path_reading segments_at segment_at logical_at value_at
to_a_point = refl

pub router_class_alone : message_path_reading (take 2 to_router) ≡ Err fault.Shape
unfolding message_path_reading segments_at segment_at logical_at value_at
router_class_alone = refl

pub no_router_bytes : message_path_reading [] ≡ Err fault.Shape
unfolding message_path_reading segments_at
no_router_bytes = refl

pub segment_behind : message_path_reading (to_router ++ 0x30 ∷ 1 ∷ []) ≡ Err fault.Shape
unfolding message_path_reading segments_at segment_at logical_at value_at
segment_behind = refl

-- an inhibit time belongs to cyclic productions
pub inhibited_router : message_path_reading (0x43 ∷ 5 ∷ to_router) ≡ Err fault.Shape
unfolding message_path_reading segments_at segment_at logical_at value_at
inhibited_router = refl

pub key_behind : message_path_reading (to_router ++ key_bytes) ≡ Err fault.Shape
unfolding message_path_reading segments_at segment_at logical_at value_at key_at key_fields_at
key_behind = refl

-- what does not read goes before a wrong arrangement
pub router_cut : message_path_reading (to_router ++ 0x30 ∷ []) ≡ Err fault.Truncated
unfolding message_path_reading segments_at segment_at logical_at value_at
router_cut = refl

-- ---- keys

abbrev device : Identity
device = record { vendor = 1; device_type = 12; product = 7; major = 2; minor = 3 }

-- zeros match any device
pub any_device : key_fault (record { vendor = 0; device_type = 0; product = 0; compatible = false; major = 0; minor = 0 }) device ≡ None
any_device = refl

pub compatible_device : key_fault (record { vendor = 1; device_type = 12; product = 7; compatible = true; major = 2; minor = 2 }) device ≡ None
compatible_device = refl

pub other_vendor : key_fault (record { vendor = 2; device_type = 12; product = 7; compatible = true; major = 2; minor = 2 }) device ≡ Some differs.VendorOrProduct
other_vendor = refl

pub other_product : key_fault (record { vendor = 1; device_type = 12; product = 8; compatible = true; major = 2; minor = 2 }) device ≡ Some differs.VendorOrProduct
other_product = refl

pub other_type : key_fault (record { vendor = 1; device_type = 13; product = 7; compatible = true; major = 2; minor = 2 }) device ≡ Some differs.DeviceType
other_type = refl

-- the device type is judged before the revision
pub type_before_revision : key_fault (record { vendor = 1; device_type = 13; product = 7; compatible = false; major = 9; minor = 9 }) device ≡ Some differs.DeviceType
type_before_revision = refl

pub older_minor_alone : key_fault (record { vendor = 1; device_type = 12; product = 7; compatible = false; major = 2; minor = 2 }) device ≡ Some differs.Revision
older_minor_alone = refl

pub newer_than_the_device : key_fault (record { vendor = 1; device_type = 12; product = 7; compatible = true; major = 2; minor = 4 }) device ≡ Some differs.Revision
newer_than_the_device = refl

-- major 0 matches any, and the minor revision is still judged
pub any_major_other_minor : key_fault (record { vendor = 1; device_type = 12; product = 7; compatible = false; major = 0; minor = 4 }) device ≡ Some differs.Revision
any_major_other_minor = refl

pub any_minor : key_fault (record { vendor = 1; device_type = 12; product = 7; compatible = false; major = 2; minor = 0 }) device ≡ None
any_minor = refl
