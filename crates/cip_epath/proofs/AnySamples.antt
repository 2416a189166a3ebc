-- What worked bytes of paths in any form say.
use Rattle.std.proofs.Common.{◌≡◌, ℕ, List, [], ◌∷◌, ◌++◌, take, Some, None, Ok, Err, true, false, refl}
use Rattle.cip_epath.specs.declared.fault.PathFault.TheVariants as fault
use Rattle.cip_epath.specs.ElectronicKey.{KeyFields}
use Rattle.cip_epath.specs.Path.{PathFields}
use Rattle.cip_epath.specs.Reading.{data_at, key_fields_at, key_at, value_at, logical_at, segment_at, segments_at, path_reading}
use Rattle.cip_epath.specs.AnyPath.{serial_key_at, any_segment_at, any_segments_at, any_path_reading, any_message_reading, key_serial, is_other_serial}

-- class 4, configuration 0x97, class 4, consumed point 0x96, class 4, produced point 0x64
abbrev uncompressed : List ℕ
uncompressed = 0x20 ∷ 4 ∷ 0x24 ∷ 0x97 ∷ 0x20 ∷ 4 ∷ 0x2C ∷ 0x96 ∷ 0x20 ∷ 4 ∷ 0x2C ∷ 0x64 ∷ []

abbrev pointed : PathFields
pointed = record { key = None; inhibit = None; class = 4; config = Some 0x97; consumed = 0x96; produced = 0x64; segment = None }

-- a key of format 5 for vendor 1, device type 12, product 7, revision 2.2 or a compatible one, serial number 0x04030201
abbrev serial_bytes : List ℕ
serial_bytes = 0x34 ∷ 5 ∷ 1 ∷ 0 ∷ 12 ∷ 0 ∷ 7 ∷ 0 ∷ 0x82 ∷ 2 ∷ 1 ∷ 2 ∷ 3 ∷ 4 ∷ []

abbrev named : KeyFields
named = record { vendor = 1; device_type = 12; product = 7; compatible = true; major = 2; minor = 2 }

-- ---- a class in front of each point

pub uncompressed_read : any_path_reading uncompressed ≡ Ok pointed
unfolding any_path_reading any_segments_at any_segment_at segment_at logical_at value_at
uncompressed_read = refl

-- the compressed form alone says no such path
pub uncompressed_not_compressed : path_reading uncompressed ≡ Err fault.Shape
unfolding path_reading segments_at segment_at logical_at value_at
uncompressed_not_compressed = refl

-- the class in front of the produced point alone, and of the consumed one alone
pub once_more : any_path_reading (0x20 ∷ 4 ∷ 0x24 ∷ 0x97 ∷ 0x2C ∷ 0x96 ∷ 0x20 ∷ 4 ∷ 0x2C ∷ 0x64 ∷ []) ≡ Ok pointed
unfolding any_path_reading any_segments_at any_segment_at segment_at logical_at value_at
once_more = refl

pub once_more_before : any_path_reading (0x20 ∷ 4 ∷ 0x24 ∷ 0x97 ∷ 0x20 ∷ 4 ∷ 0x2C ∷ 0x96 ∷ 0x2C ∷ 0x64 ∷ []) ≡ Ok pointed
unfolding any_path_reading any_segments_at any_segment_at segment_at logical_at value_at
once_more_before = refl

-- classes and points of 16 bits, pad bytes of any value
pub wide_read : any_path_reading (0x21 ∷ 0 ∷ 4 ∷ 0 ∷ 0x25 ∷ 0xFF ∷ 0x97 ∷ 0 ∷ 0x21 ∷ 0xFF ∷ 4 ∷ 0 ∷ 0x2D ∷ 0 ∷ 0x96 ∷ 0 ∷ 0x20 ∷ 4 ∷ 0x2C ∷ 0x64 ∷ []) ≡ Ok pointed
unfolding any_path_reading any_segments_at any_segment_at segment_at logical_at value_at
wide_read = refl

-- no configuration, and data behind the points
pub two_points : any_path_reading (0x20 ∷ 4 ∷ 0x2C ∷ 0x96 ∷ 0x20 ∷ 4 ∷ 0x2C ∷ 0x64 ∷ 0x80 ∷ 0 ∷ []) ≡ Ok (record { key = None; inhibit = None; class = 4; config = None; consumed = 0x96; produced = 0x64; segment = Some [] })
unfolding any_path_reading any_segments_at any_segment_at segment_at logical_at value_at data_at
two_points = refl

-- an inhibit time may stand between a class and its point
pub inhibited : any_path_reading (take 6 uncompressed ++ 0x43 ∷ 5 ∷ 0x2C ∷ 0x96 ∷ 0x2C ∷ 0x64 ∷ []) ≡ Ok (record { key = None; inhibit = Some 5; class = 4; config = Some 0x97; consumed = 0x96; produced = 0x64; segment = None })
unfolding any_path_reading any_segments_at any_segment_at segment_at logical_at value_at
inhibited = refl

pub another_class : any_path_reading (0x20 ∷ 4 ∷ 0x24 ∷ 0x97 ∷ 0x20 ∷ 1 ∷ 0x2C ∷ 0x96 ∷ 0x20 ∷ 4 ∷ 0x2C ∷ 0x64 ∷ []) ≡ Err fault.Shape
unfolding any_path_reading any_segments_at any_segment_at segment_at logical_at value_at
another_class = refl

pub class_at_the_end : any_path_reading (uncompressed ++ 0x20 ∷ 4 ∷ []) ≡ Err fault.Shape
unfolding any_path_reading any_segments_at any_segment_at segment_at logical_at value_at
class_at_the_end = refl

-- the first point has its class once, and so has each other one
pub class_twice : any_path_reading (0x20 ∷ 4 ∷ uncompressed) ≡ Err fault.Shape
unfolding any_path_reading any_segments_at any_segment_at segment_at logical_at value_at
class_twice = refl

pub class_twice_behind : any_path_reading (take 6 uncompressed ++ 0x20 ∷ 4 ∷ 0x2C ∷ 0x96 ∷ 0x2C ∷ 0x64 ∷ []) ≡ Err fault.Shape
unfolding any_path_reading any_segments_at any_segment_at segment_at logical_at value_at
class_twice_behind = refl

-- a member segment is read, and is no point of a connection
pub of_a_member : any_path_reading (take 8 uncompressed ++ 0x28 ∷ 1 ∷ 0x2C ∷ 0x64 ∷ []) ≡ Err fault.Shape
unfolding any_path_reading any_segments_at any_segment_at segment_at logical_at value_at
of_a_member = refl

-- ---- a key of format 5

pub serial_read : any_path_reading (serial_bytes ++ uncompressed) ≡ Ok (record { key = Some named; inhibit = None; class = 4; config = Some 0x97; consumed = 0x96; produced = 0x64; segment = None })
unfolding any_path_reading any_segments_at any_segment_at serial_key_at segment_at logical_at value_at key_fields_at
serial_read = refl

pub format_4_read : any_path_reading (0x34 ∷ 4 ∷ 1 ∷ 0 ∷ 12 ∷ 0 ∷ 7 ∷ 0 ∷ 0x82 ∷ 2 ∷ uncompressed) ≡ Ok (record { key = Some named; inhibit = None; class = 4; config = Some 0x97; consumed = 0x96; produced = 0x64; segment = None })
unfolding any_path_reading any_segments_at any_segment_at segment_at logical_at value_at key_at key_fields_at
format_4_read = refl

pub other_format : any_path_reading (0x34 ∷ 6 ∷ uncompressed) ≡ Err fault.KeyFormat
unfolding any_path_reading any_segments_at any_segment_at segment_at key_at
other_format = refl

pub within_the_serial : any_path_reading (take 13 serial_bytes) ≡ Err fault.Truncated
unfolding any_path_reading any_segments_at any_segment_at serial_key_at key_fields_at
within_the_serial = refl

pub key_behind : any_path_reading (uncompressed ++ serial_bytes) ≡ Err fault.Shape
unfolding any_path_reading any_segments_at any_segment_at serial_key_at segment_at logical_at value_at key_fields_at
key_behind = refl

pub serial_router_read : any_message_reading (serial_bytes ++ 0x20 ∷ 2 ∷ 0x24 ∷ 1 ∷ []) ≡ Ok (Some named)
unfolding any_message_reading any_segments_at any_segment_at serial_key_at segment_at logical_at value_at key_fields_at
serial_router_read = refl

-- the class of the message router is said once
pub router_twice : any_message_reading (0x20 ∷ 2 ∷ 0x24 ∷ 1 ∷ 0x20 ∷ 2 ∷ 0x24 ∷ 1 ∷ []) ≡ Err fault.Shape
unfolding any_message_reading any_segments_at any_segment_at segment_at logical_at value_at
router_twice = refl

-- ---- the serial number

pub serial_named : key_serial (serial_bytes ++ uncompressed) ≡ Some 0x04030201
unfolding key_serial serial_key_at key_fields_at
serial_named = refl

pub serial_behind_inhibit : key_serial (0x43 ∷ 5 ∷ (serial_bytes ++ uncompressed)) ≡ Some 0x04030201
unfolding key_serial serial_key_at key_fields_at
serial_behind_inhibit = refl

pub format_4_names_none : key_serial (0x34 ∷ 4 ∷ 1 ∷ 0 ∷ 12 ∷ 0 ∷ 7 ∷ 0 ∷ 0x82 ∷ 2 ∷ 1 ∷ 2 ∷ 3 ∷ 4 ∷ []) ≡ None
unfolding key_serial
format_4_names_none = refl

pub no_key_names_none : key_serial uncompressed ≡ None
unfolding key_serial
no_key_names_none = refl

pub its_own : is_other_serial 7 (Some 7) ≡ false
its_own = refl

pub of_any_device : is_other_serial 7 (Some 0) ≡ false
of_any_device = refl

pub of_another_device : is_other_serial 7 (Some 8) ≡ true
of_another_device = refl

pub of_a_device_without : is_other_serial 0 (Some 8) ≡ true
of_a_device_without = refl

pub without_a_serial : is_other_serial 7 None ≡ false
without_a_serial = refl
