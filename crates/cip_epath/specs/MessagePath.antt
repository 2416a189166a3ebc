-- The path of a class 3 connection, which leads to the message router: class 2, instance 1, behind an optional key
-- (Volume 1, chapter 3, connection path; chapter 5, Message Router object): a relation, and the reading of bytes as a
-- function.
use Rattle.std.specs.Prelude.{◌≡◌, ℕ, ◌==◌, ◌&&◌, if◌then◌else◌, List, [], ◌∷◌, ◌++◌, map, option_to_list, Option, Some, None, Result, Ok, Err}
use Rattle.cip_epath.specs.declared.fault.PathFault.{PathFault}
use Rattle.cip_epath.specs.declared.fault.PathFault.TheVariants as fault
use Rattle.cip_epath.specs.declared.segment.LogicalType.TheVariants.{Class, Instance}
use Rattle.cip_epath.specs.ElectronicKey.{KeyFields}
use Rattle.cip_epath.specs.Segment.{SegmentValue, logical, key}
use Rattle.cip_epath.specs.Reading.{reading_by}

-- the segments are an optional key, class 2 and instance 1, and no other
abbrev pub IsMessagePath : List SegmentValue → Option KeyFields → Type 0
IsMessagePath segments k = segments ≡ map key (option_to_list k) ++ logical Class 2 ∷ logical Instance 1 ∷ []

-- the message router follows the key
abbrev pub with_router : Option KeyFields → List SegmentValue → Result (Option KeyFields) PathFault
with_router k (logical Class class ∷ logical Instance instance ∷ []) = if class == 2 && instance == 1 then Ok k else Err fault.Shape
with_router _ _ = Err fault.Shape

-- the key of the segments, if they are the path of a class 3 connection
abbrev pub arranged_message : List SegmentValue → Result (Option KeyFields) PathFault
arranged_message (key k ∷ rest) = with_router (Some k) rest
arranged_message rest = with_router None rest

-- what bytes say as the path of a class 3 connection: its key, if it has one
unfoldable pub message_path_reading : List ℕ → Result (Option KeyFields) PathFault
message_path_reading bs = reading_by arranged_message bs
