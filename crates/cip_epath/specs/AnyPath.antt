-- Paths in any form: the class may stand in front of each point, the uncompressed form, and a key may name a serial number, format 5. Their
-- bytes say what those of a path in the compressed form say (Volume 1, appendix C, logical segments and electronic key
-- segment, and chapter 3, connection path).
--
--   compressed     20 04  24 C  2C A  2C B
--   uncompressed   20 04  24 C  20 04  2C A  20 04  2C B
--
--   key of format 5   0x34 0x05   vendor u16, device type u16, product code u16, major revision u8 with the compatibility
--                                 bit 7, minor revision u8, serial number u32
use Rattle.std.specs.Prelude.{ℕ, zero, suc, ◌==◌, ◌&&◌, not, Bool, false, if◌then◌else◌, List, [], ◌∷◌, length, Option, Some, None, Result, Ok, Err}
use Rattle.std.specs.Int.{w32}
use Rattle.std.specs.Result.{result_ok}
use Rattle.cip_epath.specs.declared.fault.PathFault.{PathFault}
use Rattle.cip_epath.specs.declared.fault.PathFault.TheVariants as fault
use Rattle.cip_epath.specs.ElectronicKey.{KeyFields}
use Rattle.cip_epath.specs.Segment.{SegmentValue, key}
use Rattle.cip_epath.specs.Path.{PathFields, Role, key_role, class_role, point_role, roles, inhibits}
use Rattle.cip_epath.specs.Reading.{◌>>=◌, number_at, key_fields_at, segment_at, with_points}
use Rattle.cip_epath.specs.MessagePath.{arranged_message}

-- A KEY OF FORMAT 5

-- the bytes behind the first byte of a key and its format 5
abbrev pub behind_format_5 : List ℕ → Option (List ℕ)
behind_format_5 [] = None
behind_format_5 (first ∷ []) = None
behind_format_5 (first ∷ format ∷ fields) = if first == 0x34 && format == 5 then Some fields else None

-- the fields of a key and its serial number, after its format 5
unfoldable pub serial_key_at : List ℕ → Result ((KeyFields × ℕ) × List ℕ) PathFault
serial_key_at bs = do
  fields ← key_fields_at bs
  serial ← number_at w32 fields.1
  Ok ((fields.0, serial.0), serial.1)

-- a segment; the serial number of a key is no part of it
abbrev pub segment_or_key : List ℕ → Option (List ℕ) → Result (SegmentValue × List ℕ) PathFault
segment_or_key bs None = segment_at bs
segment_or_key bs (Some fields) = serial_key_at fields >>= λ k. Ok (key k.0.0, k.1)

unfoldable pub any_segment_at : List ℕ → Result (SegmentValue × List ℕ) PathFault
any_segment_at bs = segment_or_key bs (behind_format_5 bs)

-- the segments up to the end of the bytes, at most this number of them
unfoldable pub any_segments_at : ℕ → List ℕ → Result (List SegmentValue) PathFault
any_segments_at most [] = Ok []
any_segments_at zero (b ∷ bs) = Err fault.Truncated
any_segments_at (suc most) (b ∷ bs) = do
  first ← any_segment_at (b ∷ bs)
  others ← any_segments_at most first.1
  Ok (first.0 ∷ others)

-- the result of arranging all segments
abbrev pub any_reading_by : {P : Type 0} → (List SegmentValue → Result P PathFault) → List ℕ → Result P PathFault
any_reading_by arranged bs = any_segments_at (length bs) bs >>= arranged

-- A CLASS IN FRONT OF EACH POINT

-- behind the role of a class that is the path's again there is a point
abbrev pub is_again : ℕ → Role → List Role → Bool
is_again class (class_role again) (point_role point ∷ rest) = again == class
is_again _ _ _ = false

-- the roles behind a path's first point, without each class that stands there again in front of a point
abbrev pub without_class : ℕ → List Role → List Role
without_class class [] = []
without_class class (role ∷ rest) = if is_again class role rest then without_class class rest else role ∷ without_class class rest

-- the points behind the class, of which the first has it in front already
abbrev pub with_any_points : Option ℕ → Option KeyFields → ℕ → List Role → Result PathFields PathFault
with_any_points ms k class [] = Err fault.Shape
with_any_points ms k class (first ∷ rest) = with_points ms k class (first ∷ without_class class rest)

-- the class precedes the points
abbrev pub with_first_class : Option ℕ → Option KeyFields → List Role → Result PathFields PathFault
with_first_class ms k (class_role class ∷ rest) = with_any_points ms k class rest
with_first_class _ _ _ = Err fault.Shape

-- an optional key precedes the class
abbrev pub with_any_key : Option ℕ → List Role → Result PathFields PathFault
with_any_key ms (key_role k ∷ rest) = with_first_class ms (Some k) rest
with_any_key ms rest = with_first_class ms None rest

-- there is at most one inhibit segment among the others
abbrev pub with_any_inhibits : List ℕ → List Role → Result PathFields PathFault
with_any_inhibits [] rest = with_any_key None rest
with_any_inhibits (ms ∷ []) rest = with_any_key (Some ms) rest
with_any_inhibits _ _ = Err fault.Shape

-- the path of the segments
abbrev pub arranged_any_path : List SegmentValue → Result PathFields PathFault
arranged_any_path segments = with_any_inhibits (inhibits segments) (roles segments)

-- THE READING

-- what bytes say as a connection path in any form
unfoldable pub any_path_reading : List ℕ → Result PathFields PathFault
any_path_reading bs = any_reading_by arranged_any_path bs

-- what bytes say as the path of a class 3 connection, whose key has either format: its key, if it has one
unfoldable pub any_message_reading : List ℕ → Result (Option KeyFields) PathFault
any_message_reading bs = any_reading_by arranged_message bs

-- THE SERIAL NUMBER

-- the bytes behind an inhibit segment at their front, which may precede the key
abbrev pub behind_inhibit : List ℕ → List ℕ
behind_inhibit [] = []
behind_inhibit (first ∷ []) = first ∷ []
behind_inhibit (first ∷ ms ∷ rest) = if first == 0x43 then rest else first ∷ ms ∷ rest

-- the serial number behind the format 5 of a key
abbrev pub serial_behind : Option (List ℕ) → Option ℕ
serial_behind None = None
serial_behind (Some fields) = result_ok (serial_key_at fields >>= λ k. Ok k.0.1)

-- the serial number that the key of a path names
unfoldable pub key_serial : List ℕ → Option ℕ
key_serial bs = serial_behind (behind_format_5 (behind_inhibit bs))

-- the key names the serial number of another device than this one's; 0 is that of any device
abbrev pub is_other_serial : ℕ → Option ℕ → Bool
is_other_serial own None = false
is_other_serial own (Some named) = not (named == 0) && not (named == own)
