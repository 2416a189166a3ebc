-- The reading of bytes as a path, as a function: the segments from the front on, and their arrangement. `Path` has
-- it as a relation (Volume 1, appendix C, segment types).
use Rattle.std.specs.Prelude.{◌≡◌, ℕ, zero, suc, ◌*◌, ◌/◌, ◌%◌, List, [], ◌∷◌, length, take, drop, Option, Some, None, Result, Ok, Err, nat_lt, nat_le, ◌==◌, if◌then◌else◌}
use Rattle.std.specs.Option.{ok_or}
use Rattle.std.specs.Int.{Width, w8, w16, w32}
use Rattle.cip_types.specs.Fields.{field_at}
use Rattle.cip_epath.specs.declared.fault.PathFault.{PathFault}
use Rattle.cip_epath.specs.declared.fault.PathFault.TheVariants as fault
use Rattle.cip_epath.specs.declared.path.Target.{Target}
use Rattle.cip_epath.specs.declared.segment.LogicalType.{LogicalType}
use Rattle.cip_epath.specs.declared.segment.LogicalType.TheVariants.{Class, Instance, Member, ConnectionPoint, Attribute}
use Rattle.cip_epath.specs.ElectronicKey.{KeyFields}
use Rattle.cip_epath.specs.Segment.{SegmentValue, logical, key, bytes, inhibit}
use Rattle.cip_epath.specs.Path.{PathFields, Role, key_role, class_role, point_role, data_role, roles, inhibits}

infixl 10 ◌>>=◌
-- the next result after a value; a fault stays
abbrev pub ◌>>=◌ : {A B : Type 0} → Result A PathFault → (A → Result B PathFault) → Result B PathFault
(Ok x) >>= f = f x
(Err e) >>= f = Err e

-- a result, with its value seen by view
abbrev pub seen : {X Y : Type 0} → (X → Y) → Result X PathFault → Result Y PathFault
seen view (Ok x) = Ok (view x)
seen view (Err f) = Err f

-- The result of a function, seen by view, is the reading.
abbrev pub Gives : {X Y : Type 0} → (X → Y) → Result X PathFault → Result Y PathFault → Type 0
Gives view (Ok x) reading = reading ≡ Ok (view x)
Gives view (Err e) reading = reading ≡ Err e

-- ---- one segment: the reading at the front, and the bytes after it

-- a number
abbrev pub number_at : Width → List ℕ → Result (ℕ × List ℕ) PathFault
number_at w bs = ok_or (field_at w bs) fault.Truncated

-- words, after their number
unfoldable pub data_at : List ℕ → Result (List ℕ × List ℕ) PathFault
data_at bs = do
  words ← number_at w8 bs
  if nat_lt (length words.1) (2 * words.0) then Err fault.Truncated else Ok (take (2 * words.0) words.1, drop (2 * words.0) words.1)

-- the fields of a key, after its format
unfoldable pub key_fields_at : List ℕ → Result (KeyFields × List ℕ) PathFault
key_fields_at bs = do
  vendor ← number_at w16 bs
  device_type ← number_at w16 vendor.1
  product ← number_at w16 device_type.1
  revision ← number_at w8 product.1
  minor ← number_at w8 revision.1
  Ok (record { vendor = vendor.0; device_type = device_type.0; product = product.0; compatible = nat_le 128 revision.0; major = revision.0 % 128; minor = minor.0 }, minor.1)

-- a key, after its first byte
unfoldable pub key_at : List ℕ → Result (KeyFields × List ℕ) PathFault
key_at bs = do
  format ← number_at w8 bs
  if format.0 == 4 then key_fields_at format.1 else Err fault.KeyFormat

-- the type in the six high bits of a logical segment's first byte
abbrev pub type_of : ℕ → Option LogicalType
type_of high =
    if high == 8 then Some Class
    else if high == 9 then Some Instance
    else if high == 10 then Some Member
    else if high == 11 then Some ConnectionPoint
    else if high == 12 then Some Attribute
    else None

-- the value of a logical segment in its format, after the pad byte of the wide ones
unfoldable pub value_at : LogicalType → ℕ → List ℕ → Result (SegmentValue × List ℕ) PathFault
value_at kind format bs =
    if format == 0 then (number_at w8 bs >>= λ value. Ok (logical kind value.0, value.1))
    else if format == 1 then (number_at w8 bs >>= λ pad. number_at w16 pad.1 >>= λ value. Ok (logical kind value.0, value.1))
    else if format == 2 then (number_at w8 bs >>= λ pad. number_at w32 pad.1 >>= λ value. Ok (logical kind value.0, value.1))
    else Err fault.Segment

-- a logical segment of the type
abbrev pub typed_at : Option LogicalType → ℕ → List ℕ → Result (SegmentValue × List ℕ) PathFault
typed_at None format bs = Err fault.Segment
typed_at (Some kind) format bs = value_at kind format bs

-- a logical segment, after its first byte
unfoldable pub logical_at : ℕ → List ℕ → Result (SegmentValue × List ℕ) PathFault
logical_at first bs = typed_at (type_of (first / 4)) (first % 4) bs

-- a segment
unfoldable pub segment_at : List ℕ → Result (SegmentValue × List ℕ) PathFault
segment_at bs = do
  first ← number_at w8 bs
  if first.0 == 0x34 then (key_at first.1 >>= λ k. Ok (key k.0, k.1))
      else if first.0 == 0x43 then (number_at w8 first.1 >>= λ ms. Ok (inhibit ms.0, ms.1))
      else if first.0 == 0x80 then (data_at first.1 >>= λ d. Ok (bytes d.0, d.1))
      else logical_at first.0 first.1

-- ---- all segments

-- the segments up to the end of the bytes, at most this number of them
unfoldable pub segments_at : ℕ → List ℕ → Result (List SegmentValue) PathFault
segments_at most [] = Ok []
segments_at zero (b ∷ bs) = Err fault.Truncated
segments_at (suc most) (b ∷ bs) = do
  first ← segment_at (b ∷ bs)
  others ← segments_at most first.1
  Ok (first.0 ∷ others)

-- the result of arranging all segments; each has at least one byte, so there are no more segments than bytes
abbrev pub reading_by : {P : Type 0} → (List SegmentValue → Result P PathFault) → List ℕ → Result P PathFault
reading_by arranged bs = segments_at (length bs) bs >>= arranged

-- ---- a connection path

-- two or three points and optional data follow the class
abbrev pub with_points : Option ℕ → Option KeyFields → ℕ → List Role → Result PathFields PathFault
with_points ms k class (point_role consumed ∷ point_role produced ∷ []) =
    Ok (record { key = k; inhibit = ms; class = class; config = None; consumed = consumed; produced = produced; segment = None })
with_points ms k class (point_role consumed ∷ point_role produced ∷ data_role content ∷ []) =
    Ok (record { key = k; inhibit = ms; class = class; config = None; consumed = consumed; produced = produced; segment = Some content })
with_points ms k class (point_role config ∷ point_role consumed ∷ point_role produced ∷ []) =
    Ok (record { key = k; inhibit = ms; class = class; config = Some config; consumed = consumed; produced = produced; segment = None })
with_points ms k class (point_role config ∷ point_role consumed ∷ point_role produced ∷ data_role content ∷ []) =
    Ok (record { key = k; inhibit = ms; class = class; config = Some config; consumed = consumed; produced = produced; segment = Some content })
with_points _ _ _ _ = Err fault.Shape

-- the class precedes the points
abbrev pub with_class : Option ℕ → Option KeyFields → List Role → Result PathFields PathFault
with_class ms k (class_role class ∷ rest) = with_points ms k class rest
with_class _ _ _ = Err fault.Shape

-- an optional key precedes the class
abbrev pub with_key : Option ℕ → List Role → Result PathFields PathFault
with_key ms (key_role k ∷ rest) = with_class ms (Some k) rest
with_key ms rest = with_class ms None rest

-- there is at most one inhibit segment among the others
abbrev pub with_inhibits : List ℕ → List Role → Result PathFields PathFault
with_inhibits [] rest = with_key None rest
with_inhibits (ms ∷ []) rest = with_key (Some ms) rest
with_inhibits _ _ = Err fault.Shape

-- the path of the segments
abbrev pub arranged_path : List SegmentValue → Result PathFields PathFault
arranged_path segments = with_inhibits (inhibits segments) (roles segments)

-- what bytes say as a connection path
unfoldable pub path_reading : List ℕ → Result PathFields PathFault
path_reading bs = reading_by arranged_path bs

-- ---- the target of a request

-- the target of the segments
abbrev pub arranged_target : List SegmentValue → Result Target PathFault
arranged_target (logical Class class ∷ logical Instance instance ∷ []) = Ok (record { class = class; instance = instance; attribute = None })
arranged_target (logical Class class ∷ logical Instance instance ∷ logical Attribute attribute ∷ []) = Ok (record { class = class; instance = instance; attribute = Some attribute })
arranged_target _ = Err fault.Shape

-- what bytes say as a request path
unfoldable pub target_reading : List ℕ → Result Target PathFault
target_reading bs = reading_by arranged_target bs
