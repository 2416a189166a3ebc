-- The segments of a path, and the byte texts of each (Volume 1, appendix C, segment types).
--
--   logical          001 type format   type: 0 class, 1 instance, 2 member, 3 connection point, 4 attribute;
--                                      format: 0, 1, 2 for a value of 8, 16, 32 bits; a pad byte precedes
--                                      a value of 16 or 32 bits
--   electronic key   0x34 0x04         vendor u16, device type u16, product code u16, major revision u8 with
--                                      the compatibility bit 7, minor revision u8
--   inhibit time     0x43              milliseconds u8
--   data             0x80              number of words u8, the words
use Rattle.std.specs.Prelude.{◌≡◌, ℕ, ◌+◌, ◌*◌, ◌<◌, ◌^◌, if◌then◌else◌, ◌⊎◌, List, [], ◌∷◌, ◌++◌, length}
use Rattle.std.specs.Int.{w16, w32, to_le_bytes}
use Rattle.cip_epath.specs.declared.segment.LogicalType.{LogicalType}
use Rattle.cip_epath.specs.declared.segment.LogicalType.TheVariants.{Class, Instance, Member, ConnectionPoint, Attribute}
use Rattle.cip_epath.specs.declared.segment.Segment.{Segment}
use Rattle.cip_epath.specs.declared.segment.Segment.TheVariants as read
use Rattle.cip_epath.specs.ElectronicKey.{KeyFields, view_key}

-- the contents of a segment, in any of its formats
pub data SegmentValue : Type 0 where
  logical : LogicalType → ℕ → SegmentValue
  key : KeyFields → SegmentValue
  bytes : List ℕ → SegmentValue
  inhibit : ℕ → SegmentValue

-- the contents of a segment of the program
abbrev pub view_segment : Segment → SegmentValue
view_segment (read.Logical kind value) = logical kind value
view_segment (read.ElectronicKey k) = key (view_key k)
view_segment (read.Data lent) = bytes lent.now
view_segment (read.Inhibit ms) = inhibit ms

-- the three bits of a logical type
abbrev pub type_code : LogicalType → ℕ
type_code Class = 0
type_code Instance = 1
type_code Member = 2
type_code ConnectionPoint = 3
type_code Attribute = 4

-- the first byte of a logical segment, by its type and format
abbrev pub logical_byte : LogicalType → ℕ → ℕ
logical_byte kind format = 0x20 + 4 * type_code kind + format

-- the value has one byte, or two or four after a pad byte
abbrev pub IsLogicalText : LogicalType → ℕ → List ℕ → Type 0
IsLogicalText kind value text =
    ((value < 2 ^ 8) × (text ≡ logical_byte kind 0 ∷ value ∷ []))
    ⊎ ((value < 2 ^ 16) × ((pad : ℕ) × (text ≡ logical_byte kind 1 ∷ pad ∷ to_le_bytes w16 value)))
    ⊎ ((value < 2 ^ 32) × ((pad : ℕ) × (text ≡ logical_byte kind 2 ∷ pad ∷ to_le_bytes w32 value)))

-- the numbers of a key are within their fields
pub record KeyFits (k : KeyFields) : Type 0 where
  pub vendor : k.vendor < 2 ^ 16
  pub device_type : k.device_type < 2 ^ 16
  pub product : k.product < 2 ^ 16
  pub major : k.major < 2 ^ 7
  pub minor : k.minor < 2 ^ 8

-- the major revision, with bit 7 if a compatible revision is accepted
abbrev pub revision_byte : KeyFields → ℕ
revision_byte k = k.major + (if k.compatible then 128 else 0)

-- the text of a key segment
abbrev pub key_text : KeyFields → List ℕ
key_text k = 0x34 ∷ 4 ∷ (to_le_bytes w16 k.vendor ++ to_le_bytes w16 k.device_type ++ to_le_bytes w16 k.product ++ revision_byte k ∷ k.minor ∷ [])

-- text is a text of the segment
abbrev pub IsSegmentText : SegmentValue → List ℕ → Type 0
IsSegmentText (logical kind value) text = IsLogicalText kind value text
IsSegmentText (key k) text = KeyFits k × (text ≡ key_text k)
IsSegmentText (bytes content) text = (words : ℕ) × (words < 2 ^ 8) × (length content ≡ 2 * words) × (text ≡ 0x80 ∷ words ∷ content)
IsSegmentText (inhibit ms) text = (ms < 2 ^ 8) × (text ≡ 0x43 ∷ ms ∷ [])
