-- The written texts: the writer's order of segments, and the shortest form of each (Volume 1,
-- appendix C, segment types).
use Rattle.std.specs.Prelude.{◌≡◌, ℕ, ◌*◌, ◌/◌, ◌<◌, ◌^◌, nat_lt, if◌then◌else◌, List, [], ◌∷◌, ◌++◌, length, map, option_to_list, Option, Some, None, IfSome}
use Rattle.std.specs.List.{flat_map}
use Rattle.std.specs.Int.{w16, w32, to_le_bytes}
use Rattle.cip_epath.specs.declared.path.Target.{Target}
use Rattle.cip_epath.specs.declared.segment.LogicalType.{LogicalType}
use Rattle.cip_epath.specs.declared.segment.LogicalType.TheVariants.{Class, Instance, ConnectionPoint, Attribute}
use Rattle.cip_epath.specs.Segment.{SegmentValue, logical, key, bytes, inhibit, logical_byte, key_text, KeyFits}
use Rattle.cip_epath.specs.Path.{PathFields}

-- the value in the fewest bytes; a pad byte is zero
abbrev pub logical_text : LogicalType → ℕ → List ℕ
logical_text kind value =
    if nat_lt value 256 then logical_byte kind 0 ∷ value ∷ []
    else if nat_lt value 65536 then logical_byte kind 1 ∷ 0 ∷ to_le_bytes w16 value
    else logical_byte kind 2 ∷ 0 ∷ to_le_bytes w32 value

-- the shortest text of a segment
abbrev pub segment_text : SegmentValue → List ℕ
segment_text (logical kind value) = logical_text kind value
segment_text (key k) = key_text k
segment_text (bytes content) = 0x80 ∷ length content / 2 ∷ content
segment_text (inhibit ms) = 0x43 ∷ ms ∷ []

-- key, inhibit, class, configuration, consumed and produced point, data
abbrev pub path_segments : PathFields → List SegmentValue
path_segments p =
    map key (option_to_list p.key)
    ++ map inhibit (option_to_list p.inhibit)
    ++ logical Class p.class ∷ map (logical Instance) (option_to_list p.config)
    ++ logical ConnectionPoint p.consumed ∷ logical ConnectionPoint p.produced ∷ map bytes (option_to_list p.segment)

-- the text of a path
abbrev pub path_text : PathFields → List ℕ
path_text p = flat_map segment_text (path_segments p)

-- the text of a part that may be missing
abbrev pub optional_text : {A : Type 0} → (A → List ℕ) → Option A → List ℕ
optional_text text None = []
optional_text text (Some part) = text part

-- class, instance, attribute
abbrev pub target_segments : Target → List SegmentValue
target_segments t = logical Class t.class ∷ logical Instance t.instance ∷ map (logical Attribute) (option_to_list t.attribute)

-- the text of a target
abbrev pub target_text : Target → List ℕ
target_text t = flat_map segment_text (target_segments t)

-- whole words, as many as a data segment can count
abbrev pub AreWords : List ℕ → Type 0
AreWords content = (words : ℕ) × (words < 2 ^ 8) × (length content ≡ 2 * words)

-- each number of the path within its field
pub record PathFits (p : PathFields) : Type 0 where
  pub key : IfSome p.key KeyFits
  pub inhibit : IfSome p.inhibit (λ ms. ms < 2 ^ 8)
  pub class : p.class < 2 ^ 32
  pub config : IfSome p.config (λ n. n < 2 ^ 32)
  pub consumed : p.consumed < 2 ^ 32
  pub produced : p.produced < 2 ^ 32
  pub segment : IfSome p.segment AreWords

-- each number of the target within its field
pub record TargetFits (t : Target) : Type 0 where
  pub class : t.class < 2 ^ 32
  pub instance : t.instance < 2 ^ 32
  pub attribute : IfSome t.attribute (λ n. n < 2 ^ 32)
