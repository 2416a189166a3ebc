-- Paths: their lists of segments, their texts, and the fault of every other text (Volume 1,
-- chapter 3, connection path, and chapter 2, request path).
use Rattle.std.specs.Prelude.{◌≡◌, ◌≢◌, ℕ, ◌⊎◌, List, [], ◌∷◌, ◌++◌, map, Option, Some, None, Result, Ok, Err, option_to_list}
use Rattle.std.specs.Option.{option_map}
use Rattle.cip_epath.specs.declared.fault.PathFault.{PathFault}
use Rattle.cip_epath.specs.declared.fault.PathFault.TheVariants as fault
use Rattle.cip_epath.specs.declared.path.ConnPath.{ConnPath}
use Rattle.cip_epath.specs.declared.path.Target.{Target}
use Rattle.cip_epath.specs.declared.segment.LogicalType.TheVariants.{Class, Instance, Member, ConnectionPoint, Attribute}
use Rattle.cip_epath.specs.ElectronicKey.{KeyFields, view_key}
use Rattle.cip_epath.specs.Segment.{SegmentValue, logical, key, bytes, inhibit, IsSegmentText}

-- the contents of a connection path
pub record PathFields : Type 0 where
  pub key : Option KeyFields
  pub inhibit : Option ℕ
  pub class : ℕ
  pub config : Option ℕ
  pub consumed : ℕ
  pub produced : ℕ
  pub segment : Option (List ℕ)

-- the contents of a path of the program
abbrev pub view_path : ConnPath → PathFields
view_path p = record {
  key = option_map view_key p.key;
  inhibit = p.inhibit;
  class = p.class;
  config = p.config;
  consumed = p.consumed;
  produced = p.produced;
  segment = option_map (λ lent. lent.now) p.segment;
}

-- ---- lists of segments

-- the role of a segment in a connection path: an instance and a connection point both are a point
pub data Role : Type 0 where
  key_role : KeyFields → Role
  class_role : ℕ → Role
  point_role : ℕ → Role
  data_role : List ℕ → Role
  no_role : Role

-- the role of a segment; an inhibit segment has none
abbrev pub role_of : SegmentValue → Option Role
role_of (logical Class value) = Some (class_role value)
role_of (logical Instance value) = Some (point_role value)
role_of (logical Member value) = Some no_role
role_of (logical ConnectionPoint value) = Some (point_role value)
role_of (logical Attribute value) = Some no_role
role_of (key k) = Some (key_role k)
role_of (bytes content) = Some (data_role content)
role_of (inhibit ms) = None

-- the roles of the segments that have one
abbrev pub roles : List SegmentValue → List Role
roles [] = []
roles (s ∷ segments) = option_to_list (role_of s) ++ roles segments

-- the time of an inhibit segment
abbrev pub inhibit_of : SegmentValue → Option ℕ
inhibit_of (logical kind value) = None
inhibit_of (key k) = None
inhibit_of (bytes content) = None
inhibit_of (inhibit ms) = Some ms

-- the times of the inhibit segments
abbrev pub inhibits : List SegmentValue → List ℕ
inhibits [] = []
inhibits (s ∷ segments) = option_to_list (inhibit_of s) ++ inhibits segments

-- the roles of a path, in order: an optional key, a class, an optional configuration point, the consumed
-- and the produced point, an optional data segment
abbrev pub arrangement : PathFields → List Role
arrangement p =
    map key_role (option_to_list p.key)
    ++ class_role p.class ∷ map point_role (option_to_list p.config)
    ++ point_role p.consumed ∷ point_role p.produced ∷ map data_role (option_to_list p.segment)

-- the segments have the arrangement of the path, with its inhibit segment anywhere
abbrev pub IsPath : List SegmentValue → PathFields → Type 0
IsPath segments p = (inhibits segments ≡ option_to_list p.inhibit) × (roles segments ≡ arrangement p)

-- the segments are the target's: class, instance, and an optional attribute
abbrev pub IsTarget : List SegmentValue → Target → Type 0
IsTarget segments t = segments ≡ logical Class t.class ∷ logical Instance t.instance ∷ map (logical Attribute) (option_to_list t.attribute)

-- ---- texts

-- text is a concatenation of texts of the segments
abbrev pub AreSegmentTexts : List SegmentValue → List ℕ → Type 0
AreSegmentTexts [] text = text ≡ []
AreSegmentTexts (s ∷ segments) text = (front rest : List ℕ) × IsSegmentText s front × AreSegmentTexts segments rest × (text ≡ front ++ rest)

-- text is a text of p, whose segments have the arrangement
abbrev pub IsTextOf : {P : Type 0} → (List SegmentValue → P → Type 0) → List ℕ → P → Type 0
IsTextOf Arranged text p = (segments : List SegmentValue) × AreSegmentTexts segments text × Arranged segments p

-- ---- faults

-- a whole segment text begins the text
abbrev pub SegmentBegins : List ℕ → Type 0
SegmentBegins text = (s : SegmentValue) × ((front rest : List ℕ) × IsSegmentText s front × (text ≡ front ++ rest))

-- the byte begins no segment
abbrev pub BeginsNone : ℕ → Type 0
BeginsNone first = (s : SegmentValue) (rest : List ℕ) → IsSegmentText s (first ∷ rest) → ⊥

-- after the first byte of a key another format than 4 follows
abbrev pub IsOtherKey : ℕ → List ℕ → Type 0
IsOtherKey first [] = ⊥
IsOtherKey first (format ∷ rest) = (first ≡ 0x34) × (format ≢ 4)

-- the fault of a rest at which no whole segment text begins
abbrev pub IsFaultOf : List ℕ → PathFault → Type 0
IsFaultOf [] f = ⊥
IsFaultOf (first ∷ rest) fault.Segment = BeginsNone first
IsFaultOf (first ∷ rest) fault.KeyFormat = IsOtherKey first rest
IsFaultOf (first ∷ rest) fault.Truncated = ¬ BeginsNone first × ¬ IsOtherKey first rest
IsFaultOf (first ∷ rest) fault.Shape = ⊥

-- the text is segments up to a rest, no whole segment begins there, and its fault is f
abbrev pub StopsWith : List ℕ → PathFault → Type 0
StopsWith text f =
    (segments : List SegmentValue)
    × ((front rest : List ℕ) × AreSegmentTexts segments front × (text ≡ front ++ rest) × ¬ SegmentBegins rest × IsFaultOf rest f)

-- the text is segments, whose arrangement is none of a path's
abbrev pub IsMisarranged : {P : Type 0} → (List SegmentValue → P → Type 0) → List ℕ → Type 0
IsMisarranged {P} Arranged text = (segments : List SegmentValue) × AreSegmentTexts segments text × ((p : P) → Arranged segments p → ⊥)

-- the fault of a text that is no path
abbrev pub HasFault : {P : Type 0} → (List SegmentValue → P → Type 0) → List ℕ → PathFault → Type 0
HasFault Arranged text f = StopsWith text f ⊎ ((f ≡ fault.Shape) × IsMisarranged Arranged text)

-- the result is a reading of the text
abbrev pub IsReading : {P : Type 0} → (List SegmentValue → P → Type 0) → List ℕ → Result P PathFault → Type 0
IsReading Arranged text (Ok p) = IsTextOf Arranged text p
IsReading Arranged text (Err f) = HasFault Arranged text f
