-- The segment that is read is the one whose text stands at the front.
use Rattle.std.proofs.Common.{◌≡◌, ℕ, ◌+◌, ◌*◌, ◌/◌, ◌%◌, ◌^◌, ◌<◌, Bool, true, false, cond, ltb, leb, eqb, List, ◌∷◌, ◌++◌, length, Some, None, Ok, Err, refl, ◌∙◌, arith, inl, inr, ◌⊎◌}
use Rattle.std.specs.Int.{w8, w16, w32, to_le_bytes}
use Rattle.std.proofs.lemmas.Bool.{le-ltb, eqb-true, le-leb, lt-leb}
use Rattle.std.proofs.lemmas.List.{take_at, drop_at, length-append}
use Rattle.cip_epath.specs.declared.fault.PathFault.TheVariants as fault
use Rattle.cip_epath.specs.declared.segment.LogicalType.{LogicalType}
use Rattle.cip_epath.specs.declared.segment.LogicalType.TheVariants.{Class, Instance, Member, ConnectionPoint, Attribute}
use Rattle.cip_epath.specs.ElectronicKey.{KeyFields}
use Rattle.cip_epath.specs.Segment.{SegmentValue, logical, key, bytes, inhibit, KeyFits, key_text, revision_byte, type_code, logical_byte, IsLogicalText, IsSegmentText}
use Rattle.cip_epath.specs.Reading.{◌>>=◌, number_at, data_at, key_fields_at, key_at, type_of, value_at, logical_at, segment_at}
use Rattle.cip_types.specs.FieldLaws.{wide16, wide32}
use Rattle.cip_epath.specs.Laws.Numbers.{number_again, byte_again}

-- ---- what the first byte leads to

-- a first byte leads to the reader of its kind
pub at_logical_8 : (kind : LogicalType) (rest : List ℕ) → segment_at (logical_byte kind 0 ∷ rest) ≡ value_at kind 0 rest
unfolding segment_at logical_at
at_logical_8 Class rest = rw byte_again refl
at_logical_8 Instance rest = rw byte_again refl
at_logical_8 Member rest = rw byte_again refl
at_logical_8 ConnectionPoint rest = rw byte_again refl
at_logical_8 Attribute rest = rw byte_again refl

pub at_logical_16 : (kind : LogicalType) (rest : List ℕ) → segment_at (logical_byte kind 1 ∷ rest) ≡ value_at kind 1 rest
unfolding segment_at logical_at
at_logical_16 Class rest = rw byte_again refl
at_logical_16 Instance rest = rw byte_again refl
at_logical_16 Member rest = rw byte_again refl
at_logical_16 ConnectionPoint rest = rw byte_again refl
at_logical_16 Attribute rest = rw byte_again refl

pub at_logical_32 : (kind : LogicalType) (rest : List ℕ) → segment_at (logical_byte kind 2 ∷ rest) ≡ value_at kind 2 rest
unfolding segment_at logical_at
at_logical_32 Class rest = rw byte_again refl
at_logical_32 Instance rest = rw byte_again refl
at_logical_32 Member rest = rw byte_again refl
at_logical_32 ConnectionPoint rest = rw byte_again refl
at_logical_32 Attribute rest = rw byte_again refl

pub at_key : (rest : List ℕ) → segment_at (0x34 ∷ rest) ≡ (key_at rest >>= λ k. Ok (key k.0, k.1))
unfolding segment_at
at_key rest = rw byte_again refl

pub at_inhibit : (rest : List ℕ) → segment_at (0x43 ∷ rest) ≡ (number_at w8 rest >>= λ ms. Ok (inhibit ms.0, ms.1))
unfolding segment_at
at_inhibit rest = rw byte_again refl

pub at_data : (rest : List ℕ) → segment_at (0x80 ∷ rest) ≡ (data_at rest >>= λ d. Ok (bytes d.0, d.1))
unfolding segment_at
at_data rest = rw byte_again refl

-- ---- what is written is read again

pub logical_again : (kind : LogicalType) (value : ℕ) (text rest : List ℕ) → IsLogicalText kind value text → segment_at (text ++ rest) ≡ Ok (logical kind value, rest)
unfolding value_at
logical_again kind value text rest h =
    elim h [
      | inl narrow ↦ rw (narrow.1) (at_logical_8 kind (value ∷ rest) ∙ rw byte_again refl)
      | inr wide ↦ elim wide [
        | inl word ↦ rw (word.1.1) (at_logical_16 kind (word.1.0 ∷ (to_le_bytes w16 value ++ rest)) ∙ rw (byte_again, number_again w16 wide16 value rest word.0) refl)
        | inr long ↦ rw (long.1.1) (at_logical_32 kind (long.1.0 ∷ (to_le_bytes w32 value ++ rest)) ∙ rw (byte_again, number_again w32 wide32 value rest long.0) refl)
      ]
    ]

pub data_again : (words : ℕ) (content rest : List ℕ) → words < 2 ^ 8 → length content ≡ 2 * words → data_at (words ∷ content ++ rest) ≡ Ok (content, rest)
unfolding data_at
data_again words content rest lt len =
    let long : ltb (length (content ++ rest)) (2 * words) ≡ false = le-ltb _ _ (omega (arith, length-append content rest)) in
    rw (byte_again words (content ++ rest), long, take_at content rest (2 * words) len, drop_at content rest (2 * words) len) refl

-- the revision byte tells both of its fields
pub revision_again : (major : ℕ) (compatible : Bool) → major < 128 → (leb 128 (major + cond compatible 128 0) ≡ compatible) × ((major + cond compatible 128 0) % 128 ≡ major)
revision_again major true lt = (le-leb _ _ (omega arith), omega arith)
revision_again major false lt = (lt-leb _ _ (omega arith), omega arith)

pub key_fields_again : (k : KeyFields) (rest : List ℕ) → KeyFits k → key_fields_at (to_le_bytes w16 k.vendor ++ (to_le_bytes w16 k.device_type ++ (to_le_bytes w16 k.product ++ (revision_byte k ∷ k.minor ∷ rest)))) ≡ Ok (k, rest)
unfolding key_fields_at
key_fields_again k rest fits =
    let r = revision_again k.major k.compatible fits.major in
    rw (
      number_again w16 wide16 k.vendor (to_le_bytes w16 k.device_type ++ (to_le_bytes w16 k.product ++ (revision_byte k ∷ k.minor ∷ rest))) fits.vendor,
      number_again w16 wide16 k.device_type (to_le_bytes w16 k.product ++ (revision_byte k ∷ k.minor ∷ rest)) fits.device_type,
      number_again w16 wide16 k.product (revision_byte k ∷ k.minor ∷ rest) fits.product,
      byte_again (revision_byte k) (k.minor ∷ rest),
      byte_again k.minor rest,
      r.0,
      r.1,
    ) refl

pub key_again : (k : KeyFields) (rest : List ℕ) → KeyFits k → segment_at (key_text k ++ rest) ≡ Ok (key k, rest)
unfolding key_at
key_again k rest fits =
    at_key (4 ∷ (to_le_bytes w16 k.vendor ++ (to_le_bytes w16 k.device_type ++ (to_le_bytes w16 k.product ++ (revision_byte k ∷ k.minor ∷ rest)))))
    ∙ rw (byte_again 4 (to_le_bytes w16 k.vendor ++ (to_le_bytes w16 k.device_type ++ (to_le_bytes w16 k.product ++ (revision_byte k ∷ k.minor ∷ rest)))), key_fields_again k rest fits) refl

pub segment_again : (s : SegmentValue) (text rest : List ℕ) → IsSegmentText s text → segment_at (text ++ rest) ≡ Ok (s, rest)
segment_again (logical kind value) text rest h = logical_again kind value text rest h
segment_again (key k) text rest h = rw (h.1) (key_again k rest h.0)
segment_again (bytes content) text rest h = rw (h.3) (at_data (h.0 ∷ content ++ rest) ∙ rw (data_again h.0 content rest h.1 h.2) refl)
segment_again (inhibit ms) text rest h = rw (h.1) (at_inhibit (ms ∷ rest) ∙ rw byte_again refl)

-- ---- the kinds of first bytes

decide : (b : Bool) → (b ≡ true) ⊎ (b ≡ false)
decide true = inl refl
decide false = inr refl

type_again : (kind : LogicalType) → type_of (8 + type_code kind) ≡ Some kind
type_again Class = refl
type_again Instance = refl
type_again Member = refl
type_again ConnectionPoint = refl
type_again Attribute = refl

type_cases : (high : ℕ) → ((kind : LogicalType) × (high ≡ 8 + type_code kind)) ⊎ (type_of high ≡ None)
type_cases high =
    elim (decide (eqb high 8)) [
      | inl t ↦ inl (Class, eqb-true _ _ t)
      | inr f8 ↦ elim (decide (eqb high 9)) [
        | inl t ↦ inl (Instance, eqb-true _ _ t)
        | inr f9 ↦ elim (decide (eqb high 10)) [
          | inl t ↦ inl (Member, eqb-true _ _ t)
          | inr f10 ↦ elim (decide (eqb high 11)) [
            | inl t ↦ inl (ConnectionPoint, eqb-true _ _ t)
            | inr f11 ↦ elim (decide (eqb high 12)) [
              | inl t ↦ inl (Attribute, eqb-true _ _ t)
              | inr f12 ↦ inr (rw (f8, f9, f10, f11, f12) refl)
            ]
          ]
        ]
      ]
    ]

-- nothing reads from the byte on
abbrev IsStray : ℕ → Type 0
IsStray first = (rest : List ℕ) → segment_at (first ∷ rest) ≡ Err fault.Segment

pub data FirstByte (first : ℕ) : Type 0 where
  is_key : first ≡ 0x34 → FirstByte first
  is_inhibit : first ≡ 0x43 → FirstByte first
  is_data : first ≡ 0x80 → FirstByte first
  is_8 : (kind : LogicalType) → first ≡ logical_byte kind 0 → FirstByte first
  is_16 : (kind : LogicalType) → first ≡ logical_byte kind 1 → FirstByte first
  is_32 : (kind : LogicalType) → first ≡ logical_byte kind 2 → FirstByte first
  is_stray : IsStray first → FirstByte first

no_format : (first : ℕ) (kind : LogicalType) → eqb first 0x34 ≡ false → eqb first 0x43 ≡ false → eqb first 0x80 ≡ false → first / 4 ≡ 8 + type_code kind
    → eqb (first % 4) 0 ≡ false → eqb (first % 4) 1 ≡ false → eqb (first % 4) 2 ≡ false → IsStray first
unfolding segment_at logical_at value_at
no_format first kind f34 f43 f80 high f0 f1 f2 rest = rw (byte_again, f34, f43, f80, high, type_again kind, f0, f1, f2) refl

no_type : (first : ℕ) → eqb first 0x34 ≡ false → eqb first 0x43 ≡ false → eqb first 0x80 ≡ false → type_of (first / 4) ≡ None → IsStray first
unfolding segment_at logical_at
no_type first f34 f43 f80 none rest = rw (byte_again, f34, f43, f80, none) refl

from_parts : (first : ℕ) (kind : LogicalType) (format : ℕ) → first / 4 ≡ 8 + type_code kind → first % 4 ≡ format → first ≡ logical_byte kind format
from_parts first kind format high low = omega arith

pub first_byte : (first : ℕ) → FirstByte first
first_byte first =
    elim (decide (eqb first 0x34)) [
      | inl t ↦ is_key (eqb-true _ _ t)
      | inr f34 ↦ elim (decide (eqb first 0x43)) [
        | inl t ↦ is_inhibit (eqb-true _ _ t)
        | inr f43 ↦ elim (decide (eqb first 0x80)) [
          | inl t ↦ is_data (eqb-true _ _ t)
          | inr f80 ↦ elim (type_cases (first / 4)) [
            | inr none ↦ is_stray (no_type first f34 f43 f80 none)
            | inl typed ↦ elim (decide (eqb (first % 4) 0)) [
              | inl t ↦ is_8 typed.0 (from_parts first typed.0 0 typed.1 (eqb-true _ _ t))
              | inr f0 ↦ elim (decide (eqb (first % 4) 1)) [
                | inl t ↦ is_16 typed.0 (from_parts first typed.0 1 typed.1 (eqb-true _ _ t))
                | inr f1 ↦ elim (decide (eqb (first % 4) 2)) [
                  | inl t ↦ is_32 typed.0 (from_parts first typed.0 2 typed.1 (eqb-true _ _ t))
                  | inr f2 ↦ is_stray (no_format first typed.0 f34 f43 f80 typed.1 f0 f1 f2)
                ]
              ]
            ]
          ]
        ]
      ]
    ]
