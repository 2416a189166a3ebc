-- The electronic key of a path, and the devices that match it (Volume 1, appendix C, electronic key
-- segment). A device has its vendor, device type, product code and revision from its Identity object.
use Rattle.std.specs.Prelude.{ℕ, Bool, ◌==◌, nat_le, ◌||◌, ◌&&◌, not, if◌then◌else◌, List, [], ◌∷◌, Option}
use Rattle.cip_types.specs.Cases.{Case, first_case}
use Rattle.cip_types.specs.declared.names.Identity.{Identity}
use Rattle.cip_epath.specs.declared.key.ElectronicKey.{ElectronicKey}
use Rattle.cip_epath.specs.declared.key.KeyFault.{KeyFault}
use Rattle.cip_epath.specs.declared.key.KeyFault.TheVariants as fault

-- an electronic key
pub record KeyFields : Type 0 where
  pub vendor : ℕ
  pub device_type : ℕ
  pub product : ℕ
  pub compatible : Bool
  pub major : ℕ
  pub minor : ℕ

-- the contents of a key of the program
abbrev pub view_key : ElectronicKey → KeyFields
view_key k = record { vendor = k.vendor; device_type = k.device_type; product = k.product; compatible = k.compatible; major = k.major; minor = k.minor }

-- a field matches the device's value if it is zero or equal to it
abbrev pub is_match : ℕ → ℕ → Bool
is_match field own = (field == 0) || (field == own)

-- the vendor and the product code match
abbrev pub is_product_match : KeyFields → Identity → Bool
is_product_match k d = is_match k.vendor d.vendor && is_match k.product d.product

-- the device type matches
abbrev pub is_type_match : KeyFields → Identity → Bool
is_type_match k d = is_match k.device_type d.device_type

-- the major and the minor revision match; with the compatible bit the key's minor revision is at most the device's
abbrev pub is_revision_match : KeyFields → Identity → Bool
is_revision_match k d = is_match k.major d.major && (if k.compatible then nat_le k.minor d.minor else is_match k.minor d.minor)

-- the three tests of a key in order, each with its fault
abbrev pub key_tests : KeyFields → Identity → List (Case KeyFault)
key_tests k d =
    (not (is_product_match k d), fault.VendorOrProduct)
    ∷ (not (is_type_match k d), fault.DeviceType)
    ∷ (not (is_revision_match k d), fault.Revision)
    ∷ []

-- the fault of the first test that fails, if one does
abbrev pub key_fault : KeyFields → Identity → Option KeyFault
key_fault k d = first_case (key_tests k d)
