-- What an adapter says of itself to inquiries and to who reads its Identity object (Volume 1, chapter 5, Identity object; Volume
-- 2, chapter 2, ListIdentity).
use Rattle.std.specs.Prelude.{ℕ, ◌≡◌, ◌%◌, true, List, [], ◌∷◌, ◌++◌, length, find, Option, Some, is_some}
use Rattle.cip_router.specs.declared.object_service.ObjectService.TheVariants.{GetAll}
use Rattle.list_identity.specs.Identity.{identity_item, item_head, view_socket}
use Rattle.adapter_table.specs.declared.profile.Description.{Description}
use Rattle.adapter_table.specs.declared.table.AdapterTable.{AdapterTable}
use Rattle.adapter_table.specs.Inquiries.{identity_of, address_of}
use Rattle.adapter_table.specs.Objects.{said, operational, status_word}
use Rattle.adapter_table.specs.Carrying.{object_answer}
use Rattle.adapter_table.specs.Profiles.{is_output_at}
use Rattle.adapter_table.specs.Rows.{drivers}
use Rattle.adapter_table.specs.Whole.{IsWhole}

-- the bytes that answer Get_Attributes_All of the Identity object stand in the identity item
pub record AgreesWithItem (t : AdapterTable) (d : Description) : Type 0 where
  pub attributes : List ℕ
  pub answered : (attribute : Option ℕ) → object_answer t 0x01 0x01 1 attribute [] ≡ said GetAll attributes
  pub item :
      identity_item (identity_of t d) (address_of t d)
      ≡ item_head (identity_of t d) ++ (view_socket (address_of t d) ++ (attributes ++ operational ∷ []))

-- so it is of every device that is described
abbrev pub IdentitiesAgree : Type 0
IdentitiesAgree = (t : AdapterTable) (d : Description) → t.profile.description ≡ Some d → AgreesWithItem t d

-- an output has an established exclusive owner
pub record HasOwner (t : AdapterTable) : Type 0 where
  pub point : ℕ
  pub output : is_some (find (is_output_at point) t.profile.outputs) ≡ true
  pub driven : length (drivers point t.rows) ≡ 1

-- bit 0 of the status word is 1 exactly if an output has an owner
pub record OwnedBitIs (t : AdapterTable) : Type 0 where
  pub owned : HasOwner t → status_word t % 2 ≡ 1
  pub owner : status_word t % 2 ≡ 1 → HasOwner t

-- so it is of every whole table
abbrev pub OwnedBitSaysOwners : Type 0
OwnedBitSaysOwners = (t : AdapterTable) → IsWhole t → OwnedBitIs t
