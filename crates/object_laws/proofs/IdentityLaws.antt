-- The identity item has the bytes that answer Get_Attributes_All of the Identity object.
use Rattle.std.proofs.Common.{◌≡◌, ℕ, List, [], ◌∷◌, ◌++◌, Some, refl, ap}
use Rattle.std.specs.List.{list_any}
use Rattle.std.proofs.lemmas.List.{append-nil}
use Rattle.list_identity.specs.Identity.{identity_item, item_head, view_socket, view_product, view_unit, view_device, view_name}
use Rattle.adapter_table.specs.declared.profile.Description.{Description}
use Rattle.adapter_table.specs.declared.table.AdapterTable.{AdapterTable}
use Rattle.adapter_table.specs.Inquiries.{identity_of, address_of}
use Rattle.adapter_table.specs.Objects.{all_values, identity_attributes, is_owning, object_said, operational, standing_of, alone_answer}
use Rattle.adapter_table.specs.Carrying.{object_answer}
use Rattle.object_laws.specs.Identities.{AgreesWithItem, IdentitiesAgree}
use Rattle.object_laws.proofs.ServiceLaws.{identity_found}

device_bytes : (t : AdapterTable) (d : Description) → view_device (identity_of t d) ++ view_name (identity_of t d) ≡ all_values (identity_attributes t.profile.identity d (standing_of t)) ++ operational ∷ []
unfolding view_product view_unit view_device view_name
device_bytes t d = rw (append-nil d.name) refl

agrees : (t : AdapterTable) (d : Description) → t.profile.description ≡ Some d → AgreesWithItem t d
unfolding identity_item object_answer alone_answer
agrees t d is = record {
  attributes = all_values (identity_attributes t.profile.identity d (standing_of t));
  answered = λ attribute. ap (object_said (list_any is_owning t.rows) 0x01 attribute []) (identity_found t d is);
  item = ap (λ (rest : List ℕ). item_head (identity_of t d) ++ (view_socket (address_of t d) ++ rest)) (device_bytes t d);
}

pub identities_agree : IdentitiesAgree
identities_agree t d is = agrees t d is
