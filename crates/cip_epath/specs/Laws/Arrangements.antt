-- What the arrangement of segments gives is what is arranged so.
use Rattle.std.proofs.Common.{◌≡◌, ℕ, List, [], ◌∷◌, ◌++◌, Option, Some, None, Ok, Err, refl, sym, ap, subst, ◌∙◌, append_assoc, map}
use Rattle.std.specs.Prelude.{option_to_list}
use Rattle.cip_epath.specs.declared.fault.PathFault.{PathFault}
use Rattle.cip_epath.specs.declared.fault.PathFault.TheVariants as fault
use Rattle.cip_epath.specs.declared.path.Target.{Target}
use Rattle.cip_epath.specs.declared.segment.LogicalType.TheVariants.{Class, Instance, Attribute}
use Rattle.cip_epath.specs.ElectronicKey.{KeyFields}
use Rattle.cip_epath.specs.Segment.{SegmentValue, logical}
use Rattle.cip_epath.specs.Path.{PathFields, Role, key_role, class_role, point_role, data_role, roles, inhibits, arrangement, IsPath, IsTarget}
use Rattle.cip_epath.specs.Reading.{with_points, with_class, with_key, with_inhibits, arranged_path, arranged_target}
use Rattle.cip_epath.specs.Laws.Numbers.{ok_is}
use Rattle.cip_epath.specs.Laws.Cuts.{Arranges}

-- ---- connection paths

-- the roles behind the class
abbrev points : PathFields → List Role
points p = map point_role (option_to_list p.config) ++ point_role p.consumed ∷ point_role p.produced ∷ map data_role (option_to_list p.segment)

-- a path of these parts
record IsMade (ms : Option ℕ) (k : Option KeyFields) (c : ℕ) (rest : List Role) (p : PathFields) : Type 0 where
  inhibit : ms ≡ p.inhibit
  key : k ≡ p.key
  class : c ≡ p.class
  roles : rest ≡ points p

points_made : (ms : Option ℕ) (k : Option KeyFields) (c : ℕ) (rest : List Role) (p : PathFields) → with_points ms k c rest ≡ Ok p → IsMade ms k c rest p
points_made ms k c (point_role a ∷ point_role b ∷ []) p e = subst (IsMade ms k c (point_role a ∷ point_role b ∷ [])) (ok_is _ p e) (record { inhibit = refl; key = refl; class = refl; roles = refl })
points_made ms k c (point_role a ∷ point_role b ∷ data_role d ∷ []) p e = subst (IsMade ms k c (point_role a ∷ point_role b ∷ data_role d ∷ [])) (ok_is _ p e) (record { inhibit = refl; key = refl; class = refl; roles = refl })
points_made ms k c (point_role x ∷ point_role a ∷ point_role b ∷ []) p e = subst (IsMade ms k c (point_role x ∷ point_role a ∷ point_role b ∷ [])) (ok_is _ p e) (record { inhibit = refl; key = refl; class = refl; roles = refl })
points_made ms k c (point_role x ∷ point_role a ∷ point_role b ∷ data_role d ∷ []) p e = subst (IsMade ms k c (point_role x ∷ point_role a ∷ point_role b ∷ data_role d ∷ [])) (ok_is _ p e) (record { inhibit = refl; key = refl; class = refl; roles = refl })
points_made _ _ _ _ p e = absurd cc

-- the roles of a path with this key
abbrev behind_key : Option KeyFields → ℕ → List Role → List Role
behind_key k c rest = map key_role (option_to_list k) ++ class_role c ∷ rest

whole : (ms : Option ℕ) (k : Option KeyFields) (c : ℕ) (rest : List Role) (p : PathFields) → IsMade ms k c rest p → behind_key k c rest ≡ arrangement p
whole ms k c rest p m =
    ap (λ (x : Option KeyFields). behind_key x c rest) m.key ∙ ap (λ (x : ℕ). behind_key p.key x rest) m.class ∙ ap (behind_key p.key p.class) m.roles
    ∙ sym (append_assoc (map key_role (option_to_list p.key)) (class_role p.class ∷ map point_role (option_to_list p.config)) (point_role p.consumed ∷ point_role p.produced ∷ map data_role (option_to_list p.segment)))

class_made : (ms : Option ℕ) (k : Option KeyFields) (rest : List Role) (p : PathFields) → with_class ms k rest ≡ Ok p → (ms ≡ p.inhibit) × (map key_role (option_to_list k) ++ rest ≡ arrangement p)
class_made ms k (class_role c ∷ rest) p e = let m = points_made ms k c rest p e in (m.inhibit, whole ms k c rest p m)
class_made _ _ _ p e = absurd cc

key_made : (ms : Option ℕ) (rest : List Role) (p : PathFields) → with_key ms rest ≡ Ok p → (ms ≡ p.inhibit) × (rest ≡ arrangement p)
key_made ms (key_role k ∷ rest) p e = class_made ms (Some k) rest p e
key_made ms rest p e = class_made ms None rest p e

inhibits_made : (times : List ℕ) (rest : List Role) (p : PathFields) → with_inhibits times rest ≡ Ok p → (times ≡ option_to_list p.inhibit) × (rest ≡ arrangement p)
inhibits_made [] rest p e = let m = key_made None rest p e in (ap option_to_list m.0, m.1)
inhibits_made (ms ∷ []) rest p e = let m = key_made (Some ms) rest p e in (ap option_to_list m.0, m.1)
inhibits_made (ms ∷ other ∷ times) rest p e = absurd cc

inhibits_make : (ms : Option ℕ) (rest : List Role) → with_inhibits (option_to_list ms) rest ≡ with_key ms rest
inhibits_make None rest = refl
inhibits_make (Some ms) rest = refl

key_makes : (key : Option KeyFields) (ms : Option ℕ) (c : ℕ) (config : Option ℕ) (a b : ℕ) (segment : Option (List ℕ))
    → let p : PathFields = record { key = key; inhibit = ms; class = c; config = config; consumed = a; produced = b; segment = segment } in with_key ms (arrangement p) ≡ Ok p
key_makes None ms c None a b None = refl
key_makes None ms c None a b (Some d) = refl
key_makes None ms c (Some x) a b None = refl
key_makes None ms c (Some x) a b (Some d) = refl
key_makes (Some k) ms c None a b None = refl
key_makes (Some k) ms c None a b (Some d) = refl
key_makes (Some k) ms c (Some x) a b None = refl
key_makes (Some k) ms c (Some x) a b (Some d) = refl

points_shape : (ms : Option ℕ) (k : Option KeyFields) (c : ℕ) (rest : List Role) (f : PathFault) → with_points ms k c rest ≡ Err f → f ≡ fault.Shape
points_shape ms k c (point_role a ∷ point_role b ∷ []) f e = absurd cc
points_shape ms k c (point_role a ∷ point_role b ∷ data_role d ∷ []) f e = absurd cc
points_shape ms k c (point_role x ∷ point_role a ∷ point_role b ∷ []) f e = absurd cc
points_shape ms k c (point_role x ∷ point_role a ∷ point_role b ∷ data_role d ∷ []) f e = absurd cc
points_shape _ _ _ _ f e = cc

class_shape : (ms : Option ℕ) (k : Option KeyFields) (rest : List Role) (f : PathFault) → with_class ms k rest ≡ Err f → f ≡ fault.Shape
class_shape ms k (class_role c ∷ rest) f e = points_shape ms k c rest f e
class_shape _ _ _ f e = cc

key_shape : (ms : Option ℕ) (rest : List Role) (f : PathFault) → with_key ms rest ≡ Err f → f ≡ fault.Shape
key_shape ms (key_role k ∷ rest) f e = class_shape ms (Some k) rest f e
key_shape ms rest f e = class_shape ms None rest f e

inhibits_shape : (times : List ℕ) (rest : List Role) (f : PathFault) → with_inhibits times rest ≡ Err f → f ≡ fault.Shape
inhibits_shape [] rest f e = key_shape None rest f e
inhibits_shape (ms ∷ []) rest f e = key_shape (Some ms) rest f e
inhibits_shape (ms ∷ other ∷ times) rest f e = cc

pub path_arranges : Arranges IsPath arranged_path
path_arranges = record {
  made = λ segments p e. inhibits_made (inhibits segments) (roles segments) p e;
  makes = λ segments p is.
      ap (λ (times : List ℕ). with_inhibits times (roles segments)) is.0 ∙ ap (with_inhibits (option_to_list p.inhibit)) is.1
      ∙ inhibits_make p.inhibit (arrangement p) ∙ key_makes p.key p.inhibit p.class p.config p.consumed p.produced p.segment;
  shape = λ segments f e. inhibits_shape (inhibits segments) (roles segments) f e;
}

-- ---- targets

target_made : (segments : List SegmentValue) (t : Target) → arranged_target segments ≡ Ok t → IsTarget segments t
target_made (logical Class c ∷ logical Instance i ∷ []) t e = subst (IsTarget (logical Class c ∷ logical Instance i ∷ [])) (ok_is _ t e) refl
target_made (logical Class c ∷ logical Instance i ∷ logical Attribute a ∷ []) t e = subst (IsTarget (logical Class c ∷ logical Instance i ∷ logical Attribute a ∷ [])) (ok_is _ t e) refl
target_made _ t e = absurd cc

target_makes : (c i : ℕ) (a : Option ℕ) (segments : List SegmentValue) → IsTarget segments (record { class = c; instance = i; attribute = a }) → arranged_target segments ≡ Ok (record { class = c; instance = i; attribute = a })
target_makes c i None segments is = ap arranged_target is
target_makes c i (Some a) segments is = ap arranged_target is

target_shape : (segments : List SegmentValue) (f : PathFault) → arranged_target segments ≡ Err f → f ≡ fault.Shape
target_shape (logical Class c ∷ logical Instance i ∷ []) f e = absurd cc
target_shape (logical Class c ∷ logical Instance i ∷ logical Attribute a ∷ []) f e = absurd cc
target_shape _ f e = cc

pub target_arranges : Arranges IsTarget arranged_target
target_arranges = record {
  made = target_made;
  makes = λ segments t is. target_makes t.class t.instance t.attribute segments is;
  shape = target_shape;
}
