-- The Message Router lists exactly the classes that have an object.
use Rattle.std.proofs.Common.{◌≡◌, ℕ, ◌==◌, ◌||◌, Bool, true, false, cond, List, [], ◌∷◌, ◌++◌, filter, Option, Some, None, is_some, refl, sym, ◌∙◌, ap, subst, arith}
use Rattle.std.specs.List.{list_any}
use Rattle.std.proofs.lemmas.Bool.Decides.{nat_tests}
use Rattle.base_lemmas.specs.Booleans.{or_false, or_true}
use Rattle.adapter_table.specs.declared.profile.Description.{Description}
use Rattle.adapter_table.specs.declared.profile.Profile.{Profile}
use Rattle.adapter_table.specs.declared.table.AdapterTable.{AdapterTable}
use Rattle.adapter_table.specs.declared.table.PointValue.{PointValue}
use Rattle.adapter_table.specs.Objects.{Instance, assembly_beside, assembly_found, described_at, instance_at, is_other_class, is_owning, object_list, object_said, yielding_classes, alone_answer}
use Rattle.adapter_table.specs.Carrying.{object_answer}
use Rattle.adapter_table.specs.Own.{is_own_class}
use Rattle.adapter_table.specs.Points.{bytes_at}
use Rattle.adapter_table.specs.Profiles.{is_class}
use Rattle.object_laws.specs.Services.{has_object, ObjectsAreListed, NothingIsListed}

other_way : (a class : ℕ) → (class == a) ≡ false → (a == class) ≡ false
other_way a class differ = grind (arith, nat_tests)

any_step : (b : Bool) (x y z : Bool) → x ≡ (y || z) → (b || x) ≡ ((b || y) || z)
any_step true x y z is = refl
any_step false x y z is = is

any_append : (class : ℕ) (xs ys : List ℕ) → list_any (is_class class) (xs ++ ys) ≡ (list_any (is_class class) xs || list_any (is_class class) ys)
any_append class [] ys = refl
any_append class (x ∷ xs) ys = any_step (is_class class x) _ _ _ (any_append class xs ys)

abbrev left : List ℕ → List ℕ
left own = filter (is_other_class own) yielding_classes

-- the class is listed if an object has it, and not otherwise
abbrev Agrees : AdapterTable → ℕ → Type 0
Agrees t class = list_any (is_class class) (object_list t.profile.objects) ≡ has_object t class

-- ---- a class that each described device has

served_agrees : (t : AdapterTable) (class : ℕ) → list_any (is_class class) (object_list t.profile.objects) ≡ true → is_some (instance_at t class 0) ≡ true → Agrees t class
served_agrees t class listed some =
    listed ∙ sym (ap (λ (b : Bool). is_own_class t.profile.objects class || b) some ∙ or_true (is_own_class t.profile.objects class))

assembly_some : (profile : Profile) (values : List PointValue) (d : Description) (found : Option (List ℕ)) → profile.description ≡ Some d → is_some (assembly_found profile values 0 found) ≡ true
assembly_some profile values d None is = ap (λ (o : Option Description). is_some (assembly_beside profile values 0 o)) is
assembly_some profile values d (Some value) is = refl

-- ---- QoS and Port, unless the maker's own has the class

qos_listed : (own : List ℕ) (b : Bool) → is_own_class own 0x48 ≡ b → list_any (is_class 0x48) (left own ++ own) ≡ true
qos_listed own true is = any_append 0x48 (left own) own ∙ ap (λ (b : Bool). list_any (is_class 0x48) (left own) || b) is ∙ or_true (list_any (is_class 0x48) (left own))
qos_listed own false is = rw is refl

port_first : (b : Bool) (rest : List ℕ) → list_any (is_class 0xF4) (cond b (0x48 ∷ 0xF4 ∷ []) (0xF4 ∷ []) ++ rest) ≡ true
port_first true rest = refl
port_first false rest = refl

port_listed : (own : List ℕ) (b : Bool) → is_own_class own 0xF4 ≡ b → list_any (is_class 0xF4) (left own ++ own) ≡ true
port_listed own true is = any_append 0xF4 (left own) own ∙ ap (λ (b : Bool). list_any (is_class 0xF4) (left own) || b) is ∙ or_true (list_any (is_class 0xF4) (left own))
port_listed own false is = rw is (port_first (is_other_class own 0x48) own)

yielding_has : (t : AdapterTable) (class : ℕ) (b : Bool) → is_own_class t.profile.objects class ≡ b → (is_own_class t.profile.objects class ≡ false → is_some (instance_at t class 0) ≡ true) → has_object t class ≡ true
yielding_has t class true is some = rw is refl
yielding_has t class false is some = ap (λ (b : Bool). b || is_some (instance_at t class 0)) is ∙ some is

qos_some : (t : AdapterTable) (d : Description) → t.profile.description ≡ Some d → is_own_class t.profile.objects 0x48 ≡ false → is_some (instance_at t 0x48 0) ≡ true
unfolding instance_at
qos_some t d is free = ap (λ (o : Option Description). is_some (described_at t 0x48 0 o)) is ∙ rw free refl

port_some : (t : AdapterTable) (d : Description) → t.profile.description ≡ Some d → is_own_class t.profile.objects 0xF4 ≡ false → is_some (instance_at t 0xF4 0) ≡ true
unfolding instance_at
port_some t d is free = ap (λ (o : Option Description). is_some (described_at t 0xF4 0 o)) is ∙ rw free refl

-- ---- another class

left_lacks : (class : ℕ) (qos port : Bool) → (0x48 == class) ≡ false → (0xF4 == class) ≡ false → list_any (is_class class) (cond qos (0x48 ∷ cond port (0xF4 ∷ []) []) (cond port (0xF4 ∷ []) [])) ≡ false
left_lacks class true true first second = rw (first, second) refl
left_lacks class true false first second = rw first refl
left_lacks class false true first second = rw second refl
left_lacks class false false first second = refl

others_listed : (own : List ℕ) (class : ℕ) → (class == 0x48) ≡ false → (class == 0xF4) ≡ false → list_any (is_class class) (left own ++ own) ≡ is_own_class own class
others_listed own class qos port =
    any_append class (left own) own
    ∙ ap (λ (b : Bool). b || is_own_class own class) (left_lacks class (is_other_class own 0x48) (is_other_class own 0xF4) (other_way 0x48 class qos) (other_way 0xF4 class port))

-- it is none of these eight
record IsOther (class : ℕ) : Type 0 where
  identity : (class == 0x01) ≡ false
  router : (class == 0x02) ≡ false
  assembly : (class == 0x04) ≡ false
  manager : (class == 0x06) ≡ false
  interface : (class == 0xF5) ≡ false
  link : (class == 0xF6) ≡ false
  qos : (class == 0x48) ≡ false
  port : (class == 0xF4) ≡ false

other_none : (t : AdapterTable) (class : ℕ) (description : Option Description) → IsOther class → described_at t class 0 description ≡ None
other_none t class None other = refl
other_none t class (Some d) other = rw (other.identity, other.router, other.manager, other.interface, other.link, other.qos, other.port) refl

other_agrees : (t : AdapterTable) (class : ℕ) → IsOther class → Agrees t class
unfolding instance_at
other_agrees t class other =
    let first = other_way 0x01 class other.identity in
    let second = other_way 0x02 class other.router in
    let fourth = other_way 0x04 class other.assembly in
    let sixth = other_way 0x06 class other.manager in
    let interface = other_way 0xF5 class other.interface in
    let link = other_way 0xF6 class other.link in
    let none : instance_at t class 0 ≡ None = rw other.assembly (other_none t class t.profile.description other) in
    let listed : list_any (is_class class) (object_list t.profile.objects) ≡ is_own_class t.profile.objects class =
    rw (first, second, fourth, sixth, interface, link) (others_listed t.profile.objects class other.qos other.port)
    in
    listed ∙ sym (ap (λ (o : Option Instance). is_own_class t.profile.objects class || is_some o) none ∙ or_false (is_own_class t.profile.objects class))

-- ---- each class

by_class : (P : ℕ → Type 0) (at class : ℕ) → P at → ((class == at) ≡ false → P class) → P class
by_class P at class here other = split (class == at) refl
  where
    split : (b : Bool) → (class == at) ≡ b → P class
    split true is = let same : at ≡ class = grind (arith, nat_tests) in subst P same here
    split false is = other is

each_agrees : (t : AdapterTable) (d : Description) (class : ℕ) → t.profile.description ≡ Some d → Agrees t class
unfolding instance_at
each_agrees t d class is =
    by_class (Agrees t) 0x01 class (served_agrees t 0x01 refl (ap (λ (o : Option Description). is_some (described_at t 0x01 0 o)) is))
    (λ identity. by_class (Agrees t) 0x02 class (served_agrees t 0x02 refl (ap (λ (o : Option Description). is_some (described_at t 0x02 0 o)) is))
    (λ router. by_class (Agrees t) 0x04 class (served_agrees t 0x04 refl (assembly_some t.profile t.values d (bytes_at t.values 0) is))
    (λ assembly. by_class (Agrees t) 0x06 class (served_agrees t 0x06 refl (ap (λ (o : Option Description). is_some (described_at t 0x06 0 o)) is))
    (λ manager. by_class (Agrees t) 0xF5 class (served_agrees t 0xF5 refl (ap (λ (o : Option Description). is_some (described_at t 0xF5 0 o)) is))
    (λ interface. by_class (Agrees t) 0xF6 class (served_agrees t 0xF6 refl (ap (λ (o : Option Description). is_some (described_at t 0xF6 0 o)) is))
    (λ link. by_class (Agrees t) 0x48 class
    (qos_listed t.profile.objects (is_own_class t.profile.objects 0x48) refl
    ∙ sym (yielding_has t 0x48 (is_own_class t.profile.objects 0x48) refl (qos_some t d is)))
    (λ qos. by_class (Agrees t) 0xF4 class
    (port_listed t.profile.objects (is_own_class t.profile.objects 0xF4) refl
    ∙ sym (yielding_has t 0xF4 (is_own_class t.profile.objects 0xF4) refl (port_some t d is)))
    (λ port. other_agrees t class (record {
      identity = identity;
      router = router;
      assembly = assembly;
      manager = manager;
      interface = interface;
      link = link;
      qos = qos;
      port = port;
    })))))))))

pub objects_listed : ObjectsAreListed
unfolding object_answer alone_answer instance_at
objects_listed t d is = record {
  classes = object_list t.profile.objects;
  answered = ap (λ (o : Option Description). object_said (list_any is_owning t.rows) 0x0E (Some 1) [] (described_at t 0x02 1 o)) is;
  each = λ class. each_agrees t d class is;
}

pub nothing_listed : NothingIsListed
unfolding object_answer alone_answer instance_at
nothing_listed t is = ap (λ (o : Option Description). object_said (list_any is_owning t.rows) 0x0E (Some 1) [] (described_at t 0x02 1 o)) is
