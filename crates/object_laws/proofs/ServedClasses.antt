-- The classes of the instances that an adapter has are none of the maker's own: no profile with such a class is accepted, and QoS and
-- Port yield to one.
use Rattle.std.proofs.Common.{◌≡◌, ℕ, ◌==◌, nat_le, Bool, true, false, not, ◌&&◌, ◌||◌, List, [], ◌∷◌, Option, Some, None, refl, subst, arith}
use Rattle.std.specs.List.{list_any}
use Rattle.std.proofs.lemmas.Bool.{false_from_ne_true, and_parts, not-false, not-true, or_parts}
use Rattle.std.proofs.lemmas.Bool.Decides.{nat_tests}
use Rattle.adapter_table.specs.declared.profile.Description.{Description}
use Rattle.adapter_table.specs.declared.profile.Profile.{Profile}
use Rattle.adapter_table.specs.declared.table.AdapterTable.{AdapterTable}
use Rattle.adapter_table.specs.Objects.{Instance, described_at, instance_at, is_left, is_other_class}
use Rattle.adapter_table.specs.Own.{is_own_class}
use Rattle.adapter_table.specs.Profiles.{are_objects, are_own_classes, is_class, is_free_class, profile_fault, profile_tests, served_classes}
use Rattle.adapter_table.specs.Shaping.{all_pass}
use Rattle.adapter_table.specs.Whole.{IsWhole}

-- ---- classes of the maker's own

own_step : (b any served : Bool) → (b ≡ true → served ≡ false) → (any ≡ true → served ≡ false) → (b || any) ≡ true → served ≡ false
own_step true any served first later is = first refl
own_step false any served first later is = later is

own_first : (first class : ℕ) → is_free_class first ≡ true → (first == class) ≡ true → list_any (is_class class) served_classes ≡ false
own_first first class free same =
    let is : first ≡ class = grind (arith, nat_tests) in
    let bounded = and_parts (nat_le 1 first) _ free in
    let apart = and_parts (nat_le first 65535) (not (list_any (is_class first) served_classes)) bounded.1 in
    subst (λ (n : ℕ). list_any (is_class n) served_classes ≡ false) is (not-true (list_any (is_class first) served_classes) apart.1)

-- none is the class of another object
own_free : (classes : List ℕ) (class : ℕ) → are_own_classes classes ≡ true → is_own_class classes class ≡ true → list_any (is_class class) served_classes ≡ false
own_free [] class free own = absurd (let e = own in cc)
own_free (first ∷ rest) class free own =
    let parts = and_parts (is_free_class first) _ free in
    own_step (is_class class first) (is_own_class rest class) (list_any (is_class class) served_classes)
    (λ same. own_first first class parts.0 same) (λ later. own_free rest class (and_parts _ (are_own_classes rest) parts.1).1 later) own

objects_pass : (profile : Profile) → profile_fault profile ≡ None → are_own_classes profile.objects ≡ true
unfolding profile_fault
objects_pass profile none =
    (and_parts _ (are_own_classes profile.objects) (not-false (are_objects profile.objects) (all_pass (profile_tests profile) none).1.1.1.1.1.1.1.1.0)).1

-- ---- classes of the instances

other_way : (a class : ℕ) → (a == class) ≡ false → (class == a) ≡ false
other_way a class differ = grind (arith, nat_tests)

left_by : (b : Bool) (own : List ℕ) (served class : ℕ) → (class == served) ≡ b → is_own_class own class ≡ true → (b && is_other_class own served) ≡ false
left_by true own served class is holds =
    let same : class ≡ served = grind (arith, nat_tests) in
    let mine : is_own_class own served ≡ true = subst (λ (n : ℕ). is_own_class own n ≡ true) same holds in
    rw mine refl
left_by false own served class is holds = refl

-- a class of the maker's own is not left to the device
left_none : (own : List ℕ) (served class : ℕ) → is_own_class own class ≡ true → is_left own served class ≡ false
left_none own served class holds = left_by (class == served) own served class refl holds

described_none : (t : AdapterTable) (class instance : ℕ) (description : Option Description) → is_own_class t.profile.objects class ≡ true → list_any (is_class class) served_classes ≡ false → described_at t class instance description ≡ None
described_none t class instance None own none = refl
described_none t class instance (Some d) own none =
    let one = or_parts (0x01 == class) _ none in
    let two = or_parts (0x02 == class) _ one.1 in
    let four = or_parts (0x04 == class) _ two.1 in
    let six = or_parts (0x06 == class) _ four.1 in
    let interface = or_parts (0xF5 == class) _ six.1 in
    let link = or_parts (0xF6 == class) _ interface.1 in
    rw (other_way 0x01 class one.0, other_way 0x02 class two.0, other_way 0x06 class six.0, other_way 0xF5 class interface.0, other_way 0xF6 class link.0, left_none t.profile.objects 0x48 class own, left_none t.profile.objects 0xF4 class own) refl

unmanaged : (b : Bool) → (b && false) ≡ false
unmanaged true = refl
unmanaged false = refl

instance_none : (t : AdapterTable) (class instance : ℕ) → is_own_class t.profile.objects class ≡ true → list_any (is_class class) served_classes ≡ false → instance_at t class instance ≡ None
unfolding instance_at
instance_none t class instance own none =
    let one = or_parts (0x01 == class) _ none in
    let two = or_parts (0x02 == class) _ one.1 in
    let four = or_parts (0x04 == class) _ two.1 in
    let six = or_parts (0x06 == class) _ four.1 in
    rw (other_way 0x04 class four.0, other_way 0x06 class six.0, unmanaged (instance == 1)) (described_none t class instance t.profile.description own none)

-- ---- both

-- the class of an instance is none of the maker's own
pub served_itself : (t : AdapterTable) (class instance : ℕ) (o : Instance) → IsWhole t → instance_at t class instance ≡ Some o → is_own_class t.profile.objects class ≡ false
served_itself t class instance o whole is =
    false_from_ne_true (is_own_class t.profile.objects class) (λ own.
    let none = instance_none t class instance own (own_free t.profile.objects class (objects_pass t.profile whole.shaped.faultless) own) in
    absurd (let e = is in cc))
