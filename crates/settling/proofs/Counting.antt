-- There are at most 256 devices, since no two have one incarnation byte.
use Rattle.std.proofs.Common.{◌≡◌, ◌<◌, ◌≤◌, ◌==◌, ◌||◌, ℕ, zero, suc, eqb, if◌then◌else◌, Bool, true, false, List, [], ◌∷◌, length, get_or, slice_index, Option, Some, None, refl, sym, ap, arith}
use Rattle.std.specs.List.{AllByRecursion, IsDistinct, list_any}
use Rattle.std.proofs.lemmas.Bool.Decides.{nat_tests}
use Rattle.std.proofs.lemmas.Map.Steps.{length-le_from_distinct_below}
use Rattle.device_lock.specs.Histories.{HistoryValue}
use Rattle.segment_world.specs.declared.configs.DeviceKey.TheVariants.{Incarnation}
use Rattle.segment_world.specs.declared.fault.WorldFault.{WorldFault}
use Rattle.segment_world.specs.declared.fault.WorldFault.TheVariants.{SameIncarnation}
use Rattle.segment_world.specs.Configs.{any_twice, key_in, world_fault}
use Rattle.settling.specs.Search.Histories.{byte_in, bytes_of, configs_of}
use Rattle.settling.specs.Search.Lemmas.Listing.{length_all}

or_none : (a b : Bool) → (a || b) ≡ false → (a ≡ false) × (b ≡ false)
or_none true b h = absurd (let e = h in cc)
or_none false b h = (refl, h)

or_one : {A : Type 0} (a b : Bool) → (a || b) ≡ true → (a ≡ true → A) → (b ≡ true → A) → A
or_one true b h f g = f refl
or_one false b h f g = g h

other_way : (a b : ℕ) → (a == b) ≡ false → eqb b a ≡ false
other_way a b h = grind (arith, nat_tests, h)

same_byte : (a b : ℕ) → eqb a b ≡ true → a ≡ b
same_byte a b h = grind (arith, nat_tests, h)

apart : (byte : ℕ) (hs : List HistoryValue) → list_any (λ other. key_in Incarnation other == byte) (configs_of hs) ≡ false → AllByRecursion (λ y. eqb byte y ≡ false) (bytes_of hs)
apart byte [] none = tt
apart byte (h ∷ hs) none =
    let both = or_none (byte_in h == byte) (list_any (λ other. key_in Incarnation other == byte) (configs_of hs)) none in
    (other_way (byte_in h) byte both.0, apart byte hs both.1)

distinct : (hs : List HistoryValue) → any_twice Incarnation (configs_of hs) ≡ false → IsDistinct eqb (bytes_of hs)
unfolding any_twice IsDistinct
distinct [] none = tt
distinct (h ∷ hs) none =
    let both = or_none (list_any (λ other. key_in Incarnation other == byte_in h) (configs_of hs)) (any_twice Incarnation (configs_of hs)) none in
    (apart (byte_in h) hs both.0, distinct hs both.1)

below : (hs : List HistoryValue) → ((i : ℕ) → i < length hs → slice_index (bytes_of hs) i < 256) → (byte : ℕ) → list_any (eqb byte) (bytes_of hs) ≡ true → byte < 256
below [] all byte has = absurd (let e = has in cc)
below (h ∷ hs) all byte has =
    or_one (eqb byte (byte_in h)) (list_any (eqb byte) (bytes_of hs)) has
    (λ same. let e = same_byte byte (byte_in h) same in let lt : byte_in h < 256 = all 0 (omega arith) in omega (arith, e, lt))
    (λ more. below hs (λ i lt. all (suc i) (omega arith)) byte more)

first_none : (a : Bool) (later : Option WorldFault) → (if a then Some SameIncarnation else later) ≡ None → a ≡ false
first_none true later h = absurd (let e = h in cc)
first_none false later h = refl

pub few_devices : (hs : List HistoryValue) → world_fault (configs_of hs) ≡ None → ((i : ℕ) → i < length hs → slice_index (bytes_of hs) i < 256) → length hs ≤ 256
few_devices hs none all =
    let many = length-le_from_distinct_below (bytes_of hs) 256 (distinct hs (first_none (any_twice Incarnation (configs_of hs)) _ none)) (below hs all) in
    omega (arith, many, length_all byte_in hs)

pub byte_here : (hs : List HistoryValue) (i : ℕ) (h : HistoryValue) → i < length hs → h ≡ get_or hs i h → slice_index (bytes_of hs) i ≡ byte_in h
byte_here [] i h lt is = absurd (omega arith)
byte_here (x ∷ hs) zero h lt is = ap byte_in (sym is)
byte_here (x ∷ hs) (suc i) h lt is = byte_here hs i h (omega arith) is
