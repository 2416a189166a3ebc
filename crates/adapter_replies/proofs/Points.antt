-- A device has few points, and its name is whole.
use Rattle.std.proofs.Common.{◌≡◌, ◌≤◌, ◌+◌, ◌==◌, ℕ, zero, suc, Bool, true, false, cond, List, [], ◌∷◌, ◌++◌, filter, length, map, take, Option, Some, None, option_to_list, refl, sym, ap, ◌∙◌, arith, length-append, nat_lt}
use Rattle.std.specs.Int.{byte_at}
use Rattle.std.specs.List.{flat_map}
use Rattle.std.proofs.lemmas.List.{length-map}
use Rattle.std.proofs.lemmas.Bool.{false_from_ne_true, not-false}
use Rattle.std.proofs.lemmas.Bool.Decides.{nat_tests}
use Rattle.cip_types.specs.Cases.{first_case}
use Rattle.adapter_table.specs.declared.profile.Description.{Description}
use Rattle.adapter_table.specs.declared.profile.InputPoint.{InputPoint}
use Rattle.adapter_table.specs.declared.profile.Profile.{Profile}
use Rattle.adapter_table.specs.declared.table.PointValue.{PointValue}
use Rattle.adapter_table.specs.Profiles.{as_point, profile_fault, profile_tests, are_few, served_classes}
use Rattle.adapter_table.specs.Points.{data_points}
use Rattle.adapter_table.specs.Shapes.{IsShaped, shape_of}
use Rattle.adapter_table.specs.Shaping.{all_pass}
use Rattle.list_identity.specs.Names.{name_front}
use Rattle.adapter_table.specs.Objects.{IdentityState, decimal_byte, described_cases, is_other_class, node_text, object_list, u16, yielding_cases, yielding_classes}

few_by : (profile : Profile) → are_few profile ≡ true → (length profile.inputs ≤ 8) × (length profile.outputs ≤ 8)
few_by profile few = (grind (arith, nat_tests), grind (arith, nat_tests))

few_points : (profile : Profile) → profile_fault profile ≡ None → (length profile.inputs ≤ 8) × (length profile.outputs ≤ 8)
unfolding profile_fault
few_points profile none = few_by profile (not-false (are_few profile) (all_pass (profile_tests profile) none).1.1.0)

one_at_most : (config : Option InputPoint) → length (option_to_list config) ≤ 1
one_at_most None = omega arith
one_at_most (Some config) = omega arith

-- a device has at most 17 points
pub few_values : (profile : Profile) (values : List PointValue) → IsShaped profile values → length values ≤ 17
few_values profile values shaped =
    let few = few_points profile shaped.faultless in
    let all : length values ≡ length (data_points profile) = sym (length-map values shape_of) ∙ ap (λ (l : List InputPoint). length l) shaped.shapes in
    let front = length-append (map as_point profile.outputs) (profile.inputs ++ option_to_list profile.config) in
    let behind = length-append profile.inputs (option_to_list profile.config) in
    omega (arith, few.0, few.1, all, front, behind, length-map profile.outputs as_point, one_at_most profile.config)

take_all : (n : ℕ) (bytes : List ℕ) → length bytes ≤ n → take n bytes ≡ bytes
take_all zero [] few = refl
take_all zero (byte ∷ bytes) few = absurd (omega (arith, few))
take_all (suc n) [] few = refl
take_all (suc n) (byte ∷ bytes) few = ap (λ (l : List ℕ). byte ∷ l) (take_all n bytes (omega (arith, few)))

-- a name of at most 32 bytes is its own front
pub whole_name : (name : List ℕ) → length name ≤ 32 → name_front name ≡ name
whole_name name few = split (nat_lt (length name) 32)
  where
    split : (b : Bool) → cond b name (take 32 name) ≡ name
    split true = refl
    split false = take_all 32 name few

-- how many objects a device has
pub objects_len : (own : List ℕ) → 6 + length (filter (is_other_class own) yielding_classes) + length own ≡ length (object_list own)
objects_len own = let joined = length-append (filter (is_other_class own) yielding_classes) own in omega (arith, joined)

words_append : (xs ys : List ℕ) → flat_map u16 (xs ++ ys) ≡ flat_map u16 xs ++ flat_map u16 ys
words_append [] ys = refl
words_append (x ∷ xs) ys = ap (λ (words : List ℕ). u16 x ++ words) (words_append xs ys)

-- the list of objects, part by part
pub objects_words : (own : List ℕ) → flat_map u16 (object_list own) ≡ flat_map u16 served_classes ++ (flat_map u16 (filter (is_other_class own) yielding_classes) ++ flat_map u16 own)
objects_words own = ap (λ (words : List ℕ). flat_map u16 served_classes ++ words) (words_append (filter (is_other_class own) yielding_classes) own)

dotted_len : (a b c d : List ℕ) → length (a ++ (46 ∷ (b ++ (46 ∷ (c ++ (46 ∷ d)))))) ≡ length a + 1 + length b + 1 + (length c + 1 + length d)
dotted_len a b c d = omega (arith, length-append a (46 ∷ (b ++ (46 ∷ (c ++ (46 ∷ d))))), length-append b (46 ∷ (c ++ (46 ∷ d))), length-append c (46 ∷ d))

-- the length of the text of an address
pub node_text_len : (node : ℕ) → length (node_text node) ≡ length (decimal_byte (byte_at 3 node)) + 1 + length (decimal_byte (byte_at 2 node)) + 1 + (length (decimal_byte (byte_at 1 node)) + 1 + length (decimal_byte (byte_at 0 node)))
node_text_len node = dotted_len (decimal_byte (byte_at 3 node)) (decimal_byte (byte_at 2 node)) (decimal_byte (byte_at 1 node)) (decimal_byte (byte_at 0 node))

-- two numbers that are not equal
pub differ : (a b : ℕ) → (a ≡ b → ⊥) → (a == b) ≡ false
differ a b never = false_from_ne_true (a == b) (λ is. never (grind (arith, nat_tests)))

-- of another class than those of every described device there are QoS and Port alone
pub other_cases : (profile : Profile) (standing : IdentityState) (connections : ℕ) (link : List ℕ) (d : Description) (class instance : ℕ) → (class == 0x01) ≡ false → (class == 0x02) ≡ false → (class == 0x06) ≡ false → (class == 0xF5) ≡ false → (class == 0xF6) ≡ false → first_case (described_cases profile standing connections link d class instance) ≡ first_case (yielding_cases profile class instance)
other_cases profile standing connections link d class instance identity router manager interface ethernet = rw (identity, router, manager, interface, ethernet) refl
