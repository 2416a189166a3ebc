-- The instances with their places: they are those of the adapter's points, and when two of them are equal.
use Rattle.std.proofs.Common.{ℕ, ◌≡◌, ◌+◌, ◌<◌, ◌==◌, ◌&&◌, ◌||◌, not, Bool, true, false, List, [], ◌∷◌, ◌++◌, length, take, get_or, map, option_to_list, refl, sym, ◌∙◌, ap, Option, Some, None, is_some, option_map, arith}
use Rattle.std.proofs.lemmas.Grind.{common_steps}
use Rattle.std.specs.List.{list_any, find}
use Rattle.std.proofs.lemmas.List.{map-append}
use Rattle.adapter_table.specs.declared.profile.OutputPoint.{OutputPoint}
use Rattle.adapter_table.specs.declared.profile.InputPoint.{InputPoint}
use Rattle.adapter_table.specs.declared.profile.Profile.{Profile}
use Rattle.adapter_table.specs.Profiles.{is_at, as_point, heartbeat, points_beside, all_points, are_distinct}
use Rattle.trace_faults.specs.declared.profile_faults.defects.WordPlace.{WordPlace}
use Rattle.trace_faults.specs.declared.profile_faults.defects.LineName.TheVariants.{Heartbeat}
use Rattle.trace_faults.specs.declared.profile_faults.instances.PlacedInstance.{PlacedInstance}
use Rattle.trace_faults.specs.ProfileFaults.Instances.{has_instance, placed, placed_outputs, placed_inputs, placed_config, placed_heartbeats, placed_points, place_of, differ}
use Rattle.trace_faults.proofs.Apart.{apart, apart_next, apart_ends}

-- INSTANCES ALONE

abbrev is_number : ℕ → ℕ → Bool
is_number expected number = number == expected

abbrev of_placed : PlacedInstance → ℕ
of_placed point = point.instance

abbrev of_input : InputPoint → ℕ
of_input point = point.instance

abbrev unlike : List ℕ → Bool
unlike [] = true
unlike (number ∷ numbers) = not (list_any (is_number number) numbers) && unlike numbers

any_placed : (instance : ℕ) (points : List PlacedInstance) → list_any (has_instance instance) points ≡ list_any (is_number instance) (map of_placed points)
any_placed instance [] = refl
any_placed instance (point ∷ points) = ap (λ rest. has_instance instance point || rest) (any_placed instance points)

any_input : (instance : ℕ) (points : List InputPoint) → list_any (is_at instance) points ≡ list_any (is_number instance) (map of_input points)
any_input instance [] = refl
any_input instance (point ∷ points) = ap (λ rest. is_at instance point || rest) (any_input instance points)

placed_unlike : (points : List PlacedInstance) → differ points ≡ unlike (map of_placed points)
placed_unlike [] = refl
placed_unlike (point ∷ points) = rw (any_placed point.instance points, placed_unlike points) refl

inputs_unlike : (points : List InputPoint) → are_distinct points ≡ unlike (map of_input points)
inputs_unlike [] = refl
inputs_unlike (point ∷ points) = rw (any_input point.instance points, inputs_unlike points) refl

-- THE POINTS OF A PROFILE

of_outputs : (index : ℕ) (outputs : List OutputPoint) → map of_placed (placed_outputs index outputs) ≡ map of_input (map as_point outputs)
of_outputs index [] = refl
of_outputs index (output ∷ outputs) = ap (λ rest. output.instance ∷ rest) (of_outputs (index + 1) outputs)

of_inputs : (index : ℕ) (inputs : List InputPoint) → map of_placed (placed_inputs index inputs) ≡ map of_input inputs
of_inputs index [] = refl
of_inputs index (input ∷ inputs) = ap (λ rest. input.instance ∷ rest) (of_inputs (index + 1) inputs)

of_beside : (config : Option InputPoint) (first second : ℕ) → map of_placed (placed_config config ++ placed first Heartbeat 0 2 ∷ placed second Heartbeat 0 3 ∷ []) ≡ map of_input (option_to_list config ++ heartbeat first ∷ heartbeat second ∷ [])
of_beside None first second = refl
of_beside (Some point) first second = refl

joined : (a b c x y z : List ℕ) → a ≡ x → b ≡ y → c ≡ z → a ++ (b ++ c) ≡ x ++ (y ++ z)
joined a b c x y z p q r = cc

mapped_placed : (a b c : List PlacedInstance) → map of_placed (a ++ (b ++ c)) ≡ map of_placed a ++ (map of_placed b ++ map of_placed c)
mapped_placed a b c = map-append of_placed a (b ++ c) ∙ ap (λ rest. map of_placed a ++ rest) (map-append of_placed b c)

mapped_inputs : (a b c : List InputPoint) → map of_input (a ++ (b ++ c)) ≡ map of_input a ++ (map of_input b ++ map of_input c)
mapped_inputs a b c = map-append of_input a (b ++ c) ∙ ap (λ rest. map of_input a ++ rest) (map-append of_input b c)

same_instances : (profile : Profile) → map of_placed (placed_points profile) ≡ map of_input (all_points profile)
same_instances profile =
    mapped_placed (placed_outputs 0 profile.outputs) (placed_inputs 0 profile.inputs) (placed_config profile.config ++ placed_heartbeats profile)
    ∙ joined _ _ _ _ _ _ (of_outputs 0 profile.outputs) (of_inputs 0 profile.inputs) (of_beside profile.config profile.input_only profile.listen_only)
    ∙ sym (mapped_inputs (map as_point profile.outputs) profile.inputs (points_beside profile))

-- the instances differ if the points do
pub points_differ : (profile : Profile) → differ (placed_points profile) ≡ are_distinct (all_points profile)
points_differ profile = placed_unlike (placed_points profile) ∙ ap unlike (same_instances profile) ∙ sym (inputs_unlike (all_points profile))

-- ONE AFTER ANOTHER

abbrev alike : PlacedInstance → PlacedInstance → Bool
alike point other = has_instance point.instance other

differ_apart : (points : List PlacedInstance) → differ points ≡ apart alike points
differ_apart [] = refl
differ_apart (point ∷ points) = ap (λ rest. not (list_any (has_instance point.instance) points) && rest) (differ_apart points)

equal_either_way : (a b : ℕ) → (a == b) ≡ (b == a)
equal_either_way a b = grind (arith, common_steps)

any_alike : (points : List PlacedInstance) (point : PlacedInstance) → list_any (λ other. alike other point) points ≡ list_any (has_instance point.instance) points
any_alike [] point = refl
any_alike (other ∷ points) point = rw (equal_either_way point.instance other.instance, any_alike points point) refl

found_of : {A B : Type 0} (f : A → B) (found : Option A) → is_some (option_map f found) ≡ is_some found
found_of f None = refl
found_of f (Some item) = refl

found_any : (instance : ℕ) (points : List PlacedInstance) → is_some (find (has_instance instance) points) ≡ list_any (has_instance instance) points
found_any instance [] = refl
found_any instance (point ∷ points) = grind (arith, common_steps, found_any instance points)

-- whether there is an earlier point of this instance
any_of_place : (instance : ℕ) (points : List PlacedInstance) → list_any (has_instance instance) points ≡ is_some (place_of instance points)
any_of_place instance points = sym (found_any instance points) ∙ sym (found_of (λ point. point.place) (find (has_instance instance) points))

-- one instance more, which none before it is
pub instances_next : (points : List PlacedInstance) (i : ℕ) (otherwise : PlacedInstance) → i < length points → differ (take i points) ≡ true → place_of (get_or points i otherwise).instance (take i points) ≡ None → differ (take (i + 1) points) ≡ true
instances_next points i otherwise lt so none =
    let point : PlacedInstance = get_or points i otherwise in
    let unmet : list_any (has_instance point.instance) (take i points) ≡ false = any_of_place point.instance (take i points) ∙ ap is_some none in
    differ_apart (take (i + 1) points) ∙ apart_next alike points i point otherwise lt refl (sym (differ_apart (take i points)) ∙ so) (any_alike (take i points) point ∙ unmet)

-- an instance that one before it is too
pub instances_end : (points : List PlacedInstance) (i : ℕ) (otherwise : PlacedInstance) (other : WordPlace) → i < length points → place_of (get_or points i otherwise).instance (take i points) ≡ Some other → differ points ≡ false
instances_end points i otherwise other lt some =
    let point : PlacedInstance = get_or points i otherwise in
    let met : list_any (has_instance point.instance) (take i points) ≡ true = any_of_place point.instance (take i points) ∙ ap is_some some in
    differ_apart points ∙ apart_ends alike points i point otherwise lt refl (any_alike (take i points) point ∙ met)
