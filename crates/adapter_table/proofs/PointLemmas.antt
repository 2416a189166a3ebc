-- Points by their instances.
use Rattle.std.proofs.Common.{◌≡◌, ℕ, Bool, ◌||◌, List, [], ◌∷◌, ◌++◌, map, refl, ap, ◌∙◌}
use Rattle.std.specs.List.{list_any}
use Rattle.std.proofs.lemmas.List.Folds.{list_any-append}
use Rattle.adapter_table.specs.declared.profile.OutputPoint.{OutputPoint}
use Rattle.adapter_table.specs.declared.profile.InputPoint.{InputPoint}
use Rattle.adapter_table.specs.Profiles.{is_at, is_output_at, as_point}

-- an output is found as a point is
pub any_as_point : (instance : ℕ) (outputs : List OutputPoint) → list_any (is_at instance) (map as_point outputs) ≡ list_any (is_output_at instance) outputs
any_as_point instance [] = refl
any_as_point instance (output ∷ outputs) = ap (λ b. is_output_at instance output || b) (any_as_point instance outputs)

pub any_append : {X : Type 0} (p : X → Bool) (xs ys : List X) → list_any p (xs ++ ys) ≡ (list_any p xs || list_any p ys)
any_append p xs ys = list_any-append p xs ys

pub any_point : (instance : ℕ) (outputs : List OutputPoint) (inputs beside : List InputPoint) → list_any (is_at instance) (map as_point outputs ++ (inputs ++ beside)) ≡ (list_any (is_output_at instance) outputs || (list_any (is_at instance) inputs || list_any (is_at instance) beside))
any_point instance outputs inputs beside = any_append (is_at instance) (map as_point outputs) (inputs ++ beside) ∙ rw (any_as_point instance outputs, any_append (is_at instance) inputs beside) refl
