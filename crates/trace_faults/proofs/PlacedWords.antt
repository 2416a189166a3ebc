-- Each instance of an adapter's points is in the word of its place.
use Rattle.std.proofs.Common.{◌≡◌, ◌+◌, ◌<◌, List, [], ◌∷◌, ◌++◌, length, decimal, refl, sym, ◌∙◌, ap, append_assoc, length-append, arith, Option, Some, None, IfSome}
use Rattle.std.specs.List.{slice_get, All}
use Rattle.std.proofs.Math.Seq.{get_or-append_seam}
use Rattle.std.proofs.lemmas.List.{length_push}
use Rattle.std.proofs.lemmas.List.Elements.{All-nil, All-cons, All-append, All-same, All-contains}
use Rattle.std.proofs.lemmas.Option.{slice_get-get_or}
use Rattle.adapter_table.specs.declared.profile.OutputPoint.{OutputPoint}
use Rattle.adapter_table.specs.declared.profile.InputPoint.{InputPoint}
use Rattle.adapter_table.specs.declared.profile.Profile.{Profile}
use Rattle.trace_faults.specs.declared.profile_faults.defects.LineName.TheVariants.{Output, Input, Config, Heartbeat}
use Rattle.trace_faults.specs.declared.profile_faults.defects.ProfileReason.{ProfileReason}
use Rattle.trace_faults.specs.declared.profile_faults.instances.PlacedInstance.{PlacedInstance}
use Rattle.trace_faults.specs.ProfileFaults.Instances.{placed, placed_outputs, placed_inputs, placed_config, placed_heartbeats, placed_points, IsOf}
use Rattle.trace_faults.specs.ProfileFaults.Named.{adapter_line, word_at, NamesWord}

abbrev AtItsWord : Profile → PlacedInstance → Type 0
AtItsWord profile point = word_at (adapter_line profile point.place.line point.place.index) point.place.word ≡ decimal point.instance

at_seam : {A : Type 0} (before : List A) (item : A) (after : List A) → slice_get (before ++ item ∷ after) (length before) ≡ Some item
at_seam before item after =
    let lt : length before < length (before ++ item ∷ after) = omega (arith, length-append before (item ∷ after)) in
    slice_get-get_or (before ++ item ∷ after) (length before) item lt ∙ ap Some (get_or-append_seam before item after item)

outputs_at : (profile : Profile) (before after : List OutputPoint) → profile.outputs ≡ before ++ after → All (AtItsWord profile) (placed_outputs (length before) after)
outputs_at profile before [] is = All-nil (AtItsWord profile)
outputs_at profile before (output ∷ after) is =
    let here : slice_get profile.outputs (length before) ≡ Some output = ap (λ all. slice_get all (length before)) is ∙ at_seam before output after in
    let rest : All (AtItsWord profile) (placed_outputs (length (before ++ output ∷ [])) after) = outputs_at profile (before ++ output ∷ []) after (is ∙ sym (append_assoc before (output ∷ []) after)) in
    All-cons (AtItsWord profile) (placed output.instance Output (length before) 2) (placed_outputs (length before + 1) after) (rw here refl) (rw length_push at rest)

inputs_at : (profile : Profile) (before after : List InputPoint) → profile.inputs ≡ before ++ after → All (AtItsWord profile) (placed_inputs (length before) after)
inputs_at profile before [] is = All-nil (AtItsWord profile)
inputs_at profile before (input ∷ after) is =
    let here : slice_get profile.inputs (length before) ≡ Some input = ap (λ all. slice_get all (length before)) is ∙ at_seam before input after in
    let rest : All (AtItsWord profile) (placed_inputs (length (before ++ input ∷ [])) after) = inputs_at profile (before ++ input ∷ []) after (is ∙ sym (append_assoc before (input ∷ []) after)) in
    All-cons (AtItsWord profile) (placed input.instance Input (length before) 2) (placed_inputs (length before + 1) after) (rw here refl) (rw length_push at rest)

config_at : (profile : Profile) (config : Option InputPoint) → profile.config ≡ config → All (AtItsWord profile) (placed_config config)
config_at profile None is = All-nil (AtItsWord profile)
config_at profile (Some point) is = All-cons (AtItsWord profile) (placed point.instance Config 0 2) [] (rw is refl) (All-nil (AtItsWord profile))

heartbeats_at : (profile : Profile) → All (AtItsWord profile) (placed_heartbeats profile)
heartbeats_at profile =
    All-cons (AtItsWord profile) (placed profile.input_only Heartbeat 0 2) (placed profile.listen_only Heartbeat 0 3 ∷ []) refl
    (All-cons (AtItsWord profile) (placed profile.listen_only Heartbeat 0 3) [] refl (All-nil (AtItsWord profile)))

points_at : (profile : Profile) → All (AtItsWord profile) (placed_points profile)
points_at profile =
    let beside : All (AtItsWord profile) (placed_config profile.config ++ placed_heartbeats profile) = All-append (AtItsWord profile) (placed_config profile.config) (placed_heartbeats profile) (config_at profile profile.config refl) (heartbeats_at profile) in
    let behind : All (AtItsWord profile) (placed_inputs 0 profile.inputs ++ (placed_config profile.config ++ placed_heartbeats profile)) = All-append (AtItsWord profile) (placed_inputs 0 profile.inputs) (placed_config profile.config ++ placed_heartbeats profile) (inputs_at profile [] profile.inputs refl) beside in
    All-append (AtItsWord profile) (placed_outputs 0 profile.outputs) (placed_inputs 0 profile.inputs ++ (placed_config profile.config ++ placed_heartbeats profile)) (outputs_at profile [] profile.outputs refl) behind

instance_at : (profile : Profile) (points : List PlacedInstance) → points ≡ placed_points profile → (reason : ProfileReason) → IsOf points reason → NamesWord profile reason
instance_at profile points are reason met =
    rw met.1.1.0 (All-contains (AtItsWord profile) points (record { instance = met.1.0; place = reason.place }) (All-same (AtItsWord profile) points (placed_points profile) are (points_at profile)) met.1.1.1)

-- a reason of one of the points names its word
pub instances_named : (profile : Profile) (points : List PlacedInstance) → points ≡ placed_points profile → (found : Option ProfileReason) → IfSome found (IsOf points) → IfSome found (NamesWord profile)
instances_named profile points are None is = tt
instances_named profile points are (Some reason) is = instance_at profile points are reason is
