use Rattle.std.proofs.Common.{◌≡◌, IfOk, subst}
use Rattle.adapter_table.specs.Limits.{few_inputs}
use Rattle.adapter_table.specs.Objects.{addresses, groups}
use Rattle.adapter_table.specs.declared.profile.Profile.{Profile}
use Rattle.adapter_replies.specs.Objects.Views.{interface_by, requested, view_answer}
use Rattle.adapter_replies.proofs.objects.network.interface_answer.Goals as goal

pub profile_interface-requires : goal.profile_interface-requires
profile_interface-requires c = rw c.profile-profile.ensures.value (few_inputs c.args.assemblies.now.profile c.profile-profile.ensures.sound.faultless)

pub returns : goal.returns
returns c =
    subst (λ (p : Profile). IfOk c.profile_interface.result (λ answer. view_answer answer ≡ requested c.args.owned c.args.request (interface_by (addresses p) (groups p) c.args.description.now.inactivity)))
    c.profile-profile.ensures.value c.profile_interface.ensures
