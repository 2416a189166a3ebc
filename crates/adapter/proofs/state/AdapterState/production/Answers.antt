use Rattle.adapter_table.specs.Limits.{few_inputs}
use Rattle.adapter.proofs.state.AdapterState.production.Goals as goal

pub address_of-address-requires : goal.address_of-address-requires
address_of-address-requires g c = rw c.profile.ensures.value (few_inputs c.self.inside.assemblies.profile c.profile.ensures.sound.faultless)
