use Rattle.adapter_table.specs.Lemmas.EffectLemmas.{adapter_keeps}
use Rattle.adapter_table.proofs.StepLemmas.{sound_effects, sound_fresh}
use Rattle.adapter_table.specs.Sound.{IsSound}
use Rattle.adapter_table.proofs.laws.tables_are_sound.Goals as goal

pub returns : goal.returns
returns c = record { fresh = sound_fresh; steps = λ t event next is sound. adapter_keeps IsSound sound_effects t event next is sound }
