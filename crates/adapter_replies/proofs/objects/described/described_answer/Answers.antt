use Rattle.adapter_table.specs.Lemmas.ObjectSizes.{name_few, objects_few}
use Rattle.adapter_replies.proofs.objects.described.described_answer.Goals as goal

pub answer_of-requires-clause-objects : goal.answer_of-requires-clause-objects
answer_of-requires-clause-objects c = objects_few c.args.assemblies.now.profile c.profile-profile.ensures.sound.faultless

pub answer_of-requires-clause-name : goal.answer_of-requires-clause-name
answer_of-requires-clause-name c = name_few c.args.assemblies.now.profile c.args.description.now c.profile-profile.ensures.sound.faultless c.requires
