use Rattle.adapter_table.specs.Lemmas.ObjectSizes.{name_few}
use Rattle.adapter_replies.proofs.objects.identity.inquiry_reply.Goals as goal

pub station_of-requires : goal.station_of-requires
station_of-requires c = name_few c.args.assemblies.now.profile c.args.description.now c.profile.ensures.sound.faultless c.requires
