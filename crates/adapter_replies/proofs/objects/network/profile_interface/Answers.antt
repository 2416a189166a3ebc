use Rattle.adapter_replies.proofs.objects.network.profile_interface.Goals as goal

pub returns : goal.returns
returns c = rw (c.first_group-first.ensures, c.as_slice-count.ensures) at c.interface_of.ensures
