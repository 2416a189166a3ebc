use Rattle.cip_types.proofs.items.Items.copy_of.Goals as goal

pub returns : goal.returns
returns g c = c.in_ok-from_slice.ensures.items
