use Rattle.adapter.proofs.state.AdapterState.new.Goals as goal

pub invariant_of-result : goal.invariant_of-result
invariant_of-result g c = rw (c.in_ok-assemblies.ensures, c.in_ok-new.ensures, c.in_ok-one_block.ensures, c.first_ids.ensures, c.new-3.ensures.items, c.new-4.ensures, c.first_request.ensures, c.new-5.ensures.items, c.new-6.ensures) (c.tables_are_whole.ensures.fresh c.args.profile.now c.requires)
