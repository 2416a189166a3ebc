use Rattle.scanner.proofs.slots.ScannerSlots.renew.Goals as goal

pub returns : goal.returns
returns g c = c.bounds_are_kept_by_earlier_ones.ensures _ _ _ c.set_bounds.ensures c.bounds_of.ensures
