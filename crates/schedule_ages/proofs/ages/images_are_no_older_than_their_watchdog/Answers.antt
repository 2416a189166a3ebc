use Rattle.std.specs.Prelude.{◌⊎◌}
use Rattle.freshness_laws.specs.InTime.{first_timeout}
use Rattle.freshness_laws.specs.Images.{HoldsNewest, HoldsNoData, AcceptedWithin, OpenedWithin}
use Rattle.schedule_ages.proofs.Lifting.{of_slots}
use Rattle.schedule_ages.proofs.ages.images_are_no_older_than_their_watchdog.Goals as goal

pub returns-clause-newest : goal.returns-clause-newest
returns-clause-newest c = of_slots (λ old events now d. HoldsNewest now.number d.opening old events now.slot.image ⊎ HoldsNoData now.number d.opening old events now.config.in_len now.slot.image) c.images_hold_newest_data.ensures

pub returns-clause-accept : goal.returns-clause-accept
returns-clause-accept c = of_slots (λ old events now d. AcceptedWithin now.number d.opening d.watchdog.0 old events ⊎ OpenedWithin now.number d.opening (first_timeout d.watchdog.0) old events) c.slots_accept_in_time.ensures
