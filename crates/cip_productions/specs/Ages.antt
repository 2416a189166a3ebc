-- How long a connection has accepted no datagram (Volume 1, chapter 3, inactivity watchdog).
use Rattle.std.specs.Prelude.{◌+◌, ◌-◌, Option, Some, None}
use Rattle.cip_types.specs.declared.names.Ms.{Ms}
use Rattle.cip_productions.specs.declared.acceptance.Accepted.{Accepted}
use Rattle.cip_productions.specs.declared.age.Age.{Age}
use Rattle.cip_productions.specs.declared.age.Age.TheVariants.{SinceOpening, SinceAccepted}
use Rattle.cip_productions.specs.Watchdog.{first_deadline}

-- An accepted datagram sets the deadline to its time plus the time-out, and the opening sets it to its time plus the
-- first time-out. So that time is the deadline less the time-out.
abbrev pub age_of : Ms → Option Accepted → Ms → Ms → Age
age_of clock None watchdog deadline = SinceOpening (record { 0 = (first_deadline clock watchdog.0).0 - deadline.0 })
age_of clock (Some last) watchdog deadline = SinceAccepted (record { 0 = clock.0 + watchdog.0 - deadline.0 })
