-- How far ahead of the newest accepted number another one can be, where a limit on it is stated. The window grows with the
-- time since the newest accepted datagram, since each datagram that is lost meanwhile has used up a number
-- (Volume 1, chapter 3, class 1 transport and inactivity watchdog; Volume 2, chapter 2, sequenced address item).
use Rattle.std.specs.Prelude.{ℕ, ◌≡◌, ◌≤◌, ◌+◌, ◌-◌, ◌*◌, ◌/◌, ◌==◌, ◌&&◌, nat_lt, Bool, true, if◌then◌else◌, Option, Some, None}
use Rattle.cip_types.specs.declared.names.Ms.{Ms}
use Rattle.cip_types.specs.Circle.{distance}
use Rattle.cip_netparams.specs.declared.Trigger.{Trigger}
use Rattle.cip_netparams.specs.declared.Trigger.TheVariants.{Cyclic, ChangeOfState}
use Rattle.cip_productions.specs.declared.acceptance.Accepted.{Accepted}
use Rattle.cip_productions.specs.Acceptance.{accepts_sequence}

-- the least milliseconds between two datagrams of a producer: its packet interval if it is cyclic, its production inhibit
-- time if it also produces at changes of state
abbrev pub pace_of : Trigger → (api inhibit : ℕ) → ℕ
pace_of Cyclic api inhibit = api
pace_of ChangeOfState api inhibit = inhibit

-- the milliseconds since a connection accepted its newest datagram, which set the deadline to its time plus the time-out
abbrev pub since_accepted : Ms → Ms → Ms → ℕ
since_accepted clock watchdog deadline = clock.0 - (deadline.0 - watchdog.0)

-- how many whole intervals have passed; none of a producer without an interval
abbrev pub intervals_in : ℕ → ℕ → ℕ
intervals_in since interval = if interval == 0 then 0 else since / interval

-- a number that is so far ahead is near: it is within the limit, which is larger by two for each interval that has passed
abbrev pub is_near : (within since interval ahead : ℕ) → Bool
is_near within since interval ahead = nat_lt ahead (within + 2 * intervals_in since interval)

-- the number is near the last accepted one, if there is one and a limit
abbrev pub is_within : Option ℕ → (since interval : ℕ) → Option Accepted → ℕ → Bool
is_within None since interval last number = true
is_within (Some within) since interval None number = true
is_within (Some within) since interval (Some last) number = is_near within since interval (distance number last.number)

-- the number is accepted: it is newer than the last accepted one, and near it
abbrev pub accepts_number : Option ℕ → (since interval : ℕ) → Option Accepted → ℕ → Bool
accepts_number within since interval last number = accepts_sequence last number && is_within within since interval last number

-- A producer that uses up at most one number in each interval, and one more, is never too far ahead for a limit of 2 or
-- more, however many of its datagrams in a row are lost.
abbrev pub SteadyNumbersAreNear : Type 0
SteadyNumbersAreNear =
    (within since interval ahead : ℕ) → 2 ≤ within → ahead ≤ intervals_in since interval + 1 → is_near within since interval ahead ≡ true
