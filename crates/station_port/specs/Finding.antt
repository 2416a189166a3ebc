-- How long a station's port may wait, if inquiries wait. Times are in milliseconds.
use Rattle.std.specs.Prelude.{ℕ, Option, Some, None}
use Rattle.station_port.specs.Inquiries.Holds.{inquiry_wait}
use Rattle.station_port.specs.declared.finder.Finder.{Finder}

-- until the first inquiry is due, at most so long; a port without sockets of inquiries holds none
abbrev pub finder_wait : Option Finder → ℕ → ℕ → ℕ
finder_wait None now most = most
finder_wait (Some finder) now most = inquiry_wait now most finder.gate.hold.waiting
