-- Which sockets of a station may have something.
use Rattle.std.specs.Prelude.{ℕ, ◌==◌, ◌&&◌, ◌||◌, not, if◌then◌else◌, Bool, true, false, Option, Some, None}
use Rattle.std.specs.declared.io.ErrorKind.{ErrorKind}
use Rattle.std.specs.declared.io.ErrorKind.TheVariants.{WouldBlock}
use Rattle.station_port.specs.declared.streams.ready.Ready.{Ready}

-- every socket may have something
abbrev pub all_ready : Ready
all_ready = record { listener = true; datagrams = true; streams = true; openings = true; finder = true; refused = false; reported = false }

-- one of them may
abbrev pub any_ready : Ready → Bool
any_ready ready = ready.listener || (ready.datagrams || (ready.streams || (ready.openings || ready.finder)))

-- a poll asks the system if the round is over, or no socket may have something; but not if the wait before it did
abbrev pub asks_system : Bool → Ready → Bool
asks_system over ready = not ready.reported && (over || not (any_ready ready))

-- the system was asked: a listener whose connection could not be accepted may have it still
abbrev pub with_refused : Ready → Ready
with_refused ready = record ready { listener = ready.listener || ready.refused; refused = false }

-- An accept gave a connection, or failed with an error: one that would have to wait has emptied the listener, and any other
-- one, as where no file is left, has the listener asked again later.
abbrev pub after_accept : Ready → Option ErrorKind → Ready
after_accept ready None = record ready { listener = true }
after_accept ready (Some WouldBlock) = record ready { listener = false }
after_accept ready (Some kind) = record ready { listener = false; refused = true }

-- The sockets of a token were reported: 0 is the listener, 1 that of datagrams, 2 the open streams, 3 those that are being
-- opened, 4 those of inquiries. Another token marks nothing.
abbrev pub marked : Ready → ℕ → Ready
marked ready token =
    if token == 0 then record ready { listener = true }
    else (if token == 1 then record ready { datagrams = true }
    else (if token == 2 then record ready { streams = true }
    else (if token == 3 then record ready { openings = true }
    else (if token == 4 then record ready { finder = true }
    else ready))))
