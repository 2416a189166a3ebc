-- How the sessions of a station's device end.
use Rattle.std.specs.Prelude.{◌≡◌, ℕ, ◌≤◌, Bool, true, List, [], ◌∷◌}
use Rattle.cip_tables.specs.declared.table.DeviceTable.{DeviceTable}
use Rattle.scanner_table.specs.declared.table.Session.{Session}
use Rattle.station.specs.declared.serving.Station.{Station}
use Rattle.station.specs.Sessions.{ends_of, sessions_of}
use Rattle.udp_runner.specs.Tape.{Tape, with_sent}

-- the tape after these sessions were ended, one behind the other
abbrev pub with_ends : Tape → List Session → Tape
with_ends tape [] = tape
with_ends tape (session ∷ sessions) = with_ends (with_sent tape (ends_of (session ∷ []))) sessions

-- These sessions were ended: unless the port counted a failure meanwhile, the message that ends it went over the stream of
-- each, and then the end of the stream. Nothing else was sent, and nothing received.
pub record Ends {P C D W O E : Type 0} (scripted : Bool) (tape : P → Tape) (failed : P → ℕ) (sessions : List Session) (old new : Station P C D W O E) : Type 0 where
  pub sends : scripted ≡ true → failed new.port ≡ failed old.port → tape new.port ≡ with_ends (tape old.port) sessions
  pub rises : failed old.port ≤ failed new.port
  pub clock : new.clock ≡ old.clock

-- the sessions of the device were ended
abbrev pub Ended : {P C D W O E : Type 0} (scripted : Bool) (tape : P → Tape) (failed : P → ℕ) (table : D → DeviceTable) (old new : Station P C D W O E) → Type 0
Ended scripted tape failed table old new = Ends scripted tape failed (sessions_of (table old.device)) old new
