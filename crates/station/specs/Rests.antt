-- What a station did without an event of its device.
use Rattle.std.specs.Prelude.{◌≡◌, ℕ, Bool, true}
use Rattle.station.specs.declared.serving.Station.{Station}
use Rattle.udp_runner.specs.Tape.{Tape}

-- The device took no event, and the recorder noted none. The port may have sent.
pub record Unstepped {P C D W O E : Type 0} (old new : Station P C D W O E) : Type 0 where
  pub recorder : new.observer.recorder ≡ old.observer.recorder
  pub reset : new.observer.reset ≡ old.observer.reset
  pub device : new.device ≡ old.device

-- Neither the device nor the recorder, nor whether a reset was granted, nor the clock, nor what is known of the port changed.
pub record Rests {P C D W O E : Type 0} (scripted : Bool) (tape : P → Tape) (failed : P → ℕ) (old new : Station P C D W O E) : Type 0 where
  pub recorder : new.observer.recorder ≡ old.observer.recorder
  pub reset : new.observer.reset ≡ old.observer.reset
  pub device : new.device ≡ old.device
  pub clock : new.clock ≡ old.clock
  pub kept : scripted ≡ true → tape new.port ≡ tape old.port
  pub worked : failed new.port ≡ failed old.port
