-- Sessions that end one behind another.
use Rattle.std.proofs.Common.{◌≡◌, ℕ, ◌≤◌, Bool, true, List, [], ◌∷◌, refl, sym, ap, ◌∙◌, arith}
use Rattle.scanner_table.specs.declared.table.Session.{Session}
use Rattle.station.specs.declared.serving.Station.{Station}
use Rattle.station.specs.Ended.{Ends, with_ends}
use Rattle.station.specs.Rests.{Unstepped}
use Rattle.udp_runner.specs.Tape.{Tape}

-- the first of these sessions were ended, and these are left
pub record EndsSoFar {P C D W O E : Type 0} (scripted : Bool) (tape : P → Tape) (failed : P → ℕ) (sessions left : List Session) (old new : Station P C D W O E) : Type 0 where
  pub recorder : new.observer.recorder ≡ old.observer.recorder
  pub reset : new.observer.reset ≡ old.observer.reset
  pub device : new.device ≡ old.device
  pub clock : new.clock ≡ old.clock
  pub rises : failed old.port ≤ failed new.port
  pub sends : scripted ≡ true → failed new.port ≡ failed old.port → with_ends (tape new.port) left ≡ with_ends (tape old.port) sessions

-- none was ended yet
pub none_ended : {P C D W O E : Type 0} (scripted : Bool) (tape : P → Tape) (failed : P → ℕ) (sessions : List Session) (station : Station P C D W O E) → EndsSoFar scripted tape failed sessions sessions station station
none_ended scripted tape failed sessions station = record { recorder = refl; reset = refl; device = refl; clock = refl; rises = omega arith; sends = λ sc same. refl }

between : (one two three : ℕ) → one ≤ two → two ≤ three → three ≡ one → two ≡ one
between one two three less more same = omega (arith, less, more, same)

between-late : (one two three : ℕ) → one ≤ two → two ≤ three → three ≡ one → three ≡ two
between-late one two three less more same = omega (arith, less, more, same)

-- one more was ended
pub one_ended : {P C D W O E : Type 0} (scripted : Bool) (tape : P → Tape) (failed : P → ℕ) (sessions left rest : List Session) (session : Session) (old middle new : Station P C D W O E)
    → left ≡ session ∷ rest → EndsSoFar scripted tape failed sessions left old middle → Unstepped middle new → Ends scripted tape failed (session ∷ []) middle new → EndsSoFar scripted tape failed sessions rest old new
one_ended scripted tape failed sessions left rest session old middle new parts far rests ends = record {
  recorder = rests.recorder ∙ far.recorder;
  reset = rests.reset ∙ far.reset;
  device = rests.device ∙ far.device;
  clock = ends.clock ∙ far.clock;
  rises = omega (arith, far.rises, ends.rises);
  sends = λ sc same.
      let late = between-late (failed old.port) (failed middle.port) (failed new.port) far.rises ends.rises same in
      let early = between (failed old.port) (failed middle.port) (failed new.port) far.rises ends.rises same in
      ap (λ x. with_ends x rest) (ends.sends sc late) ∙ (ap (λ x. with_ends (tape middle.port) x) (sym parts) ∙ far.sends sc early);
}

-- all were ended
pub all_ended : {P C D W O E : Type 0} (scripted : Bool) (tape : P → Tape) (failed : P → ℕ) (sessions left : List Session) (old new : Station P C D W O E) → left ≡ [] → EndsSoFar scripted tape failed sessions left old new → Ends scripted tape failed sessions old new
all_ended scripted tape failed sessions left old new none far = record {
  sends = λ sc same. sym (ap (λ x. with_ends (tape new.port) x) none) ∙ far.sends sc same;
  rises = far.rises;
  clock = far.clock;
}

pub so_far : {P C D W O E : Type 0} (scripted : Bool) (tape : P → Tape) (failed : P → ℕ) (sessions left : List Session) (old new : Station P C D W O E) → EndsSoFar scripted tape failed sessions left old new → Unstepped old new
so_far scripted tape failed sessions left old new far = record { recorder = far.recorder; reset = far.reset; device = far.device }
