-- What a station's observer notes of each event of its device.
use Rattle.std.specs.Prelude.{◌≡◌, ◌||◌, ℕ, Bool, List, Option}
use Rattle.cip_events.specs.declared.event.Event.{Event}
use Rattle.cip_events.specs.Outcomes.{Outcome}
use Rattle.station.specs.declared.observer.StationObserver.{StationObserver}
use Rattle.station.specs.Resets.{grants_reset}
use Rattle.station_record.specs.Records.{Notes}
use Rattle.station_record.specs.declared.recorder.Recorder.{Recorder}

-- the record of a station, and whether a reset was granted
pub record Noted (W : Type 0) : Type 0 where
  pub recorder : Recorder W
  pub reset : Bool

abbrev pub noted : {W O E : Type 0} → StationObserver W O E → Noted W
noted observer = record { recorder = observer.recorder; reset = observer.reset }

-- An event with its outcome was noted: by the recorder, and a reset that it grants.
pub record NotesStep {W : Type 0} (contents : W → Option (List ℕ)) (old : Noted W) (event : Event) (outcome : Outcome) (new : Noted W) : Type 0 where
  pub records : Notes contents old.recorder event outcome new.recorder
  pub resets : new.reset ≡ (old.reset || grants_reset outcome)
