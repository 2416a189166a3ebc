-- What a slot's output holds is what its application last wrote there, in every schedule.
use Rattle.std.proofs.Common.{◌≡◌, ℕ, zero, suc, List, [], ◌∷◌, map, replicate, slice_get, unwrap_or, Some, sym, ◌∙◌, subst}
use Rattle.std.proofs.lemmas.Option.{same_Some}
use Rattle.device_laws.specs.Lemmas.Folds.{scanner_is, fold_of}
use Rattle.cip_events.specs.declared.event.Event.{Event}
use Rattle.scanner_table.specs.declared.profile.ScannerProfile.{ScannerProfile}
use Rattle.scanner_table.specs.declared.table.ScannerTable.{ScannerTable}
use Rattle.scanner_table.specs.Slots.{IndexedSlot, slot_at}
use Rattle.scanner_table.specs.Step.{scanner_table}
use Rattle.scanner_table.specs.Runs.{table_after as scanner_after}
use Rattle.device_laws.specs.Scratch.{last_output, FreshBytesAreFromScratch}
use Rattle.cip_tables.specs.declared.table.Config.{Config}
use Rattle.cip_tables.specs.declared.table.Config.TheVariants as config
use Rattle.cip_tables.specs.declared.table.DeviceTable.TheVariants.{Scanner}
use Rattle.cip_tables.specs.Run.{table_after}
use Rattle.cip_tables.specs.Step.{opening_table}
use Rattle.segment_world.specs.Configs.{opening_world}
use Rattle.segment_world.specs.Story.{events_of, ProjectionsAreRuns}
use Rattle.schedule_laws.specs.Order.{ProducedAsWritten}
use Rattle.schedule_laws.specs.Lemmas.Stories.{story_runs}

-- ---- a scanner's run

-- a scanner of the opening world is a fresh one
pub record IsFresh (first : ScannerTable) : Type 0 where
  pub profile : ScannerProfile
  pub is : first ≡ scanner_table profile

made_fresh : (made : Config) (first : ScannerTable) → opening_table made ≡ Scanner first → IsFresh first
made_fresh (config.Adapter profile) first is = absurd (let e = is in cc)
made_fresh (config.Scanner profile) first is = record { profile = profile; is = sym (scanner_is (scanner_table profile) first is) }

opens_fresh : (configs : List Config) (device : ℕ) (first : ScannerTable) → slice_get (map opening_table configs) device ≡ Some (Scanner first) → IsFresh first
opens_fresh [] device first at = absurd (let e = at in cc)
opens_fresh (made ∷ configs) zero first at = made_fresh made first (same_Some (opening_table made) (Scanner first) at)
opens_fresh (made ∷ configs) (suc device) first at = opens_fresh configs device first at

written_of : FreshBytesAreFromScratch → (profile : ScannerProfile) (events : List Event) (now : ScannerTable) (place : IndexedSlot) → scanner_after (scanner_table profile) events ≡ now → slot_at now place.number ≡ Some place → place.slot.output ≡ unwrap_or (last_output place.number (scanner_table profile) events) (replicate place.config.out_len 0)
written_of fresh profile events now place is at = (fresh profile events place.number place (subst (λ (t : ScannerTable). slot_at t place.number ≡ Some place) (sym is) at)).1

pub as_written : ProjectionsAreRuns → FreshBytesAreFromScratch → ProducedAsWritten
as_written projections fresh configs acts c is device first now place opened there at =
    let events = events_of device c.story.reported in
    let ran : slice_get c.story.world.tables device ≡ Some (table_after (Scanner first) events) = projections (opening_world configs) acts c.story device (Scanner first) (story_runs configs acts c is) opened in
    let f = opens_fresh configs device first opened in
    let table : scanner_after first events ≡ now = scanner_is (scanner_after first events) now (sym (fold_of first events) ∙ same_Some (table_after (Scanner first) events) (Scanner now) (sym ran ∙ there)) in
    subst (λ (t : ScannerTable). place.slot.output ≡ unwrap_or (last_output place.number t events) (replicate place.config.out_len 0)) (sym f.is)
    (written_of fresh f.profile events now place (subst (λ (t : ScannerTable). scanner_after t events ≡ now) f.is table) at)
