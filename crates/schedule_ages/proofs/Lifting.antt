-- The events of a device in a schedule are a run of that device, so the laws of one device hold of it.
use Rattle.std.proofs.Common.{◌≡◌, ℕ, zero, suc, Bool, List, [], ◌∷◌, map, slice_get, Some, None, sym, ◌∙◌, ap, subst}
use Rattle.std.proofs.lemmas.Option.{same_Some}
use Rattle.cip_events.specs.declared.event.Event.{Event}
use Rattle.cip_events.specs.Outcomes.{Outcome}
use Rattle.adapter_table.specs.declared.profile.OutputPoint.{OutputPoint}
use Rattle.adapter_table.specs.declared.table.AdapterTable.{AdapterTable}
use Rattle.scanner_table.specs.declared.slot.SlotConnection.{SlotConnection}
use Rattle.scanner_table.specs.declared.table.ScannerTable.{ScannerTable}
use Rattle.scanner_table.specs.Slots.{IndexedSlot}
use Rattle.cip_tables.specs.declared.table.Config.{Config}
use Rattle.cip_tables.specs.declared.table.Config.TheVariants as config
use Rattle.cip_tables.specs.declared.table.DeviceTable.{DeviceTable}
use Rattle.cip_tables.specs.declared.table.DeviceTable.TheVariants.{Adapter, Scanner}
use Rattle.cip_tables.specs.Run.{Runs, performed}
use Rattle.cip_tables.specs.Step.{opening_table, config_fault}
use Rattle.segment_world.specs.Configs.{opening_world}
use Rattle.segment_world.specs.Story.{events_of}
use Rattle.schedule_laws.specs.Stories.{led_to}
use Rattle.schedule_laws.specs.Lemmas.Reporting.{outcomes_of, is_run, is_performed, story_leads}
use Rattle.freshness_laws.specs.InTime as one
use Rattle.freshness_laws.specs.Outputs as one_outputs
use Rattle.freshness_laws.specs.Images as one_images
use Rattle.schedule_ages.specs.Ages.{OfDevices, AcceptInTime, OfOutputs, OfSlots, ConnectionsAcceptInTime}

opened_there : (configs : List Config) (device : ℕ) (made : Config) → slice_get configs device ≡ Some made → slice_get (map opening_table configs) device ≡ Some (opening_table made)
opened_there [] device made at = absurd (let e = at in cc)
opened_there (first ∷ configs) zero made at = ap (λ (x : Config). Some (opening_table x)) (same_Some first made at)
opened_there (first ∷ configs) (suc device) made at = opened_there configs device made at

-- a law of each run from a fresh device without a fault
abbrev OfRuns : (DeviceTable → List Event → DeviceTable → Type 0) → Type 0
OfRuns Holds =
    (made : Config) (events : List Event) (outcomes : List Outcome) (now : DeviceTable) → config_fault made ≡ None →
    Runs (opening_table made) events outcomes now → Holds (opening_table made) (performed events outcomes) now

lifted : (Holds : DeviceTable → List Event → DeviceTable → Type 0) → OfRuns Holds → OfDevices Holds
lifted Holds law configs acts story device made now ran at none there =
    let start = opening_table made in
    let leads = story_leads (opening_world configs) acts story device start ran (opened_there configs device made at) in
    let same : led_to start device story.reported ≡ now = same_Some (led_to start device story.reported) now (sym leads.now ∙ there) in
    let run = is_run start device story.reported leads.reports in
    subst (λ (events : List Event). Holds start events now) (is_performed device story.reported)
    (law made (events_of device story.reported) (outcomes_of device story.reported) now none
    (subst (Runs start (events_of device story.reported) (outcomes_of device story.reported)) same run))

pub accept_in_time : one.ConnectionsAcceptInTime → ConnectionsAcceptInTime
accept_in_time law = lifted AcceptInTime of_runs where
  of_runs : OfRuns AcceptInTime
  of_runs made events outcomes (Adapter t) none ran = law made events outcomes t none ran
  of_runs made events outcomes (Scanner t) none ran = tt

pub of_outputs : (running : Bool) (Holds : OutputPoint → DeviceTable → List Event → AdapterTable → Type 0) → one_outputs.OfOutputs running Holds → OfDevices (OfOutputs running Holds)
of_outputs running Holds law = lifted (OfOutputs running Holds) of_runs where
  of_runs : OfRuns (OfOutputs running Holds)
  of_runs made events outcomes (Adapter t) none ran = λ output found is. law made events outcomes t output none ran found is
  of_runs made events outcomes (Scanner t) none ran = tt

pub of_slots : (Holds : ScannerTable → List Event → IndexedSlot → SlotConnection → Type 0) → one_images.OfEstablishedSlots Holds → OfDevices (OfSlots Holds)
of_slots Holds law = lifted (OfSlots Holds) of_runs where
  of_runs : OfRuns (OfSlots Holds)
  of_runs (config.Scanner profile) events outcomes (Scanner t) none ran = λ number now c at is. law profile t events outcomes none ran number now c at is
  of_runs (config.Scanner profile) events outcomes (Adapter t) none ran = tt
  of_runs (config.Adapter profile) events outcomes now none ran = tt
