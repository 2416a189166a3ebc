-- Accepted indexes rise, from the opening world on.
use Rattle.std.proofs.Common.{◌≡◌, ℕ, zero, suc, List, [], ◌∷◌, map, slice_get, Some, None, Result, Ok, IfOk, refl, sym, subst}
use Rattle.std.proofs.lemmas.Option.{same_Some}
use Rattle.scanner_table.specs.declared.profile.ScannerProfile.{ScannerProfile}
use Rattle.scanner_table.specs.Step.{scanner_table}
use Rattle.device_laws.specs.Newest as slots
use Rattle.cip_tables.specs.declared.table.Config.{Config}
use Rattle.cip_tables.specs.declared.table.Config.TheVariants as config
use Rattle.cip_tables.specs.declared.table.DeviceTable.{DeviceTable}
use Rattle.cip_tables.specs.Step.{opening_table}
use Rattle.segment_world.specs.Configs.{opening_world}
use Rattle.segment_world.specs.declared.act.Act.{Act}
use Rattle.segment_world.specs.declared.act.ActFault.{ActFault}
use Rattle.schedule_laws.specs.Ids.{SchedulesKeepIdsDrawn, OpeningWorldsHaveIdsDrawn}
use Rattle.device_laws.specs.Made.{AnswersSendWhatIsMade}
use Rattle.schedule_laws.specs.Chronicle.{Chronicle, blank}
use Rattle.schedule_laws.specs.Order.{IsChronicle, KeepsHalfCircle}
use Rattle.scanner_table.specs.Lemmas.SlotLookups.{slot_is}
use Rattle.scanner_table.specs.Lemmas.FreshSlots.{fresh_idle}
use Rattle.schedule_laws.specs.Lemmas.ProducedActs.{Produced, produced_cases, cases_keep, act_keeps}
use Rattle.schedule_laws.specs.Lemmas.Beginning.{blank_produced}
use Rattle.schedule_laws.specs.Lemmas.NewestSteps.{DeviceTakes, AcceptLaws}
use Rattle.schedule_laws.specs.Lemmas.NewestActs.{TakenIn, near_keep, taken_cases}

fresh_takes : (device : ℕ) (profile : ScannerProfile) (k r : ℕ) → slots.TableRemembers k r None (scanner_table profile)
fresh_takes device profile k r = record {
  there = λ place is. let at = slot_is (scanner_table profile) k place is in subst (slots.StateRemembers r None) (sym (fresh_idle profile.slots place.number place.slot at.stands.slot)) tt;
  unopened = λ up. refl;
}

opening_takes : (device : ℕ) (made : Config) → DeviceTakes [] device (opening_table made)
opening_takes device (config.Adapter profile) = λ n. record { there = tt; unopened = λ up. refl }
opening_takes device (config.Scanner profile) = fresh_takes device profile

all_opening : (configs : List Config) (n device : ℕ) (t : DeviceTable) → slice_get (map opening_table configs) n ≡ Some t → DeviceTakes [] device t
all_opening [] n device t at = absurd (let e = at in cc)
all_opening (made ∷ configs) zero device t at = subst (DeviceTakes [] device) (same_Some (opening_table made) t at) (opening_takes device made)
all_opening (made ∷ configs) (suc n) device t at = all_opening configs n device t at

pub schedule_taken : AnswersSendWhatIsMade → SchedulesKeepIdsDrawn → OpeningWorldsHaveIdsDrawn → AcceptLaws → (configs : List Config) (acts : List Act) (c : Chronicle) → IsChronicle configs acts c → KeepsHalfCircle configs acts → TakenIn c
schedule_taken sends keep opens laws configs acts c is half =
    subst (λ (r : Result Chronicle ActFault). IfOk r TakenIn) is.ran
    (near_keep (Produced) TakenIn (λ so_far act holds. act_keeps (Produced) (cases_keep (Produced) (produced_cases sends keep)) so_far act holds) (taken_cases laws) acts (Ok (blank (opening_world configs))) half
    (blank_produced opens configs acts c is)
    (record { takes = λ device t at. all_opening configs device device t at; known = tt; rise = tt }))
