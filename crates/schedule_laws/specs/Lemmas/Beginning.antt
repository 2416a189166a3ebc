-- As a world opens nothing was produced; and the first pass.
use Rattle.std.proofs.Common.{◌≡◌, ℕ, zero, suc, List, [], ◌∷◌, map, slice_get, Some, Result, Ok, IfOk, refl, subst}
use Rattle.std.proofs.lemmas.Option.{same_Some}
use Rattle.cip_tables.specs.declared.table.Config.{Config}
use Rattle.cip_tables.specs.declared.table.DeviceTable.{DeviceTable}
use Rattle.cip_tables.specs.Step.{opening_table}
use Rattle.segment_world.specs.Configs.{opening_world}
use Rattle.segment_world.specs.declared.act.Act.{Act}
use Rattle.segment_world.specs.declared.act.ActFault.{ActFault}
use Rattle.schedule_laws.specs.Ids.{SchedulesKeepIdsDrawn, OpeningWorldsHaveIdsDrawn}
use Rattle.device_laws.specs.Made.{AnswersSendWhatIsMade}
use Rattle.schedule_laws.specs.Chronicle.{Chronicle, blank}
use Rattle.schedule_laws.specs.Order.{IsChronicle}
use Rattle.schedule_laws.specs.Indexes.{ProducedInOrder}
use Rattle.device_laws.specs.Lemmas.DeviceBooks.{DeviceBooks, device_begins}
use Rattle.device_laws.specs.Lemmas.ProductionRuns.{in_order}
use Rattle.schedule_laws.specs.Lemmas.ProducedActs.{Produced, produced_cases, cases_keep, chronicles_keep}

-- ---- a fresh device

all_opening : (configs : List Config) (n device : ℕ) (t : DeviceTable) → slice_get (map opening_table configs) n ≡ Some t → DeviceBooks [] device t
all_opening [] n device t at = absurd (let e = at in cc)
all_opening (made ∷ configs) zero device t at = subst (DeviceBooks [] device) (same_Some (opening_table made) t at) (device_begins device made)
all_opening (made ∷ configs) (suc n) device t at = all_opening configs n device t at

-- ---- the first pass, over a schedule

pub blank_produced : OpeningWorldsHaveIdsDrawn → (configs : List Config) (acts : List Act) (c : Chronicle) → IsChronicle configs acts c → Produced (blank (opening_world configs))
blank_produced opens configs acts c is = record {
  drawn = opens configs is.lives;
  books = λ device t at. all_opening configs device device t at;
  well = record { numbered = tt; agree = λ p q one two same at. absurd one };
  sent = refl;
}

pub schedule_produced : AnswersSendWhatIsMade → SchedulesKeepIdsDrawn → OpeningWorldsHaveIdsDrawn → (configs : List Config) (acts : List Act) (c : Chronicle) → IsChronicle configs acts c → Produced c
schedule_produced sends keep opens configs acts c is =
    subst (λ (r : Result Chronicle ActFault). IfOk r Produced) is.ran
    (chronicles_keep Produced (cases_keep Produced (produced_cases sends keep)) acts (Ok (blank (opening_world configs))) (blank_produced opens configs acts c is))

pub well_produced : AnswersSendWhatIsMade → SchedulesKeepIdsDrawn → OpeningWorldsHaveIdsDrawn → ProducedInOrder
well_produced sends keep opens configs acts c is =
    let ok = schedule_produced sends keep opens configs acts c is in
    record { sent = ok.sent; order = in_order c.produced ok.well }
