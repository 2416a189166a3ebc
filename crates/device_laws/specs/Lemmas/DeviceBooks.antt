-- What a device of either kind and the list of productions say of one another. Other devices' productions leave it, and a
-- fresh device has it.
use Rattle.std.proofs.Common.{◌≡◌, ◌≢◌, ℕ, Bool, true, false, ◌++◌, List, [], ◌∷◌, sym, ap, subst}
use Rattle.std.specs.List.{AllByRecursion}
use Rattle.cip_productions.specs.declared.production.Production as cip
use Rattle.adapter_table.specs.Connections.{Row}
use Rattle.adapter_table.specs.declared.row.State.{State}
use Rattle.adapter_table.specs.declared.row.State.TheVariants as row_state
use Rattle.scanner_table.specs.declared.profile.ScannerProfile.{ScannerProfile}
use Rattle.scanner_table.specs.declared.profile.SlotConfig.{SlotConfig}
use Rattle.scanner_table.specs.declared.slot.Slot.{Slot}
use Rattle.scanner_table.specs.declared.slot.SlotState.{SlotState}
use Rattle.scanner_table.specs.declared.slot.SlotState.TheVariants.{Idle, Opening, Established, TimedOut, Closing}
use Rattle.scanner_table.specs.Step.{scanner_table}
use Rattle.cip_tables.specs.declared.table.Config.{Config}
use Rattle.cip_tables.specs.declared.table.Config.TheVariants as config
use Rattle.cip_tables.specs.declared.table.DeviceTable.{DeviceTable}
use Rattle.cip_tables.specs.declared.table.DeviceTable.TheVariants.{Adapter, Scanner}
use Rattle.cip_tables.specs.Step.{opening_table}
use Rattle.device_laws.specs.Made.{Made}
use Rattle.device_laws.specs.Productions.{End, end_at, Production, numbered, produced_more}
use Rattle.device_laws.specs.Lemmas.Books.{HasNotProduced, ProducerBooks, WellMade, books_other, unproduced_more}
use Rattle.device_laws.specs.Lemmas.ScannerBooks.{StateBooks, ScannerBooks, opening_in, output_data}
use Rattle.device_laws.specs.Lemmas.AdapterBooks.{RowStateBooks, RowBooks, AdapterBooks, input_value}
use Rattle.scanner_table.specs.Lemmas.FreshSlots.{fresh_idle}

abbrev pub DeviceBooks : List Production → ℕ → DeviceTable → Type 0
DeviceBooks sent device (Adapter t) = AdapterBooks sent device t
DeviceBooks sent device (Scanner t) = ScannerBooks sent device t

pub record DeviceAgrees (sent : List Production) (device : ℕ) (t : DeviceTable) : Type 0 where
  pub books : DeviceBooks sent device t
  pub well : WellMade sent

-- ---- productions of another device

abbrev elsewhere : (device other n : ℕ) (m : Made) → device ≢ other → end_at device m.number ≢ end_at other n
elsewhere device other n m ne = λ same. ne (ap (λ (e : End). e.device) same)

pub unproduced_others : (device other : ℕ) (n : ℕ) (ms : List Made) (sent : List Production) → device ≢ other → HasNotProduced sent (end_at other n) → HasNotProduced (produced_more device sent ms) (end_at other n)
unproduced_others device other n [] sent ne ok = ok
unproduced_others device other n (m ∷ ms) sent ne ok =
    unproduced_others device other n ms (sent ++ numbered device sent m ∷ []) ne (unproduced_more sent (end_at other n) device m (elsewhere device other n m ne) ok)

books_others : (device other : ℕ) (n : ℕ) (p : cip.Production) (kept : List ℕ) (ms : List Made) (sent : List Production) → device ≢ other → ProducerBooks sent (end_at other n) p kept → ProducerBooks (produced_more device sent ms) (end_at other n) p kept
books_others device other n p kept [] sent ne ok = ok
books_others device other n p kept (m ∷ ms) sent ne ok =
    books_others device other n p kept ms (sent ++ numbered device sent m ∷ []) ne (books_other sent (end_at other n) p kept device m (elsewhere device other n m ne) ok)

state_others : (device other : ℕ) (ms : List Made) (sent : List Production) (run : Bool) (next : ℕ) (config : SlotConfig) (slot : Slot) (state : SlotState) → device ≢ other → StateBooks sent other run next config slot state → StateBooks (produced_more device sent ms) other run next config slot state
state_others device other ms sent run next config slot Idle ne ok = tt
state_others device other ms sent run next config slot (Opening o) ne ok = (ok.0, unproduced_others device other o.request ms sent ne ok.1)
state_others device other ms sent run next config slot (Established c) ne ok = (ok.0, books_others device other c.opening c.production (output_data run config slot) ms sent ne ok.1)
state_others device other ms sent run next config slot (TimedOut link) ne ok = tt
state_others device other ms sent run next config slot (Closing c) ne ok = tt

row_others : (device other : ℕ) (ms : List Made) (sent : List Production) (next : ℕ) (kept : List ℕ) (state : State) → device ≢ other → RowStateBooks sent other next kept state → RowStateBooks (produced_more device sent ms) other next kept state
row_others device other ms sent next kept row_state.TimedOut ne ok = tt
row_others device other ms sent next kept (row_state.Established p) ne ok = (ok.0, books_others device other p.producer p kept ms sent ne ok.1)

rows_others : (device other : ℕ) (ms : List Made) (sent : List Production) (next : ℕ) (value : ℕ → List ℕ) (all : List Row) → device ≢ other → AllByRecursion (RowBooks sent other next value) all → AllByRecursion (RowBooks (produced_more device sent ms) other next value) all
rows_others device other ms sent next value [] ne ok = tt
rows_others device other ms sent next value (row ∷ all) ne ok = (row_others device other ms sent next (value row.produced) row.state ne ok.0, rows_others device other ms sent next value all ne ok.1)

pub device_others : (device other : ℕ) (ms : List Made) (sent : List Production) (t : DeviceTable) → device ≢ other → DeviceBooks sent other t → DeviceBooks (produced_more device sent ms) other t
device_others device other ms sent (Adapter t) ne ok = record {
  inputs = ok.inputs;
  books = record {
    unproduced = λ n up. unproduced_others device other n ms sent ne (ok.books.unproduced n up);
    rows = rows_others device other ms sent t.next_id (input_value t.values) t.rows ne ok.books.rows;
  };
}
device_others device other ms sent (Scanner t) ne ok = record {
  unproduced = λ r up. unproduced_others device other r ms sent ne (ok.unproduced r up);
  slots = λ place stands. state_others device other ms sent t.run t.next_request place.config place.slot place.slot.state ne (ok.slots place stands);
  distinct = ok.distinct;
}

-- ---- a fresh device has produced nothing

scanner_begins : (device : ℕ) (profile : ScannerProfile) → ScannerBooks [] device (scanner_table profile)
scanner_begins device profile = record {
  unproduced = λ r up. tt;
  slots = λ place stands. subst (StateBooks [] device false 1 place.config place.slot) (sym (fresh_idle profile.slots place.number place.slot stands.slot)) tt;
  distinct = λ a b r one two first second. absurd (let e : opening_in r Idle ≡ true = subst (λ (s : SlotState). opening_in r s ≡ true) (fresh_idle profile.slots a.number a.slot one.slot) first in cc);
}

pub device_begins : (device : ℕ) (made : Config) → DeviceBooks [] device (opening_table made)
device_begins device (config.Adapter profile) = record { inputs = tt; books = record { unproduced = λ n up. tt; rows = tt } }
device_begins device (config.Scanner profile) = scanner_begins device profile
