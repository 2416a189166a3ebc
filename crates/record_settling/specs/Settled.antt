-- Records that settle: what each says of its device is so, and one schedule has them all.
use Rattle.std.specs.Prelude.{◌≡◌, ◌&&◌, ℕ, Bool, true, List, [], ◌∷◌, ◌++◌, length, map}
use Rattle.std.specs.Option.{is_some}
use Rattle.cip_tables.specs.declared.table.Config.{Config}
use Rattle.cip_tables.specs.Step.{incarnation_of, opening_table}
use Rattle.device_lock.specs.declared.receipt.Receipt.{Receipt}
use Rattle.device_lock.specs.Histories.{HistoryValue}
use Rattle.settling.specs.Settlings.{SettlesApart}
use Rattle.trace_stepper.specs.Compared.{AgreeBefore}
use Rattle.trace_stepper.specs.Stepping.{outcomes_of_trace}
use Rattle.trace_text.specs.declared.trace.Trace.{Trace}
use Rattle.trace_text.specs.Reading.{Entry}
use Rattle.record_settling.specs.declared.stream_names.renaming.StreamName.{StreamName}
use Rattle.record_settling.specs.declared.settled.SettledRecords.{SettledRecords}
use Rattle.trace_outcomes.specs.declared.sums.sum.PlacedSum.{PlacedSum}
use Rattle.record_settling.specs.Summed.{AllHaveSums}
use Rattle.record_settling.specs.Accounts.{Step, account_history, accounted, event_in, receipts_from}

-- WHOLE RECORDS

abbrev pub is_recorded : Entry → Bool
is_recorded entry = is_some entry.1

abbrev pub all_recorded : List Entry → Bool
all_recorded [] = true
all_recorded (entry ∷ entries) = is_recorded entry && all_recorded entries

-- each event has a recorded outcome, which a fresh device gives
pub record IsRecorded (t : Trace) : Type 0 where
  pub all : all_recorded t.events ≡ true
  pub given : AgreeBefore t.events (outcomes_of_trace t) (length t.events)

abbrev pub AllRecorded : List Trace → Type 0
AllRecorded [] = Unit {0}
AllRecorded (t ∷ ts) = IsRecorded t × AllRecorded ts

-- WHAT A RECORD SAYS, whose streams have these names

abbrev pub byte_in : Config → ℕ
byte_in made_of = incarnation_of (opening_table made_of)

abbrev pub steps_in : Trace → List StreamName → List Step
steps_in t names = accounted names 0 t.events

abbrev pub history_in : Trace → List StreamName → HistoryValue
history_in t names = account_history t.config (map event_in (steps_in t names))

abbrev pub receipts_in : Trace → List StreamName → List Receipt
receipts_in t names = receipts_from (byte_in t.config) 0 (steps_in t names)

-- the names of the first record, and those of the others
abbrev pub first_names : List (List StreamName) → List StreamName
first_names [] = []
first_names (names ∷ others) = names

abbrev pub other_names : List (List StreamName) → List (List StreamName)
other_names [] = []
other_names (names ∷ others) = others

abbrev pub histories_in : List Trace → List (List StreamName) → List HistoryValue
histories_in [] names = []
histories_in (t ∷ ts) names = history_in t (first_names names) ∷ histories_in ts (other_names names)

abbrev pub receipts_of_all : List Trace → List (List StreamName) → List Receipt
receipts_of_all [] names = []
receipts_of_all (t ∷ ts) names = receipts_in t (first_names names) ++ receipts_of_all ts (other_names names)

-- WHAT SETTLES

-- Each record is whole, each outcome in whose place a record has a sum has that sum, and a schedule has all histories and all
-- receipts. No two devices have a connection id in common, so the laws of order hold of it (`WhatSettlesApartIsInOrder`).
pub record HasSettledRecords (records : List Trace) (sums : List (List PlacedSum)) (s : SettledRecords) : Type 0 where
  pub recorded : AllRecorded records
  pub summed : AllHaveSums records sums
  pub settles : SettlesApart (histories_in records s.names.items) (receipts_of_all records s.names.items) s.schedule
