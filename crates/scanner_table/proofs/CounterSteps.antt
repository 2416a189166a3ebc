-- The numbers never fall, and blocks of ids stay; only a further block adds to them.
use Rattle.std.proofs.Common.{◌≡◌, ℕ, suc, Bool, List, [], ◌∷◌, length, length-set, refl, sym, ap, ◌∙◌, arith}
use Rattle.std.proofs.lemmas.List.{length-map}
use Rattle.cip_types.specs.IdLaws.{extends_itself, extends_on, block_extends}
use Rattle.scanner_table.specs.Lemmas.Slotwise.{id_later}
use Rattle.scanner_table.specs.declared.profile.SlotConfig.{SlotConfig}
use Rattle.scanner_table.specs.declared.profile.ScannerProfile.{ScannerProfile}
use Rattle.scanner_table.specs.declared.slot.Slot.{Slot}
use Rattle.scanner_table.specs.declared.slot.SlotState.TheVariants.{Established}
use Rattle.scanner_table.specs.declared.table.ScannerTable.{ScannerTable}
use Rattle.scanner_table.specs.Slots.{indexed_from, indexed_slots, with_slot}
use Rattle.scanner_table.specs.Effects.{counted}
use Rattle.scanner_table.specs.Opening.{drawn, opening_slot, closing_slot}
use Rattle.scanner_table.specs.Replies.{new_connection, established_slot}
use Rattle.scanner_table.specs.Datagrams.{accepted_connection}
use Rattle.scanner_table.specs.Points.{output_slot, moded_slot, moded_table}
use Rattle.scanner_table.specs.Productions.{produced_slot, produced_table}
use Rattle.scanner_table.specs.Runs.{StepsLead, EventsLead}
use Rattle.scanner_table.specs.WellFormed.{SlotsFit}
use Rattle.scanner_table.specs.Counters.{CountsOn, StepsLeaveIds, WholeTablesAreFull}
use Rattle.scanner_table.specs.Step.{scanner_step}
use Rattle.scanner_table.specs.Lemmas.Moves.{KeptAlways, KeptElse, else_leads}
use Rattle.scanner_table.specs.Lemmas.Events.{leads_next, steps_lead, events_lead}

set_counts : (t : ScannerTable) (number : ℕ) (slot : Slot) → CountsOn t (with_slot t number slot)
set_counts t number slot = record { profile = refl; slots = λ full. length-set t.slots number slot; blocks = extends_itself t.ids; ids = omega arith; requests = omega arith }

drawn_counts : (t : ScannerTable) (config : SlotConfig) (number : ℕ) (slot : Slot) → CountsOn t (with_slot (counted (drawn t config)) number slot)
drawn_counts t config number slot = record { profile = refl; slots = λ full. length-set t.slots number slot; blocks = extends_itself t.ids; ids = id_later config.multicast t.next_id; requests = omega arith }

counted_counts : (t : ScannerTable) (number : ℕ) (slot : Slot) → CountsOn t (with_slot (counted t) number slot)
counted_counts t number slot = record { profile = refl; slots = λ full. length-set t.slots number slot; blocks = extends_itself t.ids; ids = omega arith; requests = omega arith }

slots_long : (number : ℕ) (configs : List SlotConfig) (slots : List Slot) → length slots ≡ length configs → length (indexed_from number configs slots) ≡ length slots
slots_long number [] [] full = refl
slots_long number [] (slot ∷ slots) full = absurd (omega (arith, full))
slots_long number (config ∷ configs) [] full = refl
slots_long number (config ∷ configs) (slot ∷ slots) full = ap suc (slots_long (suc number) configs slots (omega (arith, full)))

moded_counts : (t : ScannerTable) (run : Bool) → CountsOn t (moded_table t run)
moded_counts t run = record { profile = refl; slots = λ full. length-map (indexed_slots t) moded_slot ∙ slots_long 0 t.profile.slots t.slots full; blocks = extends_itself t.ids; ids = omega arith; requests = omega arith }

produced_counts : (t : ScannerTable) → CountsOn t (produced_table t)
unfolding produced_table
produced_counts t = record { profile = refl; slots = λ full. length-map t.slots (produced_slot t.clock); blocks = extends_itself t.ids; ids = omega arith; requests = omega arith }

counts_after : (t u v : ScannerTable) → CountsOn t u → CountsOn u v → CountsOn t v
counts_after t u v first next = record {
  profile = next.profile ∙ first.profile;
  slots = λ full. next.slots (first.slots full ∙ full ∙ sym (ap (λ (p : ScannerProfile). length p.slots) first.profile)) ∙ first.slots full;
  blocks = extends_on t.ids u.ids v.ids first.blocks next.blocks;
  ids = omega (arith, first.ids, next.ids);
  requests = omega (arith, first.requests, next.requests);
}

pub counts_always : KeptAlways CountsOn
counts_always = record {
  widely = record {
    slots = record {
      same = λ t. record { profile = refl; slots = λ full. refl; blocks = extends_itself t.ids; ids = omega arith; requests = omega arith };
      after = counts_after;
      opening = λ t indexed stands closed_before place left. drawn_counts t indexed.config indexed.number (opening_slot t indexed);
      idling = λ t indexed slot stands idle. set_counts t indexed.number slot;
      timing_out = λ t indexed link slot stands is becomes. set_counts t indexed.number slot;
      closing = λ t indexed link desired_up stands is. counted_counts t indexed.number (closing_slot t link desired_up indexed.slot);
    };
    streams = λ t streams. record { profile = refl; slots = λ full. refl; blocks = extends_itself t.ids; ids = omega arith; requests = omega arith };
    clocked = λ t ms. record { profile = refl; slots = λ full. refl; blocks = extends_itself t.ids; ids = omega arith; requests = omega arith };
    producing = produced_counts;
    moding = moded_counts;
    explicit = λ t pending request later. record { profile = refl; slots = λ full. refl; blocks = extends_itself t.ids; ids = omega arith; requests = later };
  };
  taken = λ t block may. record { profile = refl; slots = λ full. refl; blocks = block_extends t.ids block may; ids = omega arith; requests = omega arith };
  establishing = λ t indexed o success stands is requested. set_counts t indexed.number (established_slot indexed (new_connection t indexed o success));
  writing = λ t indexed bytes stands. set_counts t indexed.number (output_slot bytes indexed.slot);
  accepting = λ t indexed d c bytes stands is. set_counts t indexed.number (record indexed.slot { state = Established (accepted_connection t.clock d c); image = bytes });
}

pub steps_count : StepsLead CountsOn
steps_count = steps_lead CountsOn counts_always

pub events_count : EventsLead CountsOn
events_count = events_lead CountsOn counts_always

-- the blocks of ids are as before
abbrev Leaves : ScannerTable → ScannerTable → Type 0
Leaves t next = next.ids ≡ t.ids

produced_leaves : (t : ScannerTable) → Leaves t (produced_table t)
unfolding produced_table
produced_leaves t = refl

leaves_else : KeptElse Leaves
leaves_else = record {
  widely = record {
    slots = record {
      same = λ t. refl;
      after = λ t u v first next. next ∙ first;
      opening = λ t indexed stands closed_before place left. refl;
      idling = λ t indexed slot stands idle. refl;
      timing_out = λ t indexed link slot stands is becomes. refl;
      closing = λ t indexed link desired_up stands is. refl;
    };
    streams = λ t streams. refl;
    clocked = λ t ms. refl;
    producing = produced_leaves;
    moding = λ t run. refl;
    explicit = λ t pending request later. refl;
  };
  establishing = λ t indexed o success stands is requested. refl;
  writing = λ t indexed bytes stands. refl;
  accepting = λ t indexed d c bytes stands is. refl;
}

pub steps_leave : StepsLeaveIds
steps_leave t event next is none = leads_next Leaves t (scanner_step t event) next is (else_leads Leaves leaves_else t event none)

slots_full : (next clock : ℕ) (configs : List SlotConfig) (slots : List Slot) → SlotsFit next clock configs slots → length slots ≡ length configs
slots_full next clock [] [] fit = refl
slots_full next clock [] (slot ∷ slots) fit = absurd fit
slots_full next clock (config ∷ configs) [] fit = absurd fit
slots_full next clock (config ∷ configs) (slot ∷ slots) fit = ap suc (slots_full next clock configs slots fit.1)

pub whole_full : WholeTablesAreFull
whole_full t whole = slots_full t.next_request t.clock.0 t.profile.slots t.slots whole.slots
