use Rattle.std.proofs.Common.{◌≡◌, List, map, filter, sym, subst, ap, ◌∙◌}
use Rattle.std.specs.List.{filter_map}
use Rattle.std.specs.Option.{is_some}
use Rattle.cip_types.specs.Order.{in_order}
use Rattle.cip_productions.specs.Productions.{sent}
use Rattle.scanner_table.specs.declared.profile.SlotConfig.{SlotConfig}
use Rattle.scanner_table.specs.declared.slot.Slot.{Slot}
use Rattle.scanner_table.specs.Productions.{is_due, by_due, slot_production}
use Rattle.scanner_table.specs.Slots.{IndexedSlot, indexed_slots, indexed_from}
use Rattle.scanner_slots.specs.Views.{view_slot, table_of}
use Rattle.scanner_data.specs.Turns.{due_in_turn, datagrams_in_turn}
use Rattle.scanner_data.proofs.Facts.{few_slots, short_due, short_at, Short}
use Rattle.scanner_data.proofs.Orders.{if_ok}
use Rattle.scanner_data.proofs.Turns.{turn_is_order, short_slots}
use Rattle.scanner_data.proofs.productions.due_datagrams.Goals as goal

pub datagrams_in_turn-requires-clause-few : goal.datagrams_in_turn-requires-clause-few
datagrams_in_turn-requires-clause-few c = rw c.as_slice-configs.ensures (few_slots (table_of c.args.profile.now c.args.scanner.now) c.requires.whole)

pub datagrams_in_turn-requires-clause-short : goal.datagrams_in_turn-requires-clause-short
datagrams_in_turn-requires-clause-short c = rw c.deref-in-Some.ensures.value (short_slots (table_of c.args.profile.now c.args.scanner.now) c.requires.whole)

pub returns-in-Some : goal.returns-in-Some
returns-in-Some c =
    let t = table_of c.args.profile.now c.args.scanner.now in
    let clock = c.args.clock in
    let some = ap is_some (ap (due_in_turn clock 0 0) (sym c.deref.ensures.value) ∙ sym c.due_in_turn.ensures ∙ c.in-Some.is) in
    if_ok _ _ c.datagrams_in_turn.result (λ due is.
    is
    ∙ ap (λ (configs : List SlotConfig). datagrams_in_turn t.run clock (indexed_from 0 configs c.deref-in-Some.result.now)) c.as_slice-configs.ensures
    ∙ ap (λ (slots : List Slot). datagrams_in_turn t.run clock (indexed_from 0 t.profile.slots slots)) c.deref-in-Some.ensures.value
    ∙ ap (λ (l : List IndexedSlot). map sent (filter_map (slot_production t.run) l)) (sym (turn_is_order clock 0 0 0 t.profile.slots t.slots some))) c.datagrams_in_turn.ensures

pub due_slots-requires : goal.due_slots-requires
due_slots-requires c = rw c.as_slice-configs.ensures (few_slots (table_of c.args.profile.now c.args.scanner.now) c.requires.whole)

pub datagrams_of-requires : goal.datagrams_of-requires
datagrams_of-requires c =
    let is : map view_slot c.in_ok-due.due.items ≡ in_order by_due (filter (is_due c.args.clock) (indexed_slots (table_of c.args.profile.now c.args.scanner.now))) = rw (← c.as_slice-configs.ensures, ← c.deref-2.ensures.value) c.in_ok-due.ensures in
    rw c.deref-3.ensures.value (short_at c.in_ok-due.due.items (subst Short (sym is) (short_due (table_of c.args.profile.now c.args.scanner.now) (is_due c.args.clock) by_due c.requires.whole)))
