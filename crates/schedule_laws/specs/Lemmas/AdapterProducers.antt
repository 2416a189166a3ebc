-- What an adapter produces is of a producer that has an entry, with its T->O id.
use Rattle.std.proofs.Common.{◌≡◌, ◌∙◌, ℕ, ◌+◌, List, [], ◌++◌, filter, find, filter_map, refl, sym, ap}
use Rattle.std.specs.List.{AllByRecursion, Contains}
use Rattle.std.specs.Option.{IfSome}
use Rattle.std.proofs.lemmas.List.Elements.{Contains-append_left}
use Rattle.cip_types.specs.declared.names.ConnId.{ConnId}
use Rattle.cip_types.specs.declared.names.Ms.{Ms}
use Rattle.cip_events.specs.declared.event.Event.{Event}
use Rattle.cip_events.specs.declared.event.Event.TheVariants as event
use Rattle.cip_productions.specs.declared.production.Producer.{Producer}
use Rattle.cip_productions.specs.Productions.{same_producer, by_number, by_due}
use Rattle.adapter_table.specs.Connections.{Row}
use Rattle.adapter_table.specs.declared.row.State.{State}
use Rattle.adapter_table.specs.declared.row.State.TheVariants.{Established, TimedOut}
use Rattle.adapter_table.specs.declared.table.AdapterTable.{AdapterTable}
use Rattle.adapter_table.specs.Closing.{stays}
use Rattle.adapter_table.specs.Productions.{state_producer, producer_in, producers, producer_of, is_due, due_producers, produces_on_change, producers_on_change}
use Rattle.adapter_table.specs.Rows.{is_established, written_row}
use Rattle.adapter_table.specs.Step.{written_table}
use Rattle.adapter_table.specs.Ticks.{expired_row, expired_rows, clocked_table, expired_table}
use Rattle.segment_world.specs.World.{World}
use Rattle.device_laws.specs.Lemmas.Lists.{all_filtered, all_firsts, all_made, all_mapped, all_ordered}
use Rattle.device_laws.specs.Made.{Made, adapter_made, due_made, advanced_made, changed_made, adapter_makes}
use Rattle.device_laws.specs.Productions.{End, end_at, Production}
use Rattle.device_laws.specs.RowIds.{IsSameRow}
use Rattle.device_laws.specs.Lemmas.RowIds.{all_contained, written_row_same, expired_row_same}
use Rattle.schedule_laws.specs.Chronicle.{Opened, opens_row}
use Rattle.schedule_laws.specs.Names.{HasEntry, IsOpenedBy, IsMadeBy, ProducerHasEntry}
use Rattle.schedule_laws.specs.Lemmas.Entries.{Later, adapter_back}
use Rattle.schedule_laws.specs.Lemmas.Found.{found_holds}

-- ---- a connection's entry

pub same_has : (w : World) (opened : List Opened) (device : ℕ) (old row : Row) → IsSameRow old row → HasEntry w opened device old → HasEntry w opened device row
same_has w opened device old row same is = record {
  entry = is.entry;
  found = ap (λ (n : ℕ). find (opens_row (end_at device n)) opened) same.opening ∙ is.found;
  o_t = is.o_t ∙ sym same.o_t;
  t_o = is.t_o ∙ sym same.t_o;
  peer = same.peer ∙ is.peer;
  producer = λ established. is.producer (same.established established) ∙ ap (end_at device) (sym (same.producer established));
}

-- ---- producers

abbrev ProducerNamed : List Opened → ℕ → Producer → Type 0
ProducerNamed opened device x = IsOpenedBy opened (end_at device x.production.producer) x.id.0

producer_named : (w : World) (opened : List Opened) (device : ℕ) (row : Row) (state : State) → row.state ≡ state → HasEntry w opened device row → IfSome (state_producer row state) (ProducerNamed opened device)
producer_named w opened device row TimedOut is has = tt
producer_named w opened device row (Established p) is has = record {
  entry = has.entry;
  there = found_holds (λ (e : Opened). Contains opened e) (opens_row (end_at device row.opening)) opened has.entry (all_contained opened [] opened refl) has.found;
  producer_is = has.producer (ap (λ (s : State). is_established (record row { state = s })) is) ∙ ap (λ (s : State). end_at device (producer_of s)) is;
  t_o_is = ap (λ (id : ConnId). id.0) has.t_o;
}

producers_named : (w : World) (opened : List Opened) (device : ℕ) (rows : List Row) → AllByRecursion (HasEntry w opened device) rows → AllByRecursion (ProducerNamed opened device) (producers rows)
producers_named w opened device rows all =
    all_firsts (ProducerNamed opened device) same_producer (filter_map producer_in rows)
    (all_made (HasEntry w opened device) (ProducerNamed opened device) producer_in (λ row has. producer_named w opened device row row.state refl has) rows all)

-- ---- what is produced

abbrev pub MadeByEntry : List Opened → ℕ → Made → Type 0
MadeByEntry opened device made = IsMadeBy opened (end_at device made.number) made

due_named : (w : World) (opened : List Opened) (device : ℕ) (clocked : AdapterTable) (rows : List Row) → AllByRecursion (HasEntry w opened device) rows → AllByRecursion (MadeByEntry opened device) (advanced_made clocked rows)
due_named w opened device clocked rows all =
    all_mapped (ProducerNamed opened device) (MadeByEntry opened device) (due_made clocked.values) (λ x named. record { by = named; value = refl }) (due_producers clocked.clock rows)
    (all_ordered (ProducerNamed opened device) by_due (producers (filter (is_due clocked.clock) rows))
    (producers_named w opened device (filter (is_due clocked.clock) rows) (all_filtered (HasEntry w opened device) (is_due clocked.clock) rows all)))

changed_named : (w : World) (opened : List Opened) (device : ℕ) (t : AdapterTable) (point : ℕ) (bytes : List ℕ) → AllByRecursion (HasEntry w opened device) t.rows → AllByRecursion (MadeByEntry opened device) (changed_made t point bytes)
changed_named w opened device t point bytes all =
    all_mapped (ProducerNamed opened device) (MadeByEntry opened device) (adapter_made bytes) (λ x named. record { by = named; value = refl }) (producers_on_change t.clock point t.rows)
    (all_ordered (ProducerNamed opened device) by_number (producers (filter (produces_on_change t.clock point) t.rows))
    (producers_named w opened device (filter (produces_on_change t.clock point) t.rows) (all_filtered (HasEntry w opened device) (produces_on_change t.clock point) t.rows all)))

expired_has : (w : World) (opened : List Opened) (device : ℕ) (t : AdapterTable) (ms : ℕ) → AllByRecursion (HasEntry w opened device) t.rows → AllByRecursion (HasEntry w opened device) (expired_table (clocked_table t ms)).rows
unfolding expired_table clocked_table
expired_has w opened device t ms all =
    let clock : Ms = record { 0 = t.clock.0 + ms } in
    all_filtered (HasEntry w opened device) (stays (expired_rows clock t.rows)) (expired_rows clock t.rows)
    (all_mapped (HasEntry w opened device) (HasEntry w opened device) (expired_row clock) (λ row has. same_has w opened device row (expired_row clock row) (expired_row_same clock row) has) t.rows all)

written_has : (w : World) (opened : List Opened) (device : ℕ) (t : AdapterTable) (point : ℕ) (bytes : List ℕ) → AllByRecursion (HasEntry w opened device) t.rows → AllByRecursion (HasEntry w opened device) (written_table t point bytes).rows
unfolding written_table
written_has w opened device t point bytes all =
    all_mapped (HasEntry w opened device) (HasEntry w opened device) (written_row point) (λ row has. same_has w opened device row (written_row point row) (written_row_same point row) has) t.rows all

pub adapter_makes_named : (w : World) (opened : List Opened) (device : ℕ) (t : AdapterTable) (happens : Event) → AllByRecursion (HasEntry w opened device) t.rows → AllByRecursion (MadeByEntry opened device) (adapter_makes t happens)
adapter_makes_named w opened device t (event.Write point bytes) all = changed_named w opened device (written_table t point bytes) point bytes (written_has w opened device t point bytes all)
adapter_makes_named w opened device t (event.Tick ms) all = due_named w opened device (clocked_table t ms) (expired_table (clocked_table t ms)).rows (expired_has w opened device t ms all)
adapter_makes_named w opened device t other all = tt

-- ---- later on

by_later : (opened more : List Opened) (producer : End) (t_o : ℕ) → IsOpenedBy opened producer t_o → IsOpenedBy (opened ++ more) producer t_o
by_later opened more producer t_o is = record { entry = is.entry; there = Contains-append_left opened more is.entry is.there; producer_is = is.producer_is; t_o_is = is.t_o_is }

made_by_later : (opened more : List Opened) (producer : End) (made : Made) → IsMadeBy opened producer made → IsMadeBy (opened ++ more) producer made
made_by_later opened more producer made is = record { by = by_later opened more producer made.datagram.connection is.by; value = is.value }

pub producer_later : (w new : World) (opened more : List Opened) (p : Production) → Later w new → ProducerHasEntry w opened p → ProducerHasEntry new (opened ++ more) p
producer_later w new opened more p later is = λ adapter. made_by_later opened more p.producer p.made (is (adapter_back w new p.producer.device later adapter))

pub made_later : (opened more : List Opened) (device : ℕ) (made : Made) → MadeByEntry opened device made → MadeByEntry (opened ++ more) device made
made_later opened more device made is = made_by_later opened more (end_at device made.number) made is
