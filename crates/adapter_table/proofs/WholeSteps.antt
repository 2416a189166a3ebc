-- Each effect keeps a table whole, and so do each step and each run.
use Rattle.std.proofs.Common.{Bool, not, ◌≡◌, ◌≤◌, ℕ, ◌+◌, ◌^◌, true, false, List, length, map, find, Some, None, Ok, refl, sym, ◌∙◌, arith}
use Rattle.cip_types.specs.declared.ids.IdBlock.{IdBlock}
use Rattle.cip_types.specs.declared.names.Ms.{Ms}
use Rattle.cip_types.specs.declared.names.Node.{Node}
use Rattle.cip_types.specs.Ids.{may_take}
use Rattle.cip_fwdopen.specs.Open.{OpenFields}
use Rattle.cip_datagram.specs.Datagram.{DatagramFields}
use Rattle.cip_events.specs.declared.event.Delivery.{Delivery}
use Rattle.cip_events.specs.declared.event.Event.{Event}
use Rattle.adapter_table.specs.declared.profile.InputPoint.{InputPoint}
use Rattle.adapter_table.specs.declared.profile.Profile.{Profile}
use Rattle.adapter_table.specs.Connections.{Row}
use Rattle.adapter_table.specs.declared.opening_rates.rates.NodeOpenings.{NodeOpenings}
use Rattle.adapter_table.specs.declared.table.AdapterTable.{AdapterTable}
use Rattle.adapter_table.specs.Rates.{with_openings}
use Rattle.adapter_table.specs.declared.counters.DeviceCounters.{DeviceCounters}
use Rattle.adapter_table.specs.Counting.{with_counters}
use Rattle.adapter_table.specs.Profiles.{is_at, profile_fault}
use Rattle.adapter_table.specs.Rows.{has_triad, others, written_row}
use Rattle.messaging.specs.declared.table.Messaging.{Messaging}
use Rattle.adapter_table.specs.Messages.{messages_table}
use Rattle.adapter_table.specs.MessagesSound.{MessagesGoOn}
use Rattle.adapter_table.specs.Points.{put_value}
use Rattle.adapter_table.specs.Checks.{Admitted, admission, drawn_ids}
use Rattle.adapter_table.specs.Opening.{is_replaced, opened_row, configured, opened_table}
use Rattle.adapter_table.specs.Closing.{without_triad, stays, staying, closed_values, closed_table}
use Rattle.adapter_table.specs.Streams.{is_taken, with_stream, without_stream, registered_table}
use Rattle.adapter_table.specs.Datagrams.{is_for, row_delivery, accepted_if_for, accepted_values, accepted_table}
use Rattle.adapter_table.specs.Productions.{produced_row, changed_row}
use Rattle.adapter_table.specs.Ticks.{clocked_table, expired, expired_row, expired_rows, expired_values, expired_table, produced_table}
use Rattle.adapter_table.specs.Requests.{Next}
use Rattle.adapter_table.specs.Step.{adapter_step, adapter_table, written_table, changed_table, taken_table}
use Rattle.adapter_table.specs.Whole.{ConsumesOutput, FitsRow, IsWhole}
use Rattle.adapter_table.specs.Lemmas.CheckLemmas.{admitted_is}
use Rattle.adapter_table.specs.Fitting.{input_fits, shaped_opening, shaped_put, shaped_closed, shaped_expired, stored_len, shaped_configured}
use Rattle.adapter_table.specs.Lemmas.LikeLemmas.{written_keeps, changed_keeps, fed_keeps, due_keeps}
use Rattle.adapter_table.specs.EachLemmas.{each_filter, each_append, each_map, each_found}
use Rattle.adapter_table.proofs.ConsumerLemmas.{consume_kept, consume_expired, admitted_consumes}
use Rattle.adapter_table.specs.Lemmas.FedLemmas.{shaped_fed}
use Rattle.adapter_table.specs.Laws.{EffectsKeep}
use Rattle.adapter_table.specs.Lemmas.EffectLemmas.{adapter_keeps}
use Rattle.adapter_table.proofs.StepLemmas.{sound_fresh, sound_opened, sound_closed, sound_written, sound_fed, sound_advanced, sound_with, sound_without, sound_registered, sound_messaged, sound_counted, sound_tallied, sound_taken, first_is_block, next_is_left}
use Rattle.adapter_table.specs.RowLimits.{fits_written, fits_expired}
use Rattle.adapter_table.proofs.PlaceLemmas.{names_left, names_kept, names_expired, names_then, messages_beside, messages_opened, messages_with, messages_without, messages_registered, messages_taken, messages_fresh}
use Rattle.adapter_table.proofs.WholeLemmas.{fits_due, fits_changed, fits_fed, fits_opened}

pub whole_opened : (t : AdapterTable) (peer : Node) (request : OpenFields) (admitted : Admitted) → admission t request ≡ Ok admitted → IsWhole t → IsWhole (opened_table t (opened_row t peer request admitted) admitted)
unfolding opened_table opened_row
whole_opened t peer request admitted e whole =
    let is = admitted_is t request admitted e in
    let row = opened_row t peer request admitted in
    let stays_there : Row → Bool = λ r. not (is_replaced t.rows request.triad r) in
    let left = others (is_replaced t.rows request.triad) t.rows in
    let messages = messages_opened t left row (configured t.profile.config admitted.segment t.values) (t.next_id + drawn_ids admitted.multicast admitted.group) (omega arith) (next_is_left t request admitted is whole.sound) (names_left stays_there t.rows) is.triad_is_new refl whole.messages in
    record {
      sound = sound_opened t peer request admitted e whole.sound;
      messages = record { own = messages.own; class3_connections = messages.class3_connections; waiting = messages.waiting };
      shaped =
          shaped_configured t.profile t.profile.config admitted.segment t.values refl
          (λ point bytes known stands. stored_len t.profile.config is.config is.segment point bytes known (sym is.segment_is ∙ stands) is.segment_fits) whole.shaped;
      consume = each_append (ConsumesOutput t.profile) left row (each_filter (ConsumesOutput t.profile) stays_there t.rows whole.consume) (admitted_consumes t request admitted is);
      fits = each_append FitsRow left row (each_filter FitsRow stays_there t.rows whole.fits) (fits_opened t peer request admitted e whole.fits whole.clock);
      clock = whole.clock;
    }

pub whole_closed : (t : AdapterTable) (row : Row) → IsWhole t → IsWhole (closed_table t row)
unfolding closed_table
whole_closed t row whole =
    let left = without_triad row.triad t.rows in
    let stays_there : Row → Bool = λ r. not (has_triad row.triad r) in
    record {
      sound = sound_closed t row whole.sound;
      messages = messages_beside t (staying left) (closed_values t.profile row t.values) t.clock (names_then t.rows left (staying left) (names_left stays_there t.rows) (names_left (stays left) left)) whole.messages;
      shaped = shaped_closed t.profile row t.values whole.shaped;
      consume = each_filter (ConsumesOutput t.profile) (stays left) left (each_filter (ConsumesOutput t.profile) stays_there t.rows whole.consume);
      fits = each_filter FitsRow (stays left) left (each_filter FitsRow stays_there t.rows whole.fits);
      clock = whole.clock;
    }

pub whole_written : (t : AdapterTable) (point : ℕ) (bytes : List ℕ) (input : InputPoint) → find (is_at point) t.profile.inputs ≡ Some input → length bytes ≡ input.len → IsWhole t → IsWhole (changed_table (written_table t point bytes) point)
unfolding written_table changed_table
whole_written t point bytes input is long whole =
    let rows = map (written_row point) t.rows in
    record {
      sound = sound_written t point bytes whole.sound;
      messages = messages_beside t (map (changed_row t.clock point) rows) (put_value point bytes t.values) t.clock (names_then t.rows rows _ (names_kept (written_row point) (written_keeps point) t.rows) (names_kept (changed_row t.clock point) (changed_keeps t.clock point) rows)) whole.messages;
      shaped = shaped_put t.profile t.values point bytes whole.shaped (input_fits t.profile point input (length bytes) whole.shaped.faultless is long);
      consume = consume_kept (changed_row t.clock point) (changed_keeps t.clock point) t.profile rows (consume_kept (written_row point) (written_keeps point) t.profile t.rows whole.consume);
      fits = each_map FitsRow (changed_row t.clock point) (fits_changed t.clock point whole.clock) rows (each_map FitsRow (written_row point) (fits_written point) t.rows whole.fits);
      clock = whole.clock;
    }

pub whole_fed : (t : AdapterTable) (peer : Node) (d : DatagramFields) (row : Row) (delivery : Delivery) → row_delivery t.profile t.clock row d ≡ delivery → find (is_for peer d.connection) t.rows ≡ Some row → IsWhole t → IsWhole (accepted_table t peer d row delivery)
unfolding accepted_table
whole_fed t peer d row delivery is found whole = record {
  sound = sound_fed t peer d row delivery whole.sound;
  messages = messages_beside t (map (accepted_if_for t.clock peer d) t.rows) (accepted_values t.profile row.consumed d delivery t.values) t.clock (names_kept (accepted_if_for t.clock peer d) (fed_keeps t.clock peer d) t.rows) whole.messages;
  shaped = shaped_fed t.profile t.clock row d delivery t.values is (each_found (ConsumesOutput t.profile) (is_for peer d.connection) t.rows row found whole.consume) whole.shaped;
  consume = consume_kept (accepted_if_for t.clock peer d) (fed_keeps t.clock peer d) t.profile t.rows whole.consume;
  fits = each_map FitsRow (accepted_if_for t.clock peer d) (fits_fed t.clock peer d) t.rows whole.fits;
  clock = whole.clock;
}

pub whole_advanced : (t : AdapterTable) (ms : ℕ) → t.clock.0 + ms ≤ 2 ^ 48 → IsWhole t → IsWhole (produced_table (expired_table (clocked_table t ms)))
unfolding clocked_table expired_table produced_table
whole_advanced t ms in_time whole =
    let clock : Ms = record { 0 = t.clock.0 + ms } in
    let left = expired_rows clock t.rows in
    let beside =
    messages_beside t (map (produced_row clock) (staying left)) (expired_values t.profile (expired clock t.rows) t.values) clock
    (names_then t.rows left _ (names_expired clock t.rows)
    (names_then left (staying left) _ (names_left (stays left) left) (names_kept (produced_row clock) (due_keeps clock) (staying left)))) whole.messages in
    record {
      sound = sound_advanced t ms whole.sound;
      messages = record { own = beside.own; class3_connections = beside.class3_connections; waiting = beside.waiting };
      shaped = shaped_expired t.profile (expired clock t.rows) t.values whole.shaped;
      consume = consume_kept (produced_row clock) (due_keeps clock) t.profile (staying left) (each_filter (ConsumesOutput t.profile) (stays left) left (consume_expired clock t.profile t.rows whole.consume));
      fits = each_map FitsRow (produced_row clock) (fits_due clock in_time) (staying left) (each_filter FitsRow (stays left) left (each_map FitsRow (expired_row clock) (fits_expired clock) t.rows whole.fits));
      clock = in_time;
    }

pub whole_with : (t : AdapterTable) (number : ℕ) (peer : Node) → is_taken t.streams number ≡ false → IsWhole t → IsWhole (with_stream t number peer)
unfolding with_stream
whole_with t number peer free whole = record { sound = sound_with t number peer free whole.sound; messages = messages_with t number peer whole.messages; shaped = whole.shaped; consume = whole.consume; fits = whole.fits; clock = whole.clock }

pub whole_without : (t : AdapterTable) (number : ℕ) → IsWhole t → IsWhole (without_stream t number)
unfolding without_stream
whole_without t number whole = record { sound = sound_without t number whole.sound; messages = messages_without t number whole.messages; shaped = whole.shaped; consume = whole.consume; fits = whole.fits; clock = whole.clock }

pub whole_registered : (t : AdapterTable) (number : ℕ) → IsWhole t → IsWhole (registered_table t number)
unfolding registered_table
whole_registered t number whole = record { sound = sound_registered t number whole.sound; messages = messages_registered t number whole.messages; shaped = whole.shaped; consume = whole.consume; fits = whole.fits; clock = whole.clock }

pub whole_messaged : (t : AdapterTable) (next_id : ℕ) (m : Messaging) → MessagesGoOn t next_id m → IsWhole t → IsWhole (messages_table t next_id m)
unfolding messages_table
whole_messaged t next_id m goes whole = record { sound = sound_messaged t next_id m goes whole.sound; messages = goes.sound whole.sound whole.messages; shaped = whole.shaped; consume = whole.consume; fits = whole.fits; clock = whole.clock }

pub whole_counted : (t : AdapterTable) (openings : List NodeOpenings) → IsWhole t → IsWhole (with_openings t openings)
whole_counted t openings whole = record {
  sound = sound_counted t openings whole.sound;
  messages = record { own = whole.messages.own; class3_connections = whole.messages.class3_connections; waiting = whole.messages.waiting };
  shaped = whole.shaped;
  consume = whole.consume;
  fits = whole.fits;
  clock = whole.clock;
}

pub whole_tallied : (t : AdapterTable) (counters : DeviceCounters) → IsWhole t → IsWhole (with_counters t counters)
whole_tallied t counters whole = record {
  sound = sound_tallied t counters whole.sound;
  messages = record { own = whole.messages.own; class3_connections = whole.messages.class3_connections; waiting = whole.messages.waiting };
  shaped = whole.shaped;
  consume = whole.consume;
  fits = whole.fits;
  clock = whole.clock;
}

pub whole_taken : (t : AdapterTable) (block : IdBlock) → may_take t.ids block ≡ true → IsWhole t → IsWhole (taken_table t block)
whole_taken t block may whole = record {
  sound = sound_taken t block may whole.sound;
  messages = messages_taken t block whole.sound.ids_are_left whole.messages;
  shaped = whole.shaped;
  consume = whole.consume;
  fits = whole.fits;
  clock = whole.clock;
}

pub whole_effects : EffectsKeep IsWhole
whole_effects = record {
  opened = whole_opened;
  closed = whole_closed;
  written = whole_written;
  fed = whole_fed;
  advanced = whole_advanced;
  streamed = whole_with;
  unstreamed = whole_without;
  registered = whole_registered;
  messaged = whole_messaged;
  counted = whole_counted;
  tallied = whole_tallied;
  taken = whole_taken;
}

pub whole_step : (t : AdapterTable) (event : Event) (next : Next) → adapter_step t event ≡ Ok next → IsWhole t → IsWhole next.1
whole_step t event next is whole = adapter_keeps IsWhole whole_effects t event next is whole

pub whole_fresh : (profile : Profile) → profile_fault profile ≡ None → IsWhole (adapter_table profile)
whole_fresh profile none = record { sound = sound_fresh profile none; messages = messages_fresh profile (first_is_block profile none); shaped = shaped_opening profile none; consume = tt; fits = tt; clock = omega arith }
