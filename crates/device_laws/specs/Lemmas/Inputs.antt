-- What the inputs of an adapter hold after an event: what it wrote there, or what they held.
use Rattle.std.proofs.Common.{◌≡◌, ℕ, ◌+◌, ◌==◌, ◌||◌, Bool, true, false, cond, List, [], ◌∷◌, ◌++◌, map, find, length, Option, Some, None, Result, Ok, Err, is_some, option_to_list, refl, sym, ◌∙◌, ap, subst}
use Rattle.std.proofs.lemmas.Bool.{eqb-true}
use Rattle.std.specs.List.{list_any}
use Rattle.std.specs.Option.{option_map, unwrap_or}
use Rattle.base_lemmas.specs.Numbers.{other_number}
use Rattle.cip_types.specs.declared.names.Node.{Node}
use Rattle.cip_types.specs.declared.names.Ms.{Ms}
use Rattle.cip_datagram.specs.declared.datagram.DatagramFault.{DatagramFault}
use Rattle.cip_datagram.specs.Datagram.{DatagramFields}
use Rattle.cip_datagram.specs.Header.{header_at}
use Rattle.cip_datagram.specs.Reading.{datagram_reading}
use Rattle.cip_events.specs.declared.event.Delivery.{Delivery}
use Rattle.cip_events.specs.declared.event.Delivery.TheVariants.{Applied, Idle, Heartbeat, Duplicate, Old, UnknownId, WrongSize, Malformed}
use Rattle.cip_events.specs.declared.event.Event.{Event}
use Rattle.cip_events.specs.declared.event.Event.TheVariants.{Datagram, Write, Tick}
use Rattle.cip_events.specs.Answers.{is_accepted}
use Rattle.cip_fwdopen.specs.Open.{OpenFields}
use Rattle.adapter_table.specs.declared.profile.InputPoint.{InputPoint}
use Rattle.adapter_table.specs.declared.profile.OutputPoint.{OutputPoint}
use Rattle.adapter_table.specs.declared.profile.Profile.{Profile}
use Rattle.adapter_table.specs.Connections.{Row}
use Rattle.adapter_table.specs.declared.table.AdapterTable.{AdapterTable}
use Rattle.adapter_table.specs.declared.table.PointValue.{PointValue}
use Rattle.adapter_table.specs.Checks.{Admitted}
use Rattle.adapter_table.specs.Closing.{closed_values, closed_table}
use Rattle.adapter_table.specs.Datagrams.{is_for, row_delivery, run_data, accepted_values, accepted_table, found_datagram, datagram_of, received}
use Rattle.adapter_table.specs.Fitting.{length_is, input_fits}
use Rattle.adapter_table.specs.Opening.{configured, opened_row, opened_table}
use Rattle.adapter_table.specs.Points.{bytes_at, data_points, lost_values, idle_values, put_value}
use Rattle.adapter_table.specs.Profiles.{as_point, is_at, is_output_at, profile_fault}
use Rattle.adapter_table.specs.Requests.{Next}
use Rattle.adapter_table.specs.Rows.{drives}
use Rattle.adapter_table.specs.EachLemmas.{each_found}
use Rattle.adapter_table.specs.Scratch.{or_else}
use Rattle.adapter_table.specs.Shapes.{IsShaped}
use Rattle.adapter_table.specs.Shaping.{points_differ, distinct_back, any_found, none_both, input_found, input_no_output}
use Rattle.adapter_table.specs.Step.{adapter_step, written_table, changed_table}
use Rattle.adapter_table.specs.Streams.{with_stream, without_stream, registered_table}
use Rattle.adapter_table.specs.Ticks.{clocked_table, expired, expired_values, expired_table, produced_table, advanced}
use Rattle.adapter_table.specs.Whole.{ConsumesOutput, IsWhole}
use Rattle.adapter_table.specs.Lemmas.EffectLemmas.{IsWrite, write_is, IsTick, tick_is}
use Rattle.messaging.specs.declared.table.Messaging.{Messaging}
use Rattle.adapter_table.specs.Messages.{messages_table}
use Rattle.adapter_table.specs.Lemmas.FedLemmas.{applied_output}
use Rattle.adapter_table.specs.Lemmas.RequestLemmas.{RequestsDo, next_is}
use Rattle.adapter_table.specs.Lemmas.ValueLemmas.{put_at, put_beside, lost_beside, idle_beside, zeros_at}
use Rattle.device_laws.specs.Lemmas.Texts.{either}
use Rattle.device_laws.specs.Inputs.{written_at, StepsWriteInputs, FreshInputsAreZeros}
use Rattle.adapter_table.specs.Lemmas.ControlLemmas.{control_does}

-- ---- an input is no other point

output_apart : (profile : Profile) (point other : ℕ) (input : InputPoint) (output : OutputPoint) → profile_fault profile ≡ None → find (is_at point) profile.inputs ≡ Some input → find (is_output_at other) profile.outputs ≡ Some output → (other == point) ≡ false
output_apart profile point other input output none there is = other_number point other (input_no_output profile other point output input none is there)

first_false : (a b : Bool) → (a || b) ≡ false → a ≡ false
first_false true b is = absurd (let e = is in cc)
first_false false b is = refl

configuration_apart : (profile : Profile) (point : ℕ) (input config : InputPoint) → profile_fault profile ≡ None → find (is_at point) profile.inputs ≡ Some input → profile.config ≡ Some config → (config.instance == point) ≡ false
configuration_apart profile point input config none there is =
    let distinct = distinct_back (map as_point profile.outputs) (profile.inputs ++ option_to_list profile.config) (points_differ profile none) in
    let no = none_both point profile.inputs (option_to_list profile.config) distinct (any_found point profile.inputs input there) in
    first_false (config.instance == point) false (subst (λ (o : Option InputPoint). list_any (is_at point) (option_to_list o) ≡ false) is no)

-- ---- what changes other points leaves an input

-- an input holds these bytes
abbrev Holds : ℕ → List ℕ → List PointValue → Type 0
Holds point kept values = bytes_at values point ≡ Some kept

-- and the profile is one with nothing wrong that has the input
record IsInput (profile : Profile) (point : ℕ) : Type 0 where
  faultless : profile_fault profile ≡ None
  input : InputPoint
  there : find (is_at point) profile.inputs ≡ Some input

lost_by : (profile : Profile) (point other : ℕ) (kept : List ℕ) (values : List PointValue) (found : Option OutputPoint) → find (is_output_at other) profile.outputs ≡ found → IsInput profile point → Holds point kept values → Holds point kept (lost_values profile other values)
lost_by profile point other kept values None is input holds = rw is holds
lost_by profile point other kept values (Some output) is input holds = lost_beside profile point other values kept (output_apart profile point other input.input output input.faultless input.there is) holds

idle_by : (profile : Profile) (point other : ℕ) (kept : List ℕ) (values : List PointValue) (found : Option OutputPoint) → find (is_output_at other) profile.outputs ≡ found → IsInput profile point → Holds point kept values → Holds point kept (idle_values profile other values)
idle_by profile point other kept values None is input holds = rw is holds
idle_by profile point other kept values (Some output) is input holds = idle_beside profile point other values kept (output_apart profile point other input.input output input.faultless input.there is) holds

closed_holds : (profile : Profile) (point : ℕ) (kept : List ℕ) (values : List PointValue) (row : Row) → IsInput profile point → Holds point kept values → Holds point kept (closed_values profile row values)
closed_holds profile point kept values row input holds =
    either (Holds point kept) (drives row.consumed row) (lost_values profile row.consumed values) values (lost_by profile point row.consumed kept values (find (is_output_at row.consumed) profile.outputs) refl input holds) holds

expired_holds : (profile : Profile) (point : ℕ) (kept : List ℕ) (rows : List Row) (values : List PointValue) → IsInput profile point → Holds point kept values → Holds point kept (expired_values profile rows values)
expired_holds profile point kept [] values input holds = holds
expired_holds profile point kept (row ∷ rows) values input holds = expired_holds profile point kept rows (closed_values profile row values) input (closed_holds profile point kept values row input holds)

configured_holds : (profile : Profile) (config : Option InputPoint) (segment : Option (List ℕ)) (point : ℕ) (kept : List ℕ) (values : List PointValue) → profile.config ≡ config → IsInput profile point → Holds point kept values → Holds point kept (configured config segment values)
configured_holds profile None segment point kept values is input holds = holds
configured_holds profile (Some config) None point kept values is input holds = holds
configured_holds profile (Some config) (Some bytes) point kept values is input holds =
    put_beside point config.instance bytes values kept (configuration_apart profile point input.input config input.faultless input.there is) holds

-- data of a datagram stand at an output
applied_holds : (profile : Profile) (point other : ℕ) (kept bytes : List ℕ) (values : List PointValue) (found : Option OutputPoint) → find (is_output_at other) profile.outputs ≡ found → is_some found ≡ true → IsInput profile point → Holds point kept values → Holds point kept (put_value other bytes values)
applied_holds profile point other kept bytes values None is some input holds = absurd (let e = some in cc)
applied_holds profile point other kept bytes values (Some output) is some input holds = put_beside point other bytes values kept (output_apart profile point other input.input output input.faultless input.there is) holds

fed_holds : (profile : Profile) (clock : Ms) (row : Row) (d : DatagramFields) (delivery : Delivery) (point : ℕ) (kept : List ℕ) (values : List PointValue) → row_delivery profile clock row d ≡ delivery → ConsumesOutput profile row → IsInput profile point → Holds point kept values → Holds point kept (accepted_values profile row.consumed d delivery values)
fed_holds profile clock row d Applied point kept values is consumes input holds =
    applied_holds profile point row.consumed kept (run_data (header_at d.payload)) values (find (is_output_at row.consumed) profile.outputs) refl (applied_output profile clock row d consumes is) input holds
fed_holds profile clock row d Idle point kept values is consumes input holds = idle_by profile point row.consumed kept values (find (is_output_at row.consumed) profile.outputs) refl input holds
fed_holds profile clock row d Heartbeat point kept values is consumes input holds = holds
fed_holds profile clock row d Duplicate point kept values is consumes input holds = holds
fed_holds profile clock row d Old point kept values is consumes input holds = holds
fed_holds profile clock row d UnknownId point kept values is consumes input holds = holds
fed_holds profile clock row d WrongSize point kept values is consumes input holds = holds
fed_holds profile clock row d Malformed point kept values is consumes input holds = holds

-- ---- what an event leaves at an input that held these bytes

-- each input holds what it held
abbrev KeepsInputs : AdapterTable → AdapterTable → Type 0
KeepsInputs t next = (point : ℕ) (input : InputPoint) (kept : List ℕ) → find (is_at point) t.profile.inputs ≡ Some input → Holds point kept t.values → Holds point kept next.values

input_of_whole : (t : AdapterTable) (point : ℕ) (input : InputPoint) → IsWhole t → find (is_at point) t.profile.inputs ≡ Some input → IsInput t.profile point
input_of_whole t point input whole is = record { faultless = whole.shaped.faultless; input = input; there = is }

opened_keeps : (t : AdapterTable) (peer : Node) (request : OpenFields) (admitted : Admitted) → IsWhole t → KeepsInputs t (opened_table t (opened_row t peer request admitted) admitted)
unfolding opened_table
opened_keeps t peer request admitted whole = λ point input kept is holds. configured_holds t.profile t.profile.config admitted.segment point kept t.values refl (input_of_whole t point input whole is) holds

closed_keeps : (t : AdapterTable) (row : Row) → IsWhole t → KeepsInputs t (closed_table t row)
unfolding closed_table
closed_keeps t row whole = λ point input kept is holds. closed_holds t.profile point kept t.values row (input_of_whole t point input whole is) holds

without_keeps : (t : AdapterTable) (number : ℕ) → KeepsInputs t (without_stream t number)
unfolding without_stream
without_keeps t number = λ point input kept is holds. holds

with_keeps : (t : AdapterTable) (number : ℕ) (peer : Node) → KeepsInputs t (with_stream t number peer)
unfolding with_stream
with_keeps t number peer = λ point input kept is holds. holds

registered_keeps : (t : AdapterTable) (number : ℕ) → KeepsInputs t (registered_table t number)
unfolding registered_table
registered_keeps t number = λ point input kept is holds. holds

messages_keep : (t : AdapterTable) (next_id : ℕ) (m : Messaging) → KeepsInputs t (messages_table t next_id m)
unfolding messages_table
messages_keep t next_id m = λ point input kept is holds. holds

requests_keep : RequestsDo (λ t next. IsWhole t → KeepsInputs t next)
requests_keep = record {
  stays = λ t whole point input kept is holds. holds;
  opened = λ t peer request admitted e whole. opened_keeps t peer request admitted whole;
  closed = λ t triad row found whole. closed_keeps t row whole;
  unstreamed = λ t number whole. without_keeps t number;
  registered = λ t number whole. registered_keeps t number;
  messaged = λ t next_id m goes whole. messages_keep t next_id m;
  counted = λ t next openings keeps. keeps;
  tallied = λ t next counters keeps. keeps;
  taken = λ t block may whole point input kept is holds. holds;
}

fed_keeps : (t : AdapterTable) (peer : Node) (d : DatagramFields) (row : Row) (delivery : Delivery) → row_delivery t.profile t.clock row d ≡ delivery → find (is_for peer d.connection) t.rows ≡ Some row → IsWhole t → KeepsInputs t (accepted_table t peer d row delivery)
unfolding accepted_table
fed_keeps t peer d row delivery said found whole = λ point input kept is holds.
    fed_holds t.profile t.clock row d delivery point kept t.values said (each_found (ConsumesOutput t.profile) (is_for peer d.connection) t.rows row found whole.consume) (input_of_whole t point input whole is) holds

found_keeps : (t : AdapterTable) (peer : Node) (d : DatagramFields) (found : Option Row) → find (is_for peer d.connection) t.rows ≡ found → IsWhole t → KeepsInputs t (found_datagram t peer d found).1
found_keeps t peer d None is whole = λ point input kept is holds. holds
found_keeps t peer d (Some row) is whole =
    either (λ (next : Next). KeepsInputs t next.1) (is_accepted (row_delivery t.profile t.clock row d)) _ _ (fed_keeps t peer d row (row_delivery t.profile t.clock row d) refl is whole) (λ point input kept is holds. holds)

datagram_keeps : (t : AdapterTable) (peer : Node) (reading : Result DatagramFields DatagramFault) → IsWhole t → KeepsInputs t (datagram_of t peer reading).1
datagram_keeps t peer (Err fault) whole = λ point input kept is holds. holds
datagram_keeps t peer (Ok d) whole = found_keeps t peer d (find (is_for peer d.connection) t.rows) refl whole

advanced_keeps : (t : AdapterTable) (ms : ℕ) → IsWhole t → KeepsInputs t (produced_table (expired_table (clocked_table t ms)))
unfolding clocked_table expired_table produced_table
advanced_keeps t ms whole = λ point input kept is holds.
    expired_holds t.profile point kept (expired (record { 0 = t.clock.0 + ms }) t.rows) t.values (input_of_whole t point input whole is) holds

-- each input holds what the event writes there, or what it held
abbrev Writes : AdapterTable → Event → AdapterTable → Type 0
Writes t event next = (point : ℕ) (input : InputPoint) (kept : List ℕ) → find (is_at point) t.profile.inputs ≡ Some input → Holds point kept t.values → Holds point (unwrap_or (written_at point event) kept) next.values

put_by : (b : Bool) (point other : ℕ) (bytes kept : List ℕ) (values : List PointValue) → (other == point) ≡ b → Holds point kept values → Holds point (unwrap_or (cond b (Some bytes) None) kept) (put_value other bytes values)
put_by true point other bytes kept values is holds = subst (λ (n : ℕ). Holds point bytes (put_value n bytes values)) (sym (eqb-true other point is)) (put_at point bytes values kept holds)
put_by false point other bytes kept values is holds = put_beside point other bytes values kept is holds

written_writes : (t : AdapterTable) (other : ℕ) (bytes : List ℕ) → Writes t (Write other bytes) (changed_table (written_table t other bytes) other)
unfolding written_table changed_table
written_writes t other bytes = λ point input kept is holds. put_by (other == point) point other bytes kept t.values refl holds

write_writes : (t : AdapterTable) (point : ℕ) (bytes : List ℕ) (next : Next) → IsWrite t point bytes next → Writes t (Write point bytes) next.1
write_writes t point bytes next is = subst (λ (n : Next). Writes t (Write point bytes) n.1) is.said (written_writes t point bytes)

messages_write : (t next : AdapterTable) (event : Event) (next_id : ℕ) (m : Messaging) → Writes t event next → Writes t event (messages_table next next_id m)
unfolding messages_table
messages_write t next event next_id m writes = writes

tick_writes : (t : AdapterTable) (ms : ℕ) (next : Next) → IsTick t ms next → IsWhole t → Writes t (Tick ms) next.1
tick_writes t ms next is whole = subst (λ (n : Next). Writes t (Tick ms) n.1) is.said (messages_write t (advanced (clocked_table t ms)).1 (Tick ms) _ _ (advanced_keeps t ms whole))

event_writes : (t : AdapterTable) (event : Event) (next : Next) → adapter_step t event ≡ Ok next → IsWhole t → Writes t event next.1
unfolding received
event_writes t (Datagram peer bytes) next is whole = subst (λ (n : Next). KeepsInputs t n.1) (next_is _ _ is) (datagram_keeps t peer (datagram_reading bytes) whole)
event_writes t (Write point bytes) next is whole = write_writes t point bytes next (write_is t point bytes next is)
event_writes t (Tick ms) next is whole = tick_writes t ms next (tick_is t ms next is) whole
event_writes t other next is whole = control_does (λ t next. IsWhole t → KeepsInputs t next) requests_keep (λ t number peer free whole. with_keeps t number peer) t other next refl is whole

-- ---- each input of a whole table holds some bytes

pub some_bytes : (found : Option (List ℕ)) (len : ℕ) → option_map (λ (bytes : List ℕ). length bytes) found ≡ Some len → (kept : List ℕ) × (found ≡ Some kept)
some_bytes None len is = absurd (let e = is in cc)
some_bytes (Some kept) len is = (kept, refl)

pub input_holds : (t : AdapterTable) (point : ℕ) (input : InputPoint) → IsShaped t.profile t.values → find (is_at point) t.profile.inputs ≡ Some input → (kept : List ℕ) × (bytes_at t.values point ≡ Some kept)
input_holds t point input shaped is = some_bytes (bytes_at t.values point) input.len (length_is t.profile t.values point shaped ∙ input_fits t.profile point input input.len shaped.faultless is refl)

or_kept : (left : Option (List ℕ)) (kept : List ℕ) → Some (unwrap_or left kept) ≡ or_else left (Some kept)
or_kept None kept = refl
or_kept (Some first) kept = refl

pub steps_write : StepsWriteInputs
steps_write t event next is whole = λ point input there.
    let kept = input_holds t point input whole.shaped there in
    event_writes t event next is whole point input kept.0 there kept.1
    ∙ or_kept (written_at point event) kept.0
    ∙ ap (or_else (written_at point event)) (sym kept.1)

pub fresh_zeros : FreshInputsAreZeros
fresh_zeros profile none point input is = zeros_at point (data_points profile) input (input_found profile point input none is)
