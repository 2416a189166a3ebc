-- One event at a device's table.
use Rattle.std.specs.Prelude.{ℕ, ◌==◌, length, map, find, Bool, if◌then◌else◌, List, [], ◌∷◌, Option, Some, None, Result, Ok, Err}
use Rattle.cip_events.specs.declared.event.Event.{Event}
use Rattle.cip_events.specs.declared.event.Event.TheVariants.{Request, StreamOpened, Frame, StreamCut, Datagram, Inquiry, Write, Read, Tick, Mode, Start, Stop, Explicit, Respond, Counters, Ids}
use Rattle.cip_events.specs.declared.event.Answer.{Answer}
use Rattle.cip_events.specs.declared.event.StepFault.{StepFault}
use Rattle.cip_events.specs.declared.event.StepFault.TheVariants as fault
use Rattle.cip_events.specs.declared.event.Verdict.TheVariants.{Done}
use Rattle.cip_types.specs.declared.ids.IdBlock.{IdBlock}
use Rattle.cip_types.specs.Ids.{may_take, with_block}
use Rattle.messaging.specs.Changes.{fresh_messaging}
use Rattle.adapter_table.specs.declared.profile.InputPoint.{InputPoint}
use Rattle.adapter_table.specs.declared.profile.Profile.{Profile}
use Rattle.adapter_table.specs.declared.table.AdapterTable.{AdapterTable}
use Rattle.adapter_table.specs.Counters.{link_len, no_counters}
use Rattle.adapter_table.specs.Counting.{counted_link}
use Rattle.adapter_table.specs.declared.profile.Description.{Description}
use Rattle.adapter_table.specs.Profiles.{first_ids, first_request, is_at}
use Rattle.adapter_table.specs.Points.{opening_values, put_value, bytes_at}
use Rattle.adapter_table.specs.Rows.{written_row}
use Rattle.adapter_table.specs.Inquiries.{inquired}
use Rattle.adapter_table.specs.Requests.{Next, requested}
use Rattle.cip_events.specs.Answers.{plain_answer, value_answer}
use Rattle.adapter_table.specs.Streams.{stream_opened, stream_cut}
use Rattle.adapter_table.specs.Encapsulation.{frame}
use Rattle.adapter_table.specs.Answering.{respond}
use Rattle.adapter_table.specs.Datagrams.{received}
use Rattle.cip_productions.specs.Productions.{sent}
use Rattle.adapter_table.specs.Productions.{productions_on_change, changed_row}
use Rattle.adapter_table.specs.Ticks.{tick}

abbrev pub read_of : AdapterTable → Option (List ℕ) → Result Next StepFault
read_of t None = Err fault.NoSuchPoint
read_of t (Some bytes) = Ok (value_answer bytes, t)

-- the bytes of an output, an input or the configuration
unfoldable pub read : AdapterTable → ℕ → Result Next StepFault
read t point = read_of t (bytes_at t.values point)

-- the input holds other bytes, and each of its producers has new data
unfoldable pub written_table : AdapterTable → ℕ → List ℕ → AdapterTable
written_table t point bytes = record t {
  rows = map (written_row point) t.rows;
  values = put_value point bytes t.values;
}

-- each change-of-state producer of the input has produced, or is due when it may
unfoldable pub changed_table : AdapterTable → ℕ → AdapterTable
changed_table t point = record t { rows = map (changed_row t.clock point) t.rows }

-- the datagrams that the change-of-state producers of the input send at once
abbrev pub write_answer : AdapterTable → ℕ → List ℕ → Answer
write_answer written point bytes = record (plain_answer Done) { datagrams = map sent (productions_on_change written.clock point bytes written.rows) }

abbrev pub written : AdapterTable → ℕ → List ℕ → Next
written t point bytes = (write_answer t point bytes, changed_table t point)

abbrev pub write_of : AdapterTable → ℕ → List ℕ → Option InputPoint → Result Next StepFault
write_of t point bytes None = Err fault.NoSuchPoint
write_of t point bytes (Some input) =
    if length bytes == input.len then Ok (written (written_table t point bytes) point bytes) else Err fault.WrongLength

-- other bytes for an input
unfoldable pub write : AdapterTable → ℕ → List ℕ → Result Next StepFault
write t point bytes = write_of t point bytes (find (is_at point) t.profile.inputs)

-- of a description, if there is one, and of bytes of the right length or not
abbrev pub counters_with : AdapterTable → List ℕ → Option Description → (long : Bool) → Result Next StepFault
counters_with t bytes None long = Err fault.NotAllowedNow
counters_with t bytes (Some d) long = if long then Ok (plain_answer Done, counted_link t bytes) else Err fault.WrongLength

-- the host says what it has counted of the interface of a described device
unfoldable pub counters_said : AdapterTable → List ℕ → Result Next StepFault
counters_said t bytes = counters_with t bytes t.profile.description (length bytes == link_len)

-- the device holds a further block of connection ids
abbrev pub taken_table : AdapterTable → IdBlock → AdapterTable
taken_table t block = record t { ids = with_block t.ids block }

-- a further block of connection ids, which has none of those that the device holds
unfoldable pub take_ids : AdapterTable → IdBlock → Result Next StepFault
take_ids t block =
    if may_take t.ids block then Ok (plain_answer Done, taken_table t block) else Err fault.NotAllowedNow

-- Either the first fault, the table staying, or an answer and the next table. Want of memory is never named.
abbrev pub adapter_step : AdapterTable → Event → Result Next StepFault
adapter_step t (Request peer bytes) = Ok (requested t peer bytes)
adapter_step t (StreamOpened stream peer) = stream_opened t stream peer
adapter_step t (Frame stream bytes) = frame t stream bytes
adapter_step t (StreamCut stream) = stream_cut t stream
adapter_step t (Datagram peer bytes) = Ok (received t peer bytes)
adapter_step t (Inquiry peer bytes) = Ok (inquired t peer bytes)
adapter_step t (Write point bytes) = write t point bytes
adapter_step t (Read point) = read t point
adapter_step t (Tick ms) = tick t ms
adapter_step t (Mode run) = Err fault.NotAllowedNow
adapter_step t (Start slot) = Err fault.NotAllowedNow
adapter_step t (Stop slot) = Err fault.NotAllowedNow
adapter_step t (Explicit target number bytes) = Err fault.NotAllowedNow
adapter_step t (Respond number status bytes) = respond t number status bytes
adapter_step t (Counters bytes) = counters_said t bytes
adapter_step t (Ids block) = take_ids t block

-- the table of a fresh adapter: no connections, zeros at all points, clock 0, the first id of its block, no streams, no messages, no
-- openings, nothing counted
abbrev pub adapter_table : Profile → AdapterTable
adapter_table profile = record {
  profile = profile;
  rows = [];
  values = opening_values profile;
  clock = record { 0 = 0 };
  ids = first_ids profile ∷ [];
  next_id = 1;
  streams = [];
  messaging = fresh_messaging (first_request profile.ids);
  openings = [];
  counters = no_counters;
}
