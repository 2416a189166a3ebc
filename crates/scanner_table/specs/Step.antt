-- One event at a scanner's table.
use Rattle.std.specs.Prelude.{ℕ, false, if◌then◌else◌, [], ◌∷◌, map, replicate, Result, Ok, Err, Option, Some, None}
use Rattle.cip_events.specs.declared.event.Event.{Event}
use Rattle.cip_events.specs.declared.event.Event.TheVariants.{Request, StreamOpened, Frame, StreamCut, Datagram, Inquiry, Write, Read, Tick, Mode, Start, Stop, Explicit, Respond, Counters, Ids}
use Rattle.cip_events.specs.declared.event.StepFault.{StepFault}
use Rattle.cip_events.specs.declared.event.StepFault.TheVariants.{NotAllowedNow}
use Rattle.cip_events.specs.declared.event.Verdict.TheVariants.{Done}
use Rattle.cip_events.specs.Answers.{plain_answer}
use Rattle.cip_types.specs.declared.ids.IdBlock.{IdBlock}
use Rattle.cip_types.specs.Ids.{may_take, with_block}
use Rattle.scanner_table.specs.declared.profile.SlotConfig.{SlotConfig}
use Rattle.scanner_table.specs.declared.profile.ScannerProfile.{ScannerProfile}
use Rattle.scanner_table.specs.declared.slot.Slot.{Slot}
use Rattle.scanner_table.specs.declared.slot.SlotState.TheVariants.{Idle}
use Rattle.scanner_table.specs.declared.table.ScannerTable.{ScannerTable}
use Rattle.scanner_table.specs.Effects.{Next}
use Rattle.scanner_table.specs.Profiles.{first_ids}
use Rattle.scanner_table.specs.Explicit.{explicit_request}
use Rattle.scanner_table.specs.Encapsulation.{stream_opened, frame, stream_cut}
use Rattle.scanner_table.specs.Datagrams.{received}
use Rattle.scanner_table.specs.Points.{write, read, mode, start, stop}
use Rattle.scanner_table.specs.Ticks.{tick}

-- the scanner holds a further block of connection ids
abbrev pub taken_table : ScannerTable → IdBlock → ScannerTable
taken_table t block = record t { ids = with_block t.ids block }

-- a further block of connection ids, which has none of those that the scanner holds
unfoldable pub take_ids : ScannerTable → IdBlock → Result Next StepFault
take_ids t block = if may_take t.ids block then Ok (plain_answer Done, taken_table t block) else Err NotAllowedNow

-- The first fault, or the answer and the next table. A fault leaves the table unchanged. The definition has no fault for
-- lack of memory: contracts of devices say where that may come.
abbrev pub scanner_step : ScannerTable → Event → Result Next StepFault
scanner_step t (Request peer bytes) = Err NotAllowedNow
scanner_step t (StreamOpened stream peer) = stream_opened t stream peer
scanner_step t (Frame stream bytes) = frame t stream bytes
scanner_step t (StreamCut stream) = stream_cut t stream
scanner_step t (Datagram peer bytes) = Ok (received t peer bytes)
scanner_step t (Inquiry peer bytes) = Err NotAllowedNow
scanner_step t (Write point bytes) = write t point bytes
scanner_step t (Read point) = read t point
scanner_step t (Tick ms) = tick t ms
scanner_step t (Mode run) = Ok (mode t run)
scanner_step t (Start slot) = start t slot
scanner_step t (Stop slot) = stop t slot
scanner_step t (Explicit target number bytes) = explicit_request t target number bytes
scanner_step t (Respond number status bytes) = Err NotAllowedNow
scanner_step t (Counters bytes) = Err NotAllowedNow
scanner_step t (Ids block) = take_ids t block

-- a slot before its first start: its connection is not desired, and output and image are zeros
abbrev pub fresh_slot : SlotConfig → Slot
fresh_slot config = record {
  state = Idle;
  desired_up = false;
  retry_at = record { 0 = 0 };
  output = replicate config.out_len 0;
  image = replicate config.in_len 0;
}

-- the connection serial number of the first opening: 1, if the profile has no other one
abbrev pub first_serial : Option ℕ → ℕ
first_serial None = 1
first_serial (Some first) = first

-- the table of a fresh scanner: idle, with clock 0, without streams and pending explicit requests. Its numbers begin with 1,
-- but for the serial number, with which the profile may have another first one.
abbrev pub scanner_table : ScannerProfile → ScannerTable
scanner_table profile = record {
  profile = profile;
  slots = map fresh_slot profile.slots;
  run = false;
  clock = record { 0 = 0 };
  ids = first_ids profile ∷ [];
  next_id = 1;
  next_serial = first_serial profile.serials;
  next_request = 1;
  streams = [];
  explicit = [];
}
