-- An adapter and scanners on a segment, and the acts of small schedules.
use Rattle.std.specs.Prelude.{ℕ, true, false, List, [], ◌∷◌, map, slice_get, Option, Some, None, Result, Ok, Err}
use Rattle.cip_types.specs.declared.ids.IdBlock.{IdBlock}
use Rattle.std.specs.Option.{option_map}
use Rattle.cip_events.specs.declared.event.Delivery.{Delivery}
use Rattle.cip_netparams.specs.declared.Trigger.TheVariants.{Cyclic}
use Rattle.cip_productions.specs.declared.kind.Kind.TheVariants.{ExclusiveOwner, InputOnly}
use Rattle.adapter_table.specs.Points.{bytes_at}
use Rattle.scanner_table.specs.Profiles.{first_ids}
use Rattle.scanner_table.specs.declared.profile.ScannerProfile.{ScannerProfile}
use Rattle.scanner_table.specs.declared.profile.SlotConfig.{SlotConfig}
use Rattle.scanner_table.specs.declared.slot.Slot.{Slot}
use Rattle.cip_tables.specs.declared.table.Config.{Config}
use Rattle.cip_tables.specs.declared.table.Config.TheVariants as config
use Rattle.cip_tables.specs.declared.table.DeviceTable.{DeviceTable}
use Rattle.cip_tables.specs.declared.table.DeviceTable.TheVariants.{Adapter, Scanner}
use Rattle.segment_world.specs.declared.act.Act.{Act}
use Rattle.segment_world.specs.declared.act.Act.TheVariants.{Local, NextFrame, OpenStream}
use Rattle.segment_world.specs.declared.act.ActFault.{ActFault}
use Rattle.segment_world.specs.declared.act.Call.TheVariants as call
use Rattle.segment_world.specs.Configs.{opening_world}
use Rattle.segment_world.specs.declared.transit.direction.Direction.TheVariants.{Forth, Back}
use Rattle.samples.specs.Devices.{common}
use Rattle.device_laws.specs.Productions.{Production}
use Rattle.schedule_laws.specs.Chronicle.{Acceptance, Chronicle, Establishment, blank, chronicles}

-- DEVICES

-- the exclusive owner of the adapter's output 150, which gathers the input 100, both of 4 bytes, each 10 ms
abbrev pub owner : SlotConfig
owner = record {
  target = common.node;
  kind = ExclusiveOwner;
  config = Some 151;
  consumed = 150;
  produced = 100;
  out_len = 4;
  in_len = 4;
  o_t_rpi = 10000;
  t_o_rpi = 10000;
  mult = 2;
  multicast = false;
  key = None;
  config_data = [];
  trigger = Cyclic;
  inhibit = 0;
}

-- a slot that gathers the same input from its group, by the heartbeat point 152
abbrev pub gatherer : SlotConfig
gatherer = record owner { kind = InputOnly; consumed = 152; out_len = 0; multicast = true }

-- a scanner at 192.168.1.20 with one slot, and one like it at 192.168.1.21
abbrev pub scanner : SlotConfig → ScannerProfile
scanner slot = record {
  incarnation = 0x20;
  node = record { 0 = 0xC0A80114 };
  vendor = 0x1234;
  serial = 0x12345678;
  open_timeout = 2000;
  retry = 3000;
  newer = None;
  tidy = false;
  openings = None;
  serials = None;
  ids = None;
  slots = slot ∷ [];
}

abbrev pub neighbour : SlotConfig → ScannerProfile
neighbour slot = record (scanner slot) { incarnation = 0x30; node = record { 0 = 0xC0A80115 }; serial = 0x12345679 }

-- the blocks of connection ids that a scanner begins with
abbrev pub blocks_of : ScannerProfile → List IdBlock
blocks_of profile = first_ids profile ∷ []

-- the adapter at index 0, and one scanner at index 1, which owns the output
abbrev pub owned : List Config
owned = config.Adapter common ∷ config.Scanner (scanner owner) ∷ []

-- the adapter is device 0, and two scanners are devices 1 and 2, which gather the input from its group
abbrev pub shared : List Config
shared = config.Adapter common ∷ config.Scanner (scanner gatherer) ∷ config.Scanner (neighbour gatherer) ∷ []

-- the adapter is device 0, and two scanners are devices 1 and 2, which both want the output
abbrev pub rivals : List Config
rivals = config.Adapter common ∷ config.Scanner (scanner owner) ∷ config.Scanner (neighbour owner) ∷ []

-- ACTS

-- a scanner opens the stream of this number to the adapter, both ends learn of it, and a session is registered
abbrev pub meets : ℕ → ℕ → List Act
meets device stream = OpenStream device 0 ∷ NextFrame stream Forth ∷ NextFrame stream Back ∷ NextFrame stream Forth ∷ NextFrame stream Back ∷ []

-- a scanner's slot opens over the stream: the Forward_Open goes forth, and its reply back
abbrev pub opens : ℕ → ℕ → List Act
opens device stream = Local device (call.Start 0) ∷ NextFrame stream Forth ∷ NextFrame stream Back ∷ []

-- it closes in the same way
abbrev pub closes : ℕ → ℕ → List Act
closes device stream = Local device (call.Stop 0) ∷ NextFrame stream Forth ∷ NextFrame stream Back ∷ []

abbrev pub runs_mode : ℕ → Act
runs_mode device = Local device (call.Mode true)

abbrev pub writes : ℕ → ℕ → ℕ → Act
writes device point byte = Local device (call.Write point (byte ∷ byte ∷ byte ∷ byte ∷ []))

abbrev pub ticks : ℕ → Act
ticks device = Local device (call.Tick 10)

-- WHAT A SCHEDULE LEAVES

abbrev pub played : List Config → List Act → Result Chronicle ActFault
played configs acts = chronicles (Ok (blank (opening_world configs))) acts

-- what is seen of a production: its producer, its two indexes, whether it was made in run mode, and its value
abbrev pub Seen : Type 0
Seen = ℕ × ℕ × ℕ × ℕ × List ℕ

abbrev pub seen : Production → Seen
seen p = (p.producer.device, p.producer.number, p.index, p.new_data, p.made.value)

-- and of its datagram: the sequence number and the count
abbrev pub numbers : Production → ℕ × ℕ
numbers p = (p.made.datagram.sequence, p.made.datagram.count)

-- what is seen of an acceptance: the number of the connection that accepted, the production's producer and index, and what became of it
abbrev pub Taken : Type 0
Taken = ℕ × ℕ × ℕ × ℕ × Delivery

abbrev pub taken : Acceptance → Taken
taken a = (a.consumer.number, a.production.producer.device, a.production.producer.number, a.production.index, a.delivery)

-- what a point of an adapter holds, or the image of a scanner's slot
abbrev pub image_of : Slot → List ℕ
image_of slot = slot.image

abbrev pub point_of : ℕ → Option DeviceTable → Option (List ℕ)
point_of point None = None
point_of point (Some (Adapter t)) = bytes_at t.values point
point_of point (Some (Scanner t)) = option_map image_of (slice_get t.slots point)

abbrev pub holds : Chronicle → ℕ → ℕ → Option (List ℕ)
holds c device point = point_of point (slice_get c.story.world.tables device)

-- what was accepted, the newest first, and what a point holds in the end
abbrev pub accepted_at : ℕ → ℕ → Chronicle → List Taken × Option (List ℕ)
accepted_at device point c = (map taken c.accepted, holds c device point)

abbrev pub request_of : Establishment → ℕ
request_of e = e.request

-- what was produced, and the request numbers of the openings that slots were established by, the newest first
abbrev pub produced_by_openings : Chronicle → List Seen × List ℕ
produced_by_openings c = (map seen c.produced, map request_of c.established)

-- what is seen of a chronicle, where no act has a fault
abbrev pub observed : {X : Type 0} → (Chronicle → X) → Result Chronicle ActFault → Option X
observed f (Err fault) = None
observed f (Ok c) = Some (f c)
