-- Samples of the definitions at a small scanner's table, worked out by hand.
use Rattle.std.proofs.Common.{◌≡◌, ℕ, true, false, [], ◌∷◌, Some, None, refl}
use Rattle.std.specs.List.{AllByRecursion}
use Rattle.std.specs.Option.{option_map}
use Rattle.cip_types.specs.Ids.{ids_of_incarnation}
use Rattle.cip_netparams.specs.declared.Trigger.TheVariants.{Cyclic}
use Rattle.cip_datagram.specs.Datagram.{DatagramFields}
use Rattle.cip_datagram.specs.Reading as datagrams
use Rattle.cip_events.specs.declared.event.Event.{Event}
use Rattle.cip_events.specs.declared.event.Event.TheVariants.{Datagram, Tick}
use Rattle.cip_productions.specs.declared.kind.Kind.TheVariants.{ExclusiveOwner}
use Rattle.scanner_table.specs.declared.profile.ScannerProfile.{ScannerProfile}
use Rattle.scanner_table.specs.declared.profile.SlotConfig.{SlotConfig}
use Rattle.scanner_table.specs.declared.slot.SlotConnection.{SlotConnection}
use Rattle.scanner_table.specs.declared.slot.SlotState.TheVariants.{Established}
use Rattle.scanner_table.specs.declared.table.ScannerTable.{ScannerTable}
use Rattle.scanner_table.specs.Datagrams.{received}
use Rattle.scanner_table.specs.Explicit.{explicit_timed_out}
use Rattle.scanner_table.specs.Opening.{opened, ready_opened}
use Rattle.scanner_table.specs.Productions.{produced_table}
use Rattle.scanner_table.specs.Runs.{table_after}
use Rattle.scanner_table.specs.Ticks.{all_expired, all_given_up, tick}
use Rattle.cip_tables.specs.declared.table.DeviceTable.TheVariants.{Scanner}
use Rattle.cip_tables.specs.Step.{step}
use Rattle.device_laws.specs.Newest.{accepted_at, acceptances}
use Rattle.freshness_laws.specs.Passing.{passed}
use Rattle.freshness_laws.specs.InTime.{first_timeout}
use Rattle.freshness_laws.specs.Images.{taken_at, Repeats, is_open}

-- the exclusive owner of an output of two bytes, with an input of two bytes
abbrev owner : SlotConfig
owner = record {
  target = record { 0 = 0xC0A8010A };
  kind = ExclusiveOwner;
  config = None;
  consumed = 150;
  produced = 100;
  out_len = 2;
  in_len = 2;
  o_t_rpi = 10000;
  t_o_rpi = 10000;
  mult = 2;
  multicast = false;
  key = None;
  config_data = [];
  trigger = Cyclic;
  inhibit = 0;
}

abbrev profile : ScannerProfile
profile = record {
  incarnation = 0x20;
  node = record { 0 = 0xC0A80114 };
  vendor = 0x1234;
  serial = 0x12345678;
  open_timeout = 2000;
  retry = 3000;
  newer = None;
  tidy = false;
  openings = None;
  serials = None;
  ids = None;
  slots = owner ∷ [];
}

-- the connection that came from request 7, and accepted number 7 with count 3
abbrev connection : SlotConnection
connection = record {
  opening = 7;
  link = record { triad = record { serial = 5; vendor = 0x1234; originator = 0x12345678 }; o_t_id = record { 0 = 0x10000001 }; t_o_id = record { 0 = 0x20000006 } };
  o_t_api_ms = 10;
  t_o_api_ms = 10;
  watchdog = record { 0 = 160 };
  last = Some (record { number = 7; count = 3 });
  deadline = record { 0 = 660 };
  production = record {
    producer = 0;
    sequence = 1;
    count = 0;
    written = true;
    due = record { 0 = 600 };
    address = record { 0 = 0xC0A8010A };
    trigger = Cyclic;
    inhibit = 0;
    last = None;
  };
}

-- at 600 milliseconds
abbrev open_table : ScannerTable
open_table = record {
  profile = profile;
  slots = record { state = Established connection; desired_up = true; retry_at = record { 0 = 0 }; output = 1 ∷ 2 ∷ []; image = 3 ∷ 4 ∷ [] } ∷ [];
  run = false;
  clock = record { 0 = 600 };
  ids = ids_of_incarnation 0x20 ∷ [];
  next_id = 7;
  next_serial = 6;
  next_request = 8;
  streams = [];
  explicit = [];
}

-- two bytes for the connection, with a number and a count
abbrev arrives : ℕ → ℕ → ℕ → Event
arrives number count byte = Datagram (record { 0 = 0xC0A8010A }) (0x02 ∷ 0x00 ∷ 0x02 ∷ 0x80 ∷ 0x08 ∷ 0x00 ∷ 0x06 ∷ 0x00 ∷ 0x00 ∷ 0x20 ∷ number ∷ 0x00 ∷ 0x00 ∷ 0x00 ∷ 0xB1 ∷ 0x00 ∷ 0x04 ∷ 0x00 ∷ count ∷ 0x00 ∷ byte ∷ byte ∷ [])

-- ---- time

-- a tick that is too long passes no time
two_ticks : passed (Scanner open_table) (Tick 1 ∷ Tick 60001 ∷ arrives 8 4 9 ∷ Tick 9 ∷ []) ≡ 10
unfolding step tick received datagrams.datagram_reading all_expired all_given_up explicit_timed_out ready_opened produced_table opened
two_ticks = refl

least_first : first_timeout 160 ≡ 10000
least_first = refl

long_first : first_timeout 20000 ≡ 20000
long_first = refl

-- ---- data for a connection

-- another count brings data
new_taken : option_map (λ (d : DatagramFields). d.payload) (taken_at 0 7 open_table (arrives 8 4 9)) ≡ Some (9 ∷ 9 ∷ [])
unfolding received datagrams.datagram_reading
new_taken = refl

-- the same count does not, though the datagram is accepted
same_not_taken : taken_at 0 7 open_table (arrives 8 3 9) ≡ None
unfolding received datagrams.datagram_reading
same_not_taken = refl

same_accepted : accepted_at 0 7 open_table (arrives 8 3 9) ≡ record { datagram = record { number = 8; count = 3 }; applied = false } ∷ []
unfolding received datagrams.datagram_reading
same_accepted = refl

-- nothing is for another opening of the slot
other_not_taken : taken_at 0 6 open_table (arrives 8 4 9) ≡ None
unfolding received datagrams.datagram_reading
other_not_taken = refl

-- data behind which others were accepted are not the newest
older_are_not : AllByRecursion (Repeats 4) (acceptances 0 7 (table_after open_table (arrives 8 4 9 ∷ [])) (arrives 9 5 6 ∷ [])) → ⊥
unfolding received datagrams.datagram_reading
older_are_not all = absurd (let e : 5 ≡ 4 = all.0 in cc)

repeated_are : AllByRecursion (Repeats 4) (acceptances 0 7 (table_after open_table (arrives 8 4 9 ∷ [])) (arrives 9 4 6 ∷ []))
unfolding received datagrams.datagram_reading
repeated_are = (refl, tt)

is_open_by_seven : is_open 0 7 open_table ≡ true
is_open_by_seven = refl

is_not_by_six : is_open 0 6 open_table ≡ false
is_not_by_six = refl
