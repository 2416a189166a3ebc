-- A small scanner, with its frames and datagrams byte for byte.
use Rattle.std.proofs.Common.{ℕ, ◌+◌, true, false, List, [], ◌∷◌, Some, None, Result, Ok, Err}
use Rattle.cip_types.specs.declared.names.Node.{Node}
use Rattle.cip_netparams.specs.declared.Trigger.TheVariants.{Cyclic}
use Rattle.cip_events.specs.declared.event.Event.{Event}
use Rattle.cip_events.specs.declared.event.Event.TheVariants.{StreamOpened, Frame}
use Rattle.cip_events.specs.declared.event.Notice.{Notice}
use Rattle.cip_events.specs.declared.event.Notice.TheVariants as notice
use Rattle.cip_events.specs.declared.event.Reason.{Reason}
use Rattle.cip_events.specs.declared.event.Recipient.TheVariants as recipient
use Rattle.cip_events.specs.declared.event.StepFault.{StepFault}
use Rattle.cip_events.specs.declared.event.Verdict.{Verdict}
use Rattle.cip_events.specs.declared.event.Verdict.TheVariants.{Done}
use Rattle.cip_events.specs.Answers.{plain_answer}
use Rattle.cip_events.specs.Outcomes.{Outcome}
use Rattle.cip_productions.specs.declared.kind.Kind.TheVariants.{ExclusiveOwner, InputOnly}
use Rattle.scanner_table.specs.declared.profile.ScannerProfile.{ScannerProfile}
use Rattle.scanner_table.specs.declared.profile.SlotConfig.{SlotConfig}
use Rattle.scanner_table.specs.declared.table.ScannerTable.{ScannerTable}
use Rattle.scanner_table.specs.Effects.{Next}
use Rattle.scanner_table.specs.Step.{scanner_step, scanner_table}

-- ---- the scanner

-- its target, at 192.168.1.10
abbrev pub target : Node
target = record { 0 = 0xC0A8010A }

-- another one, at 192.168.1.11
abbrev pub other_target : Node
other_target = record { 0 = 0xC0A8010B }

-- the exclusive owner of the output 150, which gathers the input 100, both of 4 bytes, each 10 ms
abbrev pub owner : SlotConfig
owner = record {
  target = target;
  kind = ExclusiveOwner;
  config = Some 151;
  consumed = 150;
  produced = 100;
  out_len = 4;
  in_len = 4;
  o_t_rpi = 10000;
  t_o_rpi = 10000;
  mult = 2;
  multicast = false;
  key = None;
  config_data = [];
  trigger = Cyclic;
  inhibit = 0;
}

-- an input-only connection to the group of the same input, by the heartbeat point 152
abbrev pub gatherer : SlotConfig
gatherer = record owner { kind = InputOnly; consumed = 152; out_len = 0; multicast = true }

-- the scanner at 192.168.1.20 with these slots; a target has 2 seconds to answer, and 3 pass before another try
abbrev pub profile : List SlotConfig → ScannerProfile
profile slots = record {
  incarnation = 0x20;
  node = record { 0 = 0xC0A80114 };
  vendor = 0x1234;
  serial = 0x12345678;
  open_timeout = 2000;
  retry = 3000;
  newer = None;
  tidy = false;
  openings = None;
  serials = None;
  ids = None;
  slots = slots;
}

-- ---- events and what they give

abbrev pub said : Result Next StepFault → Outcome
said (Err why) = Err why
said (Ok next) = Ok next.0

abbrev pub left : ScannerTable → Result Next StepFault → ScannerTable
left t (Err why) = t
left t (Ok next) = next.1

-- what events give, one after another
abbrev pub reported : ScannerTable → List Event → List Outcome
reported t [] = []
reported t (event ∷ events) = let now = scanner_step t event in said now ∷ reported (left t now) events

-- the table after them
abbrev pub after : ScannerTable → List Event → ScannerTable
after t [] = t
after t (event ∷ events) = after (left t (scanner_step t event)) events

-- the answer sends nothing and has no notices
abbrev pub quiet : Outcome
quiet = Ok (plain_answer Done)

abbrev pub only : Verdict → Outcome
only verdict = Ok (plain_answer verdict)

-- the answer has these notices alone
abbrev pub reports_notices : List Notice → Outcome
reports_notices notices = Ok (record (plain_answer Done) { notices = notices })

-- slot 0 changes to this state
abbrev pub becomes : ℕ → Outcome
becomes state = reports_notices (notice.Slot 0 state ∷ [])

-- the reply to slot 0 is refused, and the slot becomes idle
abbrev pub refuses : Reason → Outcome
refuses why = reports_notices (notice.Refused 0 why ∷ notice.Slot 0 0 ∷ [])

-- these bytes go over stream 0, and slot 0 changes to this state
abbrev pub sends_request : List ℕ → ℕ → Outcome
sends_request bytes state = Ok (record (plain_answer Done) { frames = record { to = recipient.Stream 0; bytes = bytes } ∷ []; notices = notice.Slot 0 state ∷ [] })

-- ---- messages

-- RegisterSession
abbrev pub registration : List ℕ
registration = 0x65 ∷ 0x00 ∷ 0x04 ∷ 0x00 ∷ 0x00 ∷ 0x00 ∷ 0x00 ∷ 0x00 ∷ 0x00 ∷ 0x00 ∷ 0x00 ∷ 0x00 ∷ 0x00 ∷ 0x00 ∷ 0x00 ∷ 0x00 ∷ 0x00 ∷ 0x00 ∷ 0x00 ∷ 0x00 ∷ 0x00 ∷ 0x00 ∷ 0x00 ∷ 0x00 ∷ 0x01 ∷ 0x00 ∷ 0x00 ∷ 0x00 ∷ []

-- its reply: session 1
abbrev pub registered : List ℕ
registered = 0x65 ∷ 0x00 ∷ 0x04 ∷ 0x00 ∷ 0x01 ∷ 0x00 ∷ 0x00 ∷ 0x00 ∷ 0x00 ∷ 0x00 ∷ 0x00 ∷ 0x00 ∷ 0x00 ∷ 0x00 ∷ 0x00 ∷ 0x00 ∷ 0x00 ∷ 0x00 ∷ 0x00 ∷ 0x00 ∷ 0x00 ∷ 0x00 ∷ 0x00 ∷ 0x00 ∷ 0x01 ∷ 0x00 ∷ 0x00 ∷ 0x00 ∷ []

-- a message of SendRRData in session 1 with a status, a sender context and so many bytes of data
abbrev pub message : ℕ → ℕ → ℕ → List ℕ → List ℕ
message status number len rest =
    0x6F ∷ 0 ∷ (16 + len) ∷ 0 ∷ 1 ∷ 0 ∷ 0 ∷ 0 ∷ status ∷ 0 ∷ 0 ∷ 0 ∷ number ∷ 0 ∷ 0 ∷ 0 ∷ 0 ∷ 0 ∷ 0 ∷ 0 ∷ 0 ∷ 0 ∷ 0 ∷ 0 ∷ rest

-- the same, with the data in their items
abbrev pub items : ℕ → ℕ → List ℕ → List ℕ
items number len text = message 0 number len (0 ∷ 0 ∷ 0 ∷ 0 ∷ 0 ∷ 0 ∷ 2 ∷ 0 ∷ 0 ∷ 0 ∷ 0 ∷ 0 ∷ 0xB2 ∷ 0 ∷ len ∷ 0 ∷ text)

-- the Forward_Open of the owner's opening, by its serial number and the last byte of its id
abbrev pub forward_open : ℕ → ℕ → List ℕ
forward_open serial id = 0x54 ∷ 0x02 ∷ 0x20 ∷ 0x06 ∷ 0x24 ∷ 0x01 ∷ 0x0A ∷ 0x0E ∷ 0x00 ∷ 0x00 ∷ 0x00 ∷ 0x00 ∷ id ∷ 0x00 ∷ 0x00 ∷ 0x20 ∷ serial ∷ 0x00 ∷ 0x34 ∷ 0x12 ∷ 0x78 ∷ 0x56 ∷ 0x34 ∷ 0x12 ∷ 0x02 ∷ 0x00 ∷ 0x00 ∷ 0x00 ∷ 0x10 ∷ 0x27 ∷ 0x00 ∷ 0x00 ∷ 0x0A ∷ 0x48 ∷ 0x10 ∷ 0x27 ∷ 0x00 ∷ 0x00 ∷ 0x06 ∷ 0x48 ∷ 0x01 ∷ 0x04 ∷ 0x20 ∷ 0x04 ∷ 0x24 ∷ 0x97 ∷ 0x2C ∷ 0x96 ∷ 0x2C ∷ 0x64 ∷ []

-- its frame, by the number of the request: openings of a scanner that sends nothing else have equal numbers
abbrev pub opening_frame : ℕ → List ℕ
opening_frame n = items n 50 (forward_open n n)

-- a success, by serial number, O->T id and T->O id
abbrev pub success : ℕ → ℕ → ℕ → List ℕ
success serial o_t id = 0xD4 ∷ 0x00 ∷ 0x00 ∷ 0x00 ∷ o_t ∷ 0x00 ∷ 0x00 ∷ 0x10 ∷ id ∷ 0x00 ∷ 0x00 ∷ 0x20 ∷ serial ∷ 0x00 ∷ 0x34 ∷ 0x12 ∷ 0x78 ∷ 0x56 ∷ 0x34 ∷ 0x12 ∷ 0x10 ∷ 0x27 ∷ 0x00 ∷ 0x00 ∷ 0x10 ∷ 0x27 ∷ 0x00 ∷ 0x00 ∷ 0x00 ∷ 0x00 ∷ []

-- the target opens the first opening, with the O->T id 0x10000001
abbrev pub opened_frame : List ℕ
opened_frame = items 1 30 (success 1 1 1)

-- the refusal of an output that another one owns, by serial number
abbrev pub ownership : ℕ → List ℕ
ownership serial = 0xD4 ∷ 0x00 ∷ 0x01 ∷ 0x01 ∷ 0x06 ∷ 0x01 ∷ serial ∷ 0x00 ∷ 0x34 ∷ 0x12 ∷ 0x78 ∷ 0x56 ∷ 0x34 ∷ 0x12 ∷ 0x00 ∷ 0x00 ∷ []

-- ---- tables

-- a session is registered over stream 0
abbrev pub registers : List Event
registers = StreamOpened 0 target ∷ Frame 0 registered ∷ []

abbrev pub connected : ScannerTable
connected = after (scanner_table (profile (owner ∷ []))) registers
