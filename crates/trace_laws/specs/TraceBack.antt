-- A trace that is written is read as itself: a law of the definitions alone, which `reads_back` promises. Its profile
-- has to be valid, and no recorded reason may be a mismatch that carries a refused status, which is written as that
-- status alone. The numbers are those of their types.
use Rattle.std.specs.Prelude.{ℕ, ◌≡◌, ◌<◌, ◌^◌, ◌-◌, List, length, None, Ok, Err, IfSome}
use Rattle.std.specs.List.{All}
use Rattle.hex.specs.Hex.{IsBytes}
use Rattle.cip_epath.specs.declared.key.ElectronicKey.{ElectronicKey}
use Rattle.cip_types.specs.declared.ids.IdBlock.{IdBlock}
use Rattle.cip_types.specs.declared.names.Fault.{Fault}
use Rattle.cip_types.specs.declared.names.Identity.{Identity}
use Rattle.cip_types.specs.declared.names.Mismatch.{Mismatch}
use Rattle.cip_types.specs.declared.names.Mismatch.TheVariants as mismatch
use Rattle.cip_types.specs.declared.names.Triad.{Triad}
use Rattle.adapter_table.specs.declared.profile.Description.{Description}
use Rattle.adapter_table.specs.declared.profile.InputPoint.{InputPoint}
use Rattle.adapter_table.specs.declared.profile.OutputPoint.{OutputPoint}
use Rattle.adapter_table.specs.declared.profile.Profile.{Profile}
use Rattle.adapter_table.specs.Profiles.{profile_fault}
use Rattle.cip_events.specs.declared.event.Answer.{Answer}
use Rattle.cip_events.specs.declared.event.Event.{Event}
use Rattle.cip_events.specs.declared.event.Event.TheVariants as event
use Rattle.cip_events.specs.declared.event.Frame.{Frame}
use Rattle.cip_events.specs.declared.event.Notice.{Notice}
use Rattle.cip_events.specs.declared.event.Notice.TheVariants as notice
use Rattle.cip_events.specs.declared.event.Reason.{Reason}
use Rattle.cip_events.specs.declared.event.Reason.TheVariants as reason
use Rattle.cip_events.specs.declared.event.Recipient.{Recipient}
use Rattle.cip_events.specs.declared.event.Recipient.TheVariants as recipient
use Rattle.cip_events.specs.declared.event.OutgoingDatagram.{OutgoingDatagram}
use Rattle.cip_events.specs.declared.event.Unanswered.{Unanswered}
use Rattle.cip_events.specs.declared.event.Unanswered.TheVariants as unanswered
use Rattle.cip_events.specs.declared.event.Verdict.{Verdict}
use Rattle.cip_events.specs.declared.event.Verdict.TheVariants as verdict
use Rattle.cip_events.specs.Outcomes.{Outcome}
use Rattle.cip_tables.specs.declared.table.Config.TheVariants as config
use Rattle.scanner_table.specs.declared.profile.ScannerProfile.{ScannerProfile}
use Rattle.scanner_table.specs.declared.profile.SlotConfig.{SlotConfig}
use Rattle.scanner_table.specs.Profiles as scanner
use Rattle.trace_lines.specs.Limits.{LimitFits, limit_lines}
use Rattle.trace_text.specs.Reading.{Entry, trace_reading}
use Rattle.trace_text.specs.Written.{trace_text}

-- PROFILES

abbrev pub IdentityFits : Identity → Type 0
IdentityFits identity = (identity.vendor < 2 ^ 16) × (identity.device_type < 2 ^ 16) × (identity.product < 2 ^ 16) × (identity.major < 2 ^ 8) × (identity.minor < 2 ^ 8)

abbrev pub OutputFits : OutputPoint → Type 0
OutputFits point = (point.instance < 2 ^ 32) × (point.len < 2 ^ 64)

abbrev pub InputFits : InputPoint → Type 0
InputFits point = (point.instance < 2 ^ 32) × (point.len < 2 ^ 64)

pub record DescriptionFits (described : Description) : Type 0 where
  pub serial_fits : described.serial < 2 ^ 32
  pub name_fits : IsBytes described.name
  pub port_fits : described.port < 2 ^ 16
  pub speed_fits : described.speed < 2 ^ 32
  pub flags_fit : described.flags < 2 ^ 32
  pub mac_fits : IsBytes described.mac
  pub inactivity_fits : described.inactivity < 2 ^ 16

-- a class of the maker's own objects
abbrev pub ClassFits : ℕ → Type 0
ClassFits class = class < 2 ^ 32

-- a block of connection ids
abbrev pub IdsFit : IdBlock → Type 0
IdsFit block = (block.first < 2 ^ 32) × (block.count < 2 ^ 32)

pub record ProfileFits (profile : Profile) : Type 0 where
  pub incarnation_fits : profile.incarnation < 2 ^ 8
  pub node_fits : profile.node.0 < 2 ^ 32
  pub mask_fits : profile.mask < 2 ^ 32
  pub identity_fits : IdentityFits profile.identity
  pub outputs_fit : All OutputFits profile.outputs
  pub inputs_fit : All InputFits profile.inputs
  pub config_fits : IfSome profile.config InputFits
  pub input_only_fits : profile.input_only < 2 ^ 32
  pub listen_only_fits : profile.listen_only < 2 ^ 32
  pub description_fits : IfSome profile.description DescriptionFits
  pub limits_fit : All LimitFits (limit_lines profile.limits)
  pub objects_fit : All ClassFits profile.objects
  pub ids_fit : IfSome profile.ids IdsFit

-- PROFILES OF SCANNERS

-- the major revision of a key has seven bits by its type
abbrev pub KeyFits : ElectronicKey → Type 0
KeyFits key = (key.vendor < 2 ^ 16) × (key.device_type < 2 ^ 16) × (key.product < 2 ^ 16) × (key.minor < 2 ^ 8)

pub record SlotFits (slot : SlotConfig) : Type 0 where
  pub target_fits : slot.target.0 < 2 ^ 32
  pub config_fits : IfSome slot.config (λ instance. instance < 2 ^ 32)
  pub consumed_fits : slot.consumed < 2 ^ 32
  pub produced_fits : slot.produced < 2 ^ 32
  pub out_len_fits : slot.out_len < 2 ^ 64
  pub in_len_fits : slot.in_len < 2 ^ 64
  pub o_t_rpi_fits : slot.o_t_rpi < 2 ^ 32
  pub t_o_rpi_fits : slot.t_o_rpi < 2 ^ 32
  pub mult_fits : slot.mult < 2 ^ 8
  pub key_fits : IfSome slot.key KeyFits
  pub config_data_fits : IsBytes slot.config_data
  pub inhibit_fits : slot.inhibit < 2 ^ 8

pub record ScannerFits (profile : ScannerProfile) : Type 0 where
  pub incarnation_fits : profile.incarnation < 2 ^ 8
  pub node_fits : profile.node.0 < 2 ^ 32
  pub vendor_fits : profile.vendor < 2 ^ 16
  pub serial_fits : profile.serial < 2 ^ 32
  pub open_timeout_fits : profile.open_timeout < 2 ^ 64
  pub retry_fits : profile.retry < 2 ^ 64
  pub newer_fits : IfSome profile.newer (λ within. within < 2 ^ 32)
  pub openings_fit : IfSome profile.openings (λ most. most < 2 ^ 8)
  pub serials_fit : IfSome profile.serials (λ first. first < 2 ^ 16)
  pub ids_fit : IfSome profile.ids IdsFit
  pub slots_fit : All SlotFits profile.slots

-- EVENTS

abbrev pub EventFits : Event → Type 0
EventFits (event.Request peer bytes) = (peer.0 < 2 ^ 32) × IsBytes bytes
EventFits (event.StreamOpened stream peer) = (stream < 2 ^ 16) × (peer.0 < 2 ^ 32)
EventFits (event.Frame stream bytes) = (stream < 2 ^ 16) × IsBytes bytes
EventFits (event.StreamCut stream) = stream < 2 ^ 16
EventFits (event.Datagram peer bytes) = (peer.0 < 2 ^ 32) × IsBytes bytes
EventFits (event.Inquiry peer bytes) = (peer.0 < 2 ^ 32) × IsBytes bytes
EventFits (event.Write point bytes) = (point < 2 ^ 32) × IsBytes bytes
EventFits (event.Read point) = point < 2 ^ 32
EventFits (event.Tick ms) = ms < 2 ^ 32
EventFits (event.Mode run) = Unit {0}
EventFits (event.Start slot) = slot < 2 ^ 32
EventFits (event.Stop slot) = slot < 2 ^ 32
EventFits (event.Explicit target number bytes) = (target.0 < 2 ^ 32) × (number < 2 ^ 32) × IsBytes bytes
EventFits (event.Respond number status bytes) = (number < 2 ^ 64) × (status < 2 ^ 8) × IsBytes bytes
EventFits (event.Counters bytes) = IsBytes bytes
EventFits (event.Ids block) = IdsFit block

-- OUTCOMES

abbrev pub TriadFits : Triad → Type 0
TriadFits triad = (triad.serial < 2 ^ 16) × (triad.vendor < 2 ^ 16) × (triad.originator < 2 ^ 32)

abbrev pub FaultFits : Fault → Type 0
FaultFits fault = (fault.general < 2 ^ 8) × IfSome fault.extended (λ extended. extended < 2 ^ 16)

-- a mismatch carries no refused status
abbrev pub MismatchFits : Mismatch → Type 0
MismatchFits (mismatch.Refused fault) = ⊥
MismatchFits why = Unit {0}

abbrev pub ReasonFits : Reason → Type 0
ReasonFits (reason.Encap status) = status < 2 ^ 32
ReasonFits reason.Unreadable = Unit {0}
ReasonFits (reason.Cip fault) = FaultFits fault
ReasonFits (reason.Mismatch why) = MismatchFits why

abbrev pub UnansweredFits : Unanswered → Type 0
UnansweredFits (unanswered.Encap status) = status < 2 ^ 32
UnansweredFits why = Unit {0}

abbrev pub NoticeFits : Notice → Type 0
NoticeFits (notice.Opened triad id) = TriadFits triad × (id.0 < 2 ^ 32)
NoticeFits (notice.Closed triad) = TriadFits triad
NoticeFits (notice.Expired triad) = TriadFits triad
NoticeFits (notice.Dropped triad) = TriadFits triad
NoticeFits (notice.Replaced triad) = TriadFits triad
NoticeFits (notice.StreamClosed stream) = stream < 2 ^ 16
NoticeFits (notice.Slot slot state) = (slot < 2 ^ 32) × (state < 2 ^ 8)
NoticeFits (notice.Refused slot why) = (slot < 2 ^ 32) × ReasonFits why
NoticeFits (notice.NoIds slot) = slot < 2 ^ 32
NoticeFits (notice.Reset type) = type < 2 ^ 8
NoticeFits (notice.Unanswered number why) = (number < 2 ^ 32) × UnansweredFits why

abbrev pub RecipientFits : Recipient → Type 0
RecipientFits (recipient.Stream stream) = stream < 2 ^ 16
RecipientFits (recipient.Peer node) = node.0 < 2 ^ 32

abbrev pub FrameFits : Frame → Type 0
FrameFits frame = RecipientFits frame.to × IsBytes frame.bytes

abbrev pub OutgoingDatagramFits : OutgoingDatagram → Type 0
OutgoingDatagramFits outgoing = (outgoing.address.0 < 2 ^ 32) × All (λ node. node.0 < 2 ^ 32) outgoing.nodes × IsBytes outgoing.bytes

abbrev pub VerdictFits : Verdict → Type 0
VerdictFits (verdict.Value bytes) = IsBytes bytes
VerdictFits (verdict.Replied number status additional bytes) = (number < 2 ^ 32) × (status < 2 ^ 8) × IsBytes additional × IsBytes bytes
VerdictFits (verdict.Asked number service class instance attribute bytes) = (number < 2 ^ 64) × (service < 2 ^ 8) × (class < 2 ^ 32) × (instance < 2 ^ 32) × IfSome attribute (λ named. named < 2 ^ 32) × IsBytes bytes
VerdictFits given = Unit {0}

pub record AnswerFits (answer : Answer) : Type 0 where
  pub verdict_fits : VerdictFits answer.verdict
  pub frames_fit : All FrameFits answer.frames
  pub datagrams_fit : All OutgoingDatagramFits answer.datagrams
  pub notices_fit : All NoticeFits answer.notices

abbrev pub OutcomeFits : Outcome → Type 0
OutcomeFits (Ok answer) = AnswerFits answer
OutcomeFits (Err fault) = Unit {0}

-- an event and its recorded outcome
abbrev pub EntryFits : Entry → Type 0
EntryFits entry = EventFits entry.0 × IfSome entry.1 OutcomeFits

-- THE TRACE

-- an adapter's trace
abbrev pub TraceReadsBack : Type 0
TraceReadsBack = (profile : Profile) (events : List Entry) → ProfileFits profile → profile_fault profile ≡ None → All EntryFits events → length events < 2 ^ 64 - 1
    → trace_reading (trace_text (record { config = config.Adapter profile; events = events })) ≡ Ok (record { config = config.Adapter profile; events = events })

-- a scanner's trace
abbrev pub ScannerTraceReadsBack : Type 0
ScannerTraceReadsBack = (profile : ScannerProfile) (events : List Entry) → ScannerFits profile → scanner.profile_fault profile ≡ None → All EntryFits events → length events < 2 ^ 64 - 1
    → trace_reading (trace_text (record { config = config.Scanner profile; events = events })) ≡ Ok (record { config = config.Scanner profile; events = events })
