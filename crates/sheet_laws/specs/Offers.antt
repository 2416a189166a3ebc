-- What a data sheet offers, and what a fresh adapter answers to it (Volume 1, chapter 3, Forward_Open service; chapter 7,
-- electronic data sheets).
use Rattle.std.specs.Prelude.{ℕ, ◌≡◌, ◌≤◌, ◌⊎◌, ◌+◌, Bool, true, false, Some, None, Result, Ok, Err}
use Rattle.cip_types.specs.declared.names.Node.{Node}
use Rattle.cip_epath.specs.Written.{path_text, PathFits}
use Rattle.cip_netparams.specs.declared.ConnectionType.{ConnectionType}
use Rattle.cip_netparams.specs.declared.ConnectionType.TheVariants.{Multicast, PointToPoint}
use Rattle.cip_netparams.specs.declared.Trigger.TheVariants.{Cyclic, ChangeOfState}
use Rattle.cip_netparams.specs.Word.{trigger_of}
use Rattle.cip_fwdopen.specs.Open.{OpenFields}
use Rattle.cip_router.specs.declared.refusal.Refusal.{Refusal}
use Rattle.cip_router.specs.declared.refusal.Refusal.TheVariants.{NoSupport}
use Rattle.cip_productions.specs.declared.kind.Kind.{Kind}
use Rattle.cip_productions.specs.declared.kind.Kind.TheVariants.{ExclusiveOwner, InputOnly, ListenOnly}
use Rattle.messaging.specs.Sound.{EachOf}
use Rattle.adapter_table.specs.declared.profile.Profile.{Profile}
use Rattle.adapter_table.specs.Checks.{Admitted}
use Rattle.adapter_table.specs.Profiles.{first_ids, profile_fault}
use Rattle.adapter_table.specs.Intervals.{whole_request}
use Rattle.adapter_table.specs.StatedLimits.{limited_admission}
use Rattle.adapter_table.specs.Step.{adapter_table}
use Rattle.adapter_table.specs.Describing.{is_variable}
use Rattle.eds_text.specs.declared.connections.SheetConnection.{SheetConnection}
use Rattle.eds_text.specs.declared.offer.OfferedIntervals.{OfferedIntervals}
use Rattle.eds_text.specs.Connections.{connections_of}
use Rattle.eds_text.specs.Manager.{sheet_path}
use Rattle.eds_text.specs.Offer.{offered_intervals}

-- WHAT A TOOL MAKES OF A SHEET

-- a packet interval in the range of Param1
pub record IsInRange (intervals : OfferedIntervals) (us : ℕ) : Type 0 where
  pub least : intervals.least ≤ us
  pub most : us ≤ intervals.most

-- the size of O->T datagrams: a sequence count, and an owner's data behind a run/idle header
abbrev pub sheet_o_t_size : Kind → ℕ → ℕ
sheet_o_t_size ExclusiveOwner len = len + 6
sheet_o_t_size InputOnly len = len + 2
sheet_o_t_size ListenOnly len = len + 2

-- a T->O type of the sheet: multicast or point to point, and multicast alone of listen only
abbrev pub IsSheetType : Kind → ConnectionType → Type 0
IsSheetType ListenOnly kind = kind ≡ Multicast
IsSheetType other kind = (kind ≡ Multicast) ⊎ (kind ≡ PointToPoint)

-- a trigger of the sheet: cyclic, or change of state
abbrev pub IsSheetTrigger : Bool → ℕ → Type 0
IsSheetTrigger false byte = trigger_of byte ≡ Some Cyclic
IsSheetTrigger true byte = (trigger_of byte ≡ Some Cyclic) ⊎ (trigger_of byte ≡ Some ChangeOfState)

-- the request is made of this connection of the sheet of a profile: all else, as ids, priorities and multiplier, is as it is
pub record IsMadeOf (profile : Profile) (c : SheetConnection) (request : OpenFields) : Type 0 where
  pub o_t_rpi : IsInRange (offered_intervals profile) request.o_t_rpi
  pub t_o_rpi : IsInRange (offered_intervals profile) request.t_o_rpi
  pub o_t_kind : request.o_t_params.kind ≡ PointToPoint
  pub t_o_kind : IsSheetType c.kind request.t_o_params.kind
  pub o_t_size : request.o_t_params.size ≡ sheet_o_t_size c.kind c.o_t_len
  pub t_o_size : request.t_o_params.size ≡ c.t_o_len + 2
  pub o_t_single : request.o_t_params.redundant ≡ false
  pub t_o_single : request.t_o_params.redundant ≡ false
  -- the sheet offers fixed sizes, which a described device asks for
  pub o_t_fixed : is_variable profile.description request.o_t_params ≡ false
  pub t_o_fixed : is_variable profile.description request.t_o_params ≡ false
  pub multiplier : request.multiplier ≤ 7
  pub trigger : IsSheetTrigger c.changes request.trigger
  pub path : request.path ≡ path_text (sheet_path profile.config c)

-- WHAT THE ADAPTER ANSWERS

-- it is admitted as a connection of this kind, between these points
abbrev pub IsAdmittedAs : SheetConnection → Result Admitted Refusal → Type 0
IsAdmittedAs c (Ok admitted) = (admitted.kind ≡ c.kind) × ((admitted.consumed ≡ c.consumed) × (admitted.produced ≡ c.produced))
IsAdmittedAs c (Err why) = ⊥

-- a listen-only connection is refused, since a fresh adapter has no connection that supports it
abbrev pub IsAnswered : Kind → SheetConnection → Result Admitted Refusal → Type 0
IsAnswered ListenOnly c said = said ≡ Err NoSupport
IsAnswered other c said = IsAdmittedAs c said

-- So a fresh adapter answers each request that is made of the connection. A described device takes it for a request of whole milliseconds
-- (whole_request). The numbers of points are in their fields.
abbrev pub IsTaken : Profile → SheetConnection → Type 0
IsTaken profile c =
    (peer : Node) (request : OpenFields) → PathFits (sheet_path profile.config c) → IsMadeOf profile c request →
    IsAnswered c.kind c (limited_admission (adapter_table profile) peer (whole_request profile.description request))

-- it begins with an id for a connection, and one for a group
abbrev pub HasIds : Profile → Type 0
HasIds profile = 2 ≤ (first_ids profile).count

-- so it is of each connection of the sheet of a faultless profile that has the ids
abbrev pub SheetsAreAdmitted : Type 0
SheetsAreAdmitted = (profile : Profile) → profile_fault profile ≡ None → HasIds profile → EachOf (IsTaken profile) (connections_of profile)
