-- What a described device makes of a Forward_Open beside the checks that every adapter has: it serves data of a fixed size alone, and
-- names what it refuses by the status that the standard has for it
-- (Volume 1, chapter 3, Connection Manager extended status codes).
use Rattle.std.specs.Prelude.{ℕ, ◌&&◌, not, nat_lt, Bool, true, false, if◌then◌else◌, [], ◌∷◌, Option, Some, None, Result, Ok, Err}
use Rattle.cip_types.specs.Cases.{first_case_or}
use Rattle.cip_types.specs.declared.names.Fault.{Fault}
use Rattle.cip_netparams.specs.declared.ConnectionType.{ConnectionType}
use Rattle.cip_netparams.specs.declared.ConnectionType.TheVariants.{Null, Multicast, PointToPoint, Reserved}
use Rattle.cip_netparams.specs.declared.NetParams.{NetParams}
use Rattle.cip_netparams.specs.Word.{is_message_trigger}
use Rattle.cip_fwdopen.specs.Open.{OpenFields}
use Rattle.cip_router.specs.declared.refusal.Refusal.{Refusal}
use Rattle.cip_router.specs.declared.refusal.Refusal.TheVariants as refusal
use Rattle.cip_router.specs.Refusals.{refusal_code}
use Rattle.adapter_table.specs.declared.profile.Description.{Description}
use Rattle.adapter_table.specs.Checks.{Admitted}

-- DATA OF VARIABLE SIZE

-- the device serves data of a fixed size alone, and these are of variable size
abbrev pub is_variable : Option Description → NetParams → Bool
is_variable None params = false
is_variable (Some d) params = params.variable

-- 17: a connection that the fifteen checks admit asks for O->T data (0x011F), for T->O data (0x0120) of variable size
abbrev pub fixed : Option Description → OpenFields → Result Admitted Refusal → Result Admitted Refusal
fixed description request (Err why) = Err why
fixed description request (Ok admitted) = first_case_or (Ok admitted) (
    (is_variable description request.o_t_params, Err refusal.ConsumedSize)
    ∷ (is_variable description request.t_o_params, Err refusal.ProducedSize)
    ∷ [])

-- THE STATUS OF A REFUSAL

abbrev pub is_null : ConnectionType → Bool
is_null Null = true
is_null Multicast = false
is_null PointToPoint = false
is_null Reserved = false

-- neither direction has a connection
abbrev pub is_null_open : OpenFields → Bool
is_null_open request = is_null request.o_t_params.kind && is_null request.t_o_params.kind

-- the extended status of a refusal by a described device
abbrev pub described_code : OpenFields → Refusal → ℕ
-- the multiplier is above 7, or else a redundant owner is requested
described_code request refusal.Parameter = if nat_lt 7 request.multiplier then 0x0133 else 0x0125
-- both types are null, which asks for no connection, or the O->T type alone is not served
described_code request refusal.ConsumedType = if is_null_open request then 0x0132 else 0x0123
-- the O->T data of class 1 are of variable size, or have another size than the point; those of class 3 have no size
described_code request refusal.ConsumedSize = if request.o_t_params.variable && not (is_message_trigger request.trigger) then 0x011F else 0x0127
-- and the T->O data
described_code request refusal.ProducedSize = if request.t_o_params.variable && not (is_message_trigger request.trigger) then 0x0120 else 0x0128
described_code request why = refusal_code why

-- the extended status of a refusal
abbrev pub opening_code : Option Description → OpenFields → Refusal → ℕ
opening_code None request why = refusal_code why
opening_code (Some d) request why = described_code request why

-- general status 1, connection failure, with it
abbrev pub opening_fault : Option Description → OpenFields → Refusal → Fault
opening_fault description request why = record { general = 1; extended = Some (opening_code description request why) }
