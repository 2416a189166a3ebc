-- What a described adapter makes of a Forward_Open, and any other: the statuses of refusals, and data of variable size.
use Rattle.std.proofs.Common.{◌≡◌, ℕ, Bool, true, false, [], Option, Some, None, Ok, Err, refl}
use Rattle.cip_netparams.specs.declared.ConnectionType.{ConnectionType}
use Rattle.cip_netparams.specs.declared.ConnectionType.TheVariants.{Null, PointToPoint}
use Rattle.cip_netparams.specs.declared.NetParams.{NetParams}
use Rattle.cip_netparams.specs.declared.Priority.TheVariants.{Scheduled}
use Rattle.cip_netparams.specs.declared.Trigger.TheVariants.{Cyclic}
use Rattle.cip_fwdopen.specs.Open.{OpenFields}
use Rattle.cip_productions.specs.declared.kind.Kind.TheVariants.{ExclusiveOwner}
use Rattle.cip_router.specs.declared.refusal.Refusal.TheVariants as refusal
use Rattle.adapter_table.specs.declared.profile.Description.{Description}
use Rattle.adapter_table.specs.Checks.{Admitted}
use Rattle.adapter_table.specs.Describing.{fixed, opening_code}

abbrev described : Option Description
described = Some (record { serial = 1; name = []; port = 44818; speed = 100; flags = 0xF; mac = []; inactivity = 120 })

abbrev params : ConnectionType → (variable redundant : Bool) → NetParams
params kind variable redundant = record { size = 10; variable = variable; priority = Scheduled; kind = kind; redundant = redundant }

-- a request with this multiplier and these parameters
abbrev request : ℕ → NetParams → NetParams → OpenFields
request multiplier o_t t_o = record {
  priority_tick = 10;
  ticks = 14;
  o_t_id = record { 0 = 0 };
  t_o_id = record { 0 = 0x20000001 };
  triad = record { serial = 1; vendor = 0x1234; originator = 0x12345678 };
  multiplier = multiplier;
  o_t_rpi = 10000;
  o_t_params = o_t;
  t_o_rpi = 10000;
  t_o_params = t_o;
  trigger = 1;
  path = [];
}

-- point to point, of a fixed size, and not redundant
abbrev plain : NetParams
plain = params PointToPoint false false

abbrev variable : NetParams
variable = params PointToPoint true false

-- ---- statuses

a_multiplier_above_7 : (opening_code described (request 8 plain plain) refusal.Parameter ≡ 0x0133) × (opening_code None (request 8 plain plain) refusal.Parameter ≡ 0x0108)
a_multiplier_above_7 = (refl, refl)

a_redundant_owner : (opening_code described (request 7 (params PointToPoint false true) plain) refusal.Parameter ≡ 0x0125) × (opening_code None (request 7 (params PointToPoint false true) plain) refusal.Parameter ≡ 0x0108)
a_redundant_owner = (refl, refl)

both_types_null : (opening_code described (request 0 (params Null false false) (params Null false false)) refusal.ConsumedType ≡ 0x0132) × (opening_code None (request 0 (params Null false false) (params Null false false)) refusal.ConsumedType ≡ 0x0123)
both_types_null = (refl, refl)

one_type_null : opening_code described (request 0 (params Null false false) plain) refusal.ConsumedType ≡ 0x0123
one_type_null = refl

variable_sizes : (opening_code described (request 0 variable plain) refusal.ConsumedSize ≡ 0x011F) × (opening_code described (request 0 plain variable) refusal.ProducedSize ≡ 0x0120)
variable_sizes = (refl, refl)

other_sizes : (opening_code described (request 0 plain plain) refusal.ConsumedSize ≡ 0x0127) × (opening_code described (request 0 plain plain) refusal.ProducedSize ≡ 0x0128) × (opening_code None (request 0 variable variable) refusal.ConsumedSize ≡ 0x0127)
other_sizes = (refl, refl, refl)

-- data of class 3 may be shorter in either case, so that a size of 0 is a wrong size
abbrev message : OpenFields
message = record (request 0 variable variable) { trigger = 0xA3 }

class3_sizes : (opening_code described message refusal.ConsumedSize ≡ 0x0127) × (opening_code described message refusal.ProducedSize ≡ 0x0128)
class3_sizes = (refl, refl)

every_other_refusal : (opening_code described (request 8 variable variable) refusal.Ownership ≡ 0x0106) × (opening_code described (request 8 variable variable) refusal.Segment ≡ 0x0315)
every_other_refusal = (refl, refl)

-- ---- variable sizes

abbrev admits : Admitted
admits = record {
  kind = ExclusiveOwner;
  consumed = 150;
  produced = 100;
  multicast = false;
  trigger = Cyclic;
  inhibit = 0;
  o_t_api_ms = 10;
  t_o_api_ms = 10;
  watchdog = record { 0 = 40 };
  group = None;
  segment = None;
}

fixed_sizes_are_served : fixed described (request 0 plain plain) (Ok admits) ≡ Ok admits
fixed_sizes_are_served = refl

variable_sizes_are_refused : (fixed described (request 0 variable variable) (Ok admits) ≡ Err refusal.ConsumedSize) × (fixed described (request 0 plain variable) (Ok admits) ≡ Err refusal.ProducedSize)
variable_sizes_are_refused = (refl, refl)

a_refusal_stays : fixed described (request 0 variable variable) (Err refusal.NoSupport) ≡ Err refusal.NoSupport
a_refusal_stays = refl

without_a_description_any_size_is_served : fixed None (request 0 variable variable) (Ok admits) ≡ Ok admits
without_a_description_any_size_is_served = refl
