-- The refusal of a request to open a connection is one of two replies.
use Rattle.std.proofs.Common.{◌≡◌, ℕ, Bool, true, false, List, Some, refl}
use Rattle.std.specs.Prelude.{◌&&◌, ◌==◌}
use Rattle.std.specs.Result.{result_ok}
use Rattle.cip_types.specs.declared.names.Fault.{Fault}
use Rattle.cip_fwdopen.specs.Open.{OpenFields}
use Rattle.cip_fwdopen.specs.declared.reply.AcceptableIntervals.{AcceptableIntervals}
use Rattle.cip_router.specs.declared.refusal.Refusal.{Refusal}
use Rattle.cip_router.specs.Replies.{ReplyFields, refused, unacceptable}
use Rattle.adapter_table.specs.declared.profile.Profile.{Profile}
use Rattle.adapter_table.specs.Connections.{Row}
use Rattle.adapter_table.specs.Checks.{is_multicast}
use Rattle.adapter_table.specs.Describing.{opening_fault}
use Rattle.adapter_table.specs.Intervals.{least_us, joined_by, acceptable, refuses_one, is_interval_refusal, refused_with, is_described, open_refusal}
use Rattle.adapter_table.specs.Paths.{opening_path}

with_either : (R : ReplyFields → Type 0) (profile : Profile) (names : Bool) (service : ℕ) (request : OpenFields) (why : Refusal) (a : AcceptableIntervals)
    → ((fault : Fault) → (fault.general == 0) ≡ false → R (refused service fault (Some request.triad))) → ((a : AcceptableIntervals) → R (unacceptable service a request.triad)) → R (refused_with profile names service request why a)
with_either R profile true service request why a plain named = named a
with_either R profile false service request why a plain named = plain (opening_fault profile.description request why) refl

-- what holds of a refusal of a request, and of one that names acceptable intervals, holds of it
pub refusal_either : (R : ReplyFields → Type 0) (profile : Profile) (rows : List Row) (service : ℕ) (request : OpenFields) (why : Refusal)
    → ((fault : Fault) → (fault.general == 0) ≡ false → R (refused service fault (Some request.triad))) → ((a : AcceptableIntervals) → R (unacceptable service a request.triad)) → R (open_refusal profile rows service request why)
refusal_either R profile rows service request why plain named =
    let a = acceptable (least_us profile.limits.least_rpi) (joined_by rows (is_multicast request.t_o_params.kind) (result_ok (opening_path profile.description request.path))) request in
    with_either R profile (is_described profile.description && (is_interval_refusal why && refuses_one a)) service request why a plain named
