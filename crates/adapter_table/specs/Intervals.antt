-- The refusal of a request to open a connection. A described device that refuses packet intervals says which ones it accepts: its clock
-- counts milliseconds, so that the least is 1,000 us or the maker's (Volume 1, chapter 3, Connection Manager extended status codes).
use Rattle.std.specs.Prelude.{ℕ, ◌*◌, ◌/◌, ◌==◌, ◌&&◌, ◌||◌, not, nat_lt, Bool, true, false, if◌then◌else◌, List, Option, Some, None}
use Rattle.std.specs.Result.{result_ok}
use Rattle.cip_epath.specs.Path.{PathFields}
use Rattle.cip_netparams.specs.Rate.{is_interval, interval_ms}
use Rattle.cip_fwdopen.specs.Open.{OpenFields}
use Rattle.cip_fwdopen.specs.declared.reply.AcceptableIntervals.{AcceptableIntervals}
use Rattle.cip_router.specs.declared.refusal.Refusal.{Refusal}
use Rattle.cip_router.specs.declared.refusal.Refusal.TheVariants as refusal
use Rattle.cip_router.specs.Replies.{ReplyFields, refused, unacceptable}
use Rattle.adapter_table.specs.declared.profile.Description.{Description}
use Rattle.adapter_table.specs.declared.profile.Profile.{Profile}
use Rattle.adapter_table.specs.Connections.{Row}
use Rattle.adapter_table.specs.Checks.{group_of, joined, is_multicast}
use Rattle.adapter_table.specs.Describing.{opening_fault}
use Rattle.adapter_table.specs.Paths.{opening_path}

-- WHAT IS ASKED

-- A described device grants no interval that is longer than the requested one, and its clock counts milliseconds: it takes a request
-- for one of whole milliseconds, rounded down. Below a millisecond that is 0, which is refused.
abbrev pub whole_us : Option Description → ℕ → ℕ
whole_us None rpi = rpi
whole_us (Some d) rpi = if is_interval rpi then 1000 * (rpi / 1000) else rpi

-- the request that a device takes a request for
abbrev pub whole_request : Option Description → OpenFields → OpenFields
whole_request description request = record request { o_t_rpi = whole_us description request.o_t_rpi; t_o_rpi = whole_us description request.t_o_rpi }

-- ONE DIRECTION

-- milliseconds in microseconds, at most the greatest interval
abbrev pub ms_us : ℕ → ℕ
ms_us ms = if nat_lt 10000 ms then 10000000 else 1000 * ms

-- the least interval, in microseconds: a millisecond, or the least that the maker states, in whole milliseconds
abbrev pub least_us : Option ℕ → ℕ
least_us None = 1000
least_us (Some least) = ms_us (interval_ms least)

-- what is said of an interval: 2, it is below the least; 3, it is above the greatest; 0, it is accepted
abbrev pub interval_says : (least rpi : ℕ) → ℕ
interval_says least rpi = if nat_lt rpi least then 2 else if nat_lt 10000000 rpi then 3 else 0

-- the interval that is accepted in its place
abbrev pub accepted_us : (least rpi : ℕ) → ℕ
accepted_us least rpi = if nat_lt rpi least then least else if nat_lt 10000000 rpi then 10000000 else rpi

-- THE GROUP

-- the first connection of the group that the request joins
abbrev pub joined_by : List Row → Bool → Option PathFields → Option Row
joined_by rows multicast None = None
joined_by rows multicast (Some path) = joined multicast (group_of rows path.produced)

-- what is said of the T->O interval, where the group that is joined has one: 4, it is another than the group's
abbrev pub t_o_says : (least : ℕ) → Option Row → (rpi : ℕ) → ℕ
t_o_says least None rpi = interval_says least rpi
t_o_says least (Some member) rpi = if interval_ms rpi == member.t_o_api_ms then 0 else 4

abbrev pub accepted_t_o_us : (least : ℕ) → Option Row → (rpi : ℕ) → ℕ
accepted_t_o_us least None rpi = accepted_us least rpi
accepted_t_o_us least (Some member) rpi = ms_us member.t_o_api_ms

-- THE REFUSAL

abbrev pub acceptable : (least : ℕ) → Option Row → OpenFields → AcceptableIntervals
acceptable least group request = record {
  o_t_says = interval_says least request.o_t_rpi;
  t_o_says = t_o_says least group request.t_o_rpi;
  o_t_us = accepted_us least request.o_t_rpi;
  t_o_us = accepted_t_o_us least group request.t_o_rpi;
}

-- one of the two is not accepted
abbrev pub refuses_one : AcceptableIntervals → Bool
refuses_one a = not (a.o_t_says == 0) || not (a.t_o_says == 0)

abbrev pub is_interval_refusal : Refusal → Bool
is_interval_refusal refusal.PacketInterval = true
is_interval_refusal why = false

-- the refusal names what is acceptable if an interval is what is refused
abbrev pub refused_with : Profile → Bool → (service : ℕ) → OpenFields → Refusal → AcceptableIntervals → ReplyFields
refused_with profile true service request why a = unacceptable service a request.triad
refused_with profile false service request why a = refused service (opening_fault profile.description request why) (Some request.triad)

abbrev pub is_described : Option Description → Bool
is_described None = false
is_described (Some d) = true

-- the reply to a request that is refused, with its triad
abbrev pub open_refusal : Profile → List Row → (service : ℕ) → OpenFields → Refusal → ReplyFields
open_refusal profile rows service request why =
    let a = acceptable (least_us profile.limits.least_rpi) (joined_by rows (is_multicast request.t_o_params.kind) (result_ok (opening_path profile.description request.path))) request in
    refused_with profile (is_described profile.description && (is_interval_refusal why && refuses_one a)) service request why a
