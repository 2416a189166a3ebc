-- The fifteen checks in groups: those before the points are looked up, and those of the points.
use Rattle.std.specs.Prelude.{ℕ, ◌≡◌, Option, Some, None, Result, Ok, Err, take, drop}
use Rattle.std.specs.Result.{result_ok}
use Rattle.cip_epath.specs.declared.fault.PathFault.{PathFault}
use Rattle.cip_epath.specs.declared.fault.PathFault.TheVariants as path_fault
use Rattle.cip_epath.specs.Path.{PathFields}
use Rattle.cip_netparams.specs.Word.{trigger_of}
use Rattle.cip_netparams.specs.Rate.{interval_ms, timeout}
use Rattle.cip_fwdopen.specs.Open.{OpenFields}
use Rattle.cip_router.specs.declared.refusal.Refusal.{Refusal}
use Rattle.cip_router.specs.declared.refusal.Refusal.TheVariants as refusal
use Rattle.adapter_table.specs.Checks.{View, Points, Check, first_of, is_multicast, checks, segment_check, points_of, served_trigger, served_inhibit, stored, Admitted, admitted_at}
use Rattle.app_rules.specs.declared.class3_connections.Class3Times.{Class3Times}
use Rattle.app_rules.specs.declared.questions.Transport.{Transport}

-- the result of checks: something if none fails, or the refusal of the first that does
abbrev pub IsPassed : {A : Type 0} → Check → Result A Refusal → Type 0
IsPassed checked (Ok found) = checked ≡ None
IsPassed checked (Err why) = checked ≡ Some why

-- the next result, if the check passes
abbrev pub after : {A : Type 0} → Check → Result A Refusal → Result A Refusal
after None next = next
after (Some why) next = Err why

-- the next result, of what was found
abbrev pub and_then : {A B : Type 0} → Result A Refusal → (A → Result B Refusal) → Result B Refusal
and_then (Ok found) next = next found
and_then (Err why) next = Err why

-- a path was read; without one its segments are in a wrong order
abbrev pub path_read : Option PathFields → Result PathFields PathFault
path_read None = Err path_fault.Shape
path_read (Some path) = Ok path

-- the path, if its segments read; segments in a wrong order give none
abbrev pub readable : Result PathFields PathFault → Result (Option PathFields) Refusal
readable path = after (segment_check path) (Ok (result_ok path))

-- checks 3 to 8, of a path that reads or whose segments are in a wrong order
unfoldable pub request_check : View → OpenFields → Option PathFields → Check
request_check view request path = first_of (take 10 (drop 1 (checks view request (path_read path) (Err refusal.Path))))

-- checks 10 to 15, of points that exist
unfoldable pub points_check : View → OpenFields → Points → Check
points_check view request points = first_of (drop 12 (checks view request (path_read None) (Ok points)))

-- the production inhibit time that a path asks for, if it names one
abbrev pub path_inhibit : Option PathFields → Option ℕ
path_inhibit None = None
path_inhibit (Some path) = path.inhibit

-- the transport that a request of this path asks for
abbrev pub transport_of : OpenFields → Option PathFields → Transport
transport_of request path = record {
  multicast = is_multicast request.t_o_params.kind;
  trigger = served_trigger (trigger_of request.trigger);
  inhibit = served_inhibit (served_trigger (trigger_of request.trigger)) (path_inhibit path);
  o_t_api_ms = interval_ms request.o_t_rpi;
  t_o_api_ms = interval_ms request.t_o_rpi;
  watchdog = record { 0 = timeout request.multiplier (interval_ms request.o_t_rpi) };
}

-- the connection that these points are admitted as with this transport
abbrev pub admission_at : Points → Transport → Admitted
admission_at points transport = record {
  kind = points.consumer.kind;
  consumed = points.path.consumed;
  produced = points.path.produced;
  multicast = transport.multicast;
  trigger = transport.trigger;
  inhibit = transport.inhibit;
  o_t_api_ms = transport.o_t_api_ms;
  t_o_api_ms = transport.t_o_api_ms;
  watchdog = transport.watchdog;
  group = points.group;
  segment = stored points.path.config points.path.segment;
}

-- the connection that these points are admitted as, if their checks pass
abbrev pub staged_points : View → OpenFields → Points → Result Admitted Refusal
staged_points view request points = after (points_check view request points) (Ok (admitted_at request points))

abbrev pub staged_path : View → OpenFields → Option PathFields → Result Admitted Refusal
staged_path view request path =
    after (request_check view request path) (and_then (points_of view request path) (staged_points view request))

abbrev pub staged : View → OpenFields → Result PathFields PathFault → Result Admitted Refusal
staged view request path = and_then (readable path) (staged_path view request)

-- the times of a class 3 connection that a request asks for
abbrev pub class3_times : OpenFields → Class3Times
class3_times request = record {
  o_t_api_ms = interval_ms request.o_t_rpi;
  t_o_api_ms = interval_ms request.t_o_rpi;
  watchdog = record { 0 = timeout request.multiplier (interval_ms request.o_t_rpi) };
}
