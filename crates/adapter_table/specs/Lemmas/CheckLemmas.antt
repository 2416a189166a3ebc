-- What passing the checks says.
use Rattle.std.proofs.Common.{◌-◌, ◌≡◌, ◌≤◌, ℕ, ◌+◌, nat_lt, nat_le, Bool, true, false, not, ◌&&◌, ◌==◌, subst, List, [], ◌∷◌, length, Option, Some, None, Result, Ok, Err, refl, sym, ◌∙◌, ap, arith}
use Rattle.std.specs.List.{list_any}
use Rattle.std.specs.Result.{result_ok}
use Rattle.std.proofs.lemmas.Bool.Decides.{nat_tests}
use Rattle.std.proofs.lemmas.Bool.{or_parts}
use Rattle.messaging.specs.Class3Connections.{has_class3_triad}
use Rattle.base_lemmas.specs.Numbers.{same_if_not}
use Rattle.cip_types.specs.Ids.{end_number}
use Rattle.cip_router.specs.declared.refusal.Refusal.{Refusal}
use Rattle.cip_router.specs.declared.refusal.Refusal.TheVariants as refusal
use Rattle.cip_epath.specs.declared.fault.PathFault.{PathFault}
use Rattle.cip_epath.specs.Path.{PathFields}
use Rattle.cip_netparams.specs.Rate.{interval_ms, timeout}
use Rattle.cip_fwdopen.specs.Open.{OpenFields}
use Rattle.cip_productions.specs.declared.kind.Kind.{Kind}
use Rattle.cip_productions.specs.declared.kind.Kind.TheVariants.{ExclusiveOwner, InputOnly, ListenOnly}
use Rattle.cip_productions.specs.Kinds.{is_owner, is_listener}
use Rattle.adapter_table.specs.Connections.{Row}
use Rattle.adapter_table.specs.declared.profile.InputPoint.{InputPoint}
use Rattle.adapter_table.specs.declared.profile.Profile.{Profile}
use Rattle.adapter_table.specs.declared.table.AdapterTable.{AdapterTable}
use Rattle.adapter_table.specs.declared.admission.ConsumedPoint.{ConsumedPoint}
use Rattle.adapter_table.specs.Rows.{holds_triad, is_timed_out, drives, is_supported}
use Rattle.adapter_table.specs.Paths.{opening_path}
use Rattle.adapter_table.specs.Checks.{Check, check, first_of, View, view_of, Points, points_of, named_points, path_check, consumed_point_of, input_of, is_known_config, is_multicast, named_len, has_other_length, stored, is_unserved, are_intervals, group_of, joined, joins, drawn_ids, checks, judged, verdict, admission, Admitted, admitted_at}

-- each check passes
abbrev pub AllPass : List Check → Type 0
AllPass [] = Unit {0}
AllPass (c ∷ rest) = (c ≡ None) × AllPass rest

pub all_pass : (cs : List Check) → first_of cs ≡ None → AllPass cs
all_pass [] none = tt
all_pass (None ∷ rest) none = (refl, all_pass rest none)
all_pass (Some why ∷ rest) none = absurd cc

pub check_passes : (fails : Bool) (why : Refusal) → check fails why ≡ None → fails ≡ false
check_passes true why none = absurd cc
check_passes false why none = refl

-- ---- the points

-- what is known of points that are found
record IsNamed (profile : Profile) (path : PathFields) (group : Option Row) (points : Points) : Type 0 where
  path_is : points.path ≡ path
  group_is : points.group ≡ group
  consumer_is : consumed_point_of profile path.consumed ≡ Some points.consumer
  config_is_known : not (is_known_config profile.config path.config) ≡ false

abbrev found : Points → Result Points Refusal
found points = Ok points

found_is : (x y : Points) → found x ≡ found y → x ≡ y
found_is x y e = cc

config_passes : (profile : Profile) (path : PathFields) → path_check profile path ≡ None → not (is_known_config profile.config path.config) ≡ false
config_passes profile path none =
    let passed = all_pass (check (not (path.class == 4)) refusal.Path ∷ check (not (is_known_config profile.config path.config)) refusal.ConfigurationPath ∷ []) none in
    check_passes _ _ passed.1.0

named_by : (profile : Profile) (path : PathFields) (group : Option Row) (c : Check) (consumer : Option ConsumedPoint) (input : Option InputPoint) (points : Points) → path_check profile path ≡ c → consumed_point_of profile path.consumed ≡ consumer → named_points path group c consumer input ≡ Ok points → IsNamed profile path group points
named_by profile path group (Some why) consumer input points passes consumes e = absurd cc
named_by profile path group None None input points passes consumes e = absurd cc
named_by profile path group None (Some consumer) None points passes consumes e = absurd cc
named_by profile path group None (Some consumer) (Some input) points passes consumes e =
    let made : IsNamed profile path group (record { path = path; consumer = consumer; input = input; group = group }) =
    record { path_is = refl; group_is = refl; consumer_is = consumes; config_is_known = config_passes profile path passes } in
    subst (IsNamed profile path group) (found_is (record { path = path; consumer = consumer; input = input; group = group }) points e) made

-- the same of the points that a request names
record AreNamed (t : AdapterTable) (request : OpenFields) (points : Points) : Type 0 where
  group_is : points.group ≡ joined (is_multicast request.t_o_params.kind) (group_of t.rows points.path.produced)
  consumer_is : consumed_point_of t.profile points.path.consumed ≡ Some points.consumer
  config_is_known : not (is_known_config t.profile.config points.path.config) ≡ false

are_named : (t : AdapterTable) (request : OpenFields) (path : Option PathFields) (points : Points) → points_of (view_of t request.triad) request path ≡ Ok points → AreNamed t request points
are_named t request None points e = absurd cc
are_named t request (Some path) points e =
    let group = joined (is_multicast request.t_o_params.kind) (group_of t.rows path.produced) in
    let is = named_by t.profile path group (path_check t.profile path) (consumed_point_of t.profile path.consumed) (input_of t.profile path.produced) points refl refl e in
    record {
      group_is = is.group_is ∙ ap (λ (p : PathFields). joined (is_multicast request.t_o_params.kind) (group_of t.rows p.produced)) (sym is.path_is);
      consumer_is = ap (λ (p : PathFields). consumed_point_of t.profile p.consumed) is.path_is ∙ is.consumer_is;
      config_is_known = ap (λ (p : PathFields). not (is_known_config t.profile.config p.config)) is.path_is ∙ is.config_is_known;
    }

-- ---- the verdict

-- a request is admitted where points are found, and no check fails at them
record IsJudged (view : View) (request : OpenFields) (path : Result PathFields PathFault) (admitted : Admitted) : Type 0 where
  points : Points
  named : points_of view request (result_ok path) ≡ Ok points
  passed : AllPass (checks view request path (Ok points))
  said : admitted_at request points ≡ admitted

abbrev done : Admitted → Result Admitted Refusal
done admitted = Ok admitted

done_is : (x y : Admitted) → done x ≡ done y → x ≡ y
done_is x y e = cc

judged_by : (view : View) (request : OpenFields) (path : Result PathFields PathFault) (points : Result Points Refusal) (c : Check) (admitted : Admitted) → points_of view request (result_ok path) ≡ points → first_of (checks view request path points) ≡ c → judged request points c ≡ Ok admitted → IsJudged view request path admitted
judged_by view request path points (Some why) admitted named first e = absurd cc
judged_by view request path (Err why) None admitted named first e = absurd cc
judged_by view request path (Ok points) None admitted named first e =
    record { points = points; named = named; passed = all_pass (checks view request path (Ok points)) first; said = done_is (admitted_at request points) admitted e }

is_judged : (view : View) (request : OpenFields) (admitted : Admitted) → verdict view request ≡ Ok admitted → IsJudged view request (opening_path view.profile.description request.path) admitted
unfolding verdict
is_judged view request admitted e =
    let path = opening_path view.profile.description request.path in
    let points = points_of view request (result_ok (opening_path view.profile.description request.path)) in
    judged_by view request (opening_path view.profile.description request.path) (points_of view request (result_ok (opening_path view.profile.description request.path))) (first_of (checks view request (opening_path view.profile.description request.path) (points_of view request (result_ok (opening_path view.profile.description request.path))))) admitted refl refl e

-- what a joiner has in common with the connection that it joins
abbrev pub HasSameApi : ℕ → Option Row → Type 0
HasSameApi api None = Unit {0}
HasSameApi api (Some member) = api ≡ member.t_o_api_ms

-- what an opening relies on
pub record IsAdmitted (t : AdapterTable) (request : OpenFields) (admitted : Admitted) : Type 0 where
  pub triad_is_free : list_any (holds_triad request.triad) t.rows ≡ false
  pub triad_is_new : list_any (has_class3_triad request.triad) t.messaging.class3_connections ≡ false
  pub is_served : is_unserved request ≡ false
  pub are_intervals : not (are_intervals request) ≡ false
  pub o_t_api_ms : admitted.o_t_api_ms ≡ interval_ms request.o_t_rpi
  pub t_o_api_ms : admitted.t_o_api_ms ≡ interval_ms request.t_o_rpi
  pub watchdog : admitted.watchdog.0 ≡ timeout request.multiplier (interval_ms request.o_t_rpi)
  -- the configuration that the path names, and its data segment
  pub config : Option ℕ
  pub segment : Option (List ℕ)
  pub segment_is : admitted.segment ≡ stored config segment
  pub segment_fits : has_other_length (named_len t.profile.config config) segment ≡ false
  pub config_is_known : not (is_known_config t.profile.config config) ≡ false
  pub consumer : ConsumedPoint
  pub kind_is : admitted.kind ≡ consumer.kind
  pub consumer_is : consumed_point_of t.profile admitted.consumed ≡ Some consumer
  pub output_is_free : (is_owner admitted.kind && list_any (drives admitted.consumed) t.rows) ≡ false
  pub is_supported : (is_listener admitted.kind && not (is_supported t.rows admitted.kind admitted.produced)) ≡ false
  pub group_is : admitted.group ≡ joined admitted.multicast (group_of t.rows admitted.produced)
  pub same_api : HasSameApi admitted.t_o_api_ms admitted.group
  pub ids_are_left : t.next_id + drawn_ids admitted.multicast admitted.group ≤ end_number t.ids
  pub capacity_is_left : (nat_le 64 (length t.rows) && not (list_any is_timed_out t.rows)) ≡ false

api_passes : (api : ℕ) (group : Option Row) → joins group (λ member. not (api == member.t_o_api_ms)) ≡ false → HasSameApi api group
api_passes api None same = tt
api_passes api (Some member) same = same_if_not api member.t_o_api_ms same

-- the support of a listener is that of listen-only connections
listener_supported : (kind : Kind) (rows : List Row) (point : ℕ) → (is_listener kind && not (is_supported rows ListenOnly point)) ≡ false → (is_listener kind && not (is_supported rows kind point)) ≡ false
listener_supported ExclusiveOwner rows point is = refl
listener_supported InputOnly rows point is = refl
listener_supported ListenOnly rows point is = is

pub draws_some : (multicast : Bool) (group : Option Row) → 1 ≤ drawn_ids multicast group
draws_some true None = omega arith
draws_some false None = omega arith
draws_some multicast (Some member) = omega arith

are_left : (next_id end drawn : ℕ) → 1 ≤ drawn → nat_lt (end - next_id) drawn ≡ false → next_id + drawn ≤ end
are_left next_id end drawn some left = grind (arith, nat_tests)

pub admitted_is : (t : AdapterTable) (request : OpenFields) (admitted : Admitted) → admission t request ≡ Ok admitted → IsAdmitted t request admitted
admitted_is t request admitted e =
    let j = is_judged (view_of t request.triad) request admitted e in
    let named = are_named t request (result_ok (opening_path t.profile.description request.path)) j.points j.named in
    -- the answers of checks 2 to 9, of 10 to 13, and of 14 and 15
    let first = j.passed in
    let second = first.1.1.1.1.1.1.1.1.1.1.1.1 in
    let third = second.1.1.1.1.1.1.1 in
    let points = j.points in
    let free = or_parts (list_any (holds_triad request.triad) t.rows) _ (check_passes _ _ first.1.0) in
    let made : IsAdmitted t request (admitted_at request j.points) = record {
      triad_is_free = free.0;
      triad_is_new = free.1;
      is_served = check_passes _ _ first.1.1.1.1.1.1.0;
      are_intervals = check_passes _ _ first.1.1.1.1.1.1.1.0;
      o_t_api_ms = refl;
      t_o_api_ms = refl;
      watchdog = refl;
      config = j.points.path.config;
      segment = j.points.path.segment;
      segment_is = refl;
      segment_fits = check_passes _ _ second.0;
      config_is_known = named.config_is_known;
      consumer = j.points.consumer;
      kind_is = refl;
      consumer_is = named.consumer_is;
      output_is_free = check_passes _ _ second.1.1.1.1.0;
      is_supported = listener_supported j.points.consumer.kind t.rows j.points.path.produced (check_passes _ _ second.1.1.1.1.1.1.0);
      group_is = named.group_is;
      same_api = api_passes (interval_ms request.t_o_rpi) j.points.group (check_passes _ _ third.0);
      ids_are_left = are_left t.next_id (end_number t.ids) (drawn_ids (is_multicast request.t_o_params.kind) j.points.group) (draws_some (is_multicast request.t_o_params.kind) j.points.group) (check_passes _ _ third.1.1.1.0);
      capacity_is_left = check_passes _ _ third.1.1.1.1.0;
    } in
    subst (IsAdmitted t request) j.said made
