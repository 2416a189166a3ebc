-- The connection that an adapter admits joins the points of the request's path, which are those of the slot that asks.
use Rattle.std.proofs.Common.{◌≡◌, ℕ, ◌+◌, ◌==◌, Bool, true, false, cond, find, Option, Some, None, Result, Ok, Err, refl, sym, ◌∙◌, ap, subst, arith}
use Rattle.std.specs.Option.{option_map}
use Rattle.std.specs.Result.{result_ok}
use Rattle.std.proofs.lemmas.Option.{same_Some}
use Rattle.base_lemmas.specs.Numbers.{same_if_not}
use Rattle.cip_types.specs.declared.names.Node.{Node}
use Rattle.cip_epath.specs.declared.fault.PathFault.{PathFault}
use Rattle.cip_epath.specs.Path.{PathFields}
use Rattle.adapter_table.specs.declared.profile.Description.{Description}
use Rattle.adapter_table.specs.Intervals.{whole_request}
use Rattle.adapter_table.specs.Paths.{opening_path}
use Rattle.adapter_table.specs.Lemmas.PathLemmas.{opening_reads}
use Rattle.cip_fwdopen.specs.Open.{OpenFields}
use Rattle.cip_productions.specs.declared.kind.Kind.{Kind}
use Rattle.cip_productions.specs.declared.kind.Kind.TheVariants.{ExclusiveOwner}
use Rattle.cip_productions.specs.Kinds.{is_owner}
use Rattle.cip_router.specs.declared.refusal.Refusal.{Refusal}
use Rattle.adapter_table.specs.declared.admission.ConsumedPoint.{ConsumedPoint}
use Rattle.adapter_table.specs.declared.profile.InputPoint.{InputPoint}
use Rattle.adapter_table.specs.declared.profile.OutputPoint.{OutputPoint}
use Rattle.adapter_table.specs.declared.profile.Profile.{Profile}
use Rattle.adapter_table.specs.declared.table.AdapterTable.{AdapterTable}
use Rattle.adapter_table.specs.Checks.{Check, first_of, View, view_of, Points, points_of, named_points, path_check, heartbeat_kind, heartbeat_point, consumed_point_at, consumed_point_of, input_of, is_multicast, joined, checks, judged, verdict, admission, Admitted, admitted_at}
use Rattle.adapter_table.specs.Checks as adapters
use Rattle.adapter_table.specs.Connections.{Row}
use Rattle.adapter_table.specs.Opening.{opened_row}
use Rattle.adapter_table.specs.Profiles.{is_output_at}
use Rattle.adapter_table.specs.Lemmas.CheckLemmas.{AllPass, all_pass, check_passes}
use Rattle.scanner_table.specs.declared.profile.SlotConfig.{SlotConfig}
use Rattle.scanner_table.specs.Requests.{slot_path}
use Rattle.schedule_laws.specs.JoinedPoints.{JoinsPoints}
use Rattle.schedule_laws.proofs.Asking.{AsksFor}
use Rattle.schedule_laws.proofs.ConnectionRows.{IsOneConnection}
use Rattle.device_laws.specs.Lemmas.Admissions.{admitted_same}

-- ---- the points that are found

-- what is known of points that are found
record AreFound (profile : Profile) (path : PathFields) (points : Points) : Type 0 where
  path_is : points.path ≡ path
  consumer_is : consumed_point_of profile path.consumed ≡ Some points.consumer
  input_is : input_of profile path.produced ≡ Some points.input

points_same : (a b : Points) → ◌≡◌ {A = Result Points Refusal} (Ok a) (Ok b) → a ≡ b
points_same a b e = cc

named_found : (profile : Profile) (path : PathFields) (group : Option Row) (said : Check) (consumer : Option ConsumedPoint) (input : Option InputPoint) (points : Points) → consumed_point_of profile path.consumed ≡ consumer → input_of profile path.produced ≡ input → named_points path group said consumer input ≡ Ok points → AreFound profile path points
named_found profile path group (Some why) consumer input points consumes produces is = absurd (let e = is in cc)
named_found profile path group None None input points consumes produces is = absurd (let e = is in cc)
named_found profile path group None (Some consumer) None points consumes produces is = absurd (let e = is in cc)
named_found profile path group None (Some consumer) (Some input) points consumes produces is =
    let made : AreFound profile path (record { path = path; consumer = consumer; input = input; group = group }) = record { path_is = refl; consumer_is = consumes; input_is = produces } in
    subst (AreFound profile path) (points_same (record { path = path; consumer = consumer; input = input; group = group }) points is) made

-- the path reads, and its points are found
record ReadsAndFinds (profile : Profile) (reading : Result PathFields PathFault) (points : Points) : Type 0 where
  path : PathFields
  reads : reading ≡ Ok path
  found : AreFound profile path points

path_found : (t : AdapterTable) (request : OpenFields) (reading : Result PathFields PathFault) (points : Points) → points_of (view_of t request.triad) request (result_ok reading) ≡ Ok points → ReadsAndFinds t.profile reading points
path_found t request (Err why) points is = absurd (let e = is in cc)
path_found t request (Ok path) points is = record {
  path = path;
  reads = refl;
  found = named_found t.profile path (joined (is_multicast request.t_o_params.kind) (adapters.group_of t.rows path.produced)) (path_check t.profile path) (consumed_point_of t.profile path.consumed) (input_of t.profile path.produced) points refl refl is;
}

-- ---- the verdict

-- a request is admitted where points are found and no check fails at them
record IsJudged (view : View) (request : OpenFields) (reading : Result PathFields PathFault) (admitted : Admitted) : Type 0 where
  points : Points
  named : points_of view request (result_ok reading) ≡ Ok points
  passed : AllPass (checks view request reading (Ok points))
  said : admitted_at request points ≡ admitted

judged_by : (view : View) (request : OpenFields) (reading : Result PathFields PathFault) (points : Result Points Refusal) (said : Check) (admitted : Admitted) → points_of view request (result_ok reading) ≡ points → first_of (checks view request reading points) ≡ said → judged request points said ≡ Ok admitted → IsJudged view request reading admitted
judged_by view request reading points (Some why) admitted named first is = absurd (let e = is in cc)
judged_by view request reading (Err why) None admitted named first is = absurd (let e = is in cc)
judged_by view request reading (Ok points) None admitted named first is =
    record { points = points; named = named; passed = all_pass (checks view request reading (Ok points)) first; said = admitted_same (admitted_at request points) admitted is }

is_judged : (t : AdapterTable) (request : OpenFields) (admitted : Admitted) → admission t request ≡ Ok admitted → IsJudged (view_of t request.triad) request (opening_path t.profile.description request.path) admitted
unfolding verdict
is_judged t request admitted is =
    judged_by (view_of t request.triad) request (opening_path t.profile.description request.path) (points_of (view_of t request.triad) request (result_ok (opening_path t.profile.description request.path)))
    (first_of (checks (view_of t request.triad) request (opening_path t.profile.description request.path) (points_of (view_of t request.triad) request (result_ok (opening_path t.profile.description request.path))))) admitted refl refl is

-- ---- what a request and its connection have in common

-- the connection has the points of the request's path, with the request's sizes
pub record IsAsRequested (request : OpenFields) (profile : Profile) (row : Row) : Type 0 where
  pub path : PathFields
  pub reads : opening_path profile.description request.path ≡ Ok path
  pub consumed : row.consumed ≡ path.consumed
  pub produced : row.produced ≡ path.produced
  pub multicast : row.multicast ≡ is_multicast request.t_o_params.kind
  pub consumer : ConsumedPoint
  pub consumer_is : consumed_point_of profile path.consumed ≡ Some consumer
  pub kind : row.kind ≡ consumer.kind
  pub o_t : request.o_t_params.size ≡ adapters.o_t_size consumer
  pub input : InputPoint
  pub input_is : input_of profile path.produced ≡ Some input
  pub t_o : request.t_o_params.size ≡ adapters.t_o_size input

admitted_requested : (t : AdapterTable) (peer : Node) (request : OpenFields) (points : Points) → ReadsAndFinds t.profile (opening_path t.profile.description request.path) points → AllPass (checks (view_of t request.triad) request (opening_path t.profile.description request.path) (Ok points)) → IsAsRequested request t.profile (opened_row t peer request (admitted_at request points))
unfolding opened_row
admitted_requested t peer request points reads first =
    let found = reads.found in
    -- the answers of checks 2 to 9, and from 10 on
    let second = first.1.1.1.1.1.1.1.1.1.1.1.1 in
    record {
      path = reads.path;
      reads = reads.reads;
      consumed = ap (λ (p : PathFields). p.consumed) found.path_is;
      produced = ap (λ (p : PathFields). p.produced) found.path_is;
      multicast = refl;
      consumer = points.consumer;
      consumer_is = found.consumer_is;
      kind = refl;
      o_t = same_if_not request.o_t_params.size (adapters.o_t_size points.consumer) (check_passes _ _ second.1.1.0);
      input = points.input;
      input_is = found.input_is;
      t_o = same_if_not request.t_o_params.size (adapters.t_o_size points.input) (check_passes _ _ second.1.1.1.0);
    }

pub opened_requested : (t : AdapterTable) (peer : Node) (request : OpenFields) (admitted : Admitted) → admission t request ≡ Ok admitted → IsAsRequested request t.profile (opened_row t peer request admitted)
opened_requested t peer request admitted is =
    let j = is_judged t request admitted is in
    subst (λ (a : Admitted). IsAsRequested request t.profile (opened_row t peer request a)) j.said
    (admitted_requested t peer request j.points (path_found t request (opening_path t.profile.description request.path) j.points j.named) j.passed)

-- the request that a device takes a request for has its points and sizes
pub as_read : (d : Option Description) (request : OpenFields) (profile : Profile) (row : Row) → IsAsRequested (whole_request d request) profile row → IsAsRequested request profile row
as_read d request profile row is = record {
  path = is.path;
  reads = is.reads;
  consumed = is.consumed;
  produced = is.produced;
  multicast = is.multicast;
  consumer = is.consumer;
  consumer_is = is.consumer_is;
  kind = is.kind;
  o_t = is.o_t;
  input = is.input;
  input_is = is.input_is;
  t_o = is.t_o;
}

-- ---- the points of a slot

no_owner : {X : Type 0} → true ≡ false → X
no_owner is = absurd (let e = is in cc)

heartbeat_empty : (found : Option Kind) (consumer : ConsumedPoint) → option_map heartbeat_point found ≡ Some consumer → consumer.len ≡ 0
heartbeat_empty None consumer is = absurd (let e = is in cc)
heartbeat_empty (Some kind) consumer is = sym (ap (λ (c : ConsumedPoint). c.len) (same_Some (heartbeat_point kind) consumer is))

empty_at : (profile : Profile) (point : ℕ) (output : Option OutputPoint) (consumer : ConsumedPoint) → consumed_point_at profile point output ≡ Some consumer → is_owner consumer.kind ≡ false → consumer.len ≡ 0
empty_at profile point (Some output) consumer is none =
    let same : consumer.kind ≡ ExclusiveOwner = sym (ap (λ (c : ConsumedPoint). c.kind) (same_Some (record { kind = ExclusiveOwner; len = output.len }) consumer is)) in
    no_owner (sym (ap is_owner same) ∙ none)
empty_at profile point None consumer is none = heartbeat_empty (heartbeat_kind (profile.input_only == point) (profile.listen_only == point)) consumer is

-- a consumer of no owner has no data
heartbeat_len : (profile : Profile) (point : ℕ) (consumer : ConsumedPoint) → consumed_point_of profile point ≡ Some consumer → is_owner consumer.kind ≡ false → consumer.len ≡ 0
heartbeat_len profile point consumer is none = empty_at profile point (find (is_output_at point) profile.outputs) consumer is none

-- the consumer is an owner where the slot is one, and has the slot's length
record IsOfSlot (owner : Bool) (len out_len : ℕ) (slot_owner : Bool) : Type 0 where
  same : owner ≡ slot_owner
  len_is : len ≡ out_len

sizes_agree : (owner slot_owner : Bool) (len out_len : ℕ) → (owner ≡ false → len ≡ 0) → (slot_owner ≡ false → out_len ≡ 0) → cond owner (len + 6) 2 ≡ cond slot_owner (out_len + 6) 2 → IsOfSlot owner len out_len slot_owner
sizes_agree true true len out_len none slot_none is = record { same = refl; len_is = omega (arith, is) }
sizes_agree true false len out_len none slot_none is = absurd (omega (arith, is))
sizes_agree false true len out_len none slot_none is = absurd (omega (arith, is))
sizes_agree false false len out_len none slot_none is = record { same = refl; len_is = none refl ∙ sym (slot_none refl) }

abbrev some_point : Kind → ℕ → Option ConsumedPoint
some_point kind len = Some (record { kind = kind; len = len })

path_same : (a b : PathFields) → ◌≡◌ {A = Result PathFields PathFault} (Ok a) (Ok b) → a ≡ b
path_same a b e = cc

-- a connection that has what a slot requests joins the points of the slot
pub joins : (slot : SlotConfig) (request : OpenFields) (profile : Profile) (row : Row) → AsksFor slot request → IsAsRequested request profile row → JoinsPoints slot profile row
joins slot request profile row asks is =
    let path : is.path ≡ slot_path slot = path_same is.path (slot_path slot) (sym is.reads ∙ opening_reads profile.description request.path (slot_path slot) asks.path) in
    let consumed : is.path.consumed ≡ slot.consumed = ap (λ (p : PathFields). p.consumed) path in
    let produced : is.path.produced ≡ slot.produced = ap (λ (p : PathFields). p.produced) path in
    let sizes : IsOfSlot (is_owner is.consumer.kind) is.consumer.len slot.out_len (is_owner slot.kind) =
    sizes_agree (is_owner is.consumer.kind) (is_owner slot.kind) is.consumer.len slot.out_len (heartbeat_len profile is.path.consumed is.consumer is.consumer_is) asks.no_output (sym is.o_t ∙ asks.o_t) in
    record {
      consumed = is.consumed ∙ consumed;
      produced = is.produced ∙ produced;
      multicast = is.multicast ∙ asks.multicast;
      owner = ap is_owner is.kind ∙ sizes.same;
      consumer = ap (consumed_point_of profile) (sym consumed) ∙ is.consumer_is ∙ ap (λ (k : Kind). some_point k is.consumer.len) (sym is.kind) ∙ ap (some_point row.kind) sizes.len_is;
      input = is.input;
      input_is = ap (input_of profile) (sym produced) ∙ is.input_is;
      input_len = same_len is.input.len slot.in_len (sym is.t_o ∙ asks.t_o);
    }
  where
    same_len : (a b : ℕ) → a + 2 ≡ b + 2 → a ≡ b
    same_len a b is = omega (arith, is)

-- it does so in each of its states
pub joins_on : (slot : SlotConfig) (profile : Profile) (old row : Row) → IsOneConnection old row → JoinsPoints slot profile old → JoinsPoints slot profile row
joins_on slot profile old row one was = record {
  consumed = one.consumed ∙ was.consumed;
  produced = one.produced ∙ was.produced;
  multicast = one.multicast ∙ was.multicast;
  owner = ap is_owner one.kind ∙ was.owner;
  consumer = was.consumer ∙ ap (λ (k : Kind). some_point k slot.out_len) (sym one.kind);
  input = was.input;
  input_is = was.input_is;
  input_len = was.input_len;
}
