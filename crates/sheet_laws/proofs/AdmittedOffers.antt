-- A fresh adapter admits what its data sheet offers.
use Rattle.std.proofs.Common.{◌≡◌, ◌≤◌, inl, inr, ℕ, ◌+◌, ◌*◌, ◌/◌, ◌==◌, ◌&&◌, ◌||◌, Bool, true, false, not, List, [], ◌∷◌, ◌++◌, map, find, Option, Some, None, option_to_list, Result, Ok, Err, refl, ap, sym, ◌∙◌, subst, arith}
use Rattle.std.specs.Prelude.{if◌then◌else◌, nat_lt, nat_le, is_none, max}
use Rattle.std.specs.List.{list_any}
use Rattle.std.specs.Option.{option_map}
use Rattle.std.proofs.lemmas.Bool.{not-false, and_parts}
use Rattle.std.proofs.lemmas.Bool.Decides.{nat_tests}
use Rattle.cip_types.specs.Ids.{ids_left}
use Rattle.cip_types.specs.declared.names.Ms.{Ms}
use Rattle.cip_types.specs.declared.names.Node.{Node}
use Rattle.cip_epath.specs.Path.{PathFields}
use Rattle.cip_epath.specs.Reading.{path_reading}
use Rattle.adapter_table.specs.Paths.{opening_path}
use Rattle.adapter_table.specs.Lemmas.PathLemmas.{opening_reads}
use Rattle.cip_epath.specs.Written.{PathFits}
use Rattle.cip_epath.specs.Laws.PathLaws.{path_text_reads}
use Rattle.cip_netparams.specs.declared.ConnectionType.{ConnectionType}
use Rattle.cip_netparams.specs.Rate.{is_interval, interval_ms}
use Rattle.cip_netparams.specs.Word.{trigger_of}
use Rattle.cip_fwdopen.specs.Open.{OpenFields}
use Rattle.cip_router.specs.declared.refusal.Refusal.{Refusal}
use Rattle.cip_router.specs.declared.refusal.Refusal.TheVariants as refusal
use Rattle.cip_productions.specs.declared.kind.Kind.{Kind}
use Rattle.cip_productions.specs.declared.kind.Kind.TheVariants.{ExclusiveOwner, InputOnly, ListenOnly}
use Rattle.messaging.specs.Sound.{EachOf}
use Rattle.adapter_table.specs.declared.maker_limits.NodeLimits.{NodeLimits}
use Rattle.adapter_table.specs.declared.maker_limits.Places.{Places}
use Rattle.adapter_table.specs.declared.profile.Description.{Description}
use Rattle.adapter_table.specs.declared.profile.InputPoint.{InputPoint}
use Rattle.adapter_table.specs.declared.profile.OutputPoint.{OutputPoint}
use Rattle.adapter_table.specs.declared.profile.Profile.{Profile}
use Rattle.adapter_table.specs.Checks.{View, Points, Admitted, Check, check, first_of, is_point_to_point, is_change_of_state, checks, verdict, judged, judged_path, admitted_at, o_t_size, points_of, consumed_point_of, input_of, is_known_config, joined, is_multicast, is_produced_type, are_intervals, is_below_least, is_unserved, has_inhibit_fault, lacks_pace, drawn_ids, view_of}
use Rattle.adapter_table.specs.Profiles.{first_ids, is_at, is_output_at, as_point, heartbeat, points_beside, all_points, are_distinct, profile_fault, profile_tests, are_limits, is_from, are_node_limits, most_openings}
use Rattle.adapter_table.specs.Shaping.{all_pass, distinct_back}
use Rattle.adapter_table.specs.StatedLimits.{limited, paced, limited_admission, has_no_place, has_node_enough, places_of}
use Rattle.adapter_table.specs.Step.{adapter_table}
use Rattle.adapter_table.specs.Rates.{has_opened_enough_at}
use Rattle.adapter_table.specs.OpeningRates.Rates.{has_opened_enough}
use Rattle.adapter_table.specs.Describing.{fixed}
use Rattle.adapter_table.specs.Intervals.{whole_us, whole_request, ms_us, least_us}
use Rattle.eds_text.specs.declared.connections.SheetConnection.{SheetConnection}
use Rattle.eds_text.specs.Connections.{connections_of, offered, owner_of, owners_of, reader_of}
use Rattle.eds_text.specs.Manager.{sheet_path}
use Rattle.eds_text.specs.Offer.{admitted_least, has_place, has_place_of, offered_intervals, offered_least, offers_changes}
use Rattle.sheet_laws.specs.Offers.{IsInRange, sheet_o_t_size, IsSheetType, IsSheetTrigger, IsMadeOf, IsAdmittedAs, IsAnswered, IsTaken, HasIds, SheetsAreAdmitted}
use Rattle.sheet_laws.proofs.OfferedPoints.{each_append, each_map, each_flat, each_if, each_so, same, any_back, inputs_found, outputs_found, no_output}

-- WHAT A CONNECTION OF THE SHEET NAMES

record IsServed (profile : Profile) (c : SheetConnection) : Type 0 where
  consumer : consumed_point_of profile c.consumed ≡ Some (record { kind = c.kind; len = c.o_t_len })
  input : input_of profile c.produced ≡ Some (record { instance = c.produced; len = c.t_o_len })
  size : sheet_o_t_size c.kind c.o_t_len ≡ o_t_size (record { kind = c.kind; len = c.o_t_len })
  place : has_place profile.limits c.kind ≡ true
  changes : c.changes ≡ offers_changes profile.limits

points_differ : (profile : Profile) → profile_fault profile ≡ None → are_distinct (all_points profile) ≡ true
unfolding profile_fault
points_differ profile none = not-false (are_distinct (all_points profile)) (all_pass (profile_tests profile) none).1.1.1.0

limits_hold : (profile : Profile) → profile_fault profile ≡ None → are_limits profile.limits ≡ true
unfolding profile_fault
limits_hold profile none = not-false (are_limits profile.limits) (all_pass (profile_tests profile) none).1.1.1.1.1.1.1.0

or_true : (a : Bool) → (a || true) ≡ true
or_true true = refl
or_true false = refl

heartbeats_differ : (a b : ℕ) → are_distinct (heartbeat a ∷ heartbeat b ∷ []) ≡ true → (a == b) ≡ false
heartbeats_differ a b differ = grind (arith, nat_tests)

first_heartbeat : (a b : ℕ) → list_any (is_at a) (heartbeat a ∷ heartbeat b ∷ []) ≡ true
first_heartbeat a b = rw (same a) refl

second_heartbeat : (a b : ℕ) → list_any (is_at b) (heartbeat a ∷ heartbeat b ∷ []) ≡ true
second_heartbeat a b = rw (same b) (or_true (a == b))

module _ (profile : Profile) (none : profile_fault profile ≡ None) where
  abbrev changes : Bool
  changes = offers_changes profile.limits

  abbrev heartbeats : List InputPoint
  heartbeats = heartbeat profile.input_only ∷ heartbeat profile.listen_only ∷ []

  differ : are_distinct (all_points profile) ≡ true
  differ = points_differ profile none

  behind_differ : are_distinct (profile.inputs ++ points_beside profile) ≡ true
  behind_differ = distinct_back (map as_point profile.outputs) (profile.inputs ++ points_beside profile) differ

  inputs_are : EachOf (λ input. find (is_at input.instance) profile.inputs ≡ Some input) profile.inputs
  inputs_are = inputs_found profile.inputs (points_beside profile) behind_differ

  outputs_are : EachOf (λ output. find (is_output_at output.instance) profile.outputs ≡ Some output) profile.outputs
  outputs_are = outputs_found profile.outputs (profile.inputs ++ points_beside profile) differ

  -- a heartbeat is no output
  beside_is : (point : ℕ) → list_any (is_at point) heartbeats ≡ true → find (is_output_at point) profile.outputs ≡ None
  beside_is point is = no_output point profile.outputs (profile.inputs ++ points_beside profile) differ (any_back point profile.inputs (points_beside profile) (any_back point (option_to_list profile.config) heartbeats is))

  owner_served : (output : OutputPoint) (input : InputPoint) → has_place profile.limits ExclusiveOwner ≡ true → find (is_output_at output.instance) profile.outputs ≡ Some output → find (is_at input.instance) profile.inputs ≡ Some input → IsServed profile (owner_of changes output input)
  owner_served output input place output_is input_is = record { consumer = rw output_is refl; input = input_is; size = refl; place = place; changes = refl }

  input_only_served : (input : InputPoint) → has_place profile.limits InputOnly ≡ true → find (is_at input.instance) profile.inputs ≡ Some input → IsServed profile (reader_of changes InputOnly profile.input_only input)
  input_only_served input place input_is =
      let no : find (is_output_at profile.input_only) profile.outputs ≡ None = beside_is profile.input_only (first_heartbeat profile.input_only profile.listen_only) in
      record { consumer = rw (no, same profile.input_only) refl; input = input_is; size = refl; place = place; changes = refl }

  listen_only_served : (input : InputPoint) → has_place profile.limits ListenOnly ≡ true → find (is_at input.instance) profile.inputs ≡ Some input → IsServed profile (reader_of changes ListenOnly profile.listen_only input)
  listen_only_served input place input_is =
      let no : find (is_output_at profile.listen_only) profile.outputs ≡ None = beside_is profile.listen_only (second_heartbeat profile.input_only profile.listen_only) in
      let apart : (profile.input_only == profile.listen_only) ≡ false = heartbeats_differ profile.input_only profile.listen_only (distinct_back (option_to_list profile.config) heartbeats (distinct_back profile.inputs (points_beside profile) behind_differ)) in
      record { consumer = rw (no, apart, same profile.listen_only) refl; input = input_is; size = refl; place = place; changes = refl }

  all_served : EachOf (IsServed profile) (connections_of profile)
  all_served =
      each_append (IsServed profile) _ _
      (each_if (IsServed profile) (has_place profile.limits ExclusiveOwner) _ (λ place. each_flat (λ output. find (is_output_at output.instance) profile.outputs ≡ Some output) (IsServed profile) (owners_of changes profile.inputs)
      (λ output output_is. each_map (λ input. find (is_at input.instance) profile.inputs ≡ Some input) (IsServed profile) (owner_of changes output) (λ input input_is. owner_served output input place output_is input_is) profile.inputs inputs_are)
      profile.outputs outputs_are))
      (each_append (IsServed profile) _ _
      (each_if (IsServed profile) (has_place profile.limits InputOnly) _ (λ place. each_map (λ input. find (is_at input.instance) profile.inputs ≡ Some input) (IsServed profile) (reader_of changes InputOnly profile.input_only) (λ input input_is. input_only_served input place input_is) profile.inputs inputs_are))
      (each_if (IsServed profile) (has_place profile.limits ListenOnly) _ (λ place. each_map (λ input. find (is_at input.instance) profile.inputs ≡ Some input) (IsServed profile) (reader_of changes ListenOnly profile.listen_only) (λ input input_is. listen_only_served input place input_is) profile.inputs inputs_are)))

-- WHAT THE CHECKS FIND

no_place_lacks : (places : Option Places) (kind : Kind) → has_place_of places kind ≡ true → has_no_place places [] kind ≡ false
no_place_lacks None kind has = refl
no_place_lacks (Some places) kind has = nothing_below (places_of places kind) has
  where
    nothing_below : (n : ℕ) → nat_lt 0 n ≡ true → nat_le n 0 ≡ false
    nothing_below n has = grind (arith, nat_tests)

no_node_has_enough : (limits : Option NodeLimits) (peer : Node) → are_node_limits limits ≡ true → has_node_enough limits [] peer ≡ false
no_node_has_enough None peer hold = refl
no_node_has_enough (Some limits) peer hold = one_is_not (limits.connections) (and_parts _ _ (and_parts _ _ hold).0).0
  where
    one_is_not : (n : ℕ) → nat_le 1 n ≡ true → nat_le n 0 ≡ false
    one_is_not n has = grind (arith, nat_tests)

no_node_opened : (limits : Option NodeLimits) (clock : Ms) (peer : Node) → are_node_limits limits ≡ true → has_opened_enough (most_openings limits) clock peer [] ≡ false
no_node_opened None clock peer hold = refl
no_node_opened (Some limits) clock peer hold = by_number limits.openings (and_parts _ _ hold).1
  where
    one_is_not : (n : ℕ) → nat_le 1 n ≡ true → nat_le n 0 ≡ false
    one_is_not n has = grind (arith, nat_tests)

    by_number : (openings : Option ℕ) → is_from 1 65535 openings ≡ true → has_opened_enough openings clock peer [] ≡ false
    by_number None is = refl
    by_number (Some most) is = one_is_not most (and_parts _ _ is).0

-- the least interval that the device admits is no shorter than the maker's
admits_above : (description : Option Description) (least : ℕ) → is_from 1 10000000 (Some least) ≡ true → least ≤ admitted_least description (Some least)
admits_above None least few = omega arith
admits_above (Some d) least few = in_whole least (few_least few)
  where
    few_least : (nat_le 1 least && nat_le least 10000000) ≡ true → least ≤ 10000000
    few_least few = grind (arith, nat_tests)

    by : (b : Bool) (us : ℕ) → us ≤ 10000000 → us ≤ (if b then 10000000 else 1000 * interval_ms us)
    by true us few = few
    by false us few = omega arith

    in_whole : (us : ℕ) → us ≤ 10000000 → us ≤ ms_us (interval_ms us)
    in_whole us few = by (nat_lt 10000 (interval_ms us)) us few

not_below : (description : Option Description) (least : Option ℕ) (request : OpenFields) → is_from 1 10000000 least ≡ true → offered_least description least ≤ request.o_t_rpi → offered_least description least ≤ request.t_o_rpi → is_below_least least request ≡ false
not_below description None request few o_t t_o = refl
not_below description (Some least) request few o_t t_o = rw (at_least request.o_t_rpi o_t, at_least request.t_o_rpi t_o) refl
  where
    from_least : (admitted us : ℕ) → least ≤ admitted → max 1000 admitted ≤ us → nat_lt us least ≡ false
    from_least admitted us above is = grind (arith, nat_tests)

    at_least : (us : ℕ) → offered_least description (Some least) ≤ us → nat_lt us least ≡ false
    at_least us is = from_least (admitted_least description (Some least)) us (admits_above description least few) is

is_an_interval : (profile : Profile) (us : ℕ) → IsInRange (offered_intervals profile) us → is_interval us ≡ true
is_an_interval profile us range = within (admitted_least profile.description profile.limits.least_rpi) range.least range.most
  where
    within : (least : ℕ) → max 1000 least ≤ us → us ≤ 10000000 → is_interval us ≡ true
    within least from to = grind (arith, nat_tests)

-- WHAT A REQUEST IS TAKEN FOR

-- an interval of whole milliseconds from whole milliseconds on is one of whole milliseconds from there on
whole_from : (ms us : ℕ) → 1000 * ms ≤ us → 1000 * ms ≤ 1000 * (us / 1000)
whole_from ms us from = omega arith

least_whole : (least : Option ℕ) (us : ℕ) → us ≤ 10000000 → max 1000 (least_us least) ≤ us → max 1000 (least_us least) ≤ 1000 * (us / 1000)
least_whole None us to from = whole_from 1 us from
least_whole (Some least) us to from = of_ms (interval_ms least) from
  where
    at_most : max 1000 10000000 ≤ us → max 1000 10000000 ≤ 1000 * (us / 1000)
    at_most from = omega (arith, to, from)

    from_ms : (ms : ℕ) → max 1000 (1000 * ms) ≤ us → max 1000 (1000 * ms) ≤ 1000 * (us / 1000)
    from_ms ms from = grind arith

    by : (b : Bool) (ms : ℕ) → max 1000 (if b then 10000000 else 1000 * ms) ≤ us → max 1000 (if b then 10000000 else 1000 * ms) ≤ 1000 * (us / 1000)
    by true ms from = at_most from
    by false ms from = from_ms ms from

    of_ms : (ms : ℕ) → max 1000 (ms_us ms) ≤ us → max 1000 (ms_us ms) ≤ 1000 * (us / 1000)
    of_ms ms from = by (nat_lt 10000 ms) ms from

whole_range : (profile : Profile) (us : ℕ) → IsInRange (offered_intervals profile) us → IsInRange (offered_intervals profile) (whole_us profile.description us)
whole_range profile us range = by profile.description refl
  where
    below : us ≤ 10000000 → 1000 * (us / 1000) ≤ 10000000
    below to = omega (arith, to)

    by : (description : Option Description) → profile.description ≡ description → IsInRange (offered_intervals profile) (whole_us description us)
    by None is = range
    by (Some d) is =
        let from : max 1000 (least_us profile.limits.least_rpi) ≤ us = subst (λ (e : Option Description). offered_least e profile.limits.least_rpi ≤ us) is range.least in
        let whole : offered_least profile.description profile.limits.least_rpi ≤ 1000 * (us / 1000) = subst (λ (e : Option Description). offered_least e profile.limits.least_rpi ≤ 1000 * (us / 1000)) (sym is) (least_whole profile.limits.least_rpi us range.most from) in
        rw (is_an_interval profile us range) (record { least = whole; most = below range.most })

-- a request is made of the connection, and so is what it is taken for
whole_made : (profile : Profile) (c : SheetConnection) (request : OpenFields) → IsMadeOf profile c request → IsMadeOf profile c (whole_request profile.description request)
whole_made profile c request made = record {
  o_t_rpi = whole_range profile request.o_t_rpi made.o_t_rpi;
  t_o_rpi = whole_range profile request.t_o_rpi made.t_o_rpi;
  o_t_kind = made.o_t_kind;
  t_o_kind = made.t_o_kind;
  o_t_size = made.o_t_size;
  t_o_size = made.t_o_size;
  o_t_single = made.o_t_single;
  t_o_single = made.t_o_single;
  o_t_fixed = made.o_t_fixed;
  t_o_fixed = made.t_o_fixed;
  multiplier = made.multiplier;
  trigger = made.trigger;
  path = made.path;
}

known : (config : Option InputPoint) → is_known_config config (option_map (λ point. point.instance) config) ≡ true
known None = refl
known (Some config) = same config.instance

joined_none : (b : Bool) → joined b None ≡ None
joined_none true = refl
joined_none false = refl

has_trigger : (changes : Bool) (byte : ℕ) → IsSheetTrigger changes byte → is_none (trigger_of byte) ≡ false
has_trigger false byte is = rw is refl
has_trigger true byte (inl is) = rw is refl
has_trigger true byte (inr is) = rw is refl

has_pace : (newer : Option ℕ) (changes : Bool) (request : OpenFields) (path : PathFields) → changes ≡ is_none newer → IsSheetTrigger changes request.trigger → lacks_pace newer request (Some path) ≡ false
has_pace None changes request path offered is = refl
has_pace (Some within) false request path offered is = rw is refl
has_pace (Some within) true request path offered is = absurd (cc)

no_inhibit : (a : Bool) (api : ℕ) → (a && nat_lt api 0) ≡ false
no_inhibit true api = grind (arith, nat_tests)
no_inhibit false api = refl

few_ids : (multicast : Bool) (left : ℕ) → 2 ≤ left → nat_lt left (drawn_ids multicast None) ≡ false
few_ids true left two = grind (arith, nat_tests)
few_ids false left two = grind (arith, nat_tests)

-- a fresh adapter has its ids
ids_there : (profile : Profile) → HasIds profile → 2 ≤ ids_left (first_ids profile ∷ []) 1
ids_there profile two = omega (arith, two)

is_produced : (kind : Kind) (type : ConnectionType) → IsSheetType kind type → is_produced_type type ≡ true
is_produced ListenOnly type is = rw is refl
is_produced ExclusiveOwner type (inl is) = rw is refl
is_produced ExclusiveOwner type (inr is) = rw is refl
is_produced InputOnly type (inl is) = rw is refl
is_produced InputOnly type (inr is) = rw is refl

few_multiplier : (n : ℕ) → n ≤ 7 → nat_lt 7 n ≡ false
few_multiplier n few = grind (arith, nat_tests)

-- a check that passes, and those behind it
next : (b : Bool) (why : Refusal) (rest : List Check) (said : Check) → b ≡ false → first_of rest ≡ said → first_of (check b why ∷ rest) ≡ said
next b why rest said is more = rw is more

module _ (profile : Profile) (none : profile_fault profile ≡ None) (kind : Kind) (changes : Bool) (consumed o_t_len produced t_o_len : ℕ) where
  abbrev c : SheetConnection
  c = record { kind = kind; changes = changes; consumed = consumed; o_t_len = o_t_len; produced = produced; t_o_len = t_o_len }

  abbrev path : PathFields
  path = sheet_path profile.config c

  abbrev points : Points
  points = record { path = path; consumer = record { kind = kind; len = o_t_len }; input = record { instance = produced; len = t_o_len }; group = None }

  module _ (served : IsServed profile c) (peer : Node) (request : OpenFields) (fits : PathFits path) (made : IsMadeOf profile c request) where
    abbrev view : View
    view = view_of (adapter_table profile) request.triad

    reads : opening_path profile.description request.path ≡ Ok path
    reads = opening_reads profile.description request.path path (ap path_reading made.path ∙ path_text_reads path fits)

    found : points_of view request (Some path) ≡ Ok points
    found = rw (joined_none (is_multicast request.t_o_params.kind), known profile.config, served.consumer, served.input) refl

    holds : are_limits profile.limits ≡ true
    holds = limits_hold profile none

    least_holds : is_from 1 10000000 profile.limits.least_rpi ≡ true
    least_holds = (and_parts _ _ holds).0

    nodes_hold : are_node_limits profile.limits.node_connections ≡ true
    nodes_hold = (and_parts _ _ (and_parts _ _ (and_parts _ _ holds).1).1).0

    not_unserved : is_unserved request ≡ false
    not_unserved = rw (few_multiplier request.multiplier made.multiplier, made.o_t_single, made.t_o_single) refl

    intervals : not (are_intervals request) ≡ false
    intervals = rw (is_an_interval profile request.o_t_rpi made.o_t_rpi, is_an_interval profile request.t_o_rpi made.t_o_rpi) refl

    to_size : not (request.t_o_params.size == t_o_len + 2) ≡ false
    to_size = rw (made.t_o_size, same (t_o_len + 2)) refl

    -- the checks from the first to the eighth pass
    to_eight : (rest : List Check) (said : Check) → first_of rest ≡ said
        → first_of (check (not (is_point_to_point request.o_t_params.kind)) refusal.ConsumedType ∷ check (not (is_produced_type request.t_o_params.kind)) refusal.ProducedType
        ∷ check (is_none (trigger_of request.trigger)) refusal.Trigger ∷ check (is_unserved request) refusal.Parameter ∷ check (not (are_intervals request)) refusal.PacketInterval
        ∷ check (is_below_least profile.limits.least_rpi request) refusal.PacketInterval ∷ check (has_inhibit_fault request (Some path)) refusal.InhibitTime
        ∷ check (lacks_pace profile.limits.newer request (Some path)) refusal.InhibitTime ∷ rest) ≡ said
    to_eight rest said more =
        next (not (is_point_to_point request.o_t_params.kind)) refusal.ConsumedType _ said (rw made.o_t_kind refl)
        (next (not (is_produced_type request.t_o_params.kind)) refusal.ProducedType _ said (rw (is_produced kind request.t_o_params.kind made.t_o_kind) refl)
        (next (is_none (trigger_of request.trigger)) refusal.Trigger _ said (has_trigger changes request.trigger made.trigger)
        (next (is_unserved request) refusal.Parameter _ said not_unserved
        (next (not (are_intervals request)) refusal.PacketInterval _ said intervals
        (next (is_below_least profile.limits.least_rpi request) refusal.PacketInterval _ said (not_below profile.description profile.limits.least_rpi request least_holds made.o_t_rpi.least made.t_o_rpi.least)
        (next (has_inhibit_fault request (Some path)) refusal.InhibitTime _ said (no_inhibit (is_change_of_state (trigger_of request.trigger)) (interval_ms request.t_o_rpi))
        (next (lacks_pace profile.limits.newer request (Some path)) refusal.InhibitTime rest said (has_pace profile.limits.newer changes request path served.changes made.trigger) more)))))))

    -- so does the eleventh
    of_sizes : (size : ℕ) (rest : List Check) (said : Check) → request.o_t_params.size ≡ size → first_of rest ≡ said
        → first_of (check (not (request.o_t_params.size == size)) refusal.ConsumedSize ∷ check (not (request.t_o_params.size == t_o_len + 2)) refusal.ProducedSize ∷ rest) ≡ said
    of_sizes size rest said size_is more =
        next (not (request.o_t_params.size == size)) refusal.ConsumedSize _ said (rw (size_is, same size) refl)
        (next (not (request.t_o_params.size == t_o_len + 2)) refusal.ProducedSize rest said to_size more)

    abbrev said : Check → Result Admitted Refusal
    said which = judged request (Ok points) which

    judged_as : (which : Check) → first_of (checks view request (Ok path) (Ok points)) ≡ which → verdict view request ≡ said which
    unfolding verdict
    judged_as which is = ap (judged_path view request) reads ∙ (ap (λ p. judged request p (first_of (checks view request (Ok path) p))) found ∙ ap said is)

    admitted : verdict view request ≡ Ok (admitted_at request points) → limited_admission (adapter_table profile) peer request ≡ Ok (admitted_at request points)
    admitted is =
        ap (λ v. paced (has_opened_enough_at (adapter_table profile) peer) (limited profile.limits [] peer (fixed profile.description request v))) is
        ∙ rw (made.o_t_fixed, made.t_o_fixed, no_place_lacks profile.limits.places kind served.place, no_node_has_enough profile.limits.node_connections peer nodes_hold, no_node_opened profile.limits.node_connections (record { 0 = 0 }) peer nodes_hold) refl

    is_admitted : first_of (checks view request (Ok path) (Ok points)) ≡ None → IsAdmittedAs c (limited_admission (adapter_table profile) peer request)
    is_admitted is = subst (IsAdmittedAs c) (sym (admitted (judged_as None is))) (refl, (refl, refl))

    is_refused : (why : Refusal) → first_of (checks view request (Ok path) (Ok points)) ≡ Some why → limited_admission (adapter_table profile) peer request ≡ Err why
    is_refused why is = ap (λ v. paced (has_opened_enough_at (adapter_table profile) peer) (limited profile.limits [] peer (fixed profile.description request v))) (judged_as (Some why) is)

-- the adapter answers each request of intervals that are in the range as they are
abbrev IsAnsweredAt : Profile → SheetConnection → Type 0
IsAnsweredAt profile c =
    (peer : Node) (request : OpenFields) → PathFits (sheet_path profile.config c) → IsMadeOf profile c request →
    IsAnswered c.kind c (limited_admission (adapter_table profile) peer request)

taken : (profile : Profile) (none : profile_fault profile ≡ None) → HasIds profile → (kind : Kind) (triggers : Bool) (consumed o_t_len produced t_o_len : ℕ) → IsServed profile (c profile none kind triggers consumed o_t_len produced t_o_len) → IsAnsweredAt profile (c profile none kind triggers consumed o_t_len produced t_o_len)
taken profile none has ExclusiveOwner triggers consumed o_t_len produced t_o_len served peer request fits made =
    is_admitted profile none ExclusiveOwner triggers consumed o_t_len produced t_o_len served peer request fits made
    (to_eight profile none ExclusiveOwner triggers consumed o_t_len produced t_o_len served peer request fits made _ None
    (of_sizes profile none ExclusiveOwner triggers consumed o_t_len produced t_o_len served peer request fits made (o_t_len + 6) _ None made.o_t_size
    (next _ _ _ None (few_ids (is_multicast request.t_o_params.kind) (ids_left (first_ids profile ∷ []) 1) (ids_there profile has)) refl)))
taken profile none has InputOnly triggers consumed o_t_len produced t_o_len served peer request fits made =
    is_admitted profile none InputOnly triggers consumed o_t_len produced t_o_len served peer request fits made
    (to_eight profile none InputOnly triggers consumed o_t_len produced t_o_len served peer request fits made _ None
    (of_sizes profile none InputOnly triggers consumed o_t_len produced t_o_len served peer request fits made 2 _ None (made.o_t_size ∙ served.size)
    (next _ _ _ None (few_ids (is_multicast request.t_o_params.kind) (ids_left (first_ids profile ∷ []) 1) (ids_there profile has)) refl)))
taken profile none has ListenOnly triggers consumed o_t_len produced t_o_len served peer request fits made =
    is_refused profile none ListenOnly triggers consumed o_t_len produced t_o_len served peer request fits made refusal.NoSupport
    (to_eight profile none ListenOnly triggers consumed o_t_len produced t_o_len served peer request fits made _ (Some refusal.NoSupport)
    (of_sizes profile none ListenOnly triggers consumed o_t_len produced t_o_len served peer request fits made 2 _ (Some refusal.NoSupport) (made.o_t_size ∙ served.size)
    (next (not (is_multicast request.t_o_params.kind)) refusal.ProducedType _ (Some refusal.NoSupport) (rw made.t_o_kind refl) refl)))

pub sheets_are_admitted : SheetsAreAdmitted
sheets_are_admitted profile none has = each_so (IsServed profile) (IsTaken profile) (connections_of profile) (λ c served peer request fits made. taken profile none has c.kind c.changes c.consumed c.o_t_len c.produced c.t_o_len served peer (whole_request profile.description request) fits (whole_made profile c request made)) (all_served profile none)
