-- A request or a frame touches no output but by the loss of its owner.
use Rattle.std.proofs.Common.{◌≡◌, ◌≤◌, ℕ, ◌==◌, nat_le, Bool, true, false, cond, ◌&&◌, List, [], ◌∷◌, ◌++◌, length, find, Option, Some, None, Ok, refl, sym, subst, arith}
use Rattle.std.specs.Option.{unwrap_or}
use Rattle.std.specs.List.{list_any}
use Rattle.std.proofs.lemmas.Bool.Decides.{nat_tests}
use Rattle.cip_types.specs.declared.names.Node.{Node}
use Rattle.cip_types.specs.declared.names.Triad.{Triad}
use Rattle.cip_fwdopen.specs.Open.{OpenFields}
use Rattle.adapter_table.specs.declared.counters.DeviceCounters.{DeviceCounters}
use Rattle.adapter_table.specs.Counting.{with_counters}
use Rattle.adapter_table.specs.declared.profile.InputPoint.{InputPoint}
use Rattle.adapter_table.specs.declared.profile.OutputPoint.{OutputPoint}
use Rattle.adapter_table.specs.declared.profile.Profile.{Profile}
use Rattle.adapter_table.specs.Connections.{Row}
use Rattle.adapter_table.specs.declared.table.PointValue.{PointValue}
use Rattle.adapter_table.specs.declared.table.AdapterTable.{AdapterTable}
use Rattle.adapter_table.specs.Profiles.{is_output_at}
use Rattle.adapter_table.specs.Points.{bytes_at, lost_values}
use Rattle.adapter_table.specs.Rows.{is_established, has_triad, drives, drivers, others}
use Rattle.cip_productions.specs.Kinds.{is_owner}
use Rattle.adapter_table.specs.Checks.{Admitted, admission}
use Rattle.adapter_table.specs.Opening.{is_replaced, opened_row, configured, opened_table}
use Rattle.adapter_table.specs.Closing.{without_triad, staying, closed_values, closed_table}
use Rattle.messaging.specs.declared.table.Messaging.{Messaging}
use Rattle.adapter_table.specs.Messages.{messages_table}
use Rattle.adapter_table.specs.Streams.{with_stream, without_stream, registered_table}
use Rattle.adapter_table.specs.Shapes.{IsShaped}
use Rattle.adapter_table.specs.Whole.{IsWhole}
use Rattle.adapter_table.specs.Scratch.{left_lost, is_lost, lost}
use Rattle.adapter_table.specs.Lemmas.CheckLemmas.{admitted_is}
use Rattle.adapter_table.specs.Shaping.{configuration_no_output}
use Rattle.adapter_table.specs.Fitting.{output_length}
use Rattle.adapter_table.specs.Lemmas.ValueLemmas.{put_beside, lost_at, lost_beside}
use Rattle.adapter_table.specs.Lemmas.DriverLemmas.{same_owner, owner_opened, owner_stays, owner_closed}
use Rattle.adapter_table.specs.Lemmas.RequestLemmas.{RequestsDo}

-- each output holds what the loss of its owner leaves there
abbrev pub LosesOnly : AdapterTable → AdapterTable → Type 0
LosesOnly t next = (point : ℕ) (output : OutputPoint) (point_bytes : List ℕ) → find (is_output_at point) t.profile.outputs ≡ Some output → bytes_at t.values point ≡ Some point_bytes → bytes_at next.values point ≡ Some (unwrap_or (lost point t next) point_bytes)

-- an output whose owner is not lost holds what it held
pub unlost : (b : Bool) (left : Option (List ℕ)) (point_bytes : List ℕ) (bytes : Option (List ℕ)) → b ≡ false → bytes ≡ Some point_bytes → bytes ≡ Some (unwrap_or (cond b left None) point_bytes)
unlost true left point_bytes bytes stays holds = absurd cc
unlost false left point_bytes bytes stays holds = holds

pub loses_nothing : (t : AdapterTable) → LosesOnly t t
loses_nothing t = λ point output point_bytes is holds.
    unlost (is_lost point t.rows t.rows) (left_lost (find (is_output_at point) t.profile.outputs)) point_bytes (bytes_at t.values point) (same_owner point t.rows t.rows refl) holds

-- ---- an opening

-- the configuration is no output
configured_beside : (profile : Profile) (config : Option InputPoint) (segment : Option (List ℕ)) (values : List PointValue) (point : ℕ) (output : OutputPoint) (point_bytes : List ℕ) → profile.config ≡ config → IsShaped profile values → find (is_output_at point) profile.outputs ≡ Some output → bytes_at values point ≡ Some point_bytes → bytes_at (configured config segment values) point ≡ Some point_bytes
configured_beside profile None segment values point output point_bytes known shaped is holds = holds
configured_beside profile (Some config) None values point output point_bytes known shaped is holds = holds
configured_beside profile (Some config) (Some bytes) values point output point_bytes known shaped is holds =
    put_beside point config.instance bytes values point_bytes (configuration_no_output profile point output config shaped.faultless is known) holds

loses_opened : (t : AdapterTable) (peer : Node) (request : OpenFields) (admitted : Admitted) → admission t request ≡ Ok admitted → IsWhole t → LosesOnly t (opened_table t (opened_row t peer request admitted) admitted)
unfolding opened_table opened_row
loses_opened t peer request admitted e whole = λ point output point_bytes is holds.
    let row = opened_row t peer request admitted in
    let free = (admitted_is t request admitted e).triad_is_free in
    unlost (is_lost point t.rows (others (is_replaced t.rows request.triad) t.rows ++ row ∷ [])) (left_lost (find (is_output_at point) t.profile.outputs)) point_bytes (bytes_at (configured t.profile.config admitted.segment t.values) point)
    (owner_opened (list_any (has_triad request.triad) t.rows) (nat_le 64 (length t.rows)) request.triad t.rows row point free whole.sound.producers.openings_rise)
    (configured_beside t.profile t.profile.config admitted.segment t.values point output point_bytes refl whole.shaped is holds)

-- ---- a close

-- who drives what it consumes drives no other output
drives_no_other : (point : ℕ) (row : Row) → drives row.consumed row ≡ true → drives point row ≡ false → (row.consumed == point) ≡ false
drives_no_other point row is other = other_step (is_established row) (is_owner row.kind) (row.consumed == row.consumed) (row.consumed == point) is other where
  other_step : (a b c d : Bool) → (a && (b && c)) ≡ true → (a && (b && d)) ≡ false → d ≡ false
  other_step true true c d is other = other
  other_step true false c d is other = absurd cc
  other_step false b c d is other = absurd cc

consumed_is : (point : ℕ) (row : Row) → drives point row ≡ true → row.consumed ≡ point
consumed_is point row is = is_step (is_established row) (is_owner row.kind) (row.consumed == point) refl is where
  is_step : (a b c : Bool) → (row.consumed == point) ≡ c → (a && (b && c)) ≡ true → row.consumed ≡ point
  is_step true true true same all = grind (arith, nat_tests)
  is_step true true false same all = absurd cc
  is_step true false c same all = absurd cc
  is_step false b c same all = absurd cc

-- what the driver of an output leaves there
pub closed_here : (profile : Profile) (row : Row) (values : List PointValue) (point : ℕ) (output : OutputPoint) (point_bytes : List ℕ) → IsShaped profile values → drives point row ≡ true → find (is_output_at point) profile.outputs ≡ Some output → bytes_at values point ≡ Some point_bytes → bytes_at (closed_values profile row values) point ≡ Some (unwrap_or (left_lost (find (is_output_at point) profile.outputs)) point_bytes)
closed_here profile row values point output point_bytes shaped drives_it is holds =
    let same = consumed_is point row drives_it in
    let left = lost_at profile point output values point_bytes is holds (output_length profile values point output point_bytes shaped is holds) in
    let own : drives row.consumed row ≡ true = subst (λ (n : ℕ). drives n row ≡ true) (sym same) drives_it in
    rw own (subst (λ (n : ℕ). bytes_at (lost_values profile n values) point ≡ Some (unwrap_or (left_lost (find (is_output_at point) profile.outputs)) point_bytes)) (sym same) left)

-- and who does not drive it
pub closed_beside : (profile : Profile) (row : Row) (values : List PointValue) (point : ℕ) (point_bytes : List ℕ) → drives point row ≡ false → bytes_at values point ≡ Some point_bytes → bytes_at (closed_values profile row values) point ≡ Some point_bytes
closed_beside profile row values point point_bytes other holds = beside_step (drives row.consumed row) refl where
  beside_step : (b : Bool) → drives row.consumed row ≡ b → bytes_at (cond b (lost_values profile row.consumed values) values) point ≡ Some point_bytes
  beside_step true own = lost_beside profile point row.consumed values point_bytes (drives_no_other point row own other) holds
  beside_step false own = holds

loses_by : (b : Bool) (t : AdapterTable) (triad : Triad) (row : Row) (point : ℕ) (output : OutputPoint) (point_bytes : List ℕ) → drives point row ≡ b → length (drivers point t.rows) ≤ 1 → IsWhole t → find (has_triad triad) t.rows ≡ Some row → find (is_output_at point) t.profile.outputs ≡ Some output → bytes_at t.values point ≡ Some point_bytes → bytes_at (closed_values t.profile row t.values) point ≡ Some (unwrap_or (cond (is_lost point t.rows (staying (without_triad row.triad t.rows))) (left_lost (find (is_output_at point) t.profile.outputs)) None) point_bytes)
loses_by true t triad row point output point_bytes drives_it one whole found is holds =
    rw (owner_closed triad t.rows row point found drives_it one) (closed_here t.profile row t.values point output point_bytes whole.shaped drives_it is holds)
loses_by false t triad row point output point_bytes other one whole found is holds =
    rw (owner_stays triad t.rows row point whole.sound.triads_differ found other) (closed_beside t.profile row t.values point point_bytes other holds)

loses_closed : (t : AdapterTable) (triad : Triad) (row : Row) → find (has_triad triad) t.rows ≡ Some row → IsWhole t → LosesOnly t (closed_table t row)
unfolding closed_table
loses_closed t triad row found whole = λ point output point_bytes is holds. loses_by (drives point row) t triad row point output point_bytes refl (whole.sound.one_owner point) whole found is holds

-- ---- streams

-- a stream that opens, one that ends, and a session that begins touch no output
pub loses_with : (t : AdapterTable) (number : ℕ) (peer : Node) → LosesOnly t (with_stream t number peer)
unfolding with_stream
loses_with t number peer = loses_nothing t

loses_without : (t : AdapterTable) (number : ℕ) → LosesOnly t (without_stream t number)
unfolding without_stream
loses_without t number = loses_nothing t

loses_registered : (t : AdapterTable) (number : ℕ) → LosesOnly t (registered_table t number)
unfolding registered_table
loses_registered t number = loses_nothing t

loses_messaged : (t : AdapterTable) (next_id : ℕ) (m : Messaging) → LosesOnly t (messages_table t next_id m)
unfolding messages_table
loses_messaged t next_id m = loses_nothing t

loses_tallied : (t next : AdapterTable) (counters : DeviceCounters) → LosesOnly t next → LosesOnly t (with_counters next counters)
loses_tallied t next counters loses = loses

-- ---- requests and frames

-- each of them loses owners at most
pub requests_lose : RequestsDo (λ t next. IsWhole t → LosesOnly t next)
requests_lose = record {
  stays = λ t whole. loses_nothing t;
  opened = λ t peer request admitted e whole. loses_opened t peer request admitted e whole;
  closed = λ t triad row found whole. loses_closed t triad row found whole;
  unstreamed = λ t number whole. loses_without t number;
  registered = λ t number whole. loses_registered t number;
  messaged = λ t next_id m goes whole. loses_messaged t next_id m;
  counted = λ t next openings loses. loses;
  tallied = λ t next counters loses whole. loses_tallied t next counters (loses whole);
  taken = λ t block may whole. loses_nothing t;
}
