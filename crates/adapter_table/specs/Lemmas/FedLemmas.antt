-- What a datagram does to the values: they keep their lengths, and its output holds what it leaves there.
use Rattle.std.proofs.Common.{◌≡◌, ◌≤◌, ℕ, ◌+◌, ◌==◌, nat_lt, Bool, true, false, cond, List, length, find, take, drop, Option, Some, None, is_some, refl, sym, ◌∙◌, subst, arith}
use Rattle.std.specs.Option.{option_map, unwrap_or}
use Rattle.std.specs.Int.{w32, byte_len, from_le_bytes}
use Rattle.std.proofs.lemmas.Bool.{eqb-true}
use Rattle.std.proofs.lemmas.Bool.Decides.{nat_tests}
use Rattle.std.proofs.lemmas.List.{length-drop}
use Rattle.cip_types.specs.declared.names.Ms.{Ms}
use Rattle.cip_datagram.specs.Datagram.{DatagramFields}
use Rattle.cip_datagram.specs.Header.{is_run, header_at}
use Rattle.cip_events.specs.declared.event.Delivery.{Delivery}
use Rattle.cip_events.specs.declared.event.Delivery.TheVariants.{Applied, Idle, Heartbeat, Duplicate, Old, UnknownId, WrongSize, Malformed}
use Rattle.adapter_table.specs.declared.profile.OutputPoint.{OutputPoint}
use Rattle.adapter_table.specs.declared.profile.Profile.{Profile}
use Rattle.adapter_table.specs.Connections.{Row}
use Rattle.adapter_table.specs.declared.table.PointValue.{PointValue}
use Rattle.adapter_table.specs.Profiles.{is_output_at}
use Rattle.adapter_table.specs.Points.{bytes_at}
use Rattle.cip_productions.specs.Kinds.{is_owner}
use Rattle.adapter_table.specs.StatedLimits.{accepts_at}
use Rattle.adapter_table.specs.Datagrams.{output_len, expected_len, moded, row_delivery, run_data, accepted_values}
use Rattle.cip_productions.specs.Acceptance.{is_duplicate}
use Rattle.adapter_table.specs.Shapes.{IsShaped, len_of}
use Rattle.adapter_table.specs.Whole.{ConsumesOutput}
use Rattle.adapter_table.specs.Scratch.{left_accepted}
use Rattle.adapter_table.specs.Fitting.{output_fits, output_length, shaped_put, shaped_idle}
use Rattle.adapter_table.specs.Lemmas.ValueLemmas.{put_at, put_beside, idle_at, idle_beside}

-- ---- data that are applied are as long as the output

record IsApplied (a b : Bool) : Type 0 where
  sized : a ≡ true
  owns : b ≡ true

-- an applied datagram has the connection's size, and its connection is an owner's
applied_by : (sized newer owns duplicate : Bool) (header : Option (Bool × List ℕ)) → cond sized (cond newer (cond owns (cond duplicate Duplicate (moded header)) Heartbeat) Old) WrongSize ≡ Applied → IsApplied sized owns
applied_by true true true duplicate header is = record { sized = refl; owns = refl }
applied_by true true false duplicate header is = absurd cc
applied_by true false owns duplicate header is = absurd cc
applied_by false newer owns duplicate header is = absurd cc

behind_by : (b : Bool) (n : ℕ) (payload : List ℕ) → nat_lt (length payload) (byte_len w32) ≡ b → 4 ≤ length payload → length (run_data (option_map (λ (p : ℕ × List ℕ). (is_run p.0, p.1)) (cond b None (Some (n, drop (byte_len w32) payload))))) + 4 ≡ length payload
behind_by true n payload short long = absurd (grind (arith, nat_tests))
behind_by false n payload short long = omega (arith, length-drop 4 payload)

-- the data behind a header are the rest of the payload
data_len : (payload : List ℕ) → 4 ≤ length payload → length (run_data (header_at payload)) + 4 ≡ length payload
data_len payload long = behind_by (nat_lt (length payload) (byte_len w32)) (from_le_bytes w32 (take (byte_len w32) payload)) payload refl long

expected_is : (profile : Profile) (row : Row) → is_owner row.kind ≡ true → expected_len profile row ≡ output_len (find (is_output_at row.consumed) profile.outputs) + 4
expected_is profile row owns = rw owns refl

same_len : (a b c : ℕ) → a ≡ b + 4 → c + 4 ≡ a → c ≡ b
same_len a b c p q = omega arith

applied_len : (profile : Profile) (clock : Ms) (row : Row) (d : DatagramFields) → row_delivery profile clock row d ≡ Applied → length (run_data (header_at d.payload)) ≡ output_len (find (is_output_at row.consumed) profile.outputs)
applied_len profile clock row d is =
    let by = applied_by (length d.payload == expected_len profile row) (accepts_at profile.limits.newer clock row d.sequence) (is_owner row.kind) (is_duplicate row.last d.count) (header_at d.payload) is in
    let len : length d.payload ≡ output_len (find (is_output_at row.consumed) profile.outputs) + 4 = eqb-true _ _ by.sized ∙ expected_is profile row by.owns in
    same_len (length d.payload) (output_len (find (is_output_at row.consumed) profile.outputs)) (length (run_data (header_at d.payload))) len (data_len d.payload (omega arith))

fits_found : (profile : Profile) (point len : ℕ) (found : Option OutputPoint) → find (is_output_at point) profile.outputs ≡ found → is_some found ≡ true → len ≡ output_len found → len_of profile point ≡ Some len
fits_found profile point len None is some long = absurd cc
fits_found profile point len (Some output) is some long = output_fits profile point output len is long

-- they fit the output of their connection
pub applied_fits : (profile : Profile) (clock : Ms) (row : Row) (d : DatagramFields) → ConsumesOutput profile row → row_delivery profile clock row d ≡ Applied → len_of profile row.consumed ≡ Some (length (run_data (header_at d.payload)))
applied_fits profile clock row d consumes is =
    let by = applied_by (length d.payload == expected_len profile row) (accepts_at profile.limits.newer clock row d.sequence) (is_owner row.kind) (is_duplicate row.last d.count) (header_at d.payload) is in
    fits_found profile row.consumed (length (run_data (header_at d.payload))) (find (is_output_at row.consumed) profile.outputs) refl (consumes by.owns) (applied_len profile clock row d is)

-- there is such an output
pub applied_output : (profile : Profile) (clock : Ms) (row : Row) (d : DatagramFields) → ConsumesOutput profile row → row_delivery profile clock row d ≡ Applied → is_some (find (is_output_at row.consumed) profile.outputs) ≡ true
applied_output profile clock row d consumes is =
    let by = applied_by (length d.payload == expected_len profile row) (accepts_at profile.limits.newer clock row d.sequence) (is_owner row.kind) (is_duplicate row.last d.count) (header_at d.payload) is in
    consumes by.owns

-- what a datagram does keeps the lengths
pub shaped_fed : (profile : Profile) (clock : Ms) (row : Row) (d : DatagramFields) (delivery : Delivery) (values : List PointValue) → row_delivery profile clock row d ≡ delivery → ConsumesOutput profile row → IsShaped profile values → IsShaped profile (accepted_values profile row.consumed d delivery values)
shaped_fed profile clock row d Applied values is consumes shaped = shaped_put profile values row.consumed (run_data (header_at d.payload)) shaped (applied_fits profile clock row d consumes is)
shaped_fed profile clock row d Idle values is consumes shaped = shaped_idle profile values row.consumed shaped
shaped_fed profile clock row d Heartbeat values is consumes shaped = shaped
shaped_fed profile clock row d Duplicate values is consumes shaped = shaped
shaped_fed profile clock row d Old values is consumes shaped = shaped
shaped_fed profile clock row d UnknownId values is consumes shaped = shaped
shaped_fed profile clock row d WrongSize values is consumes shaped = shaped
shaped_fed profile clock row d Malformed values is consumes shaped = shaped

-- ---- what it leaves

fed_here : (profile : Profile) (point : ℕ) (output : OutputPoint) (d : DatagramFields) (delivery : Delivery) (values : List PointValue) (point_bytes : List ℕ) → IsShaped profile values → find (is_output_at point) profile.outputs ≡ Some output → bytes_at values point ≡ Some point_bytes → bytes_at (accepted_values profile point d delivery values) point ≡ Some (unwrap_or (left_accepted (find (is_output_at point) profile.outputs) d delivery) point_bytes)
fed_here profile point output d Applied values point_bytes shaped is holds = put_at point (run_data (header_at d.payload)) values point_bytes holds
fed_here profile point output d Idle values point_bytes shaped is holds = idle_at profile point output values point_bytes is holds (output_length profile values point output point_bytes shaped is holds)
fed_here profile point output d Heartbeat values point_bytes shaped is holds = holds
fed_here profile point output d Duplicate values point_bytes shaped is holds = holds
fed_here profile point output d Old values point_bytes shaped is holds = holds
fed_here profile point output d UnknownId values point_bytes shaped is holds = holds
fed_here profile point output d WrongSize values point_bytes shaped is holds = holds
fed_here profile point output d Malformed values point_bytes shaped is holds = holds

fed_beside : (profile : Profile) (point other : ℕ) (d : DatagramFields) (delivery : Delivery) (values : List PointValue) (point_bytes : List ℕ) → (other == point) ≡ false → bytes_at values point ≡ Some point_bytes → bytes_at (accepted_values profile other d delivery values) point ≡ Some point_bytes
fed_beside profile point other d Applied values point_bytes differ holds = put_beside point other (run_data (header_at d.payload)) values point_bytes differ holds
fed_beside profile point other d Idle values point_bytes differ holds = idle_beside profile point other values point_bytes differ holds
fed_beside profile point other d Heartbeat values point_bytes differ holds = holds
fed_beside profile point other d Duplicate values point_bytes differ holds = holds
fed_beside profile point other d Old values point_bytes differ holds = holds
fed_beside profile point other d UnknownId values point_bytes differ holds = holds
fed_beside profile point other d WrongSize values point_bytes differ holds = holds
fed_beside profile point other d Malformed values point_bytes differ holds = holds

-- what an output holds after a datagram for a connection that consumes this point
pub fed_value : (profile : Profile) (point consumed : ℕ) (output : OutputPoint) (d : DatagramFields) (delivery : Delivery) (values : List PointValue) (point_bytes : List ℕ) → IsShaped profile values → find (is_output_at point) profile.outputs ≡ Some output → bytes_at values point ≡ Some point_bytes → bytes_at (accepted_values profile consumed d delivery values) point ≡ Some (unwrap_or (cond (consumed == point) (left_accepted (find (is_output_at point) profile.outputs) d delivery) None) point_bytes)
fed_value profile point consumed output d delivery values point_bytes shaped is holds = value_by (consumed == point) refl where
  value_by : (b : Bool) → (consumed == point) ≡ b → bytes_at (accepted_values profile consumed d delivery values) point ≡ Some (unwrap_or (cond b (left_accepted (find (is_output_at point) profile.outputs) d delivery) None) point_bytes)
  value_by true here = subst (λ (n : ℕ). bytes_at (accepted_values profile n d delivery values) point ≡ Some (unwrap_or (left_accepted (find (is_output_at point) profile.outputs) d delivery) point_bytes)) (sym (eqb-true consumed point here)) (fed_here profile point output d delivery values point_bytes shaped is holds)
  value_by false here = fed_beside profile point consumed d delivery values point_bytes here holds
