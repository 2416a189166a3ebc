-- Each exclusive owner consumes an output of the profile: one that is opened, and each that is changed.
use Rattle.std.proofs.Common.{◌≡◌, ℕ, ◌==◌, Bool, true, false, cond, List, map, find, Option, Some, None, is_some, refl, sym, ◌∙◌, ap}
use Rattle.std.specs.Option.{option_map}
use Rattle.cip_types.specs.declared.names.Ms.{Ms}
use Rattle.cip_fwdopen.specs.Open.{OpenFields}
use Rattle.adapter_table.specs.declared.profile.OutputPoint.{OutputPoint}
use Rattle.adapter_table.specs.declared.profile.Profile.{Profile}
use Rattle.adapter_table.specs.Connections.{Row}
use Rattle.cip_productions.specs.declared.kind.Kind.{Kind}
use Rattle.cip_productions.specs.declared.kind.Kind.TheVariants.{InputOnly, ListenOnly}
use Rattle.adapter_table.specs.declared.row.State.TheVariants.{TimedOut}
use Rattle.adapter_table.specs.declared.admission.ConsumedPoint.{ConsumedPoint}
use Rattle.adapter_table.specs.Profiles.{is_output_at}
use Rattle.cip_productions.specs.Kinds.{is_owner}
use Rattle.adapter_table.specs.declared.table.AdapterTable.{AdapterTable}
use Rattle.adapter_table.specs.Checks.{heartbeat_kind, heartbeat_point, consumed_point_at, Admitted}
use Rattle.adapter_table.specs.Ticks.{has_expired, expired_row, expired_rows}
use Rattle.adapter_table.specs.Whole.{ConsumesOutput, OwnersConsume}
use Rattle.adapter_table.specs.Lemmas.CheckLemmas.{IsAdmitted}
use Rattle.adapter_table.specs.EachLemmas.{each_map}
use Rattle.adapter_table.specs.Lemmas.LikeLemmas.{Keeps}

-- ---- the connections change

consumes_like : (profile : Profile) (row row' : Row) → row'.kind ≡ row.kind → row'.consumed ≡ row.consumed → ConsumesOutput profile row → ConsumesOutput profile row'
consumes_like profile row row' kind place is = λ owns.
    ap (λ (n : ℕ). is_some (find (is_output_at n) profile.outputs)) place ∙ is (ap is_owner (sym kind) ∙ owns)

pub consume_kept : (f : Row → Row) → Keeps f → (profile : Profile) (rows : List Row) → OwnersConsume profile rows → OwnersConsume profile (map f rows)
consume_kept f keeps profile rows all =
    each_map (ConsumesOutput profile) f (λ row is. consumes_like profile row (f row) (keeps.like row).kind (keeps.like row).consumed is) rows all

faded_step : (b : Bool) (profile : Profile) (row : Row) → ConsumesOutput profile row → ConsumesOutput profile (cond b (record row { state = TimedOut }) row)
faded_step true profile row is = is
faded_step false profile row is = is

pub consume_expired : (clock : Ms) (profile : Profile) (rows : List Row) → OwnersConsume profile rows → OwnersConsume profile (expired_rows clock rows)
consume_expired clock profile rows all = each_map (ConsumesOutput profile) (expired_row clock) (λ row is. faded_step (has_expired clock row) profile row is) rows all

-- ---- what is admitted

-- a heartbeat's connection is no owner
no_owner : (b c : Bool) (consumer : ConsumedPoint) → option_map heartbeat_point (heartbeat_kind b c) ≡ Some consumer → is_owner consumer.kind ≡ false
no_owner true c consumer is = ap (λ (k : Kind). is_owner k) (let same : consumer.kind ≡ InputOnly = cc in same)
no_owner false true consumer is = ap (λ (k : Kind). is_owner k) (let same : consumer.kind ≡ ListenOnly = cc in same)
no_owner false false consumer is = absurd cc

owner_by : (profile : Profile) (point : ℕ) (found : Option OutputPoint) (consumer : ConsumedPoint) → consumed_point_at profile point found ≡ Some consumer → is_owner consumer.kind ≡ true → is_some found ≡ true
owner_by profile point None consumer is owns = let none = no_owner (profile.input_only == point) (profile.listen_only == point) consumer is in absurd cc
owner_by profile point (Some output) consumer is owns = refl

-- an admitted owner consumes an output
pub admitted_consumes : (t : AdapterTable) (request : OpenFields) (admitted : Admitted) → IsAdmitted t request admitted → is_owner admitted.kind ≡ true → is_some (find (is_output_at admitted.consumed) t.profile.outputs) ≡ true
admitted_consumes t request admitted is owns =
    owner_by t.profile admitted.consumed (find (is_output_at admitted.consumed) t.profile.outputs) is.consumer is.consumer_is (ap is_owner (sym is.kind_is) ∙ owns)
