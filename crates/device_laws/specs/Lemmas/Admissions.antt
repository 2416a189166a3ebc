-- Where the connection that an admitted request opens has its T->O id and its producer from.
use Rattle.std.proofs.Common.{◌≡◌, inl, inr, ◌==◌, ◌&&◌, Bool, true, false, cond, List, [], ◌∷◌, find, Option, Some, None, Result, Ok, Err, refl, sym, ◌∙◌, ap, subst, arith}
use Rattle.std.specs.List.{AllByRecursion, Contains}
use Rattle.std.specs.Result.{result_ok}
use Rattle.std.proofs.lemmas.Bool.{and_parts}
use Rattle.std.proofs.lemmas.Option.{same_Some}
use Rattle.base_lemmas.specs.Lists.{found_passes}
use Rattle.cip_types.specs.declared.names.Node.{Node}
use Rattle.adapter_table.specs.Paths.{opening_path}
use Rattle.cip_fwdopen.specs.Open.{OpenFields}
use Rattle.cip_router.specs.declared.refusal.Refusal.{Refusal}
use Rattle.adapter_table.specs.Connections.{Row}
use Rattle.adapter_table.specs.declared.table.AdapterTable.{AdapterTable}
use Rattle.adapter_table.specs.Checks.{Check, Points, Admitted, admitted_at, drawn_ids, group_of, is_multicast, joined, judged, points_of, view_of, verdict, admission}
use Rattle.adapter_table.specs.Opening.{opened_state, opened_t_o_id, opened_row, opened_table}
use Rattle.adapter_table.specs.Productions.{producer_of}
use Rattle.adapter_table.specs.Rows.{is_established, is_member}
use Rattle.adapter_table.specs.Lemmas.CheckLemmas.{admitted_is}
use Rattle.device_laws.specs.RowIds.{IsProduced}

-- ---- a list and its elements

holds_step : (P : Row → Type 0) (b : Bool) (first row : Row) (rest : Option Row) → P first → cond b (Some first) rest ≡ Some row → (rest ≡ Some row → P row) → P row
holds_step P true first row rest holds is more = subst P (same_Some first row is) holds
holds_step P false first row rest holds is more = more is

pub row_holds : (P : Row → Type 0) (p : Row → Bool) (rows : List Row) (row : Row) → AllByRecursion P rows → find p rows ≡ Some row → P row
row_holds P p [] row all is = absurd (let e = is in cc)
row_holds P p (first ∷ rows) row all is = holds_step P (p first) first row (find p rows) all.0 is (row_holds P p rows row all.1)

-- ---- what is admitted

pub admitted_same : (a b : Admitted) → ◌≡◌ {A = Result Admitted Refusal} (Ok a) (Ok b) → a ≡ b
admitted_same a b e = cc

judged_multicast : (request : OpenFields) (points : Result Points Refusal) (said : Check) (admitted : Admitted) → judged request points said ≡ Ok admitted → admitted.multicast ≡ is_multicast request.t_o_params.kind
judged_multicast request points (Some why) admitted is = absurd (let e = is in cc)
judged_multicast request (Err why) None admitted is = absurd (let e = is in cc)
judged_multicast request (Ok points) None admitted is = ap (λ (a : Admitted). a.multicast) (sym (admitted_same (admitted_at request points) admitted is))

multicast_is : (t : AdapterTable) (request : OpenFields) (admitted : Admitted) → admission t request ≡ Ok admitted → admitted.multicast ≡ is_multicast request.t_o_params.kind
unfolding verdict
multicast_is t request admitted is = judged_multicast request (points_of (view_of t request.triad) request (result_ok (opening_path t.profile.description request.path))) _ admitted is

-- ---- the new connection

by_group : (t : AdapterTable) (peer : Node) (request : OpenFields) (admitted : Admitted) (multicast : Bool) (group : Option Row) → AllByRecursion (Contains t.rows) t.rows → admitted.multicast ≡ multicast → admitted.group ≡ group → is_multicast request.t_o_params.kind ≡ multicast → group ≡ joined multicast (group_of t.rows admitted.produced) → IsProduced t (opened_table t (opened_row t peer request admitted) admitted) request (opened_row t peer request admitted)
unfolding opened_row opened_table
by_group t peer request admitted true None there m g kind joins =
    let ids : drawn_ids admitted.multicast admitted.group ≡ 2 = ap (λ (b : Bool). drawn_ids b admitted.group) m ∙ ap (drawn_ids true) g in
    inr (inl (record {
      t_o = ap (λ (b : Bool). opened_t_o_id t request b admitted.group) m ∙ ap (opened_t_o_id t request true) g;
      producer = ap (λ (o : Option Row). producer_of (opened_state t peer admitted o)) g;
      drawn = omega (arith, ids);
    }))
by_group t peer request admitted false None there m g kind joins =
    inr (inr (record {
      single = kind;
      t_o = ap (λ (b : Bool). opened_t_o_id t request b admitted.group) m ∙ ap (opened_t_o_id t request false) g;
      producer = ap (λ (o : Option Row). producer_of (opened_state t peer admitted o)) g;
    }))
by_group t peer request admitted false (Some member) there m g kind joins = absurd (let e = joins in cc)
by_group t peer request admitted true (Some member) there m g kind joins =
    let found : find (is_member admitted.produced) t.rows ≡ Some member = sym joins in
    let parts = and_parts (is_established member) (member.multicast && member.produced == admitted.produced) (found_passes (is_member admitted.produced) t.rows member found) in
    inl (record {
      member = member;
      there = row_holds (Contains t.rows) (is_member admitted.produced) t.rows member there found;
      established = parts.0;
      multicast = (and_parts member.multicast (member.produced == admitted.produced) parts.1).0;
      t_o = ap (λ (b : Bool). opened_t_o_id t request b admitted.group) m ∙ ap (opened_t_o_id t request true) g;
      producer = ap (λ (o : Option Row). producer_of (opened_state t peer admitted o)) g;
    })

pub opening_produced : (t : AdapterTable) (peer : Node) (request : OpenFields) (admitted : Admitted) → AllByRecursion (Contains t.rows) t.rows → admission t request ≡ Ok admitted → IsProduced t (opened_table t (opened_row t peer request admitted) admitted) request (opened_row t peer request admitted)
opening_produced t peer request admitted there is =
    let admits = admitted_is t request admitted is in
    by_group t peer request admitted admitted.multicast admitted.group there refl refl (sym (multicast_is t request admitted is)) admits.group_is
