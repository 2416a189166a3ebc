-- What an adapter serves: the reply of a success is that of the connection which the request opened.
use Rattle.std.proofs.Common.{◌≡◌, inl, ℕ, Bool, true, false, List, [], ◌∷◌, ◌++◌, find, Option, Some, None, Result, Ok, Err, refl}
use Rattle.std.specs.List.{AllByRecursion}
use Rattle.std.specs.Option.{IfSome}
use Rattle.device_laws.specs.Lemmas.Payloads.{object_answers_none}
use Rattle.device_laws.specs.Lemmas.AdapterIds.{nonzero}
use Rattle.base_lemmas.specs.Numbers.{less_other, number_same}
use Rattle.cip_types.specs.declared.names.Node.{Node}
use Rattle.cip_fwdopen.specs.Open.{OpenFields}
use Rattle.cip_fwdopen.specs.Close.{CloseFields}
use Rattle.messaging.specs.declared.class3.Class3Connection.{Class3Connection}
use Rattle.messaging.specs.Class3Connections.{has_class3_triad}
use Rattle.cip_router.specs.declared.refusal.Refusal.{Refusal}
use Rattle.cip_router.specs.Requests.{RouterRequestFields, nothing, refused, closing, object, opening}
use Rattle.adapter_table.specs.Intervals.{whole_request}
use Rattle.adapter_table.specs.Lemmas.RefusalLemmas.{refusal_either}
use Rattle.adapter_table.specs.Connections.{Row}
use Rattle.adapter_table.specs.declared.table.AdapterTable.{AdapterTable}
use Rattle.adapter_table.specs.Checks.{Admitted}
use Rattle.adapter_table.specs.StatedLimits.{limited_admission, is_wrong_closer, is_wrong_ender}
use Rattle.adapter_table.specs.Newest.{was_opened_as}
use Rattle.adapter_table.specs.Opening.{opened_row, opened_table}
use Rattle.adapter_table.specs.Objects.{ObjectAnswer, said, denied, resetting, answering, refusing, unrouted}
use Rattle.adapter_table.specs.Carrying.{object_answer}
use Rattle.adapter_table.specs.Requests.{Served, judged_open, admitted_open, served_open, close_of, served_close, end_of, served_end, object_served, served_object, served}
use Rattle.adapter_table.specs.Rows.{has_triad}
use Rattle.cip_types.specs.declared.ids.IdBlock.{IdBlock}
use Rattle.adapter_table.specs.Sound.{IdsAreDrawn}
use Rattle.device_laws.specs.Lemmas.Lists.{all_filtered}
use Rattle.device_laws.specs.Lemmas.Texts.{either}
use Rattle.device_laws.specs.Replies.{IsOfRow}
use Rattle.device_laws.specs.Lemmas.ReplyTexts.{ReplyHolds}

abbrev pub ServedHas : AdapterTable → Served → Type 0
ServedHas t s = ReplyHolds (IsOfRow t s.table) s.reply

-- ---- the new connection stands behind all others

abbrev IsBelow : ℕ → Row → Type 0
IsBelow next row = was_opened_as next row ≡ false

all_below : (ids : List IdBlock) (next : ℕ) (rows : List Row) → IdsAreDrawn ids next rows → AllByRecursion (IsBelow next) rows
all_below ids next [] drawn = tt
all_below ids next (row ∷ rows) drawn = (less_other row.opening next drawn.0.below, all_below ids next rows drawn.1)

find_last : (p : Row → Bool) (rows : List Row) (row : Row) → AllByRecursion (λ r. p r ≡ false) rows → p row ≡ true → find p (rows ++ row ∷ []) ≡ Some row
find_last p [] row none is = rw is refl
find_last p (r ∷ rows) row none is = rw (none.0) (find_last p rows row none.1 is)

pub new_row_found : (t : AdapterTable) (peer : Node) (request : OpenFields) (admitted : Admitted) → IdsAreDrawn t.ids t.next_id t.rows → find (was_opened_as t.next_id) (opened_table t (opened_row t peer request admitted) admitted).rows ≡ Some (opened_row t peer request admitted)
unfolding opened_table opened_row
new_row_found t peer request admitted drawn =
    find_last (was_opened_as t.next_id) _ (opened_row t peer request admitted) (all_filtered (IsBelow t.next_id) _ t.rows (all_below t.ids t.next_id t.rows drawn)) (number_same t.next_id)

-- ---- what is served

open_has : (t : AdapterTable) (peer : Node) (large : Bool) (request : OpenFields) (said : Result Admitted Refusal) → IdsAreDrawn t.ids t.next_id t.rows → ServedHas t (judged_open t peer large request said)
unfolding admitted_open
open_has t peer large request (Err why) drawn = refusal_either (ReplyHolds (IsOfRow t t)) t.profile t.rows _ request why (λ fault fails. fails) (λ a. tt)
open_has t peer large request (Ok admitted) drawn = λ read ids. record {
  row = opened_row t peer request admitted;
  new = new_row_found t peer request admitted drawn;
  o_t = ids.o_t_is;
  t_o = ids.t_o_is;
  o_t_api = ids.o_t_api_is;
  t_o_api = ids.t_o_api_is;
}

close_has : (t : AdapterTable) (peer : Node) (request : CloseFields) (found : Option Row) → ServedHas t (close_of t peer request found)
close_has t peer request None = refl
close_has t peer request (Some row) = either (ServedHas t) (is_wrong_closer t.profile.limits peer row) _ _ refl tt

end_has : (t : AdapterTable) (peer : Node) (request : CloseFields) (found : Option Class3Connection) → ServedHas t (end_of t peer request found)
unfolding served_close
end_has t peer request None = close_has t peer request (find (has_triad request.triad) t.rows)
end_has t peer request (Some d) = either (ServedHas t) (is_wrong_ender t.profile.limits peer d) _ _ refl tt

object_has : (t : AdapterTable) (service : ℕ) (answer : ObjectAnswer) → ServedHas t (object_served t service answer)
object_has t service (said by value) = tt
object_has t service (denied why) = nonzero why
object_has t service (resetting kind) = tt
object_has t service (answering by general content) = inl (object_answers_none by)
object_has t service (refusing named why) = nonzero why
object_has t service (unrouted words) = tt

pub served_has : (t : AdapterTable) (peer : Node) (requested : RouterRequestFields) → IdsAreDrawn t.ids t.next_id t.rows → IfSome (served t peer requested) (ServedHas t)
unfolding served_open served_end served_object
served_has t peer nothing drawn = tt
served_has t peer (refused service why) drawn = nonzero why
served_has t peer (closing request) drawn = end_has t peer request (find (has_class3_triad request.triad) t.messaging.class3_connections)
served_has t peer (object service class instance attribute body) drawn = object_has t service (object_answer t service class instance attribute body)
served_has t peer (opening large request) drawn = open_has t peer large (whole_request t.profile.description request) (limited_admission t peer (whole_request t.profile.description request)) drawn
