-- A new connection of an adapter has the T->O id for which its request asked, or one of the adapter's own.
use Rattle.std.proofs.Common.{◌≡◌, ◌≤◌, ◌⊎◌, inl, inr, ℕ, ◌+◌, Bool, true, false, cond, List, [], ◌∷◌, find, Option, Some, None, Result, Ok, IfOk, refl, sym, ◌∙◌, ap, subst, arith}
use Rattle.std.specs.List.{AllByRecursion}
use Rattle.std.proofs.lemmas.Option.{same_Some as some_row}
use Rattle.base_lemmas.specs.Numbers.{number_same}
use Rattle.cip_types.specs.Ids.{end_number}
use Rattle.cip_types.specs.declared.ids.IdBlock.{IdBlock}
use Rattle.cip_types.specs.declared.names.ConnId.{ConnId}
use Rattle.cip_types.specs.declared.names.Node.{Node}
use Rattle.cip_encap.specs.Message.{MessageFields}
use Rattle.cip_encap.specs.Packet.{PacketFields}
use Rattle.cip_encap.specs.AnyItems.{any_packet_reading}
use Rattle.cip_encap.specs.Reading.{message_reading}
use Rattle.cip_events.specs.declared.event.StepFault.{StepFault}
use Rattle.cip_fwdopen.specs.Open.{OpenFields}
use Rattle.cip_router.specs.Requests.{opening, router_request_reading}
use Rattle.adapter_table.specs.Intervals.{whole_request}
use Rattle.adapter_table.specs.Connections.{Row}
use Rattle.adapter_table.specs.declared.table.AdapterTable.{AdapterTable}
use Rattle.adapter_table.specs.Checks.{Admitted, drawn_ids, group_of, joined, admission}
use Rattle.adapter_table.specs.Encapsulation.{frame}
use Rattle.adapter_table.specs.Opening.{opened_t_o_id, opened_row}
use Rattle.adapter_table.specs.Productions.{producer_of}
use Rattle.adapter_table.specs.Requests.{Next}
use Rattle.adapter_table.specs.Rows.{is_member, Each}
use Rattle.adapter_table.specs.Sound.{IdsAreDrawn, IsSound, MulticastIdIsDrawn}
use Rattle.adapter_table.specs.Streams.{is_stream}
use Rattle.adapter_table.specs.Lemmas.CheckLemmas.{admitted_is}
use Rattle.adapter_table.specs.Lemmas.GroupLemmas.{member_parts}
use Rattle.device_laws.specs.Requests.{request_asks, packet_asks, message_asks, asks_id, IsOwnId, IsOldOrRequested, NewConnectionsAreRequested}
use Rattle.device_laws.specs.Lemmas.OpenedRows.{NextRows, frame_rows}

-- ---- the T->O id of a new connection

own_step : (ids : List IdBlock) (next_id point : ℕ) (row member : Row) (rest : Option Row) (b : Bool) → next_id ≤ end_number ids → MulticastIdIsDrawn ids next_id row → (rest ≡ Some member → IsOwnId ids member.t_o_id) → is_member point row ≡ b → cond b (Some row) rest ≡ Some member → IsOwnId ids member.t_o_id
own_step ids next_id point row member rest true left drawn on passes is =
    let parts = member_parts point row passes in
    let own = drawn parts.0 parts.1 in
    let under = own.1 in
    subst (λ (r : Row). IsOwnId ids r.t_o_id) (some_row row member is) (record { number = producer_of row.state + 1; begins = omega arith; below = omega (arith, under, left); is = own.0 })
own_step ids next_id point row member rest false left drawn on passes is = on is

-- the id of a living group is one of the adapter's own
group_owns : (ids : List IdBlock) (next_id point : ℕ) (rows : List Row) (member : Row) → next_id ≤ end_number ids → Each (MulticastIdIsDrawn ids next_id) rows → find (is_member point) rows ≡ Some member → IsOwnId ids member.t_o_id
group_owns ids next_id point [] member left drawn is = absurd (let e = is in cc)
group_owns ids next_id point (row ∷ rows) member left drawn is =
    own_step ids next_id point row member (find (is_member point) rows) (is_member point row) left drawn.0 (group_owns ids next_id point rows member left drawn.1) refl is

joined_owns : (t : AdapterTable) (multicast : Bool) (point : ℕ) (member : Row) → IsSound t → Some member ≡ joined multicast (group_of t.rows point) → IsOwnId t.ids member.t_o_id
joined_owns t true point member sound is = let producers = sound.producers in group_owns t.ids t.next_id point t.rows member sound.ids_are_left producers.multicast (sym is)
joined_owns t false point member sound is = absurd (let e = is in cc)

id_is : (t : AdapterTable) (request : OpenFields) (multicast : Bool) (point : ℕ) (group : Option Row) → IsSound t → group ≡ joined multicast (group_of t.rows point) → t.next_id + drawn_ids multicast group ≤ end_number t.ids → (opened_t_o_id t request multicast group ≡ request.t_o_id) ⊎ IsOwnId t.ids (opened_t_o_id t request multicast group)
id_is t request true point None sound is left = inr (record { number = t.next_id + 1; begins = omega arith; below = omega (arith, left); is = refl })
id_is t request false point None sound is left = inl refl
id_is t request multicast point (Some member) sound is left = inr (joined_owns t multicast point member sound is)

-- ---- the law

-- the bytes ask for the id of the request that they are
requested_by : (bytes : List ℕ) (m : MessageFields) (packet : PacketFields) (large : Bool) (request : OpenFields) → message_reading bytes ≡ Ok m → any_packet_reading m.payload ≡ Ok packet → router_request_reading packet.payload ≡ opening large request → asks_id request.t_o_id.0 bytes ≡ true
unfolding asks_id
requested_by bytes m packet large request one two three =
    let id = request.t_o_id.0 in
    ap (message_asks request.t_o_id.0) one ∙ ap (packet_asks request.t_o_id.0) two ∙ ap (request_asks request.t_o_id.0) three ∙ number_same request.t_o_id.0

row_requested : (t : AdapterTable) (bytes : List ℕ) (peer : Node) (request : OpenFields) (admitted : Admitted) → IsSound t → asks_id request.t_o_id.0 bytes ≡ true → admission t request ≡ Ok admitted → IsOldOrRequested t bytes (opened_row t peer request admitted)
unfolding opened_row
row_requested t bytes peer request admitted sound asks is =
    let admits = admitted_is t request admitted is in
    inr (so (id_is t request admitted.multicast admitted.produced admitted.group sound admits.group_is admits.ids_are_left))
  where
    so : (opened_t_o_id t request admitted.multicast admitted.group ≡ request.t_o_id) ⊎ IsOwnId t.ids (opened_t_o_id t request admitted.multicast admitted.group) → (asks_id (opened_t_o_id t request admitted.multicast admitted.group).0 bytes ≡ true) ⊎ IsOwnId t.ids (opened_t_o_id t request admitted.multicast admitted.group)
    so (inl same) = inl (subst (λ (id : ConnId). asks_id id.0 bytes ≡ true) (sym same) asks)
    so (inr own) = inr own

old_rows : (t : AdapterTable) (bytes : List ℕ) (rows : List Row) → IdsAreDrawn t.ids t.next_id rows → AllByRecursion (IsOldOrRequested t bytes) rows
old_rows t bytes [] drawn = tt
old_rows t bytes (row ∷ rows) drawn = (inl drawn.0.below, old_rows t bytes rows drawn.1)

pub new_rows_requested : NewConnectionsAreRequested
unfolding frame
new_rows_requested t number bytes answer next is whole =
    let O = IsOldOrRequested t bytes in
    let sound = whole.sound in
    subst (λ (said : Result Next StepFault). IfOk said (NextRows (IsOldOrRequested t bytes))) is
    (frame_rows (IsOldOrRequested t bytes) t bytes (find (is_stream number) t.streams)
    (λ m one packet two large request three peer admitted admits. row_requested t bytes peer (whole_request t.profile.description request) admitted whole.sound (requested_by bytes m packet large request one two three) admits)
    (old_rows t bytes t.rows sound.ids_are_drawn))
