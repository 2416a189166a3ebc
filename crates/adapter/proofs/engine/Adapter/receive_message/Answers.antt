use Rattle.std.proofs.Common.{◌≡◌, ℕ, List, find, Some, Ok, IfOk, ◌∙◌, sym, ap, subst}
use Rattle.std.specs.Option.{option_map}
use Rattle.cip_encap.specs.Connected.{view_connected}
use Rattle.messaging.specs.Class3Connections.{is_class3, has_class3_id}
use Rattle.adapter_table.specs.declared.table.AdapterTable.{AdapterTable}
use Rattle.adapter_table.specs.MessagesSound.{IsInPlace}
use Rattle.adapter_table.specs.Lemmas.MessageLemmas.{found_any, same_number}
use Rattle.cip_events.specs.Outcomes.{Follows}
use Rattle.messaging.specs.Changes.{repeated}
use Rattle.adapter_table.specs.Messages.{with_messages}
use Rattle.adapter_replies.specs.Messages.{repeated_answer}
use Rattle.adapter_table.specs.Connected.{service_in}
use Rattle.adapter_replies.specs.declared.routes.ConnectionRoute.{ConnectionRoute}
use Rattle.adapter_replies.specs.declared.routes.Route.TheVariants as route
use Rattle.adapter_replies.specs.Routes.{message_route}
use Rattle.adapter_replies.specs.Serving.{requested_on}
use Rattle.adapter.proofs.EngineMessaging.{each_of_found, again_is, new_is}
use Rattle.adapter.proofs.engine.Adapter.receive_message.Goals as goal

pub over-way-requires-clause-waits : goal.over-way-requires-clause-waits
over-way-requires-clause-waits g c =
    let t : AdapterTable = c.self.inside.state in
    let found : find (is_class3 c.args.stream.now.number c.args.packet.now.connection) t.messaging.class3_connections ≡ Some c.in-Some.class3.now = sym (rw c.messaging.ensures at c.find_class3.ensures) ∙ ap (option_map (λ lent. lent.now)) c.in-Some.is in
    (each_of_found (IsInPlace t.rows t.streams) _ t.messaging.class3_connections c.in-Some.class3.now found c.is_whole.ensures.messages.class3_connections).watchdog

pub repeated_answer-answer-requires : goal.repeated_answer-answer-requires
repeated_answer-answer-requires g c =
    let t : AdapterTable = c.self.inside.state in
    let found : find (is_class3 c.args.stream.now.number c.args.packet.now.connection) t.messaging.class3_connections ≡ Some c.in-Some.class3.now = sym (rw c.messaging.ensures at c.find_class3.ensures) ∙ ap (option_map (λ lent. lent.now)) c.in-Some.is in
    rw c.as_slice.ensures (each_of_found (IsInPlace t.rows t.streams) _ t.messaging.class3_connections c.in-Some.class3.now found c.is_whole.ensures.messages.class3_connections).reply

pub serve-requires : goal.serve-requires
serve-requires g c =
    let t : AdapterTable = c.self.inside.state in
    let found : find (is_class3 c.args.stream.now.number c.args.packet.now.connection) t.messaging.class3_connections ≡ Some c.in-Some.class3.now = sym (rw c.messaging.ensures at c.find_class3.ensures) ∙ ap (option_map (λ lent. lent.now)) c.in-Some.is in
    rw (c.over-way.ensures t (sym c.clock-clock.ensures.value), ← c.self.view_is) (found_any _ (has_class3_id c.in-Some.class3.now.o_t_id) t.messaging.class3_connections c.in-Some.class3.now found (same_number c.in-Some.class3.now.o_t_id.0))

pub returns-then-repeats_last : goal.returns-then-repeats_last
returns-then-repeats_last g c =
    let t : AdapterTable = c.args.self.now in
    let d = c.in-Some.class3.now in
    let found : find (is_class3 c.args.stream.now.number c.args.packet.now.connection) t.messaging.class3_connections ≡ Some d = rw (← c.self.view_is) (sym (rw c.messaging.ensures at c.find_class3.ensures) ∙ ap (option_map (λ lent. lent.now)) c.in-Some.is) in
    let fits = sym c.is_too_long.ensures ∙ c.if-is_too_long.false in
    let again = sym c.repeats_last.ensures ∙ c.if-repeats_last.true in
    let message = c.over-way.ensures t (ap (λ (u : AdapterTable). u.clock) (sym c.self.view_is) ∙ sym c.clock-clock.ensures.value) in
    let kept = subst (λ (bytes : List ℕ). IfOk c.repeated_answer-answer.result (λ made. made ≡ repeated_answer c.over-way.result bytes)) c.as_slice.ensures c.repeated_answer-answer.ensures in
    let made = subst (λ (way : ConnectionRoute). IfOk c.repeated_answer-answer.result (λ made. made ≡ repeated_answer way d.reply)) message kept in
    let next = repeated_answer (message_route t d c.args.stream.now.number c.args.request_header c.args.packet.now.count (service_in c.args.packet.now.message.now)) d.reply in
    rw (again_is t c.args.stream.now c.args.request_header (view_connected c.args.packet.now) d found fits again)
    (subst (λ (way : ConnectionRoute). Follows (Ok (next, with_messages t (repeated t.messaging way.id way.deadline))) t c.repeat.result c.repeat.new.self) message (c.repeat.ensures next made))

pub returns : goal.returns
returns g c =
    let t : AdapterTable = c.args.self.now in
    let d = c.in-Some.class3.now in
    let found : find (is_class3 c.args.stream.now.number c.args.packet.now.connection) t.messaging.class3_connections ≡ Some d = rw (← c.self.view_is) (sym (rw c.messaging.ensures at c.find_class3.ensures) ∙ ap (option_map (λ lent. lent.now)) c.in-Some.is) in
    let fits = sym c.is_too_long.ensures ∙ c.if-is_too_long.false in
    let new = sym c.repeats_last.ensures ∙ c.if-repeats_last.false in
    let message = c.over-way.ensures t (ap (λ (u : AdapterTable). u.clock) (sym c.self.view_is) ∙ sym c.clock-clock.ensures.value) in
    rw (new_is t c.args.stream.now c.args.request_header (view_connected c.args.packet.now) d found fits new)
    (subst (λ (way : ConnectionRoute). Follows (Ok (requested_on t (route.Connection way) c.args.packet.now.message.now)) t c.serve.result c.serve.new.self) message c.serve.ensures)
