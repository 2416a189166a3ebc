use Rattle.std.proofs.Common.{◌≡◌, [], None, subst}
use Rattle.cip_fwdopen.specs.Open.{view_open}
use Rattle.cip_fwdopen.specs.Services.{is_large_open}
use Rattle.adapter_table.specs.declared.table.AdapterTable.{AdapterTable}
use Rattle.adapter_table.specs.Intervals.{open_refusal}
use Rattle.adapter_table.specs.Requests.{open_service}
use Rattle.adapter_replies.specs.Routes.{routed_answer}
use Rattle.adapter.proofs.Counting.{opening_refused}
use Rattle.adapter.proofs.state.AdapterState.refuse_open.Goals as goal

pub returns : goal.returns
returns g c =
    let large = is_large_open c.args.service in
    let request = view_open c.args.request.now in
    let inside = rw (c.opening_refusal-reply.ensures.reply, c.profile-profile.ensures.value) at c.in_ok-answer.ensures in
    let said = subst (λ (t : AdapterTable). c.in_ok-answer.answer ≡ routed_answer c.args.route (open_refusal t.profile t.rows (open_service large) request c.args.why) None []) c.self.view_is inside in
    let counts = rw c.open_tally.ensures at c.count.ensures in
    opening_refused c.args.self.now c.args.route large request c.args.why c.in_ok-answer.answer c.count.new.self said counts
