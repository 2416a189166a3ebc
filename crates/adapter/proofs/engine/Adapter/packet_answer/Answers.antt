use Rattle.std.proofs.Common.{◌≡◌, ◌≤◌, ◌+◌, ◌*◌, IfOk, false, true, get_or, length, sym, subst, arith}
use Rattle.std.proofs.lemmas.List.{length-drop}
use Rattle.adapter_table.specs.Objects.{ObjectAnswer, word_of}
use Rattle.adapter_replies.specs.Objects.Views.{view_answer}
use Rattle.adapter.proofs.Packets.{packet_by}
use Rattle.adapter.proofs.engine.Adapter.packet_answer.Goals as goal

pub returns-then-not-are_placed : goal.returns-then-not-are_placed
returns-then-not-are_placed g c =
    let counts : c.from-count.result ≡ word_of (get_or c.args.body.now 0 0) (get_or c.args.body.now 1 0) = cc in
    let enough : 2 + 2 * c.from-count.result ≤ length c.args.body.now = omega (arith, length-drop 2 c.args.body.now) in
    sym (packet_by c.args.self.now c.args.body.now c.split_at.result.0.now c.from-count.result false counts enough (omega arith) c.split_at.ensures.front (let placed = c.are_placed.ensures in cc))

pub returns : goal.returns
returns g c =
    let counts : c.from-count.result ≡ word_of (get_or c.args.body.now 0 0) (get_or c.args.body.now 1 0) = cc in
    let enough : 2 + 2 * c.from-count.result ≤ length c.args.body.now = omega (arith, length-drop 2 c.args.body.now) in
    subst (λ (x : ObjectAnswer). IfOk c.packet_replied.result (λ answer. view_answer answer ≡ x))
    (sym (packet_by c.args.self.now c.args.body.now c.split_at.result.0.now c.from-count.result true counts enough (omega arith) c.split_at.ensures.front (let placed = c.are_placed.ensures in cc)))
    c.packet_replied.ensures
