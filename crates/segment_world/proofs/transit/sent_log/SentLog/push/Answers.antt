use Rattle.std.proofs.Common.{◌≡◌, ◌++◌, ◌∷◌, [], length, ap, ◌∙◌, arith}
use Rattle.segment_world.specs.Transit.Log.{Log}
use Rattle.segment_world.proofs.Appending.{pushed_within, pushed_sent}
use Rattle.segment_world.proofs.transit.sent_log.SentLog.push.Goals as goal

pub invariant_of-self-2 : goal.invariant_of-self-2
invariant_of-self-2 c =
    let items = c.in_ok-extend_from_slice.ensures.items in
    let begins : c.len-start.result ≡ length c.self.inside.bytes.items = grind arith in
    let ends : c.len-end.result ≡ length c.extend_from_slice.new.self.items = grind arith in
    rw (c.push_reserved.ensures.items, c.reserve.ensures.items)
    (pushed_within c.self.inside.bytes.items c.args.bytes.now c.extend_from_slice.new.self.items _ c.args.from _ _ c.self.invariant items begins ends)

pub returns-clause-sent : goal.returns-clause-sent
returns-clause-sent c =
    let items = c.in_ok-extend_from_slice.ensures.items in
    let begins : c.len-start.result ≡ length c.self.inside.bytes.items = grind arith in
    let ends : c.len-end.result ≡ length c.extend_from_slice.new.self.items = grind arith in
    rw (c.push_reserved.ensures.items, c.reserve.ensures.items)
    (pushed_sent c.self.inside.bytes.items c.args.bytes.now c.extend_from_slice.new.self.items _ c.args.from _ _ c.self.invariant items begins ends
    ∙ ap (λ (l : Log). l.sent ++ (record { from = c.args.from; bytes = c.args.bytes.now }) ∷ []) c.self.view_is)
