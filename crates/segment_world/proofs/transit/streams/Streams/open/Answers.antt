use Rattle.std.proofs.Common.{◌≡◌, ◌++◌, ◌∷◌, [], ap, ◌∙◌}
use Rattle.segment_world.specs.Transit.Streams.{fresh_stream}
use Rattle.segment_world.specs.Transit.Links.{fresh_link}
use Rattle.segment_world.specs.Transit.Queues.{Queues, streams_in}
use Rattle.segment_world.proofs.Live.{live_more, live_numbered}
use Rattle.segment_world.proofs.Views.{opened_in}
use Rattle.segment_world.proofs.transit.streams.Streams.open.Goals as goal

pub invariant_of-self-2 : goal.invariant_of-self-2
invariant_of-self-2 c =
    let items : c.push.new.self.items ≡ c.self.inside.links.items ++ c.new.result ∷ [] = c.in_ok-push.ensures.items in
    rw items (live_more c.self.inside.links.items c.new.result c.self.inside.waiting.items c.self.invariant)

pub returns-clause-opened : goal.returns-clause-opened
returns-clause-opened c =
    let items : c.push.new.self.items ≡ c.self.inside.links.items ++ fresh_link c.args.from c.args.to ∷ [] = c.in_ok-push.ensures.items ∙ ap (λ link. c.self.inside.links.items ++ link ∷ []) c.new.ensures in
    ap (streams_in 0 c.self.inside.waiting.items) items
    ∙ opened_in c.self.inside.waiting.items c.self.inside.links.items c.args.from c.args.to (live_numbered c.self.inside.links.items c.self.inside.waiting.items c.self.invariant)
    ∙ ap (λ (q : Queues). q.streams ++ fresh_stream c.args.from c.args.to ∷ []) c.self.view_is
