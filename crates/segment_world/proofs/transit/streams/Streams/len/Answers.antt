use Rattle.std.proofs.Common.{◌≡◌, length, sym, ap, ◌∙◌, arith}
use Rattle.segment_world.specs.Transit.Queues.{Queues}
use Rattle.segment_world.proofs.Views.{length_in}
use Rattle.segment_world.proofs.transit.streams.Streams.len.Goals as goal

pub returns : goal.returns
returns c =
    let long : c.len.result ≡ length c.self.inside.links.items = grind arith in
    long ∙ sym (length_in 0 c.self.inside.waiting.items c.self.inside.links.items) ∙ ap (λ (q : Queues). length q.streams) c.self.view_is
