use Rattle.std.proofs.Common.{slice_get, Some, None, sym, ap, ◌∙◌}
use Rattle.std.specs.Option.{option_map}
use Rattle.segment_world.specs.Transit.Fronts.{endpoints_of}
use Rattle.segment_world.specs.Transit.Queues.{Queues}
use Rattle.segment_world.proofs.Views.{get_some, get_none, looked}
use Rattle.segment_world.proofs.transit.streams.Streams.endpoints.Goals as goal

pub returns-in_default : goal.returns-in_default
returns-in_default c =
    sym (ap (option_map endpoints_of) (get_none c.self.inside.waiting.items c.self.inside.links.items c.args.number (looked _ _ _ _ None c.deref.ensures.value c.link_at.ensures c.in_default.is)))
    ∙ ap (λ (q : Queues). option_map endpoints_of (slice_get q.streams c.args.number)) c.self.view_is

pub returns : goal.returns
returns c =
    sym (ap (option_map endpoints_of) (get_some c.self.inside.waiting.items c.self.inside.links.items c.args.number c.in-Some.link (looked _ _ _ _ (Some c.in-Some.link) c.deref.ensures.value c.link_at.ensures c.in-Some.is)))
    ∙ ap (λ (q : Queues). option_map endpoints_of (slice_get q.streams c.args.number)) c.self.view_is
