use Rattle.std.proofs.Common.{set, Some, None, sym, ap, ◌∙◌}
use Rattle.std.proofs.lemmas.Option.{slice_get_within}
use Rattle.segment_world.specs.Transit.Streams.{closed_by}
use Rattle.segment_world.specs.Transit.Links.{closed_link}
use Rattle.segment_world.specs.Transit.Queues.{Queues}
use Rattle.segment_world.proofs.Frames.{frames_elsewhere}
use Rattle.segment_world.proofs.Live.{live_drop}
use Rattle.segment_world.proofs.Views.{looked, seen_none, seen_kept, seen_changed}
use Rattle.segment_world.proofs.Ways.{closed_way, unclosed_way}
use Rattle.segment_world.proofs.transit.streams.Streams.close_by.Goals as goal

pub returns-in_default-clause-streams : goal.returns-in_default-clause-streams
returns-in_default-clause-streams c = seen_none (closed_by c.args.device) c.self.inside.waiting.items c.self.inside.links.items c.args.number _ (looked _ _ _ _ None c.deref.ensures.value c.link_at.ensures c.in_default.is) (ap (λ (q : Queues). q.streams) c.self.view_is)

pub returns-in_default-way_from-clause-streams : goal.returns-in_default-way_from-clause-streams
returns-in_default-way_from-clause-streams c =
    seen_kept (closed_by c.args.device) c.self.inside.waiting.items c.self.inside.links.items c.args.number c.in-Some.link _
    (looked _ _ _ _ (Some c.in-Some.link) c.deref.ensures.value c.link_at.ensures c.in-Some.is)
    (unclosed_way c.args.number c.self.inside.waiting.items c.in-Some.link c.args.device (sym c.way_from.ensures ∙ c.in_default-way_from.is))
    (ap (λ (q : Queues). q.streams) c.self.view_is)

pub put_link-requires : goal.put_link-requires
put_link-requires c = slice_get_within c.self.inside.links.items c.args.number c.in-Some.link (looked _ _ _ _ (Some c.in-Some.link) c.deref.ensures.value c.link_at.ensures c.in-Some.is)

pub invariant_of-self : goal.invariant_of-self
invariant_of-self c =
    rw (c.put_link.ensures, c.drop_frames.ensures.items) (live_drop c.self.inside.links.items c.args.number c.closed.result c.self.inside.waiting.items c.self.invariant)

pub returns-clause-streams : goal.returns-clause-streams
returns-clause-streams c =
    let d = c.in-Some-way_from.direction in
    seen_changed (closed_by c.args.device) c.self.inside.waiting.items c.drop_frames.new.waiting.items c.self.inside.links.items c.put_link.new.links.items c.args.number c.in-Some.link (closed_link c.in-Some.link d) _
    (looked _ _ _ _ (Some c.in-Some.link) c.deref.ensures.value c.link_at.ensures c.in-Some.is)
    (λ j e ne. rw c.drop_frames.ensures.items (frames_elsewhere c.args.number j e c.self.inside.waiting.items ne))
    (closed_way c.args.number c.self.inside.waiting.items c.drop_frames.new.waiting.items c.in-Some.link c.args.device d (sym c.way_from.ensures ∙ c.in-Some-way_from.is))
    (c.put_link.ensures ∙ ap (set c.self.inside.links.items c.args.number) c.closed.ensures)
    (ap (λ (q : Queues). q.streams) c.self.view_is)
