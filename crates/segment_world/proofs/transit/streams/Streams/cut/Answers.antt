use Rattle.std.proofs.Common.{not, set, slice_get, Some, None, sym, ap, ◌∙◌}
use Rattle.std.proofs.lemmas.Option.{slice_get_within}
use Rattle.segment_world.specs.Transit.Fronts.{is_open}
use Rattle.segment_world.specs.Transit.Streams.{cut_stream}
use Rattle.segment_world.specs.Transit.Links.{cut_link}
use Rattle.segment_world.specs.Transit.Queues.{Queues}
use Rattle.segment_world.proofs.Frames.{frames_elsewhere}
use Rattle.segment_world.proofs.Live.{live_drop}
use Rattle.segment_world.proofs.Views.{get_some, get_none, looked, seen_changed}
use Rattle.segment_world.proofs.Ways.{cut_way}
use Rattle.segment_world.proofs.transit.streams.Streams.cut.Goals as goal

pub returns-in_default-clause-open : goal.returns-in_default-clause-open
returns-in_default-clause-open c =
    sym (ap is_open (get_none c.self.inside.waiting.items c.self.inside.links.items c.args.number (looked _ _ _ _ None c.deref.ensures.value c.link_at.ensures c.in_default.is)))
    ∙ ap (λ (q : Queues). is_open (slice_get q.streams c.args.number)) c.self.view_is

pub returns-then-stream-clause-open : goal.returns-then-stream-clause-open
returns-then-stream-clause-open c =
    sym (ap not c.if-stream.true)
    ∙ sym (ap is_open (get_some c.self.inside.waiting.items c.self.inside.links.items c.args.number c.in-Some.stream (looked _ _ _ _ (Some c.in-Some.stream) c.deref.ensures.value c.link_at.ensures c.in-Some.is)))
    ∙ ap (λ (q : Queues). is_open (slice_get q.streams c.args.number)) c.self.view_is

pub put_link-requires : goal.put_link-requires
put_link-requires c = slice_get_within c.self.inside.links.items c.args.number c.in-Some.stream (looked _ _ _ _ (Some c.in-Some.stream) c.deref.ensures.value c.link_at.ensures c.in-Some.is)

pub invariant_of-self : goal.invariant_of-self
invariant_of-self c =
    rw (c.put_link.ensures, c.drop_frames.ensures.items) (live_drop c.self.inside.links.items c.args.number c.cut.result c.self.inside.waiting.items c.self.invariant)

pub returns-clause-open : goal.returns-clause-open
returns-clause-open c =
    sym (ap not c.if-stream.false)
    ∙ sym (ap is_open (get_some c.self.inside.waiting.items c.self.inside.links.items c.args.number c.in-Some.stream (looked _ _ _ _ (Some c.in-Some.stream) c.deref.ensures.value c.link_at.ensures c.in-Some.is)))
    ∙ ap (λ (q : Queues). is_open (slice_get q.streams c.args.number)) c.self.view_is

pub returns-clause-cut : goal.returns-clause-cut
returns-clause-cut c = λ _.
    seen_changed cut_stream c.self.inside.waiting.items c.drop_frames.new.waiting.items c.self.inside.links.items c.put_link.new.links.items c.args.number c.in-Some.stream (cut_link c.in-Some.stream) _
    (looked _ _ _ _ (Some c.in-Some.stream) c.deref.ensures.value c.link_at.ensures c.in-Some.is)
    (λ j e ne. rw c.drop_frames.ensures.items (frames_elsewhere c.args.number j e c.self.inside.waiting.items ne))
    (cut_way c.args.number c.self.inside.waiting.items c.drop_frames.new.waiting.items c.in-Some.stream)
    (c.put_link.ensures ∙ ap (set c.self.inside.links.items c.args.number) c.cut.ensures)
    (ap (λ (q : Queues). q.streams) c.self.view_is)
