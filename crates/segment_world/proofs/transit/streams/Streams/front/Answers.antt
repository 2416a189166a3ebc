use Rattle.std.proofs.Common.{◌≡◌, ℕ, List, slice_get, cond, true, false, Option, Some, None, sym, ap, ◌∙◌}
use Rattle.std.proofs.lemmas.Bool.{not-true, not-false}
use Rattle.segment_world.specs.declared.transit.direction.Direction.{Direction}
use Rattle.segment_world.specs.declared.transit.waiting.QueuedFrame.{QueuedFrame}
use Rattle.segment_world.specs.declared.transit.links.StreamLink.{StreamLink}
use Rattle.segment_world.specs.declared.transit.links.StreamEnd.{StreamEnd}
use Rattle.segment_world.specs.Transit.Streams.{QueueItem, Opening, Queued, Ending}
use Rattle.segment_world.specs.Transit.Links.{end_of}
use Rattle.segment_world.specs.Transit.Fronts.{front_of}
use Rattle.segment_world.specs.Transit.Queues.{Queues, streams_in, stream_in}
use Rattle.segment_world.proofs.Frames.{IsFirst}
use Rattle.segment_world.proofs.Views.{get_some, get_none, looked}
use Rattle.segment_world.proofs.Ways.{front_ended, front_opening, front_frame, front_none, found_first, not_found}
use Rattle.segment_world.proofs.transit.streams.Streams.front.Goals as goal

pub returns-in_default : goal.returns-in_default
returns-in_default c =
    sym (ap (front_of c.args.direction) (get_none c.self.inside.waiting.items c.self.inside.links.items c.args.number (looked _ _ _ _ None c.deref.ensures.value c.link_at.ensures c.in_default.is)))
    ∙ ap (λ (q : Queues). front_of c.args.direction (slice_get q.streams c.args.number)) c.self.view_is

-- a front of the stream as it is seen
seen_front : (d : Direction) (ws : List QueuedFrame) (links : List StreamLink) (n : ℕ) (link : StreamLink) (q : Queues) (front : Option QueueItem) → slice_get links n ≡ Some link → streams_in 0 ws links ≡ q.streams → front_of d (Some (stream_in n ws link)) ≡ front → front ≡ front_of d (slice_get q.streams n)
seen_front d ws links n link q front is view so =
    sym so ∙ sym (ap (front_of d) (get_some ws links n link is)) ∙ ap (λ ss. front_of d (slice_get ss n)) view

ends_so : (d : Direction) (link : StreamLink) (end : StreamEnd) (b : _) → end ≡ end_of d link → end.ending ≡ b → (end_of d link).ending ≡ b
ends_so d link end b is ending = ap (λ (e : StreamEnd). e.ending) (sym is) ∙ ending

taken_so : (d : Direction) (link : StreamLink) (end : StreamEnd) (b : _) → end ≡ end_of d link → end.taken ≡ b → (end_of d link).taken ≡ b
taken_so d link end b is taken = ap (λ (e : StreamEnd). e.taken) (sym is) ∙ taken

pub returns-then-end : goal.returns-then-end
returns-then-end c =
    let link = c.in-Some.link in
    seen_front c.args.direction c.self.inside.waiting.items c.self.inside.links.items c.args.number link c.args.self.now (Some Ending) (looked _ _ _ _ (Some c.in-Some.link) c.deref.ensures.value c.link_at.ensures c.in-Some.is) (ap (λ (q : Queues). q.streams) c.self.view_is)
    (front_ended c.args.number c.self.inside.waiting.items link c.args.direction c.if-link.true ∙ ap (λ b. cond b (Some Ending) None) (ends_so c.args.direction link c.end-end.result true c.end-end.ensures c.if-end.true))

pub returns-else-end : goal.returns-else-end
returns-else-end c =
    let link = c.in-Some.link in
    seen_front c.args.direction c.self.inside.waiting.items c.self.inside.links.items c.args.number link c.args.self.now None (looked _ _ _ _ (Some c.in-Some.link) c.deref.ensures.value c.link_at.ensures c.in-Some.is) (ap (λ (q : Queues). q.streams) c.self.view_is)
    (front_ended c.args.number c.self.inside.waiting.items link c.args.direction c.if-link.true ∙ ap (λ b. cond b (Some Ending) None) (ends_so c.args.direction link c.end-end.result false c.end-end.ensures c.if-end.false))

pub returns-then-not-end : goal.returns-then-not-end
returns-then-not-end c =
    let link = c.in-Some.link in
    seen_front c.args.direction c.self.inside.waiting.items c.self.inside.links.items c.args.number link c.args.self.now (Some Opening) (looked _ _ _ _ (Some c.in-Some.link) c.deref.ensures.value c.link_at.ensures c.in-Some.is) (ap (λ (q : Queues). q.streams) c.self.view_is)
    (front_opening c.args.number c.self.inside.waiting.items link c.args.direction c.if-link.false (taken_so c.args.direction link c.end-end.result false c.end-end.ensures (not-true c.end-end.result.taken c.if-not-end.true)))

pub returns-in_default-first : goal.returns-in_default-first
returns-in_default-first c =
    let link = c.in-Some.link in
    seen_front c.args.direction c.self.inside.waiting.items c.self.inside.links.items c.args.number link c.args.self.now None (looked _ _ _ _ (Some c.in-Some.link) c.deref.ensures.value c.link_at.ensures c.in-Some.is) (ap (λ (q : Queues). q.streams) c.self.view_is)
    (front_none c.args.number c.self.inside.waiting.items link c.args.direction c.if-link.false
    (taken_so c.args.direction link c.end-end.result true c.end-end.ensures (not-false c.end-end.result.taken c.if-not-end.false))
    (not_found c.args.number c.args.direction c.self.inside.waiting.items c.deref-2.result.now c.deref-2.ensures.value (sym c.in_default-first.is ∙ c.first.ensures)))

pub returns : goal.returns
returns c =
    let link = c.in-Some.link in
    let w = c.index.result.now in
    let first : IsFirst c.args.number c.args.direction c.self.inside.waiting.items c.in-Some-first.index w =
    found_first c.args.number c.args.direction c.self.inside.waiting.items c.deref-2.result.now c.in-Some-first.index w c.deref-2.ensures.value (sym c.in-Some-first.is ∙ c.first.ensures) (rw c.deref-2.ensures.value c.index.ensures) in
    ap (λ bytes. Some (Queued bytes)) c.as_slice.ensures
    ∙ seen_front c.args.direction c.self.inside.waiting.items c.self.inside.links.items c.args.number link c.args.self.now (Some (Queued w.bytes)) (looked _ _ _ _ (Some c.in-Some.link) c.deref.ensures.value c.link_at.ensures c.in-Some.is) (ap (λ (q : Queues). q.streams) c.self.view_is)
    (front_frame c.args.number c.self.inside.waiting.items link c.args.direction c.in-Some-first.index w c.if-link.false
    (taken_so c.args.direction link c.end-end.result true c.end-end.ensures (not-false c.end-end.result.taken c.if-not-end.false))
    first)
