use Rattle.std.proofs.Common.{set, Some, None, refl, sym, ap, ◌∙◌}
use Rattle.std.specs.List.{remove}
use Rattle.std.proofs.lemmas.Option.{slice_get_within}
use Rattle.segment_world.specs.Transit.Streams.{taken_from}
use Rattle.segment_world.specs.Transit.Queues.{Queues}
use Rattle.segment_world.proofs.Frames.{IsFirst}
use Rattle.segment_world.proofs.Live.{live_remove, live_after}
use Rattle.segment_world.proofs.Views.{looked, seen_none, seen_kept, seen_changed, seen_waits}
use Rattle.segment_world.proofs.Ways.{mark_way, frame_way, none_way, first_elsewhere, found_first, not_found}
use Rattle.segment_world.proofs.transit.streams.Streams.take_front.Goals as goal

pub returns-in_default-clause-streams : goal.returns-in_default-clause-streams
returns-in_default-clause-streams c = seen_none (taken_from c.args.direction) c.self.inside.waiting.items c.self.inside.links.items c.args.number _ (looked _ _ _ _ None c.deref.ensures.value c.link_at.ensures c.in_default.is) (ap (λ (q : Queues). q.streams) c.self.view_is)

pub put_link-requires : goal.put_link-requires
put_link-requires c = slice_get_within c.self.inside.links.items c.args.number c.in-Some.link (looked _ _ _ _ (Some c.in-Some.link) c.deref.ensures.value c.link_at.ensures c.in-Some.is)

pub invariant_of-self : goal.invariant_of-self
invariant_of-self c =
    rw (c.put_link.ensures, c.after.ensures)
    (live_after c.self.inside.links.items c.args.number c.args.direction c.in-Some.link _ c.self.inside.waiting.items (looked _ _ _ _ (Some c.in-Some.link) c.deref.ensures.value c.link_at.ensures c.in-Some.is) c.self.invariant)

pub returns-then-is_marked-clause-streams : goal.returns-then-is_marked-clause-streams
returns-then-is_marked-clause-streams c =
    seen_changed (taken_from c.args.direction) c.self.inside.waiting.items c.self.inside.waiting.items c.self.inside.links.items c.put_link.new.links.items c.args.number c.in-Some.link _ _
    (looked _ _ _ _ (Some c.in-Some.link) c.deref.ensures.value c.link_at.ensures c.in-Some.is)
    (λ j e ne. refl)
    (mark_way c.args.number c.self.inside.waiting.items c.in-Some.link c.args.direction (sym c.is_marked.ensures ∙ c.if-is_marked.true))
    (c.put_link.ensures ∙ ap (set c.self.inside.links.items c.args.number) c.after.ensures)
    (ap (λ (q : Queues). q.streams) c.self.view_is)

pub invariant_of-self-in-Some-first : goal.invariant_of-self-in-Some-first
invariant_of-self-in-Some-first c = rw c.remove-taken.ensures.items (live_remove _ c.self.inside.waiting.items c.in-Some-first.first c.self.invariant)

pub returns-in-Some-first-clause-streams : goal.returns-in-Some-first-clause-streams
returns-in-Some-first-clause-streams c =
    let n = c.args.number in
    let d = c.args.direction in
    let link = c.in-Some.link in
    let first : IsFirst n d c.self.inside.waiting.items c.in-Some-first.first c.remove-taken.result =
    (found_first c.args.number c.args.direction c.self.inside.waiting.items c.deref-2.result.now c.in-Some-first.first c.remove-taken.result c.deref-2.ensures.value (sym c.in-Some-first.is ∙ c.first.ensures) (rw c.deref-2.ensures.value c.remove-taken.ensures.value)) in
    rw c.remove-taken.ensures.items
    (seen_waits (taken_from d) c.self.inside.waiting.items (remove c.self.inside.waiting.items c.in-Some-first.first) c.self.inside.links.items n link _
    (looked _ _ _ _ (Some c.in-Some.link) c.deref.ensures.value c.link_at.ensures c.in-Some.is)
    (first_elsewhere n c.self.inside.waiting.items d c.in-Some-first.first c.remove-taken.result first)
    (frame_way n c.self.inside.waiting.items link d c.in-Some-first.first c.remove-taken.result (sym c.is_marked.ensures ∙ c.if-is_marked.false) first)
    (ap (λ (q : Queues). q.streams) c.self.view_is))

pub returns-in_default-first-clause-streams : goal.returns-in_default-first-clause-streams
returns-in_default-first-clause-streams c =
    let n = c.args.number in
    let d = c.args.direction in
    let link = c.in-Some.link in
    seen_kept (taken_from d) c.self.inside.waiting.items c.self.inside.links.items n link _
    (looked _ _ _ _ (Some c.in-Some.link) c.deref.ensures.value c.link_at.ensures c.in-Some.is)
    (none_way n c.self.inside.waiting.items link d (sym c.is_marked.ensures ∙ c.if-is_marked.false) (not_found n d c.self.inside.waiting.items c.deref-2.result.now c.deref-2.ensures.value (sym c.in_default-first.is ∙ c.first.ensures)))
    (ap (λ (q : Queues). q.streams) c.self.view_is)
