use Rattle.std.proofs.Common.{◌≡◌, ◌++◌, ◌∷◌, [], ℕ, List, Some, None, sym, ap, ◌∙◌}
use Rattle.segment_world.specs.declared.transit.direction.Direction.{Direction}
use Rattle.segment_world.specs.declared.transit.waiting.QueuedFrame.{QueuedFrame}
use Rattle.segment_world.specs.Transit.Streams.{sent_over}
use Rattle.segment_world.specs.Transit.Queues.{Queues}
use Rattle.segment_world.proofs.Live.{live_push, way_living}
use Rattle.segment_world.proofs.Views.{looked, seen_none, seen_kept, seen_waits}
use Rattle.segment_world.proofs.Ways.{sent_way, unsent_way, push_elsewhere}
use Rattle.segment_world.proofs.transit.streams.Streams.send_over.Goals as goal

pub returns-in_default-clause-streams : goal.returns-in_default-clause-streams
returns-in_default-clause-streams c = seen_none (sent_over c.args.device c.args.bytes.now) c.self.inside.waiting.items c.self.inside.links.items c.args.number _ (looked _ _ _ _ None c.deref.ensures.value c.link_at.ensures c.in_default.is) (ap (λ (q : Queues). q.streams) c.self.view_is)

pub returns-in_default-way_from-clause-streams : goal.returns-in_default-way_from-clause-streams
returns-in_default-way_from-clause-streams c =
    seen_kept (sent_over c.args.device c.args.bytes.now) c.self.inside.waiting.items c.self.inside.links.items c.args.number c.in-Some.link _
    (looked _ _ _ _ (Some c.in-Some.link) c.deref.ensures.value c.link_at.ensures c.in-Some.is)
    (unsent_way c.args.number c.self.inside.waiting.items c.in-Some.link c.args.device c.args.bytes.now (sym c.way_from.ensures ∙ c.in_default-way_from.is))
    (ap (λ (q : Queues). q.streams) c.self.view_is)

pushed : (bytes same : List ℕ) (n : ℕ) (d : Direction) (ws ws' : List QueuedFrame) → same ≡ bytes → ws' ≡ ws ++ (record { stream = n; direction = d; bytes = same }) ∷ [] → ws' ≡ ws ++ (record { stream = n; direction = d; bytes = bytes }) ∷ []
pushed bytes same n d ws ws' is pushed_is = pushed_is ∙ ap (λ (b : List ℕ). ws ++ (record { stream = n; direction = d; bytes = b }) ∷ []) is

pub invariant_of-self-2 : goal.invariant_of-self-2
invariant_of-self-2 c =
    let is = looked _ _ _ _ (Some c.in-Some.link) c.deref.ensures.value c.link_at.ensures c.in-Some.is in
    let way = sym c.way_from.ensures ∙ c.in-Some-way_from.is in
    rw (c.push_reserved.ensures.items, c.reserve.ensures.items)
    (live_push c.self.inside.links.items c.self.inside.waiting.items _ c.self.invariant (way_living c.self.inside.links.items c.args.number c.args.device c.in-Some.link c.in-Some-way_from.direction is way))

pub returns-clause-streams : goal.returns-clause-streams
returns-clause-streams c =
    let d = c.in-Some-way_from.direction in
    let bytes = c.args.bytes.now in
    let items = pushed bytes _ c.args.number d c.self.inside.waiting.items c.push_reserved.new.self.items c.in_ok-bytes.ensures.bytes (rw c.reserve.ensures.items at c.push_reserved.ensures.items) in
    rw items
    (seen_waits (sent_over c.args.device bytes) c.self.inside.waiting.items (c.self.inside.waiting.items ++ (record { stream = c.args.number; direction = d; bytes = bytes }) ∷ []) c.self.inside.links.items c.args.number c.in-Some.link _
    (looked _ _ _ _ (Some c.in-Some.link) c.deref.ensures.value c.link_at.ensures c.in-Some.is)
    (push_elsewhere c.args.number d c.self.inside.waiting.items bytes)
    (sent_way c.args.number c.self.inside.waiting.items c.in-Some.link c.args.device d bytes (sym c.way_from.ensures ∙ c.in-Some-way_from.is))
    (ap (λ (q : Queues). q.streams) c.self.view_is))
