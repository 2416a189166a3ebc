use Rattle.std.proofs.Common.{◌≡◌, ℕ, Bool, true, false, List, slice_get, Some, None, refl, sym, ap, ◌∙◌}
use Rattle.segment_world.specs.declared.transit.direction.Direction.{Direction}
use Rattle.segment_world.specs.declared.transit.direction.Direction.TheVariants.{Forth, Back}
use Rattle.segment_world.specs.declared.transit.links.StreamEnd.{StreamEnd}
use Rattle.segment_world.specs.declared.transit.links.StreamLink.{StreamLink}
use Rattle.segment_world.specs.declared.transit.waiting.QueuedFrame.{QueuedFrame}
use Rattle.segment_world.specs.Transit.Fronts.{has_taken}
use Rattle.segment_world.specs.Transit.Links.{end_of}
use Rattle.segment_world.specs.Transit.Queues.{Queues, frames_of, side_in, stream_in}
use Rattle.segment_world.specs.Transit.Streams.{QueueItem, side_of}
use Rattle.segment_world.proofs.Views.{get_some, get_none, looked}
use Rattle.segment_world.proofs.transit.streams.Streams.has_taken.Goals as goal

side_taken : (ended : Bool) (frames : List QueueItem) (end : StreamEnd) → (side_in ended frames end).taken ≡ end.taken
side_taken true frames end = refl
side_taken false frames end = refl

taken_in : (d : Direction) (n : ℕ) (waiting : List QueuedFrame) (link : StreamLink) → (side_of d (stream_in n waiting link)).taken ≡ (end_of d link).taken
taken_in Forth n waiting link = side_taken link.ended (frames_of n Forth waiting) link.forth
taken_in Back n waiting link = side_taken link.ended (frames_of n Back waiting) link.back

pub returns-in_default : goal.returns-in_default
returns-in_default c =
    sym (ap (has_taken c.args.direction) (get_none c.self.inside.waiting.items c.self.inside.links.items c.args.number (looked _ _ _ _ None c.deref.ensures.value c.link_at.ensures c.in_default.is)))
    ∙ ap (λ (q : Queues). has_taken c.args.direction (slice_get q.streams c.args.number)) c.self.view_is

pub returns : goal.returns
returns c =
    ap (λ (e : StreamEnd). e.taken) c.end.ensures
    ∙ sym (taken_in c.args.direction c.args.number c.self.inside.waiting.items c.in-Some.link)
    ∙ sym (ap (has_taken c.args.direction) (get_some c.self.inside.waiting.items c.self.inside.links.items c.args.number c.in-Some.link (looked _ _ _ _ (Some c.in-Some.link) c.deref.ensures.value c.link_at.ensures c.in-Some.is)))
    ∙ ap (λ (q : Queues). has_taken c.args.direction (slice_get q.streams c.args.number)) c.self.view_is
