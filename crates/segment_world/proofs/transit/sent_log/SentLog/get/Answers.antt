use Rattle.std.proofs.Common.{◌≡◌, slice_get, Some, sym, ap, ◌∙◌}
use Rattle.std.specs.Prelude.{slice_range}
use Rattle.segment_world.specs.Transit.Log.{Log}
use Rattle.segment_world.proofs.Appending.{found_within, found_sent}
use Rattle.segment_world.proofs.transit.sent_log.SentLog.get.Goals as goal

pub part-requires-clause-start : goal.part-requires-clause-start
part-requires-clause-start c =
    let found = c.in_ok-span.ensures.lookup in
    (found_within _ _ _ _ _ c.self.invariant c.deref.ensures.value found.0 found.1).0

pub part-requires-clause-end : goal.part-requires-clause-end
part-requires-clause-end c =
    let found = c.in_ok-span.ensures.lookup in
    rw c.deref-2.ensures.value (found_within _ _ _ _ _ c.self.invariant c.deref.ensures.value found.0 found.1).1

pub returns : goal.returns
returns c =
    let found = c.in_ok-span.ensures.lookup in
    let span = c.in_ok-span.span.now in
    let bytes : c.part.result.now ≡ slice_range c.self.inside.bytes.items span.start span.end = c.part.ensures ∙ ap (λ b. slice_range b span.start span.end) c.deref-2.ensures.value in
    ap (λ b. Some (record { from = span.from; bytes = b })) bytes
    ∙ sym (found_sent c.self.inside.bytes.items _ _ _ span c.deref.ensures.value found.0 found.1)
    ∙ ap (λ (l : Log). slice_get l.sent c.args.index) c.self.view_is
