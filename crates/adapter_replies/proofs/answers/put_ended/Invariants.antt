use Rattle.std.proofs.Common.{◌≡◌, ◌++◌, drop, map}
use Rattle.cip_events.specs.declared.event.Notice.TheVariants as notice
use Rattle.adapter_replies.proofs.answers.put_ended.Given as goal

abbrev pub invariant-loop-triad : goal.invariant-loop-triad
invariant-loop-triad l = l.notices.items ++ map notice.Expired (drop l.triad-index l.ended) ≡ l.fn.notices.items ++ map notice.Expired l.ended
