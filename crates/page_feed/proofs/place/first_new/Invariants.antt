use Rattle.std.proofs.Common.{◌≡◌}
use Rattle.page_feed.specs.Turns.{first_new}
use Rattle.page_feed.proofs.place.first_new.Given as goal

-- none of the devices so far has a new text
abbrev pub invariant-loop-device : goal.invariant-loop-device
invariant-loop-device l = first_new l.numbers l.seen l.device ≡ first_new l.numbers l.seen l.from
