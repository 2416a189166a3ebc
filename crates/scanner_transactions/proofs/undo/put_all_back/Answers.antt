use Rattle.std.proofs.Common.{◌<◌, ◌≤◌, length, arith}
use Rattle.std.proofs.lemmas.Bool.Decides.{nat_tests}
use Rattle.scanner_transactions.specs.Undoing.{undone_slots}
use Rattle.scanner_transactions.proofs.Undone.{put_there, none_put, one_back}
use Rattle.scanner_transactions.proofs.undo.put_all_back.Goals as goal

pub loop-before-preserved-then-before-len : goal.loop-before-preserved-then-before-len
loop-before-preserved-then-before-len c =
    let slots = c.loop-before.slots.items in
    let within : c.in-Some.before.number < length slots = grind (arith, nat_tests) in
    one_back c.loop-before.kept.items c.pop.new.self.items c.in-Some.before slots c.put_back.new.slots.items (undone_slots c.args.kept.items c.args.slots.now.items) c.in-Some.ensures.items (put_there slots c.put_back.new.slots.items c.in-Some.before within c.put_back.ensures) c.loop-before.invariant

pub loop-before-preserved-else-before-len : goal.loop-before-preserved-else-before-len
loop-before-preserved-else-before-len c =
    let slots = c.loop-before.slots.items in
    let past : length slots ≤ c.in-Some.before.number = grind (arith, nat_tests) in
    one_back c.loop-before.kept.items c.pop.new.self.items c.in-Some.before slots slots (undone_slots c.args.kept.items c.args.slots.now.items) c.in-Some.ensures.items (none_put slots c.in-Some.before past) c.loop-before.invariant

pub loop-before-preserved : goal.loop-before-preserved
loop-before-preserved c =
    let slots = c.loop-before.slots.items in
    let past : length slots ≤ c.in-Some.before.number = grind (arith, nat_tests) in
    one_back c.loop-before.kept.items c.pop.new.self.items c.in-Some.before slots slots (undone_slots c.args.kept.items c.args.slots.now.items) c.in-Some.ensures.items (none_put slots c.in-Some.before past) c.loop-before.invariant
