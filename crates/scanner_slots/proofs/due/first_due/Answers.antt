use Rattle.std.proofs.Common.{rules, ◌≡◌, ◌≤◌, length, arith}
use Rattle.cip_tables.specs.Wakes.{can_ask, slots_due}
use Rattle.scanner_table.specs.Slots.{indexed_slots}
use Rattle.scanner_slots.specs.Views.{table_of}
use Rattle.scanner_slots.proofs.Few.{few_slots}
use Rattle.scanner_slots.proofs.FirstDue.{due_bounds}
use Rattle.scanner_slots.proofs.due.first_due.Goals as goal

pub first_among-requires-clause-few : goal.first_among-requires-clause-few
first_among-requires-clause-few c =
    let few : length c.args.profile.now.slots ≤ 64 = few_slots c.args.profile.now c.requires in
    rw c.as_slice.ensures (omega (arith, few))

pub returns-clause-timed : goal.returns-clause-timed
returns-clause-timed c =
    let t = table_of c.args.profile.now c.args.scanner.now in
    let is : c.first_among.result ≡ slots_due (can_ask t) (indexed_slots t) = search rules in
    due_bounds t (record { 0 = c.first_among.result }) is
