-- Which streams a cut is for, worked by hand: of the streams 0 to 3.
use Rattle.std.proofs.Common.{◌≡◌, List, [], ◌∷◌, map, position, Some, None, refl}
use Rattle.cip_events.specs.declared.arrival.Arrival.TheVariants as arrival
use Rattle.port_faults.specs.Orders.Marks.{cut_mark, is_to_cut, marks_after, marks_behind}
use Rattle.port_faults.specs.declared.orders.marks.StreamMark.{StreamMark}
use Rattle.port_faults.specs.declared.orders.marks.StreamMark.TheVariants.{Closed, Open, ToCut}
use Rattle.udp_runner.specs.declared.output.Output.TheVariants as output

abbrev two_open : List StreamMark
two_open = marks_after (arrival.Opened 3 (record { 0 = 7 })) (marks_after (arrival.Opened 1 (record { 0 = 7 })) (Closed ∷ Closed ∷ Closed ∷ Closed ∷ []))

both_are_cut : map cut_mark two_open ≡ Closed ∷ ToCut ∷ Closed ∷ ToCut ∷ []
both_are_cut = refl

-- one that opens behind the order is not
later_one_stays : marks_after (arrival.Opened 0 (record { 0 = 7 })) (map cut_mark two_open) ≡ Open ∷ ToCut ∷ Closed ∷ ToCut ∷ []
later_one_stays = refl

first_is_found : position is_to_cut (marks_after (arrival.Cut 1) (map cut_mark two_open)) ≡ Some 3
first_is_found = refl

closed_one_is_none : position is_to_cut (map cut_mark (marks_behind (output.Close 3) (marks_behind (output.Close 1) two_open))) ≡ None
closed_one_is_none = refl
