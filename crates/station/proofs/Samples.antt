-- Times of lines and runs of scripts, and the events of tasks, worked by hand.
use Rattle.std.proofs.Common.{◌≡◌, ℕ, List, [], ◌∷◌, false, Some, None, refl}
use Rattle.cip_events.specs.declared.arrival.Arrival.TheVariants as arrival
use Rattle.cip_events.specs.declared.event.Event.TheVariants as event
use Rattle.station.specs.declared.script.run.ScriptRun.{ScriptRun}
use Rattle.station.specs.declared.script.lines.DueTime.TheVariants.{At, Every}
use Rattle.station.specs.declared.step.StationStep.TheVariants as step
use Rattle.port_faults.specs.declared.orders.order.PortOrder.TheVariants as order
use Rattle.station.specs.declared.script.lines.ScriptAct.TheVariants as act
use Rattle.station.specs.declared.script.lines.ScriptLine.{ScriptLine}
use Rattle.station.specs.Exact.{are_whole, events_of, left_of}
use Rattle.station.specs.Recorded.{Task}
use Rattle.station.specs.Recorded.Task.{AnyCall, Call, End, Rest, Turn}
use Rattle.station.specs.Script.Due.{is_due, last_time, next_time}
use Rattle.station.specs.Script.Runs.{after, taken, wait_of}

-- a line that is due once
at_its_time : last_time 500 (At 500) ≡ Some 500
at_its_time = refl

long_behind : last_time 90000 (At 500) ≡ Some 500
long_behind = refl

before_it : last_time 499 (At 500) ≡ None
before_it = refl

never_again : next_time 500 (At 500) ≡ None
never_again = refl

-- a line that is due each 250 ms: not at the beginning
first_round : last_time 249 (Every 250) ≡ None
first_round = refl

third_round : last_time 999 (Every 250) ≡ Some 750
third_round = refl

fourth_round : next_time 750 (Every 250) ≡ Some 1000
fourth_round = refl

not_at_0 : is_due (Every 250) 0 ≡ false
not_at_0 = refl

-- at 20 cut, and each 10 ms pause 5
abbrev two_lines : List ScriptLine
two_lines = record { due = At 20; guard = None; act = act.Do (step.Order order.Cut) } ∷ record { due = Every 10; guard = None; act = act.Do (step.Order (order.Pause 5)) } ∷ []

abbrev begun : ScriptRun
begun = record { ms = 0; line = 0 }

-- one that is due at the same time comes first if it is first in the script; what was due at 10 is due once, at 20
one_after_the_other : taken begun 25 two_lines ≡ Some (record { ms = 20; line = 0 })
one_after_the_other = refl

then_the_other : taken (record { ms = 20; line = 1 }) 25 two_lines ≡ Some (record { ms = 20; line = 1 })
then_the_other = refl

then_none : taken (record { ms = 20; line = 2 }) 25 two_lines ≡ None
then_none = refl

is_behind : after begun (Some (record { ms = 20; line = 0 })) ≡ record { ms = 20; line = 1 }
is_behind = refl

-- the next one is due at 30
waits_5 : wait_of (record { ms = 20; line = 2 }) 25 100 two_lines ≡ 5
waits_5 = refl

waits_at_most_2 : wait_of (record { ms = 20; line = 2 }) 25 2 two_lines ≡ 2
waits_at_most_2 = refl

waits_not : wait_of begun 25 100 two_lines ≡ 0
waits_not = refl

-- at time 0 a line that is due then is taken
at_0 : taken begun 0 (record { due = At 0; guard = None; act = act.Do (step.Order order.Cut) } ∷ []) ≡ Some (record { ms = 0; line = 0 })
at_0 = refl

-- two turns with a start between them, and the end of the sessions: the clock gives 5 ms and then none, the port a cut at the second turn
abbrev four_tasks : List Task
four_tasks = Rest ∷ Turn ∷ Call (event.Start 3) ∷ Turn ∷ End ∷ []

their_events : events_of four_tasks (5 ∷ 0 ∷ 7 ∷ []) (None ∷ Some (arrival.Cut 2) ∷ []) ≡ event.Tick 5 ∷ event.Start 3 ∷ event.StreamCut 2 ∷ []
their_events = refl

one_time_is_left : left_of {X = ℕ} four_tasks (5 ∷ 0 ∷ 7 ∷ []) ≡ 7 ∷ []
one_time_is_left = refl

-- a call of which it is not said that the station goes on behind it
not_whole : are_whole (Turn ∷ AnyCall (event.Start 3) ∷ []) ≡ false
not_whole = refl
