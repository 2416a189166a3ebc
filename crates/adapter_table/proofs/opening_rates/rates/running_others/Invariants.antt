use Rattle.std.proofs.Common.{◌≡◌, ◌++◌, filter, drop}
use Rattle.adapter_table.specs.OpeningRates.Rates.{runs_for_another}
use Rattle.adapter_table.proofs.opening_rates.rates.running_others.Given as goal

abbrev pub invariant-loop-counted : goal.invariant-loop-counted
invariant-loop-counted l =
    l.others.items ++ filter (runs_for_another l.clock l.node) (drop l.counted-index l.openings) ≡ filter (runs_for_another l.clock l.node) l.openings
