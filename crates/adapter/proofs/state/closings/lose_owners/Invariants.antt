use Rattle.std.proofs.Common.{◌≡◌, drop}
use Rattle.adapter_table.specs.Ticks.{expired_values}
use Rattle.adapter.proofs.state.closings.lose_owners.Given as goal

abbrev pub invariant-loop-row : goal.invariant-loop-row
invariant-loop-row l = ((l.assemblies.profile ≡ l.initial.assemblies.profile) × (expired_values l.assemblies.profile (drop l.row-index l.timed_out) l.assemblies.values ≡ expired_values l.initial.assemblies.profile l.timed_out l.initial.assemblies.values))
