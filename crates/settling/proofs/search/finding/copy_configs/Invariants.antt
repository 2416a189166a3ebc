use Rattle.std.proofs.Common.{◌≡◌, take}
use Rattle.settling.specs.Search.Histories.{configs_of}
use Rattle.settling.proofs.search.finding.copy_configs.Given as goal

abbrev pub invariant-loop-history : goal.invariant-loop-history
invariant-loop-history l = l.configs.items ≡ configs_of (take l.history-index l.histories)
