use Rattle.std.proofs.Common.{◌≡◌}
use Rattle.std.specs.Prelude.{All}
use Rattle.settling.specs.Search.Histories.{configs_of}
use Rattle.line_threads.specs.Accounts.{HasItsReceipts}
use Rattle.line_threads.proofs.line_device.close_devices.Given as goal

abbrev pub invariant-loop-device : goal.invariant-loop-device
invariant-loop-device g l = record {
  configs : configs_of l.histories.items ≡ l.yielded;
  receipts : All (HasItsReceipts l.receipts) l.histories.items;
}
