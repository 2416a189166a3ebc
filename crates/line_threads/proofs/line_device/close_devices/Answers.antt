use Rattle.std.proofs.Common.{rules, sym, ◌∙◌}
use Rattle.std.proofs.lemmas.Iterator.Adapters.{YieldsList-from_vec}
use Rattle.std.proofs.lemmas.Iterator.Consumers.{YieldsList-end}
use Rattle.std.proofs.lemmas.List.{map-id}
use Rattle.std.proofs.lemmas.List.Elements.{All-push}
use Rattle.line_threads.specs.Accounts.{HasItsReceipts}
use Rattle.line_threads.proofs.Comparing.{more_configs}
use Rattle.line_threads.proofs.line_device.close_devices.Goals as goal

pub loop-device-preserved : goal.loop-device-preserved
loop-device-preserved g c = record {
  configs = more_configs _ _ _ _ _ c.in_ok-push.ensures.items c.loop-device.invariant.configs c.in_ok-history.ensures.config;
  receipts = rw c.in_ok-push.ensures.items (All-push (HasItsReceipts c.args.receipts.now) _ _ c.loop-device.invariant.receipts c.in_ok-history.ensures.receipts);
}

pub returns-clause-configs : goal.returns-clause-configs
returns-clause-configs g c =
    let end = YieldsList-end (YieldsList-from_vec {s = c.into_iter-device-iterator.result} c.args.devices.items (search rules) (search rules))
    c.loop-device.yielded c.loop-device.device-iterator c.loop-device.yielded_by c.next.result c.next.new.self c.in-None.is c.next.ensures.steps in
    c.loop-device.invariant.configs ∙ sym (map-id c.loop-device.yielded) ∙ end.0
