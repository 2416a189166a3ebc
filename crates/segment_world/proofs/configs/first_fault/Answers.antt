use Rattle.std.proofs.Common.{sym, ◌∙◌}
use Rattle.segment_world.proofs.Listing.{fault_here, fault_later, fault_nowhere}
use Rattle.segment_world.proofs.configs.first_fault.Goals as goal

pub returns-in-Some : goal.returns-in-Some
returns-in-Some c = fault_here c.args.configs.now c.loop-config.config-index c.config-item.result c.in-Some.fault c.loop-config-test.true c.config-item.is (sym c.in-Some.is ∙ c.config_fault.ensures) c.loop-config.invariant

pub loop-config-preserved : goal.loop-config-preserved
loop-config-preserved c = fault_later c.args.configs.now c.loop-config.config-index c.config-item.result c.loop-config-test.true c.config-item.is (sym c.in_default.is ∙ c.config_fault.ensures) c.loop-config.invariant

pub returns : goal.returns
returns c = fault_nowhere c.args.configs.now c.loop-config.config-index c.loop-config-test.false c.loop-config.invariant
