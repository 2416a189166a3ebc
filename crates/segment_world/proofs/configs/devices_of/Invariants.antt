use Rattle.std.proofs.Common.{◌≡◌, ◌++◌, map, None}
use Rattle.std.specs.Vec.Iter.{into_iter_items}
use Rattle.cip_tables.specs.Step.{opening_table}
use Rattle.segment_world.specs.Configs.{first_fault}
use Rattle.segment_world.proofs.configs.devices_of.Given as goal

abbrev pub invariant-loop-config : goal.invariant-loop-config
invariant-loop-config g l = record {
  made : map g.D.Device.table l.devices.items ++ map opening_table (into_iter_items l.config-iterator) ≡ map opening_table l.fn.configs.items;
  good : first_fault (into_iter_items l.config-iterator) ≡ None;
}
