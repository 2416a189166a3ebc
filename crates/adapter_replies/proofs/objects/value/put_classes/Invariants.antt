use Rattle.std.proofs.Common.{◌≡◌, ◌++◌, flat_map, take}
use Rattle.adapter_table.specs.Objects.{u16}
use Rattle.adapter_replies.proofs.objects.value.put_classes.Given as goal

abbrev pub invariant-loop-class : goal.invariant-loop-class
invariant-loop-class l = l.out.items ≡ l.fn.out.items ++ flat_map u16 (take l.class-index l.classes)
