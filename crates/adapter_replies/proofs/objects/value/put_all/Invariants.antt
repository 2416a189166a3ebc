use Rattle.std.proofs.Common.{◌≡◌, ◌++◌, drop, map}
use Rattle.adapter_table.specs.Objects.{all_values}
use Rattle.adapter_replies.specs.Objects.Views.{view_attribute}
use Rattle.adapter_replies.proofs.objects.value.put_all.Given as goal

abbrev pub invariant-loop-attribute : goal.invariant-loop-attribute
invariant-loop-attribute l = l.out.items ++ all_values (map view_attribute (drop l.attribute-index l.attributes)) ≡ l.fn.out.items ++ all_values (map view_attribute l.attributes)
