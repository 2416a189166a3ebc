use Rattle.std.proofs.Common.{◌≡◌, drop, find, map}
use Rattle.adapter_table.specs.Objects.{is_numbered}
use Rattle.adapter_replies.specs.Objects.Views.{view_attribute}
use Rattle.adapter_replies.proofs.objects.answer.find_attribute.Given as goal

abbrev pub invariant-loop-attribute : goal.invariant-loop-attribute
invariant-loop-attribute l = find (is_numbered l.number) (map view_attribute (drop l.attribute-index l.attributes)) ≡ find (is_numbered l.number) (map view_attribute l.attributes)
