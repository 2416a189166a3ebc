use Rattle.std.proofs.Common.{◌≡◌, ◌++◌, flat_map, take}
use Rattle.adapter_table.specs.Objects.{u16}
use Rattle.adapter_replies.proofs.objects.value.put_words.Given as goal

abbrev pub invariant-loop-word : goal.invariant-loop-word
invariant-loop-word l = l.out.items ≡ l.fn.out.items ++ flat_map u16 (take l.word-index l.words)
