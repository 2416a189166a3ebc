use Rattle.std.proofs.Common.{◌≡◌, ◌++◌, string_bytes, flat_map, take}
use Rattle.trace_words.specs.Words.{line_text}
use Rattle.trace_lines.specs.Slots.{slot_words}
use Rattle.trace_lines.proofs.written_slots.push_slots.Given as goal

abbrev pub invariant-loop-slot : goal.invariant-loop-slot
invariant-loop-slot l = string_bytes l.out ≡ string_bytes l.fn.out ++ flat_map (λ slot. line_text (slot_words slot)) (take l.slot-index l.slots)
