use Rattle.std.proofs.Common.{refl}
use Rattle.trace_lines.specs.Slots.{scanner_text}
use Rattle.trace_lines.proofs.Pieces.{four}
use Rattle.trace_lines.proofs.written_slots.push_scanner.Goals as goal

pub returns : goal.returns
returns c = four _ _ _ _ _ _ _ _ _ (scanner_text c.args.profile.now) c.in_ok-push_first.ensures c.in_ok-push_newer.ensures c.in_ok-push_terms.ensures (rw c.as_slice.ensures at c.in_ok-push_slots.ensures) refl
