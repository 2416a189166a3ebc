use Rattle.std.proofs.Common.{ap, sym, subst}
use Rattle.scanner_slots.specs.Bounding.{IsHinted}
use Rattle.scanner_slots.specs.declared.bounds.Bounds.{Bounds}
use Rattle.scanner_slots.specs.declared.scanner.ScannerState.{ScannerState}
use Rattle.scanner_slots.specs.Views.{table_of}
use Rattle.scanner.specs.Tables.{table_in}
use Rattle.scanner.proofs.Doing.{write_refused, write_refused_so}
use Rattle.scanner.proofs.slots.ScannerSlots.write.Goals as goal

pub returns-in-Err-clause-step : goal.returns-in-Err-clause-step
returns-in-Err-clause-step g c =
    write_refused (table_in c.args.self.now) c.args.number c.args.bytes.now c.in-Err.why (table_of c.args.self.now.profile c.write.new.scanner) c.in-Err.ensures.said (ap (table_of c.args.self.now.profile) c.in-Err.ensures.same)

pub returns-in-Err-clause-no_memory : goal.returns-in-Err-clause-no_memory
returns-in-Err-clause-no_memory g c = write_refused_so (table_in c.args.self.now) c.args.number c.args.bytes.now c.in-Err.why c.in-Err.ensures.said

pub returns-in-Ok-clause-hints : goal.returns-in-Ok-clause-hints
returns-in-Ok-clause-hints g c =
    let hinted : IsHinted c.bounds-bounds.result (table_in c.args.self.now) = subst (λ (b : Bounds). IsHinted b (table_in c.args.self.now)) (sym c.bounds-bounds.ensures) c.requires.hints in
    c.bounds_are_kept_by_earlier_ones.ensures _ _ _ c.set_bounds.ensures
    (c.writes_narrow_bounds.ensures c.bounds-bounds.result c.narrowed_at.result (table_in c.args.self.now) c.args.number c.args.bytes.now _ (table_of c.args.self.now.profile c.write.new.scanner) (sym c.in-Ok.ensures.said) c.narrowed_at.ensures.earlier hinted c.narrowed_at.ensures.slot)

pub returns-in-Err-clause-hints : goal.returns-in-Err-clause-hints
returns-in-Err-clause-hints g c = subst (λ (s : ScannerState). IsHinted (g.H.Hints.bounds c.args.hints.now) (table_of c.args.self.now.profile s)) (sym c.in-Err.ensures.same) c.requires.hints
