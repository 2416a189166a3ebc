use Rattle.std.proofs.Common.{◌≡◌, ◌∙◌, sym, find, Some, arith, ap, length}
use Rattle.std.proofs.lemmas.Bool.Decides.{nat_tests}
use Rattle.scanner_table.specs.declared.slot.Slot.{Slot}
use Rattle.scanner_table.specs.Slots.{indexed_slots, is_numbered}
use Rattle.scanner_slots.specs.Views.{view_slot, table_of}
use Rattle.scanner_data.proofs.Facts.{found, number_is, stood_at}
use Rattle.scanner_data.proofs.Changes.{written_is}
use Rattle.scanner_data.proofs.outputs.write.Goals as goal

pub index_mut-requires : goal.index_mut-requires
index_mut-requires c =
    let is : Some (view_slot c.in-Some.indexed) ≡ find (is_numbered c.args.number) (indexed_slots (table_of c.args.profile.now c.args.scanner.now)) = rw (← c.as_slice.ensures, ← c.deref.ensures.value) c.in-Some.ensures.found in
    let at = found _ (table_of c.args.profile.now c.args.scanner.now) (view_slot c.in-Some.indexed) c.requires.whole is in
    omega (arith, at.below, number_is c.args.number (view_slot c.in-Some.indexed) at.passes, c.args.scanner.now.slots.ok.0)

pub set_output-requires : goal.set_output-requires
set_output-requires c =
    let is : Some (view_slot c.in-Some.indexed) ≡ find (is_numbered c.args.number) (indexed_slots (table_of c.args.profile.now c.args.scanner.now)) = rw (← c.as_slice.ensures, ← c.deref.ensures.value) c.in-Some.ensures.found in
    let at = found _ (table_of c.args.profile.now c.args.scanner.now) (view_slot c.in-Some.indexed) c.requires.whole is in
    let long : length c.args.bytes.now ≡ c.in-Some.indexed.config.now.out_len = omega (arith, c.if-bytes-indexed.false) in
    ap (λ (s : Slot). length s.output) (stood_at _ c.args.number _ c.index_mut.result.now _ _ (number_is c.args.number (view_slot c.in-Some.indexed) at.passes) at.slot c.index_mut.ensures.value) ∙ at.output ∙ sym long

pub returns-clause-said : goal.returns-clause-said
returns-clause-said c =
    let is : Some (view_slot c.in-Some.indexed) ≡ find (is_numbered c.args.number) (indexed_slots (table_of c.args.profile.now c.args.scanner.now)) = rw (← c.as_slice.ensures, ← c.deref.ensures.value) c.in-Some.ensures.found in
    let at = found _ (table_of c.args.profile.now c.args.scanner.now) (view_slot c.in-Some.indexed) c.requires.whole is in
    let same = number_is c.args.number (view_slot c.in-Some.indexed) at.passes in
    let long : length c.args.bytes.now ≡ c.in-Some.indexed.config.now.out_len = omega (arith, c.if-bytes-indexed.false) in
    written_is (table_of c.args.profile.now c.args.scanner.now) c.args.number (view_slot c.in-Some.indexed) c.args.bytes.now c.index_mut.result.now c.set_output.new.slot is same (sym c.is_owner.ensures ∙ c.if-not-is_owner.false) (grind (arith, nat_tests, long)) (stood_at _ c.args.number _ c.index_mut.result.now _ _ same at.slot c.index_mut.ensures.value) c.set_output.ensures
