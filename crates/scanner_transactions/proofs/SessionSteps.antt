-- A session that its target does not know any more, and that is registered again on its stream.
use Rattle.std.proofs.Common.{◌≡◌, ℕ, Option, Some, refl, sym, ◌∙◌, ap}
use Rattle.std.proofs.lemmas.List.{append-nil}
use Rattle.cip_encap.specs.Message.{MessageFields}
use Rattle.cip_events.specs.declared.event.Frame.{Frame}
use Rattle.cip_events.specs.declared.event.Reason.TheVariants as reason
use Rattle.scanner_table.specs.declared.slot.PendingOpen.{PendingOpen}
use Rattle.scanner_table.specs.declared.slot.SlotState.{SlotState}
use Rattle.scanner_table.specs.declared.slot.SlotState.TheVariants.{Opening}
use Rattle.scanner_table.specs.declared.table.ScannerTable.{ScannerTable}
use Rattle.scanner_table.specs.declared.table.Stage.TheVariants.{Waiting}
use Rattle.scanner_table.specs.declared.table.TargetStream.{TargetStream}
use Rattle.scanner_table.specs.Effects.{and_then}
use Rattle.scanner_table.specs.Encapsulation.{registering_again, session_renewed, unserved_state, unserved, unserved_at}
use Rattle.scanner_table.specs.Requests.{registration, sent_frame}
use Rattle.scanner_table.specs.Slots.{IndexedSlot, slot_at}
use Rattle.scanner_transactions.specs.MessageOutcomes.{progress_next}
use Rattle.scanner_transactions.specs.Transactions.{Progress, begun, followed, at_found, after_at, with_frame, with_staged, refused_by}
use Rattle.scanner_transactions.proofs.Answering.{is_done}
use Rattle.scanner_transactions.proofs.Remaining.{then_added}

-- the frame of the registration, and the stage of its stream
pub registers_again : (so_far : Progress) (stream : TargetStream) (frame : Frame) → frame ≡ sent_frame (registration stream.number) → with_staged stream.number Waiting (with_frame frame so_far) ≡ followed so_far (registering_again so_far.table stream)
registers_again so_far stream frame is = rw (is, append-nil so_far.notices) refl

-- a slot that opens is refused
pub refuses_unserved : (so_far : Progress) (number status : ℕ) (indexed : IndexedSlot) (o : PendingOpen) → Some indexed ≡ slot_at so_far.table number → indexed.slot.state ≡ Opening o → after_at (refused_by (reason.Encap status)) number so_far ≡ after_at (unserved status) number so_far
refuses_unserved so_far number status indexed o is state =
    ap (λ (f : Option IndexedSlot). followed so_far (at_found (refused_by (reason.Encap status)) so_far.table f)) (sym is)
    ∙ ap (λ (s : SlotState). followed so_far (unserved_state status so_far.table indexed s)) (sym state)
    ∙ ap (λ (f : Option IndexedSlot). followed so_far (at_found (unserved status) so_far.table f)) is

-- the slot that waits is not served, and the session ends
pub unserved_done : (t : ScannerTable) (stream : TargetStream) (m : MessageFields) (indexed : IndexedSlot) (start mid last : Progress) (found : Option IndexedSlot) → slot_at t indexed.number ≡ Some indexed → Some indexed ≡ found → start ≡ begun t → mid ≡ after_at (unserved m.status) indexed.number start → last ≡ followed mid (session_renewed stream mid.table) → progress_next last ≡ unserved_at t stream m found
unserved_done t stream m indexed start mid last found stands is fresh left renews =
    let at : mid ≡ followed (begun t) (unserved m.status t indexed) = left ∙ ap (after_at (unserved m.status) indexed.number) fresh ∙ ap (λ (o : Option IndexedSlot). followed (begun t) (at_found (unserved m.status) t o)) stands in
    is_done t (and_then (unserved m.status t indexed) (session_renewed stream)) last (renews ∙ then_added (begun t) mid (λ u. unserved m.status u indexed) (session_renewed stream) at)
    ∙ ap (unserved_at t stream m) is
