-- A transaction after one change of a slot.
use Rattle.std.proofs.Common.{◌≡◌, ℕ, List, [], ◌++◌, slice_set, slice_get, replicate, Option, Some, None, refl, sym, ◌∙◌, ap}
use Rattle.std.specs.Option.{ForSome}
use Rattle.std.proofs.lemmas.List.{append-nil}
use Rattle.cip_events.specs.declared.event.Notice.{Notice}
use Rattle.scanner_table.specs.declared.slot.Slot.{Slot}
use Rattle.scanner_table.specs.Effects.{state_notices, changed, nothing, Effect}
use Rattle.scanner_table.specs.declared.table.ScannerTable.{ScannerTable}
use Rattle.scanner_table.specs.Slots.{IndexedSlot, slot_at, with_slot}
use Rattle.scanner_transactions.specs.declared.changes.SlotChange.{SlotChange}
use Rattle.cip_fwdopen.specs.declared.reply.Opened as made
use Rattle.conn_state.specs.declared.names.Link.{Link}
use Rattle.conn_state.specs.Answers.{answer_tests, link_of}
use Rattle.scanner_table.specs.declared.slot.PendingOpen as pending
use Rattle.scanner_table.specs.declared.slot.SlotConnection.{SlotConnection}
use Rattle.scanner_table.specs.declared.slot.SlotState.TheVariants.{Idle, Established}
use Rattle.scanner_table.specs.Replies.{established_slot, new_connection, is_id_free, failed_slot, refused, rejected, judged_success}
use Rattle.cip_types.specs.Cases.{first_case}
use Rattle.cip_types.specs.declared.names.Mismatch.{Mismatch}
use Rattle.cip_events.specs.declared.event.Reason.TheVariants as reason
use Rattle.scanner_requests.specs.Connections.{connection_of}
use Rattle.scanner_transactions.specs.Transactions.{occupied, established_by, refused_by, rejected_by, judged_by, Progress, followed, after_at, at_number, at_found, slot_changed, with_change, listed}
use Rattle.scanner_transactions.proofs.Found.{found, refound}
use Rattle.scanner_transactions.proofs.Remaining.{adds_both}

pub some_found : (effect : ScannerTable → IndexedSlot → Effect) (so_far new : Progress) (number : ℕ) (indexed : IndexedSlot) → Some indexed ≡ slot_at so_far.table number → new ≡ followed so_far (effect so_far.table indexed) → new ≡ followed so_far (at_number effect so_far.table number)
some_found effect so_far new number indexed is made =
    made ∙ ap (λ (o : Option IndexedSlot). followed so_far (at_found effect so_far.table o)) is

-- an effect on nothing adds nothing
pub adds_nothing : (so_far : Progress) → so_far ≡ followed so_far (nothing so_far.table)
adds_nothing so_far = rw (append-nil so_far.frames, append-nil so_far.notices) refl

-- where no slot has the number
pub none_found : (effect : ScannerTable → IndexedSlot → Effect) (so_far : Progress) (number : ℕ) → None ≡ slot_at so_far.table number → so_far ≡ after_at effect number so_far
none_found effect so_far number is =
    adds_nothing so_far ∙ ap (λ (o : Option IndexedSlot). followed so_far (at_found effect so_far.table o)) is

-- what a change of a slot adds
pub changed_adds : (so_far : Progress) (indexed : IndexedSlot) (slot : Slot) (reported notices : List Notice) (slots : List Slot) → notices ≡ so_far.notices ++ (reported ++ state_notices indexed.number indexed.slot.state slot.state) → slots ≡ slice_set so_far.table.slots indexed.number slot → record { frames = so_far.frames; notices = notices; table = record so_far.table { slots = slots } } ≡ followed so_far (changed so_far.table indexed slot reported)
changed_adds so_far indexed slot reported notices slots said set = rw (said, set, append-nil so_far.frames) refl

-- a changed slot
pub slot_changed_adds : (so_far : Progress) (number : ℕ) (slot_change : SlotChange) (reported : Option Notice) (indexed : IndexedSlot) (notices : List Notice) (slots : List Slot) → Some indexed ≡ slot_at so_far.table number → notices ≡ so_far.notices ++ (listed reported ++ state_notices number indexed.slot.state slot_change.state) → ForSome (slice_get so_far.table.slots number) (λ slot. slots ≡ slice_set so_far.table.slots number (with_change slot_change slot)) → record { frames = so_far.frames; notices = notices; table = record so_far.table { slots = slots } } ≡ followed so_far (at_number (slot_changed slot_change reported) so_far.table number)
slot_changed_adds so_far number slot_change reported indexed notices slots is said set =
    let known = found number so_far.table.profile.slots so_far.table.slots indexed is in
    let put : slots ≡ slice_set so_far.table.slots number (with_change slot_change indexed.slot) = set indexed.slot known.slot in
    let at = sym known.numbered in
    some_found (slot_changed slot_change reported) so_far _ number indexed is (changed_adds so_far indexed (with_change slot_change indexed.slot) (listed reported) notices slots (said ∙ ap (λ (n : ℕ). so_far.notices ++ (listed reported ++ state_notices n indexed.slot.state slot_change.state)) at) (put ∙ ap (λ (n : ℕ). slice_set so_far.table.slots n (with_change slot_change indexed.slot)) at))

-- a slot that has a connection
pub occupied_adds : (so_far : Progress) (number : ℕ) (opening : pending.PendingOpen) (opened : made.Opened) (link : Link) (connection : SlotConnection) (image : List ℕ) (indexed : IndexedSlot) (notices : List Notice) (slots : List Slot) → Some indexed ≡ slot_at so_far.table number → link ≡ link_of opening.requested opened → connection ≡ connection_of so_far.table.profile.tidy so_far.table.clock indexed.config indexed.number opening.request link opened → image ≡ replicate indexed.config.in_len 0 → notices ≡ so_far.notices ++ (listed {A = Notice} None ++ state_notices number indexed.slot.state (Established connection)) → ForSome (slice_get so_far.table.slots number) (λ slot. slots ≡ slice_set so_far.table.slots number (occupied (Established connection) image slot)) → record { frames = so_far.frames; notices = notices; table = record so_far.table { slots = slots } } ≡ followed so_far (at_number (established_by opening opened) so_far.table number)
occupied_adds so_far number opening opened link connection image indexed notices slots is named begun zeros said set =
    let known = found number so_far.table.profile.slots so_far.table.slots indexed is in
    let slot : Slot = established_slot indexed (new_connection so_far.table indexed opening opened) in
    let put : slots ≡ slice_set so_far.table.slots number (occupied (Established connection) image indexed.slot) = set indexed.slot known.slot in
    let same : occupied (Established connection) image indexed.slot ≡ slot = rw (begun, named, zeros) refl in
    let at = sym known.numbered in
    let reported : notices ≡ so_far.notices ++ ([] ++ state_notices number indexed.slot.state slot.state) = said ∙ ap (λ (s : Slot). so_far.notices ++ ([] ++ state_notices number indexed.slot.state s.state)) same in
    some_found (established_by opening opened) so_far _ number indexed is (changed_adds so_far indexed slot [] notices slots (reported ∙ ap (λ (n : ℕ). so_far.notices ++ ([] ++ state_notices n indexed.slot.state slot.state)) at) (put ∙ ap (λ (s : Slot). slice_set so_far.table.slots number s) same ∙ ap (λ (n : ℕ). slice_set so_far.table.slots n slot) at))

-- a successful reply with a mismatch, and the close of its connection
pub judged_adds : (so_far : Progress) (number : ℕ) (indexed : IndexedSlot) (opening : pending.PendingOpen) (opened : made.Opened) (why : Mismatch) → Some indexed ≡ slot_at so_far.table number → first_case (answer_tests opening.requested opened (is_id_free so_far.table indexed opened.t_o_id)) ≡ Some why → after_at (rejected_by opening.requested.triad) number (after_at (refused_by (reason.Mismatch why)) number so_far) ≡ after_at (judged_by opening opened) number so_far
judged_adds so_far number indexed opening opened why is amiss =
    let t = so_far.table in
    let triad = opening.requested.triad in
    let known = found number t.profile.slots t.slots indexed is in
    let slot : Slot = failed_slot t Idle indexed.slot in
    let first : Effect = refused t indexed (reason.Mismatch why) in
    let there : Some (record indexed { slot = slot }) ≡ slot_at first.table number = refound number t.profile.slots t.slots indexed slot is ∙ ap (λ (n : ℕ). slot_at (with_slot t n slot) number) (sym known.numbered) in
    ap (λ (o : Option IndexedSlot). after_at (rejected_by triad) number (followed so_far (at_found (refused_by (reason.Mismatch why)) t o))) (sym is)
    ∙ ap (λ (o : Option IndexedSlot). followed (followed so_far first) (at_found (rejected_by triad) first.table o)) (sym there)
    ∙ adds_both so_far first (rejected indexed.config triad first.table)
    ∙ ap (λ (m : Option Mismatch). followed so_far (judged_success t indexed opening opened m)) (sym amiss)
    ∙ ap (λ (o : Option IndexedSlot). followed so_far (at_found (judged_by opening opened) t o)) is
