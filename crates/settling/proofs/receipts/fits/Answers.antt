use Rattle.std.proofs.Common.{◌≡◌, ◌↔◌, ℕ, List, [], Bool, IsTrue, slice_get, slice_index_or, Some, Ok, sym, subst, ◌∙◌}
use Rattle.std.proofs.lemmas.Bool.{false≢true}
use Rattle.cip_events.specs.Outcomes.{Outcome}
use Rattle.device_lock.specs.declared.receipt.Receipt.{Receipt}
use Rattle.device_lock.specs.Histories.{HistoryValue}
use Rattle.settling.specs.Search.Histories.{events_of_all}
use Rattle.settling.specs.Receipts.{FitsAt, outcomes_of_all}
use Rattle.settling.specs.Search.Schedules.{history}
use Rattle.settling.proofs.Receiving.{fits_same}
use Rattle.settling.proofs.receipts.fits.Goals as goal

fits_so : (hs : List HistoryValue) (outcomes : List (List Outcome)) (p : ℕ × ℕ) (r : Receipt) (answers : Bool) → outcomes ≡ outcomes_of_all hs → slice_get (history (events_of_all hs) p.0) p.1 ≡ Some r.event → IsTrue answers ↔ (slice_get (slice_index_or outcomes p.0 []) p.1 ≡ Some (Ok r.answer)) → IsTrue answers ↔ FitsAt hs p r
fits_so hs outcomes p r answers is event says =
    let same = fits_same hs p.0 p.1 r.event (Ok r.answer) in (
      λ t. same.0 (event, subst (λ (l : List (List Outcome)). slice_get (slice_index_or l p.0 []) p.1 ≡ Some (Ok r.answer)) is (says.0 t)),
      λ f. says.1 (subst (λ (l : List (List Outcome)). slice_get (slice_index_or l p.0 []) p.1 ≡ Some (Ok r.answer)) (sym is) (same.1 f).1),
    )

pub returns-then-has_event : goal.returns-then-has_event
returns-then-has_event c = fits_so c.args.histories.now c.args.outcomes.now c.args.place c.args.receipt.now c.has_answer.result c.requires (c.has_event.ensures.0 c.if-has_event.true) c.has_answer.ensures

pub returns-else-has_event : goal.returns-else-has_event
returns-else-has_event c =
    let same = fits_same c.args.histories.now c.args.place.0 c.args.place.1 c.args.receipt.now.event (Ok c.args.receipt.now.answer) in
    (λ t. absurd (false≢true (sym c.if-has_event.false ∙ t)), λ f. c.has_event.ensures.1 (same.1 f).0)
