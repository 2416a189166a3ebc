use Rattle.std.proofs.Common.{◌≡◌, ℕ, List, length, subst, ap, sym, ◌∙◌}
use Rattle.cip_events.specs.declared.event.Event.{Event}
use Rattle.settling.specs.Search.Histories.{bytes_of, events_of_all}
use Rattle.settling.specs.Receipts.{HasAllMarks, HasItsMarks, LacksItsMark, LacksMark}
use Rattle.settling.specs.Search.Schedules.{history}
use Rattle.settling.specs.Search.Lemmas.Listing.{history_at}
use Rattle.settling.specs.Search.Lemmas.Lowering.{lowest_done, lowest_found}
use Rattle.settling.proofs.receipts.first_missing.Goals as goal
use Rattle.settling.proofs.receipts.first_missing.Goals.{in-Some, in_default}

pub loop-device-preserved : goal.loop-device-preserved
loop-device-preserved c =
    let hs = c.args.histories.now in
    let marks = c.args.marks.now in
    let P = HasItsMarks (events_of_all hs) marks in
    let Q = LacksItsMark (events_of_all hs) marks in
    let i = c.loop-device.device in
    let same : length c.events.result.now ≡ length (history (events_of_all hs) i) =
    ap (λ (l : List Event). length l) (c.events.ensures ∙ sym (history_at hs i c.index-histories-device.result c.loop-device-test.true c.index-histories-device.is)) in
    elim c.match-missing_of.branch [
      | in-Some w ↦
          rw (w.best-is, w.lower_of.ensures)
          (lowest_found P Q (bytes_of hs) i w.in-Some.place c.loop-device.best c.loop-device.invariant (subst (λ (n : ℕ). LacksMark marks n i w.in-Some.place) same w.in-Some.ensures.some))
      | in_default w ↦
          rw w.best-is (lowest_done P Q (bytes_of hs) i c.loop-device.best c.loop-device.invariant (subst (λ (n : ℕ). HasAllMarks marks n i) same w.in_default.ensures.none))
    ]
