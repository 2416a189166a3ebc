use Rattle.std.proofs.Common.{◌∙◌, sym, arith, ap, subst, length, cond, refl}
use Rattle.cip_datagram.specs.Datagram.{view_datagram}
use Rattle.cip_productions.specs.Acceptance.{is_duplicate}
use Rattle.scanner_table.specs.declared.slot.Slot.{Slot}
use Rattle.cip_types.specs.declared.names.Ms.{Ms}
use Rattle.scanner_table.specs.Opening.{later}
use Rattle.scanner_table.specs.Datagrams.{is_for, accepted_connection}
use Rattle.scanner_slots.specs.declared.bounds.Bounds.{Bounds}
use Rattle.scanner_slots.specs.Bounding.{IsHinted, IsNoLater, with_deadline}
use Rattle.scanner_slots.specs.Views.{view_slot, table_of}
use Rattle.scanner_data.proofs.Facts.{found, watchdog_of}
use Rattle.scanner_data.proofs.Changes.{received_is, accepted_hinted, recorded_is}
use Rattle.scanner_data.proofs.deliveries.receive_read.Goals as goal

pub index_mut-requires : goal.index_mut-requires
index_mut-requires g c =
    let at = found _ (table_of c.args.profile.now c.args.scanner.now) (view_slot c.in-Some.indexed) c.requires.whole c.in-Some.ensures.found in
    omega (arith, at.below, c.args.scanner.now.slots.ok.0)

pub deadline_after-deadline-requires-clause-waits : goal.deadline_after-deadline-requires-clause-waits
deadline_after-deadline-requires-clause-waits g c =
    let at = found _ (table_of c.args.profile.now c.args.scanner.now) (view_slot c.in-Some.indexed) c.requires.whole c.in-Some.ensures.found in
    watchdog_of _ _ _ _ _ c.in-Ok.connection.now c.in-Ok.ensures.established at.state at.watchdog at.mult

pub gather-requires : goal.gather-requires
gather-requires g c =
    let at = found _ (table_of c.args.profile.now c.args.scanner.now) (view_slot c.in-Some.indexed) c.requires.whole c.in-Some.ensures.found in
    record { size = ap (λ (s : Slot). length s.image) (c.index_mut.ensures.value ∙ at.slot _) ∙ at.image ∙ sym c.in-Ok.ensures.size }

pub returns-in-Ok-clause-step : goal.returns-in-Ok-clause-step
returns-in-Ok-clause-step g c =
    let t = table_of c.args.profile.now c.args.scanner.now in
    let d = view_datagram c.args.datagram.now in
    let at = found _ t (view_slot c.in-Some.indexed) c.requires.whole c.in-Some.ensures.found in
    let connection = c.in-Ok.connection.now in
    let old = c.index_mut.result.now in
    let image = cond (is_duplicate connection.last d.count) old.image d.payload in
    received_is t (view_slot c.in-Some.indexed) d connection _ old c.gather.new.slot c.gather.result c.in-Some.ensures.found c.in-Ok.ensures.judged (c.index_mut.ensures.value ∙ at.slot _) c.gather.ensures.delivery
    (recorded_is old c.in-Some.indexed.slot.now c.gather.new.slot t.clock c.deadline_after-deadline.result d connection image (c.index_mut.ensures.value ∙ at.slot _) c.in-Ok.ensures.established c.deadline_after-deadline.ensures c.gather.ensures.slot)

pub returns-in-Ok-clause-hints : goal.returns-in-Ok-clause-hints
returns-in-Ok-clause-hints g c hinted =
    let t = table_of c.args.profile.now c.args.scanner.now in
    let d = view_datagram c.args.datagram.now in
    let at = found _ t (view_slot c.in-Some.indexed) c.requires.whole c.in-Some.ensures.found in
    let connection = c.in-Ok.connection.now in
    let old = c.index_mut.result.now in
    let image = cond (is_duplicate connection.last d.count) old.image d.payload in
    let before : IsHinted (g.H.Hints.bounds c.consumer.new.hints) t = subst (λ (b : Bounds). IsHinted b t) (sym c.in-Some.ensures.hints) hinted in
    let le : IsNoLater (g.H.Hints.bounds c.await_deadline.new.self) (with_deadline (g.H.Hints.bounds c.consumer.new.hints) (later t.clock connection.watchdog.0)) = subst (λ (x : Ms). IsNoLater (g.H.Hints.bounds c.await_deadline.new.self) (with_deadline (g.H.Hints.bounds c.consumer.new.hints) x)) c.deadline_after-deadline.ensures c.await_deadline.ensures in
    accepted_hinted (g.H.Hints.bounds c.await_deadline.new.self) (g.H.Hints.bounds c.consumer.new.hints) t (view_slot c.in-Some.indexed) d connection (accepted_connection t.clock d connection) old c.gather.new.slot image c.bounds_are_kept_by_earlier_ones.ensures refl (c.index_mut.ensures.value ∙ at.slot _)
    (recorded_is old c.in-Some.indexed.slot.now c.gather.new.slot t.clock c.deadline_after-deadline.result d connection image (c.index_mut.ensures.value ∙ at.slot _) c.in-Ok.ensures.established c.deadline_after-deadline.ensures c.gather.ensures.slot)
    (c.accepted_datagrams_keep_bounds.ensures _ t (is_for c.args.peer c.args.datagram.now.connection.0) (view_slot c.in-Some.indexed) d connection image (sym c.in-Some.ensures.found) c.in-Ok.ensures.established before)
    le
