-- Time at class 3 connections and at requests to the application, as the engine takes it.
use Rattle.std.proofs.Common.{◌≡◌, ◌+◌, ℕ, true, List, [], ◌∷◌, map, refl, ap}
use Rattle.std.proofs.lemmas.List.{append-nil}
use Rattle.cip_events.specs.declared.event.Notice.{Notice}
use Rattle.cip_events.specs.declared.event.Notice.TheVariants as notice
use Rattle.cip_events.specs.declared.event.OutgoingDatagram.{OutgoingDatagram}
use Rattle.cip_events.specs.declared.event.Verdict.TheVariants.{Done}
use Rattle.messaging.specs.declared.class3.Class3Connection.{Class3Connection}
use Rattle.messaging.specs.Class3Connections.{class3_triad}
use Rattle.messaging.specs.Times.{is_idle}
use Rattle.messaging.specs.Lemmas.IdleLemmas.{IsCalm, idle_is_calm}
use Rattle.adapter_table.specs.declared.table.AdapterTable.{AdapterTable}
use Rattle.adapter_table.specs.Messages.{messages_table}
use Rattle.adapter_table.specs.Ticks.{clocked_table, expired_table, produced_table, advanced, aged_next, late_notice}
use Rattle.adapter_table.specs.Whole.{IsWhole}

pub late_notices : (class3_connections : List Class3Connection) → map notice.Expired (map class3_triad class3_connections) ≡ map late_notice class3_connections
late_notices [] = refl
late_notices (d ∷ class3_connections) = ap (λ (l : List Notice). late_notice d ∷ l) (late_notices class3_connections)

-- ---- a tick in which no deadline of these comes

aged_calm : (t : AdapterTable) (datagrams : List OutgoingDatagram) (notices : List Notice) → IsCalm t.clock t.messaging → aged_next (record { frames = []; datagrams = datagrams; verdict = Done; notices = notices }, t) ≡ (record { frames = []; datagrams = datagrams; verdict = Done; notices = notices }, t)
unfolding messages_table
aged_calm t datagrams notices calm = rw (calm.left, calm.waiting, calm.class3_connections, calm.same, append-nil notices) refl

-- is what it is without them
pub idle_next : (t : AdapterTable) (ms : ℕ) → IsWhole t → is_idle (record { 0 = t.clock.0 + ms }) t.messaging ≡ true → aged_next (advanced (clocked_table t ms)) ≡ advanced (clocked_table t ms)
unfolding clocked_table expired_table produced_table
idle_next t ms whole idle =
    aged_calm (advanced (clocked_table t ms)).1 _ _ (idle_is_calm (record { 0 = t.clock.0 + ms }) t.messaging whole.messages.own.answerable idle)
