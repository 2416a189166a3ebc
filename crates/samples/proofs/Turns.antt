-- Turns at an output, and whether they follow one another: samples, by hand.
use Rattle.std.proofs.Common.{◌≡◌, ℕ, true, false, [], ◌∷◌, Some, None, refl, arith}
use Rattle.cip_datagram.specs.Reading.{datagram_reading}
use Rattle.cip_epath.specs.Reading as paths
use Rattle.cip_events.specs.declared.event.Event.{Event}
use Rattle.cip_events.specs.declared.event.Event.TheVariants.{Datagram, Tick}
use Rattle.cip_events.specs.declared.event.Notice.TheVariants.{Opened, Closed, Expired, Dropped, Replaced, StreamClosed}
use Rattle.cip_fwdopen.specs.Close.{close_reading}
use Rattle.cip_fwdopen.specs.Open.{open_reading}
use Rattle.cip_fwdopen.specs.Request.{request_reading}
use Rattle.cip_netparams.specs.Word.{params16}
use Rattle.cip_productions.specs.declared.kind.Kind.TheVariants.{ExclusiveOwner}
use Rattle.cip_router.specs.Requests.{router_request_reading}
use Rattle.messaging.specs.Times.{without_late_class3_connections, without_late_waiting, aged}
use Rattle.adapter_table.specs.Checks.{verdict}
use Rattle.adapter_table.specs.Closing.{closed_table}
use Rattle.adapter_table.specs.Datagrams.{accepted_table, received}
use Rattle.adapter_table.specs.Messages.{messages_table}
use Rattle.adapter_table.specs.Opening.{opened_row, opened_table}
use Rattle.adapter_table.specs.Requests.{admitted_open, served_open, served_close, served_end, requested}
use Rattle.adapter_table.specs.Ticks.{clocked_table, expired_table, produced_table, tick}
use Rattle.adapter_table.specs.Connections.{Row}
use Rattle.cip_tables.specs.Step.{step}
use Rattle.samples.specs.Datagrams.{datagram, running}
use Rattle.samples.specs.Devices.{common, fresh, own, peer}
use Rattle.samples.specs.Hex.{hex}
use Rattle.samples.specs.Requests.{OpeningRequest, owner}
use Rattle.samples.specs.Rows.{alive, lost}
use Rattle.samples.specs.Runs.{closes, id, opens}
use Rattle.device_laws.specs.Turns.{brought, ended, reports_end, ended_at, turns, Follow}

-- ---- lists of turns

one_after_another : Follow None (brought 1 ∷ brought 1 ∷ ended 1 ∷ brought 4 ∷ ended 7 ∷ brought 4 ∷ [])
one_after_another = (tt, (refl, (tt, (tt, (tt, (refl, tt))))))

-- a second one may not bring data while the first goes on, nor where a third has ended
two_at_once : Follow None (brought 1 ∷ brought 4 ∷ []) → ⊥
two_at_once follow = let same : 4 ≡ 1 = follow.1.0 in absurd (omega (arith, same))

another_one_s_end : Follow None (brought 1 ∷ ended 2 ∷ brought 4 ∷ []) → ⊥
another_one_s_end follow = let same : 4 ≡ 1 = follow.1.1.0 in absurd (omega (arith, same))

-- nor may another than the first owner begin
not_the_owner : Follow (Some 1) (brought 4 ∷ []) → ⊥
not_the_owner follow = let same : 4 ≡ 1 = follow.0 in absurd (omega (arith, same))

-- ---- ends

end_is_reported :
    reports_end (own 1) (Closed (own 1)) ∷ reports_end (own 1) (Expired (own 1)) ∷ reports_end (own 1) (Closed (own 2)) ∷ []
    ≡ true ∷ true ∷ false ∷ []
end_is_reported = refl

nothing_else_is :
    reports_end (own 1) (Opened (own 1) (record { 0 = 9 })) ∷ reports_end (own 1) (Dropped (own 1)) ∷ reports_end (own 1) (Replaced (own 1))
    ∷ reports_end (own 1) (StreamClosed 1) ∷ []
    ≡ false ∷ false ∷ false ∷ false ∷ []
nothing_else_is = refl

abbrev owning : Row → Row
owning row = record row { kind = ExclusiveOwner; consumed = 150 }

-- of the established exclusive owner alone
owner_has_ended : ended_at 150 (alive 1 ∷ owning (alive 2) ∷ owning (lost 3) ∷ []) (Expired (own 3) ∷ Closed (own 1) ∷ Closed (own 2) ∷ []) ≡ ended 2 ∷ []
owner_has_ended = refl

owner_of_another_output : ended_at 160 (owning (alive 2) ∷ []) (Closed (own 2) ∷ []) ≡ []
owner_of_another_output = refl

-- ---- a run

-- the originator opens an owner, which brings data, and closes it; it opens another, which does so and times out
abbrev second : OpeningRequest
second = record owner { serial = 2 }

abbrev arrives : ℕ → ℕ → Event
arrives opening number = Datagram peer (datagram (id opening) number number (running (hex "01 02 03 04")))

two_owners :
    turns 150 (fresh common) (
    opens owner ∷ arrives 1 1 ∷ opens second ∷ arrives 1 2 ∷ closes peer owner ∷ arrives 1 3 ∷ opens second ∷ arrives 2 1 ∷ Tick 160 ∷ [])
    ≡ brought 1 ∷ brought 1 ∷ ended 1 ∷ brought 2 ∷ ended 2 ∷ []
unfolding messages_table without_late_class3_connections without_late_waiting aged datagram_reading paths.path_reading paths.target_reading paths.segments_at paths.segment_at paths.logical_at paths.value_at paths.key_at paths.key_fields_at paths.data_at close_reading open_reading request_reading params16 router_request_reading verdict closed_table accepted_table received opened_row opened_table admitted_open served_open served_close served_end requested step clocked_table expired_table produced_table tick
two_owners = refl
