-- Notes of slots, what they wait for, the datagrams that are sent for a connection, and how long a station that ends waits, worked
-- by hand.
use Rattle.std.proofs.Common.{◌≡◌, [], ◌∷◌, Some, None, true, false, refl}
use Rattle.std.specs.List.{list_any}
use Rattle.cip_events.specs.declared.event.Notice.TheVariants.{Slot}
use Rattle.cip_events.specs.declared.event.Reason.TheVariants.{Unreadable}
use Rattle.cip_tables.specs.declared.table.Config.TheVariants.{Scanner}
use Rattle.scanner_table.specs.declared.profile.ScannerProfile.{ScannerProfile}
use Rattle.scanner_table.specs.declared.report.SlotReport.TheVariants as slot
use Rattle.scanner_table.specs.declared.table.Stage.TheVariants.{Up}
use Rattle.udp_runner.specs.declared.report.PortReport.TheVariants as report
use Rattle.udp_runner.specs.declared.report.RefusalCause.TheVariants as cause
use Rattle.station_lines.specs.declared.watch.waits.SlotWait.TheVariants as wait
use Rattle.station_lines.specs.Watch.Closing.{close_end, closing_ms, closing_through, is_marked, waits_on}
use Rattle.station_lines.specs.Watch.Notes.{changed_note, note_since, opened_note, refused_note, stream_after}
use Rattle.station_lines.specs.Watch.Slots.{is_renewed}
use Rattle.station_lines.specs.Watch.Traffic.{begun, ended_note, is_sent_as, marked}
use Rattle.station_lines.specs.Watch.Waits.{stage_wait, stream_wait}

-- SLOTS

-- a slot opens at 200 milliseconds and times out at 500
a_time_out_is_counted :
    changed_note 500 4 (opened_note 200 (note_since 0))
    ≡ record { since_ms = 500; time_outs = 1; last_time_out_ms = Some 500; refusal = None; stream = None }
a_time_out_is_counted = refl

a_time_out_of_a_connection_is_counted :
    (ended_note 500 4 (Some 16) (opened_note 200 (note_since 0))).time_outs ≡ 1
a_time_out_of_a_connection_is_counted = refl

-- a slot that is tidy is timed out then, as its target may have opened the connection
an_opening_that_is_not_answered_is_no_time_out :
    ended_note 500 4 None (note_since 200) ≡ record { since_ms = 500; time_outs = 0; last_time_out_ms = None; refusal = None; stream = None }
an_opening_that_is_not_answered_is_no_time_out = refl

an_opening_ends_a_refusal : (opened_note 200 (refused_note Unreadable (note_since 0))).refusal ≡ None
an_opening_ends_a_refusal = refl

no_stream_is_there : stream_wait 1500 1000 None ≡ wait.NoStream
no_stream_is_there = refl

the_next_try_is_later : stage_wait 1500 1000 (Up 1) ≡ wait.Later 500
the_next_try_is_later = refl

-- STREAMS TO TARGETS

a_request_that_is_not_answered_renews_its_stream : is_renewed [] (record { 0 = 9 }) (Some slot.Idle) ≡ true
a_request_that_is_not_answered_renews_its_stream = refl

-- its Forward_Close was not answered, and in the same event it sent its Forward_Open
a_slot_that_opens_again_keeps_its_stream : is_renewed [] (record { 0 = 9 }) (Some slot.Opening) ≡ false
a_slot_that_opens_again_keeps_its_stream = refl

a_refused_stream_is_tried_again :
    stream_after None (Some (record { 0 = 9 })) 700 (report.NotOpened (record { 0 = 9 }) (cause.Refused 4000))
    ≡ Some (record { refused = true; next_ms = 4700 })
a_refused_stream_is_tried_again = refl

a_stream_to_another_target_is_none_of_it :
    stream_after None (Some (record { 0 = 9 })) 700 (report.NotOpened (record { 0 = 8 }) (cause.Unanswered 4000)) ≡ None
a_stream_to_another_target_is_none_of_it = refl

an_open_stream_ends_it :
    stream_after (Some (record { refused = true; next_ms = 4700 })) (Some (record { 0 = 9 })) 900 (report.Opened 3 (record { 0 = 9 })) ≡ None
an_open_stream_ends_it = refl

-- DATAGRAMS THAT ARE SENT

one_of_the_consumers_is_the_peer : is_sent_as (record { 0 = 7 } ∷ record { 0 = 9 } ∷ []) 16 (Some (record { to = record { 0 = 9 }; id = 16 })) ≡ true
one_of_the_consumers_is_the_peer = refl

another_peer_has_the_same_id : is_sent_as (record { 0 = 7 } ∷ []) 16 (Some (record { to = record { 0 = 9 }; id = 16 })) ≡ false
another_peer_has_the_same_id = refl

a_connection_times_out_once :
    (marked 900 false (marked 500 false (begun None (Some 16) None (note_since 200)))).note
    ≡ record { since_ms = 500; time_outs = 1; last_time_out_ms = Some 500; refusal = None; stream = None }
a_connection_times_out_once = refl

-- A STATION THAT ENDS

a_scanner_waits_for_its_open_time_out : (profile : ScannerProfile) → closing_ms (Scanner profile) ≡ profile.open_timeout
a_scanner_waits_for_its_open_time_out profile = refl

-- two slots; slot 1 was opening as it was stopped, and its close is on its way
an_opening_that_is_stopped_is_waited_for :
    waits_on (list_any is_marked (closing_through (Slot 1 6 ∷ []) (false ∷ false ∷ []))) 1000 (close_end 1000 500) ≡ true
an_opening_that_is_stopped_is_waited_for = refl

a_reply_ends_the_wait :
    waits_on (list_any is_marked (closing_through (Slot 1 6 ∷ Slot 1 0 ∷ []) (false ∷ false ∷ []))) 1000 (close_end 1000 500) ≡ false
a_reply_ends_the_wait = refl

another_slot_is_waited_for :
    waits_on (list_any is_marked (closing_through (Slot 0 6 ∷ Slot 1 6 ∷ Slot 0 0 ∷ []) (false ∷ false ∷ []))) 1499 (close_end 1000 500) ≡ true
another_slot_is_waited_for = refl

-- its target has no session: it is closed when one is registered
a_time_out_without_a_session_is_not_waited_for :
    waits_on (list_any is_marked (closing_through (Slot 1 4 ∷ []) (false ∷ false ∷ []))) 1000 (close_end 1000 500) ≡ false
a_time_out_without_a_session_is_not_waited_for = refl

the_open_time_out_ends_the_wait : waits_on true 1500 (close_end 1000 500) ≡ false
the_open_time_out_ends_the_wait = refl
