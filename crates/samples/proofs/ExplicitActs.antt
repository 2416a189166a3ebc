-- Explicit requests on a network, worked out by hand: a scanner's application asks the adapter for an input, and gets the
-- reply, or why none comes.
use Rattle.std.proofs.Common.{◌≡◌, ℕ, List, [], ◌∷◌, Option, Some, None, Ok, Err, refl}
use Rattle.cip_events.specs.declared.event.Notice.{Notice}
use Rattle.cip_events.specs.declared.event.Notice.TheVariants as notice
use Rattle.cip_events.specs.declared.event.StepFault.TheVariants.{NotAllowedNow, NoSuchSlot}
use Rattle.cip_events.specs.declared.event.Unanswered.TheVariants.{Lost, TimedOut}
use Rattle.cip_events.specs.declared.event.Verdict.{Verdict}
use Rattle.cip_events.specs.declared.event.Verdict.TheVariants.{Done, Ignored, Replied}
use Rattle.cip_router.specs.Replies.{object_reply_text}
use Rattle.cip_router.specs.RouterReplies.{router_reply_reading}
use Rattle.adapter_table.specs.Objects.{instance_at, alone_answer}
use Rattle.adapter_table.specs.Carrying.{object_answer}
use Rattle.segment_world.specs.declared.transit.direction.Direction.TheVariants.{Forth, Back}
use Rattle.segment_world.specs.declared.act.Act.{Act}
use Rattle.segment_world.specs.declared.act.Act.TheVariants.{Local, NextFrame, CutStream}
use Rattle.segment_world.specs.declared.act.ActFault.TheVariants.{Step}
use Rattle.segment_world.specs.declared.act.Call.TheVariants as call
use Rattle.segment_world.specs.Configs.{opening_world}
use Rattle.segment_world.specs.World.{World}
use Rattle.samples.specs.Devices.{common, other}
use Rattle.samples.specs.Playing.{playing}
use Rattle.samples.specs.Schedules.{owned, meets}
use Rattle.samples.specs.Worlds.{Saying, after, says}

-- the scanner, device 1, has a session with the adapter, device 0, over stream 0
abbrev met : World
met = after (opening_world owned) (meets 1 0)

-- Get_Attribute_Single of the data of assembly 100, the adapter's input
abbrev get_input : List ℕ
get_input = 0x0E ∷ 0x03 ∷ 0x20 ∷ 0x04 ∷ 0x24 ∷ 0x64 ∷ 0x30 ∷ 0x03 ∷ []

-- the scanner's application has these bytes sent to the adapter, as its request of this number
abbrev asks : ℕ → List ℕ → Act
asks number bytes = Local 1 (call.Explicit common.node number bytes)

-- the verdict of the event that an act makes, and its notices
abbrev outcome_of : Saying → Option (Verdict × List Notice)
outcome_of (Ok (Some reported)) = Some (reported.answer.verdict, reported.answer.notices)
outcome_of (Ok None) = None
outcome_of (Err fault) = None

abbrev outcomes : List Saying → List (Option (Verdict × List Notice))
outcomes [] = []
outcomes (saying ∷ sayings) = outcome_of saying ∷ outcomes sayings

abbrev plain : Verdict → Option (Verdict × List Notice)
plain verdict = Some (verdict, [])

-- ---- replies

-- the request goes forth, and the reply, four zeros, comes back with the application's number
a_reply : outcomes (says met (asks 7 get_input ∷ NextFrame 0 Forth ∷ NextFrame 0 Back ∷ [])) ≡ plain Done ∷ plain Done ∷ plain (Replied 7 0 [] (0 ∷ 0 ∷ 0 ∷ 0 ∷ [])) ∷ []
unfolding playing instance_at object_answer alone_answer object_reply_text router_reply_reading
a_reply = refl

-- an object that the adapter has not: path destination unknown
no_such_object : outcomes (says met (asks 9 (0x0E ∷ 0x02 ∷ 0x20 ∷ 0x99 ∷ 0x24 ∷ 0x01 ∷ []) ∷ NextFrame 0 Forth ∷ NextFrame 0 Back ∷ [])) ≡ plain Done ∷ plain Done ∷ plain (Replied 9 5 [] []) ∷ []
unfolding playing instance_at object_answer alone_answer object_reply_text router_reply_reading
no_such_object = refl

-- ---- none

-- the stream is cut before the adapter has the request
lost : outcomes (says met (asks 7 get_input ∷ CutStream 0 ∷ NextFrame 0 Back ∷ [])) ≡ plain Done ∷ None ∷ Some (Done, notice.Unanswered 7 Lost ∷ []) ∷ []
unfolding playing
lost = refl

-- the reply comes after the open time-out
late : outcomes (says met (asks 7 get_input ∷ NextFrame 0 Forth ∷ Local 1 (call.Tick 2000) ∷ NextFrame 0 Back ∷ [])) ≡ plain Done ∷ plain Done ∷ Some (Done, notice.Unanswered 7 TimedOut ∷ []) ∷ plain Ignored ∷ []
unfolding playing instance_at object_answer alone_answer object_reply_text
late = refl

-- ---- refusals

-- an adapter's application, a target that no slot has, and a stream without a session
refused : says (opening_world owned) (Local 0 (call.Explicit common.node 7 get_input) ∷ Local 1 (call.Explicit other 7 get_input) ∷ asks 7 get_input ∷ []) ≡ Err (Step NotAllowedNow) ∷ Err (Step NoSuchSlot) ∷ Err (Step NotAllowedNow) ∷ []
unfolding playing
refused = refl
