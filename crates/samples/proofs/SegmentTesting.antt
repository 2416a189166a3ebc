-- The laws of the devices on a segment pass their tests, at any chronicle.
use Rattle.std.proofs.Common.{◌≡◌, ℕ, ◌==◌, ◌&&◌, ◌||◌, ◌++◌, not, Bool, true, false, List, [], ◌∷◌, inl, inr, map, slice_get, Option, Some, None, Ok, Err, refl, sym, ◌∙◌, ap}
use Rattle.cip_types.specs.declared.names.Node.{Node}
use Rattle.cip_datagram.specs.Datagram.{datagram_text}
use Rattle.cip_events.specs.declared.event.Frame.{Frame}
use Rattle.cip_events.specs.declared.event.Recipient.{Recipient}
use Rattle.cip_events.specs.declared.event.Recipient.TheVariants as recipient
use Rattle.cip_tables.specs.declared.table.Config.{Config}
use Rattle.cip_tables.specs.declared.table.DeviceTable.{DeviceTable}
use Rattle.cip_tables.specs.declared.table.DeviceTable.TheVariants.{Adapter, Scanner}
use Rattle.cip_tables.specs.Step.{node_of}
use Rattle.segment_world.specs.declared.act.Act.{Act}
use Rattle.segment_world.specs.World.{Happened, ReportedEvent, World, happens, node_at}
use Rattle.device_laws.specs.Productions.{Production}
use Rattle.device_laws.specs.OwnStreams.{has_stream}
use Rattle.schedule_laws.specs.Chronicle.{Chronicle}
use Rattle.schedule_laws.specs.Lives.{DifferInAddress}
use Rattle.schedule_laws.specs.Devices.{DevicesStand}
use Rattle.schedule_laws.specs.Indexes.{IsWellProduced, sent_of}
use Rattle.schedule_laws.specs.Marks.{FollowsMark, StreamsFollowMarks}
use Rattle.schedule_laws.specs.Streams.{Ends, IsBetween, IsOpenTo}
use Rattle.samples.specs.NameTests.{device_of}
use Rattle.samples.specs.SegmentTests.{act_marked, adapters_stream_stands, are_sent, differ, frame_marked, goes_marked, happening_marked, has_node, is_open_to, joins, keeps_node, nodes_differ, scanners_stream_stands, stream_marked, streams_stand, table_marked, table_stands, texts_are_sent, was_marked}
use Rattle.samples.proofs.Passing.{all_pass, both, bytes_are, is_number, left_passes, members_pass, number_is, right_passes, then_passes}

-- ---- what was sent

sent_step : (w : World) (produced : List Production) → are_sent w produced (map (sent_of w) produced) ≡ true
sent_step w [] = refl
sent_step w (p ∷ produced) =
    both (both (number_is (node_at w p.producer.device).0 (node_at w p.producer.device).0 refl) (bytes_are (datagram_text p.made.datagram) (datagram_text p.made.datagram) refl))
    (sent_step w produced)

pub sent_passes : (c : Chronicle) → IsWellProduced c → texts_are_sent c ≡ true
sent_passes c law = ap (are_sent c.story.world c.produced) law.sent ∙ sent_step c.story.world c.produced

-- ---- addresses

same_nodes : (a b : Node) → a ≡ b → (a.0 == b.0) ≡ true
same_nodes a b is = number_is a.0 b.0 (ap (λ (node : Node). node.0) is)

node_step : (configs : List Config) (c : Chronicle) (device : ℕ) (found : Option DeviceTable) → slice_get c.story.world.tables device ≡ found → DevicesStand configs c → has_node c device found ≡ true
node_step configs c device None at law = refl
node_step configs c device (Some t) at law = same_nodes (node_at c.story.world device) (node_of t) (law.nodes.own device t at)

pub node_passes : (configs : List Config) (device : ℕ) (c : Chronicle) → DevicesStand configs c → keeps_node device c ≡ true
node_passes configs device c law = node_step configs c device (device_of c device) refl law

differ_step : (configs : List Config) → DifferInAddress configs → (c : Chronicle) (a b : ℕ) (one two : Option DeviceTable) → slice_get c.story.world.tables a ≡ one → slice_get c.story.world.tables b ≡ two → DevicesStand configs c → differ a b one two ≡ true
differ_step configs once c a b None two at there law = refl
differ_step configs once c a b (Some t) None at there law = refl
differ_step configs once c a b (Some t) (Some u) at there law =
    then_passes ((node_of t).0 == (node_of u).0) (a == b) (λ same. number_is a b (law.nodes.differ once a b t u at there (is_number (node_of t).0 (node_of u).0 same)))

pub differ_passes : (configs : List Config) → DifferInAddress configs → (a b : ℕ) (c : Chronicle) → DevicesStand configs c → nodes_differ a b c ≡ true
differ_passes configs once a b c law = differ_step configs once c a b (device_of c a) (device_of c b) refl refl law

-- ---- streams

not_same : (a b : ℕ) → (a ≡ b → ⊥) → not (a == b) ≡ true
not_same a b apart = step (a == b) refl
  where
    step : (t : Bool) → (a == b) ≡ t → not t ≡ true
    step true is = absurd (apart (is_number a b is))
    step false is = refl

open_passes : (w : World) (device number : ℕ) (peer : Node) → IsOpenTo w device number peer → is_open_to w device number peer ≡ true
open_passes w device number peer is =
    ap (joins w device peer) is.over.there ∙ both (not_same e.from e.to is.over.apart) (step is.over.between)
  where
    e : Ends
    e = is.over.ends

    first : Bool
    first = e.from == device && peer.0 == (node_at w e.to).0

    second : Bool
    second = e.to == device && peer.0 == (node_at w e.from).0

    peer_at : (other : ℕ) → other ≡ is.other → (peer.0 == (node_at w other).0) ≡ true
    peer_at other same = same_nodes peer (node_at w other) (is.peer_is ∙ ap (node_at w) (sym same))

    step : IsBetween e device is.other → (first || second) ≡ true
    step (inl these) = left_passes first second (both (number_is e.from device these.first) (peer_at e.to these.second))
    step (inr these) = right_passes first second (both (number_is e.to device these.second) (peer_at e.from these.first))

stand_step : (configs : List Config) (c : Chronicle) (device : ℕ) (found : Option DeviceTable) → slice_get c.story.world.tables device ≡ found → DevicesStand configs c → table_stands c.story.world device found ≡ true
stand_step configs c device None at law = refl
stand_step configs c device (Some (Adapter t)) at law =
    members_pass (adapters_stream_stands c.story.world device) t.streams (λ s there. open_passes c.story.world device s.number s.peer (law.streams.adapters device t s at there))
stand_step configs c device (Some (Scanner t)) at law =
    members_pass (scanners_stream_stands c.story.world device) t.streams (λ s there. open_passes c.story.world device s.number s.peer (law.streams.scanners device t s at there))

pub stand_passes : (configs : List Config) (device : ℕ) (c : Chronicle) → DevicesStand configs c → streams_stand device c ≡ true
stand_passes configs device c law = stand_step configs c device (device_of c device) refl law

-- ---- marks

marked_step : (c : Chronicle) (device number : ℕ) (found : Option DeviceTable) → slice_get c.story.world.tables device ≡ found → StreamsFollowMarks c → table_marked c device number found ≡ true
marked_step c device number None at law = refl
marked_step c device number (Some t) at law = then_passes (has_stream t number) (was_marked c.story.reported device number) (λ has. law.tables device t number at has)

pub marked_passes : (device number : ℕ) (c : Chronicle) → StreamsFollowMarks c → stream_marked device number c ≡ true
marked_passes device number c law = marked_step c device number (device_of c device) refl law

frame_step : (events : List ReportedEvent) (device : ℕ) (frame : Frame) (to : Recipient) → frame.to ≡ to → FollowsMark events device frame → goes_marked events device to ≡ true
frame_step events device frame (recipient.Stream number) is follows = follows number is
frame_step events device frame (recipient.Peer peer) is follows = refl

act_step : (act : Act) (c : Chronicle) (happened : Happened) → happens c.story.world act ≡ happened → StreamsFollowMarks c → happening_marked c.story.reported happened ≡ true
act_step act c (Err fault) is law = refl
act_step act c (Ok (None, new)) is law = refl
act_step act c (Ok (Some reported, new)) is law =
    all_pass (FollowsMark (c.story.reported ++ reported ∷ []) reported.device) (frame_marked (c.story.reported ++ reported ∷ []) reported.device)
    (λ frame follows. frame_step (c.story.reported ++ reported ∷ []) reported.device frame frame.to refl follows) reported.answer.frames (law.frames act reported new is)

pub act_passes : (act : Act) (c : Chronicle) → StreamsFollowMarks c → act_marked act c ≡ true
act_passes act c law = act_step act c (happens c.story.world act) refl law
