-- Both devices of an entry of the chronicle have performed an event, and so has the giver of each frame that waits.
use Rattle.std.proofs.Common.{◌≡◌, ◌≢◌, ℕ, ◌==◌, Bool, true, false, cond, List, [], ◌∷◌, ◌++◌, map, filter, slice_get, Option, Some, None, Result, Ok, Err, IfOk, refl, sym, ◌∙◌, ap, subst}
use Rattle.std.specs.List.{AllByRecursion}
use Rattle.base_lemmas.specs.Numbers.{number_same}
use Rattle.cip_encap.specs.declared.message.EncapFault.{EncapFault}
use Rattle.cip_encap.specs.Message.{MessageFields}
use Rattle.cip_encap.specs.Reading.{message_reading}
use Rattle.cip_events.specs.declared.event.Event.{Event}
use Rattle.cip_events.specs.declared.event.Event.TheVariants as event
use Rattle.cip_events.specs.declared.event.Frame.{Frame}
use Rattle.adapter_table.specs.Connections.{Row}
use Rattle.cip_tables.specs.declared.table.Config.{Config}
use Rattle.cip_tables.specs.declared.table.DeviceTable.{DeviceTable}
use Rattle.cip_tables.specs.declared.table.DeviceTable.TheVariants.{Adapter, Scanner}
use Rattle.cip_tables.specs.Run.{table_of}
use Rattle.cip_tables.specs.Step.{step}
use Rattle.segment_world.specs.Transit.Streams.{Stream, answered}
use Rattle.segment_world.specs.declared.act.Act.{Act}
use Rattle.segment_world.specs.declared.act.ActFault.{ActFault}
use Rattle.segment_world.specs.Configs.{opening_world}
use Rattle.segment_world.specs.Story.{event_reported, events_of, is_of}
use Rattle.segment_world.specs.World.{World, ReportedEvent, Happened, happens}
use Rattle.device_laws.specs.Lemmas.Lists.{all_both, all_more}
use Rattle.schedule_laws.specs.Chronicle.{Chronicle, Opened, other_end, requester, opened_for, new_row, frame_opens, with_event_at, recorded, blank}
use Rattle.schedule_laws.specs.Order.{IsChronicle}
use Rattle.schedule_laws.specs.Streams.{Ends, ends_of, IsBetween, IsOver, Waiting, StreamsWait}
use Rattle.schedule_laws.specs.Lemmas.AdapterNames.{other_is}
use Rattle.schedule_laws.specs.Lemmas.Found.{seen_at}
use Rattle.schedule_laws.specs.Lemmas.ProducedActs.{ActsKeep, chronicles_keep}
use Rattle.schedule_laws.specs.Lemmas.StreamActs.{ActCases, AfterAnswer, EventArrives, FrameSent, OneEvent, act_acts, answered_waits, streams_more}

-- ---- events of a device

abbrev pub HasActed : List ReportedEvent → ℕ → Type 0
HasActed events device = events_of device events ≢ []

fewer_step : (b : Bool) (x : ReportedEvent) (all some : List ReportedEvent) → (map event_reported all ≡ [] → map event_reported some ≡ []) → map event_reported (cond b (x ∷ all) all) ≡ [] → map event_reported (cond b (x ∷ some) some) ≡ []
fewer_step true x all some on none = absurd (let e = none in cc)
fewer_step false x all some on none = on none

fewer : (device : ℕ) (events more : List ReportedEvent) → events_of device (events ++ more) ≡ [] → events_of device events ≡ []
fewer device [] more none = refl
fewer device (x ∷ events) more none = fewer_step (is_of device x) x (filter (is_of device) (events ++ more)) (filter (is_of device) events) (fewer device events more) none

acted_later : (events more : List ReportedEvent) (device : ℕ) → HasActed events device → HasActed (events ++ more) device
acted_later events more device acted = λ none. acted (fewer device events more none)

rest_step : (b : Bool) (x : ReportedEvent) (rest : List ReportedEvent) → map event_reported (cond b (x ∷ rest) rest) ≡ [] → map event_reported rest ≡ []
rest_step true x rest none = absurd (let e = none in cc)
rest_step false x rest none = none

last_step : (b : Bool) (x : ReportedEvent) → b ≡ true → map event_reported (cond b (x ∷ []) []) ≡ [] → ⊥
last_step true x is none = absurd (let e = none in cc)
last_step false x is none = absurd (let e = is in cc)

acted_now : (events : List ReportedEvent) (reported : ReportedEvent) → HasActed (events ++ reported ∷ []) reported.device
acted_now [] reported = λ none. last_step (reported.device == reported.device) reported (number_same reported.device) none
acted_now (x ∷ events) reported = λ none. acted_now events reported (rest_step (is_of reported.device x) x (filter (is_of reported.device) (events ++ reported ∷ [])) none)

-- ---- what holds

abbrev Acted : List ReportedEvent → Waiting
Acted events giver taker bytes = HasActed events giver

-- both devices of an entry
pub record BothActed (events : List ReportedEvent) (e : Opened) : Type 0 where
  pub row : HasActed events e.row.device
  pub slot : HasActed events e.slot.device

pub record ActedIn (c : Chronicle) : Type 0 where
  pub opened : AllByRecursion (BothActed c.story.reported) c.opened
  pub streams : StreamsWait (Acted c.story.reported) c.story.world.streams

both_later : (events more : List ReportedEvent) (opened : List Opened) → AllByRecursion (BothActed events) opened → AllByRecursion (BothActed (events ++ more)) opened
both_later events more opened all =
    all_more (BothActed events) (BothActed (events ++ more)) (λ e is. record { row = acted_later events more e.row.device is.row; slot = acted_later events more e.slot.device is.slot }) opened all

-- ---- what an event opens

-- the devices of what is opened: the event's, and the one at the other end of the stream
record IsOf (device other : ℕ) (e : Opened) : Type 0 where
  row : e.row.device ≡ device
  slot : e.slot.device ≡ other

opens_of : (device : ℕ) (row : Option Row) (s : Stream) (reading : Result MessageFields EncapFault) → AllByRecursion (IsOf device (other_end device s)) (opened_for device row (requester device (Some s) reading))
opens_of device None s reading = tt
opens_of device (Some row) s (Err fault) = tt
opens_of device (Some row) s (Ok m) = (record { row = refl; slot = refl }, tt)

frame_of : (w : World) (device other n : ℕ) (row : Option Row) (reading : Result MessageFields EncapFault) → IsOver w device other n → AllByRecursion (IsOf device other) (opened_for device row (requester device (slice_get w.streams n) reading))
frame_of w device other n row reading over =
    let seen = seen_at ends_of w.streams n over.ends over.there in
    let s = seen.element in
    let apart : s.from ≢ s.to = λ e. over.apart (sym (ap (λ (x : Ends). x.from) seen.is) ∙ e ∙ ap (λ (x : Ends). x.to) seen.is) in
    let end : other_end device s ≡ other = other_is device other s (subst (λ (e : Ends). IsBetween e device other) (sym seen.is) over.between) apart in
    subst (λ (o : Option Stream). AllByRecursion (IsOf device other) (opened_for device row (requester device o reading))) (sym seen.there)
    (subst (λ (d : ℕ). AllByRecursion (IsOf device d) (opened_for device row (requester device (Some s) reading))) end (opens_of device row s reading))

event_opens : (w : World) (events : List ReportedEvent) (reported : ReportedEvent) (t : DeviceTable) (happens : Event) (next : DeviceTable) → EventArrives (Acted events) w reported.device happens → AllByRecursion (BothActed (events ++ reported ∷ [])) (frame_opens w reported.device t happens next)
event_opens w events reported (Adapter t) (event.Frame n bytes) next comes =
    all_more (IsOf reported.device comes.other) (BothActed (events ++ reported ∷ []))
    (λ e is. record {
      row = subst (HasActed (events ++ reported ∷ [])) (sym is.row) (acted_now events reported);
      slot = subst (HasActed (events ++ reported ∷ [])) (sym is.slot) (acted_later events (reported ∷ []) comes.other comes.holds);
    })
    (frame_opens w reported.device (Adapter t) (event.Frame n bytes) next) (frame_of w reported.device comes.other n (new_row t next) (message_reading bytes) comes.over)
event_opens w events reported (Adapter t) other next comes = tt
event_opens w events reported (Scanner t) other next comes = tt

-- ---- an act

own_frames : (events : List ReportedEvent) (reported : ReportedEvent) (ends : List Ends) (frames : List Frame) → AllByRecursion (FrameSent (Acted (events ++ reported ∷ [])) ends reported.device) frames
own_frames events reported ends [] = tt
own_frames events reported ends (frame ∷ frames) = (
  (λ n e to at. record {
    forth = λ is. subst (HasActed (events ++ reported ∷ [])) (sym is) (acted_now events reported);
    back = λ is. subst (HasActed (events ++ reported ∷ [])) (sym is) (acted_now events reported);
  }),
  own_frames events reported ends frames,
)

event_acted : (c : Chronicle) (reported : ReportedEvent) (new : World) (next : DeviceTable) → (m : OneEvent (Acted c.story.reported) c.story.world reported new) → ActedIn c → AllByRecursion (BothActed (c.story.reported ++ reported ∷ [])) (c.opened ++ frame_opens c.story.world reported.device m.before reported.event next) × StreamsWait (Acted (c.story.reported ++ reported ∷ [])) new.streams
event_acted c reported new next m at =
    let events = c.story.reported in
    let streams : new.streams ≡ answered reported.device reported.answer m.streams = ap (λ (x : World). x.streams) m.leaves in
    let waits = streams_more (Acted c.story.reported) (Acted (c.story.reported ++ reported ∷ [])) (λ giver taker bytes is. acted_later c.story.reported (reported ∷ []) giver is) m.streams m.waits in
    let sent : AfterAnswer (Acted (c.story.reported ++ reported ∷ [])) m.streams (answered reported.device reported.answer m.streams) =
    answered_waits (Acted (c.story.reported ++ reported ∷ [])) reported.device reported.answer m.streams (own_frames c.story.reported reported (map ends_of m.streams) reported.answer.frames) waits in (
      all_both (BothActed (events ++ reported ∷ [])) c.opened (frame_opens c.story.world reported.device m.before reported.event next)
          (both_later events (reported ∷ []) c.opened at.opened) (event_opens c.story.world events reported m.before reported.event next m.event),
      subst (StreamsWait (Acted (c.story.reported ++ reported ∷ []))) (sym streams) sent.waits,
    )

by_act : (c : Chronicle) (act : Act) (said : Happened) → IfOk said (ActCases (Acted c.story.reported) c.story.world) → ActedIn c → IfOk (recorded c act said) ActedIn
by_act c act (Err fault) acts at = tt
by_act c act (Ok (None, new)) acts at = record { opened = at.opened; streams = acts.waits }
by_act c act (Ok (Some reported, new)) acts at =
    let both = event_acted c reported new (table_of acts.before (step acts.before reported.event)) acts at in
    subst (λ (o : Option DeviceTable). ActedIn (with_event_at c act reported new o)) (sym acts.is) (record { opened = both.0; streams = both.1 })

acted_keep : ActsKeep ActedIn
acted_keep c act at = by_act c act (happens c.story.world act) (act_acts (Acted c.story.reported) c.story.world act at.streams) at

pub schedule_acted : (configs : List Config) (acts : List Act) (c : Chronicle) → IsChronicle configs acts c → ActedIn c
schedule_acted configs acts c is =
    subst (λ (r : Result Chronicle ActFault). IfOk r ActedIn) is.ran
    (chronicles_keep ActedIn acted_keep acts (Ok (blank (opening_world configs))) (record { opened = tt; streams = tt }))
