-- Two adapters on a segment, and what acts say and leave.
use Rattle.std.specs.Prelude.{ℕ, Bool, true, false, List, [], ◌∷◌, Option, Some, None, Result, Ok, Err}
use Rattle.cip_types.specs.declared.names.Node.{Node}
use Rattle.cip_events.specs.declared.event.Answer.{Answer}
use Rattle.cip_events.specs.declared.event.Event.{Event}
use Rattle.cip_events.specs.declared.event.Verdict.{Verdict}
use Rattle.cip_events.specs.declared.event.Verdict.TheVariants.{Done}
use Rattle.adapter_table.specs.declared.profile.Profile.{Profile}
use Rattle.cip_tables.specs.declared.table.Config.TheVariants as config
use Rattle.cip_tables.specs.declared.table.DeviceTable.{DeviceTable}
use Rattle.segment_world.specs.Transit.Streams.{QueueItem, Side, Stream}
use Rattle.segment_world.specs.declared.act.Act.{Act}
use Rattle.segment_world.specs.declared.act.ActFault.{ActFault}
use Rattle.segment_world.specs.World.{World, ReportedEvent, Happened, happens}
use Rattle.segment_world.specs.Configs.{opening_world}
use Rattle.samples.specs.Devices.{common, other}

-- ---- worlds

-- an adapter like the common one, at 192.168.1.21
abbrev pub neighbour : Profile
neighbour = record common { incarnation = 0x11; node = other }

-- where the common one is: 192.168.1.10
abbrev pub home : Node
home = common.node

-- the common adapter at place 0, its neighbour at place 1
abbrev pub two : World
two = opening_world (config.Adapter common ∷ config.Adapter neighbour ∷ [])

-- the same devices with these tables
abbrev pub with_tables : DeviceTable → DeviceTable → World
with_tables first second = record two { tables = first ∷ second ∷ [] }

-- ---- streams

-- an end that has taken the mark that the stream opens, and one that has not, with what waits for each
abbrev pub knowing : List QueueItem → Side
knowing queue = record { taken = true; queue = queue }

abbrev pub unknowing : List QueueItem → Side
unknowing queue = record { taken = false; queue = queue }

-- a stream from the first device to the second, with what waits for the second and for the first
abbrev pub stream : Bool → Side → Side → Stream
stream ended forth back = record { from = 0; to = 1; ended = ended; forth = forth; back = back }

abbrev pub living : Side → Side → Stream
living forth back = stream false forth back

abbrev pub ended : Side → Side → Stream
ended forth back = stream true forth back

-- the world with one stream
abbrev pub over : Stream → World → World
over s w = record w { streams = s ∷ [] }

-- ---- acts

-- what an act says: its event, if it is one, or its fault
abbrev pub Saying : Type 0
Saying = Result (Option ReportedEvent) ActFault

abbrev pub said : Happened → Saying
said (Ok done) = Ok done.0
said (Err fault) = Err fault

-- an act with a fault leaves the world
abbrev pub left : World → Happened → World
left w (Ok done) = done.1
left w (Err fault) = w

-- the world after acts
abbrev pub after : World → List Act → World
after w [] = w
after w (act ∷ acts) = after (left w (happens w act)) acts

-- what acts say, one after another
abbrev pub says : World → List Act → List Saying
says w [] = []
says w (act ∷ acts) = said (happens w act) ∷ says (left w (happens w act)) acts

-- ---- sayings

-- the act is no event of a device
abbrev pub nothing : Saying
nothing = Ok None

abbrev pub reports : ℕ → Event → Answer → Saying
reports device event answer = Ok (Some (record { device = device; event = event; answer = answer }))

-- nothing but a verdict
abbrev pub plainly : Verdict → Answer
plainly verdict = record { frames = []; datagrams = []; verdict = verdict; notices = [] }

-- the event comes to a device that says nothing
abbrev pub takes : ℕ → Event → Saying
takes device event = reports device event (plainly Done)
