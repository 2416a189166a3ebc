-- Over every schedule devices keep their addresses, and the open streams of their tables stand in the world.
use Rattle.std.proofs.Common.{◌≡◌, ℕ, List, slice_get, Option, Some, None, Result, Ok, Err, IfOk, refl, ◌∙◌, subst}
use Rattle.std.specs.List.{Contains}
use Rattle.cip_types.specs.declared.names.Node.{Node}
use Rattle.adapter_table.specs.declared.table.AdapterTable.{AdapterTable}
use Rattle.adapter_table.specs.declared.table.Stream.{Stream}
use Rattle.scanner_table.specs.declared.table.ScannerTable.{ScannerTable}
use Rattle.scanner_table.specs.declared.table.TargetStream.{TargetStream}
use Rattle.cip_tables.specs.declared.table.Config.{Config}
use Rattle.cip_tables.specs.declared.table.DeviceTable.{DeviceTable}
use Rattle.cip_tables.specs.declared.table.DeviceTable.TheVariants.{Adapter, Scanner}
use Rattle.segment_world.specs.declared.act.Act.{Act}
use Rattle.segment_world.specs.declared.act.ActFault.{ActFault}
use Rattle.segment_world.specs.Configs.{opening_world}
use Rattle.segment_world.specs.World.{World, ReportedEvent, Happened, happens}
use Rattle.device_laws.specs.Made.{AnswersSendWhatIsMade}
use Rattle.schedule_laws.specs.Ids.{SchedulesKeepIdsDrawn, OpeningWorldsHaveIdsDrawn}
use Rattle.schedule_laws.specs.Chronicle.{Chronicle, with_event_at, recorded, blank}
use Rattle.schedule_laws.specs.Devices.{SchedulesKeepDevices}
use Rattle.schedule_laws.specs.MadeOnce.{AnIdOpensOneConnection}
use Rattle.schedule_laws.specs.Streams.{IsOpenTo}
use Rattle.schedule_laws.specs.Order.{IsChronicle}
use Rattle.schedule_laws.specs.Lemmas.Addresses.{own_node, tables_differ}
use Rattle.schedule_laws.specs.Lemmas.Entries.{IsKnown, IsKnownTo, AdapterIsNamed, ScannerIsNamed}
use Rattle.schedule_laws.specs.Lemmas.Found.{all_contains}
use Rattle.schedule_laws.specs.Lemmas.NameActs.{NameLaws}
use Rattle.schedule_laws.specs.Lemmas.OpeningActs.{schedule_openings}
use Rattle.schedule_laws.specs.Lemmas.ProducedActs.{ActsKeep, chronicles_keep}
use Rattle.schedule_laws.specs.Lemmas.SentTexts.{nodes_stay}

-- ---- addresses

abbrev HasNodes : List Node → Chronicle → Type 0
HasNodes nodes c = c.story.world.nodes ≡ nodes

event_nodes : (nodes : List Node) (c : Chronicle) (act : Act) (reported : ReportedEvent) (new : World) (found : Option DeviceTable) → new.nodes ≡ nodes → HasNodes nodes (with_event_at c act reported new found)
event_nodes nodes c act reported new None is = is
event_nodes nodes c act reported new (Some t) is = is

act_nodes : (nodes : List Node) (c : Chronicle) (act : Act) (said : Happened) → IfOk said (λ done. done.1.nodes ≡ c.story.world.nodes) → HasNodes nodes c → IfOk (recorded c act said) (HasNodes nodes)
act_nodes nodes c act (Err why) stays is = tt
act_nodes nodes c act (Ok (None, new)) stays is = stays ∙ is
act_nodes nodes c act (Ok (Some reported, new)) stays is = event_nodes nodes c act reported new (slice_get c.story.world.tables reported.device) (stays ∙ is)

nodes_keep : (nodes : List Node) → ActsKeep (HasNodes nodes)
nodes_keep nodes c act is = act_nodes nodes c act (happens c.story.world act) (nodes_stay c.story.world act) is

nodes_same : (configs : List Config) (acts : List Act) (c : Chronicle) → IsChronicle configs acts c → c.story.world.nodes ≡ (opening_world configs).nodes
nodes_same configs acts c is =
    subst (λ (r : Result Chronicle ActFault). IfOk r (HasNodes (opening_world configs).nodes)) is.ran
    (chronicles_keep (HasNodes (opening_world configs).nodes) (nodes_keep (opening_world configs).nodes) acts (Ok (blank (opening_world configs))) refl)

-- ---- streams

pub devices_stand : AnswersSendWhatIsMade → SchedulesKeepIdsDrawn → OpeningWorldsHaveIdsDrawn → AnIdOpensOneConnection → NameLaws → SchedulesKeepDevices
devices_stand sends keep opens once laws configs acts c is =
    let all = schedule_openings sends keep opens once laws configs acts c is in
    let openings = all.openings in
    let named = openings.named in
    record {
      nodes = record {
        nodes = nodes_same configs acts c is;
        own = λ device t at. own_node c.story.world c.produced device t openings.nodes at;
        differ = λ once a b t u at_a at_b same. tables_differ configs c.story.world c.produced a b t u once (nodes_same configs acts c is) openings.nodes at_a at_b same;
      };
      streams = record {
        adapters = λ device t s at there. of_adapter device t s (named.tables device (Adapter t) at) there;
        scanners = λ device t s at there. of_scanner device t s (named.tables device (Scanner t) at) there;
      };
    }
  where
    of_adapter : (device : ℕ) (t : AdapterTable) (s : Stream) → AdapterIsNamed c.story.world c.opened device t → Contains t.streams s → IsOpenTo c.story.world device s.number s.peer
    of_adapter device t s named there = all_contains (IsKnown c.story.world device) t.streams s named.streams there

    of_scanner : (device : ℕ) (t : ScannerTable) (s : TargetStream) → ScannerIsNamed c.story.world c.opened device t → Contains t.streams s → IsOpenTo c.story.world device s.number s.peer
    of_scanner device t s named there = all_contains (IsKnownTo c.story.world device) t.streams s named.streams there
