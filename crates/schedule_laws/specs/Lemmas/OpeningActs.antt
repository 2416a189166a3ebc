-- Over every schedule ids name openings, and what an adapter accepts through a connection is of the connection's opening.
use Rattle.std.proofs.Common.{◌≡◌, ◌∙◌, ℕ, zero, suc, List, [], ◌∷◌, ◌++◌, map, set, slice_get, Option, Some, None, Result, Ok, Err, IfOk, refl, sym, ap, subst, append-nil}
use Rattle.std.specs.List.{AllByRecursion, Contains}
use Rattle.std.proofs.lemmas.List.Elements.{Contains-append_left}
use Rattle.std.proofs.lemmas.Option.{same_Some}
use Rattle.adapter_table.specs.declared.table.AdapterTable.{AdapterTable}
use Rattle.scanner_table.specs.declared.profile.SlotConfig.{SlotConfig}
use Rattle.scanner_table.specs.declared.table.ScannerTable.{ScannerTable}
use Rattle.scanner_table.specs.Slots.{indexed_from, indexed_slots}
use Rattle.scanner_table.specs.Step.{fresh_slot}
use Rattle.cip_tables.specs.declared.table.Config.{Config}
use Rattle.cip_tables.specs.declared.table.Config.TheVariants as config
use Rattle.cip_tables.specs.declared.table.DeviceTable.{DeviceTable}
use Rattle.cip_tables.specs.declared.table.DeviceTable.TheVariants.{Adapter, Scanner}
use Rattle.cip_tables.specs.Run.{table_of}
use Rattle.cip_tables.specs.Step.{opening_table, step}
use Rattle.segment_world.specs.declared.act.Act.{Act}
use Rattle.segment_world.specs.declared.act.ActFault.{ActFault}
use Rattle.segment_world.specs.Configs.{opening_world}
use Rattle.segment_world.specs.World.{World, ReportedEvent, Happened, happens}
use Rattle.device_laws.specs.Lemmas.Lists.{all_more}
use Rattle.device_laws.specs.Made.{Made, AnswersSendWhatIsMade, makes}
use Rattle.device_laws.specs.Productions.{Production, numbered, produced_more}
use Rattle.schedule_laws.specs.Ids.{AreDrawnApart, SchedulesKeepIdsDrawn, OpeningWorldsHaveIdsDrawn}
use Rattle.schedule_laws.specs.Lives.{AreApart}
use Rattle.schedule_laws.specs.Chronicle.{Opened, frame_opens, Acceptance, accepted_by_act, Chronicle, with_event, with_event_at, recorded, blank}
use Rattle.schedule_laws.specs.MadeOnce.{AnIdOpensOneConnection}
use Rattle.schedule_laws.specs.Names.{HasEntry, SlotHasEntry, SlotAcceptsByEntry, WasProduced, SchedulesNameOpenings, IsOfItsOpening, SchedulesAcceptOneOpening, IsEntry, IsOpenedFor, ProductionHasEntry, AnIdNamesOneOpening}
use Rattle.schedule_laws.specs.Order.{IsChronicle}
use Rattle.schedule_laws.specs.Lemmas.AcceptedOpenings.{IsAccepted, AreOfOpenings, openings_later, event_of_opening, entries_same}
use Rattle.schedule_laws.specs.Lemmas.Entries.{Later, same_later, Waits, AdapterIsNamed, ScannerIsNamed, TableIsNamed}
use Rattle.schedule_laws.specs.Lemmas.Found.{all_contains}
use Rattle.schedule_laws.specs.Lemmas.NameActs.{NamedAt, NameLaws, streams_named, event_later, event_named}
use Rattle.schedule_laws.specs.Lemmas.Addresses.{HaveNodes, nodes_later, nodes_more, opening_nodes}
use Rattle.schedule_laws.specs.Lemmas.Acts.{Reached, WhereApart, nothing_yet, reached_after}
use Rattle.schedule_laws.specs.Lemmas.OneProducer.{OpenedOnce, opened_once}
use Rattle.schedule_laws.specs.Lemmas.Beginning.{blank_produced, schedule_produced}
use Rattle.schedule_laws.specs.Lemmas.ProducedActs.{ApartActsKeep, apart_keeps, chronicles_keep, cases_keep, Produced, produced_cases}
use Rattle.schedule_laws.specs.Lemmas.StreamActs.{StreamsOnly, OneEvent, ActCases, act_acts}
use Rattle.schedule_laws.specs.Lemmas.Tests.{apart_before}

-- ---- what holds at each moment

pub record OpeningsAt (w : World) (opened : List Opened) (produced : List Production) (accepted : List Acceptance) : Type 0 where
  pub named : NamedAt w opened produced
  pub nodes : HaveNodes w produced
  pub of_openings : AreOfOpenings w opened produced accepted

pub record OpeningsIn (c : Chronicle) : Type 0 where
  pub configs : List Config
  pub reached : Reached configs c
  pub produced : Produced c
  pub openings : OpeningsAt c.story.world c.opened c.produced c.accepted

streams_openings : (w new : World) (opened : List Opened) (produced : List Production) (accepted : List Acceptance) → StreamsOnly (Waits w opened) w new → OpeningsAt w opened produced accepted → OpeningsAt new opened produced accepted
streams_openings w new opened produced accepted passes at =
    let later = same_later w new passes.tables passes.nodes passes.ends in
    record {
      named = streams_named w new opened produced passes at.named;
      nodes = nodes_later w new produced later at.nodes;
      of_openings = subst (λ (l : List Opened). AreOfOpenings new l produced accepted) (append-nil opened) (openings_later w new opened [] produced produced accepted later (λ p there. there) at.of_openings);
    }

device_after : (w new : World) (device : ℕ) (t : DeviceTable) → Later w new → slice_get w.tables device ≡ Some t → (u : DeviceTable) × (slice_get new.tables device ≡ Some u)
device_after w new device t later at = let after = later.tables device t at in (after.table, after.there)

pub grows : (device : ℕ) (ms : List Made) (produced : List Production) (p : Production) → Contains produced p → Contains (produced_more device produced ms) p
grows device [] produced p there = there
grows device (m ∷ ms) produced p there = grows device ms (produced ++ numbered device produced m ∷ []) p (Contains-append_left produced (numbered device produced m ∷ []) p there)

event_openings : NameLaws → (c : Chronicle) (act : Act) (reported : ReportedEvent) (new : World) → happens c.story.world act ≡ Ok (Some reported, new) → (m : OneEvent (Waits c.story.world c.opened) c.story.world reported new) → Produced c → OpenedOnce c.story.world c.opened → AreDrawnApart new → OpeningsAt c.story.world c.opened c.produced c.accepted → OpeningsAt new (c.opened ++ frame_opens c.story.world reported.device m.before reported.event m.after) (produced_more reported.device c.produced (makes m.before reported.event)) (accepted_by_act c.story.world c.produced act reported.answer.verdict ++ c.accepted)
event_openings laws c act reported new is m ok once next_drawn at =
    let w = c.story.world in
    let later = event_later laws.steps (Waits c.story.world c.opened) c.story.world new reported m in
    let there = device_after c.story.world new reported.device m.before later m.is in
    let tables : new.tables ≡ set c.story.world.tables reported.device m.after = ap (λ (x : World). x.tables) m.leaves in
    let blocks = laws.steps.blocks m.before reported.event (reported.answer, m.after) m.stepped in
    let drawn : AreDrawnApart c.story.world = record { ids = ok.drawn; apart = apart_before c.story.world.tables reported.device m.before m.after m.is blocks (subst AreApart tables next_drawn.apart) } in
    record {
      named = event_named laws c.story.world new c.opened c.produced reported m ok.drawn next_drawn at.named;
      nodes = nodes_more new reported.device (makes m.before reported.event) c.produced (record { table = there.0; is = there.1 }) (nodes_later c.story.world new c.produced later at.nodes);
      of_openings = event_of_opening c.story.world new c.opened (frame_opens c.story.world reported.device m.before reported.event m.after) c.produced (produced_more reported.device c.produced (makes m.before reported.event)) c.accepted act reported m.before is m.is ok.sent at.named at.nodes once drawn later
          (grows reported.device (makes m.before reported.event) c.produced) at.of_openings;
    }

pub after_is : (t : DeviceTable) (reported : ReportedEvent) (u : DeviceTable) → step t reported.event ≡ Ok (reported.answer, u) → table_of t (step t reported.event) ≡ u
after_is t reported u is = ap (table_of t) is

-- ---- an act

by_act : NameLaws → (configs : List Config) (c : Chronicle) (act : Act) (said : Happened) → happens c.story.world act ≡ said → IfOk said (ActCases (Waits c.story.world c.opened) c.story.world) → Produced c → OpenedOnce c.story.world c.opened → IfOk (recorded c act said) (WhereApart (Reached configs)) → IfOk (recorded c act said) Produced → OpeningsAt c.story.world c.opened c.produced c.accepted → IfOk (recorded c act said) (WhereApart OpeningsIn)
by_act laws configs c act (Err fault) is acts ok once reached next at = tt
by_act laws configs c act (Ok (None, new)) is acts ok once reached next at = λ apart. record { configs = configs; reached = reached apart; produced = next; openings = streams_openings c.story.world new c.opened c.produced c.accepted acts at }
by_act laws configs c act (Ok (Some reported, new)) is acts ok once reached next at =
    let same : slice_get c.story.world.tables reported.device ≡ Some acts.before = acts.is in
    let produced : Produced (with_event c act reported new acts.before) = subst (λ (o : Option DeviceTable). Produced (with_event_at c act reported new o)) same next in
    let goes : WhereApart (Reached configs) (with_event c act reported new acts.before) = subst (λ (o : Option DeviceTable). WhereApart (Reached configs) (with_event_at c act reported new o)) same reached in
    subst (λ (o : Option DeviceTable). WhereApart OpeningsIn (with_event_at c act reported new o)) (sym same)
    (λ apart. record {
      configs = configs;
      reached = goes apart;
      produced = produced;
      openings = subst (λ (u : DeviceTable). OpeningsAt new (c.opened ++ frame_opens c.story.world reported.device acts.before reported.event u) (produced_more reported.device c.produced (makes acts.before reported.event)) (accepted_by_act c.story.world c.produced act reported.answer.verdict ++ c.accepted))
          (sym (after_is acts.before reported acts.after acts.stepped))
          (event_openings laws c act reported new is acts ok once (record { ids = produced.drawn; apart = apart }) at);
    })

-- an id of a scanner has opened one connection at this moment
once_at : AnIdOpensOneConnection → (configs : List Config) (c : Chronicle) → Reached configs c → OpenedOnce c.story.world c.opened
once_at once configs c at = opened_once c (once configs at.acts c at.is)

pub acts_keep : AnswersSendWhatIsMade → SchedulesKeepIdsDrawn → AnIdOpensOneConnection → NameLaws → ApartActsKeep OpeningsIn
acts_keep sends keep once laws c act at =
    let openings = at.openings in
    let named = openings.named in
    by_act laws at.configs c act (happens c.story.world act) refl (act_acts (Waits c.story.world c.opened) c.story.world act named.streams) at.produced
    (once_at once at.configs c at.reached) (reached_after at.configs c act at.reached)
    (cases_keep Produced (produced_cases sends keep) c act at.produced) at.openings

-- ---- at the beginning

fresh_slots : (w : World) (device n : ℕ) (configs : List SlotConfig) → AllByRecursion (SlotHasEntry w [] device) (indexed_from n configs (map fresh_slot configs))
fresh_slots w device n [] = tt
fresh_slots w device n (slot ∷ configs) = (tt, fresh_slots w device (suc n) configs)

fresh_named : (w : World) (device : ℕ) (made : Config) → TableIsNamed w [] device (opening_table made)
fresh_named w device (config.Adapter profile) = record { rows = tt; streams = tt }
fresh_named w device (config.Scanner profile) = record { slots = fresh_slots w device 0 profile.slots; streams = tt }

all_fresh : (w : World) (configs : List Config) (n device : ℕ) (t : DeviceTable) → slice_get (map opening_table configs) n ≡ Some t → TableIsNamed w [] device t
all_fresh w [] n device t at = absurd (let e = at in cc)
all_fresh w (made ∷ configs) zero device t at = subst (TableIsNamed w [] device) (same_Some (opening_table made) t at) (fresh_named w device made)
all_fresh w (made ∷ configs) (suc n) device t at = all_fresh w configs n device t at

pub schedule_openings : AnswersSendWhatIsMade → SchedulesKeepIdsDrawn → OpeningWorldsHaveIdsDrawn → AnIdOpensOneConnection → NameLaws → (configs : List Config) (acts : List Act) (c : Chronicle) → IsChronicle configs acts c → OpeningsIn c
schedule_openings sends keep opens once laws configs acts c is =
    let held : WhereApart OpeningsIn c = subst (λ (r : Result Chronicle ActFault). IfOk r (WhereApart OpeningsIn)) is.ran
    (chronicles_keep (WhereApart OpeningsIn) (apart_keeps laws.steps.blocks OpeningsIn (acts_keep sends keep once laws)) acts (Ok (blank (opening_world configs)))
    (λ apart. record {
      configs = configs;
      reached = record { acts = []; is = nothing_yet configs acts c is apart };
      produced = blank_produced opens configs acts c is;
      openings = record {
        named = record { entries = tt; apart = tt; tables = λ device t at. all_fresh (opening_world configs) configs device device t at; productions = tt; producers = tt; streams = tt };
        nodes = opening_nodes configs;
        of_openings = tt;
      };
    })) in
    held is.apart

-- ---- the laws

pub schedules_name : AnswersSendWhatIsMade → SchedulesKeepIdsDrawn → OpeningWorldsHaveIdsDrawn → AnIdOpensOneConnection → NameLaws → SchedulesNameOpenings
schedules_name sends keep opens once laws configs acts c is =
    let all = schedule_openings sends keep opens once laws configs acts c is in
    let known = all.openings in
    let named = known.named in
    record {
      entries = named.entries;
      rows = λ device t at. rows_of device t (named.tables device (Adapter t) at);
      slots = λ device t at. slots_of device t (named.tables device (Scanner t) at);
      productions = named.productions;
      producers = named.producers;
      accepted = all_more (IsAccepted c.story.world c.opened c.produced) (SlotAcceptsByEntry c.story.world c.opened) (λ a is. is.of_entry) c.accepted known.of_openings;
      were_produced = all_more (IsAccepted c.story.world c.opened c.produced) (WasProduced c.produced) (λ a is. is.was_produced) c.accepted known.of_openings;
      openings = λ a t there at. accepted_of a t known.of_openings there at;
    }
  where
    slots_of : (device : ℕ) (t : ScannerTable) → ScannerIsNamed c.story.world c.opened device t → AllByRecursion (SlotHasEntry c.story.world c.opened device) (indexed_slots t)
    slots_of device t is = is.slots

    accepted_of : (a : Acceptance) (t : AdapterTable) → AreOfOpenings c.story.world c.opened c.produced c.accepted → Contains c.accepted a → slice_get c.story.world.tables a.consumer.device ≡ Some (Adapter t) → IsOfItsOpening c.opened a
    accepted_of a t all there at =
        let accepted : IsAccepted c.story.world c.opened c.produced a = all_contains (IsAccepted c.story.world c.opened c.produced) c.accepted a all there in
        accepted.of_opening (record { table = t; is = at })

    rows_of : (device : ℕ) (t : AdapterTable) → AdapterIsNamed c.story.world c.opened device t → AllByRecursion (HasEntry c.story.world c.opened device) t.rows
    rows_of device t is = is.rows

pub schedules_accept : SchedulesNameOpenings → SchedulesAcceptOneOpening
schedules_accept names configs acts c is = let named = names configs acts c is in named.openings

pub one_opening_has_it : SchedulesKeepIdsDrawn → OpeningWorldsHaveIdsDrawn → AnswersSendWhatIsMade → SchedulesNameOpenings → AnIdNamesOneOpening
one_opening_has_it keep opens sends names configs acts c is p q one two first second same =
    let w = c.story.world in
    let produced = schedule_produced sends keep opens configs acts c is in
    let named = names configs acts c is in
    let e : IsOpenedFor c.opened p.producer p.made.datagram.connection = all_contains (ProductionHasEntry w c.opened) c.produced p named.productions one first in
    let f : IsOpenedFor c.opened q.producer q.made.datagram.connection = all_contains (ProductionHasEntry w c.opened) c.produced q named.productions two second in
    let entry : IsEntry w c.opened e.entry = all_contains (IsEntry w c.opened) c.opened e.entry named.entries e.there in
    let other : IsEntry w c.opened f.entry = all_contains (IsEntry w c.opened) c.opened f.entry named.entries f.there in
    let equal = entries_same w c.opened e.entry f.entry (record { ids = produced.drawn; apart = is.apart }) entry other (e.o_t_is ∙ same ∙ sym f.o_t_is) in
    sym e.slot_is ∙ ap (λ (x : Opened). x.slot) equal ∙ f.slot_is
