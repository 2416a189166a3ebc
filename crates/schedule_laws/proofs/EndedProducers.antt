-- A producer without a connection never has one again: no connection is opened with it later.
use Rattle.std.proofs.Common.{◌≡◌, ◌≢◌, ◌<◌, inl, inr, ℕ, ◌==◌, Bool, true, false, List, ◌++◌, find, set, slice_get, Option, Some, None, Ok, Err, IfOk, refl, sym, ◌∙◌, ap, subst, arith, eqb-true, eq-eqb}
use Rattle.std.specs.List.{AllByRecursion, Contains}
use Rattle.std.proofs.lemmas.Option.{same_Some}
use Rattle.std.proofs.lemmas.Bool.{eqb-false}
use Rattle.base_lemmas.specs.Lists.{set_own, found_passes, set_other}
use Rattle.cip_encap.specs.Reading.{message_reading}
use Rattle.cip_events.specs.declared.event.Answer.{Answer}
use Rattle.cip_events.specs.declared.event.Event.{Event}
use Rattle.cip_events.specs.declared.event.Event.TheVariants as event
use Rattle.cip_fwdopen.specs.Open.{OpenFields}
use Rattle.adapter_table.specs.Connections.{Row}
use Rattle.adapter_table.specs.declared.row.State.{State}
use Rattle.adapter_table.specs.declared.row.State.TheVariants.{Established, TimedOut}
use Rattle.adapter_table.specs.declared.table.AdapterTable.{AdapterTable}
use Rattle.adapter_table.specs.Newest.{was_opened_as}
use Rattle.adapter_table.specs.Productions.{producer_of, has_number, is_produced_by}
use Rattle.adapter_table.specs.Rows.{lives}
use Rattle.adapter_table.specs.Sound.{IdsAreDrawn as RowIdsAreDrawn}
use Rattle.adapter_table.specs.Step.{adapter_step}
use Rattle.cip_tables.specs.declared.table.DeviceTable.{DeviceTable}
use Rattle.cip_tables.specs.declared.table.DeviceTable.TheVariants.{Adapter, Scanner}
use Rattle.cip_tables.specs.Run.{table_of}
use Rattle.cip_tables.specs.Step.{step}
use Rattle.segment_world.specs.declared.act.Act.{Act}
use Rattle.segment_world.specs.World.{World, ReportedEvent, Happened, happens}
use Rattle.device_laws.specs.Lemmas.Lists.{all_both, all_more}
use Rattle.device_laws.specs.RowIds.{IsSameRow, IsProduced, RowCame}
use Rattle.schedule_laws.specs.Ids.{IdsAreDrawn}
use Rattle.device_laws.specs.Productions.{End, end_at}
use Rattle.schedule_laws.specs.Chronicle.{Opened, opened_for, requester, frame_opens, Chronicle, with_event_at, recorded}
use Rattle.schedule_laws.specs.Lemmas.AdapterNames.{requested_by}
use Rattle.schedule_laws.specs.Lemmas.Entries.{DeviceStays, step_stays, Waits}
use Rattle.schedule_laws.specs.Lemmas.Found.{found_holds, all_contains}
use Rattle.schedule_laws.specs.Lemmas.NameActs.{NameLaws, adapter_result}
use Rattle.schedule_laws.specs.Lemmas.StreamActs.{EventArrives, OneEvent, ActCases}

-- ---- a connection and its producer

-- the connection is not established with this producer
abbrev pub IsNotBy : ℕ → Row → Type 0
IsNotBy n row = is_produced_by n row ≡ true → ⊥

state_is : (n : ℕ) (state : State) → lives state ≡ true → producer_of state ≡ n → has_number n state ≡ true
state_is n (Established p) living is = eq-eqb p.producer n is
state_is n TimedOut living is = absurd (let e = living in cc)

state_by : (n : ℕ) (state : State) → has_number n state ≡ true → (lives state ≡ true) × (producer_of state ≡ n)
state_by n (Established p) is = (refl, eqb-true p.producer n is)
state_by n TimedOut is = absurd (let e = is in cc)

still_not : (n : ℕ) (old row : Row) → IsSameRow old row → IsNotBy n old → IsNotBy n row
still_not n old row same none is =
    let s = state_by n row.state is in
    none (state_is n old.state (same.established s.0) (sym (same.producer s.0) ∙ s.1))

-- a new connection has a new producer, or that of an established connection
new_not : (t u : AdapterTable) (request : OpenFields) (row : Row) (n : ℕ) → AllByRecursion (IsNotBy n) t.rows → n < t.next_id → IsProduced t u request row → producer_of row.state ≡ n → ⊥
new_not t u request row n none past (inl joins) is =
    all_contains (IsNotBy n) t.rows joins.member none joins.there (state_is n joins.member.state joins.established (sym joins.producer ∙ is))
new_not t u request row n none past (inr (inl starts)) is = absurd (let e = starts.producer in omega (arith, past, e, is))
new_not t u request row n none past (inr (inr single)) is = absurd (let e = single.producer in omega (arith, past, e, is))

row_not : (w : World) (opened : List Opened) (device : ℕ) (t u : AdapterTable) (happens : Event) (row : Row) (n : ℕ) → AllByRecursion (IsNotBy n) t.rows → n < t.next_id → EventArrives (Waits w opened) w device happens → RowCame t u happens row → IsNotBy n row
row_not w opened device t u happens row n none past comes (inl was) = still_not n was.old row was.same (all_contains (IsNotBy n) t.rows was.old none was.there)
row_not w opened device t u (event.Request peer bytes) row n none past comes (inr new) = absurd comes
row_not w opened device t u (event.Frame k bytes) row n none past comes (inr new) = λ is. let s = state_by n row.state is in new_not t u new.request row n none past new.produced s.1
row_not w opened device t u other row n none past comes (inr new) = absurd new

-- ---- entries

-- an entry of the producer is one of these
abbrev pub IsOld : List Opened → End → Opened → Type 0
IsOld base producer e = e.producer ≡ producer → Contains base e

opened_old : (base : List Opened) (producer : End) (device : ℕ) (found : Option Row) (slot : Option End) → ((row : Row) → found ≡ Some row → end_at device (producer_of row.state) ≢ producer) → AllByRecursion (IsOld base producer) (opened_for device found slot)
opened_old base producer device None slot never = tt
opened_old base producer device (Some row) None never = tt
opened_old base producer device (Some row) (Some slot) never = ((λ same. absurd (never row refl same)), tt)

opens_old : (w : World) (base : List Opened) (producer : End) (device : ℕ) (t u : AdapterTable) (happens : Event) → RowIdsAreDrawn t.ids t.next_id t.rows → AllByRecursion (RowCame t u happens) u.rows → ((request : OpenFields) (row : Row) → IsProduced t u request row → end_at device (producer_of row.state) ≢ producer) → AllByRecursion (IsOld base producer) (frame_opens w device (Adapter t) happens (Adapter u))
opens_old w base producer device t u (event.Frame k bytes) drawn came never =
    opened_old base producer device (find (was_opened_as t.next_id) u.rows) (requester_of k bytes) new_data
  where
    requester_of : ℕ → List ℕ → Option End
    requester_of k bytes = requester device (slice_get w.streams k) (message_reading bytes)

    new_data : (row : Row) → find (was_opened_as t.next_id) u.rows ≡ Some row → end_at device (producer_of row.state) ≢ producer
    new_data row found =
        let new = requested_by t u k bytes row drawn (found_passes (was_opened_as t.next_id) u.rows row found) (found_holds (RowCame t u (event.Frame k bytes)) (was_opened_as t.next_id) u.rows row came found) in
        never new.request row new.produced
opens_old w base producer device t u other drawn came never = tt

-- ---- a producer that has ended

-- no connection of the adapter has it, its number was drawn, and each connection that was ever opened with it is one of these
pub record Ended (base : List Opened) (device n : ℕ) (w : World) (opened : List Opened) : Type 0 where
  pub table : AdapterTable
  pub there : slice_get w.tables device ≡ Some (Adapter table)
  pub past : n < table.next_id
  pub none : AllByRecursion (IsNotBy n) table.rows
  pub old : AllByRecursion (IsOld base (end_at device n)) opened

-- its own adapter's event
own_ended : NameLaws → (base : List Opened) (device n : ℕ) (w new : World) (opened : List Opened) (t : AdapterTable) (u : DeviceTable) (happens : Event) (answer : Answer) → IdsAreDrawn w → EventArrives (Waits w opened) w device happens → step (Adapter t) happens ≡ Ok (answer, u) → DeviceStays (Adapter t) u → slice_get w.tables device ≡ Some (Adapter t) → slice_get new.tables device ≡ Some u → n < t.next_id → AllByRecursion (IsNotBy n) t.rows → AllByRecursion (IsOld base (end_at device n)) opened → Ended base device n new (opened ++ frame_opens w device (Adapter t) happens u)
unfolding step
own_ended laws base device n w new opened t (Scanner u) happens answer drawn comes is stays at after past none old = absurd stays
own_ended laws base device n w new opened t (Adapter u) happens answer drawn comes is stays at after past none old =
    let whole = drawn.whole device (Adapter t) at in
    let came = laws.rows t happens answer u (adapter_result (adapter_step t happens) answer u is) whole in
    record {
      table = u;
      there = after;
      past = omega (arith, past, stays.ids);
      none = all_more (RowCame t u happens) (IsNotBy n) (λ row by. row_not w opened device t u happens row n none past comes by) u.rows came.rows;
      old = all_both (IsOld base (end_at device n)) opened (frame_opens w device (Adapter t) happens (Adapter u)) old
          (opens_old w base (end_at device n) device t u happens whole.sound.ids_are_drawn came.rows (λ request row produced same. new_not t u request row n none past produced (ap (λ (x : End). x.number) same)));
    }

-- another device's event opens no connection with it
others_old : NameLaws → (base : List Opened) (device n other : ℕ) (w : World) (t u : DeviceTable) (happens : Event) (answer : Answer) → IdsAreDrawn w → step t happens ≡ Ok (answer, u) → DeviceStays t u → slice_get w.tables other ≡ Some t → other ≢ device → AllByRecursion (IsOld base (end_at device n)) (frame_opens w other t happens u)
unfolding step
others_old laws base device n other w (Adapter t) (Adapter u) happens answer drawn is stays at ne =
    let whole = drawn.whole other (Adapter t) at in
    let came = laws.rows t happens answer u (adapter_result (adapter_step t happens) answer u is) whole in
    opens_old w base (end_at device n) other t u happens whole.sound.ids_are_drawn came.rows (λ request row produced same. ne (ap (λ (x : End). x.device) same))
others_old laws base device n other w (Scanner t) (Scanner u) happens answer drawn is stays at ne = tt
others_old laws base device n other w (Adapter t) (Scanner u) happens answer drawn is stays at ne = absurd stays
others_old laws base device n other w (Scanner t) (Adapter u) happens answer drawn is stays at ne = absurd stays

event_ended : NameLaws → (base : List Opened) (device n : ℕ) (w new : World) (opened : List Opened) (reported : ReportedEvent) (m : OneEvent (Waits w opened) w reported new) → IdsAreDrawn w → Ended base device n w opened → Ended base device n new (opened ++ frame_opens w reported.device m.before reported.event m.after)
event_ended laws base device n w new opened reported m drawn ended = by_device (reported.device == device) refl where
  tables : new.tables ≡ set w.tables reported.device m.after
  tables = ap (λ (x : World). x.tables) m.leaves

  stays : DeviceStays m.before m.after
  stays = step_stays laws.steps m.before reported.event reported.answer m.after m.stepped

  after : slice_get new.tables reported.device ≡ Some m.after
  after = ap (λ (ts : List DeviceTable). slice_get ts reported.device) tables ∙ set_own w.tables reported.device m.before m.after m.is

  own : reported.device ≡ device → Ended base reported.device n new (opened ++ frame_opens w reported.device m.before reported.event m.after)
  own same =
      let at : slice_get w.tables reported.device ≡ Some (Adapter ended.table) = ap (slice_get w.tables) same ∙ ended.there in
      let before : m.before ≡ Adapter ended.table = same_Some m.before (Adapter ended.table) (sym m.is ∙ at) in
      subst (λ (x : DeviceTable). Ended base reported.device n new (opened ++ frame_opens w reported.device x reported.event m.after)) (sym before)
      (own_ended laws base reported.device n w new opened ended.table m.after reported.event reported.answer drawn m.event
      (subst (λ (x : DeviceTable). step x reported.event ≡ Ok (reported.answer, m.after)) before m.stepped) (subst (λ (x : DeviceTable). DeviceStays x m.after) before stays) at after ended.past ended.none
      (subst (λ (d : ℕ). AllByRecursion (IsOld base (end_at d n)) opened) (sym same) ended.old))

  by_device : (b : Bool) → (reported.device == device) ≡ b → Ended base device n new (opened ++ frame_opens w reported.device m.before reported.event m.after)
  by_device true is =
      let same = eqb-true reported.device device is in
      subst (λ (d : ℕ). Ended base d n new (opened ++ frame_opens w reported.device m.before reported.event m.after)) same (own same)
  by_device false is =
      let ne = eqb-false reported.device device is in
      record {
        table = ended.table;
        there = ap (λ (ts : List DeviceTable). slice_get ts device) tables ∙ set_other w.tables reported.device device m.after (λ same. ne (sym same)) ∙ ended.there;
        past = ended.past;
        none = ended.none;
        old = all_both (IsOld base (end_at device n)) opened (frame_opens w reported.device m.before reported.event m.after) ended.old
            (others_old laws base device n reported.device w m.before m.after reported.event reported.answer drawn m.stepped stays m.is ne);
      }

-- ---- an act

abbrev pub EndedIn : List Opened → ℕ → ℕ → Chronicle → Type 0
EndedIn base device n c = Ended base device n c.story.world c.opened

still_ended : (base : List Opened) (device n : ℕ) (w new : World) (opened : List Opened) → new.tables ≡ w.tables → Ended base device n w opened → Ended base device n new opened
still_ended base device n w new opened same ended = record {
  table = ended.table;
  there = ap (λ (ts : List DeviceTable). slice_get ts device) same ∙ ended.there;
  past = ended.past;
  none = ended.none;
  old = ended.old;
}

pub act_ended : NameLaws → (base : List Opened) (device n : ℕ) (c : Chronicle) (act : Act) (said : Happened) → IfOk said (ActCases (Waits c.story.world c.opened) c.story.world) → IdsAreDrawn c.story.world → EndedIn base device n c → IfOk (recorded c act said) (EndedIn base device n)
act_ended laws base device n c act (Err fault) acts drawn ended = tt
act_ended laws base device n c act (Ok (None, new)) acts drawn ended = still_ended base device n c.story.world new c.opened acts.tables ended
act_ended laws base device n c act (Ok (Some reported, new)) acts drawn ended =
    subst (λ (o : Option DeviceTable). EndedIn base device n (with_event_at c act reported new o)) (sym acts.is)
    (subst (λ (u : DeviceTable). Ended base device n new (c.opened ++ frame_opens c.story.world reported.device acts.before reported.event u)) (sym (ap (table_of acts.before) acts.stepped))
    (event_ended laws base device n c.story.world new c.opened reported acts drawn ended))
