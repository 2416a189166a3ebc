-- Producers of changes of state: where there is none, a write makes none produce, and none is due at another time.
use Rattle.std.proofs.Common.{◌≡◌, ◌≤◌, ℕ, Bool, true, false, cond, ◌==◌, ◌||◌, List, [], ◌∷◌, map, find, Option, Some, None, refl, sym, ap, subst, ◌∙◌, true≢false}
use Rattle.std.specs.List.{list_any}
use Rattle.base_lemmas.specs.Booleans.{and_none}
use Rattle.cip_types.specs.declared.names.Ms.{Ms}
use Rattle.cip_types.specs.declared.names.Node.{Node}
use Rattle.cip_datagram.specs.Datagram.{DatagramFields}
use Rattle.cip_events.specs.Answers.{is_accepted}
use Rattle.cip_netparams.specs.declared.Trigger.{Trigger}
use Rattle.cip_netparams.specs.declared.Trigger.TheVariants.{Cyclic, ChangeOfState}
use Rattle.cip_productions.specs.declared.production.Production.{Production}
use Rattle.cip_productions.specs.Productions.{produced, deferred, is_free, is_on_change, changed_by, is_production_due}
use Rattle.adapter_table.specs.declared.profile.Profile.{Profile}
use Rattle.adapter_table.specs.Connections.{Row}
use Rattle.adapter_table.specs.declared.row.State.{State}
use Rattle.adapter_table.specs.declared.row.State.TheVariants.{Established, TimedOut}
use Rattle.adapter_table.specs.Rows.{written_state, written_row}
use Rattle.adapter_table.specs.Datagrams.{is_for, row_delivery, accepted_row, accepted_if_for}
use Rattle.adapter_table.specs.Productions.{produced_state, produced_row, produces_on_change, changed_state, changed_row}
use Rattle.conn_slab.specs.Bounds.{StateNotDueBefore, AllNotDueBefore}
use Rattle.conn_slab.specs.Connections.{state_changes, is_changing}
use Rattle.conn_slab.specs.Reception.{reception}
use Rattle.indexed_connections.specs.List.Lone.{neither}

-- ---- none produces at once

none_at_once : (clock : Ms) (point : ℕ) (row : Row) (state : State) → row.state ≡ state → is_changing row ≡ false → produces_on_change clock point row ≡ false
none_at_once clock point row TimedOut is none = rw is (and_none (row.produced == point))
none_at_once clock point row (Established production) is none =
    let cyclic : is_on_change production.trigger ≡ false = sym (ap state_changes is) ∙ none in
    rw (is, cyclic) (and_none (row.produced == point))

pub at_once_none : (clock : Ms) (point : ℕ) (rows : List Row) → list_any is_changing rows ≡ false → list_any (produces_on_change clock point) rows ≡ false
at_once_none clock point [] none = refl
at_once_none clock point (row ∷ rows) none =
    let parts = neither (is_changing row) (list_any is_changing rows) none in
    rw (none_at_once clock point row row.state refl parts.0) (at_once_none clock point rows parts.1)

-- ---- the times at which they are due stay

by_trigger : (bound : ℕ) (clock : Ms) (api : ℕ) (production : Production) (trigger : Trigger) → production.trigger ≡ trigger → is_on_change production.trigger ≡ false → bound ≤ production.due.0 → bound ≤ (changed_by production.trigger clock api (record production { written = true })).due.0
by_trigger bound clock api production Cyclic is none rests = rw is rests
by_trigger bound clock api production ChangeOfState is none rests = absurd (true≢false (sym (ap is_on_change is) ∙ none))

state_rests : (b : Bool) (bound : ℕ) (clock : Ms) (api : ℕ) (state : State) → state_changes state ≡ false → StateNotDueBefore bound state → StateNotDueBefore bound (cond b (changed_state clock api (written_state state)) state)
state_rests false bound clock api state none rests = rests
state_rests true bound clock api TimedOut none rests = tt
state_rests true bound clock api (Established production) none rests = by_trigger bound clock api production production.trigger refl none rests

state_after : (b : Bool) (clock : Ms) (point : ℕ) (row : Row) → (row.produced == point) ≡ b → (changed_row clock point (written_row point row)).state ≡ cond b (changed_state clock row.t_o_api_ms (written_state row.state)) row.state
state_after true clock point row is = rw is (rw is refl)
state_after false clock point row is = rw is (rw is refl)

pub rests_changed : (clock : Ms) (point bound : ℕ) (rows : List Row) → list_any is_changing rows ≡ false → AllNotDueBefore bound rows → AllNotDueBefore bound (map (changed_row clock point) (map (written_row point) rows))
rests_changed clock point bound [] none rests = tt
rests_changed clock point bound (row ∷ rows) none rests =
    let parts = neither (is_changing row) (list_any is_changing rows) none in (
      subst (StateNotDueBefore bound) (sym (state_after (row.produced == point) clock point row refl)) (state_rests (row.produced == point) bound clock row.t_o_api_ms row.state parts.0 rests.0),
      rests_changed clock point bound rows parts.1 rests.1,
    )

-- ---- their triggers stay

any_mapped : (f : Row → Row) → ((row : Row) → is_changing (f row) ≡ is_changing row) → (rows : List Row) → list_any is_changing (map f rows) ≡ list_any is_changing rows
any_mapped f same [] = refl
any_mapped f same (row ∷ rows) = ap (λ (b : Bool). b || list_any is_changing (map f rows)) (same row) ∙ ap (λ (b : Bool). is_changing row || b) (any_mapped f same rows)

produced_by_test : (b : Bool) (clock : Ms) (api : ℕ) (production : Production) → state_changes (cond b (Established (produced clock api production)) (Established production)) ≡ is_on_change production.trigger
produced_by_test true clock api production = refl
produced_by_test false clock api production = refl

produced_same : (clock : Ms) (api : ℕ) (state : State) → state_changes (produced_state clock api state) ≡ state_changes state
produced_same clock api TimedOut = refl
produced_same clock api (Established production) = produced_by_test (is_production_due clock production) clock api production

pub produced_changing : (clock : Ms) (rows : List Row) → list_any is_changing (map (produced_row clock) rows) ≡ list_any is_changing rows
produced_changing clock rows = any_mapped (produced_row clock) (λ row. produced_same clock row.t_o_api_ms row.state) rows

written_same : (state : State) → state_changes (written_state state) ≡ state_changes state
written_same TimedOut = refl
written_same (Established production) = refl

written_by : (b : Bool) (row : Row) → is_changing (cond b (record row { state = written_state row.state }) row) ≡ is_changing row
written_by true row = written_same row.state
written_by false row = refl

free_same : (b : Bool) (clock : Ms) (api : ℕ) (production : Production) → (cond b (produced clock api production) (deferred production)).trigger ≡ production.trigger
free_same true clock api production = refl
free_same false clock api production = refl

trigger_same : (trigger : Trigger) (clock : Ms) (api : ℕ) (production : Production) → (changed_by trigger clock api production).trigger ≡ production.trigger
trigger_same Cyclic clock api production = refl
trigger_same ChangeOfState clock api production = free_same (is_free clock production) clock api production

changed_same : (clock : Ms) (api : ℕ) (state : State) → state_changes (changed_state clock api state) ≡ state_changes state
changed_same clock api TimedOut = refl
changed_same clock api (Established production) = ap is_on_change (trigger_same production.trigger clock api production)

changed_if : (b : Bool) (clock : Ms) (row : Row) → is_changing (cond b (record row { state = changed_state clock row.t_o_api_ms row.state }) row) ≡ is_changing row
changed_if true clock row = changed_same clock row.t_o_api_ms row.state
changed_if false clock row = refl

pub changed_changing : (clock : Ms) (point : ℕ) (rows : List Row) → list_any is_changing (map (changed_row clock point) (map (written_row point) rows)) ≡ list_any is_changing rows
changed_changing clock point rows =
    any_mapped (changed_row clock point) (λ row. changed_if (row.produced == point) clock row) (map (written_row point) rows)
    ∙ any_mapped (written_row point) (λ row. written_by (row.produced == point) row) rows

accepted_by : (b : Bool) (clock : Ms) (d : DatagramFields) (row : Row) → is_changing (cond b (accepted_row clock d row) row) ≡ is_changing row
accepted_by true clock d row = refl
accepted_by false clock d row = refl

received_if : (b : Bool) (clock : Ms) (peer : Node) (d : DatagramFields) (rows : List Row) → list_any is_changing (cond b (map (accepted_if_for clock peer d) rows) rows) ≡ list_any is_changing rows
received_if true clock peer d rows = any_mapped (accepted_if_for clock peer d) (λ row. accepted_by (is_for peer d.connection row) clock d row) rows
received_if false clock peer d rows = refl

received_found : (profile : Profile) (clock : Ms) (peer : Node) (d : DatagramFields) (rows : List Row) (o : Option Row) → list_any is_changing (reception profile clock peer d o rows) ≡ list_any is_changing rows
received_found profile clock peer d rows None = refl
received_found profile clock peer d rows (Some row) = received_if (is_accepted (row_delivery profile clock row d)) clock peer d rows

pub received_changing : (profile : Profile) (clock : Ms) (peer : Node) (d : DatagramFields) (rows : List Row) → list_any is_changing (reception profile clock peer d (find (is_for peer d.connection) rows) rows) ≡ list_any is_changing rows
received_changing profile clock peer d rows = received_found profile clock peer d rows (find (is_for peer d.connection) rows)
