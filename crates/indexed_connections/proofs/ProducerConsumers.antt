-- Changes that leave each connection its producer and its peer, so that producers keep their consumers.
use Rattle.std.proofs.Common.{◌≡◌, ℕ, Bool, true, false, cond, ◌==◌, List, map, find, Option, Some, None, refl, ap, ◌∙◌}
use Rattle.cip_types.specs.declared.names.Ms.{Ms}
use Rattle.cip_types.specs.declared.names.Node.{Node}
use Rattle.cip_datagram.specs.Datagram.{DatagramFields}
use Rattle.cip_events.specs.Answers.{is_accepted}
use Rattle.cip_netparams.specs.declared.Trigger.{Trigger}
use Rattle.cip_netparams.specs.declared.Trigger.TheVariants.{Cyclic, ChangeOfState}
use Rattle.cip_productions.specs.declared.production.Production.{Production}
use Rattle.cip_productions.specs.Productions.{produced, deferred, is_free, changed_by, is_production_due}
use Rattle.adapter_table.specs.declared.profile.Profile.{Profile}
use Rattle.adapter_table.specs.Connections.{Row}
use Rattle.adapter_table.specs.declared.row.State.{State}
use Rattle.adapter_table.specs.declared.row.State.TheVariants.{Established, TimedOut}
use Rattle.adapter_table.specs.Rows.{written_state, written_row}
use Rattle.adapter_table.specs.Datagrams.{is_for, row_delivery, accepted_row, accepted_if_for}
use Rattle.adapter_table.specs.Productions.{producer_number, is_produced_by, produced_state, produced_row, changed_state, changed_row}
use Rattle.conn_slab.specs.Reception.{reception}
use Rattle.indexed_connections.specs.ConsumerTables.{consumers_by_producer}
use Rattle.indexed_connections.specs.ConsumerLaws.{KeepsProducer, made_kept, consumers_kept}

produced_number : (clock : Ms) (api : ℕ) (state : State) → producer_number (produced_state clock api state) ≡ producer_number state
produced_number clock api TimedOut = refl
produced_number clock api (Established production) = split (is_production_due clock production)
  where
    split : (b : Bool) → producer_number (cond b (Established (produced clock api production)) (Established production)) ≡ Some production.producer
    split true = refl
    split false = refl

pub produced_served : (clock : Ms) (rows : List Row) → consumers_by_producer (map (produced_row clock) rows) ≡ consumers_by_producer rows
produced_served clock rows = consumers_kept (produced_row clock) (λ row. record { peer = refl; number = produced_number clock row.t_o_api_ms row.state }) rows

written_number : (state : State) → producer_number (written_state state) ≡ producer_number state
written_number TimedOut = refl
written_number (Established production) = refl

written_keeps : (b : Bool) (row : Row) → KeepsProducer row (cond b (record row { state = written_state row.state }) row)
written_keeps true row = record { peer = refl; number = written_number row.state }
written_keeps false row = record { peer = refl; number = refl }

free_number : (b : Bool) (clock : Ms) (api : ℕ) (production : Production) → (cond b (produced clock api production) (deferred production)).producer ≡ production.producer
free_number true clock api production = refl
free_number false clock api production = refl

trigger_number : (trigger : Trigger) (clock : Ms) (api : ℕ) (production : Production) → (changed_by trigger clock api production).producer ≡ production.producer
trigger_number Cyclic clock api production = refl
trigger_number ChangeOfState clock api production = free_number (is_free clock production) clock api production

changed_number : (clock : Ms) (api : ℕ) (state : State) → producer_number (changed_state clock api state) ≡ producer_number state
changed_number clock api TimedOut = refl
changed_number clock api (Established production) = ap (λ (n : ℕ). Some n) (trigger_number production.trigger clock api production)

changed_keeps : (b : Bool) (clock : Ms) (row : Row) → KeepsProducer row (cond b (record row { state = changed_state clock row.t_o_api_ms row.state }) row)
changed_keeps true clock row = record { peer = refl; number = changed_number clock row.t_o_api_ms row.state }
changed_keeps false clock row = record { peer = refl; number = refl }

pub written_served : (point : ℕ) (rows : List Row) → consumers_by_producer (map (written_row point) rows) ≡ consumers_by_producer rows
written_served point rows = consumers_kept (written_row point) (λ row. written_keeps (row.produced == point) row) rows

-- a write keeps the number of a connection's producer
pub written_made : (number point : ℕ) (row : Row) → is_produced_by number (written_row point row) ≡ is_produced_by number row
written_made number point row = made_kept number row (written_row point row) (written_keeps (row.produced == point) row)

pub changed_served : (clock : Ms) (point : ℕ) (rows : List Row) → consumers_by_producer (map (changed_row clock point) (map (written_row point) rows)) ≡ consumers_by_producer rows
changed_served clock point rows =
    consumers_kept (changed_row clock point) (λ row. changed_keeps (row.produced == point) clock row) (map (written_row point) rows)
    ∙ written_served point rows

accepted_keeps : (b : Bool) (clock : Ms) (d : DatagramFields) (row : Row) → KeepsProducer row (cond b (accepted_row clock d row) row)
accepted_keeps true clock d row = record { peer = refl; number = refl }
accepted_keeps false clock d row = record { peer = refl; number = refl }

received_if : (b : Bool) (clock : Ms) (peer : Node) (d : DatagramFields) (rows : List Row) → consumers_by_producer (cond b (map (accepted_if_for clock peer d) rows) rows) ≡ consumers_by_producer rows
received_if true clock peer d rows = consumers_kept (accepted_if_for clock peer d) (λ row. accepted_keeps (is_for peer d.connection row) clock d row) rows
received_if false clock peer d rows = refl

received_found : (profile : Profile) (clock : Ms) (peer : Node) (d : DatagramFields) (rows : List Row) (o : Option Row) → consumers_by_producer (reception profile clock peer d o rows) ≡ consumers_by_producer rows
received_found profile clock peer d rows None = refl
received_found profile clock peer d rows (Some row) = received_if (is_accepted (row_delivery profile clock row d)) clock peer d rows

pub received_served : (profile : Profile) (clock : Ms) (peer : Node) (d : DatagramFields) (rows : List Row) → consumers_by_producer (reception profile clock peer d (find (is_for peer d.connection) rows) rows) ≡ consumers_by_producer rows
received_served profile clock peer d rows = received_found profile clock peer d rows (find (is_for peer d.connection) rows)
