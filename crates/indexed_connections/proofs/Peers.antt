-- What connections are is what their peers say.
use Rattle.std.proofs.Common.{◌≡◌, ◌&&◌, ◌||◌, not, Bool, List, [], ◌∷◌, map, is_some, refl, ap, ◌∙◌}
use Rattle.std.specs.Prelude.{nat_le}
use Rattle.std.specs.List.{list_any}
use Rattle.cip_types.specs.declared.names.Ms.{Ms}
use Rattle.adapter_table.specs.Connections.{Row}
use Rattle.adapter_table.specs.declared.row.State.{State}
use Rattle.adapter_table.specs.declared.row.State.TheVariants.{Established, TimedOut}
use Rattle.adapter_table.specs.Rows.{lives, is_timed_out}
use Rattle.adapter_table.specs.Productions.{producer_number}
use Rattle.adapter_table.specs.Ticks.{has_expired}
use Rattle.conn_slab.specs.declared.peers.Peer.{Peer}
use Rattle.conn_slab.specs.Producing.{peer_in}
use Rattle.indexed_connections.specs.Turns.{state_is_among, is_left}
use Rattle.indexed_connections.specs.Peers.{has_timed_out_by, has_run_out, number_among, stays_with}

any_same : (p : Peer → Bool) (q : Row → Bool) → ((row : Row) → p (peer_in row) ≡ q row) → (rows : List Row) → list_any p (map peer_in rows) ≡ list_any q rows
any_same p q same [] = refl
any_same p q same (row ∷ rows) = ap (λ (b : Bool). b || list_any p (map peer_in rows)) (same row) ∙ ap (λ (b : Bool). q row || b) (any_same p q same rows)

some_lives : (state : State) → is_some (producer_number state) ≡ lives state
some_lives (Established production) = refl
some_lives TimedOut = refl

runs_out : (clock : Ms) (row : Row) → has_run_out clock (peer_in row) ≡ has_expired clock row
runs_out clock row = ap (λ (b : Bool). b && nat_le row.deadline.0 clock.0) (some_lives row.state)

among_by : (ends : List Row) (state : State) → number_among ends (producer_number state) ≡ state_is_among ends state
among_by ends (Established production) = refl
among_by ends TimedOut = refl

stays_by : (clock : Ms) (ends : List Row) (row : Row) → stays_with clock ends (peer_in row) ≡ is_left clock ends row
stays_by clock ends row =
    ap (λ (b : Bool). not b && number_among ends (producer_number row.state)) (runs_out clock row) ∙ ap (λ (b : Bool). not (has_expired clock row) && b) (among_by ends row.state)

pub any_timed_out : (rows : List Row) → list_any has_timed_out_by (map peer_in rows) ≡ list_any is_timed_out rows
any_timed_out rows = any_same has_timed_out_by is_timed_out (λ row. ap (λ (b : Bool). not b) (some_lives row.state)) rows

pub any_run_out : (clock : Ms) (rows : List Row) → list_any (has_run_out clock) (map peer_in rows) ≡ list_any (has_expired clock) rows
any_run_out clock rows = any_same (has_run_out clock) (has_expired clock) (runs_out clock) rows

pub any_staying : (clock : Ms) (ends rows : List Row) → list_any (stays_with clock ends) (map peer_in rows) ≡ list_any (is_left clock ends) rows
any_staying clock ends rows = any_same (stays_with clock ends) (is_left clock ends) (stays_by clock ends) rows
