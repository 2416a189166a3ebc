-- No watchdog runs out after the end of time, and connections' watchdogs are those of their peers.
use Rattle.std.proofs.Common.{◌≡◌, ◌≤◌, ℕ, min, List, [], ◌∷◌, map, refl, ap, ◌∙◌, arith}
use Rattle.adapter_table.specs.Connections.{Row}
use Rattle.adapter_table.specs.declared.row.State.{State}
use Rattle.adapter_table.specs.declared.row.State.TheVariants.{Established, TimedOut}
use Rattle.adapter_table.specs.Productions.{producer_number}
use Rattle.conn_slab.specs.declared.peers.Peer.{Peer}
use Rattle.conn_slab.specs.Producing.{peer_in}
use Rattle.conn_slab.specs.Bounds.{never, end_of, end_by, next_end, next_watchdog}

within : (peers : List Peer) → next_end peers ≤ never
within [] = omega arith
within (peer ∷ peers) = let rest = within peers in omega arith

pub min_never : (peers : List Peer) → min never (next_end peers) ≡ next_end peers
min_never peers = let all = within peers in omega arith

pub min_end : (n : ℕ) → n ≤ never → min n never ≡ n
min_end n le = omega arith

end_is : (deadline : ℕ) (state : State) → end_by deadline (producer_number state) ≡ end_of deadline state
end_is deadline (Established production) = refl
end_is deadline TimedOut = refl

pub next_ends : (rows : List Row) → next_end (map peer_in rows) ≡ next_watchdog rows
next_ends [] = refl
next_ends (row ∷ rows) =
    ap (λ (n : ℕ). min n (next_end (map peer_in rows))) (end_is row.deadline.0 row.state) ∙ ap (λ (n : ℕ). min (end_of row.deadline.0 row.state) n) (next_ends rows)
