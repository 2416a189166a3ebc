-- Nothing is due after the end of time.
use Rattle.std.proofs.Common.{◌≡◌, ◌≤◌, ℕ, min, List, [], ◌∷◌, arith}
use Rattle.adapter_table.specs.Connections.{Row}
use Rattle.cip_tables.specs.Wakes.{never, connections_due}

due_within : (rows : List Row) → connections_due rows ≤ never
due_within [] = omega arith
due_within (row ∷ rows) = let rest = due_within rows in omega arith

pub min_never : (rows : List Row) → min never (connections_due rows) ≡ connections_due rows
min_never rows = let all = due_within rows in omega arith

pub min_due : (n : ℕ) → n ≤ never → min n never ≡ n
min_due n le = omega arith
