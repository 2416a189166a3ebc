-- What holds of what an adapter says of its outputs.
use Rattle.std.specs.Prelude.{ℕ, ◌≡◌, ◌==◌, length}
use Rattle.std.specs.Option.{is_some}
use Rattle.adapter_table.specs.declared.table.AdapterTable.{AdapterTable}
use Rattle.adapter_table.specs.Rows.{drivers}
use Rattle.adapter_table.specs.States.{owner_of}

-- an output has an owner exactly if one connection drives it
abbrev pub OwnersAreSaid : AdapterTable → Type 0
OwnersAreSaid t = (point : ℕ) → is_some (owner_of t point) ≡ (length (drivers point t.rows) == 1)
