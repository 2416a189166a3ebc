-- An output of which at most one connection is the driver has an owner exactly if one is.
use Rattle.std.proofs.Common.{◌≡◌, ◌≤◌, ◌==◌, ℕ, suc, Bool, true, false, cond, List, [], ◌∷◌, length, filter, find, Option, Some, None, refl, ◌∙◌, arith}
use Rattle.std.specs.Option.{is_some, option_map}
use Rattle.cip_tables.specs.Sound.{OverEveryRun}
use Rattle.adapter_table.specs.declared.table.AdapterTable.{AdapterTable}
use Rattle.adapter_table.specs.Connections.{Row}
use Rattle.adapter_table.specs.Rows.{drives}
use Rattle.adapter_table.specs.Sound.{HasOneOwner}
use Rattle.adapter_table.specs.States.{report_of}
use Rattle.device_laws.specs.States.{OwnersAreSaid}

mapped_some : {A B : Type 0} (f : A → B) (o : Option A) → is_some (option_map f o) ≡ is_some o
mapped_some f None = refl
mapped_some f (Some x) = refl

-- of at most one that passes, one is found exactly if one passes
found_counts : (test : Row → Bool) (rows : List Row) → length (filter test rows) ≤ 1 → is_some (find test rows) ≡ (length (filter test rows) == 1)
found_counts test [] few = refl
found_counts test (row ∷ rows) few = split (test row) few (found_counts test rows) where
  split : (b : Bool) → length (cond b (row ∷ filter test rows) (filter test rows)) ≤ 1 → (length (filter test rows) ≤ 1 → is_some (find test rows) ≡ (length (filter test rows) == 1)) → is_some (cond b (Some row) (find test rows)) ≡ (length (cond b (row ∷ filter test rows) (filter test rows)) == 1)
  split true le rest = sole (length (filter test rows)) le where
    sole : (n : ℕ) → suc n ≤ 1 → true ≡ (suc n == 1)
    sole n le = rw (let none : n ≡ 0 = omega arith in none) refl
  split false le rest = rest le

said_by : (t : AdapterTable) → HasOneOwner t.rows → OwnersAreSaid t
said_by t one = λ point. mapped_some (report_of t.clock) (find (drives point) t.rows) ∙ found_counts (drives point) t.rows (one point)

pub owners_said : OverEveryRun (λ t. HasOneOwner t.rows) → OverEveryRun OwnersAreSaid
owners_said every = record {
  whole = λ old events outcomes t whole ran. said_by t (every.whole old events outcomes t whole ran);
  fresh = λ made events outcomes t none ran. said_by t (every.fresh made events outcomes t none ran);
}
