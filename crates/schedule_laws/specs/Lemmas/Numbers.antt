-- Connection ids by their numbers, in a world where no two devices have blocks with one id.
use Rattle.std.proofs.Common.{◌≡◌, ◌≤◌, ◌<◌, ℕ, ◌^◌, slice_get, Some, sym, ◌∙◌, ap, subst, arith}
use Rattle.std.proofs.lemmas.Option.{same_Some}
use Rattle.cip_types.specs.IdLaws.{extends_ends, ids_fit}
use Rattle.cip_types.specs.Ids.{Extends, id_at}
use Rattle.adapter_table.specs.declared.table.AdapterTable.{AdapterTable}
use Rattle.scanner_table.specs.declared.table.ScannerTable.{ScannerTable}
use Rattle.cip_tables.specs.declared.table.DeviceTable.{DeviceTable}
use Rattle.cip_tables.specs.declared.table.DeviceTable.TheVariants.{Adapter, Scanner}
use Rattle.cip_tables.specs.Whole.{ids_of, next_id_of}
use Rattle.segment_world.specs.World.{World}
use Rattle.device_laws.specs.Lemmas.Numbered.{one_number}
use Rattle.schedule_laws.specs.Ids.{IdsAreDrawn}
use Rattle.schedule_laws.specs.Lives.{AreApart, HasNumber}
use Rattle.schedule_laws.specs.Lemmas.Tests.{whole_blocks, whole_in_range}

-- a number below the next one is one of the device's blocks
pub drawn_number : (w : World) (device : ℕ) (t : DeviceTable) (n : ℕ) → IdsAreDrawn w → slice_get w.tables device ≡ Some t → 1 ≤ n → n < next_id_of t → HasNumber t n
drawn_number w device t n drawn at begins below =
    let last = whole_in_range t (drawn.whole device t at) in
    record { begins = begins; ends = omega (arith, below, last) }

-- an id of a device is of 32 bits
pub id_fits : (w : World) (device : ℕ) (t : DeviceTable) (n : ℕ) → IdsAreDrawn w → slice_get w.tables device ≡ Some t → HasNumber t n → (id_at (ids_of t) n).0 < 2 ^ 32
id_fits w device t n drawn at has =
    let ends = has.ends in
    (ids_fit (ids_of t) n (whole_blocks t (drawn.whole device t at)) has.begins (omega (arith, ends))).1

-- one id is of one device, and of one number
pub record IsOne (a b m n : ℕ) : Type 0 where
  pub device : a ≡ b
  pub number : m ≡ n

pub one_id : (w : World) (a b : ℕ) (t u : DeviceTable) (m n : ℕ) → IdsAreDrawn w → AreApart w.tables → slice_get w.tables a ≡ Some t → slice_get w.tables b ≡ Some u → HasNumber t m → HasNumber u n → (id_at (ids_of t) m).0 ≡ (id_at (ids_of u) n).0 → IsOne a b m n
one_id w a b t u m n drawn apart at_a at_b has_m has_n same =
    let device : a ≡ b = apart.differ a b t u m n at_a at_b has_m has_n same in
    let table : u ≡ t = same_Some u t (sym at_b ∙ ap (slice_get w.tables) (sym device) ∙ at_a) in
    let own : HasNumber t n = subst (λ (x : DeviceTable). HasNumber x n) table has_n in
    record {
      device = device;
      number = one_number (ids_of t) m n (whole_blocks t (drawn.whole a t at_a)) has_m.begins has_m.ends own.begins own.ends (same ∙ ap (λ (x : DeviceTable). (id_at (ids_of x) n).0) table);
    }

-- no id is of an adapter and of a scanner
pub never_both : (w : World) (device other : ℕ) (t : AdapterTable) (s : ScannerTable) (m n : ℕ) → AreApart w.tables → slice_get w.tables device ≡ Some (Adapter t) → slice_get w.tables other ≡ Some (Scanner s) → HasNumber (Adapter t) m → HasNumber (Scanner s) n → (id_at t.ids m).0 ≡ (id_at s.ids n).0 → ⊥
never_both w device other t s m n apart at there has_m has_n same =
    let place : device ≡ other = apart.differ device other (Adapter t) (Scanner s) m n at there has_m has_n same in
    absurd (let e = sym at ∙ ap (slice_get w.tables) place ∙ there in cc)

-- ---- later on

-- a number that the blocks have is one of the later blocks, with the same id
pub number_later : (t u : DeviceTable) (n : ℕ) → Extends (ids_of t) (ids_of u) → HasNumber t n → HasNumber u n
number_later t u n grows has =
    let ends = has.ends in
    let more = extends_ends (ids_of t) (ids_of u) grows in
    record { begins = has.begins; ends = omega (arith, ends, more) }

pub id_later : (t u : DeviceTable) (n : ℕ) → Extends (ids_of t) (ids_of u) → HasNumber t n → id_at (ids_of u) n ≡ id_at (ids_of t) n
id_later t u n grows has =
    let ends = has.ends in
    grows.same n has.begins (omega (arith, ends))
