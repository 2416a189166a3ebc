-- The tests of ids: which ids the devices have allocated.
use Rattle.std.proofs.Common.{◌≡◌, ◌≢◌, ◌≤◌, ◌<◌, ◌⊎◌, inl, inr, ℕ, zero, suc, ◌==◌, ◌||◌, Bool, true, false, List, [], ◌∷◌, set, slice_get, Some, refl, sym, ◌∙◌, ap, subst, arith, eqb-true}
use Rattle.std.specs.List.{list_any}
use Rattle.std.proofs.lemmas.Bool.{eqb-false}
use Rattle.std.proofs.lemmas.Option.{same_Some}
use Rattle.base_lemmas.specs.Lists.{set_own, set_other}
use Rattle.cip_types.specs.IdLaws.{extends_ends, ids_fit}
use Rattle.cip_types.specs.Ids.{Extends, are_blocks, end_number, id_at}
use Rattle.cip_types.specs.declared.names.ConnId.{ConnId}
use Rattle.cip_tables.specs.declared.table.DeviceTable.{DeviceTable}
use Rattle.cip_tables.specs.declared.table.DeviceTable.TheVariants.{Adapter, Scanner}
use Rattle.cip_tables.specs.Whole.{IsWholeDevice, ids_of, next_id_of}
use Rattle.device_laws.specs.Carrying.{Passes}
use Rattle.device_laws.specs.Lemmas.Numbered.{IsNumbered, between_numbered, numbered_between, one_number, or_here, or_later, same_passes}
use Rattle.schedule_laws.specs.Ids.{has_drawn, is_drawn}
use Rattle.schedule_laws.specs.Lives.{AreApart, HasNumber}

pub not_both : {X : Type 0} (b : Bool) → b ≡ true → b ≡ false → X
not_both true yes_is no_is = absurd (let e = no_is in cc)
not_both false yes_is no_is = absurd (let e = yes_is in cc)

-- ---- whole tables

pub whole_blocks : (t : DeviceTable) → IsWholeDevice t → are_blocks (ids_of t) ≡ true
whole_blocks (Adapter t) whole = whole.sound.blocks
whole_blocks (Scanner t) whole = whole.table.blocks

pub whole_begins : (t : DeviceTable) → IsWholeDevice t → 1 ≤ next_id_of t
whole_begins (Adapter t) whole = whole.sound.ids_begin
whole_begins (Scanner t) whole = whole.table.ids_begin

pub whole_in_range : (t : DeviceTable) → IsWholeDevice t → next_id_of t ≤ end_number (ids_of t)
whole_in_range (Adapter t) whole = whole.sound.ids_are_left
whole_in_range (Scanner t) whole = whole.table.ids

-- ---- what it means that an id is drawn

-- the device of this place has allocated the id
pub record DrawnBy (tables : List DeviceTable) (id : ℕ) : Type 0 where
  pub device : ℕ
  pub table : DeviceTable
  pub there : slice_get tables device ≡ Some table
  pub numbered : IsNumbered (ids_of table) 1 (next_id_of table) id

mutual_step : (b : Bool) (id : ℕ) (x : DeviceTable) (tables : List DeviceTable) → has_drawn id x ≡ b → (list_any (has_drawn id) tables ≡ true → DrawnBy tables id) → (b || list_any (has_drawn id) tables) ≡ true → DrawnBy (x ∷ tables) id
mutual_step true id x tables is more any = record { device = 0; table = x; there = refl; numbered = between_numbered (ids_of x) 1 (next_id_of x) id is }
mutual_step false id x tables is more any = let later = more any in record { device = suc later.device; table = later.table; there = later.there; numbered = later.numbered }

drawn_by : (id : ℕ) (tables : List DeviceTable) → list_any (has_drawn id) tables ≡ true → DrawnBy tables id
drawn_by id [] any = absurd (let e = any in cc)
drawn_by id (x ∷ tables) any = mutual_step (has_drawn id x) id x tables refl (drawn_by id tables) any

by_drawn : (id : ℕ) (tables : List DeviceTable) (device : ℕ) (t : DeviceTable) → slice_get tables device ≡ Some t → IsNumbered (ids_of t) 1 (next_id_of t) id → list_any (has_drawn id) tables ≡ true
by_drawn id [] device t at is = absurd (let e = at in cc)
by_drawn id (x ∷ tables) zero t at is =
    or_here (has_drawn id x) (list_any (has_drawn id) tables) (subst (λ (y : DeviceTable). has_drawn id y ≡ true) (sym (same_Some x t at)) (numbered_between (ids_of t) 1 (next_id_of t) id is))
by_drawn id (x ∷ tables) (suc device) t at is = or_later (has_drawn id x) (list_any (has_drawn id) tables) (by_drawn id tables device t at is)

drawn_step : (b : Bool) (tables : List DeviceTable) (id : ℕ) → (id == 0) ≡ b → (b || list_any (has_drawn id) tables) ≡ true → (id ≡ 0) ⊎ DrawnBy tables id
drawn_step true tables id is passes = inl (eqb-true id 0 is)
drawn_step false tables id is passes = inr (drawn_by id tables passes)

-- the id is 0, or a device has allocated it
pub drawn_cases : (tables : List DeviceTable) (id : ℕ) → Passes (is_drawn tables) id → (id ≡ 0) ⊎ DrawnBy tables id
drawn_cases tables id passes = drawn_step (id == 0) tables id refl passes

pub zero_drawn : (tables : List DeviceTable) → Passes (is_drawn tables) 0
zero_drawn tables = refl

pub drawn_at : (tables : List DeviceTable) (device : ℕ) (t : DeviceTable) (id : ℕ) → slice_get tables device ≡ Some t → IsNumbered (ids_of t) 1 (next_id_of t) id → Passes (is_drawn tables) id
drawn_at tables device t id at is = or_later (id == 0) (list_any (has_drawn id) tables) (by_drawn id tables device t at is)

-- it has 32 bits
pub drawn_fits : (tables : List DeviceTable) (id : ℕ) → ((device : ℕ) (t : DeviceTable) → slice_get tables device ≡ Some t → IsWholeDevice t) → Passes (is_drawn tables) id → id < 4294967296
drawn_fits tables id whole passes = fits (drawn_cases tables id passes) where
  fits : (id ≡ 0) ⊎ DrawnBy tables id → id < 4294967296
  fits (inl none) = omega (arith, none)
  fits (inr by) =
      let own = whole by.device by.table by.there in
      let n = by.numbered in
      let ends = n.ends in
      let last = whole_in_range by.table own in
      subst (λ (i : ℕ). i < 4294967296) n.is (ids_fit (ids_of by.table) n.number (whole_blocks by.table own) n.begins (omega (arith, ends, last))).1

-- ---- a later table

-- the ids that a device has allocated stay so
pub numbered_on : (t u : DeviceTable) (id : ℕ) → next_id_of t ≤ end_number (ids_of t) → Extends (ids_of t) (ids_of u) → next_id_of t ≤ next_id_of u → IsNumbered (ids_of t) 1 (next_id_of t) id → IsNumbered (ids_of u) 1 (next_id_of u) id
numbered_on t u id last grows counts is =
    let ends = is.ends in
    record {
      number = is.number;
      begins = is.begins;
      ends = omega (arith, ends, counts);
      is = ap (λ (c : ConnId). c.0) (grows.same is.number is.begins (omega (arith, ends, last))) ∙ is.is;
    }

-- ---- one table is another

set_step : (b : Bool) (tables : List DeviceTable) (device e : ℕ) (t u x : DeviceTable) → (e == device) ≡ b → slice_get tables device ≡ Some t → slice_get (set tables device u) e ≡ Some x → ((e ≡ device) × (x ≡ u)) ⊎ ((e ≢ device) × (slice_get tables e ≡ Some x))
set_step true tables device e t u x is at there =
    let same = eqb-true e device is in
    inl (same, same_Some x u (sym there ∙ ap (slice_get (set tables device u)) same ∙ set_own tables device t u at))
set_step false tables device e t u x is at there =
    let ne = eqb-false e device is in
    inr (ne, sym (set_other tables device e u ne) ∙ there)

pub set_cases : (tables : List DeviceTable) (device e : ℕ) (t u x : DeviceTable) → slice_get tables device ≡ Some t → slice_get (set tables device u) e ≡ Some x → ((e ≡ device) × (x ≡ u)) ⊎ ((e ≢ device) × (slice_get tables e ≡ Some x))
set_cases tables device e t u x at there = set_step (e == device) tables device e t u x refl at there

pub drawn_more : (tables : List DeviceTable) (device : ℕ) (t u : DeviceTable) (id : ℕ) → slice_get tables device ≡ Some t → next_id_of t ≤ end_number (ids_of t) → Extends (ids_of t) (ids_of u) → next_id_of t ≤ next_id_of u → Passes (is_drawn tables) id → Passes (is_drawn (set tables device u)) id
drawn_more tables device t u id at last grows counts passes = by_case (drawn_cases tables id passes) where
  placed : (b : Bool) (by : DrawnBy tables id) → (by.device == device) ≡ b → Passes (is_drawn (set tables device u)) id
  placed true by is =
      let same = eqb-true by.device device is in
      let own : by.table ≡ t = same_Some by.table t (sym by.there ∙ ap (slice_get tables) same ∙ at) in
      drawn_at (set tables device u) device u id (set_own tables device t u at) (numbered_on t u id last grows counts (subst (λ (x : DeviceTable). IsNumbered (ids_of x) 1 (next_id_of x) id) own by.numbered))
  placed false by is = drawn_at (set tables device u) by.device by.table id (set_other tables device by.device u (eqb-false by.device device is) ∙ by.there) by.numbered

  by_case : (id ≡ 0) ⊎ DrawnBy tables id → Passes (is_drawn (set tables device u)) id
  by_case (inl none) = or_here (id == 0) (list_any (has_drawn id) (set tables device u)) (same_passes id 0 none)
  by_case (inr by) = placed (by.device == device) by refl

-- ---- ids allocated now

pub now_drawn : (tables : List DeviceTable) (device : ℕ) (t u : DeviceTable) (number : ℕ) → slice_get tables device ≡ Some t → 1 ≤ number → number < next_id_of u → Passes (is_drawn (set tables device u)) (id_at (ids_of u) number).0
now_drawn tables device t u number at begins below =
    drawn_at (set tables device u) device u (id_at (ids_of u) number).0 (set_own tables device t u at) (record { number = number; begins = begins; ends = below; is = refl })

-- ---- ids to come

-- an id that a device may still allocate is not drawn, where no two devices have blocks with one id
pub never_drawn : (tables : List DeviceTable) (device : ℕ) (t : DeviceTable) (number id : ℕ) → AreApart tables → ((e : ℕ) (x : DeviceTable) → slice_get tables e ≡ Some x → IsWholeDevice x) → slice_get tables device ≡ Some t → next_id_of t ≤ number → HasNumber t number → id ≡ (id_at (ids_of t) number).0 → Passes (is_drawn tables) id → ⊥
never_drawn tables device t number id apart whole at from has is passes = by_case (drawn_cases tables id passes) where
  by_case : (id ≡ 0) ⊎ DrawnBy tables id → ⊥
  by_case (inl none) =
      let ends = has.ends in
      let some = (ids_fit (ids_of t) number (whole_blocks t (whole device t at)) has.begins (omega (arith, ends))).0 in
      absurd (omega (arith, none, is, some))
  by_case (inr by) =
      let n = by.numbered in
      let below = n.ends in
      let ends = has.ends in
      let last = whole_in_range by.table (whole by.device by.table by.there) in
      let same : (id_at (ids_of by.table) n.number).0 ≡ (id_at (ids_of t) number).0 = n.is ∙ is in
      let place : by.device ≡ device = apart.differ by.device device by.table t n.number number by.there at (record { begins = n.begins; ends = omega (arith, below, last) }) has same in
      let own : by.table ≡ t = same_Some by.table t (sym by.there ∙ ap (slice_get tables) place ∙ at) in
      let mine : n.number < next_id_of t = subst (λ (x : DeviceTable). n.number < next_id_of x) own n.ends in
      let equal : n.number ≡ number =
      one_number (ids_of t) n.number number (whole_blocks t (whole device t at)) n.begins (omega (arith, mine, from, ends)) has.begins has.ends
      (subst (λ (x : DeviceTable). (id_at (ids_of x) n.number).0 ≡ (id_at (ids_of t) number).0) own same) in
      absurd (omega (arith, equal, mine, from))

-- ---- devices stay apart before

-- the table of this place after a step has the number, and its id is the same
record LaterNumber (tables : List DeviceTable) (a : ℕ) (x : DeviceTable) (m : ℕ) : Type 0 where
  table : DeviceTable
  there : slice_get tables a ≡ Some table
  has : HasNumber table m
  is : (id_at (ids_of table) m).0 ≡ (id_at (ids_of x) m).0

later_step : (b : Bool) (tables : List DeviceTable) (device : ℕ) (t u : DeviceTable) (a : ℕ) (x : DeviceTable) (m : ℕ) → (a == device) ≡ b → slice_get tables device ≡ Some t → Extends (ids_of t) (ids_of u) → slice_get tables a ≡ Some x → HasNumber x m → LaterNumber (set tables device u) a x m
later_step true tables device t u a x m is at grows there has =
    let same = eqb-true a device is in
    let own : t ≡ x = same_Some t x (sym at ∙ ap (slice_get tables) (sym same) ∙ there) in
    let mine : HasNumber t m = subst (λ (y : DeviceTable). HasNumber y m) (sym own) has in
    let ends = mine.ends in
    let more = extends_ends (ids_of t) (ids_of u) grows in
    record {
      table = u;
      there = ap (slice_get (set tables device u)) same ∙ set_own tables device t u at;
      has = record { begins = mine.begins; ends = omega (arith, ends, more) };
      is = ap (λ (c : ConnId). c.0) (grows.same m mine.begins (omega (arith, ends))) ∙ ap (λ (y : DeviceTable). (id_at (ids_of y) m).0) own;
    }
later_step false tables device t u a x m is at grows there has =
    record { table = x; there = set_other tables device a u (eqb-false a device is) ∙ there; has = has; is = refl }

-- what the tables after a step have, those before it had
pub apart_before : (tables : List DeviceTable) (device : ℕ) (t u : DeviceTable) → slice_get tables device ≡ Some t → Extends (ids_of t) (ids_of u) → AreApart (set tables device u) → AreApart tables
apart_before tables device t u at grows apart = record {
  differ = λ a b x y m n at_a at_b has_m has_n same.
      let one = later_step (a == device) tables device t u a x m refl at grows at_a has_m in
      let two = later_step (b == device) tables device t u b y n refl at grows at_b has_n in
      apart.differ a b one.table two.table m n one.there two.there one.has two.has (one.is ∙ same ∙ sym two.is);
}
