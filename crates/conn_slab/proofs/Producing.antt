-- The producer that a connection has is that of its number in the pool.
use Rattle.std.proofs.Common.{◌≡◌, ℕ, ◌||◌, Bool, true, false, cond, List, [], ◌∷◌, map, Option, Some, None, refl, sym, ◌∙◌, ap, subst}
use Rattle.std.specs.List.{AllByRecursion, list_any}
use Rattle.std.specs.Option.{option_map, is_some}
use Rattle.std.proofs.lemmas.Bool.{eqb-true}
use Rattle.adapter_table.specs.Connections.{Row}
use Rattle.adapter_table.specs.declared.row.State.TheVariants.{Established, TimedOut}
use Rattle.adapter_table.specs.Productions.{is_produced_by, producer_in, state_producer, has_number as made_by}
use Rattle.mcast_pool.specs.declared.group.Group.{Group}
use Rattle.mcast_pool.specs.Groups.{has_number, number_of, numbered, producer_of, IsInUse}
use Rattle.conn_slab.specs.Records.{Record, row_of, state_of, production_in}
use Rattle.conn_slab.specs.Layout.{IsServed, SharesBy, SharesFound}
use Rattle.conn_slab.specs.Producing.{producer_by}

some_is : (x g : Group) → Some x ≡ Some g → x ≡ g
some_is x g e = cc

passes_step : (number : ℕ) (b : Bool) (x g : Group) (rest : Option Group) → has_number number x ≡ b → (rest ≡ Some g → has_number number g ≡ true) → cond b (Some x) rest ≡ Some g → has_number number g ≡ true
passes_step number true x g rest has more some = subst (λ (y : Group). has_number number y ≡ true) (some_is x g some) has
passes_step number false x g rest has more some = more some

pub found_passes : (number : ℕ) (pool : List Group) (g : Group) → numbered number pool ≡ Some g → has_number number g ≡ true
found_passes number [] g is = absurd cc
found_passes number (x ∷ pool) g is = passes_step number (has_number number x) x g (numbered number pool) refl (found_passes number pool g) is

-- the producer of a number in the pool
abbrev ReportsProducer : ℕ → List Group → List Row → Type 0
ReportsProducer number pool rows = (producer_by number rows ≡ option_map producer_of (numbered number pool)) × IsInUse number pool

-- the producer of a connection whose group is this
abbrev Has : Row → Group → Type 0
Has row g = producer_in row ≡ Some g.producer

has_group : (row : Row) (g : Group) → row.state ≡ Established g.producer.production → row.produced ≡ g.producer.point → row.t_o_id ≡ g.producer.id → Has row g
has_group row g state point id = rw (state, point, id) refl

head_group : (number : ℕ) (pool : List Group) (row : Row) (rows : List Row) (g : Group) → row.state ≡ Established g.producer.production → Has row g → (has_number number g ≡ true → numbered number pool ≡ Some g) → (list_any (is_produced_by number) rows ≡ true → ReportsProducer number pool rows) → list_any (is_produced_by number) (row ∷ rows) ≡ true → ReportsProducer number pool (row ∷ rows)
head_group number pool row rows g state has there rest any =
    split (has_number number g) refl
  where
    made : is_produced_by number row ≡ has_number number g
    made = rw state refl

    found : producer_by number (row ∷ rows) ≡ cond (has_number number g) (Some g.producer) (producer_by number rows)
    found = rw has refl

    split : (b : Bool) → has_number number g ≡ b → ReportsProducer number pool (row ∷ rows)
    split true is =
        let one = there is in
        (found ∙ ap (λ (b : Bool). cond b (Some g.producer) (producer_by number rows)) is ∙ sym (ap (option_map producer_of) one), ap is_some one)
    split false is =
        let more = rest (sym (ap (λ (b : Bool). b || list_any (is_produced_by number) rows) (made ∙ is)) ∙ any) in
        (found ∙ ap (λ (b : Bool). cond b (Some g.producer) (producer_by number rows)) is ∙ more.0, more.1)

same_number : (number m : ℕ) (pool : List Group) (g : Group) → numbered m pool ≡ Some g → has_number number g ≡ true → numbered number pool ≡ Some g
same_number number m pool g is has =
    subst (λ (n : ℕ). numbered n pool ≡ Some g) (sym (eqb-true (number_of g) m (found_passes m pool g is)) ∙ eqb-true (number_of g) number has) is

no_producer : (number : ℕ) (pool : List Group) (row : Row) (rows : List Row) → row.state ≡ TimedOut → (list_any (is_produced_by number) rows ≡ true → ReportsProducer number pool rows) → list_any (is_produced_by number) (row ∷ rows) ≡ true → ReportsProducer number pool (row ∷ rows)
no_producer number pool row rows state rest any =
    let none : producer_in row ≡ None = ap (state_producer row) state in
    let made : is_produced_by number row ≡ false = ap (made_by number) state in
    let more = rest (sym (ap (λ (b : Bool). b || list_any (is_produced_by number) rows) made) ∙ any) in
    (rw none more.0, more.1)

by_found : (number m : ℕ) (pool : List Group) (r : Record) (rows : List Row) (found : Option Group) → r.state ≡ Some m → numbered m pool ≡ found → SharesFound r found → (list_any (is_produced_by number) rows ≡ true → ReportsProducer number pool rows) → list_any (is_produced_by number) (row_of pool r ∷ rows) ≡ true → ReportsProducer number pool (row_of pool r ∷ rows)
by_found number m pool r rows None producer is shares rest any = absurd shares
by_found number m pool r rows (Some g) producer is shares rest any =
    let state : (row_of pool r).state ≡ Established g.producer.production = ap (state_of pool) producer ∙ ap (λ (o : Option Group). Established (production_in o)) is in
    head_group number pool (row_of pool r) rows g state (has_group (row_of pool r) g state (sym shares.point) (sym shares.id)) (same_number number m pool g is) rest any

by_number : (number : ℕ) (pool : List Group) (r : Record) (rows : List Row) (n : Option ℕ) → r.state ≡ n → SharesBy pool r n → (list_any (is_produced_by number) rows ≡ true → ReportsProducer number pool rows) → list_any (is_produced_by number) (row_of pool r ∷ rows) ≡ true → ReportsProducer number pool (row_of pool r ∷ rows)
by_number number pool r rows None producer shares rest any =
    let state : (row_of pool r).state ≡ TimedOut = ap (state_of pool) producer in
    no_producer number pool (row_of pool r) rows state rest any
by_number number pool r rows (Some m) producer shares rest any = by_found number m pool r rows (numbered m pool) producer refl shares rest any

-- a number that some connection has is that of its producer in the pool
pub reported_by_pool : (number : ℕ) (pool : List Group) (rs : List Record) → AllByRecursion (IsServed pool) rs → list_any (is_produced_by number) (map (row_of pool) rs) ≡ true → ReportsProducer number pool (map (row_of pool) rs)
reported_by_pool number pool [] served any = absurd cc
reported_by_pool number pool (r ∷ rs) served any = by_number number pool r (map (row_of pool) rs) r.state refl served.0 (reported_by_pool number pool rs served.1) any
