-- Changes of producers, and the connections that share them.
use Rattle.std.proofs.Common.{◌≡◌, ℕ, ◌==◌, Bool, true, false, cond, if◌then◌else◌, List, [], ◌∷◌, map, Option, Some, None, refl, sym, ap, subst, ◌∙◌}
use Rattle.std.specs.List.{AllByRecursion}
use Rattle.std.specs.Option.{option_map}
use Rattle.cip_types.specs.declared.names.Ms.{Ms}
use Rattle.cip_netparams.specs.declared.Trigger.{Trigger}
use Rattle.cip_netparams.specs.declared.Trigger.TheVariants.{Cyclic, ChangeOfState}
use Rattle.cip_productions.specs.declared.production.Production.{Production}
use Rattle.cip_productions.specs.Productions.{produced, changed, changed_by, is_free, deferred}
use Rattle.adapter_table.specs.Connections.{Row}
use Rattle.adapter_table.specs.declared.row.State.{State}
use Rattle.adapter_table.specs.declared.row.State.TheVariants.{Established, TimedOut}
use Rattle.adapter_table.specs.Rows.{written_row, written_state}
use Rattle.adapter_table.specs.Productions.{produced_row, produced_state, changed_row, changed_state}
use Rattle.mcast_pool.specs.declared.group.Group.{Group}
use Rattle.mcast_pool.specs.Groups.{number_of, numbered, subscribers, is_due, produced_group, produced_if_due, with_production, written, written_and_changed}
use Rattle.conn_slab.specs.Records.{Record, row_of, state_of, production_in}
use Rattle.conn_slab.specs.Layout.{IsServed, SharesBy, SharesFound, Shares, IsBalanced, count_in}

-- a change of a group keeps all but its production, and its number
pub record Keeps (change : Group → Group) : Type 0 where
  pub number : (g : Group) → number_of (change g) ≡ number_of g
  pub api : (g : Group) → (change g).api ≡ g.api
  pub point : (g : Group) → (change g).producer.point ≡ g.producer.point
  pub id : (g : Group) → (change g).producer.id ≡ g.producer.id
  pub shared : (g : Group) → (change g).shared ≡ g.shared
  pub subscribers : (g : Group) → (change g).subscribers ≡ g.subscribers

numbered_map : (change : Group → Group) → Keeps change → (n : ℕ) (pool : List Group) → numbered n (map change pool) ≡ option_map change (numbered n pool)
numbered_map change keeps n [] = refl
numbered_map change keeps n (g ∷ pool) =
    ap (λ m. cond (m == n) (Some (change g)) (numbered n (map change pool))) (keeps.number g) ∙ split (number_of g == n) (numbered_map change keeps n pool)
  where
    split : (b : Bool) → numbered n (map change pool) ≡ option_map change (numbered n pool) → cond b (Some (change g)) (numbered n (map change pool)) ≡ option_map change (cond b (Some g) (numbered n pool))
    split true rest = refl
    split false rest = rest

sum_map : (change : Group → Group) → Keeps change → (pool : List Group) → subscribers (map change pool) ≡ subscribers pool
sum_map change keeps [] = refl
sum_map change keeps (g ∷ pool) = rw (keeps.subscribers g, sum_map change keeps pool) refl

count_map : (change : Group → Group) → Keeps change → (o : Option Group) → count_in (option_map change o) ≡ count_in o
count_map change keeps None = refl
count_map change keeps (Some g) = keeps.subscribers g

shares_map : (change : Group → Group) → Keeps change → (r : Record) (o : Option Group) → SharesFound r o → SharesFound r (option_map change o)
shares_map change keeps r None shares = shares
shares_map change keeps r (Some g) shares = record { api = keeps.api g ∙ shares.api; point = keeps.point g ∙ shares.point; id = keeps.id g ∙ shares.id; shared = keeps.shared g ∙ shares.shared }

served_by : (change : Group → Group) → Keeps change → (pool : List Group) (r : Record) (n : Option ℕ) → SharesBy pool r n → SharesBy (map change pool) r n
served_by change keeps pool r None shares = shares
served_by change keeps pool r (Some n) shares = subst (SharesFound r) (sym (numbered_map change keeps n pool)) (shares_map change keeps r (numbered n pool) shares)

pub served_map : (change : Group → Group) → Keeps change → (pool : List Group) (rs : List Record) → AllByRecursion (IsServed pool) rs → AllByRecursion (IsServed (map change pool)) rs
served_map change keeps pool [] served = tt
served_map change keeps pool (r ∷ rs) served = (served_by change keeps pool r r.state served.0, served_map change keeps pool rs served.1)

pub balanced_map : (change : Group → Group) → Keeps change → (pool : List Group) (rs : List Record) → IsBalanced pool rs → IsBalanced (map change pool) rs
balanced_map change keeps pool rs balanced = record {
  served = served_map change keeps pool rs balanced.served;
  counted = λ n. ap count_in (numbered_map change keeps n pool) ∙ count_map change keeps (numbered n pool) ∙ balanced.counted n;
  sum = sum_map change keeps pool ∙ balanced.sum;
}

-- ---- the connections follow their producers

-- the change of a group is this change of the states of its connections
abbrev Follow : (Group → Group) → (Record → State → State) → Type 0
Follow change states = (r : Record) (g : Group) → Shares r g → Established (change g).producer.production ≡ states r (Established g.producer.production)

state_found : (change : Group → Group) (states : Record → State → State) → Follow change states → (r : Record) (o : Option Group) → SharesFound r o → Established (production_in (option_map change o)) ≡ states r (Established (production_in o))
state_found change states follow r None shares = absurd shares
state_found change states follow r (Some g) shares = follow r g shares

state_map : (change : Group → Group) (states : Record → State → State) → Keeps change → ((r : Record) → TimedOut ≡ states r TimedOut) → Follow change states → (pool : List Group) (r : Record) (n : Option ℕ) → SharesBy pool r n → state_of (map change pool) n ≡ states r (state_of pool n)
state_map change states keeps out follow pool r None shares = out r
state_map change states keeps out follow pool r (Some n) shares = ap (λ o. Established (production_in o)) (numbered_map change keeps n pool) ∙ state_found change states follow r (numbered n pool) shares

rows_map : (change : Group → Group) (states : Record → State → State) (rows : Row → Row) → Keeps change → ((r : Record) → TimedOut ≡ states r TimedOut) → Follow change states → ((pool : List Group) (r : Record) → record (row_of pool r) { state = states r (row_of pool r).state } ≡ rows (row_of pool r))
    → (pool : List Group) (rs : List Record) → AllByRecursion (IsServed pool) rs → map (row_of (map change pool)) rs ≡ map rows (map (row_of pool) rs)
rows_map change states rows keeps out follow are pool [] served = refl
rows_map change states rows keeps out follow are pool (r ∷ rs) served =
    let here : row_of (map change pool) r ≡ rows (row_of pool r) = ap (λ (s : State). record (row_of pool r) { state = s }) (state_map change states keeps out follow pool r r.state served.0) ∙ are pool r in
    rw (here, rows_map change states rows keeps out follow are pool rs served.1) refl

-- ---- producers that are due

of_either : {A : Type 0} (field : Group → A) (b : Bool) (g h : Group) → field h ≡ field g → field (cond b h g) ≡ field g
of_either field true g h same = same
of_either field false g h same = refl

pub keeps_due : (clock : Ms) → Keeps (produced_if_due clock)
keeps_due clock = record {
  number = λ g. of_either number_of (is_due clock g) g (produced_group clock g) refl;
  api = λ g. of_either (λ h. h.api) (is_due clock g) g (produced_group clock g) refl;
  point = λ g. of_either (λ h. h.producer.point) (is_due clock g) g (produced_group clock g) refl;
  id = λ g. of_either (λ h. h.producer.id) (is_due clock g) g (produced_group clock g) refl;
  shared = λ g. of_either (λ h. h.shared) (is_due clock g) g (produced_group clock g) refl;
  subscribers = λ g. of_either (λ h. h.subscribers) (is_due clock g) g (produced_group clock g) refl;
}

due_follows : (clock : Ms) → Follow (produced_if_due clock) (λ r s. produced_state clock r.t_o_api_ms s)
due_follows clock r g shares = split (is_due clock g)
  where
    split : (b : Bool) → Established (cond b (produced_group clock g) g).producer.production ≡ (if b then Established (produced clock r.t_o_api_ms g.producer.production) else Established g.producer.production)
    split true = ap (λ (api : ℕ). Established (produced clock api g.producer.production)) shares.api
    split false = refl

pub rows_produced : (clock : Ms) (pool : List Group) (rs : List Record) → AllByRecursion (IsServed pool) rs → map (row_of (map (produced_if_due clock) pool)) rs ≡ map (produced_row clock) (map (row_of pool) rs)
rows_produced clock pool rs served =
    rows_map (produced_if_due clock) (λ r s. produced_state clock r.t_o_api_ms s) (produced_row clock) (keeps_due clock) (λ r. refl) (due_follows clock) (λ p r. refl) pool rs served

-- ---- producers that are written

changed_number : (trigger : Trigger) (clock : Ms) (api : ℕ) (production : Production) → (changed_by trigger clock api production).producer ≡ production.producer
changed_number Cyclic clock api production = refl
changed_number ChangeOfState clock api production = split (is_free clock production)
  where
    split : (b : Bool) → (cond b (produced clock api production) (deferred production)).producer ≡ production.producer
    split true = refl
    split false = refl

after_write : Ms → Group → Group
after_write clock g = with_production g (changed clock g.api (written g.producer.production))

pub keeps_written : (clock : Ms) (point : ℕ) → Keeps (written_and_changed clock point)
unfolding after_write
keeps_written clock point = record {
  number = λ g. of_either number_of (g.producer.point == point) g (after_write clock g) (changed_number g.producer.production.trigger clock g.api (written g.producer.production));
  api = λ g. of_either (λ h. h.api) (g.producer.point == point) g (after_write clock g) refl;
  point = λ g. of_either (λ h. h.producer.point) (g.producer.point == point) g (after_write clock g) refl;
  id = λ g. of_either (λ h. h.producer.id) (g.producer.point == point) g (after_write clock g) refl;
  shared = λ g. of_either (λ h. h.shared) (g.producer.point == point) g (after_write clock g) refl;
  subscribers = λ g. of_either (λ h. h.subscribers) (g.producer.point == point) g (after_write clock g) refl;
}

abbrev written_then_changed : Ms → ℕ → Record → State → State
written_then_changed clock point r s = if r.produced == point then changed_state clock r.t_o_api_ms (written_state s) else s

write_follows : (clock : Ms) (point : ℕ) → Follow (written_and_changed clock point) (written_then_changed clock point)
write_follows clock point r g shares =
    ap (λ (n : ℕ). Established (cond (n == point) (with_production g (changed clock g.api (written g.producer.production))) g).producer.production) shares.point ∙ split (r.produced == point)
  where
    split : (b : Bool) → Established (cond b (with_production g (changed clock g.api (written g.producer.production))) g).producer.production ≡ (if b then changed_state clock r.t_o_api_ms (written_state (Established g.producer.production)) else Established g.producer.production)
    split true = ap (λ (api : ℕ). Established (changed clock api (written g.producer.production))) shares.api
    split false = refl

out_written : (b : Bool) (clock : Ms) (api : ℕ) → TimedOut ≡ (if b then changed_state clock api (written_state TimedOut) else TimedOut)
out_written true clock api = refl
out_written false clock api = refl

written_is : (clock : Ms) (point : ℕ) (row : Row) → record row { state = if row.produced == point then changed_state clock row.t_o_api_ms (written_state row.state) else row.state } ≡ changed_row clock point (written_row point row)
written_is clock point row = split (row.produced == point) refl
  where
    split : (b : Bool) → row.produced == point ≡ b → record row { state = if row.produced == point then changed_state clock row.t_o_api_ms (written_state row.state) else row.state } ≡ changed_row clock point (written_row point row)
    split true is = rw is (rw is refl)
    split false is = rw is (rw is refl)

map_map : (f : Record → Row) (g h : Row → Row) (rs : List Record) → map (λ (row : Row). h (g row)) (map f rs) ≡ map h (map g (map f rs))
map_map f g h [] = refl
map_map f g h (r ∷ rs) = ap (λ rows. h (g (f r)) ∷ rows) (map_map f g h rs)

pub rows_written : (clock : Ms) (point : ℕ) (pool : List Group) (rs : List Record) → AllByRecursion (IsServed pool) rs → map (row_of (map (written_and_changed clock point) pool)) rs ≡ map (changed_row clock point) (map (written_row point) (map (row_of pool) rs))
rows_written clock point pool rs served =
    rows_map (written_and_changed clock point) (written_then_changed clock point) (λ row. changed_row clock point (written_row point row)) (keeps_written clock point) (λ r. out_written (r.produced == point) clock r.t_o_api_ms) (write_follows clock point) (λ p r. written_is clock point (row_of p r)) pool rs served
    ∙ map_map (row_of pool) (written_row point) (changed_row clock point) rs
