-- What the laws look at stays where each connection is changed into one like it.
use Rattle.std.proofs.Common.{◌≡◌, ◌≤◌, ℕ, ◌==◌, nat_le, Bool, true, false, cond, ◌||◌, List, [], ◌∷◌, map, length, refl, sym, ◌∙◌, ap, subst, arith}
use Rattle.std.specs.List.{list_any}
use Rattle.cip_types.specs.declared.ids.IdBlock.{IdBlock}
use Rattle.cip_types.specs.declared.names.Triad.{Triad}
use Rattle.cip_types.specs.declared.names.ConnId.{ConnId}
use Rattle.cip_types.specs.declared.names.Node.{Node}
use Rattle.cip_types.specs.declared.names.Ms.{Ms}
use Rattle.cip_datagram.specs.Datagram.{DatagramFields}
use Rattle.adapter_table.specs.Connections.{Row}
use Rattle.cip_productions.specs.declared.kind.Kind.{Kind}
use Rattle.adapter_table.specs.declared.row.State.{State}
use Rattle.adapter_table.specs.declared.row.State.TheVariants.{Established, TimedOut}
use Rattle.adapter_table.specs.Rows.{lives, has_triad, drives, drivers, is_member, supports, is_supported, is_unsupported, written_state, written_row}
use Rattle.cip_netparams.specs.declared.Trigger.{Trigger}
use Rattle.cip_netparams.specs.declared.Trigger.TheVariants.{Cyclic, ChangeOfState}
use Rattle.cip_productions.specs.declared.production.Production.{Production}
use Rattle.cip_productions.specs.Productions.{produced, changed, changed_by, deferred, is_free}
use Rattle.adapter_table.specs.Productions.{producer_of, produced_state, produced_row, changed_state, changed_row}
use Rattle.adapter_table.specs.Datagrams.{is_for, accepted_row, accepted_if_for}
use Rattle.adapter_table.specs.Sound.{TriadsDiffer, has_o_t_id, IdsDiffer, IsDrawn, IdsAreDrawn, ListenersAreSupported, Agree, AllAgree, GroupsAgree}
use Rattle.adapter_table.specs.Lemmas.GroupLemmas.{produced_is}

-- a connection in the place of another
pub record IsLike (row row' : Row) : Type 0 where
  pub lives : lives row'.state ≡ lives row.state
  pub producer : producer_of row'.state ≡ producer_of row.state
  pub kind : row'.kind ≡ row.kind
  pub multicast : row'.multicast ≡ row.multicast
  pub produced : row'.produced ≡ row.produced
  pub consumed : row'.consumed ≡ row.consumed
  pub triad : row'.triad ≡ row.triad
  pub o_t_id : row'.o_t_id ≡ row.o_t_id
  pub opening : row'.opening ≡ row.opening
  pub t_o_id : row'.t_o_id ≡ row.t_o_id
  pub t_o_api_ms : row'.t_o_api_ms ≡ row.t_o_api_ms

-- each connection is changed into one like it, and those of one producer in the same way
pub record Keeps (f : Row → Row) : Type 0 where
  pub like : (row : Row) → IsLike row (f row)
  pub same : (a b : Row) → a.produced ≡ b.produced → a.t_o_api_ms ≡ b.t_o_api_ms → a.state ≡ b.state → (f a).state ≡ (f b).state

like_itself : (row : Row) → IsLike row row
like_itself row = record { lives = refl; producer = refl; kind = refl; multicast = refl; produced = refl; consumed = refl; triad = refl; o_t_id = refl; opening = refl; t_o_id = refl; t_o_api_ms = refl }

-- ---- drivers, triads, ids

drives_like : (place : ℕ) (row row' : Row) → IsLike row row' → drives place row' ≡ drives place row
drives_like place row row' like = rw (like.lives, like.kind, like.consumed) refl

count_step : (b c : Bool) (x y : Row) (xs ys : List Row) → b ≡ c → length xs ≤ length ys → length (cond b (x ∷ xs) xs) ≤ length (cond c (y ∷ ys) ys)
count_step true true x y xs ys e le = omega arith
count_step true false x y xs ys e le = absurd cc
count_step false true x y xs ys e le = absurd cc
count_step false false x y xs ys e le = le

pub count_kept : (f : Row → Row) → Keeps f → (place : ℕ) (rows : List Row) → length (drivers place (map f rows)) ≤ length (drivers place rows)
count_kept f keeps place [] = omega arith
count_kept f keeps place (row ∷ rows) = count_step (drives place (f row)) (drives place row) (f row) row _ _ (drives_like place row (f row) (keeps.like row)) (count_kept f keeps place rows)

pub any_driver_kept : (f : Row → Row) → Keeps f → (place : ℕ) (rows : List Row) → list_any (drives place) (map f rows) ≡ list_any (drives place) rows
any_driver_kept f keeps place [] = refl
any_driver_kept f keeps place (row ∷ rows) = rw (drives_like place row (f row) (keeps.like row)) (ap (λ b. drives place row || b) (any_driver_kept f keeps place rows))

pub any_triad_kept : (f : Row → Row) → Keeps f → (triad : Triad) (rows : List Row) → list_any (has_triad triad) (map f rows) ≡ list_any (has_triad triad) rows
any_triad_kept f keeps triad [] = refl
any_triad_kept f keeps triad (row ∷ rows) = rw ((keeps.like row).triad) (ap (λ b. has_triad triad row || b) (any_triad_kept f keeps triad rows))

pub triads_kept : (f : Row → Row) → Keeps f → (rows : List Row) → TriadsDiffer rows → TriadsDiffer (map f rows)
triads_kept f keeps [] differ = tt
triads_kept f keeps (row ∷ rows) differ = (rw ((keeps.like row).triad) (any_triad_kept f keeps row.triad rows ∙ differ.0), triads_kept f keeps rows differ.1)

pub any_id_kept : (f : Row → Row) → Keeps f → (id : ConnId) (rows : List Row) → list_any (has_o_t_id id) (map f rows) ≡ list_any (has_o_t_id id) rows
any_id_kept f keeps id [] = refl
any_id_kept f keeps id (row ∷ rows) = rw ((keeps.like row).o_t_id) (ap (λ b. has_o_t_id id row || b) (any_id_kept f keeps id rows))

pub ids_kept : (f : Row → Row) → Keeps f → (rows : List Row) → IdsDiffer rows → IdsDiffer (map f rows)
ids_kept f keeps [] differ = tt
ids_kept f keeps (row ∷ rows) differ = (rw ((keeps.like row).o_t_id) (any_id_kept f keeps row.o_t_id rows ∙ differ.0), ids_kept f keeps rows differ.1)

drawn_like : (ids : List IdBlock) (next_id : ℕ) (row row' : Row) → IsLike row row' → IsDrawn ids next_id row → IsDrawn ids next_id row'
drawn_like ids next_id row row' like is = record {
  id = rw (like.o_t_id, like.opening) is.id;
  begins = rw like.opening is.begins;
  below = rw like.opening is.below;
}

pub drawn_kept : (f : Row → Row) → Keeps f → (ids : List IdBlock) (next_id : ℕ) (rows : List Row) → IdsAreDrawn ids next_id rows → IdsAreDrawn ids next_id (map f rows)
drawn_kept f keeps ids next_id [] drawn = tt
drawn_kept f keeps ids next_id (row ∷ rows) drawn =
    (drawn_like ids next_id row (f row) (keeps.like row) drawn.0, drawn_kept f keeps ids next_id rows drawn.1)

-- ---- support

supports_like : (kind : Kind) (point : ℕ) (row row' : Row) → IsLike row row' → supports kind point row' ≡ supports kind point row
supports_like kind point row row' like = rw (like.lives, like.multicast, like.produced, like.kind) refl

supported_kept : (f : Row → Row) → Keeps f → (rows : List Row) (kind : Kind) (point : ℕ) → is_supported (map f rows) kind point ≡ is_supported rows kind point
supported_kept f keeps [] kind point = refl
supported_kept f keeps (row ∷ rows) kind point = rw (supports_like kind point row (f row) (keeps.like row), supported_kept f keeps rows kind point) refl

unsupported_like : (f : Row → Row) → Keeps f → (all : List Row) (row : Row) → is_unsupported (map f all) (f row) ≡ is_unsupported all row
unsupported_like f keeps all row =
    let like = keeps.like row in
    like_step (f row) row like.lives like.kind like.produced (supported_kept f keeps all row.kind row.produced) where
      like_step : (r' r : Row) → lives r'.state ≡ lives r.state → r'.kind ≡ r.kind → r'.produced ≡ r.produced → is_supported (map f all) r.kind r.produced ≡ is_supported all r.kind r.produced → is_unsupported (map f all) r' ≡ is_unsupported all r
      like_step r' r a b c d = rw (a, b, c, d) refl

all_supported : (f : Row → Row) → Keeps f → (all rows : List Row) → list_any (is_unsupported (map f all)) (map f rows) ≡ list_any (is_unsupported all) rows
all_supported f keeps all [] = refl
all_supported f keeps all (row ∷ rows) = rw (unsupported_like f keeps all row, all_supported f keeps all rows) refl

pub listeners_kept : (f : Row → Row) → Keeps f → (rows : List Row) → ListenersAreSupported rows → ListenersAreSupported (map f rows)
listeners_kept f keeps rows supported = all_supported f keeps rows rows ∙ supported

-- ---- groups

member_like : (point : ℕ) (row row' : Row) → IsLike row row' → is_member point row' ≡ is_member point row
member_like point row row' like = rw (like.lives, like.multicast, like.produced) refl

agree_kept : (f : Row → Row) → Keeps f → (a b : Row) → Agree a b → Agree (f a) (f b)
agree_kept f keeps a b agree = λ here there.
    let la = keeps.like a in
    let lb = keeps.like b in
    let place = la.produced in
    let here' : is_member a.produced a ≡ true = sym (member_like a.produced a (f a) la) ∙ subst (λ (n : ℕ). is_member n (f a) ≡ true) place here in
    let there' : is_member a.produced b ≡ true = sym (member_like a.produced b (f b) lb) ∙ subst (λ (n : ℕ). is_member n (f b) ≡ true) place there in
    let s = agree here' there' in
    let same = sym (produced_is a.produced b there') in
    record { id = la.t_o_id ∙ s.id ∙ sym lb.t_o_id; api = la.t_o_api_ms ∙ s.api ∙ sym lb.t_o_api_ms; state = keeps.same a b same s.api s.state }

all_agree : (f : Row → Row) → Keeps f → (row : Row) (rows : List Row) → AllAgree row rows → AllAgree (f row) (map f rows)
all_agree f keeps row [] agree = tt
all_agree f keeps row (other ∷ rows) agree = (agree_kept f keeps row other agree.0, all_agree f keeps row rows agree.1)

pub groups_kept : (f : Row → Row) → Keeps f → (rows : List Row) → GroupsAgree rows → GroupsAgree (map f rows)
groups_kept f keeps [] agree = tt
groups_kept f keeps (row ∷ rows) agree = (all_agree f keeps row rows agree.0, groups_kept f keeps rows agree.1)

-- ---- the state alone is changed

like_stated : (row : Row) (state : State) → lives state ≡ lives row.state → producer_of state ≡ producer_of row.state → IsLike row (record row { state = state })
like_stated row state live same = record { lives = live; producer = same; kind = refl; multicast = refl; produced = refl; consumed = refl; triad = refl; o_t_id = refl; opening = refl; t_o_id = refl; t_o_api_ms = refl }

-- a connection in another state where a test says so
stated_like : (b : Bool) (row : Row) (state : State) → lives state ≡ lives row.state → producer_of state ≡ producer_of row.state → IsLike row (cond b (record row { state = state }) row)
stated_like true row state live same = like_stated row state live same
stated_like false row state live same = like_itself row

stated_same : (x y : Bool) (a b : Row) (s t : State) → x ≡ y → s ≡ t → a.state ≡ b.state → (cond x (record a { state = s }) a).state ≡ (cond y (record b { state = t }) b).state
stated_same true true a b s t e changed state = changed
stated_same true false a b s t e changed state = absurd cc
stated_same false true a b s t e changed state = absurd cc
stated_same false false a b s t e changed state = state

-- ---- an input is written

pub lives_written : (state : State) → lives (written_state state) ≡ lives state
lives_written (Established production) = refl
lives_written TimedOut = refl

producer_written : (state : State) → producer_of (written_state state) ≡ producer_of state
producer_written (Established production) = refl
producer_written TimedOut = refl

pub written_keeps : (point : ℕ) → Keeps (written_row point)
written_keeps point = record {
  like = λ row. stated_like (row.produced == point) row (written_state row.state) (lives_written row.state) (producer_written row.state);
  same = λ a b produced api state.
      stated_same (a.produced == point) (b.produced == point) a b (written_state a.state) (written_state b.state)
      (ap (λ (n : ℕ). n == point) produced) (ap written_state state) state;
}

-- ---- a datagram is accepted

fed_state : (b : Bool) (clock : Ms) (d : DatagramFields) (row : Row) → (cond b (accepted_row clock d row) row).state ≡ row.state
fed_state true clock d row = refl
fed_state false clock d row = refl

fed_like : (b : Bool) (clock : Ms) (d : DatagramFields) (row : Row) → IsLike row (cond b (accepted_row clock d row) row)
fed_like true clock d row = record { lives = refl; producer = refl; kind = refl; multicast = refl; produced = refl; consumed = refl; triad = refl; o_t_id = refl; opening = refl; t_o_id = refl; t_o_api_ms = refl }
fed_like false clock d row = like_itself row

pub fed_keeps : (clock : Ms) (peer : Node) (d : DatagramFields) → Keeps (accepted_if_for clock peer d)
fed_keeps clock peer d = record {
  like = λ row. fed_like (is_for peer d.connection row) clock d row;
  same = λ a b produced api state. fed_state (is_for peer d.connection a) clock d a ∙ state ∙ sym (fed_state (is_for peer d.connection b) clock d b);
}

-- ---- producers produce

lives_established : (b : Bool) (x y : Production) → lives (cond b (Established x) (Established y)) ≡ true
lives_established true x y = refl
lives_established false x y = refl

pub lives_due : (clock : Ms) (api : ℕ) (state : State) → lives (produced_state clock api state) ≡ lives state
lives_due clock api (Established production) = lives_established (nat_le production.due.0 clock.0) (produced clock api production) production
lives_due clock api TimedOut = refl

producer_either : (b : Bool) (x y : Production) → x.producer ≡ y.producer → producer_of (cond b (Established x) (Established y)) ≡ y.producer
producer_either true x y same = same
producer_either false x y same = refl

producer_due : (clock : Ms) (api : ℕ) (state : State) → producer_of (produced_state clock api state) ≡ producer_of state
producer_due clock api (Established production) = producer_either (nat_le production.due.0 clock.0) (produced clock api production) production refl
producer_due clock api TimedOut = refl

pub due_keeps : (clock : Ms) → Keeps (produced_row clock)
due_keeps clock = record {
  like = λ row. like_stated row (produced_state clock row.t_o_api_ms row.state) (lives_due clock row.t_o_api_ms row.state) (producer_due clock row.t_o_api_ms row.state);
  same = λ a b produced api state. ap (λ (n : ℕ). produced_state clock n a.state) api ∙ ap (produced_state clock b.t_o_api_ms) state;
}

pub lives_changed : (clock : Ms) (api : ℕ) (state : State) → lives (changed_state clock api state) ≡ lives state
lives_changed clock api (Established production) = refl
lives_changed clock api TimedOut = refl

changed_producer : (b : Bool) (x y : Production) (n : ℕ) → x.producer ≡ n → y.producer ≡ n → (cond b x y).producer ≡ n
changed_producer true x y n first second = first
changed_producer false x y n first second = second

producer_changed : (trigger : Trigger) (clock : Ms) (api : ℕ) (production : Production) → (changed_by trigger clock api production).producer ≡ production.producer
producer_changed Cyclic clock api production = refl
producer_changed ChangeOfState clock api production = changed_producer (is_free clock production) (produced clock api production) (deferred production) production.producer refl refl

producer_after_change : (clock : Ms) (api : ℕ) (state : State) → producer_of (changed_state clock api state) ≡ producer_of state
producer_after_change clock api (Established production) = producer_changed production.trigger clock api production
producer_after_change clock api TimedOut = refl

pub changed_keeps : (clock : Ms) (point : ℕ) → Keeps (changed_row clock point)
changed_keeps clock point = record {
  like = λ row. stated_like (row.produced == point) row (changed_state clock row.t_o_api_ms row.state) (lives_changed clock row.t_o_api_ms row.state) (producer_after_change clock row.t_o_api_ms row.state);
  same = λ a b produced api state.
      stated_same (a.produced == point) (b.produced == point) a b (changed_state clock a.t_o_api_ms a.state) (changed_state clock b.t_o_api_ms b.state)
      (ap (λ (n : ℕ). n == point) produced)
      (ap (λ (n : ℕ). changed_state clock n a.state) api ∙ ap (changed_state clock b.t_o_api_ms) state) state;
}
