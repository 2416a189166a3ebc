-- Openings rise, and producers keep their numbers, whatever is taken out, changed, timed out or appended.
use Rattle.std.proofs.Common.{◌≡◌, ◌≤◌, ◌<◌, ℕ, ◌+◌, Bool, true, false, cond, List, [], ◌∷◌, ◌++◌, map, filter, find, Some, refl, sym, ◌∙◌, ap, arith}
use Rattle.base_lemmas.specs.Lists.{found_passes}
use Rattle.cip_types.specs.declared.names.Ms.{Ms}
use Rattle.cip_types.specs.declared.ids.IdBlock.{IdBlock}
use Rattle.adapter_table.specs.Connections.{Row}
use Rattle.adapter_table.specs.declared.row.State.TheVariants.{TimedOut}
use Rattle.adapter_table.specs.Rows.{is_established, is_member, Each}
use Rattle.adapter_table.specs.Productions.{producer_of}
use Rattle.cip_types.specs.Ids.{end_number, id_at, with_block}
use Rattle.cip_types.specs.IdLaws.{ids_stay}
use Rattle.adapter_table.specs.Ticks.{has_expired, expired_row, expired_rows}
use Rattle.adapter_table.specs.Sound.{IdsAreDrawn, IsDrawn, SharesProducer, OpensBefore, ProducerIsDrawn, SingleHasItsOwn, MulticastIdIsDrawn, ShareInGroup, ProducersAreSound}
use Rattle.adapter_table.specs.EachLemmas.{each_filter, each_append, each_map, each_found, each_weak, two_filter, two_append, two_map, two_found}
use Rattle.adapter_table.specs.Lemmas.GroupLemmas.{produced_is, member_parts}
use Rattle.adapter_table.specs.Lemmas.LikeLemmas.{IsLike, Keeps}

-- ---- some are taken out

pub producers_filter : (p : Row → Bool) (ids : List IdBlock) (next_id : ℕ) (rows : List Row) → ProducersAreSound ids next_id rows → ProducersAreSound ids next_id (filter p rows)
producers_filter p ids next_id rows sound = record {
  openings_rise = two_filter OpensBefore p rows sound.openings_rise;
  are_drawn = each_filter (ProducerIsDrawn next_id) p rows sound.are_drawn;
  single = each_filter SingleHasItsOwn p rows sound.single;
  multicast = each_filter (MulticastIdIsDrawn ids next_id) p rows sound.multicast;
  shared = two_filter ShareInGroup p rows sound.shared;
}

-- ---- each is changed into one like it

before_like : (f : Row → Row) → Keeps f → (a b : Row) → OpensBefore a b → OpensBefore (f a) (f b)
before_like f keeps a b before = rw ((keeps.like a).opening, (keeps.like b).opening) before

drawn_like : (next_id : ℕ) (row row' : Row) → IsLike row row' → ProducerIsDrawn next_id row → ProducerIsDrawn next_id row'
drawn_like next_id row row' like drawn = λ lives. rw (like.producer, like.opening) (drawn (sym like.lives ∙ lives))

single_like : (row row' : Row) → IsLike row row' → SingleHasItsOwn row → SingleHasItsOwn row'
single_like row row' like own = λ lives alone. rw (like.producer, like.opening) (own (sym like.lives ∙ lives) (sym like.multicast ∙ alone))

multicast_like : (ids : List IdBlock) (next_id : ℕ) (row row' : Row) → IsLike row row' → MulticastIdIsDrawn ids next_id row → MulticastIdIsDrawn ids next_id row'
multicast_like ids next_id row row' like drawn = λ lives many. rw (like.producer, like.t_o_id) (drawn (sym like.lives ∙ lives) (sym like.multicast ∙ many))

share_like : (f : Row → Row) → Keeps f → (a b : Row) → ShareInGroup a b → ShareInGroup (f a) (f b)
share_like f keeps a b share = λ a_lives b_lives same.
    let la = keeps.like a in
    let lb = keeps.like b in
    let group = share (sym la.lives ∙ a_lives) (sym lb.lives ∙ b_lives) (sym la.producer ∙ same ∙ lb.producer) in
    let shared = group.shared in
    record {
      first = la.multicast ∙ group.first;
      second = lb.multicast ∙ group.second;
      input = la.produced ∙ group.input ∙ sym lb.produced;
      shared = record { id = la.t_o_id ∙ shared.id ∙ sym lb.t_o_id; api = la.t_o_api_ms ∙ shared.api ∙ sym lb.t_o_api_ms; state = keeps.same a b group.input shared.api shared.state };
    }

pub producers_kept : (f : Row → Row) → Keeps f → (ids : List IdBlock) (next_id : ℕ) (rows : List Row) → ProducersAreSound ids next_id rows → ProducersAreSound ids next_id (map f rows)
producers_kept f keeps ids next_id rows sound = record {
  openings_rise = two_map OpensBefore f (before_like f keeps) rows sound.openings_rise;
  are_drawn = each_map (ProducerIsDrawn next_id) f (λ row. drawn_like next_id row (f row) (keeps.like row)) rows sound.are_drawn;
  single = each_map SingleHasItsOwn f (λ row. single_like row (f row) (keeps.like row)) rows sound.single;
  multicast = each_map (MulticastIdIsDrawn ids next_id) f (λ row. multicast_like ids next_id row (f row) (keeps.like row)) rows sound.multicast;
  shared = two_map ShareInGroup f (share_like f keeps) rows sound.shared;
}

-- ---- some time out

-- a connection that has timed out, or is as it was
abbrev faded : Bool → Row → Row
faded b row = cond b (record row { state = TimedOut }) row

before_faded : (x y : Bool) (a b : Row) → OpensBefore a b → OpensBefore (faded x a) (faded y b)
before_faded true true a b before = before
before_faded true false a b before = before
before_faded false true a b before = before
before_faded false false a b before = before

drawn_faded : (b : Bool) (next_id : ℕ) (row : Row) → ProducerIsDrawn next_id row → ProducerIsDrawn next_id (faded b row)
drawn_faded true next_id row drawn = λ lives. absurd cc
drawn_faded false next_id row drawn = drawn

single_faded : (b : Bool) (row : Row) → SingleHasItsOwn row → SingleHasItsOwn (faded b row)
single_faded true row own = λ lives alone. absurd cc
single_faded false row own = own

multicast_faded : (b : Bool) (ids : List IdBlock) (next_id : ℕ) (row : Row) → MulticastIdIsDrawn ids next_id row → MulticastIdIsDrawn ids next_id (faded b row)
multicast_faded true ids next_id row drawn = λ lives many. absurd cc
multicast_faded false ids next_id row drawn = drawn

share_faded : (x y : Bool) (a b : Row) → ShareInGroup a b → ShareInGroup (faded x a) (faded y b)
share_faded true y a b share = λ a_lives b_lives same. absurd cc
share_faded false true a b share = λ a_lives b_lives same. absurd cc
share_faded false false a b share = share

pub producers_expired : (clock : Ms) (ids : List IdBlock) (next_id : ℕ) (rows : List Row) → ProducersAreSound ids next_id rows → ProducersAreSound ids next_id (expired_rows clock rows)
producers_expired clock ids next_id rows sound = record {
  openings_rise = two_map OpensBefore (expired_row clock) (λ a b. before_faded (has_expired clock a) (has_expired clock b) a b) rows sound.openings_rise;
  are_drawn = each_map (ProducerIsDrawn next_id) (expired_row clock) (λ row. drawn_faded (has_expired clock row) next_id row) rows sound.are_drawn;
  single = each_map SingleHasItsOwn (expired_row clock) (λ row. single_faded (has_expired clock row) row) rows sound.single;
  multicast = each_map (MulticastIdIsDrawn ids next_id) (expired_row clock) (λ row. multicast_faded (has_expired clock row) ids next_id row) rows sound.multicast;
  shared = two_map ShareInGroup (expired_row clock) (λ a b. share_faded (has_expired clock a) (has_expired clock b) a b) rows sound.shared;
}

-- ---- numbers are passed over

drawn_later : (next_id later : ℕ) → next_id ≤ later → (row : Row) → ProducerIsDrawn next_id row → ProducerIsDrawn later row
drawn_later next_id later more row drawn = λ lives. let d = drawn lives in let below : producer_of row.state < next_id = d.1 in (d.0, omega arith)

multicast_later : (ids : List IdBlock) (next_id later : ℕ) → next_id ≤ later → (row : Row) → MulticastIdIsDrawn ids next_id row → MulticastIdIsDrawn ids later row
multicast_later ids next_id later more row drawn = λ lives many. let d = drawn lives many in let below : producer_of row.state + 1 < next_id = d.1 in (d.0, omega arith)

pub producers_later : (ids : List IdBlock) (next_id later : ℕ) (rows : List Row) → next_id ≤ later → ProducersAreSound ids next_id rows → ProducersAreSound ids later rows
producers_later ids next_id later rows more sound = record {
  openings_rise = sound.openings_rise;
  are_drawn = each_weak (ProducerIsDrawn next_id) (ProducerIsDrawn later) (drawn_later next_id later more) rows sound.are_drawn;
  single = sound.single;
  multicast = each_weak (MulticastIdIsDrawn ids next_id) (MulticastIdIsDrawn ids later) (multicast_later ids next_id later more) rows sound.multicast;
  shared = sound.shared;
}

-- ---- a further block of ids

grown : (ids : List IdBlock) (block : IdBlock) (next_id : ℕ) → next_id ≤ end_number ids → (row : Row) → MulticastIdIsDrawn ids next_id row → MulticastIdIsDrawn (with_block ids block) next_id row
grown ids block next_id left row drawn = λ lives many.
    let d = drawn lives many in
    let below : producer_of row.state + 1 < next_id = d.1 in
    (d.0 ∙ sym (ids_stay ids block (producer_of row.state + 1) (omega (arith, left, below)) (omega arith)), below)

pub producers_grown : (ids : List IdBlock) (block : IdBlock) (next_id : ℕ) (rows : List Row) → next_id ≤ end_number ids → ProducersAreSound ids next_id rows → ProducersAreSound (with_block ids block) next_id rows
producers_grown ids block next_id rows left sound = record {
  openings_rise = sound.openings_rise;
  are_drawn = sound.are_drawn;
  single = sound.single;
  multicast = each_weak (MulticastIdIsDrawn ids next_id) (MulticastIdIsDrawn (with_block ids block) next_id) (grown ids block next_id left) rows sound.multicast;
  shared = sound.shared;
}

-- ---- one is appended

-- what the new connection's producer is: its own, as a point to point one's or the first of a group's, or that of
-- the group that it joins
pub data Produces (ids : List IdBlock) (next_id next : ℕ) (rows : List Row) (new : Row) : Type 0 where
  is_single : new.multicast ≡ false → producer_of new.state ≡ next_id → Produces ids next_id next rows new
  is_first : producer_of new.state ≡ next_id → new.t_o_id ≡ id_at ids (next_id + 1) → next_id + 1 < next → new.multicast ≡ true → Produces ids next_id next rows new
  is_joiner : (m : Row) → new.multicast ≡ true → find (is_member new.produced) rows ≡ Some m → SharesProducer new m → Produces ids next_id next rows new

-- it is opened now
pub record IsNext (next_id next : ℕ) (new : Row) : Type 0 where
  pub opening : new.opening ≡ next_id
  pub more : next_id < next

-- the connection was opened before
abbrev Earlier : ℕ → Row → Type 0
Earlier next_id row = row.opening < next_id

earlier : (ids : List IdBlock) (next_id : ℕ) (rows : List Row) → IdsAreDrawn ids next_id rows → Each (Earlier next_id) rows
earlier ids next_id rows drawn = each_weak (IsDrawn ids next_id) (Earlier next_id) (λ row is. is.below) rows drawn

before_new : (next_id next : ℕ) (new : Row) → IsNext next_id next new → (row : Row) → Earlier next_id row → OpensBefore row new
before_new next_id next new is row below = rw is.opening below

-- a producer of its own is no other's
own_share : (next_id : ℕ) (new : Row) → producer_of new.state ≡ next_id → (row : Row) → ProducerIsDrawn next_id row → ShareInGroup row new
own_share next_id new own row drawn = λ lives new_lives same. let below : producer_of row.state < next_id = (drawn lives).1 in absurd (omega arith)

back : (a b : Row) → ShareInGroup a b → ShareInGroup b a
back a b share = λ b_lives a_lives same.
    let group = share a_lives b_lives (sym same) in
    let shared = group.shared in
    record { first = group.second; second = group.first; input = sym group.input; shared = record { id = sym shared.id; api = sym shared.api; state = sym shared.state } }

itself : (point : ℕ) (m : Row) → is_member point m ≡ true → ShareInGroup m m
itself point m member = λ a_lives b_lives same.
    let parts = member_parts point m member in
    record { first = parts.1; second = parts.1; input = refl; shared = record { id = refl; api = refl; state = refl } }

joined_share : (new m : Row) → new.multicast ≡ true → new.produced ≡ m.produced → is_established m ≡ true → SharesProducer new m → (row : Row) → ShareInGroup row m → ShareInGroup row new
joined_share new m many input m_lives shares row share = λ lives new_lives same.
    let group = share lives m_lives (same ∙ ap producer_of shares.state) in
    let shared = group.shared in
    record { first = group.first; second = many; input = group.input ∙ sym input; shared = record { id = shared.id ∙ sym shares.id; api = shared.api ∙ sym shares.api; state = shared.state ∙ sym shares.state } }

-- what holds of the new one
record Begins (ids : List IdBlock) (next : ℕ) (rows : List Row) (new : Row) : Type 0 where
  drawn : ProducerIsDrawn next new
  single : SingleHasItsOwn new
  multicast : MulticastIdIsDrawn ids next new
  share : Each (λ row. ShareInGroup row new) rows

begins : (ids : List IdBlock) (next_id next : ℕ) (rows : List Row) (new : Row) → IsNext next_id next new → Produces ids next_id next rows new → IdsAreDrawn ids next_id rows → ProducersAreSound ids next_id rows → Begins ids next rows new
begins ids next_id next rows new is (is_single alone own) drawn_ids sound =
    let opening = is.opening in
    let more = is.more in
    record {
      drawn = λ lives. (omega arith, omega arith);
      single = λ lives alone'. own ∙ sym is.opening;
      multicast = λ lives many. absurd cc;
      share = each_weak (ProducerIsDrawn next_id) (λ row. ShareInGroup row new) (own_share next_id new own) rows sound.are_drawn;
    }
begins ids next_id next rows new is (is_first own id left many) drawn_ids sound =
    let opening = is.opening in
    let more = is.more in
    record {
      drawn = λ lives. (omega arith, omega arith);
      single = λ lives alone. own ∙ sym is.opening;
      multicast = λ lives many'. (id ∙ ap (λ (n : ℕ). id_at ids (n + 1)) (sym own), omega arith);
      share = each_weak (ProducerIsDrawn next_id) (λ row. ShareInGroup row new) (own_share next_id new own) rows sound.are_drawn;
    }
begins ids next_id next rows new is (is_joiner m many found shares) drawn_ids sound =
    let opening = is.opening in
    let more = is.more in
    let member = found_passes (is_member new.produced) rows m found in
    let parts = member_parts new.produced m member in
    let same : producer_of new.state ≡ producer_of m.state = ap producer_of shares.state in
    let drawn = each_found (ProducerIsDrawn next_id) (is_member new.produced) rows m found sound.are_drawn parts.0 in
    let below : producer_of m.state < next_id = drawn.1 in
    let named = each_found (MulticastIdIsDrawn ids next_id) (is_member new.produced) rows m found sound.multicast parts.0 parts.1 in
    let left : producer_of m.state + 1 < next_id = named.1 in
    record {
      drawn = λ lives. (omega arith, omega arith);
      single = λ lives alone. absurd cc;
      multicast = λ lives many'. (shares.id ∙ named.0 ∙ ap (λ (n : ℕ). id_at ids (n + 1)) (sym same), omega arith);
      share =
          each_weak (λ row. ShareInGroup row m) (λ row. ShareInGroup row new) (joined_share new m many (sym (produced_is new.produced m member)) parts.0 shares) rows
          (two_found ShareInGroup back (is_member new.produced) rows m found (itself new.produced m member) sound.shared);
    }

-- those that pass a test are left
pub producers_opened : (p : Row → Bool) (ids : List IdBlock) (next_id next : ℕ) (rows : List Row) (new : Row) → IsNext next_id next new → Produces ids next_id next rows new → IdsAreDrawn ids next_id rows → ProducersAreSound ids next_id rows → ProducersAreSound ids next (filter p rows ++ new ∷ [])
producers_opened p ids next_id next rows new is produces drawn sound =
    let begin = begins ids next_id next rows new is produces drawn sound in
    let more = is.more in
    let later = producers_later ids next_id next (filter p rows) (omega arith) (producers_filter p ids next_id rows sound) in
    record {
      openings_rise =
          two_append OpensBefore (filter p rows) new later.openings_rise
          (each_filter (λ row. OpensBefore row new) p rows (each_weak (Earlier next_id) (λ row. OpensBefore row new) (before_new next_id next new is) rows (earlier ids next_id rows drawn)));
      are_drawn = each_append (ProducerIsDrawn next) (filter p rows) new later.are_drawn begin.drawn;
      single = each_append SingleHasItsOwn (filter p rows) new later.single begin.single;
      multicast = each_append (MulticastIdIsDrawn ids next) (filter p rows) new later.multicast begin.multicast;
      shared = two_append ShareInGroup (filter p rows) new later.shared (each_filter (λ row. ShareInGroup row new) p rows begin.share);
    }
