-- Connections that receive a datagram.
use Rattle.std.proofs.Common.{◌≡◌, ◌≤◌, ◌==◌, ◌∙◌, ◌&&◌, ℕ, Bool, true, false, cond, Option, Some, None, List, [], ◌∷◌, find, map, length, is_some, sym, ap, subst, refl}
use Rattle.std.specs.List.{AllByRecursion}
use Rattle.std.specs.Option.{option_map}
use Rattle.std.specs.Map.{lookup}
use Rattle.std.proofs.lemmas.List.{length-map}
use Rattle.slab.specs.Slab.{Slab, get, with_value}
use Rattle.slab.proofs.SlabLemmas.{Updates-with_value}
use Rattle.cip_types.specs.declared.names.Node.{Node}
use Rattle.cip_types.specs.declared.names.Ms.{Ms}
use Rattle.cip_datagram.specs.Datagram.{DatagramFields}
use Rattle.cip_events.specs.Answers.{is_accepted}
use Rattle.mcast_pool.specs.declared.group.Group.{Group}
use Rattle.mcast_pool.specs.Groups.{numbered}
use Rattle.adapter_table.specs.declared.profile.Profile.{Profile}
use Rattle.adapter_table.specs.Connections.{Row}
use Rattle.adapter_table.specs.declared.row.Connection.{Connection}
use Rattle.adapter_table.specs.Datagrams.{is_for, expected_len, accepted_delivery, row_delivery, accepted_row, accepted_if_for}
use Rattle.adapter_table.specs.Whole.{FitsRow, RowsFit}
use Rattle.conn_slab.specs.declared.record.TriadKey.{TriadKey}
use Rattle.conn_slab.specs.declared.record.Source.{Source}
use Rattle.conn_slab.specs.Index.{items_of}
use Rattle.conn_slab.specs.Records.{Record, row_of, key_of, source_of, same_source}
use Rattle.conn_slab.specs.Layout.{IsConsistent, IsServed, IsBalanced, SharesBy, SharesFound, members, established, running_key}
use Rattle.conn_slab.specs.Reception.{IsReceivedBy, reception, received_row}
use Rattle.conn_slab.specs.declared.reception.Received.{Received}
use Rattle.adapter_table.specs.declared.acceptance.Judgement.{Judgement}
use Rattle.adapter_table.specs.declared.acceptance.Judgement.TheVariants as judged
use Rattle.adapter_table.specs.Judging.{IsJudged, judged_delivery}
use Rattle.cip_events.specs.declared.event.Delivery.{Delivery}
use Rattle.cip_events.specs.declared.event.Delivery.TheVariants.{Old, WrongSize}
use Rattle.adapter_table.specs.StatedLimits.{accepts_at}
use Rattle.conn_slab.proofs.Running.{runs, by_source, nobody, somebody, target_is, rows_changed, filed_changed, items_changed}
use Rattle.conn_slab.proofs.RowLemmas.{find_rows}

some_is : {X : Type 0} {a b : X} → Some a ≡ Some b → a ≡ b
some_is e = cc

-- what is found is within its limits
pub found_fits : (test : Row → Bool) (rows : List Row) (row : Row) → find test rows ≡ Some row → RowsFit rows → FitsRow row
found_fits test [] row is fit = absurd cc
found_fits test (x ∷ rows) row is fit = split (test x) refl (λ found. found_fits test rows row found fit.1)
  where
    split : (b : Bool) → test x ≡ b → (find test rows ≡ Some row → FitsRow row) → FitsRow row
    split true passes rest = subst FitsRow (some_is (sym (ap (λ b. cond b (Some x) (find test rows)) passes) ∙ is)) fit.0
    split false fails rest = rest (sym (ap (λ b. cond b (Some x) (find test rows)) fails) ∙ is)

-- ---- a change that leaves records with their producers

pub record KeepsProducer (pool : List Group) (change : Record → Record) : Type 0 where
  pub producer : (r : Record) → (change r).state ≡ r.state
  pub served : (r : Record) → IsServed pool r → IsServed pool (change r)

pub kept_balance : (pool : List Group) (change : Record → Record) (rs : List Record) → KeepsProducer pool change → IsBalanced pool rs → IsBalanced pool (map change rs)
kept_balance pool change rs keeps balanced = record {
  served = served rs balanced.served;
  counted = λ n. balanced.counted n ∙ sym (counts n rs);
  sum = balanced.sum ∙ sym (sums rs);
}
  where
    served : (l : List Record) → AllByRecursion (IsServed pool) l → AllByRecursion (IsServed pool) (map change l)
    served [] all = tt
    served (r ∷ l) all = (keeps.served r all.0, served l all.1)

    counts : (n : ℕ) (l : List Record) → members n (map change l) ≡ members n l
    counts n [] = refl
    counts n (r ∷ l) = rw (keeps.producer r, counts n l) refl

    sums : (l : List Record) → established (map change l) ≡ established l
    sums [] = refl
    sums (r ∷ l) = rw (keeps.producer r, sums l) refl

-- ---- a record that has accepted a datagram, or has not

shares_received : (pool : List Group) (clock : Ms) (d : DatagramFields) (r : Record) (n : Option ℕ) → SharesBy pool r n → SharesBy pool (accepted_row clock d r) n
shares_received pool clock d r None shares = tt
shares_received pool clock d r (Some n) shares = found (numbered n pool) shares
  where
    found : (o : Option Group) → SharesFound r o → SharesFound (accepted_row clock d r) o
    found None never = never
    found (Some group) s = record { api = s.api; point = s.point; id = s.id; shared = s.shared }

keeps_reception : (pool : List Group) (clock : Ms) (d : DatagramFields) (test : Record → Bool) (b : Bool) → KeepsProducer pool (λ r. cond (test r) (cond b (accepted_row clock d r) r) r)
keeps_reception pool clock d test b = record { producer = λ r. producer (test r) b r; served = λ r s. served (test r) b r s }
  where
    producer : (a b : Bool) (r : Record) → (cond a (cond b (accepted_row clock d r) r) r).state ≡ r.state
    producer true true r = refl
    producer true false r = refl
    producer false b r = refl

    served : (a b : Bool) (r : Record) → IsServed pool r → IsServed pool (cond a (cond b (accepted_row clock d r) r) r)
    served true true r s = shares_received pool clock d r r.state s
    served true false r s = s
    served false b r s = s

same_key_after : (clock : Ms) (d : DatagramFields) (b : Bool) (r : Record) → key_of (cond b (accepted_row clock d r) r) ≡ key_of r
same_key_after clock d true r = refl
same_key_after clock d false r = refl

same_source_after : (clock : Ms) (d : DatagramFields) (b : Bool) (r : Record) → source_of (cond b (accepted_row clock d r) r) ≡ source_of r
same_source_after clock d true r = refl
same_source_after clock d false r = refl

row_after : (pool : List Group) (clock : Ms) (d : DatagramFields) (b : Bool) (r : Record) → row_of pool (cond b (accepted_row clock d r) r) ≡ cond b (accepted_row clock d (row_of pool r)) (row_of pool r)
row_after pool clock d true r = refl
row_after pool clock d false r = refl

unchanged : (test : Row → Bool) (rows : List Row) → map (λ row. cond (test row) row row) rows ≡ rows
unchanged test [] = refl
unchanged test (row ∷ rows) = rw (same (test row), unchanged test rows) refl
  where
    same : (b : Bool) → cond b row row ≡ row
    same true = refl
    same false = refl

rows_after : (clock : Ms) (peer : Node) (d : DatagramFields) (b : Bool) (rows : List Row) → map (λ row. cond (is_for peer d.connection row) (cond b (accepted_row clock d row) row) row) rows ≡ cond b (map (accepted_if_for clock peer d) rows) rows
rows_after clock peer d true rows = refl
rows_after clock peer d false rows = unchanged (is_for peer d.connection) rows

-- the state is of no account
pub received_by : (profile : Profile) (clock : Ms) (d : DatagramFields) (pool : List Group) (r : Record) (received : Received) → IsReceivedBy profile clock d r received → IsReceivedBy profile clock d (row_of pool r) received
received_by profile clock d pool r received is = record { judgement = is.judgement; consumed = is.consumed; deadline = is.deadline }

-- the delivery of a judgement is what is judged
pub judged_says : (said : Delivery) (bytes : List ℕ) (judgement : Judgement) → IsJudged said bytes judgement → judged_delivery judgement ≡ said
judged_says said bytes (judged.Applied lent) is = sym is.0
judged_says said bytes judged.Idle is = sym is
judged_says said bytes judged.Heartbeat is = sym is
judged_says said bytes judged.Duplicate is = sym is
judged_says said bytes judged.Old is = sym is
judged_says said bytes judged.WrongSize is = sym is

-- an accepted datagram has the connection's size and is newer than the last one
pub accepted_is : {P : Type 0} (profile : Profile) (clock : Ms) (row : Connection P) (d : DatagramFields) → is_accepted (row_delivery profile clock row d) ≡ true → row_delivery profile clock row d ≡ accepted_delivery row d
accepted_is profile clock row d = split (length d.payload == expected_len profile row) (accepts_at profile.limits.newer clock row d.sequence)
  where
    split : (size newer : Bool) → is_accepted (cond size (cond newer (accepted_delivery row d) Old) WrongSize) ≡ true → cond size (cond newer (accepted_delivery row d) Old) WrongSize ≡ accepted_delivery row d
    split true true is = refl
    split true false is = absurd cc
    split false newer is = absurd cc

module _ (slab : Slab Record) (triads : List (TriadKey × ℕ)) (sources : List (Source × ℕ)) (pool : List Group) (consistent : IsConsistent slab triads sources pool) where
  pub unreceived : (peer : Node) (id : ℕ) → running_key slab (lookup (same_source (record { peer = peer.0; id = id })) sources) ≡ None → find (is_for peer id) (map (row_of pool) (items_of slab triads)) ≡ None
  unreceived peer id none =
      let place : Source = record { peer = peer.0; id = id } in
      let removed = nobody slab triads sources consistent.filed (λ r. same_source place (source_of r)) (lookup (same_source place) sources) (by_source slab triads sources consistent.filed place) none in
      find_rows (row_of pool) (is_for peer id) (λ r. same_source place (source_of r) && runs r) (target_is pool peer id) (items_of slab triads) ∙ ap (option_map (row_of pool)) removed

  module _ (profile : Profile) (clock : Ms) (peer : Node) (d : DatagramFields) (key number : ℕ) (r : Record) (is : running_key slab (lookup (same_source (record { peer = peer.0; id = d.connection })) sources) ≡ Some (key, number)) (stored : get slab key ≡ Some r) where
    pub received_found : find (is_for peer d.connection) (map (row_of pool) (items_of slab triads)) ≡ Some (row_of pool r)
    received_found =
        let place : Source = record { peer = peer.0; id = d.connection } in
        let test : Record → Bool = λ x. same_source place (source_of x) in
        let way = somebody slab triads sources consistent.filed test (lookup (same_source place) sources) (by_source slab triads sources consistent.filed place) key number is in
        find_rows (row_of pool) (is_for peer d.connection) (λ x. test x && runs x) (target_is pool peer d.connection) (items_of slab triads)
        ∙ ap (option_map (row_of pool)) (way.found_is ∙ sym way.stored ∙ stored)

    received_items : (b : Bool) → items_of (with_value slab key (cond b (accepted_row clock d r) r)) triads
        ≡ map (λ x. cond (same_source (record { peer = peer.0; id = d.connection }) (source_of x) && runs x) (cond b (accepted_row clock d x) x) x) (items_of slab triads)
    received_items b =
        let place : Source = record { peer = peer.0; id = d.connection } in
        let change : Record → Record = λ x. cond b (accepted_row clock d x) x in
        items_changed slab triads sources consistent.filed (λ x. same_source place (source_of x)) (lookup (same_source place) sources) (by_source slab triads sources consistent.filed place) key number is
        (with_value slab key (change r)) r change stored (Updates-with_value slab key (change r) (ap is_some stored)) (same_key_after clock d b r) (same_source_after clock d b r)

    received_consistent : (b : Bool) → IsConsistent (with_value slab key (cond b (accepted_row clock d r) r)) triads sources pool
    received_consistent b =
        let place : Source = record { peer = peer.0; id = d.connection } in
        let change : Record → Record = λ x. cond b (accepted_row clock d x) x in
        let test : Record → Bool = λ x. same_source place (source_of x) && runs x in
        let items = received_items b in
        record {
          filed = filed_changed slab triads sources consistent.filed (λ x. same_source place (source_of x)) (lookup (same_source place) sources) (by_source slab triads sources consistent.filed place) key number is
              (with_value slab key (change r)) r change stored (Updates-with_value slab key (change r) (ap is_some stored)) (same_key_after clock d b r) (same_source_after clock d b r);
          balanced = subst (IsBalanced pool) (sym items) (kept_balance pool (λ x. cond (test x) (change x) x) (items_of slab triads) (keeps_reception pool clock d test b) consistent.balanced);
          few = subst (λ (n : ℕ). n ≤ 64) (sym (ap (λ (l : List Record). length l) items ∙ length-map (items_of slab triads) (λ x. cond (test x) (change x) x))) consistent.few;
        }

    pub received_kept : IsConsistent (with_value slab key (received_row profile clock d r)) triads sources pool
    received_kept = received_consistent (is_accepted (row_delivery profile clock r d))

    pub received_rows : map (row_of pool) (items_of (with_value slab key (received_row profile clock d r)) triads)
        ≡ reception profile clock peer d (find (is_for peer d.connection) (map (row_of pool) (items_of slab triads))) (map (row_of pool) (items_of slab triads))
    received_rows =
        let place : Source = record { peer = peer.0; id = d.connection } in
        let test : Record → Bool = λ x. same_source place (source_of x) && runs x in
        let rows = map (row_of pool) (items_of slab triads) in
        let b = is_accepted (row_delivery profile clock r d) in
        ap (map (row_of pool)) (received_items b)
        ∙ rows_changed (row_of pool) (is_for peer d.connection) test (λ row. cond b (accepted_row clock d row) row) (λ x. cond b (accepted_row clock d x) x) (target_is pool peer d.connection) (row_after pool clock d b) (items_of slab triads)
        ∙ rows_after clock peer d b rows
        ∙ ap (λ (o : Option Row). reception profile clock peer d o rows) (sym received_found)
