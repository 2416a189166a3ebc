-- Changes that leave each connection counted as it was.
use Rattle.std.proofs.Common.{◌≡◌, ℕ, Bool, true, false, cond, ◌==◌, List, [], ◌∷◌, map, filter, find, length, Option, Some, None, refl, sym, ap, ◌∙◌, arith}
use Rattle.cip_types.specs.declared.names.Ms.{Ms}
use Rattle.cip_types.specs.declared.names.Node.{Node}
use Rattle.cip_datagram.specs.Datagram.{DatagramFields}
use Rattle.cip_events.specs.Answers.{is_accepted}
use Rattle.cip_productions.specs.declared.kind.Kind.TheVariants.{ListenOnly}
use Rattle.cip_productions.specs.Productions.{produced, is_production_due}
use Rattle.adapter_table.specs.declared.profile.Profile.{Profile}
use Rattle.adapter_table.specs.Connections.{Row}
use Rattle.adapter_table.specs.declared.row.State.{State}
use Rattle.adapter_table.specs.declared.row.State.TheVariants.{Established, TimedOut}
use Rattle.adapter_table.specs.Rows.{lives, is_established, drives, supports, written_state, written_row}
use Rattle.adapter_table.specs.Datagrams.{is_for, row_delivery, accepted_row, accepted_if_for}
use Rattle.adapter_table.specs.Productions.{produced_state, produced_row, changed_state, changed_row}
use Rattle.std.specs.List.{list_any}
use Rattle.conn_slab.specs.Connections.{is_listening}
use Rattle.conn_slab.specs.Reception.{reception}
use Rattle.app_rules.specs.Counts.{Counts, is_driver, is_supporter, AreCounted}

-- what a connection is counted by stays
pub record KeepsCounted (row changed : Row) : Type 0 where
  pub established : is_established changed ≡ is_established row
  pub kind : changed.kind ≡ row.kind
  pub consumed : changed.consumed ≡ row.consumed
  pub produced : changed.produced ≡ row.produced
  pub multicast : changed.multicast ≡ row.multicast

drives_kept : (row changed : Row) (point : ℕ) → KeepsCounted row changed → drives point changed ≡ drives point row
drives_kept row changed point keeps = rw (keeps.established, keeps.kind, keeps.consumed) refl

supports_kept : (row changed : Row) (point : ℕ) → KeepsCounted row changed → supports ListenOnly point changed ≡ supports ListenOnly point row
supports_kept row changed point keeps = rw (keeps.established, keeps.multicast, keeps.produced, keeps.kind) refl

driver_kept : (row changed : Row) → KeepsCounted row changed → is_driver changed ≡ is_driver row
driver_kept row changed keeps = ap (λ (n : ℕ). drives n changed) keeps.consumed ∙ drives_kept row changed row.consumed keeps

supporter_kept : (row changed : Row) → KeepsCounted row changed → is_supporter changed ≡ is_supporter row
supporter_kept row changed keeps = ap (λ (n : ℕ). supports ListenOnly n changed) keeps.produced ∙ supports_kept row changed row.produced keeps

filter_kept : (f : Row → Row) (test : Row → Bool) → ((row : Row) → test (f row) ≡ test row) → (rows : List Row) → length (filter test (map f rows)) ≡ length (filter test rows)
filter_kept f test same [] = refl
filter_kept f test same (row ∷ rows) = rw (same row) (split (test row) (filter_kept f test same rows))
  where
    split : (b : Bool) → length (filter test (map f rows)) ≡ length (filter test rows) → length (cond b (f row ∷ filter test (map f rows)) (filter test (map f rows))) ≡ length (cond b (row ∷ filter test rows) (filter test rows))
    split true rest = omega arith
    split false rest = rest

counted_mapped : (f : Row → Row) → ((row : Row) → KeepsCounted row (f row)) → (counts : Counts) (rows : List Row) → AreCounted counts rows → AreCounted counts (map f rows)
counted_mapped f keeps counts rows counted = record {
  owners = λ point. counted.owners point ∙ sym (filter_kept f (drives point) (λ row. drives_kept row (f row) point (keeps row)) rows);
  supporters = λ point. counted.supporters point ∙ sym (filter_kept f (supports ListenOnly point) (λ row. supports_kept row (f row) point (keeps row)) rows);
  all_owners = counted.all_owners ∙ sym (filter_kept f is_driver (λ row. driver_kept row (f row) (keeps row)) rows);
  all_supporters = counted.all_supporters ∙ sym (filter_kept f is_supporter (λ row. supporter_kept row (f row) (keeps row)) rows);
}

-- ---- the changes

produced_lives : (clock : Ms) (api : ℕ) (state : State) → lives (produced_state clock api state) ≡ lives state
produced_lives clock api TimedOut = refl
produced_lives clock api (Established production) = split (is_production_due clock production)
  where
    split : (b : Bool) → lives (cond b (Established (produced clock api production)) (Established production)) ≡ true
    split true = refl
    split false = refl

pub produced_counted : (clock : Ms) (counts : Counts) (rows : List Row) → AreCounted counts rows → AreCounted counts (map (produced_row clock) rows)
produced_counted clock counts rows counted =
    counted_mapped (produced_row clock) (λ row. record { established = produced_lives clock row.t_o_api_ms row.state; kind = refl; consumed = refl; produced = refl; multicast = refl }) counts rows counted

written_lives : (state : State) → lives (written_state state) ≡ lives state
written_lives TimedOut = refl
written_lives (Established production) = refl

written_keeps : (b : Bool) (row : Row) → KeepsCounted row (cond b (record row { state = written_state row.state }) row)
written_keeps true row = record { established = written_lives row.state; kind = refl; consumed = refl; produced = refl; multicast = refl }
written_keeps false row = record { established = refl; kind = refl; consumed = refl; produced = refl; multicast = refl }

changed_lives : (clock : Ms) (api : ℕ) (state : State) → lives (changed_state clock api state) ≡ lives state
changed_lives clock api TimedOut = refl
changed_lives clock api (Established production) = refl

changed_keeps : (b : Bool) (clock : Ms) (row : Row) → KeepsCounted row (cond b (record row { state = changed_state clock row.t_o_api_ms row.state }) row)
changed_keeps true clock row = record { established = changed_lives clock row.t_o_api_ms row.state; kind = refl; consumed = refl; produced = refl; multicast = refl }
changed_keeps false clock row = record { established = refl; kind = refl; consumed = refl; produced = refl; multicast = refl }

pub changed_counted : (clock : Ms) (point : ℕ) (counts : Counts) (rows : List Row) → AreCounted counts rows → AreCounted counts (map (changed_row clock point) (map (written_row point) rows))
changed_counted clock point counts rows counted =
    counted_mapped (changed_row clock point) (λ row. changed_keeps (row.produced == point) clock row) counts (map (written_row point) rows)
    (counted_mapped (written_row point) (λ row. written_keeps (row.produced == point) row) counts rows counted)

accepted_keeps : (b : Bool) (clock : Ms) (d : DatagramFields) (row : Row) → KeepsCounted row (cond b (accepted_row clock d row) row)
accepted_keeps true clock d row = record { established = refl; kind = refl; consumed = refl; produced = refl; multicast = refl }
accepted_keeps false clock d row = record { established = refl; kind = refl; consumed = refl; produced = refl; multicast = refl }

received_if : (b : Bool) (clock : Ms) (peer : Node) (d : DatagramFields) (counts : Counts) (rows : List Row) → AreCounted counts rows → AreCounted counts (cond b (map (accepted_if_for clock peer d) rows) rows)
received_if true clock peer d counts rows counted = counted_mapped (accepted_if_for clock peer d) (λ row. accepted_keeps (is_for peer d.connection row) clock d row) counts rows counted
received_if false clock peer d counts rows counted = counted

received_found : (profile : Profile) (clock : Ms) (peer : Node) (d : DatagramFields) (counts : Counts) (rows : List Row) (o : Option Row) → AreCounted counts rows → AreCounted counts (reception profile clock peer d o rows)
received_found profile clock peer d counts rows None counted = counted
received_found profile clock peer d counts rows (Some row) counted = received_if (is_accepted (row_delivery profile clock row d)) clock peer d counts rows counted

pub received_counted : (profile : Profile) (clock : Ms) (peer : Node) (d : DatagramFields) (counts : Counts) (rows : List Row) → AreCounted counts rows → AreCounted counts (reception profile clock peer d (find (is_for peer d.connection) rows) rows)
received_counted profile clock peer d counts rows counted = received_found profile clock peer d counts rows (find (is_for peer d.connection) rows) counted

-- ---- listen-only connections stay

listens_kept : (row changed : Row) → KeepsCounted row changed → is_listening changed ≡ is_listening row
listens_kept row changed keeps = rw (keeps.established, keeps.kind) refl

any_mapped : (test : Row → Bool) (f : Row → Row) → ((row : Row) → test (f row) ≡ test row) → (rows : List Row) → list_any test (map f rows) ≡ list_any test rows
any_mapped test f same [] = refl
any_mapped test f same (row ∷ rows) = rw (same row, any_mapped test f same rows) refl

pub produced_listen : (clock : Ms) (rows : List Row) → list_any is_listening (map (produced_row clock) rows) ≡ list_any is_listening rows
produced_listen clock rows =
    any_mapped is_listening (produced_row clock) (λ row. listens_kept row (produced_row clock row) (record { established = produced_lives clock row.t_o_api_ms row.state; kind = refl; consumed = refl; produced = refl; multicast = refl })) rows

pub changed_listen : (clock : Ms) (point : ℕ) (rows : List Row) → list_any is_listening (map (changed_row clock point) (map (written_row point) rows)) ≡ list_any is_listening rows
changed_listen clock point rows =
    any_mapped is_listening (changed_row clock point) (λ row. listens_kept row (changed_row clock point row) (changed_keeps (row.produced == point) clock row)) (map (written_row point) rows)
    ∙ any_mapped is_listening (written_row point) (λ row. listens_kept row (written_row point row) (written_keeps (row.produced == point) row)) rows

listen_if : (b : Bool) (clock : Ms) (peer : Node) (d : DatagramFields) (rows : List Row) → list_any is_listening (cond b (map (accepted_if_for clock peer d) rows) rows) ≡ list_any is_listening rows
listen_if true clock peer d rows = any_mapped is_listening (accepted_if_for clock peer d) (λ row. listens_kept row (accepted_if_for clock peer d row) (accepted_keeps (is_for peer d.connection row) clock d row)) rows
listen_if false clock peer d rows = refl

listen_found : (profile : Profile) (clock : Ms) (peer : Node) (d : DatagramFields) (rows : List Row) (o : Option Row) → list_any is_listening (reception profile clock peer d o rows) ≡ list_any is_listening rows
listen_found profile clock peer d rows None = refl
listen_found profile clock peer d rows (Some row) = listen_if (is_accepted (row_delivery profile clock row d)) clock peer d rows

pub received_listen : (profile : Profile) (clock : Ms) (peer : Node) (d : DatagramFields) (rows : List Row) → list_any is_listening (reception profile clock peer d (find (is_for peer d.connection) rows) rows) ≡ list_any is_listening rows
received_listen profile clock peer d rows = listen_found profile clock peer d rows (find (is_for peer d.connection) rows)
