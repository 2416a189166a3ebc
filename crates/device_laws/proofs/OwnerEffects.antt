-- Each effect on a table leaves an output its owner, unless a notice reports that the owner has ended.
use Rattle.std.proofs.Common.{◌≡◌, ◌≤◌, ℕ, ◌+◌, ◌==◌, nat_le, Bool, true, false, cond, not, ◌&&◌, List, [], ◌∷◌, length, map, filter, find, Option, Some, None, refl, sym, ◌∙◌, ap, subst, arith}
use Rattle.std.specs.List.{list_any}
use Rattle.std.proofs.lemmas.Bool.{and_parts, or_parts, not_from_false}
use Rattle.std.proofs.lemmas.Bool.Decides.{nat_tests}
use Rattle.std.proofs.lemmas.List.Folds.{list_any-append}
use Rattle.adapter_table.specs.Lemmas.LikeLemmas.{lives_written, lives_due, lives_changed}
use Rattle.adapter_table.specs.Lemmas.DriverLemmas.{owner_listens_not}
use Rattle.base_lemmas.specs.Lists.{found_passes}
use Rattle.cip_types.specs.declared.names.Ms.{Ms}
use Rattle.cip_types.specs.declared.names.Node.{Node}
use Rattle.cip_types.specs.declared.names.Triad.{Triad}
use Rattle.cip_datagram.specs.Datagram.{DatagramFields}
use Rattle.cip_events.specs.declared.event.Delivery.{Delivery}
use Rattle.cip_events.specs.declared.event.Notice.{Notice}
use Rattle.cip_fwdopen.specs.Open.{OpenFields}
use Rattle.cip_productions.specs.Kinds.{is_owner, is_listener}
use Rattle.adapter_table.specs.Connections.{Row}
use Rattle.adapter_table.specs.declared.row.State.{State}
use Rattle.adapter_table.specs.declared.row.State.TheVariants.{TimedOut}
use Rattle.adapter_table.specs.declared.table.AdapterTable.{AdapterTable}
use Rattle.adapter_table.specs.Rows.{most_rows, lives, is_established, is_timed_out, is_supported, same_triad, has_triad, holds_triad, drives, drivers, others, written_state, written_row}
use Rattle.adapter_table.specs.Checks.{Admitted}
use Rattle.adapter_table.specs.Opening.{is_replaced, is_replaced_by, is_opened_as, opened_row, opened_table}
use Rattle.adapter_table.specs.Closing.{without_triad, stays, unsupported, staying, dropped_notice, closed_table, closed_notices}
use Rattle.adapter_table.specs.Datagrams.{is_for, accepted_if_for, accepted_table, accepted_row}
use Rattle.adapter_table.specs.Productions.{produced_state, produced_row, changed_state, changed_row}
use Rattle.adapter_table.specs.Ticks.{by_deadline, has_expired, expired, expired_rows, expired_notice, expiry_notices, clocked_table, expired_table, produced_table}
use Rattle.adapter_table.specs.Step.{written_table, changed_table}
use Rattle.adapter_table.specs.Sound.{OpensBefore, OpeningsRise}
use Rattle.adapter_table.specs.EachLemmas.{two_weak, two_found}
use Rattle.device_laws.specs.Turns.{reports_end, has_ended, opening_of}
use Rattle.device_laws.proofs.OneOwner.{left_alone, alone_holds, alone_fails, alone_passes, alone_before, any_in_order, any_mapped}

-- the opening numbers of the drivers of an output
abbrev pub openings : ℕ → List Row → List ℕ
openings point rows = map opening_of (drivers point rows)

-- the only driver of an output is its only driver in the next table, unless a notice reports its end
abbrev pub KeepsOwner : ℕ → AdapterTable → List Notice → AdapterTable → Type 0
KeepsOwner point t notices next =
    (row : Row) → drivers point t.rows ≡ row ∷ [] → has_ended notices row ≡ false → openings point next.rows ≡ row.opening ∷ []

-- it holds if the connections stay as they are
pub unchanged : (point : ℕ) (t : AdapterTable) (notices : List Notice) → KeepsOwner point t notices t
unchanged point t notices = λ row alone lasts. ap (map opening_of) alone

-- ---- changes of single connections

-- the second drives what the first drives, and was opened as it
pub record IsAlike (point : ℕ) (old new : Row) : Type 0 where
  pub drives : drives point new ≡ drives point old
  pub opening : new.opening ≡ old.opening

mapped_step : (b : Bool) (old new : Row) (rows news : List Row) → new.opening ≡ old.opening → map opening_of news ≡ map opening_of rows → map opening_of (cond b (new ∷ news) news) ≡ map opening_of (cond b (old ∷ rows) rows)
mapped_step true old new rows news opened rest = rw (opened, rest) refl
mapped_step false old new rows news opened rest = rest

openings_mapped : (point : ℕ) (f : Row → Row) → ((row : Row) → IsAlike point row (f row)) → (rows : List Row) → openings point (map f rows) ≡ openings point rows
openings_mapped point f alike [] = refl
openings_mapped point f alike (row ∷ rows) =
    rw ((alike row).drives)
    (mapped_step (drives point row) row (f row) (drivers point rows) (drivers point (map f rows)) (alike row).opening (openings_mapped point f alike rows))

stated : (point : ℕ) (row : Row) (state : State) → lives state ≡ lives row.state → IsAlike point row (record row { state = state })
stated point row state same = record { drives = rw same refl; opening = refl }

chosen : (b : Bool) (point : ℕ) (row new : Row) → IsAlike point row new → IsAlike point row (cond b new row)
chosen true point row new alike = alike
chosen false point row new alike = record { drives = refl; opening = refl }

alike_written : (point input : ℕ) (row : Row) → IsAlike point row (written_row input row)
alike_written point input row = chosen (row.produced == input) point row (record row { state = written_state row.state }) (stated point row (written_state row.state) (lives_written row.state))

alike_changed : (point input : ℕ) (clock : Ms) (row : Row) → IsAlike point row (changed_row clock input row)
alike_changed point input clock row = chosen (row.produced == input) point row (record row { state = changed_state clock row.t_o_api_ms row.state }) (stated point row (changed_state clock row.t_o_api_ms row.state) (lives_changed clock row.t_o_api_ms row.state))

alike_produced : (point : ℕ) (clock : Ms) (row : Row) → IsAlike point row (produced_row clock row)
alike_produced point clock row = stated point row (produced_state clock row.t_o_api_ms row.state) (lives_due clock row.t_o_api_ms row.state)

pub keeps_fed : (point : ℕ) (t : AdapterTable) (peer : Node) (d : DatagramFields) (to : Row) (delivery : Delivery) (notices : List Notice) → KeepsOwner point t notices (accepted_table t peer d to delivery)
unfolding accepted_table
keeps_fed point t peer d to delivery notices = λ row alone lasts.
    openings_mapped point (accepted_if_for t.clock peer d) (λ r. chosen (is_for peer d.connection r) point r (accepted_row t.clock d r) (record { drives = refl; opening = refl })) t.rows
    ∙ ap (map opening_of) alone

pub keeps_written : (point : ℕ) (t : AdapterTable) (input : ℕ) (bytes : List ℕ) (notices : List Notice) → KeepsOwner point t notices (changed_table (written_table t input bytes) input)
unfolding written_table changed_table
keeps_written point t input bytes notices = λ row alone lasts.
    openings_mapped point (changed_row t.clock input) (alike_changed point input t.clock) (map (written_row input) t.rows)
    ∙ openings_mapped point (written_row input) (alike_written point input) t.rows
    ∙ ap (map opening_of) alone

-- ---- removed listeners

driver_is : (point : ℕ) (row : Row) → drives point row ≡ true → (is_established row ≡ true) × (is_owner row.kind ≡ true)
driver_is point row is =
    let parts = and_parts (is_established row) _ is in
    (parts.0, (and_parts (is_owner row.kind) _ parts.1).0)

driver_stays : (point : ℕ) (rows : List Row) (row : Row) → drives point row ≡ true → stays rows row ≡ true
driver_stays point rows row is = stays_step (is_established row) (is_listener row.kind) (not (is_supported rows row.kind row.produced)) (owner_listens_not row.kind (driver_is point row is).1) where
  stays_step : (a b c : Bool) → b ≡ false → not (a && (b && c)) ≡ true
  stays_step true true c h = absurd cc
  stays_step true false c h = refl
  stays_step false b c h = refl

-- the only driver is the only one among those that remain
staying_alone : (point : ℕ) (rows : List Row) (row : Row) → drivers point rows ≡ row ∷ [] → drivers point (staying rows) ≡ row ∷ []
staying_alone point rows row alone = left_alone (stays rows) (drives point) rows row alone (driver_stays point rows row (alone_passes (drives point) rows row alone))

-- ---- a close

-- a notice reports the closed connection by its triad
pub keeps_closed : (point : ℕ) (t : AdapterTable) (removed : Row) → KeepsOwner point t (closed_notices t.rows removed) (closed_table t removed)
unfolding closed_table
keeps_closed point t removed = λ row alone lasts.
    let other : has_triad removed.triad row ≡ false = (or_parts (same_triad row.triad removed.triad) _ lasts).0 in
    ap (map opening_of) (staying_alone point (without_triad removed.triad t.rows) row (left_alone (λ r. not (has_triad removed.triad r)) (drives point) t.rows row alone (not_from_false (has_triad removed.triad row) other)))

-- ---- an opening

-- a connection of the same opening number is the same one
abbrev SameOpening : Row → Row → Type 0
SameOpening a b = a.opening ≡ b.opening → a ≡ b

rising : (a b : Row) → OpensBefore a b → SameOpening a b
rising a b before = λ same. absurd (omega arith)

same_back : (a b : Row) → SameOpening a b → SameOpening b a
same_back a b is = λ same. sym (is (sym same))

-- the first timed-out connection is not an established one
first_is_other : (point : ℕ) (rows : List Row) (row : Row) (found : Option Row) → find is_timed_out rows ≡ found → drivers point rows ≡ row ∷ [] → OpeningsRise rows → is_opened_as found row ≡ false
first_is_other point rows row None is alone rise = refl
first_is_other point rows row (Some first) is alone rise = other_step (row.opening == first.opening) refl where
  other_step : (b : Bool) → (row.opening == first.opening) ≡ b → b ≡ false
  other_step true same =
      let number : row.opening ≡ first.opening = grind (arith, nat_tests) in
      let all = two_found SameOpening same_back is_timed_out rows first is (λ _. refl) (two_weak OpensBefore SameOpening rising rows rise) in
      let one : row ≡ first = alone_holds (λ r. SameOpening r first) (drives point) rows row alone all number in
      let dead : not (is_established row) ≡ true = subst (λ (r : Row). is_timed_out r ≡ true) (sym one) (found_passes is_timed_out rows first is) in
      let live = (driver_is point row (alone_passes (drives point) rows row alone)).0 in
      absurd (let e : not true ≡ true = subst (λ (b : Bool). not b ≡ true) live dead in cc)
  other_step false same = refl

and_other : (a b : Bool) → a ≡ true → (a && b) ≡ false → b ≡ false
and_other true b lives free = free
and_other false b lives free = absurd cc

-- no established connection is replaced for a triad that is free
replaced_is_other : (b c : Bool) (triad : Triad) (point : ℕ) (rows : List Row) (row : Row) → drivers point rows ≡ row ∷ [] → list_any (holds_triad triad) rows ≡ false → OpeningsRise rows → is_replaced_by b c (find is_timed_out rows) triad row ≡ false
replaced_is_other true c triad point rows row alone free rise =
    and_other (is_established row) (has_triad triad row) (driver_is point row (alone_passes (drives point) rows row alone)).0
    (alone_fails (drives point) (holds_triad triad) rows row alone free)
replaced_is_other false true triad point rows row alone free rise = first_is_other point rows row (find is_timed_out rows) refl alone rise
replaced_is_other false false triad point rows row alone free rise = refl

-- the replaced connection is no driver, and the new connection is none if the output has one
pub keeps_opened : (point : ℕ) (t : AdapterTable) (peer : Node) (request : OpenFields) (admitted : Admitted) (notices : List Notice) → list_any (holds_triad request.triad) t.rows ≡ false → OpeningsRise t.rows → length (drivers point (opened_table t (opened_row t peer request admitted) admitted).rows) ≤ 1 → KeepsOwner point t notices (opened_table t (opened_row t peer request admitted) admitted)
unfolding opened_table opened_row
keeps_opened point t peer request admitted notices free rise one = λ row alone lasts.
    let other = replaced_is_other (list_any (has_triad request.triad) t.rows) (nat_le most_rows (length t.rows)) request.triad point t.rows row alone free rise in
    let left = left_alone (λ r. not (is_replaced t.rows request.triad r)) (drives point) t.rows row alone (not_from_false (is_replaced t.rows request.triad row) other) in
    ap (map opening_of) (alone_before (drives point) (others (is_replaced t.rows request.triad) t.rows) (opened_row t peer request admitted) row left one)

-- ---- time

-- those that time out drive nothing
faded_step : (b : Bool) (point : ℕ) (row : Row) (rows left : List Row) → drivers point rows ≡ drivers point left → drivers point (cond b (record row { state = TimedOut }) row ∷ rows) ≡ drivers point (cond (not b) (row ∷ left) left)
faded_step true point row rows left rest = rest
faded_step false point row rows left rest = ap (λ (xs : List Row). cond (drives point row) (row ∷ xs) xs) rest

faded : (clock : Ms) (point : ℕ) (rows : List Row) → drivers point (expired_rows clock rows) ≡ drivers point (filter (λ row. not (has_expired clock row)) rows)
faded clock point [] = refl
faded clock point (row ∷ rows) = faded_step (has_expired clock row) point row (expired_rows clock rows) (filter (λ row. not (has_expired clock row)) rows) (faded clock point rows)

same_itself : (triad : Triad) → same_triad triad triad ≡ true
same_itself triad = grind (arith, nat_tests)

-- a notice reports each connection that times out
not_reported : (clock : Ms) (rows : List Row) (row : Row) → has_ended (expiry_notices clock rows) row ≡ false → list_any (λ (r : Row). same_triad row.triad r.triad) (filter (has_expired clock) rows) ≡ false
not_reported clock rows row lasts =
    let reported = list_any-append (reports_end row.triad) (map expired_notice (expired clock rows)) (map dropped_notice (unsupported (expired_rows clock rows))) in
    let first = (or_parts (list_any (reports_end row.triad) (map expired_notice (expired clock rows))) _ (sym reported ∙ lasts)).0 in
    sym (any_in_order by_deadline (λ (r : Row). same_triad row.triad r.triad) (filter (has_expired clock) rows))
    ∙ sym (any_mapped (reports_end row.triad) expired_notice (expired clock rows))
    ∙ first

not_expired : (clock : Ms) (point : ℕ) (rows : List Row) (row : Row) → drivers point rows ≡ row ∷ [] → has_ended (expiry_notices clock rows) row ≡ false → has_expired clock row ≡ false
not_expired clock point rows row alone lasts = expired_step (has_expired clock row) refl where
  expired_step : (b : Bool) → has_expired clock row ≡ b → b ≡ false
  expired_step true is =
      let among = left_alone (has_expired clock) (drives point) rows row alone is in
      let fails = alone_fails (drives point) (λ (r : Row). same_triad row.triad r.triad) (filter (has_expired clock) rows) row among (not_reported clock rows row lasts) in
      absurd (let e = same_itself row.triad in cc)
  expired_step false is = refl

pub keeps_advanced : (point : ℕ) (t : AdapterTable) (ms : ℕ) → KeepsOwner point t (expiry_notices (clocked_table t ms).clock (clocked_table t ms).rows) (produced_table (expired_table (clocked_table t ms)))
unfolding clocked_table expired_table produced_table
keeps_advanced point t ms = λ row alone lasts.
    let clock : Ms = record { 0 = t.clock.0 + ms } in
    let late = not_expired clock point t.rows row alone lasts in
    let left = faded clock point t.rows ∙ left_alone (λ r. not (has_expired clock r)) (drives point) t.rows row alone (not_from_false (has_expired clock row) late) in
    openings_mapped point (produced_row clock) (alike_produced point clock) (staying (expired_rows clock t.rows))
    ∙ ap (map opening_of) (staying_alone point (expired_rows clock t.rows) row left)
