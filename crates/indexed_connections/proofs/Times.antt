-- Bounds on the times of connections, as these change.
use Rattle.std.proofs.Common.{◌≡◌, ◌≤◌, ◌<◌, ℕ, ◌==◌, ◌&&◌, Bool, true, false, cond, List, [], ◌∷◌, ◌++◌, map, filter, not, find, Option, Some, None, refl, sym, ap, subst, ◌∙◌, true≢false, arith}
use Rattle.std.specs.Prelude.{nat_le}
use Rattle.std.specs.List.{list_any}
use Rattle.std.proofs.lemmas.Bool.Decides.{nat_tests}
use Rattle.base_lemmas.specs.Numbers.{not_yet}
use Rattle.cip_types.specs.declared.names.Ms.{Ms}
use Rattle.cip_types.specs.declared.names.Node.{Node}
use Rattle.cip_datagram.specs.Datagram.{DatagramFields}
use Rattle.cip_events.specs.Answers.{is_accepted}
use Rattle.cip_productions.specs.Productions.{produced, is_production_due}
use Rattle.adapter_table.specs.declared.profile.Profile.{Profile}
use Rattle.adapter_table.specs.Connections.{Row}
use Rattle.adapter_table.specs.declared.row.State.{State}
use Rattle.adapter_table.specs.declared.row.State.TheVariants.{Established, TimedOut}
use Rattle.cip_types.specs.declared.names.Triad.{Triad}
use Rattle.conn_slab.specs.Connections.{without}
use Rattle.adapter_table.specs.Rows.{lives, has_triad, is_established, written_state, written_row}
use Rattle.adapter_table.specs.Datagrams.{later_deadline, is_for, row_delivery, accepted_row, accepted_if_for}
use Rattle.adapter_table.specs.Productions.{is_due, state_is_due, produced_row, produced_state, changed_state, changed_row}
use Rattle.adapter_table.specs.Sound.{IdsDiffer}
use Rattle.adapter_table.specs.Ticks.{has_expired}
use Rattle.conn_slab.specs.declared.reception.Received.{Received}
use Rattle.conn_slab.specs.Bounds.{never, end_of, next_watchdog, StateNotDueBefore, NotDueBefore, AllNotDueBefore}
use Rattle.conn_slab.specs.Reception.{IsReceived, reception}
use Rattle.indexed_connections.specs.List.Lone.{some_is, neither}

-- ---- before a bound nothing happens

early_end : (bound : ℕ) (clock : Ms) (deadline : ℕ) (state : State) → clock.0 < bound → bound ≤ end_of deadline state → (lives state && nat_le deadline clock.0) ≡ false
early_end bound clock deadline (Established production) early lasts = not_yet clock.0 deadline (omega arith)
early_end bound clock deadline TimedOut early lasts = refl

pub none_ends : (bound : ℕ) (clock : Ms) (rows : List Row) → clock.0 < bound → bound ≤ next_watchdog rows → list_any (has_expired clock) rows ≡ false
none_ends bound clock [] early lasts = refl
none_ends bound clock (row ∷ rows) early lasts =
    rw (early_end bound clock row.deadline.0 row.state early (omega arith)) (none_ends bound clock rows early (omega arith))

state_early : (bound : ℕ) (clock : Ms) (state : State) → clock.0 < bound → StateNotDueBefore bound state → state_is_due clock state ≡ false
state_early bound clock (Established production) early rests = not_yet clock.0 production.due.0 (omega arith)
state_early bound clock TimedOut early rests = refl

pub none_due : (bound : ℕ) (clock : Ms) (rows : List Row) → clock.0 < bound → AllNotDueBefore bound rows → list_any (is_due clock) rows ≡ false
none_due bound clock [] early all = refl
none_due bound clock (row ∷ rows) early all = rw (state_early bound clock row.state early all.0) (none_due bound clock rows early all.1)

-- ---- changes that keep deadlines and states

pub ends_mapped : (f : Row → Row) → ((row : Row) → end_of (f row).deadline.0 (f row).state ≡ end_of row.deadline.0 row.state) → (rows : List Row) → next_watchdog (map f rows) ≡ next_watchdog rows
ends_mapped f same [] = refl
ends_mapped f same (row ∷ rows) = rw (same row, ends_mapped f same rows) refl

produced_end : (clock : Ms) (api deadline : ℕ) (state : State) → end_of deadline (produced_state clock api state) ≡ end_of deadline state
produced_end clock api deadline TimedOut = refl
produced_end clock api deadline (Established production) = split (is_production_due clock production)
  where
    split : (b : Bool) → end_of deadline (cond b (Established (produced clock api production)) (Established production)) ≡ deadline
    split true = refl
    split false = refl

pub produced_ends : (clock : Ms) (rows : List Row) → next_watchdog (map (produced_row clock) rows) ≡ next_watchdog rows
produced_ends clock rows = ends_mapped (produced_row clock) (λ row. produced_end clock row.t_o_api_ms row.deadline.0 row.state) rows

written_end : (deadline : ℕ) (state : State) → end_of deadline (written_state state) ≡ end_of deadline state
written_end deadline TimedOut = refl
written_end deadline (Established production) = refl

written_step : (b : Bool) (row : Row) → end_of (cond b (record row { state = written_state row.state }) row).deadline.0 (cond b (record row { state = written_state row.state }) row).state ≡ end_of row.deadline.0 row.state
written_step true row = written_end row.deadline.0 row.state
written_step false row = refl

changed_end : (clock : Ms) (api deadline : ℕ) (state : State) → end_of deadline (changed_state clock api state) ≡ end_of deadline state
changed_end clock api deadline TimedOut = refl
changed_end clock api deadline (Established production) = refl

changed_step : (b : Bool) (clock : Ms) (row : Row) → end_of (cond b (record row { state = changed_state clock row.t_o_api_ms row.state }) row).deadline.0 (cond b (record row { state = changed_state clock row.t_o_api_ms row.state }) row).state ≡ end_of row.deadline.0 row.state
changed_step true clock row = changed_end clock row.t_o_api_ms row.deadline.0 row.state
changed_step false clock row = refl

pub changed_ends : (clock : Ms) (point : ℕ) (rows : List Row) → next_watchdog (map (changed_row clock point) (map (written_row point) rows)) ≡ next_watchdog rows
changed_ends clock point rows =
    ends_mapped (changed_row clock point) (λ row. changed_step (row.produced == point) clock row) (map (written_row point) rows)
    ∙ ends_mapped (written_row point) (λ row. written_step (row.produced == point) row) rows

-- ---- a datagram

not_for : (a b c : Bool) → c ≡ false → (a && (b && c)) ≡ false
not_for true true c is = is
not_for true false c is = refl
not_for false b c is = refl

id_of_for : (a b c : Bool) → (a && (b && c)) ≡ true → c ≡ true
id_of_for true true c is = is
id_of_for true false c is = absurd (true≢false (sym is))
id_of_for false b c is = absurd (true≢false (sym is))

others_unreceived : (clock : Ms) (peer : Node) (d : DatagramFields) (rows : List Row) → list_any (λ row. row.o_t_id.0 == d.connection) rows ≡ false → map (accepted_if_for clock peer d) rows ≡ rows
others_unreceived clock peer d [] none = refl
others_unreceived clock peer d (row ∷ rows) none =
    let parts = neither (row.o_t_id.0 == d.connection) (list_any (λ x. x.o_t_id.0 == d.connection) rows) none in
    rw (not_for (is_established row) (row.peer.0 == peer.0) (row.o_t_id.0 == d.connection) parts.0) (ap (λ (l : List Row). row ∷ l) (others_unreceived clock peer d rows parts.1))

same_of : (a b : ℕ) → a == b ≡ true → a ≡ b
same_of a b is = grind (arith, nat_tests)

accepted_ends : (clock : Ms) (peer : Node) (d : DatagramFields) (low : ℕ) (rows : List Row) (found : Row) → IdsDiffer rows → find (is_for peer d.connection) rows ≡ Some found → low ≤ (accepted_row clock d found).deadline.0 → low ≤ next_watchdog rows → low ≤ next_watchdog (map (accepted_if_for clock peer d) rows)
accepted_ends clock peer d low [] found differ is after before = before
accepted_ends clock peer d low (row ∷ rows) found differ is after before = split (is_for peer d.connection row) refl (accepted_ends clock peer d low rows found differ.1)
  where
    end_after : (deadline : ℕ) (state : State) → low ≤ deadline → low ≤ end_of row.deadline.0 state → low ≤ end_of deadline state
    end_after deadline (Established production) le was = le
    end_after deadline TimedOut le was = was

    split : (b : Bool) → is_for peer d.connection row ≡ b → (find (is_for peer d.connection) rows ≡ Some found → low ≤ (accepted_row clock d found).deadline.0 → low ≤ next_watchdog rows → low ≤ next_watchdog (map (accepted_if_for clock peer d) rows)) → low ≤ next_watchdog (map (accepted_if_for clock peer d) (row ∷ rows))
    split true here rest =
        let same : row ≡ found = some_is (sym (ap (λ b. cond b (Some row) (find (is_for peer d.connection) rows)) here) ∙ is) in
        let id : row.o_t_id.0 ≡ d.connection = same_of row.o_t_id.0 d.connection (id_of_for (is_established row) (row.peer.0 == peer.0) (row.o_t_id.0 == d.connection) here) in
        let none : list_any (λ x. x.o_t_id.0 == d.connection) rows ≡ false = subst (λ (n : ℕ). list_any (λ x. x.o_t_id.0 == n) rows ≡ false) id differ.0 in
        let le : low ≤ (accepted_row clock d row).deadline.0 = subst (λ (r : Row). low ≤ (accepted_row clock d r).deadline.0) (sym same) after in
        let here_end : low ≤ end_of (accepted_row clock d row).deadline.0 row.state = end_after (accepted_row clock d row).deadline.0 row.state le (omega arith) in
        rw (here, others_unreceived clock peer d rows none) (omega arith)
    split false fails rest =
        let more = rest (sym (ap (λ b. cond b (Some row) (find (is_for peer d.connection) rows)) fails) ∙ is) after (omega arith) in
        rw fails (omega arith)

-- a state stays as it is
rests_same : (clock : Ms) (peer : Node) (d : DatagramFields) (bound : ℕ) (rows : List Row) → AllNotDueBefore bound rows → AllNotDueBefore bound (map (accepted_if_for clock peer d) rows)
rests_same clock peer d bound [] all = tt
rests_same clock peer d bound (row ∷ rows) all = (split (is_for peer d.connection row), rests_same clock peer d bound rows all.1)
  where
    split : (b : Bool) → NotDueBefore bound (cond b (accepted_row clock d row) row)
    split true = all.0
    split false = all.0

received_end : (b : Bool) (clock : Ms) (peer : Node) (d : DatagramFields) (low : ℕ) (rows : List Row) (found : Row) → IdsDiffer rows → find (is_for peer d.connection) rows ≡ Some found → low ≤ (cond b (later_deadline clock found) found.deadline).0 → low ≤ next_watchdog rows → low ≤ next_watchdog (cond b (map (accepted_if_for clock peer d) rows) rows)
received_end true clock peer d low rows found differ is after before = accepted_ends clock peer d low rows found differ is after before
received_end false clock peer d low rows found differ is after before = before

received_rest : (b : Bool) (clock : Ms) (peer : Node) (d : DatagramFields) (bound : ℕ) (rows : List Row) → AllNotDueBefore bound rows → AllNotDueBefore bound (cond b (map (accepted_if_for clock peer d) rows) rows)
received_rest true clock peer d bound rows all = rests_same clock peer d bound rows all
received_rest false clock peer d bound rows all = all

-- if it was received, the earlier of the bound and the deadline of the receiving connection is a bound
ends_found : (profile : Profile) (clock : Ms) (peer : Node) (d : DatagramFields) (low watchdog : ℕ) (rows : List Row) (o : Option Row) (received : Received) → find (is_for peer d.connection) rows ≡ o → IdsDiffer rows → IsReceived profile clock d o (Some received) → low ≤ watchdog → low ≤ received.deadline.0 → watchdog ≤ next_watchdog rows → low ≤ next_watchdog (reception profile clock peer d o rows)
ends_found profile clock peer d low watchdog rows None received is differ reported below after before = absurd reported
ends_found profile clock peer d low watchdog rows (Some row) received is differ reported below after before =
    received_end (is_accepted (row_delivery profile clock row d)) clock peer d low rows row differ is (subst (λ (deadline : Ms). low ≤ deadline.0) reported.deadline after) (omega arith)

pub ends_received : (profile : Profile) (clock : Ms) (peer : Node) (d : DatagramFields) (low watchdog : ℕ) (rows : List Row) (received : Received) → IdsDiffer rows → IsReceived profile clock d (find (is_for peer d.connection) rows) (Some received) → low ≤ watchdog → low ≤ received.deadline.0 → watchdog ≤ next_watchdog rows → low ≤ next_watchdog (reception profile clock peer d (find (is_for peer d.connection) rows) rows)
ends_received profile clock peer d low watchdog rows received differ reported below after before =
    ends_found profile clock peer d low watchdog rows (find (is_for peer d.connection) rows) received refl differ reported below after before

rests_found : (profile : Profile) (clock : Ms) (peer : Node) (d : DatagramFields) (bound : ℕ) (rows : List Row) (o : Option Row) → AllNotDueBefore bound rows → AllNotDueBefore bound (reception profile clock peer d o rows)
rests_found profile clock peer d bound rows None all = all
rests_found profile clock peer d bound rows (Some row) all = received_rest (is_accepted (row_delivery profile clock row d)) clock peer d bound rows all

pub rests_received : (profile : Profile) (clock : Ms) (peer : Node) (d : DatagramFields) (bound : ℕ) (rows : List Row) → AllNotDueBefore bound rows → AllNotDueBefore bound (reception profile clock peer d (find (is_for peer d.connection) rows) rows)
rests_received profile clock peer d bound rows all = rests_found profile clock peer d bound rows (find (is_for peer d.connection) rows) all

-- ---- connections that are removed, and one that is appended

pub ends_left : (low : ℕ) (p : Row → Bool) (rows : List Row) → low ≤ next_watchdog rows → low ≤ next_watchdog (filter p rows)
ends_left low p [] before = before
ends_left low p (row ∷ rows) before = split (p row) (ends_left low p rows (omega arith))
  where
    split : (b : Bool) → low ≤ next_watchdog (filter p rows) → low ≤ next_watchdog (cond b (row ∷ filter p rows) (filter p rows))
    split true rest = omega arith
    split false rest = rest

ends_without : (low : ℕ) (removed : Option Triad) (rows : List Row) → low ≤ next_watchdog rows → low ≤ next_watchdog (without removed rows)
ends_without low None rows before = before
ends_without low (Some triad) rows before = ends_left low (λ row. not (has_triad triad row)) rows before

ends_within : (rows : List Row) → next_watchdog rows ≤ never
ends_within [] = omega arith
ends_within (row ∷ rows) = let rest = ends_within rows in omega arith

end_later : (low deadline : ℕ) (state : State) → low ≤ never → low ≤ deadline → low ≤ end_of deadline state
end_later low deadline (Established production) below le = le
end_later low deadline TimedOut below le = below

ends_last : (low : ℕ) (rows : List Row) (row : Row) → low ≤ end_of row.deadline.0 row.state → low ≤ next_watchdog rows → low ≤ next_watchdog (rows ++ row ∷ [])
ends_last low [] row here before = omega arith
ends_last low (x ∷ rows) row here before = let rest = ends_last low rows row here (omega arith) in omega arith

pub ends_opened : (low : ℕ) (removed : Option Triad) (rows : List Row) (row : Row) → low ≤ row.deadline.0 → low ≤ next_watchdog rows → low ≤ next_watchdog (without removed rows ++ row ∷ [])
ends_opened low removed rows row after before =
    let within = ends_within rows in
    ends_last low (without removed rows) row (end_later low row.deadline.0 row.state (omega arith) after) (ends_without low removed rows before)

-- a bound on productions, of which one more begins

rests_lower : (low high : ℕ) (state : State) → low ≤ high → StateNotDueBefore high state → StateNotDueBefore low state
rests_lower low high (Established production) le rests = omega arith
rests_lower low high TimedOut le rests = tt

rests_without : (low high : ℕ) (p : Row → Bool) (rows : List Row) → low ≤ high → AllNotDueBefore high rows → AllNotDueBefore low (filter p rows)
rests_without low high p [] le all = tt
rests_without low high p (row ∷ rows) le all = split (p row) (rests_without low high p rows le all.1)
  where
    split : (b : Bool) → AllNotDueBefore low (filter p rows) → AllNotDueBefore low (cond b (row ∷ filter p rows) (filter p rows))
    split true rest = (rests_lower low high row.state le all.0, rest)
    split false rest = rest

pub rests_left : (bound : ℕ) (p : Row → Bool) (rows : List Row) → AllNotDueBefore bound rows → AllNotDueBefore bound (filter p rows)
rests_left bound p rows all = rests_without bound bound p rows (omega arith) all

rests_all : (low high : ℕ) (rows : List Row) → low ≤ high → AllNotDueBefore high rows → AllNotDueBefore low rows
rests_all low high [] le all = tt
rests_all low high (row ∷ rows) le all = (rests_lower low high row.state le all.0, rests_all low high rows le all.1)

rests_removed : (low high : ℕ) (removed : Option Triad) (rows : List Row) → low ≤ high → AllNotDueBefore high rows → AllNotDueBefore low (without removed rows)
rests_removed low high None rows le all = rests_all low high rows le all
rests_removed low high (Some triad) rows le all = rests_without low high (λ row. not (has_triad triad row)) rows le all

rests_last : (low : ℕ) (rows : List Row) (row : Row) → AllNotDueBefore low rows → NotDueBefore low row → AllNotDueBefore low (rows ++ row ∷ [])
rests_last low [] row all here = (here, tt)
rests_last low (x ∷ rows) row all here = (all.0, rests_last low rows row all.1 here)

pub rests_opened : (low high due : ℕ) (removed : Option Triad) (rows : List Row) (row : Row) → low ≤ high → low ≤ due → NotDueBefore due row → AllNotDueBefore high rows → AllNotDueBefore low (without removed rows ++ row ∷ [])
rests_opened low high due removed rows row le also here all = rests_last low (without removed rows) row (rests_removed low high removed rows le all) (rests_lower low due row.state also here)

pub same_end : {low high : ℕ} → low ≡ high → low ≤ high
same_end is = omega arith
