-- What the output of an owner holds: one step of an adapter keeps that it is the value of the newest accepted production in
-- run mode.
use Rattle.std.proofs.Common.{◌≡◌, ◌≢◌, ◌≤◌, ℕ, ◌+◌, ◌==◌, ◌||◌, Bool, true, false, cond, List, [], ◌∷◌, ◌++◌, map, find, length, is_some, Option, Some, None, Result, Ok, Err, ◌⊎◌, inl, inr, refl, sym, ◌∙◌, ap, subst, arith, eqb-true, eq-eqb}
use Rattle.std.proofs.lemmas.Bool.{and_parts, eqb-false}
use Rattle.std.specs.List.{list_any}
use Rattle.std.proofs.lemmas.Option.{same_Some}
use Rattle.schedule_laws.specs.Lemmas.Deliveries.{same_delivery}
use Rattle.base_lemmas.specs.Lists.{found_passes}
use Rattle.cip_types.specs.declared.names.Node.{Node}
use Rattle.cip_types.specs.declared.names.Ms.{Ms}
use Rattle.cip_datagram.specs.declared.datagram.DatagramFault.{DatagramFault}
use Rattle.cip_datagram.specs.Datagram.{DatagramFields, datagram_text}
use Rattle.cip_datagram.specs.Header.{header_at}
use Rattle.cip_datagram.specs.Reading.{datagram_reading}
use Rattle.cip_datagram.specs.ReadsBack.{HeaderReadsBack}
use Rattle.cip_events.specs.Answers.{is_accepted}
use Rattle.cip_events.specs.declared.event.Delivery.{Delivery}
use Rattle.cip_events.specs.declared.event.Delivery.TheVariants.{Applied, Idle, Heartbeat, Duplicate, Old, UnknownId, WrongSize, Malformed}
use Rattle.cip_events.specs.declared.event.Event.{Event}
use Rattle.cip_events.specs.declared.event.Event.TheVariants as event
use Rattle.cip_events.specs.declared.event.Verdict.{Verdict}
use Rattle.cip_events.specs.declared.event.Verdict.TheVariants.{Delivered}
use Rattle.adapter_table.specs.StatedLimits.{accepts_at}
use Rattle.cip_productions.specs.Acceptance.{is_duplicate}
use Rattle.cip_productions.specs.declared.acceptance.Accepted.{Accepted}
use Rattle.cip_productions.specs.Kinds.{is_owner}
use Rattle.adapter_table.specs.declared.profile.OutputPoint.{OutputPoint}
use Rattle.adapter_table.specs.declared.profile.Profile.{Profile}
use Rattle.adapter_table.specs.Connections.{Row}
use Rattle.adapter_table.specs.declared.table.AdapterTable.{AdapterTable}
use Rattle.adapter_table.specs.declared.table.PointValue.{PointValue}
use Rattle.adapter_table.specs.Datagrams.{is_for, output_len, expected_len, run_bit, moded, row_delivery, run_data, accepted_if_for, accepted_values, accepted_table, delivered, found_datagram, datagram_of, received}
use Rattle.adapter_table.specs.Fitting.{length_is, output_fits}
use Rattle.adapter_table.specs.Laws.{StepsLeave}
use Rattle.adapter_table.specs.Newest.{TableRemembers, RemembersLast}
use Rattle.adapter_table.specs.Points.{bytes_at}
use Rattle.adapter_table.specs.Profiles.{is_output_at}
use Rattle.adapter_table.specs.Requests.{Next}
use Rattle.adapter_table.specs.Rows.{is_established, drives, drivers, Each}
use Rattle.adapter_table.specs.Scratch.{or_else, data_left, lost, left_at}
use Rattle.adapter_table.specs.Step.{adapter_step}
use Rattle.adapter_table.specs.Whole.{ConsumesOutput, IsWhole}
use Rattle.adapter_table.specs.Lemmas.DriverLemmas.{kept_owner}
use Rattle.adapter_table.specs.Lemmas.LikeLemmas.{IsLike, fed_keeps}
use Rattle.adapter_table.specs.Lemmas.ValueLemmas.{put_at, put_beside, idle_beside}
use Rattle.device_laws.specs.ScannerDeliveries.{reports_accepted}
use Rattle.cip_tables.specs.declared.table.DeviceTable.TheVariants.{Adapter}
use Rattle.cip_tables.specs.Step.{is_datagram}
use Rattle.device_laws.specs.Productions.{end_at, End, Production, IsNumbered}
use Rattle.device_laws.specs.Lemmas.ListCounts.{Has, all_has, has_filter}
use Rattle.device_laws.specs.Lemmas.Reading.{ComesBack, read_as, count_back}
use Rattle.device_laws.specs.Lemmas.Inputs.{some_bytes}
use Rattle.schedule_laws.specs.Chronicle.{Acceptance, accepted_by_verdict, names, names_in, newest, row_number}
use Rattle.schedule_laws.specs.Lemmas.AdapterNewest.{pair_of, Entry, newest_here, newest_past, judged_verdict}
use Rattle.schedule_laws.proofs.Forms.{HasForm}
use Rattle.schedule_laws.proofs.OwnerRows.{WasOpen, IsOldOrNew, rows_from, one_row}

-- The output of an established owner whose newest accepted datagram was produced in run mode holds the value of that
-- production.
abbrev pub RowHolds : List Acceptance → ℕ → AdapterTable → Row → Type 0
RowHolds accepted device t row =
    is_established row ≡ true → is_owner row.kind ≡ true → (a : Acceptance) → newest (end_at device row.opening) accepted ≡ Some a → a.production.made.run ≡ true →
    bytes_at t.values row.consumed ≡ Some a.production.made.value

abbrev pub TableHolds : List Acceptance → ℕ → AdapterTable → Type 0
TableHolds accepted device t = (row : Row) → Has row t.rows → RowHolds accepted device t row

-- the table remembers of each connection the newest that it accepted
abbrev pub Remembers : List Acceptance → ℕ → AdapterTable → Type 0
Remembers accepted device t = (n : ℕ) → TableRemembers n (pair_of (newest (end_at device n) accepted)) t

-- ---- lists

has_any : {X : Type 0} (p : X → Bool) (xs : List X) (x : X) → Has x xs → p x ≡ true → list_any p xs ≡ true
has_any p [] x has passes = absurd has
has_any p (y ∷ xs) x (inl is) passes = rw (ap p is ∙ passes) refl
has_any p (y ∷ xs) x (inr has) passes = step (p y) (list_any p xs) (has_any p xs x has passes) where
  step : (b c : Bool) → c ≡ true → (b || c) ≡ true
  step true c is = refl
  step false c is = is

each_has : (P : Row → Type 0) (rows : List Row) (row : Row) → Each P rows → Has row rows → P row
each_has P [] row each has = absurd has
each_has P (x ∷ rows) row each (inl is) = subst P is each.0
each_has P (x ∷ rows) row each (inr has) = each_has P rows row each.1 has

found_has : (p : Row → Bool) (rows : List Row) (row : Row) → find p rows ≡ Some row → Has row rows
found_has p [] row is = absurd (let e = is in cc)
found_has p (x ∷ rows) row is = step (p x) is (found_has p rows row) where
  step : (b : Bool) → cond b (Some x) (find p rows) ≡ Some row → (find p rows ≡ Some row → Has row rows) → (x ≡ row) ⊎ Has row rows
  step true is more = inl (let e = is in cc)
  step false is more = inr (more is)

one_of : (rows : List Row) (a b : Row) → length rows ≤ 1 → Has a rows → Has b rows → a ≡ b
one_of [] a b few has_a has_b = absurd has_a
one_of (x ∷ []) a b few (inl is) (inl too) = sym is ∙ too
one_of (x ∷ []) a b few (inl is) (inr none) = absurd none
one_of (x ∷ []) a b few (inr none) has_b = absurd none
one_of (x ∷ y ∷ rows) a b few has_a has_b = absurd (omega (arith, few))

pub record WasMapped (f : Row → Row) (rows : List Row) (now : Row) : Type 0 where
  pub was : Row
  pub there : Has was rows
  pub is : f was ≡ now

was_mapped : (f : Row → Row) (rows : List Row) (now : Row) → Has now (map f rows) → WasMapped f rows now
was_mapped f [] now has = absurd has
was_mapped f (row ∷ rows) now (inl is) = record { was = row; there = inl refl; is = is }
was_mapped f (row ∷ rows) now (inr has) = let more = was_mapped f rows now has in record { was = more.was; there = inr more.there; is = more.is }

-- ---- an event that is no datagram

data_none : (point : ℕ) (t : AdapterTable) (e : Event) → is_datagram e ≡ false → data_left point t e ≡ None
data_none point t (event.Datagram peer bytes) none = absurd (let e = none in cc)
data_none point t other none = refl

drives_so : (row : Row) (point : ℕ) → is_established row ≡ true → is_owner row.kind ≡ true → row.consumed ≡ point → drives point row ≡ true
drives_so row point lives owns same = rw (lives, owns, eq-eqb row.consumed point same) refl

some_output : (found : Option OutputPoint) → is_some found ≡ true → (output : OutputPoint) × (found ≡ Some output)
some_output None some = absurd (let e = some in cc)
some_output (Some output) some = (output, refl)

-- the owner of an output is there after the event, so nothing is left there
not_lost : (point : ℕ) (t u : AdapterTable) (row : Row) → Has row u.rows → drives point row ≡ true → lost point t u ≡ None
not_lost point t u row has drives_it = rw (kept_owner point t.rows u.rows (λ was. has_any (drives point) u.rows row has drives_it)) refl

none_taken : (o : Option Acceptance) (a : Acceptance) → pair_of o ≡ None → o ≡ Some a → ⊥
none_taken None a none is = absurd (let e = is in cc)
none_taken (Some b) a none is = absurd (let e = none in cc)

pub quiet_holds : StepsLeave → (accepted : List Acceptance) (device : ℕ) (t : AdapterTable) (e : Event) (next : Next) → adapter_step t e ≡ Ok next → IsWhole t → is_datagram e ≡ false → Remembers accepted device t → TableHolds accepted device t → TableHolds accepted device next.1
quiet_holds leaves accepted device t e next is whole none remembers ok row has lives owns a newest_is run =
    by_age (all_has (IsOldOrNew t) next.1.rows row (rows_from t e next is) has lives)
  where
    by_age : WasOpen t row ⊎ (row.opening ≡ t.next_id) → bytes_at next.1.values row.consumed ≡ Some a.production.made.value
    by_age (inl old) =
        let was = old.was in
        let owned : is_owner was.kind ≡ true = ap is_owner (sym old.kind) ∙ owns in
        let output = some_output (find (is_output_at was.consumed) t.profile.outputs) (each_has (ConsumesOutput t.profile) t.rows was whole.consume old.there owned) in
        let unlost = not_lost was.consumed t next.1 row has (drives_so row was.consumed lives owns old.consumed) in
        let left : left_at was.consumed t e next.1 ≡ None = ap (λ (o : Option (List ℕ)). or_else o (lost was.consumed t next.1)) (data_none was.consumed t e none) ∙ unlost in
        let stays : bytes_at next.1.values was.consumed ≡ bytes_at t.values was.consumed = leaves t e next is whole was.consumed output.0 output.1 ∙ ap (λ (o : Option (List ℕ)). or_else o (bytes_at t.values was.consumed)) left in
        ap (bytes_at next.1.values) old.consumed ∙ stays ∙ ok was old.there old.lives owned a (ap (λ (n : ℕ). newest (end_at device n) accepted) (sym old.opening) ∙ newest_is) run
    by_age (inr new) = absurd (none_taken (newest (end_at device row.opening) accepted) a (ap (λ (n : ℕ). pair_of (newest (end_at device n) accepted)) new ∙ (remembers t.next_id).unopened (omega arith)) newest_is)

-- ---- a datagram for the owner

-- an accepted datagram has the connection's size
sized_of : (sized new_data owns repeated : Bool) (header : Option (Bool × List ℕ)) → is_accepted (cond sized (cond new_data (cond owns (cond repeated Duplicate (moded header)) Heartbeat) Old) WrongSize) ≡ true → sized ≡ true
sized_of true new_data owns repeated header so = refl
sized_of false new_data owns repeated header so = absurd (let e = so in cc)

-- of an owner in run mode it is applied, where it is not repeated
owned_of : (sized new_data repeated : Bool) (header : Option (Bool × List ℕ)) (delivery : Delivery) → run_bit header ≡ true → cond sized (cond new_data (cond repeated Duplicate (moded header)) Old) WrongSize ≡ delivery → is_accepted delivery ≡ true → (delivery ≡ Applied) ⊎ ((delivery ≡ Duplicate) × (repeated ≡ true))
owned_of true true true header delivery runs is so = inr (sym is, refl)
owned_of true true false header delivery runs is so = inl (sym is ∙ (rw runs refl))
owned_of true false repeated header delivery runs is so = absurd (let e : is_accepted Old ≡ true = ap is_accepted is ∙ so in cc)
owned_of false new_data repeated header delivery runs is so = absurd (let e : is_accepted WrongSize ≡ true = ap is_accepted is ∙ so in cc)

not_empty : (n : ℕ) → (0 == n + 4) ≡ true → ⊥
not_empty n is = absurd (let e = eqb-true 0 (n + 4) is in omega (arith, e))

-- its header gives the mode, and behind it stands the value
headed : HeaderReadsBack → (profile : Profile) (row : Row) (d : DatagramFields) (p : Production) → HasForm p.made → d.payload ≡ p.made.datagram.payload → is_owner row.kind ≡ true → (length d.payload == expected_len profile row) ≡ true → header_at d.payload ≡ Some (p.made.run, p.made.value)
headed reads profile row d p (inl form) same owns sized = ap header_at (same ∙ form) ∙ reads p.made.run p.made.value
headed reads profile row d p (inr empty) same owns sized =
    let nothing : (0 == output_len (find (is_output_at row.consumed) profile.outputs) + 4) ≡ true =
    subst (λ (n : ℕ). (0 == n) ≡ true) (expected_is profile row owns) (subst (λ (bytes : List ℕ). (length bytes == expected_len profile row) ≡ true) (same ∙ empty) sized) in
    absurd (not_empty (output_len (find (is_output_at row.consumed) profile.outputs)) nothing)
  where
    expected_is : (profile : Profile) (row : Row) → is_owner row.kind ≡ true → expected_len profile row ≡ output_len (find (is_output_at row.consumed) profile.outputs) + 4
    expected_is profile row owns = rw owns refl

owned_delivery_is : (profile : Profile) (clock : Ms) (row : Row) (d : DatagramFields) → is_owner row.kind ≡ true → row_delivery profile clock row d ≡ cond (length d.payload == expected_len profile row) (cond (accepts_at profile.limits.newer clock row d.sequence) (cond (is_duplicate row.last d.count) Duplicate (moded (header_at d.payload))) Old) WrongSize
owned_delivery_is profile clock row d owns = rw owns refl

-- what was accepted before with the same count has the same payload
pub record IsSame (p : Production) (a : Acceptance) : Type 0 where
  pub payload : p.made.datagram.payload ≡ a.production.made.datagram.payload
  pub form : HasForm a.production.made

abbrev pub Repeats : List Acceptance → ℕ → Production → ℕ → Type 0
Repeats accepted device p n = (a : Acceptance) → newest (end_at device n) accepted ≡ Some a → p.made.datagram.count ≡ a.production.made.datagram.count → IsSame p a

repeated_by : (o : Option Acceptance) (last : Option Accepted) (count : ℕ) → last ≡ pair_of o → is_duplicate last count ≡ true → (a : Acceptance) × (o ≡ Some a) × (count ≡ a.production.made.datagram.count)
repeated_by None last count is so = absurd (let e : is_duplicate None count ≡ true = ap (λ (l : Option Accepted). is_duplicate l count) (sym is) ∙ so in cc)
repeated_by (Some a) last count is so =
    (a, refl, eqb-true count a.production.made.datagram.count (ap (λ (l : Option Accepted). is_duplicate l count) (sym is) ∙ so))

some_header : (a b : Bool) (xs ys : List ℕ) → ◌≡◌ {A = Option (Bool × List ℕ)} (Some (a, xs)) (Some (b, ys)) → (a ≡ b) × (xs ≡ ys)
some_header a b xs ys is = (ap (λ (o : Option (Bool × List ℕ)). bit o) is, ap (λ (o : Option (Bool × List ℕ)). run_data o) is)
  where
    bit : Option (Bool × List ℕ) → Bool
    bit None = a
    bit (Some x) = x.0

-- the output of the owner that the datagram is for
own_value : HeaderReadsBack → (accepted : List Acceptance) (device : ℕ) (p : Production) (t : AdapterTable) (row : Row) (d : DatagramFields) (delivery : Delivery) → row_delivery t.profile t.clock row d ≡ delivery → is_accepted delivery ≡ true → ComesBack p.made.datagram d → IsNumbered p → HasForm p.made → Has row t.rows → is_established row ≡ true → is_owner row.kind ≡ true → p.made.run ≡ true → (kept : List ℕ) → bytes_at t.values row.consumed ≡ Some kept → Remembers accepted device t → Repeats accepted device p row.opening → TableHolds accepted device t → bytes_at (accepted_values t.profile row.consumed d delivery t.values) row.consumed ≡ Some p.made.value
own_value reads accepted device p t row d delivery said so back numbered form has lives owns run kept holds remembers repeats ok =
    let sized = sized_of (length d.payload == expected_len t.profile row) (accepts_at t.profile.limits.newer t.clock row d.sequence) (is_owner row.kind) (is_duplicate row.last d.count) (header_at d.payload) (ap is_accepted said ∙ so) in
    let header = headed reads t.profile row d p form back.payload owns sized in
    let runs : run_bit (header_at d.payload) ≡ true = ap run_bit header ∙ run in
    by_delivery header (owned_of (length d.payload == expected_len t.profile row) (accepts_at t.profile.limits.newer t.clock row d.sequence) (is_duplicate row.last d.count) (header_at d.payload) delivery runs (sym (owned_delivery_is t.profile t.clock row d owns) ∙ said) so)
  where
    repeat : header_at d.payload ≡ Some (p.made.run, p.made.value) → (a : Acceptance) → newest (end_at device row.opening) accepted ≡ Some a → d.count ≡ a.production.made.datagram.count → bytes_at t.values row.consumed ≡ Some p.made.value
    repeat header a newest_is same =
        let one = repeats a newest_is (sym (count_back p d numbered back) ∙ same) in
        let payload : d.payload ≡ a.production.made.datagram.payload = back.payload ∙ one.payload in
        let sized = sized_of (length d.payload == expected_len t.profile row) (accepts_at t.profile.limits.newer t.clock row d.sequence) (is_owner row.kind) (is_duplicate row.last d.count) (header_at d.payload) (ap is_accepted said ∙ so) in
        let other = headed reads t.profile row d a.production one.form payload owns sized in
        let equal = some_header a.production.made.run p.made.run a.production.made.value p.made.value (sym other ∙ header) in
        ok row has lives owns a newest_is (equal.0 ∙ run) ∙ ap Some equal.1

    by_delivery : header_at d.payload ≡ Some (p.made.run, p.made.value) → (delivery ≡ Applied) ⊎ ((delivery ≡ Duplicate) × (is_duplicate row.last d.count ≡ true)) → bytes_at (accepted_values t.profile row.consumed d delivery t.values) row.consumed ≡ Some p.made.value
    by_delivery header (inl applied) =
        subst (λ (x : Delivery). bytes_at (accepted_values t.profile row.consumed d x t.values) row.consumed ≡ Some p.made.value) (sym applied)
        (put_at row.consumed (run_data (header_at d.payload)) t.values kept holds ∙ ap (λ (o : Option (Bool × List ℕ)). Some (run_data o)) header)
    by_delivery header (inr again) =
        let last = each_has (RemembersLast row.opening (pair_of (newest (end_at device row.opening) accepted))) t.rows row (remembers row.opening).there has refl in
        let old = repeated_by (newest (end_at device row.opening) accepted) row.last d.count last again.1 in
        subst (λ (x : Delivery). bytes_at (accepted_values t.profile row.consumed d x t.values) row.consumed ≡ Some p.made.value) (sym again.0) (repeat header old.0 old.1 old.2)

-- ---- a datagram for another connection

-- what an owner alone does
owner_of : (sized new_data owns repeated : Bool) (header : Option (Bool × List ℕ)) → (cond sized (cond new_data (cond owns (cond repeated Duplicate (moded header)) Heartbeat) Old) WrongSize ≡ Applied) ⊎ (cond sized (cond new_data (cond owns (cond repeated Duplicate (moded header)) Heartbeat) Old) WrongSize ≡ Idle) → owns ≡ true
owner_of true true true repeated header is = refl
owner_of true true false repeated header (inl is) = absurd (let e = is in cc)
owner_of true true false repeated header (inr is) = absurd (let e = is in cc)
owner_of true false owns repeated header (inl is) = absurd (let e = is in cc)
owner_of true false owns repeated header (inr is) = absurd (let e = is in cc)
owner_of false new_data owns repeated header (inl is) = absurd (let e = is in cc)
owner_of false new_data owns repeated header (inr is) = absurd (let e = is in cc)

-- where it is an owner's, its output is another one
other_values : (profile : Profile) (point other : ℕ) (d : DatagramFields) (delivery : Delivery) (values : List PointValue) (kept : List ℕ) → ((delivery ≡ Applied) ⊎ (delivery ≡ Idle) → (other == point) ≡ false) → bytes_at values point ≡ Some kept → bytes_at (accepted_values profile other d delivery values) point ≡ Some kept
other_values profile point other d Applied values kept apart holds = put_beside point other (run_data (header_at d.payload)) values kept (apart (inl refl)) holds
other_values profile point other d Idle values kept apart holds = idle_beside profile point other values kept (apart (inr refl)) holds
other_values profile point other d Heartbeat values kept apart holds = holds
other_values profile point other d Duplicate values kept apart holds = holds
other_values profile point other d Old values kept apart holds = holds
other_values profile point other d UnknownId values kept apart holds = holds
other_values profile point other d WrongSize values kept apart holds = holds
other_values profile point other d Malformed values kept apart holds = holds

for_established : (peer : Node) (id : ℕ) (row : Row) → is_for peer id row ≡ true → is_established row ≡ true
for_established peer id row is = (and_parts (is_established row) _ is).0

-- two owners of one output are one
one_owner : (t : AdapterTable) (point : ℕ) (a b : Row) → IsWhole t → Has a t.rows → Has b t.rows → drives point a ≡ true → drives point b ≡ true → a ≡ b
one_owner t point a b whole has_a has_b one two =
    one_of (drivers point t.rows) a b (whole.sound.one_owner point) (has_filter (drives point) a t.rows one has_a) (has_filter (drives point) b t.rows two has_b)

apart_by : (b : Bool) (t : AdapterTable) (found row : Row) → (found.consumed == row.consumed) ≡ b → IsWhole t → Has found t.rows → Has row t.rows → found.opening ≢ row.opening → is_established found ≡ true → is_owner found.kind ≡ true → is_established row ≡ true → is_owner row.kind ≡ true → b ≡ false
apart_by true t found row same whole has_found has ne lives owns living owning =
    let one = one_owner t row.consumed found row whole has_found has (drives_so found row.consumed lives owns (eqb-true found.consumed row.consumed same)) (drives_so row row.consumed living owning refl) in
    absurd (ne (ap (λ (r : Row). r.opening) one))
apart_by false t found row same whole has_found has ne lives owns living owning = refl

other_apart : (t : AdapterTable) (peer : Node) (d : DatagramFields) (found row : Row) (delivery : Delivery) → row_delivery t.profile t.clock found d ≡ delivery → IsWhole t → Has found t.rows → is_for peer d.connection found ≡ true → Has row t.rows → found.opening ≢ row.opening → is_established row ≡ true → is_owner row.kind ≡ true → (delivery ≡ Applied) ⊎ (delivery ≡ Idle) → (found.consumed == row.consumed) ≡ false
other_apart t peer d found row delivery said whole has_found for_it has ne lives owns acts =
    apart_by (found.consumed == row.consumed) t found row refl whole has_found has ne (for_established peer d.connection found for_it) (owner_of (length d.payload == expected_len t.profile found) (accepts_at t.profile.limits.newer t.clock found d.sequence) (is_owner found.kind) (is_duplicate found.last d.count) (header_at d.payload) (acted acts)) lives owns
  where
    acted : (delivery ≡ Applied) ⊎ (delivery ≡ Idle) → (row_delivery t.profile t.clock found d ≡ Applied) ⊎ (row_delivery t.profile t.clock found d ≡ Idle)
    acted (inl is) = inl (said ∙ is)
    acted (inr is) = inr (said ∙ is)

-- ---- a datagram

-- the output of an owner holds some bytes
pub record OutputBytes (t : AdapterTable) (point : ℕ) : Type 0 where
  pub kept : List ℕ
  pub holds : bytes_at t.values point ≡ Some kept

output_kept : (t : AdapterTable) (row : Row) → IsWhole t → Has row t.rows → is_owner row.kind ≡ true → OutputBytes t row.consumed
output_kept t row whole has owns = record {
  kept = kept.0;
  holds = kept.1;
}
  where
    output : (o : OutputPoint) × (find (is_output_at row.consumed) t.profile.outputs ≡ Some o)
    output = some_output (find (is_output_at row.consumed) t.profile.outputs) (each_has (ConsumesOutput t.profile) t.rows row whole.consume has owns)

    kept : (bytes : List ℕ) × (bytes_at t.values row.consumed ≡ Some bytes)
    kept = some_bytes (bytes_at t.values row.consumed) output.0.len (length_is t.profile t.values row.consumed whole.shaped ∙ output_fits t.profile row.consumed output.0 output.0.len output.1 refl)

fed_holds : HeaderReadsBack → (accepted : List Acceptance) (device : ℕ) (p : Production) (t : AdapterTable) (peer : Node) (d : DatagramFields) (found : Row) (delivery : Delivery) → find (is_for peer d.connection) t.rows ≡ Some found → row_delivery t.profile t.clock found d ≡ delivery → is_accepted delivery ≡ true → ComesBack p.made.datagram d → IsNumbered p → HasForm p.made → IsWhole t → Remembers accepted device t → Repeats accepted device p found.opening → TableHolds accepted device t → TableHolds (Entry device p found.opening delivery ∷ accepted) device (accepted_table t peer d found delivery)
unfolding accepted_table
fed_holds reads accepted device p t peer d found delivery there said so back numbered form whole remembers repeats ok row has lives owns a newest_is run =
    by_opening (found.opening == row.opening) refl
  where
    e : Acceptance
    e = Entry device p found.opening delivery

    m : WasMapped (accepted_if_for t.clock peer d) t.rows row
    m = was_mapped (accepted_if_for t.clock peer d) t.rows row has

    like : IsLike m.was row
    like = subst (IsLike m.was) m.is ((fed_keeps t.clock peer d).like m.was)

    living : is_established m.was ≡ true
    living = sym like.lives ∙ lives

    owning : is_owner m.was.kind ≡ true
    owning = ap is_owner (sym like.kind) ∙ owns

    by_opening : (b : Bool) → (found.opening == row.opening) ≡ b → bytes_at (accepted_values t.profile found.consumed d delivery t.values) row.consumed ≡ Some a.production.made.value
    by_opening true same =
        let opens = eqb-true found.opening row.opening same in
        let one : m.was ≡ found = one_row t.rows m.was found whole.sound.producers.openings_rise m.there (found_has (is_for peer d.connection) t.rows found there) (sym like.opening ∙ sym opens) in
        let mine : a ≡ e = same_Some a e (sym newest_is ∙ newest_here e accepted (end_at device row.opening) (ap (end_at device) opens)) in
        let runs : p.made.run ≡ true = ap (λ (x : Acceptance). x.production.made.run) (sym mine) ∙ run in
        let owned : is_owner found.kind ≡ true = ap (λ (r : Row). is_owner r.kind) (sym one) ∙ owning in
        let bytes = output_kept t found whole (found_has (is_for peer d.connection) t.rows found there) owned in
        let value = own_value reads accepted device p t found d delivery said so back numbered form (found_has (is_for peer d.connection) t.rows found there) (ap is_established (sym one) ∙ living) owned runs bytes.kept bytes.holds remembers repeats ok in
        ap (bytes_at (accepted_values t.profile found.consumed d delivery t.values)) (like.consumed ∙ ap (λ (r : Row). r.consumed) one) ∙ value ∙ ap (λ (x : Acceptance). Some x.production.made.value) (sym mine)
    by_opening false other =
        let ne = eqb-false found.opening row.opening other in
        let old : newest (end_at device m.was.opening) accepted ≡ Some a =
        ap (λ (n : ℕ). newest (end_at device n) accepted) (sym like.opening) ∙ sym (newest_past e accepted (end_at device row.opening) (λ same. ne (ap (λ (x : End). x.number) same))) ∙ newest_is in
        let holds = ok m.was m.there living owning a old run in
        let apart = other_apart t peer d found m.was delivery said whole (found_has (is_for peer d.connection) t.rows found there) (found_passes (is_for peer d.connection) t.rows found there) m.there (λ same. ne (same ∙ sym like.opening)) living owning in
        ap (bytes_at (accepted_values t.profile found.consumed d delivery t.values)) like.consumed ∙ other_values t.profile m.was.consumed found.consumed d delivery t.values a.production.made.value apart holds

-- what is known of a production that the connection of this number accepts
pub record AcceptFacts (accepted : List Acceptance) (device : ℕ) (p : Production) (n : ℕ) : Type 0 where
  pub form : HasForm p.made
  pub repeats : Repeats accepted device p n

judged_holds : HeaderReadsBack → (b : Bool) (accepted : List Acceptance) (device : ℕ) (p : Production) (t : AdapterTable) (peer : Node) (d : DatagramFields) (found : Row) → is_accepted (row_delivery t.profile t.clock found d) ≡ b → find (is_for peer d.connection) t.rows ≡ Some found → ComesBack p.made.datagram d → IsNumbered p → IsWhole t → Remembers accepted device t → (is_accepted (row_delivery t.profile t.clock found d) ≡ true → AcceptFacts accepted device p found.opening) → TableHolds accepted device t → TableHolds (cond b (Entry device p found.opening (row_delivery t.profile t.clock found d) ∷ []) [] ++ accepted) device (cond b (delivered (row_delivery t.profile t.clock found d) (accepted_table t peer d found (row_delivery t.profile t.clock found d))) (delivered (row_delivery t.profile t.clock found d) t)).1
judged_holds reads true accepted device p t peer d found so there back numbered whole remembers facts ok =
    fed_holds reads accepted device p t peer d found (row_delivery t.profile t.clock found d) there refl so back numbered (facts so).form whole remembers (facts so).repeats ok
judged_holds reads false accepted device p t peer d found so there back numbered whole remembers facts ok = ok

-- the same, of the connection that a datagram names, where the verdict accepts it
abbrev pub FactsAt : List Acceptance → ℕ → Production → Option ℕ → Verdict → Type 0
FactsAt accepted device p number verdict = (n : ℕ) → number ≡ Some n → reports_accepted verdict ≡ true → AcceptFacts accepted device p n

found_holds : HeaderReadsBack → (accepted : List Acceptance) (device : ℕ) (p : Production) (t : AdapterTable) (peer : Node) (d : DatagramFields) (found : Option Row) → find (is_for peer d.connection) t.rows ≡ found → ComesBack p.made.datagram d → IsNumbered p → IsWhole t → Remembers accepted device t → FactsAt accepted device p (row_number found) (found_datagram t peer d found).0.verdict → TableHolds accepted device t → TableHolds (accepted_by_verdict device p (row_number found) (found_datagram t peer d found).0.verdict ++ accepted) device (found_datagram t peer d found).1
found_holds reads accepted device p t peer d None is back numbered whole remembers facts ok = ok
found_holds reads accepted device p t peer d (Some found) is back numbered whole remembers facts ok =
    let delivery = row_delivery t.profile t.clock found d in
    let verdict = judged_verdict (is_accepted delivery) t (accepted_table t peer d found delivery) delivery in
    rw verdict
    (judged_holds reads (is_accepted delivery) accepted device p t peer d found refl is back numbered whole remembers (λ so. facts found.opening refl (ap reports_accepted verdict ∙ so)) ok)

read_holds : HeaderReadsBack → (accepted : List Acceptance) (device : ℕ) (p : Production) (t : AdapterTable) (peer : Node) (reading : Result DatagramFields DatagramFault) → datagram_reading (datagram_text p.made.datagram) ≡ reading → IsNumbered p → IsWhole t → Remembers accepted device t → FactsAt accepted device p (names_in (Adapter t) peer reading) (datagram_of t peer reading).0.verdict → TableHolds accepted device t → TableHolds (accepted_by_verdict device p (names_in (Adapter t) peer reading) (datagram_of t peer reading).0.verdict ++ accepted) device (datagram_of t peer reading).1
read_holds reads accepted device p t peer (Err why) is numbered whole remembers facts ok = ok
read_holds reads accepted device p t peer (Ok d) is numbered whole remembers facts ok =
    found_holds reads accepted device p t peer d (find (is_for peer d.connection) t.rows) refl (read_as p.made.datagram d is) numbered whole remembers facts ok

pub datagram_holds : HeaderReadsBack → (accepted : List Acceptance) (device : ℕ) (p : Production) (t : AdapterTable) (peer : Node) → IsNumbered p → IsWhole t → Remembers accepted device t → FactsAt accepted device p (names (Adapter t) (record { from = peer; bytes = datagram_text p.made.datagram })) (received t peer (datagram_text p.made.datagram)).0.verdict → TableHolds accepted device t → TableHolds (accepted_by_verdict device p (names (Adapter t) (record { from = peer; bytes = datagram_text p.made.datagram })) (received t peer (datagram_text p.made.datagram)).0.verdict ++ accepted) device (received t peer (datagram_text p.made.datagram)).1
unfolding received
datagram_holds reads accepted device p t peer numbered whole remembers facts ok = read_holds reads accepted device p t peer (datagram_reading (datagram_text p.made.datagram)) refl numbered whole remembers facts ok

-- ---- what is applied was produced in run mode

runs_by : (b : Bool) → cond b Applied Idle ≡ Applied → b ≡ true
runs_by true is = refl
runs_by false is = absurd (let e = is in cc)

runs_of : (sized new_data repeated : Bool) (header : Option (Bool × List ℕ)) → cond sized (cond new_data (cond repeated Duplicate (moded header)) Old) WrongSize ≡ Applied → run_bit header ≡ true
runs_of true true true header is = absurd (let e = is in cc)
runs_of true true false header is = runs_by (run_bit header) is
runs_of true false repeated header is = absurd (let e = is in cc)
runs_of false new_data repeated header is = absurd (let e = is in cc)

found_runs : HeaderReadsBack → (accepted : List Acceptance) (device : ℕ) (p : Production) (t : AdapterTable) (peer : Node) (d : DatagramFields) (found : Option Row) → ComesBack p.made.datagram d → FactsAt accepted device p (row_number found) (found_datagram t peer d found).0.verdict → (n : ℕ) → row_number found ≡ Some n → (found_datagram t peer d found).0.verdict ≡ Delivered Applied → p.made.run ≡ true
found_runs reads accepted device p t peer d None back facts n named said = absurd (let e = named in cc)
found_runs reads accepted device p t peer d (Some found) back facts n named said =
    let delivery = row_delivery t.profile t.clock found d in
    let verdict = judged_verdict (is_accepted delivery) t (accepted_table t peer d found delivery) delivery in
    let applied : delivery ≡ Applied = same_delivery delivery Applied (sym verdict ∙ said) in
    let so : is_accepted delivery ≡ true = ap is_accepted applied in
    let form = (facts found.opening refl (ap reports_accepted verdict ∙ so)).form in
    let owns = owner_of (length d.payload == expected_len t.profile found) (accepts_at t.profile.limits.newer t.clock found d.sequence) (is_owner found.kind) (is_duplicate found.last d.count) (header_at d.payload) (inl applied) in
    let sized = sized_of (length d.payload == expected_len t.profile found) (accepts_at t.profile.limits.newer t.clock found d.sequence) (is_owner found.kind) (is_duplicate found.last d.count) (header_at d.payload) so in
    let header = headed reads t.profile found d p form back.payload owns sized in
    sym (ap run_bit header) ∙ runs_of (length d.payload == expected_len t.profile found) (accepts_at t.profile.limits.newer t.clock found d.sequence) (is_duplicate found.last d.count) (header_at d.payload) (sym (owned_delivery_is t.profile t.clock found d owns) ∙ applied)

read_runs : HeaderReadsBack → (accepted : List Acceptance) (device : ℕ) (p : Production) (t : AdapterTable) (peer : Node) (reading : Result DatagramFields DatagramFault) → datagram_reading (datagram_text p.made.datagram) ≡ reading → FactsAt accepted device p (names_in (Adapter t) peer reading) (datagram_of t peer reading).0.verdict → (n : ℕ) → names_in (Adapter t) peer reading ≡ Some n → (datagram_of t peer reading).0.verdict ≡ Delivered Applied → p.made.run ≡ true
read_runs reads accepted device p t peer (Err why) is facts n named said = absurd (let e = named in cc)
read_runs reads accepted device p t peer (Ok d) is facts n named said = found_runs reads accepted device p t peer d (find (is_for peer d.connection) t.rows) (read_as p.made.datagram d is) facts n named said

pub applied_runs : HeaderReadsBack → (accepted : List Acceptance) (device : ℕ) (p : Production) (t : AdapterTable) (peer : Node) → FactsAt accepted device p (names (Adapter t) (record { from = peer; bytes = datagram_text p.made.datagram })) (received t peer (datagram_text p.made.datagram)).0.verdict → (n : ℕ) → names (Adapter t) (record { from = peer; bytes = datagram_text p.made.datagram }) ≡ Some n → (received t peer (datagram_text p.made.datagram)).0.verdict ≡ Delivered Applied → p.made.run ≡ true
unfolding received
applied_runs reads accepted device p t peer facts n named said = read_runs reads accepted device p t peer (datagram_reading (datagram_text p.made.datagram)) refl facts n named said
