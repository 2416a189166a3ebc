-- Over every run data come from one connection until it has ended.
use Rattle.std.proofs.Common.{◌≡◌, ℕ, ◌==◌, ◌&&◌, Bool, true, false, cond, List, [], ◌∷◌, ◌++◌, length, map, filter, find, Option, Some, None, Result, Ok, Err, refl, sym, ap, subst, arith}
use Rattle.std.specs.Option.{option_map}
use Rattle.std.proofs.lemmas.Bool.{and_parts}
use Rattle.std.proofs.lemmas.Bool.Decides.{nat_tests}
use Rattle.base_lemmas.specs.Lists.{found_passes}
use Rattle.cip_types.specs.declared.names.Node.{Node}
use Rattle.cip_types.specs.declared.names.Ms.{Ms}
use Rattle.cip_datagram.specs.declared.datagram.DatagramFault.{DatagramFault}
use Rattle.cip_datagram.specs.Datagram.{DatagramFields}
use Rattle.cip_datagram.specs.Reading.{datagram_reading}
use Rattle.cip_events.specs.declared.event.Delivery.{Delivery}
use Rattle.cip_events.specs.declared.event.Delivery.TheVariants.{Heartbeat, Old, WrongSize}
use Rattle.cip_events.specs.declared.event.Event.{Event}
use Rattle.cip_events.specs.declared.event.Event.TheVariants.{Datagram}
use Rattle.cip_events.specs.declared.event.Notice.{Notice}
use Rattle.cip_events.specs.declared.event.StepFault.{StepFault}
use Rattle.adapter_table.specs.StatedLimits.{accepts_at}
use Rattle.cip_productions.specs.Kinds.{is_owner}
use Rattle.adapter_table.specs.declared.profile.Profile.{Profile}
use Rattle.adapter_table.specs.Connections.{Row}
use Rattle.adapter_table.specs.declared.table.AdapterTable.{AdapterTable}
use Rattle.adapter_table.specs.Rows.{is_established, drives, drivers}
use Rattle.adapter_table.specs.Datagrams.{is_for, expected_len, owned_delivery, row_delivery}
use Rattle.adapter_table.specs.Newest.{is_applied}
use Rattle.adapter_table.specs.Requests.{Next}
use Rattle.adapter_table.specs.Step.{adapter_step}
use Rattle.adapter_table.specs.Sound.{HasOneOwner}
use Rattle.adapter_table.specs.Whole.{IsWhole}
use Rattle.adapter_table.specs.Laws.{EffectsKeep}
use Rattle.scanner_table.specs.declared.table.ScannerTable.{ScannerTable}
use Rattle.scanner_table.specs.Effects.{Next as ScannerNext}
use Rattle.scanner_table.specs.Step.{scanner_step}
use Rattle.cip_tables.specs.declared.table.DeviceTable.{DeviceTable}
use Rattle.cip_tables.specs.declared.table.DeviceTable.TheVariants.{Adapter, Scanner}
use Rattle.cip_tables.specs.Step.{DeviceNext, as_adapter, as_scanner, step}
use Rattle.cip_tables.specs.Run.{table_of, performed}
use Rattle.cip_tables.specs.Whole.{IsWholeDevice, RunsKeepWhole}
use Rattle.device_laws.specs.Turns.{Turn, brought, brought_found, brought_read, brought_at, has_ended, ended_turn, ended_at, reported, turns_at, turns, left_after, owner_after, IsOwner, Follow, opening_of, driver_in, OwnersFollow, DriversGoOn}
use Rattle.device_laws.proofs.OneOwner.{found_alone}
use Rattle.device_laws.proofs.OwnerEffects.{openings, KeepsOwner}
use Rattle.device_laws.proofs.OwnerSteps.{step_keeps}

-- ---- turns after one another

-- the owner after the turns: the connection that brought data last, if it has not ended
abbrev pub owner_at_end : Option ℕ → List Turn → Option ℕ
owner_at_end owner [] = owner
owner_at_end owner (turn ∷ rest) = owner_at_end (owner_after turn owner) rest

follow_more : (owner : Option ℕ) (first rest : List Turn) → Follow owner first → Follow (owner_at_end owner first) rest → Follow owner (first ++ rest)
follow_more owner [] rest done more = more
follow_more owner (turn ∷ first) rest done more = (done.0, follow_more (owner_after turn owner) first rest done.1 more)

end_more : (owner : Option ℕ) (first rest : List Turn) → owner_at_end owner (first ++ rest) ≡ owner_at_end (owner_at_end owner first) rest
end_more owner [] rest = refl
end_more owner (turn ∷ first) rest = end_more (owner_after turn owner) first rest

-- it is the only driver of the output
abbrev Owns : ℕ → Option ℕ → AdapterTable → Type 0
Owns point None t = Unit {0}
Owns point (Some opening) t = openings point t.rows ≡ opening ∷ []

-- ---- data

owned_parts : (sized newer owner : Bool) (what : Delivery) → is_applied (cond sized (cond newer (cond owner what Heartbeat) Old) WrongSize) ≡ true → owner ≡ true
owned_parts true true true what is = refl
owned_parts true true false what is = absurd cc
owned_parts true false owner what is = absurd cc
owned_parts false newer owner what is = absurd cc

all_three : (a b c : Bool) → a ≡ true → b ≡ true → c ≡ true → (a && (b && c)) ≡ true
all_three true true true x y z = refl
all_three true true false x y z = absurd cc
all_three true false c x y z = absurd cc
all_three false b c x y z = absurd cc

-- data are applied to the output of their connection, which drives it
applied_drives : (point : ℕ) (profile : Profile) (clock : Ms) (peer : Node) (d : DatagramFields) (row : Row) → is_for peer d.connection row ≡ true → (row.consumed == point && is_applied (row_delivery profile clock row d)) ≡ true → drives point row ≡ true
applied_drives point profile clock peer d row to is =
    let parts = and_parts (row.consumed == point) (is_applied (row_delivery profile clock row d)) is in
    let owns = owned_parts (length d.payload == expected_len profile row) (accepts_at profile.limits.newer clock row d.sequence) (is_owner row.kind) (owned_delivery row d) parts.1 in
    all_three (is_established row) (is_owner row.kind) (row.consumed == point) (and_parts (is_established row) _ to).0 owns parts.0

first_same : (a b : ℕ) (xs : List ℕ) → xs ≡ a ∷ [] → xs ≡ b ∷ [] → a ≡ b
first_same a b xs one other = cc

-- the only driver of an output is the owner, if there is one
is_in_turn : (point opening : ℕ) (owner : Option ℕ) (t : AdapterTable) → openings point t.rows ≡ opening ∷ [] → Owns point owner t → IsOwner opening owner
is_in_turn point opening None t one owns = tt
is_in_turn point opening (Some owner) t one owns = first_same opening owner (openings point t.rows) one owns

-- turns from an owner follow one another, and the last one owns
abbrev Goes : ℕ → Option ℕ → List Turn → AdapterTable → Type 0
Goes point owner reported t = Follow owner reported × Owns point (owner_at_end owner reported) t

brings : (b : Bool) (point : ℕ) (owner : Option ℕ) (t : AdapterTable) (row : Row) → (b ≡ true → openings point t.rows ≡ row.opening ∷ []) → Owns point owner t → Goes point owner (cond b (brought row.opening ∷ []) []) t
brings true point owner t row one owns = ((is_in_turn point row.opening owner t (one refl) owns, tt), one refl)
brings false point owner t row one owns = (tt, owns)

brings_found : (point : ℕ) (owner : Option ℕ) (t : AdapterTable) (peer : Node) (d : DatagramFields) (found : Option Row) → find (is_for peer d.connection) t.rows ≡ found → HasOneOwner t.rows → Owns point owner t → Goes point owner (brought_found point t.profile t.clock d found) t
brings_found point owner t peer d None is one owns = (tt, owns)
brings_found point owner t peer d (Some row) is one owns =
    brings (row.consumed == point && is_applied (row_delivery t.profile t.clock row d)) point owner t row (λ applied.
    let to = found_passes (is_for peer d.connection) t.rows row is in
    ap (map opening_of) (found_alone (is_for peer d.connection) (drives point) t.rows row is (applied_drives point t.profile t.clock peer d row to applied) (one point))) owns

brings_read : (point : ℕ) (owner : Option ℕ) (t : AdapterTable) (peer : Node) (reading : Result DatagramFields DatagramFault) → HasOneOwner t.rows → Owns point owner t → Goes point owner (brought_read point t peer reading) t
brings_read point owner t peer (Err fault) one owns = (tt, owns)
brings_read point owner t peer (Ok d) one owns = brings_found point owner t peer d (find (is_for peer d.connection) t.rows) refl one owns

-- the data of an event come from the owner, if there is one
brings_at : (point : ℕ) (owner : Option ℕ) (t : AdapterTable) (event : Event) → HasOneOwner t.rows → Owns point owner t → Goes point owner (brought_at point t event) t
brings_at point owner t (Datagram peer bytes) one owns = brings_read point owner t peer (datagram_reading bytes) one owns
brings_at point owner t event one owns = (tt, owns)

-- ---- ends

-- ends are always in turn
ends_follow : (owner : Option ℕ) (rows : List Row) → Follow owner (map ended_turn rows)
ends_follow owner [] = tt
ends_follow owner (row ∷ rows) = (tt, ends_follow (left_after row.opening owner) rows)

none_stays : (rows : List Row) → owner_at_end None (map ended_turn rows) ≡ None
none_stays [] = refl
none_stays (row ∷ rows) = none_stays rows

one_is : (rows : List Row) (opening : ℕ) → map opening_of rows ≡ opening ∷ [] → (row : Row) × (rows ≡ row ∷ []) × (row.opening ≡ opening)
one_is [] opening is = absurd cc
one_is (row ∷ []) opening is = (row, refl, cc)
one_is (row ∷ other ∷ rows) opening is = absurd cc

ended_now : (b : Bool) (opening : ℕ) → (opening == opening) ≡ b → cond b None (Some opening) ≡ None
ended_now true opening is = refl
ended_now false opening is = absurd (grind (arith, nat_tests))

-- the owner has ended, or goes on
ends_by : (b : Bool) (point : ℕ) (row : Row) (next : AdapterTable) → (b ≡ false → openings point next.rows ≡ row.opening ∷ []) → Owns point (owner_at_end (Some row.opening) (map ended_turn (cond b (row ∷ []) []))) next
ends_by true point row next keeps = subst (λ (o : Option ℕ). Owns point o next) (sym (ended_now (row.opening == row.opening) row.opening refl)) tt
ends_by false point row next keeps = keeps refl

ends_own : (point : ℕ) (owner : Option ℕ) (t next : AdapterTable) (notices : List Notice) → Owns point owner t → KeepsOwner point t notices next → Owns point (owner_at_end owner (ended_at point t.rows notices)) next
ends_own point None t next notices owns keeps = subst (λ (o : Option ℕ). Owns point o next) (sym (none_stays (filter (has_ended notices) (drivers point t.rows)))) tt
ends_own point (Some opening) t next notices owns keeps =
    let one = one_is (drivers point t.rows) opening owns in
    let row = one.0 in
    let ends = ends_by (has_ended notices row) point row next (keeps row one.1) in
    subst (λ (rows : List Row). Owns point (owner_at_end (Some opening) (map ended_turn (filter (has_ended notices) rows))) next) (sym one.1)
    (subst (λ (n : ℕ). Owns point (owner_at_end (Some n) (map ended_turn (filter (has_ended notices) (row ∷ [])))) next) one.2 ends)

-- ---- an event

reported_goes : (point : ℕ) (owner : Option ℕ) (t : AdapterTable) (event : Event) (next : Next) → HasOneOwner t.rows → Owns point owner t → KeepsOwner point t next.0.notices next.1 → Goes point owner (reported point t event (Ok next)) next.1
reported_goes point owner t event next one owns keeps =
    let data_of = brought_at point t event in
    let ends = ended_at point t.rows next.0.notices in
    let first = brings_at point owner t event one owns in
    let after = ends_own point (owner_at_end owner (brought_at point t event)) t next.1 next.0.notices first.1 keeps in (
      follow_more owner data_of ends first.0 (ends_follow (owner_at_end owner data_of) (filter (has_ended next.0.notices) (drivers point t.rows))),
      subst (λ (o : Option ℕ). Owns point o next.1) (sym (end_more owner (brought_at point t event) (ended_at point t.rows next.0.notices))) after,
    )

-- the same of a device; a scanner has no output
abbrev DeviceOwns : ℕ → Option ℕ → DeviceTable → Type 0
DeviceOwns point owner (Adapter t) = Owns point owner t
DeviceOwns point owner (Scanner t) = Unit {0}

abbrev DeviceGoes : ℕ → Option ℕ → List Turn → DeviceTable → Type 0
DeviceGoes point owner reported next = Follow owner reported × DeviceOwns point (owner_at_end owner reported) next

adapter_goes : EffectsKeep IsWhole → (point : ℕ) (owner : Option ℕ) (t : AdapterTable) (event : Event) (said : Result Next StepFault) → adapter_step t event ≡ said → IsWhole t → Owns point owner t → DeviceGoes point owner (reported point t event said) (table_of (Adapter t) (as_adapter said))
adapter_goes effects point owner t event (Ok next) is whole owns = reported_goes point owner t event next whole.sound.one_owner owns (step_keeps effects point t event next whole is)
adapter_goes effects point owner t event (Err fault) is whole owns = (tt, owns)

scanner_goes : (point : ℕ) (owner : Option ℕ) (t : ScannerTable) (said : Result ScannerNext StepFault) → DeviceGoes point owner [] (table_of (Scanner t) (as_scanner said))
scanner_goes point owner t (Ok next) = (tt, tt)
scanner_goes point owner t (Err fault) = (tt, tt)

step_goes : EffectsKeep IsWhole → (point : ℕ) (owner : Option ℕ) (old : DeviceTable) (event : Event) → IsWholeDevice old → DeviceOwns point owner old → DeviceGoes point owner (turns_at point old event) (table_of old (step old event))
unfolding step
step_goes effects point owner (Adapter t) event whole owns = adapter_goes effects point owner t event (adapter_step t event) refl whole owns
step_goes effects point owner (Scanner t) event whole owns = scanner_goes point owner t (scanner_step t event)

step_is_whole : RunsKeepWhole → (old : DeviceTable) (event : Event) (said : Result DeviceNext StepFault) → step old event ≡ said → IsWholeDevice old → IsWholeDevice (table_of old said)
step_is_whole runs old event (Ok next) is whole = runs old next.1 (event ∷ []) (Ok next.0 ∷ []) whole (next.1, is, refl)
step_is_whole runs old event (Err fault) is whole = whole

-- ---- a run

-- from an owner the turns over the events follow one another
events_follow : EffectsKeep IsWhole → RunsKeepWhole → (point : ℕ) (owner : Option ℕ) (old : DeviceTable) (events : List Event) → IsWholeDevice old → DeviceOwns point owner old → Follow owner (turns point old events)
events_follow effects runs point owner old [] whole owns = tt
events_follow effects runs point owner old (event ∷ events) whole owns =
    let next = table_of old (step old event) in
    let goes = step_goes effects point owner old event whole owns in
    let next_whole = step_is_whole runs old event (step old event) refl whole in
    follow_more owner (turns_at point old event) (turns point next events) goes.0
    (events_follow effects runs point (owner_at_end owner (turns_at point old event)) (table_of old (step old event)) events next_whole goes.1)

-- who drives the output at first owns it
driver_found : (point : ℕ) (t : AdapterTable) (found : Option Row) → find (drives point) t.rows ≡ found → HasOneOwner t.rows → Owns point (option_map opening_of found) t
driver_found point t None is one = tt
driver_found point t (Some row) is one =
    ap (map opening_of) (found_alone (drives point) (drives point) t.rows row is (found_passes (drives point) t.rows row is) (one point))

driver_owns : (point : ℕ) (t : DeviceTable) → IsWholeDevice t → DeviceOwns point (driver_in point t) t
driver_owns point (Adapter t) whole = driver_found point t (find (drives point) t.rows) refl whole.sound.one_owner
driver_owns point (Scanner t) whole = tt

nobody_owns : (point : ℕ) (t : DeviceTable) → DeviceOwns point None t
nobody_owns point (Adapter t) = tt
nobody_owns point (Scanner t) = tt

pub drivers_go_on : EffectsKeep IsWhole → RunsKeepWhole → DriversGoOn
drivers_go_on effects runs point old new events outcomes whole ran =
    events_follow effects runs point (driver_in point old) old (performed events outcomes) whole (driver_owns point old whole)

pub owners_follow : EffectsKeep IsWhole → RunsKeepWhole → OwnersFollow
owners_follow effects runs point old new events outcomes whole ran =
    events_follow effects runs point None old (performed events outcomes) whole (nobody_owns point old)
