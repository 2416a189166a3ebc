-- The law on the output of an owner in run mode refuses a table with older data: each way to split the events fails.
use Rattle.std.proofs.Common.{◌≡◌, refl, ℕ, List, [], ◌∷◌, ◌++◌, get_or, find, Some, None, sym, ◌∙◌, ap, subst, arith}
use Rattle.std.specs.Option.{option_map}
use Rattle.std.proofs.lemmas.Option.{same_Some}
use Rattle.cip_datagram.specs.Datagram.{DatagramFields}
use Rattle.cip_datagram.specs.Header.{header_at}
use Rattle.cip_events.specs.declared.event.Delivery.{Delivery}
use Rattle.cip_events.specs.declared.event.Delivery.TheVariants.{Applied}
use Rattle.cip_events.specs.declared.event.Event.{Event}
use Rattle.cip_events.specs.declared.event.Event.TheVariants.{Datagram}
use Rattle.adapter_table.specs.declared.table.AdapterTable.{AdapterTable}
use Rattle.adapter_table.specs.Connections.{Row}
use Rattle.adapter_table.specs.Datagrams.{run_data}
use Rattle.adapter_table.specs.Points.{put_value, bytes_at}
use Rattle.adapter_table.specs.Rows.{drives}
use Rattle.adapter_table.specs.Step.{adapter_table}
use Rattle.cip_tables.specs.declared.table.DeviceTable.{DeviceTable}
use Rattle.cip_tables.specs.declared.table.DeviceTable.TheVariants.{Adapter, Scanner}
use Rattle.cip_tables.specs.Run.{table_after}
use Rattle.cip_tables.specs.Scratch.{last_touched}
use Rattle.device_laws.specs.OwnerData.{delivered_in, HoldsRunData}
use Rattle.samples.specs.Hex.{hex}
use Rattle.samples.specs.Devices.{common, fresh, peer}
use Rattle.samples.specs.Requests.{owner}
use Rattle.samples.specs.Datagrams.{datagram, running}
use Rattle.samples.specs.Runs.{after, opens}
use Rattle.samples.specs.Computing.{computing}

-- the owner's datagram with this number and these data, in run mode
abbrev runs : ℕ → List ℕ → Event
runs number bytes = Datagram peer (datagram 0x10000001 number number (running bytes))

abbrev older : List ℕ
older = hex "11 22 33 44"

abbrev newer : List ℕ
newer = hex "55 66 77 88"

-- the owner opens, and sends two datagrams
abbrev first : Event
first = opens owner

abbrev second : Event
second = runs 1 older

abbrev third : Event
third = runs 2 newer

abbrev played : List Event
played = first ∷ second ∷ third ∷ []

-- the adapter after them, and the same with the older data at the output
abbrev adapter_of : DeviceTable → AdapterTable
adapter_of (Adapter t) = t
adapter_of (Scanner t) = adapter_table common

abbrev good : AdapterTable
good = adapter_of (after common played)

abbrev stale : AdapterTable
stale = record good { values = put_value 150 older good.values }

-- ---- what is computed

opening_of : Row → ℕ
opening_of row = row.opening

-- the data of a delivered datagram
data_of : DatagramFields × Delivery → List ℕ
data_of said = run_data (header_at said.0.payload)

the_owner_is_the_first : option_map opening_of (find (drives 150) stale.rows) ≡ Some 1
unfolding computing opening_of
the_owner_is_the_first = refl

it_holds_older_data : bytes_at stale.values 150 ≡ Some older
unfolding computing
it_holds_older_data = refl

newer_data_touch_it : last_touched 150 (after common (first ∷ second ∷ [])) (third ∷ []) ≡ Some newer
unfolding computing
newer_data_touch_it = refl

newer_data_are_applied : option_map data_of (delivered_in 1 (after common (first ∷ second ∷ [])) third) ≡ Some newer
unfolding computing data_of
newer_data_are_applied = refl

-- ---- three events, before, at and after one of them

first_is : (x y : Event) (xs ys : List Event) → x ∷ xs ≡ y ∷ ys → x ≡ y
first_is x y xs ys is = cc

rest_is : (x y : Event) (xs ys : List Event) → x ∷ xs ≡ y ∷ ys → xs ≡ ys
rest_is x y xs ys is = cc

no_event_left : (rest : List Event) (event : Event) (after : List Event) → [] ≡ rest ++ event ∷ after → ⊥
no_event_left [] event after is = cc
no_event_left (x ∷ rest) event after is = cc

abbrev OfSplit : Type 1
OfSplit = List Event → Event → List Event → Type 0

last_way : (Q : OfSplit) (c : Event) → Q [] c [] → (before : List Event) (event : Event) (after : List Event) → c ∷ [] ≡ before ++ event ∷ after → Q before event after
last_way Q c here [] event after is = subst (λ (e : Event). Q [] e after) (first_is c event [] after is) (subst (λ (es : List Event). Q [] c es) (rest_is c event [] after is) here)
last_way Q c here (x ∷ before) event after is = absurd (no_event_left before event after (rest_is c x [] (before ++ event ∷ after) is))

-- one way more for one event more
more_ways : (Q : OfSplit) (a : Event) (rest : List Event) → Q [] a rest → ((before : List Event) (event : Event) (after : List Event) → rest ≡ before ++ event ∷ after → Q (a ∷ before) event after) → (before : List Event) (event : Event) (after : List Event) → a ∷ rest ≡ before ++ event ∷ after → Q before event after
more_ways Q a rest here later [] event after is = subst (λ (e : Event). Q [] e after) (first_is a event rest after is) (subst (λ (es : List Event). Q [] a es) (rest_is a event rest after is) here)
more_ways Q a rest here later (x ∷ before) event after is =
    subst (λ (e : Event). Q (e ∷ before) event after) (first_is a x rest (before ++ event ∷ after) is) (later before event after (rest_is a x rest (before ++ event ∷ after) is))

three_ways : (Q : OfSplit) (a b c : Event) → Q [] a (b ∷ c ∷ []) → Q (a ∷ []) b (c ∷ []) → Q (a ∷ b ∷ []) c [] → (before : List Event) (event : Event) (after : List Event) → a ∷ b ∷ c ∷ [] ≡ before ++ event ∷ after → Q before event after
three_ways Q a b c one two three =
    more_ways Q a (b ∷ c ∷ []) one
    (more_ways (λ before event after. Q (a ∷ before) event after) b (c ∷ []) two (last_way (λ before event after. Q (a ∷ (b ∷ before)) event after) c three))

-- ---- older data are refused

nothing_is : {A : Type 0} (x : A) → None ≡ Some x → ⊥
nothing_is x is = cc

other_bytes : older ≡ newer → ⊥
other_bytes is = let e : 0x11 ≡ 0x55 = ap (λ (bytes : List ℕ). get_or bytes 0 0) is in absurd (omega (arith, e))

-- the event is one that brought these data, and no later one touched the output
abbrev BringsLast : DatagramFields → OfSplit
BringsLast d before event after =
    delivered_in 1 (table_after (fresh common) before) event ≡ Some (d, Applied) →
    last_touched 150 (table_after (fresh common) (before ++ event ∷ [])) after ≡ None → ⊥

older_data_are_refused : HoldsRunData 150 (fresh common) played stale → ⊥
unfolding opening_of data_of
older_data_are_refused held =
    let newest = held.newest in
    let opening : held.owner.opening ≡ 1 = same_Some held.owner.opening 1 (ap (option_map opening_of) (sym held.owns) ∙ the_owner_is_the_first) in
    let delivered = subst (λ (n : ℕ). delivered_in n (table_after (fresh common) newest.before) newest.event ≡ Some (newest.d, Applied)) opening newest.delivered in
    three_ways (BringsLast newest.d) first second third
    (λ said untouched. nothing_is (newest.d, Applied) said)
    (λ said untouched. nothing_is newer (sym untouched ∙ newer_data_touch_it))
    (λ said untouched. other_bytes (same_Some older newer (sym it_holds_older_data ∙ held.holds ∙ sym (ap (option_map data_of) said) ∙ newer_data_are_applied)))
    newest.before newest.event newest.after newest.split delivered newest.untouched
