-- The second pass, of one consumer: its last accepted pair is that of the newest datagram that it accepted. And the third:
-- accepted indexes rise, where the schedule keeps the half-circle condition.
use Rattle.std.proofs.Common.{◌≡◌, ◌≢◌, ℕ, ◌==◌, ◌&&◌, Bool, true, false, cond, List, [], ◌∷◌, ◌++◌, find, Option, Some, None, Result, Ok, Err, refl, sym, ◌∙◌, ap, eqb-true}
use Rattle.std.proofs.lemmas.Bool.{eqb-false}
use Rattle.cip_types.specs.declared.names.Node.{Node}
use Rattle.cip_datagram.specs.declared.datagram.DatagramFault.{DatagramFault}
use Rattle.cip_datagram.specs.Datagram.{DatagramFields, datagram_text}
use Rattle.cip_datagram.specs.Reading.{datagram_reading}
use Rattle.cip_events.specs.Answers.{is_accepted}
use Rattle.cip_events.specs.declared.event.Delivery.{Delivery}
use Rattle.cip_events.specs.declared.event.Event.TheVariants as event
use Rattle.cip_events.specs.declared.event.Verdict.TheVariants.{Delivered}
use Rattle.cip_productions.specs.declared.acceptance.Accepted.{Accepted}
use Rattle.adapter_table.specs.Connections.{Row}
use Rattle.adapter_table.specs.declared.table.AdapterTable.{AdapterTable}
use Rattle.adapter_table.specs.Datagrams.{is_for, row_delivery, delivered, accepted_table, found_datagram, datagram_of, received}
use Rattle.adapter_table.specs.Newest as rows
use Rattle.cip_tables.specs.declared.table.DeviceTable.TheVariants.{Adapter}
use Rattle.device_laws.specs.Productions.{End, end_at, Production, IsNumbered}
use Rattle.schedule_laws.specs.Chronicle.{Acceptance, row_number, names_in, names, accepted_by_verdict, newest}
use Rattle.device_laws.specs.Lemmas.Books.{is_the_end, is_other}
use Rattle.device_laws.specs.Lemmas.Reading.{ComesBack, read_as, sequence_back, count_back}

-- ---- the newest

abbrev pub pair_of : Option Acceptance → Option Accepted
pair_of None = None
pair_of (Some a) = Some (record { number = a.production.made.datagram.sequence; count = a.production.made.datagram.count })

pub newest_here : (a : Acceptance) (accepted : List Acceptance) (e : End) → a.consumer ≡ e → newest e (a ∷ accepted) ≡ Some a
newest_here a accepted e is = rw (is_the_end e a.consumer is) refl

pub newest_past : (a : Acceptance) (accepted : List Acceptance) (e : End) → a.consumer ≢ e → newest e (a ∷ accepted) ≡ newest e accepted
newest_past a accepted e ne = rw (is_other e a.consumer ne) refl

-- ---- what an adapter accepts

-- an entry of the chronicle for a consumer, or none
abbrev pub Entry : ℕ → Production → ℕ → Delivery → Acceptance
Entry device p number delivery = record { consumer = end_at device number; production = p; delivery = delivery }

pub pair_again : (p : Production) (d : DatagramFields) → IsNumbered p → ComesBack p.made.datagram d → ◌≡◌ {A = Accepted} (record { number = p.made.datagram.sequence; count = p.made.datagram.count }) (record { number = d.sequence; count = d.count })
pair_again p d is back = ap (λ (n : ℕ). record { number = n; count = p.made.datagram.count }) (sym (sequence_back p d is back)) ∙ ap (λ (n : ℕ). record { number = d.sequence; count = n }) (sym (count_back p d is back))

matched_step : (b c : Bool) (device n : ℕ) (p : Production) (d : DatagramFields) (row : Row) (delivery : Delivery) (old : List Acceptance) → is_accepted delivery ≡ b → (row.opening == n) ≡ c → IsNumbered p → ComesBack p.made.datagram d →
    pair_of (newest (end_at device n) (cond b (Entry device p row.opening delivery ∷ []) [] ++ old))
    ≡ rows.last_accepted (pair_of (newest (end_at device n) old)) (cond (c && b) (rows.acceptance_of d delivery ∷ []) [])
matched_step true true device n p d row delivery old is same numbered back =
    let one : row.opening ≡ n = eqb-true row.opening n same in
    ap pair_of (newest_here (Entry device p row.opening delivery) old (end_at device n) (ap (end_at device) one)) ∙ ap Some (pair_again p d numbered back)
matched_step true false device n p d row delivery old is other numbered back =
    let ne : row.opening ≢ n = eqb-false row.opening n other in
    ap pair_of (newest_past (Entry device p row.opening delivery) old (end_at device n) (λ e. ne (ap (λ (x : End). x.number) e)))
matched_step false true device n p d row delivery old is same numbered back = refl
matched_step false false device n p d row delivery old is same numbered back = refl

-- the verdict of a datagram that is found
pub judged_verdict : (b : Bool) (t u : AdapterTable) (delivery : Delivery) → (cond b (delivered delivery u) (delivered delivery t)).0.verdict ≡ Delivered delivery
judged_verdict true t u delivery = refl
judged_verdict false t u delivery = refl

found_matches : (device n : ℕ) (p : Production) (t : AdapterTable) (peer : Node) (d : DatagramFields) (found : Option Row) (old : List Acceptance) → IsNumbered p → ComesBack p.made.datagram d →
    pair_of (newest (end_at device n) (accepted_by_verdict device p (row_number found) (found_datagram t peer d found).0.verdict ++ old))
    ≡ rows.last_accepted (pair_of (newest (end_at device n) old)) (rows.accepted_found n t.profile t.clock d found)
found_matches device n p t peer d None old numbered back = refl
found_matches device n p t peer d (Some row) old numbered back =
    let delivery = row_delivery t.profile t.clock row d in
    rw (judged_verdict (is_accepted delivery) t (accepted_table t peer d row delivery) delivery)
    (matched_step (is_accepted delivery) (row.opening == n) device n p d row delivery old refl refl numbered back)

read_matches : (device n : ℕ) (p : Production) (t : AdapterTable) (peer : Node) (reading : Result DatagramFields DatagramFault) (old : List Acceptance) → datagram_reading (datagram_text p.made.datagram) ≡ reading → IsNumbered p →
    pair_of (newest (end_at device n) (accepted_by_verdict device p (names_in (Adapter t) peer reading) (datagram_of t peer reading).0.verdict ++ old))
    ≡ rows.last_accepted (pair_of (newest (end_at device n) old)) (rows.accepted_read n t peer reading)
read_matches device n p t peer (Err why) old is numbered = refl
read_matches device n p t peer (Ok d) old is numbered = found_matches device n p t peer d (find (is_for peer d.connection) t.rows) old numbered (read_as p.made.datagram d is)

pub adapter_matches : (device n : ℕ) (p : Production) (t : AdapterTable) (peer : Node) (old : List Acceptance) → IsNumbered p →
    pair_of (newest (end_at device n) (accepted_by_verdict device p (names (Adapter t) (record { from = peer; bytes = datagram_text p.made.datagram })) (received t peer (datagram_text p.made.datagram)).0.verdict ++ old))
    ≡ rows.last_accepted (pair_of (newest (end_at device n) old)) (rows.accepted_at n t (event.Datagram peer (datagram_text p.made.datagram)))
unfolding received
adapter_matches device n p t peer old numbered = read_matches device n p t peer (datagram_reading (datagram_text p.made.datagram)) old refl numbered
