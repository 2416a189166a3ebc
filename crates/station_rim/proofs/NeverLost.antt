-- State is never lost: what an output took of a point last is what was told of it, and its reader takes all in order.
use Rattle.std.proofs.Common.{◌≡◌, ◌≢◌, ℕ, zero, suc, ◌==◌, not, Bool, true, false, cond, List, [], ◌∷◌, ◌++◌, map, replicate, slice_get, slice_set, Option, Some, None, bytes_eq, refl, sym, ap, subst, ◌∙◌, append_assoc, arith, eqb-true}
use Rattle.std.proofs.lemmas.Bool.Decides.{nat_tests}
use Rattle.std.proofs.lemmas.Option.{same_Some}
use Rattle.std.proofs.lemmas.Slice.Eq.{bytes_eq-Decides}
use Rattle.station_rim.specs.Queue.Outlets.{QueueOutlet, after_of, offered_text}
use Rattle.station_rim.specs.Queue.Queues.{without}
use Rattle.station_rim.specs.Queue.StateLaw.{Given, Event, State, given_text, Way, fresh_way, Act, Report, Say, Begin, Take, Release, read_on, way_after, way_through, last_on, last_line, InOrder, ReportsAll, StateIsNeverLost, reported_one, reported_through, RoomReportsAll}
use Rattle.station_lines.specs.Reported.{Reported, answered, is_due, reported_at}
use Rattle.station_rim.specs.declared.queue.outlet.Offer.TheVariants as offer

-- ---- order

map_one_more : (given : List Given) (one : Given) → map given_text (given ++ one ∷ []) ≡ map given_text given ++ given_text one ∷ []
map_one_more [] one = refl
map_one_more (first ∷ others) one = ap (λ (x : List (List ℕ)). given_text first ∷ x) (map_one_more others one)

order_one_more : (given : List Given) (one : Given) (read pieces : List (List ℕ)) → map given_text given ≡ read ++ pieces → map given_text (given ++ one ∷ []) ≡ read ++ (pieces ++ given_text one ∷ [])
order_one_more given one read pieces is = map_one_more given one ∙ ap (λ (x : List (List ℕ)). x ++ given_text one ∷ []) is ∙ append_assoc read pieces (given_text one ∷ [])

order_taken : (outlet : QueueOutlet) (pieces texts read : List (List ℕ)) → outlet.queue.pieces ≡ pieces → texts ≡ read ++ pieces → texts ≡ read_on pieces read ++ (after_of outlet pieces).queue.pieces
order_taken outlet [] texts read same is = is ∙ ap (λ (x : List (List ℕ)). read ++ x) (sym same)
order_taken outlet (piece ∷ pieces) texts read same is =
    subst (λ (x : List (List ℕ)). texts ≡ (read ++ piece ∷ []) ++ (without outlet.queue x).pieces) (sym same) (is ∙ sym (append_assoc read (piece ∷ []) pieces))

order_after : (act : Act) (way : Way) → InOrder way → InOrder (way_after act way)
order_after (Report place bytes text offer.Taken) way is = order_one_more way.given (State place bytes (offered_text way.outlet text)) way.read way.outlet.queue.pieces is
order_after (Report place bytes text offer.Full) way is = is
order_after (Report place bytes text offer.OutOfMemory) way is = is
order_after (Say text offer.Taken) way is = order_one_more way.given (Event (offered_text way.outlet text)) way.read way.outlet.queue.pieces is
order_after (Say text offer.Full) way is = is
order_after (Say text offer.OutOfMemory) way is = is
order_after Begin way is = is
order_after Take way is = order_taken way.outlet way.outlet.queue.pieces (map given_text way.given) way.read refl is
order_after Release way is = is

-- ---- what was told

-- what the output took last of each point was told of it
abbrev Same : List Given → List (Option (List ℕ)) → Type 0
Same given reported = (place : ℕ) (one : Option (List ℕ)) → slice_get reported place ≡ Some one → last_line place given ≡ one

last_event : (place : ℕ) (found : Option (List ℕ)) (given : List Given) (text : List ℕ) → last_on place found (given ++ Event text ∷ []) ≡ last_on place found given
last_event place found [] text = refl
last_event place found (Event other ∷ others) text = last_event place found others text
last_event place found (State at bytes other ∷ others) text = last_event place (cond (at == place) (Some bytes) found) others text

last_state : (place : ℕ) (found : Option (List ℕ)) (given : List Given) (at : ℕ) (bytes text : List ℕ) → last_on place found (given ++ State at bytes text ∷ []) ≡ cond (at == place) (Some bytes) (last_on place found given)
last_state place found [] at bytes text = refl
last_state place found (Event other ∷ others) at bytes text = last_state place found others at bytes text
last_state place found (State there before other ∷ others) at bytes text = last_state place (cond (there == place) (Some before) found) others at bytes text

set_here : (k : ℕ) (xs : List (Option (List ℕ))) (x one : Option (List ℕ)) → slice_get (slice_set xs k x) k ≡ Some one → x ≡ one
set_here k [] x one is = absurd cc
set_here zero (y ∷ xs) x one is = same_Some x one is
set_here (suc k) (y ∷ xs) x one is = set_here k xs x one is

set_there : (k l : ℕ) (xs : List (Option (List ℕ))) (x : Option (List ℕ)) → l ≢ k → slice_get (slice_set xs k x) l ≡ slice_get xs l
set_there k l [] x other = refl
set_there zero zero (y ∷ xs) x other = absurd (other refl)
set_there zero (suc l) (y ∷ xs) x other = refl
set_there (suc k) zero (y ∷ xs) x other = refl
set_there (suc k) (suc l) (y ∷ xs) x other = set_there k l xs x (λ same. other (ap suc same))

apart : (at place : ℕ) → (at == place) ≡ false → place ≢ at
apart at place other = λ same. grind (arith, nat_tests)

same_set : (b : Bool) (at place : ℕ) (reported : List (Option (List ℕ))) (bytes : List ℕ) (last one : Option (List ℕ)) → (at == place) ≡ b → (slice_get reported place ≡ Some one → last ≡ one) → slice_get (slice_set reported at (Some bytes)) place ≡ Some one → cond b (Some bytes) last ≡ one
same_set true at place reported bytes last one same before is = set_here at reported (Some bytes) one (subst (λ (n : ℕ). slice_get (slice_set reported at (Some bytes)) n ≡ Some one) (sym (eqb-true at place same)) is)
same_set false at place reported bytes last one other before is = before (sym (set_there at place reported (Some bytes) (apart at place other)) ∙ is)

same_after : (act : Act) (way : Way) → Same way.given way.reported.reported → Same (way_after act way).given (way_after act way).reported.reported
same_after (Report at bytes text offer.Taken) way same = λ place one is.
    last_state place None way.given at bytes (offered_text way.outlet text)
    ∙ same_set (at == place) at place way.reported.reported bytes (last_line place way.given) one refl (same place one) is
same_after (Report place bytes text offer.Full) way same = same
same_after (Report place bytes text offer.OutOfMemory) way same = same
same_after (Say text offer.Taken) way same = λ place one is. last_event place None way.given (offered_text way.outlet text) ∙ same place one is
same_after (Say text offer.Full) way same = same
same_after (Say text offer.OutOfMemory) way same = same
same_after Begin way same = same
same_after Take way same = same
same_after Release way same = same

none_reported : (count place : ℕ) (one : Option (List ℕ)) → slice_get (replicate count None) place ≡ Some one → None ≡ one
none_reported zero place one is = absurd cc
none_reported (suc count) zero one is = same_Some None one is
none_reported (suc count) (suc place) one is = none_reported count place one is

-- ---- all acts

order_through : (acts : List Act) (way : Way) → InOrder way → InOrder (way_through acts way)
order_through [] way is = is
order_through (act ∷ acts) way is = order_through acts (way_after act way) (order_after act way is)

same_through : (acts : List Act) (way : Way) → Same way.given way.reported.reported → Same (way_through acts way).given (way_through acts way).reported.reported
same_through [] way same = same
same_through (act ∷ acts) way same = same_through acts (way_after act way) (same_after act way same)

-- a line that is not due has the bytes that were told
not_due : (reported : Option (List ℕ)) (held : List ℕ) → is_due (Some reported) held ≡ false → reported ≡ Some held
not_due None held is = absurd cc
not_due (Some bytes) held is = by (bytes_eq bytes held) refl is
  where
    by : (b : Bool) → bytes_eq bytes held ≡ b → not b ≡ false → Some bytes ≡ Some held
    by true same is = ap Some ((bytes_eq-Decides bytes held).0 same)
    by false other is = absurd cc

reports : (way : Way) → Same way.given way.reported.reported → ReportsAll way
reports way same = λ place reported is. record { last = same place reported is; holds = λ held not. same place reported is ∙ not_due reported held not }

pub never_lost : StateIsNeverLost
never_lost form most_bytes most_pieces count acts = (
  order_through acts (fresh_way form most_bytes most_pieces count) refl,
  reports _ (same_through acts (fresh_way form most_bytes most_pieces count) (none_reported count)),
)

-- ---- room

-- a line that was taken is not due
due_set : (k : ℕ) (xs : List (Option (List ℕ))) (bytes : List ℕ) → is_due (slice_get (slice_set xs k (Some bytes)) k) bytes ≡ false
due_set k [] bytes = refl
due_set zero (y ∷ xs) bytes = ap not ((bytes_eq-Decides bytes bytes).1 refl)
due_set (suc k) (y ∷ xs) bytes = due_set k xs bytes

one_reported : (b : Bool) (held : ℕ → List ℕ) (place : ℕ) (reported : Reported) → is_due (reported_at reported place) (held place) ≡ b → is_due (reported_at (cond b (answered place (held place) true reported) reported) place) (held place) ≡ false
one_reported true held place reported is = due_set place reported.reported (held place)
one_reported false held place reported is = is

other_set : (b : Bool) (held : ℕ → List ℕ) (at place : ℕ) (reported : Reported) → (at == place) ≡ b → is_due (reported_at reported place) (held place) ≡ false → is_due (reported_at (answered at (held at) true reported) place) (held place) ≡ false
other_set true held at place reported same not =
    subst (λ (n : ℕ). is_due (reported_at (answered at (held at) true reported) n) (held n) ≡ false) (eqb-true at place same) (due_set at reported.reported (held at))
other_set false held at place reported other not =
    subst (λ (x : Option (Option (List ℕ))). is_due x (held place) ≡ false) (sym (set_there at place reported.reported (Some (held at)) (apart at place other))) not

stays_reported : (b : Bool) (held : ℕ → List ℕ) (at place : ℕ) (reported : Reported) → is_due (reported_at reported place) (held place) ≡ false → is_due (reported_at (cond b (answered at (held at) true reported) reported) place) (held place) ≡ false
stays_reported true held at place reported not = other_set (at == place) held at place reported refl not
stays_reported false held at place reported not = not

reported_stays : (held : ℕ → List ℕ) (places : List ℕ) (place : ℕ) (reported : Reported) → is_due (reported_at reported place) (held place) ≡ false → is_due (reported_at (reported_through held places reported) place) (held place) ≡ false
reported_stays held [] place reported not = not
reported_stays held (at ∷ places) place reported not = reported_stays held places place (reported_one held at reported) (stays_reported (is_due (reported_at reported at) (held at)) held at place reported not)

pub room_reports_all : RoomReportsAll
room_reports_all held [] reported = tt
room_reports_all held (place ∷ places) reported = (
  reported_stays held places place (reported_one held place reported) (one_reported (is_due (reported_at reported place) (held place)) held place reported refl),
  room_reports_all held places (reported_one held place reported),
)
