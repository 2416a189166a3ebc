-- The places of the events of segments in the list of all.
use Rattle.std.proofs.Common.{◌≡◌, ◌<◌, ◌+◌, ℕ, zero, suc, Bool, List, [], ◌∷◌, ◌++◌, length, map, sum, take, get_or, slice_get, unwrap_or, Option, Some, None, if◌then◌else◌, refl, ◌∙◌, ap, arith, zero-add, add_assoc}
use Rattle.std.proofs.lemmas.Bool.{lt-ltb}
use Rattle.std.proofs.lemmas.List.Sums.{sum_by-cons}
use Rattle.cip_events.specs.declared.event.Event.{Event}
use Rattle.device_lock.specs.declared.segment.Segment.{Segment}
use Rattle.device_lock.specs.Histories.{count_of, events_of, place_in, EventsStandAtTheirPlaces}

-- AN EVENT OF A LIST IN A LONGER ONE

get_left : (xs ys : List Event) (i : ℕ) → i < length xs → slice_get (xs ++ ys) i ≡ slice_get xs i
get_left [] ys i lt = absurd (omega arith)
get_left (x ∷ xs) ys zero lt = refl
get_left (x ∷ xs) ys (suc i) lt = get_left xs ys i (omega arith)

get_right : (xs ys : List Event) (i : ℕ) → slice_get (xs ++ ys) (length xs + i) ≡ slice_get ys i
get_right [] ys i = ap (slice_get ys) (zero-add i)
get_right (x ∷ xs) ys i =
    let next : length (x ∷ xs) + i ≡ suc (length xs + i) = omega arith in
    ap (slice_get (x ∷ xs ++ ys)) next ∙ get_right xs ys i

-- THE EVENTS OF A SEGMENT IN THE LIST OF ALL

some_is : (x y : Segment) → Some x ≡ Some y → x ≡ y
some_is x y is = ap (λ (o : Option Segment). unwrap_or o x) is

count_at : (segments : List Segment) (segment : Segment) (k : ℕ) → slice_get segments k ≡ Some segment → get_or (map count_of segments) k 0 ≡ length segment.events
count_at [] segment k at = absurd (let none = at in cc)
count_at (x ∷ xs) segment zero at = ap count_of (some_is x segment at)
count_at (x ∷ xs) segment (suc k) at = count_at xs segment k at

event_at : (segments : List Segment) (segment : Segment) (k i : ℕ) → slice_get segments k ≡ Some segment → i < length segment.events → slice_get (events_of segments) (sum (take k (map count_of segments)) + i) ≡ slice_get segment.events i
event_at [] segment k i at lt = absurd (let none = at in cc)
event_at (x ∷ xs) segment zero i at lt =
    let same = some_is x segment at in
    let lt_x : i < length x.events = let n = ap count_of same in omega (arith, n) in
    ap (slice_get (x.events ++ events_of xs)) (zero-add i) ∙ get_left x.events (events_of xs) i lt_x ∙ ap (λ (s : Segment). slice_get s.events i) same
event_at (x ∷ xs) segment (suc k) i at lt =
    let rest = sum (take k (map count_of xs)) in
    let before = sum_by-cons (λ n. n) (count_of x) (take k (map count_of xs)) in
    let place : sum (take (suc k) (map count_of (x ∷ xs))) + i ≡ length x.events + (rest + i) = ap (λ n. n + i) before ∙ add_assoc (length x.events) rest i in
    ap (slice_get (x.events ++ events_of xs)) place ∙ get_right x.events (events_of xs) (rest + i) ∙ event_at xs segment k i at lt

place_is : (segments : List Segment) (segment : Segment) (k i : ℕ) → slice_get segments k ≡ Some segment → i < length segment.events → place_in (map count_of segments) k i ≡ Some (sum (take k (map count_of segments)) + i)
place_is segments segment k i at lt =
    let place = sum (take k (map count_of segments)) + i in
    let count = count_at segments segment k at in
    let found = lt-ltb i (get_or (map count_of segments) k 0) (omega (arith, count)) in
    ap (λ (b : Bool). if b then Some place else None) found

pub events_stand : EventsStandAtTheirPlaces
events_stand segments segment k i at lt =
    (sum (take k (map count_of segments)) + i, place_is segments segment k i at lt, event_at segments segment k i at lt)
