-- What good receipts say of the histories.
use Rattle.std.proofs.Common.{◌≡◌, ◌≢◌, ◌↔◌, ◌<◌, ◌≤◌, ◌+◌, ◌==◌, ◌&&◌, ◌||◌, ℕ, zero, suc, Bool, true, false, List, [], ◌∷◌, ◌++◌, length, map, set, replicate, get_or, take, drop, slice_get, slice_index, slice_index_or, Option, Some, Result, Ok, Err, refl, sym, ◌∙◌, ap, subst, arith, inl, inr}
use Rattle.std.specs.List.{list_any}
use Rattle.std.proofs.lemmas.Bool.{cases_lt}
use Rattle.std.proofs.lemmas.Bool.Decides.{nat_tests}
use Rattle.std.proofs.lemmas.List.{length-replicate, append-nil, append_assoc, take_more, drop_more, take-append-drop}
use Rattle.base_lemmas.specs.Booleans.{or_false, or_true}
use Rattle.cip_events.specs.declared.event.Answer.{Answer}
use Rattle.cip_events.specs.declared.event.Event.{Event}
use Rattle.cip_events.specs.declared.event.StepFault.{StepFault}
use Rattle.cip_events.specs.Outcomes.{Outcome}
use Rattle.cip_tables.specs.declared.table.DeviceTable.{DeviceTable}
use Rattle.cip_tables.specs.Step.{DeviceNext, opening_table, step}
use Rattle.cip_tables.specs.Run.{outcome_of, table_of}
use Rattle.cip_tables.specs.Run.{outcomes_of as outcomes_from}
use Rattle.device_lock.specs.declared.receipt.Receipt.{Receipt}
use Rattle.device_lock.specs.Histories.{HistoryValue}
use Rattle.segment_world.specs.declared.act.Act.{Act}
use Rattle.settling.specs.Search.Histories.{bytes_of, configs_of, events_of_all, start_of}
use Rattle.settling.specs.Receipts.{has_receipt, is_for, is_place, place_of, replay_of, AllGood, AreMarks, Covered, FitsAt, HasItsMarks, HasRoomForMarks, IsForeign, IsGood, IsMarked, IsMissing, IsUnmarked, LacksItsMark, mark_at, outcomes_of_all, unmarked, with_mark}
use Rattle.settling.specs.Search.Lowest.{IsLowest}
use Rattle.settling.specs.Search.Replays.{AreAnswered, replay}
use Rattle.settling.specs.Search.Schedules.{Settles, history}
use Rattle.settling.specs.Search.Searches.{AllAnswered, OpensFirst}
use Rattle.settling.specs.Settlings.{AllStand, SettlesAll, Stands}
use Rattle.settling.specs.Search.Lemmas.Cases.{some_is, none_some, same_or_not, eq_false, eq_true}
use Rattle.settling.specs.Search.Lemmas.Listing.{length_all, length_set}

-- A REPLAY IS EVENTS AND OUTCOMES

replay_both : (t : DeviceTable) (es : List Event) (k : ℕ) (e : Event) (o : Outcome) → slice_get es k ≡ Some e → slice_get (outcomes_from t es) k ≡ Some o → slice_get (replay t es) k ≡ Some (e, o)
replay_both t [] k e o event outcome = none_some e event
replay_both t (x ∷ es) zero e o event outcome = ap (λ y. Some (y, outcome_of (step t x))) (some_is x e event) ∙ ap (λ y. Some (e, y)) (some_is (outcome_of (step t x)) o outcome)
replay_both t (x ∷ es) (suc k) e o event outcome = replay_both (table_of t (step t x)) es k e o event outcome

replay_event : (t : DeviceTable) (es : List Event) (k : ℕ) (e : Event) (o : Outcome) → slice_get (replay t es) k ≡ Some (e, o) → slice_get es k ≡ Some e
replay_event t [] k e o is = none_some (e, o) is
replay_event t (x ∷ es) zero e o is = ap (λ (p : Event × Outcome). Some p.0) (some_is (x, outcome_of (step t x)) (e, o) is)
replay_event t (x ∷ es) (suc k) e o is = replay_event (table_of t (step t x)) es k e o is

replay_outcome : (t : DeviceTable) (es : List Event) (k : ℕ) (e : Event) (o : Outcome) → slice_get (replay t es) k ≡ Some (e, o) → slice_get (outcomes_from t es) k ≡ Some o
replay_outcome t [] k e o is = none_some (e, o) is
replay_outcome t (x ∷ es) zero e o is = ap (λ (p : Event × Outcome). Some p.1) (some_is (x, outcome_of (step t x)) (e, o) is)
replay_outcome t (x ∷ es) (suc k) e o is = replay_outcome (table_of t (step t x)) es k e o is

-- the event and the outcome at a place are those of the replay
pub fits_same : (hs : List HistoryValue) (i k : ℕ) (e : Event) (o : Outcome) → ((slice_get (history (events_of_all hs) i) k ≡ Some e) × (slice_get (slice_index_or (outcomes_of_all hs) i []) k ≡ Some o)) ↔ (slice_get (replay_of hs i) k ≡ Some (e, o))
fits_same [] i k e o = (λ both. none_some e both.0, λ is. none_some (e, o) is)
fits_same (h ∷ hs) zero k e o =
    let t = opening_table h.config in
    (λ both. replay_both t h.events k e o both.0 both.1, λ is. (replay_event t h.events k e o is, replay_outcome t h.events k e o is))
fits_same (h ∷ hs) (suc i) k e o = fits_same hs i k e o

get_within : {X : Type 0} (xs : List X) (k : ℕ) (x : X) → slice_get xs k ≡ Some x → k < length xs
get_within [] k x is = none_some x is
get_within (y ∷ xs) zero x is = omega arith
get_within (y ∷ xs) (suc k) x is = let lt = get_within xs k x is in omega arith

device_within : (hs : List HistoryValue) (i k : ℕ) (e : Event) (o : Outcome) → slice_get (replay_of hs i) k ≡ Some (e, o) → i < length hs
device_within [] i k e o is = none_some (e, o) is
device_within (h ∷ hs) zero k e o is = omega arith
device_within (h ∷ hs) (suc i) k e o is = let lt = device_within hs i k e o is in omega arith

pub event_within : (hs : List HistoryValue) (i k : ℕ) (e : Event) (o : Outcome) → slice_get (replay_of hs i) k ≡ Some (e, o) → (i < length hs) × (k < length (history (events_of_all hs) i))
event_within hs i k e o is = (device_within hs i k e o is, get_within (history (events_of_all hs) i) k e ((fits_same hs i k e o).1 is).0)

-- MARKS

or_same : {X : Type 0} (xs : List X) (i : ℕ) (v d : X) → i < length xs → slice_index_or (set xs i v) i d ≡ v
or_same [] i v d lt = absurd (omega arith)
or_same (x ∷ xs) zero v d lt = refl
or_same (x ∷ xs) (suc i) v d lt = or_same xs i v d (omega arith)

or_other : {X : Type 0} (xs : List X) (i j : ℕ) (v d : X) → j ≢ i → slice_index_or (set xs i v) j d ≡ slice_index_or xs j d
or_other [] i j v d ne = refl
or_other (x ∷ xs) zero zero v d ne = absurd (ne refl)
or_other (x ∷ xs) zero (suc j) v d ne = refl
or_other (x ∷ xs) (suc i) zero v d ne = refl
or_other (x ∷ xs) (suc i) (suc j) v d ne = or_other xs i j v d (λ e. ne (ap suc e))

row_of : List (List Bool) → ℕ → List Bool
row_of marks i = slice_index_or marks i []

mark_same : (marks : List (List Bool)) (i k : ℕ) → i < length marks → k < length (slice_index_or marks i []) → mark_at (with_mark marks i k) i k ≡ true
mark_same marks i k lt within =
    let row = set (slice_index_or marks i []) k true in
    ap (λ (r : List Bool). slice_index_or r k false) (or_same marks i row [] lt) ∙ or_same (slice_index_or marks i []) k true false within

mark_other_event : (marks : List (List Bool)) (i k l : ℕ) → i < length marks → l ≢ k → mark_at (with_mark marks i k) i l ≡ mark_at marks i l
mark_other_event marks i k l lt ne =
    let row = set (slice_index_or marks i []) k true in
    ap (λ (r : List Bool). slice_index_or r l false) (or_same marks i row [] lt) ∙ or_other (slice_index_or marks i []) k l true false ne

mark_other_device : (marks : List (List Bool)) (i k j l : ℕ) → j ≢ i → mark_at (with_mark marks i k) j l ≡ mark_at marks j l
mark_other_device marks i k j l ne =
    let row = set (slice_index_or marks i []) k true in
    ap (λ (r : List Bool). slice_index_or r l false) (or_other marks i j row [] ne)

any_more : (f : Receipt → Bool) (rs : List Receipt) (r : Receipt) → list_any f (rs ++ r ∷ []) ≡ (list_any f rs || f r)
any_more f [] r = or_none (f r)
  where
    or_none : (b : Bool) → (b || false) ≡ b
    or_none true = refl
    or_none false = refl
any_more f (x ∷ rs) r = or_each (f x) (list_any f (rs ++ r ∷ [])) (list_any f rs) (f r) (any_more f rs r)
  where
    or_each : (a b c d : Bool) → b ≡ (c || d) → (a || b) ≡ ((a || c) || d)
    or_each true b c d is = refl
    or_each false b c d is = is

-- the receipt is for this event, or for another one
for_this : (hs : List HistoryValue) (r : Receipt) (p : ℕ × ℕ) (i k : ℕ) → place_of hs r ≡ Some p → i ≡ p.0 → k ≡ p.1 → is_for hs i k r ≡ true
for_this hs r p i k is device place =
    ap (is_place i k) is ∙ ap (λ b. b && (p.1 == k)) (eq_true p.0 i (sym device)) ∙ eq_true p.1 k (sym place)

and_false : (b : Bool) → (b && false) ≡ false
and_false true = refl
and_false false = refl

for_other_device : (hs : List HistoryValue) (r : Receipt) (p : ℕ × ℕ) (i k : ℕ) → place_of hs r ≡ Some p → i ≢ p.0 → is_for hs i k r ≡ false
for_other_device hs r p i k is ne = ap (is_place i k) is ∙ ap (λ b. b && (p.1 == k)) (eq_false p.0 i (λ e. ne (sym e)))

for_other_event : (hs : List HistoryValue) (r : Receipt) (p : ℕ × ℕ) (i k : ℕ) → place_of hs r ≡ Some p → k ≢ p.1 → is_for hs i k r ≡ false
for_other_event hs r p i k is ne = ap (is_place i k) is ∙ ap (λ b. (p.0 == i) && b) (eq_false p.1 k (λ e. ne (sym e))) ∙ and_false (p.0 == i)

marked_more : (hs : List HistoryValue) (before : List Receipt) (r : Receipt) (marks : List (List Bool)) (p : ℕ × ℕ) → AreMarks hs before marks → place_of hs r ≡ Some p → p.0 < length marks → p.1 < length (slice_index_or marks p.0 []) → (i k : ℕ) → mark_at (with_mark marks p.0 p.1) i k ≡ has_receipt hs (before ++ r ∷ []) i k
marked_more hs before r marks p are is lt within i k =
    let goal = mark_at (with_mark marks p.0 p.1) i k ≡ has_receipt hs (before ++ r ∷ []) i k in
    let more = any_more (is_for hs i k) before r in
    let has = has_receipt hs before i k in
    same_or_not goal i p.0
    (λ device.
    same_or_not goal k p.1
    (λ place.
    rw (device, place) (mark_same marks p.0 p.1 lt within)
    ∙ sym (more ∙ ap (λ b. has || b) (for_this hs r p i k is device place) ∙ or_true has))
    (λ ne.
    rw device (mark_other_event marks p.0 p.1 k lt ne) ∙ are.are i k ∙ sym (more ∙ ap (λ b. has || b) (for_other_event hs r p i k is ne) ∙ or_false has)))
    (λ ne. mark_other_device marks p.0 p.1 i k ne ∙ are.are i k ∙ sym (more ∙ ap (λ b. has || b) (for_other_device hs r p i k is ne) ∙ or_false has))

row_length : (marks : List (List Bool)) (i k j : ℕ) → i < length marks → length (slice_index_or (with_mark marks i k) j []) ≡ length (slice_index_or marks j [])
row_length marks i k j lt =
    let row = set (slice_index_or marks i []) k true in
    same_or_not (length (slice_index_or (with_mark marks i k) j []) ≡ length (slice_index_or marks j [])) j i
    (λ same. rw same (ap (λ (r : List Bool). length r) (or_same marks i row [] lt) ∙ length_set (slice_index_or marks i []) k true))
    (λ ne. ap (λ (r : List Bool). length r) (or_other marks i j row [] ne))

pub place_within : (hs : List HistoryValue) (marks : List (List Bool)) (p : ℕ × ℕ) (r : Receipt) → HasRoomForMarks hs marks → FitsAt hs p r → (p.0 < length marks) × (p.1 < length (slice_index_or marks p.0 []))
place_within hs marks p r room fits =
    let within = event_within hs p.0 p.1 r.event (Ok r.answer) fits in
    (omega (arith, within.0, room.rows), omega (arith, within.1, room.events p.0))

pub marks_more : (hs : List HistoryValue) (before : List Receipt) (r : Receipt) (old new : List (List Bool)) → AreMarks hs before old → IsMarked hs old r new → AreMarks hs (before ++ r ∷ []) new
marks_more hs before r old new are marked =
    let p = marked.0.place in
    let within = place_within hs old p r are.all marked.0.fits in
    let after : AreMarks hs (before ++ r ∷ []) (with_mark old p.0 p.1) = record {
      all = record {
        rows = length_set old p.0 _ ∙ are.all.rows;
        events = λ i. row_length old p.0 p.1 i within.0 ∙ are.all.events i;
      };
      are = marked_more hs before r old p are marked.0.place_is within.0 within.1;
    } in
    subst (AreMarks hs (before ++ r ∷ [])) (sym marked.1) after

none_marked : (n k : ℕ) → slice_index_or (replicate n false) k false ≡ false
none_marked zero k = refl
none_marked (suc n) zero = refl
none_marked (suc n) (suc k) = none_marked n k

rows_unmarked : (hs : List HistoryValue) (i : ℕ) → length (slice_index_or (unmarked hs) i []) ≡ length (history (events_of_all hs) i)
rows_unmarked [] i = refl
rows_unmarked (h ∷ hs) zero = length-replicate (length h.events) false
rows_unmarked (h ∷ hs) (suc i) = rows_unmarked hs i

are_unmarked : (hs : List HistoryValue) (i k : ℕ) → mark_at (unmarked hs) i k ≡ false
are_unmarked [] i k = refl
are_unmarked (h ∷ hs) zero k = none_marked (length h.events) k
are_unmarked (h ∷ hs) (suc i) k = are_unmarked hs i k

marks_first : (hs : List HistoryValue) → AreMarks hs [] (unmarked hs)
marks_first hs = record {
  all = record { rows = length_all _ hs; events = rows_unmarked hs };
  are = are_unmarked hs;
}

-- GOOD RECEIPTS

pub good_of : (hs : List HistoryValue) (before : List Receipt) (r : Receipt) (marks : List (List Bool)) → AreMarks hs before marks → IsUnmarked hs marks r → IsGood hs before r
good_of hs before r marks are u = record { place = u.place; place_is = u.place_is; fits = u.fits; first = sym (are.are u.place.0 u.place.1) ∙ u.first }

pub unmarked_for : (hs : List HistoryValue) (before : List Receipt) (r : Receipt) (marks : List (List Bool)) → AreMarks hs before marks → IsGood hs before r → IsUnmarked hs marks r
unmarked_for hs before r marks are g = record { place = g.place; place_is = g.place_is; fits = g.fits; first = are.are g.place.0 g.place.1 ∙ g.first }

good_snoc : (hs : List HistoryValue) (before xs : List Receipt) (r : Receipt) → AllGood hs before xs → IsGood hs (before ++ xs) r → AllGood hs before (xs ++ r ∷ [])
good_snoc hs before [] r good is = (subst (λ (l : List Receipt). IsGood hs l r) (append-nil before) is, tt)
good_snoc hs before (x ∷ xs) r good is =
    (good.0, good_snoc hs (before ++ x ∷ []) xs r good.1 (subst (λ (l : List Receipt). IsGood hs l r) (sym (append_assoc before (x ∷ []) xs)) is))

-- the receipts so far are good, and these are their marks
pub record GoodSoFar (hs : List HistoryValue) (rs : List Receipt) (marks : List (List Bool)) : Type 0 where
  pub good : AllGood hs [] rs
  pub are : AreMarks hs rs marks

pub good_none : (hs : List HistoryValue) (marks : List (List Bool)) → marks ≡ unmarked hs → GoodSoFar hs [] marks
good_none hs marks is = record { good = tt; are = subst (AreMarks hs []) (sym is) (marks_first hs) }

pub good_more : (hs : List HistoryValue) (rs : List Receipt) (n : ℕ) (r : Receipt) (old new : List (List Bool)) → n < length rs → r ≡ get_or rs n r → GoodSoFar hs (take n rs) old → IsMarked hs old r new → GoodSoFar hs (take (n + 1) rs) new
good_more hs rs n r old new lt at so_far marked =
    rw (take_more rs n r lt, ← at)
    (record {
      good = good_snoc hs [] (take n rs) r so_far.good (good_of hs (take n rs) r old so_far.are marked.0);
      are = marks_more hs (take n rs) r old new so_far.are marked;
    })

pub good_all : (hs : List HistoryValue) (rs : List Receipt) (n : ℕ) (marks : List (List Bool)) → length rs ≤ n → GoodSoFar hs (take n rs) marks → GoodSoFar hs rs marks
good_all hs rs n marks le so_far = subst (λ (l : List Receipt). GoodSoFar hs l marks) (take_all rs n le) so_far
  where
    take_all : (rs : List Receipt) (n : ℕ) → length rs ≤ n → take n rs ≡ rs
    take_all [] zero le = refl
    take_all [] (suc n) le = refl
    take_all (r ∷ rs) zero le = absurd (omega arith)
    take_all (r ∷ rs) (suc n) le = ap (λ (l : List Receipt). r ∷ l) (take_all rs n (omega arith))

pub foreign_at : (hs : List HistoryValue) (rs : List Receipt) (n : ℕ) (r : Receipt) (marks : List (List Bool)) → n < length rs → r ≡ get_or rs n r → GoodSoFar hs (take n rs) marks → (IsUnmarked hs marks r → ⊥) → IsForeign hs rs r.device r.index
foreign_at hs rs n r marks lt at so_far bad = record {
  before = take n rs;
  receipt = r;
  after = drop (n + 1) rs;
  is = sym (take-append-drop n rs) ∙ ap (λ (l : List Receipt). take n rs ++ l) (drop_more rs n r lt) ∙ ap (λ (x : Receipt). take n rs ++ x ∷ drop (n + 1) rs) (sym at);
  good = so_far.good;
  bad = λ good. bad (unmarked_for hs (take n rs) r marks so_far.are good);
  byte_is = refl;
  index_is = refl;
}

-- EVENTS THAT ARE ANSWERED

pub record Answered (es : List (Event × Outcome)) (k : ℕ) : Type 0 where
  pub event : Event
  pub answer : Answer
  pub is : slice_get es k ≡ Some (event, Ok answer)

answer_in : (r : Result DeviceNext StepFault) (a : Answer) → outcome_of r ≡ Ok a → (n : DeviceNext) × (r ≡ Ok n)
answer_in (Ok n) a is = (n, refl)
answer_in (Err f) a is = absurd (let e = is in cc)

answered_all : (t : DeviceTable) (es : List Event) → ((k : ℕ) → k < length es → Answered (replay t es) k) → AreAnswered t es
answered_all t [] all = tt
answered_all t (e ∷ es) all =
    let first = all 0 (omega arith) in
    let is : outcome_of (step t e) ≡ Ok first.answer = ap (λ (p : Event × Outcome). p.1) (some_is _ _ first.is) in
    let ok = answer_in (step t e) first.answer is in (
      ok.0,
      ok.1,
      answered_all ok.0.1 es (λ k lt.
          let more = all (suc k) (omega arith) in
          record {
            event = more.event;
            answer = more.answer;
            is = subst (λ (r : Result DeviceNext StepFault). slice_get (replay (table_of t r) es) k ≡ Some (more.event, Ok more.answer)) ok.1 more.is;
          }),
    )

-- a receipt for this event fits
is_at : (o : Option (ℕ × ℕ)) (i k : ℕ) (p : ℕ × ℕ) → o ≡ Some p → is_place i k o ≡ true → (p.0 ≡ i) × (p.1 ≡ k)
is_at o i k p is at = both p.0 i p.1 k (p.0 == i) (p.1 == k) refl refl (sym (ap (is_place i k) is) ∙ at)
  where
    both : (a b c d : ℕ) (x : Bool) (y : Bool) → (a == b) ≡ x → (c == d) ≡ y → (x && y) ≡ true → (a ≡ b) × (c ≡ d)
    both a b c d true true p q h = (grind (arith, nat_tests), grind (arith, nat_tests))
    both a b c d true false p q h = absurd (let e = h in cc)
    both a b c d false y p q h = absurd (let e = h in cc)

at_place : (hs : List HistoryValue) (before : List Receipt) (i k : ℕ) (r : Receipt) → is_for hs i k r ≡ true → IsGood hs before r → Answered (replay_of hs i) k
at_place hs before i k r at good =
    let same = is_at (place_of hs r) i k good.place good.place_is at in
    record {
      event = r.event;
      answer = r.answer;
      is = subst (λ (j : ℕ). slice_get (replay_of hs j) k ≡ Some (r.event, Ok r.answer)) same.0 (subst (λ (j : ℕ). slice_get (replay_of hs good.place.0) j ≡ Some (r.event, Ok r.answer)) same.1 good.fits);
    }

either : {A : Type 0} (x y : Bool) → (x || y) ≡ true → (x ≡ true → A) → (y ≡ true → A) → A
either true y h f g = f refl
either false y h f g = g h

found : (hs : List HistoryValue) (before rs : List Receipt) (i k : ℕ) → AllGood hs before rs → has_receipt hs rs i k ≡ true → Answered (replay_of hs i) k
found hs before [] i k good has = absurd (let e = has in cc)
found hs before (r ∷ rs) i k good has =
    either (is_for hs i k r) (has_receipt hs rs i k) has
    (λ at. at_place hs before i k r at good.0)
    (λ more. found hs (before ++ r ∷ []) rs i k good.1 more)

-- a replay from the first table of the world
start_replay : (hs : List HistoryValue) (i : ℕ) (t : DeviceTable) → slice_get (map opening_table (configs_of hs)) i ≡ Some t → replay_of hs i ≡ replay t (history (events_of_all hs) i)
start_replay [] i t at = none_some t at
start_replay (h ∷ hs) zero t at = ap (λ (u : DeviceTable). replay u h.events) (some_is (opening_table h.config) t at)
start_replay (h ∷ hs) (suc i) t at = start_replay hs i t at

pub all_answered : (hs : List HistoryValue) (rs : List Receipt) → AllGood hs [] rs → Covered hs rs → AllAnswered (start_of hs) (events_of_all hs)
all_answered hs rs good covered i t at =
    answered_all t (history (events_of_all hs) i) (λ k lt. subst (λ (l : List (Event × Outcome)). Answered l k) (start_replay hs i t at) (found hs [] rs i k good (covered i k lt)))

-- A RECEIPT STANDS IN THE SCHEDULE

table_of_device : (hs : List HistoryValue) (i : ℕ) → i < length hs → (t : DeviceTable) × (slice_get (map opening_table (configs_of hs)) i ≡ Some t)
table_of_device [] i lt = absurd (omega arith)
table_of_device (h ∷ hs) zero lt = (opening_table h.config, refl)
table_of_device (h ∷ hs) (suc i) lt = table_of_device hs i (omega arith)

stands : (hs : List HistoryValue) (acts : List Act) (before : List Receipt) (r : Receipt) (s : Settles (start_of hs) (events_of_all hs) acts) → IsGood hs before r → Stands hs s.story r
stands hs acts before r s good =
    let i = good.place.0 in
    let within = event_within hs i good.place.1 r.event (Ok r.answer) good.fits in
    let there = table_of_device hs i within.0 in
    record {
      place = good.place;
      place_is = good.place_is;
      is = ap (λ (l : List (Event × Outcome)). slice_get l good.place.1) (s.answers i there.0 there.1 ∙ sym (start_replay hs i there.0 there.1)) ∙ good.fits;
    }

all_stand : (hs : List HistoryValue) (acts : List Act) (before rs : List Receipt) (s : Settles (start_of hs) (events_of_all hs) acts) → AllGood hs before rs → AllStand hs s.story rs
all_stand hs acts before [] s good = tt
all_stand hs acts before (r ∷ rs) s good = (stands hs acts before r s good.0, all_stand hs acts (before ++ r ∷ []) rs s good.1)

pub settles_receipts : (hs : List HistoryValue) (rs : List Receipt) (acts : List Act) → Settles (start_of hs) (events_of_all hs) acts → OpensFirst (start_of hs) (events_of_all hs) acts → AllGood hs [] rs → Covered hs rs → SettlesAll hs rs acts
settles_receipts hs rs acts s first good covered = record {
  settled = s;
  opens_first = first;
  stand = all_stand hs acts [] rs s good;
  once = good;
  covered = covered;
}

-- EVENTS WITHOUT A RECEIPT

no_events_past : (hs : List HistoryValue) (i : ℕ) → length hs ≤ i → history (events_of_all hs) i ≡ []
no_events_past [] i le = refl
no_events_past (h ∷ hs) zero le = absurd (omega arith)
no_events_past (h ∷ hs) (suc i) le = no_events_past hs i (omega arith)

pub covered_all : (hs : List HistoryValue) (rs : List Receipt) (marks : List (List Bool)) → AreMarks hs rs marks → ((i : ℕ) → i < length hs → HasItsMarks (events_of_all hs) marks i) → Covered hs rs
covered_all hs rs marks are all i k lt =
    elim (cases_lt i (length hs)) [
      | inl within ↦ sym (are.are i k) ∙ all i within k lt
      | inr past ↦ absurd (let none = ap (λ (l : List Event). length l) (no_events_past hs i past) in omega (arith, none, lt))
    ]

pub missing_at : (hs : List HistoryValue) (rs : List Receipt) (marks : List (List Bool)) (p : ℕ × ℕ) (byte : ℕ) → AllGood hs [] rs → AreMarks hs rs marks → IsLowest (HasItsMarks (events_of_all hs) marks) (LacksItsMark (events_of_all hs) marks) (bytes_of hs) (length hs) (Some p) → byte ≡ slice_index (bytes_of hs) p.0 → IsMissing hs rs byte p.1
missing_at hs rs marks p byte good are is byte_is = record {
  good = good;
  device = p.0;
  byte_is = sym byte_is;
  within = is.0.0;
  none = sym (are.are p.0 p.1) ∙ is.0.1;
  earlier = λ k lt. sym (are.are p.0 k) ∙ is.0.2 k lt;
  lower = λ i k lt lower within. sym (are.are i k) ∙ is.2 i lt (subst (λ (b : ℕ). slice_index (bytes_of hs) i < b) byte_is lower) k within;
}
