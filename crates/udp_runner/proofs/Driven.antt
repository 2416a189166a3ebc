-- What was driven, one part after another.
use Rattle.std.proofs.Common.{arith, ◌≡◌, ◌<◌, ◌≤◌, ◌-◌, ◌*◌, ℕ, zero, suc, ◌+◌, Bool, true, List, [], ◌∷◌, ◌++◌, drop, Option, None, Result, Ok, Err, refl, ap, ◌∙◌, sym, subst, append_assoc, append-nil}
use Rattle.std.proofs.lemmas.List.{drop-drop}
use Rattle.cip_events.specs.declared.arrival.Arrival.{Arrival}
use Rattle.cip_events.specs.declared.event.Answer.{Answer}
use Rattle.cip_events.specs.declared.event.Event.{Event}
use Rattle.cip_events.specs.declared.event.StepFault.{StepFault}
use Rattle.cip_events.specs.Outcomes.{Follows, Outcome}
use Rattle.cip_tables.specs.declared.table.DeviceTable.{DeviceTable}
use Rattle.cip_tables.specs.Step.{step}
use Rattle.udp_runner.specs.declared.fault.PortFault.{PortFault}
use Rattle.udp_runner.specs.declared.fault.RunFault.{RunFault}
use Rattle.udp_runner.specs.declared.fault.RunFault.TheVariants as run
use Rattle.udp_runner.specs.Driving.{Drove, Seen}
use Rattle.udp_runner.specs.Outputs.{answer_sent, SendsSome}
use Rattle.udp_runner.specs.Tape.{Tape, first_or, rest_of, with_sent}
use Rattle.udp_runner.specs.Turns.{Blames, Drives, Stops, arrivals_of, events_of, ticks_of, turn_of}
use Rattle.udp_runner.proofs.Handed.{hands_both, hands_none, hands_one, hands_weaker, some_after, some_none, some_one}
use Rattle.udp_runner.proofs.Joining.{drives_more, drives_one, stops_after, stops_before, stops_output, stops_receiving, stops_stepping}

-- the result of what follows so many events
abbrev pub plus : ℕ → Result ℕ RunFault → Result ℕ RunFault
plus n (Ok m) = Ok (n + m)
plus n (Err fault) = Err fault

zero_plus : (n : ℕ) → 0 + n ≡ n
zero_plus n = omega arith

suc_plus : (k n : ℕ) → suc k + n ≡ suc (k + n)
suc_plus k n = omega arith

pub plus_none : (r : Result ℕ RunFault) → plus 0 r ≡ r
plus_none (Ok n) = ap Ok (zero_plus n)
plus_none (Err fault) = refl

blames_from : (fault : RunFault) (a b c : ℕ) → b ≡ a → Blames b c fault → Blames a c fault
blames_from fault a b c same blames = subst (λ n. Blames n c fault) same blames

-- one part behind another
pub drove_after : {O : Type 0} (notes : O → Event → Outcome → O → Type 0) (s t : Bool) (es fs : List Event) (r q m n k : ℕ) (a b c : Seen O) (res : Result ℕ RunFault)
    → Drove notes s t es r m a b (Ok k) → Drove notes s t fs q n b c res → Drove notes s t (es ++ fs) (r + q) (m + n) a c (plus k res)
drove_after notes s t es fs r q m n k a b c (Ok j) one two = record {
  run = λ sc ti. drives_more es fs k j _ _ _ _ _ _ (one.run sc ti) (two.run sc ti);
  received = λ sc. two.received sc ∙ ap (drop q) (one.received sc) ∙ drop-drop q r a.tape.coming;
  few = let first = one.few in let second = two.few in omega (arith, first, second);
  stopped = tt;
  worked = two.worked ∙ one.worked;
  blamed = tt;
  handed = hands_both notes _ _ _ k j _ _ _ _ _ _ (λ xs ys first second sc ti. ap (λ x. x ++ ys) (first sc ti) ∙ ap (λ y. es ++ y) (second sc ti)) one.handed two.handed;
  handed_some = tt;
}
drove_after notes s t es fs r q m n k a b c (Err fault) one two = record {
  run = tt;
  received = tt;
  few = tt;
  stopped = λ sc ti. stops_after fault es fs k _ _ _ _ _ _ (one.run sc ti) (two.stopped sc ti);
  worked = tt;
  blamed = blames_from fault _ _ _ one.worked two.blamed;
  handed = tt;
  handed_some = some_after notes _ k _ _ _ _ _ _ one.handed two.handed_some;
}

-- a part that ended at a fault, with events behind it that do not come any more
pub drove_before : {O : Type 0} (notes : O → Event → Outcome → O → Type 0) (s t : Bool) (es fs : List Event) (r q m n : ℕ) (a b : Seen O) (fault : RunFault)
    → Drove notes s t es r m a b (Err fault) → Drove notes s t (es ++ fs) q n a b (Err fault)
drove_before notes s t es fs r q m n a b fault one = record {
  run = tt;
  received = tt;
  few = tt;
  stopped = λ sc ti. stops_before fault es fs _ _ _ _ (one.stopped sc ti);
  worked = tt;
  blamed = one.blamed;
  handed = tt;
  handed_some = one.handed_some;
}

-- the same events, told in another way
pub drove_as : {O : Type 0} (notes : O → Event → Outcome → O → Type 0) (s t u : Bool) (es fs : List Event) (r q m n : ℕ) (a b : Seen O) (res : Result ℕ RunFault)
    → (u ≡ true → t ≡ true) → (s ≡ true → u ≡ true → es ≡ fs) → r ≡ q → m ≤ n → Drove notes s t es r m a b res → Drove notes s u fs q n a b res
drove_as notes s t u es fs r q m n a b (Ok k) timed same times most one = record {
  run = λ sc ti. subst (λ x. Drives x k a.tape b.tape a.table b.table) (same sc ti) (one.run sc (timed ti));
  received = λ sc. one.received sc ∙ ap (λ x. drop x a.tape.coming) times;
  few = let first = one.few in omega (arith, first, most);
  stopped = tt;
  worked = one.worked;
  blamed = tt;
  handed = hands_weaker notes _ _ k _ _ _ _ (λ xs first sc ti. first sc (timed ti) ∙ same sc ti) one.handed;
  handed_some = tt;
}
drove_as notes s t u es fs r q m n a b (Err fault) timed same times most one = record {
  run = tt;
  received = tt;
  few = tt;
  stopped = λ sc ti. subst (λ x. Stops fault x a.tape b.tape a.table b.table) (same sc ti) (one.stopped sc (timed ti));
  worked = tt;
  blamed = one.blamed;
  handed = tt;
  handed_some = one.handed_some;
}

-- no event, with so many receives
pub drove_none : {O : Type 0} (notes : O → Event → Outcome → O → Type 0) (s t : Bool) (r m : ℕ) (tape tape' : Tape) (failed failed' : ℕ) (table : DeviceTable) (observer : O)
    → (s ≡ true → tape' ≡ record tape { coming = drop r tape.coming }) → failed' ≡ failed
    → Drove notes s t [] r m (record { tape = tape; failed = failed; table = table; observer = observer }) (record { tape = tape'; failed = failed'; table = table; observer = observer }) (Ok 0)
drove_none notes s t r m tape tape' failed failed' table observer kept worked = record {
  run = λ sc ti. record { sends = ap (λ (x : Tape). x.sent) (kept sc) ∙ sym (append-nil tape.sent); table = refl; counts = refl };
  received = λ sc. ap (λ (x : Tape). x.coming) (kept sc);
  few = omega arith;
  stopped = tt;
  worked = worked;
  blamed = tt;
  handed = hands_none notes _ observer table (λ sc ti. refl);
  handed_some = tt;
}

-- nothing happened at the tape
pub drove_kept : {O : Type 0} (notes : O → Event → Outcome → O → Type 0) (s t : Bool) (m : ℕ) (tape tape' : Tape) (failed failed' : ℕ) (table : DeviceTable) (observer : O)
    → (s ≡ true → tape' ≡ tape) → failed' ≡ failed
    → Drove notes s t [] 0 m (record { tape = tape; failed = failed; table = table; observer = observer }) (record { tape = tape'; failed = failed'; table = table; observer = observer }) (Ok 0)
drove_kept notes s t m tape tape' failed failed' table observer kept worked = drove_none notes s t 0 m tape tape' failed failed' table observer kept worked

-- a receive
rest_of_is_drop : {X : Type 0} (xs : List X) → rest_of xs ≡ drop 1 xs
rest_of_is_drop [] = refl
rest_of_is_drop (x ∷ xs) = refl

pub drove_receive : {O : Type 0} (notes : O → Event → Outcome → O → Type 0) (s t : Bool) (m : ℕ) (tape tape' : Tape) (failed failed' : ℕ) (table : DeviceTable) (observer : O)
    → (s ≡ true → tape' ≡ record tape { coming = rest_of tape.coming }) → failed' ≡ failed
    → Drove notes s t [] 1 m (record { tape = tape; failed = failed; table = table; observer = observer }) (record { tape = tape'; failed = failed'; table = table; observer = observer }) (Ok 0)
drove_receive notes s t m tape tape' failed failed' table observer taken worked =
    drove_none notes s t 1 m tape tape' failed failed' table observer (λ sc. taken sc ∙ ap (λ (xs : List (Option Arrival)). record tape { coming = xs }) (rest_of_is_drop tape.coming)) worked

-- a receive that failed
pub drove_no_receive : {O : Type 0} (notes : O → Event → Outcome → O → Type 0) (s t : Bool) (es : List Event) (r m : ℕ) (tape tape' : Tape) (failed failed' : ℕ) (table : DeviceTable) (observer : O) (fault : PortFault)
    → (s ≡ true → tape' ≡ tape) → failed' ≡ failed + 1
    → Drove notes s t es r m (record { tape = tape; failed = failed; table = table; observer = observer }) (record { tape = tape'; failed = failed'; table = table; observer = observer }) (Err (run.Port fault))
drove_no_receive notes s t es r m tape tape' failed failed' table observer fault kept counted = record {
  run = tt;
  received = tt;
  few = tt;
  stopped = λ sc ti. stops_receiving fault es tape tape' table table (kept sc) refl;
  worked = tt;
  blamed = counted;
  handed = tt;
  handed_some = some_none notes observer observer table table refl refl;
}

-- one event, whose answer was sent
pub drove_one : {O : Type 0} (notes : O → Event → Outcome → O → Type 0) (s t : Bool) (e : Event) (answer : Answer) (a b : Seen O)
    → step a.table e ≡ Ok (answer, b.table) → notes a.observer e (Ok answer) b.observer → (s ≡ true → b.tape ≡ with_sent a.tape (answer_sent answer)) → b.failed ≡ a.failed
    → Drove notes s t (e ∷ []) 0 1 a b (Ok 1)
drove_one notes s t e answer a b is noted sent worked = record {
  run = λ sc ti. drives_one e answer a.tape b.tape a.table b.table is (sent sc);
  received = λ sc. ap (λ (x : Tape). x.coming) (sent sc);
  few = omega arith;
  stopped = tt;
  worked = worked;
  blamed = tt;
  handed = hands_one notes _ e (Ok answer) a.observer b.observer a.table b.table noted is (λ sc ti. refl);
  handed_some = tt;
}

-- one event that was refused
pub drove_refused : {O : Type 0} (notes : O → Event → Outcome → O → Type 0) (s t : Bool) (e : Event) (fault : StepFault) (a b : Seen O)
    → Follows (step a.table e) a.table (Err fault) b.table → notes a.observer e (Err fault) b.observer → b.tape ≡ a.tape → b.failed ≡ a.failed
    → Drove notes s t (e ∷ []) 0 1 a b (Err (run.Step fault))
drove_refused notes s t e fault a b follows noted kept worked = record {
  run = tt;
  received = tt;
  few = tt;
  stopped = λ sc ti. stops_stepping fault e a.tape b.tape a.table b.table follows kept;
  worked = tt;
  blamed = worked;
  handed = tt;
  handed_some = some_one notes e (Err fault) a.observer b.observer a.table b.table noted follows;
}

-- one event, whose answer was not sent whole
pub drove_unsent : {O : Type 0} (notes : O → Event → Outcome → O → Type 0) (s t : Bool) (e : Event) (answer : Answer) (fault : PortFault) (a b : Seen O)
    → step a.table e ≡ Ok (answer, b.table) → notes a.observer e (Ok answer) b.observer → (s ≡ true → SendsSome a.tape b.tape (answer_sent answer)) → b.failed ≡ a.failed + 1
    → Drove notes s t (e ∷ []) 0 1 a b (Err (run.Port fault))
drove_unsent notes s t e answer fault a b is noted some counted = record {
  run = tt;
  received = tt;
  few = tt;
  stopped = λ sc ti. stops_output fault e answer a.tape b.tape a.table b.table is (some sc);
  worked = tt;
  blamed = counted;
  handed = tt;
  handed_some = some_one notes e (Ok answer) a.observer b.observer a.table b.table noted is;
}

-- the events of turns: those of the first ones, and those of the others
rest_of_drop : {X : Type 0} (xs : List X) (n : ℕ) → drop n (rest_of xs) ≡ drop (suc n) xs
rest_of_drop [] zero = refl
rest_of_drop [] (suc n) = refl
rest_of_drop (x ∷ xs) n = refl

pub events_parts : (k m : ℕ) (ts : List ℕ) (is : List (Option Arrival)) → events_of (k + m) ts is ≡ events_of k ts is ++ events_of m (drop k ts) (drop k is)
events_parts zero m ts is = ap (λ x. events_of x ts is) (zero_plus m)
events_parts (suc k) m ts is =
    ap (λ x. events_of x ts is) (suc_plus k m)
    ∙ ap (λ x. turn_of ts is ++ x) (events_parts k m (rest_of ts) (rest_of is))
    ∙ ap (λ x. turn_of ts is ++ (events_of k (rest_of ts) (rest_of is) ++ events_of m x (drop k (rest_of is)))) (rest_of_drop ts k)
    ∙ ap (λ x. turn_of ts is ++ (events_of k (rest_of ts) (rest_of is) ++ events_of m (drop (suc k) ts) x)) (rest_of_drop is k)
    ∙ sym (append_assoc (turn_of ts is) (events_of k (rest_of ts) (rest_of is)) (events_of m (drop (suc k) ts) (drop (suc k) is)))

-- THE PARTS OF A TURN

-- a turn that ended at its tick
pub drove_tick : {O : Type 0} (notes : O → Event → Outcome → O → Type 0) (s t : Bool) (ms : ℕ) (ts : List ℕ) (a b : Seen O) (fault : RunFault)
    → (t ≡ true → ms ≡ first_or 0 ts) → Drove notes s true (ticks_of ms) 0 1 a b (Err fault) → Drove notes s t (turn_of ts a.tape.coming) 1 2 a b (Err fault)
drove_tick notes s t ms ts a b fault time one =
    drove_before notes s t (ticks_of (first_or 0 ts)) (arrivals_of (first_or None a.tape.coming)) 0 1 1 2 a b fault
    (drove_as notes s true t (ticks_of ms) (ticks_of (first_or 0 ts)) 0 0 1 1 a b (Err fault) (λ ti. refl) (λ sc ti. ap ticks_of (time ti)) refl (omega arith) one)

-- a turn that went on to its arrival
pub drove_turn : {O : Type 0} (notes : O → Event → Outcome → O → Type 0) (s t : Bool) (ms : ℕ) (ts : List ℕ) (k : ℕ) (a b c : Seen O) (res : Result ℕ RunFault)
    → (t ≡ true → ms ≡ first_or 0 ts) → Drove notes s true (ticks_of ms) 0 1 a b (Ok k) → Drove notes s true (arrivals_of (first_or None b.tape.coming)) 1 1 b c res
    → Drove notes s t (turn_of ts a.tape.coming) 1 2 a c (plus k res)
drove_turn notes s t ms ts k a b c res time one two =
    drove_after notes s t (ticks_of (first_or 0 ts)) (arrivals_of (first_or None a.tape.coming)) 0 1 1 1 k a b c res
    (drove_as notes s true t (ticks_of ms) (ticks_of (first_or 0 ts)) 0 0 1 1 a b (Ok k) (λ ti. refl) (λ sc ti. ap ticks_of (time ti)) refl (omega arith) one)
    (drove_as notes s true t (arrivals_of (first_or None b.tape.coming)) (arrivals_of (first_or None a.tape.coming)) 1 1 1 1 b c res (λ ti. refl) (λ sc ti. ap (λ x. arrivals_of (first_or None x)) (one.received sc)) refl (omega arith) two)

-- TURNS

-- one turn more
more_events : (k : ℕ) (ts : List ℕ) (is : List (Option Arrival)) → events_of k ts is ++ turn_of (drop k ts) (drop k is) ≡ events_of (k + 1) ts is
more_events k ts is =
    ap (λ x. events_of k ts is ++ x) (sym (append-nil (turn_of (drop k ts) (drop k is))))
    ∙ sym (events_parts k 1 ts is)

pub drove_more : {O : Type 0} (notes : O → Event → Outcome → O → Type 0) (s t : Bool) (k : ℕ) (ts ts' : List ℕ) (n : ℕ) (a b c : Seen O) (res : Result ℕ RunFault)
    → (t ≡ true → ts' ≡ drop k ts) → Drove notes s t (events_of k ts a.tape.coming) k (2 * k) a b (Ok n) → Drove notes s t (turn_of ts' b.tape.coming) 1 2 b c res
    → Drove notes s t (events_of (k + 1) ts a.tape.coming) (k + 1) (2 * (k + 1)) a c (plus n res)
drove_more notes s t k ts ts' n a b c res times one two =
    drove_as notes s t t (events_of k ts a.tape.coming ++ turn_of ts' b.tape.coming) (events_of (k + 1) ts a.tape.coming) (k + 1) (k + 1) (2 * k + 2) (2 * (k + 1)) a c (plus n res)
    (λ ti. ti)
    (λ sc ti.
    ap (λ x. events_of k ts a.tape.coming ++ turn_of x b.tape.coming) (times ti)
    ∙ ap (λ x. events_of k ts a.tape.coming ++ turn_of (drop k ts) x) (one.received sc)
    ∙ more_events k ts a.tape.coming)
    refl (omega arith)
    (drove_after notes s t (events_of k ts a.tape.coming) (turn_of ts' b.tape.coming) k 1 (2 * k) 2 n a b c res one two)

-- turns of which one ended at a fault
pub drove_stopped : {O : Type 0} (notes : O → Event → Outcome → O → Type 0) (s t : Bool) (k turns : ℕ) (ts ts' : List ℕ) (n : ℕ) (a b c : Seen O) (fault : RunFault)
    → k < turns → (t ≡ true → ts' ≡ drop k ts) → Drove notes s t (events_of k ts a.tape.coming) k (2 * k) a b (Ok n) → Drove notes s t (turn_of ts' b.tape.coming) 1 2 b c (Err fault)
    → Drove notes s t (events_of turns ts a.tape.coming) turns (2 * turns) a c (Err fault)
drove_stopped notes s t k turns ts ts' n a b c fault within times one two =
    let all : (k + 1) + (turns - (k + 1)) ≡ turns = omega (arith, within) in
    let rest = events_of (turns - (k + 1)) (drop (k + 1) ts) (drop (k + 1) a.tape.coming) in
    drove_as notes s t t (events_of (k + 1) ts a.tape.coming ++ rest) (events_of turns ts a.tape.coming) turns turns (2 * turns) (2 * turns) a c (Err fault)
    (λ ti. ti)
    (λ sc ti. sym (events_parts (k + 1) (turns - (k + 1)) ts a.tape.coming) ∙ ap (λ x. events_of x ts a.tape.coming) all)
    refl (omega arith)
    (drove_before notes s t (events_of (k + 1) ts a.tape.coming) rest (k + 1) turns (2 * (k + 1)) (2 * turns) a c fault (drove_more notes s t k ts ts' n a b c (Err fault) times one two))
