-- What a turn in time takes, one part after another.
use Rattle.std.proofs.Common.{arith, ◌≡◌, ◌≤◌, ◌*◌, ℕ, ◌+◌, Bool, true, List, [], ◌∷◌, ◌++◌, Option, Some, None, Result, Ok, Err, refl, ap, ◌∙◌, sym, subst}
use Rattle.cip_events.specs.declared.arrival.Arrival.{Arrival}
use Rattle.cip_events.specs.declared.event.Event.{Event}
use Rattle.cip_events.specs.Arrivals.{arrival_event}
use Rattle.cip_events.specs.Outcomes.{Outcome}
use Rattle.cip_tables.specs.declared.table.DeviceTable.{DeviceTable}
use Rattle.udp_runner.specs.declared.fault.RunFault.{RunFault}
use Rattle.udp_runner.specs.Driving.{Drove, Seen}
use Rattle.udp_runner.specs.Tape.{Tape, first_or, rest_of}
use Rattle.udp_runner.specs.Turns.{arrivals_of, ticks_of, turn_of}
use Rattle.udp_runner.proofs.Driven.{drove_after, drove_as, drove_before, drove_kept, drove_receive, drove_tick, plus, plus_none}

-- what was driven behind a part without an event
pub drove_behind : {O : Type 0} (notes : O → Event → Outcome → O → Type 0) (s t : Bool) (es : List Event) (r q m : ℕ) (a b c : Seen O) (res : Result ℕ RunFault)
    → Drove notes s t [] r 0 a b (Ok 0) → Drove notes s t es q m b c res → Drove notes s t es (r + q) m a c res
drove_behind notes s t es r q m a b c res one two =
    subst (λ x. Drove notes s t es (r + q) m a c x) (plus_none res)
    (drove_as notes s t t ([] ++ es) es (r + q) (r + q) (0 + m) m a c (plus 0 res) (λ ti. ti) (λ sc ti. refl) refl (omega arith)
    (drove_after notes s t [] es r q 0 m 0 a b c res one two))

-- A DATAGRAM THAT WAITS

-- a scripted port has none: what was driven by one was driven at another port
pub drove_waiting : {O : Type 0} (notes : O → Event → Outcome → O → Type 0) (s t : Bool) (e : Event) (came : Option Arrival) (arrival : Arrival) (tape tape' : Tape) (failed failed' : ℕ) (table : DeviceTable) (observer : O) (c : Seen O) (res : Result ℕ RunFault)
    → (s ≡ true → tape' ≡ tape) → failed' ≡ failed → (s ≡ true → came ≡ None) → came ≡ Some arrival
    → Drove notes s t (e ∷ []) 0 2 (record { tape = tape'; failed = failed'; table = table; observer = observer }) c res
    → Drove notes s t [] 0 2 (record { tape = tape; failed = failed; table = table; observer = observer }) c res
drove_waiting notes s t e came arrival tape tape' failed failed' table observer c res kept worked none is one =
    drove_behind notes s t [] 0 0 2 _ _ c res
    (drove_kept notes s t 0 tape tape' failed failed' table observer kept worked)
    (drove_as notes s t t (e ∷ []) [] 0 0 2 2 _ c res (λ ti. ti) (λ sc ti. absurd (let a = none sc in let b = is in cc)) refl (omega arith) one)

-- one more of the datagrams that wait
pub drove_one_more : {O : Type 0} (notes : O → Event → Outcome → O → Type 0) (s t : Bool) (k n : ℕ) (a b c : Seen O) (res : Result ℕ RunFault)
    → Drove notes s t [] 0 (2 * k) a b (Ok n) → Drove notes s t [] 0 2 b c res → Drove notes s t [] 0 (2 * (k + 1)) a c (plus n res)
drove_one_more notes s t k n a b c res one two =
    drove_as notes s t t [] [] 0 0 (2 * k + 2) (2 * (k + 1)) a c (plus n res) (λ ti. ti) (λ sc ti. refl) refl (omega arith)
    (drove_after notes s t [] [] 0 0 (2 * k) 2 n a b c res one two)

-- at most all of them
pub drove_at_most : {O : Type 0} (notes : O → Event → Outcome → O → Type 0) (s t : Bool) (m n : ℕ) (a b : Seen O) (res : Result ℕ RunFault)
    → m ≤ n → Drove notes s t [] 0 m a b res → Drove notes s t [] 0 n a b res
drove_at_most notes s t m n a b res most one = drove_as notes s t t [] [] 0 0 m n a b res (λ ti. ti) (λ sc ti. refl) refl most one

-- WHAT HAS ARRIVED

-- the clock is brought up, and what has arrived is given: a scripted clock is not brought up
pub drove_given : {O : Type 0} (notes : O → Event → Outcome → O → Type 0) (s t : Bool) (ms k : ℕ) (e : Event) (a b c : Seen O) (res : Result ℕ RunFault)
    → (t ≡ true → ms ≡ 0) → Drove notes s true (ticks_of ms) 0 1 a b (Ok k) → Drove notes s true (e ∷ []) 0 1 b c res → Drove notes s t (e ∷ []) 0 2 a c (plus k res)
drove_given notes s t ms k e a b c res none one two =
    drove_as notes s true t (ticks_of ms ++ (e ∷ [])) (e ∷ []) 0 0 2 2 a c (plus k res) (λ ti. refl) (λ sc ti. ap (λ x. ticks_of x ++ (e ∷ [])) (none ti)) refl (omega arith)
    (drove_after notes s true (ticks_of ms) (e ∷ []) 0 0 1 1 k a b c res one two)

pub drove_not_given : {O : Type 0} (notes : O → Event → Outcome → O → Type 0) (s t : Bool) (ms : ℕ) (e : Event) (a b : Seen O) (fault : RunFault)
    → (t ≡ true → ms ≡ 0) → Drove notes s true (ticks_of ms) 0 1 a b (Err fault) → Drove notes s t (e ∷ []) 0 2 a b (Err fault)
drove_not_given notes s t ms e a b fault none one =
    drove_as notes s true t (ticks_of ms ++ (e ∷ [])) (e ∷ []) 0 0 2 2 a b (Err fault) (λ ti. refl) (λ sc ti. ap (λ x. ticks_of x ++ (e ∷ [])) (none ti)) refl (omega arith)
    (drove_before notes s true (ticks_of ms) (e ∷ []) 0 0 1 2 a b fault one)

-- what was received is given
pub drove_arrival : {O : Type 0} (notes : O → Event → Outcome → O → Type 0) (s t : Bool) (came : Option Arrival) (arrival : Arrival) (tape tape' : Tape) (failed failed' : ℕ) (table : DeviceTable) (observer : O) (c : Seen O) (res : Result ℕ RunFault)
    → (s ≡ true → tape' ≡ record tape { coming = rest_of tape.coming }) → failed' ≡ failed → (s ≡ true → came ≡ first_or None tape.coming) → came ≡ Some arrival
    → Drove notes s t (arrival_event arrival ∷ []) 0 2 (record { tape = tape'; failed = failed'; table = table; observer = observer }) c res
    → Drove notes s t (arrivals_of (first_or None tape.coming)) 1 2 (record { tape = tape; failed = failed; table = table; observer = observer }) c res
drove_arrival notes s t came arrival tape tape' failed failed' table observer c res taken worked given is one =
    drove_as notes s t t (arrival_event arrival ∷ []) (arrivals_of (first_or None tape.coming)) (1 + 0) 1 2 2 _ c res (λ ti. ti)
    (λ sc ti. ap arrivals_of (sym is ∙ given sc)) refl (omega arith)
    (drove_behind notes s t (arrival_event arrival ∷ []) 1 0 2 _ _ c res
    (drove_receive notes s t 0 tape tape' failed failed' table observer taken worked) one)

-- A TURN

-- a turn that ticked, and went on to its arrival
drove_turn_given : {O : Type 0} (notes : O → Event → Outcome → O → Type 0) (s t : Bool) (ms : ℕ) (ts : List ℕ) (k : ℕ) (a b c : Seen O) (res : Result ℕ RunFault)
    → (t ≡ true → ms ≡ first_or 0 ts) → Drove notes s true (ticks_of ms) 0 1 a b (Ok k) → Drove notes s t (arrivals_of (first_or None b.tape.coming)) 1 2 b c res
    → Drove notes s t (turn_of ts a.tape.coming) 1 3 a c (plus k res)
drove_turn_given notes s t ms ts k a b c res time one two =
    drove_after notes s t (ticks_of (first_or 0 ts)) (arrivals_of (first_or None a.tape.coming)) 0 1 1 2 k a b c res
    (drove_as notes s true t (ticks_of ms) (ticks_of (first_or 0 ts)) 0 0 1 1 a b (Ok k) (λ ti. refl) (λ sc ti. ap ticks_of (time ti)) refl (omega arith) one)
    (drove_as notes s t t (arrivals_of (first_or None b.tape.coming)) (arrivals_of (first_or None a.tape.coming)) 1 1 2 2 b c res (λ ti. ti) (λ sc ti. ap (λ x. arrivals_of (first_or None x)) (one.received sc)) refl (omega arith) two)

-- what waited was taken before
drove_turn_behind : {O : Type 0} (notes : O → Event → Outcome → O → Type 0) (s t : Bool) (ts : List ℕ) (m j : ℕ) (a b c : Seen O) (res : Result ℕ RunFault)
    → m ≤ 3 → Drove notes s t [] 0 128 a b (Ok j) → Drove notes s t (turn_of ts b.tape.coming) 1 m b c res → Drove notes s t (turn_of ts a.tape.coming) 1 131 a c (plus j res)
drove_turn_behind notes s t ts m j a b c res few one two =
    drove_as notes s t t (turn_of ts b.tape.coming) (turn_of ts a.tape.coming) 1 1 (128 + m) 131 a c (plus j res) (λ ti. ti)
    (λ sc ti. ap (λ x. turn_of ts x) (one.received sc)) refl (omega (arith, few))
    (drove_after notes s t [] (turn_of ts b.tape.coming) 0 1 128 m j a b c res one two)

-- a turn that ended as it took what waited, at its tick, or at its arrival, and one that did not
pub drove_ended_first : {O : Type 0} (notes : O → Event → Outcome → O → Type 0) (s t : Bool) (ts : List ℕ) (a b : Seen O) (fault : RunFault)
    → Drove notes s t [] 0 128 a b (Err fault) → Drove notes s t (turn_of ts a.tape.coming) 1 131 a b (Err fault)
drove_ended_first notes s t ts a b fault one = drove_before notes s t [] (turn_of ts a.tape.coming) 0 1 128 131 a b fault one

pub drove_ended_at_tick : {O : Type 0} (notes : O → Event → Outcome → O → Type 0) (s t : Bool) (ms : ℕ) (ts ts' : List ℕ) (j : ℕ) (a b c : Seen O) (fault : RunFault)
    → (t ≡ true → ts' ≡ ts) → (t ≡ true → ms ≡ first_or 0 ts') → Drove notes s t [] 0 128 a b (Ok j) → Drove notes s true (ticks_of ms) 0 1 b c (Err fault)
    → Drove notes s t (turn_of ts a.tape.coming) 1 131 a c (Err fault)
drove_ended_at_tick notes s t ms ts ts' j a b c fault same time one two =
    drove_turn_behind notes s t ts 2 j a b c (Err fault) (omega arith) one
    (drove_tick notes s t ms ts b c fault (λ ti. time ti ∙ ap (first_or 0) (same ti)) two)

pub drove_turn_in_time : {O : Type 0} (notes : O → Event → Outcome → O → Type 0) (s t : Bool) (ms : ℕ) (ts ts' : List ℕ) (j k : ℕ) (a b c d : Seen O) (res : Result ℕ RunFault)
    → (t ≡ true → ts' ≡ ts) → (t ≡ true → ms ≡ first_or 0 ts') → Drove notes s t [] 0 128 a b (Ok j) → Drove notes s true (ticks_of ms) 0 1 b c (Ok k)
    → Drove notes s t (arrivals_of (first_or None c.tape.coming)) 1 2 c d res
    → Drove notes s t (turn_of ts a.tape.coming) 1 131 a d (plus j (plus k res))
drove_turn_in_time notes s t ms ts ts' j k a b c d res same time one two three =
    drove_turn_behind notes s t ts 3 j a b d (plus k res) (omega arith) one
    (drove_turn_given notes s t ms ts k b c d res (λ ti. time ti ∙ ap (first_or 0) (same ti)) two three)
