-- What is sent for a message is among the frames of the event.
use Rattle.std.proofs.Common.{◌≡◌, ℕ, ◌+◌, ◌&&◌, nat_lt, Bool, true, false, cond, List, [], ◌∷◌, ◌++◌, filter, flat_map, Result, Ok, Err, refl}
use Rattle.std.specs.List.{list_all}
use Rattle.std.proofs.lemmas.Bool.{and_parts}
use Rattle.cip_types.specs.declared.names.Ms.{Ms}
use Rattle.cip_events.specs.Clock.{longest_tick, clock_end}
use Rattle.cip_events.specs.declared.event.Event.TheVariants as event
use Rattle.cip_events.specs.declared.event.Frame.{Frame}
use Rattle.cip_events.specs.declared.event.StepFault.{StepFault}
use Rattle.cip_events.specs.declared.event.StepFault.TheVariants.{TickTooLong, ClockEnd}
use Rattle.messaging.specs.declared.class3.Class3Connection.{Class3Connection}
use Rattle.messaging.specs.declared.requests.Waiting.{Waiting}
use Rattle.messaging.specs.Times.{without_late_class3_connections, late_waiting}
use Rattle.base_lemmas.specs.Booleans.{either}
use Rattle.adapter_table.specs.declared.table.AdapterTable.{AdapterTable}
use Rattle.adapter_table.specs.Requests.{Next}
use Rattle.adapter_table.specs.Step.{adapter_step}
use Rattle.adapter_table.specs.Ticks.{late_frames, clocked_table, expired_table, produced_table, advanced, aged_next, tick}
use Rattle.message_laws.specs.Repetitions.{is_requested_by, late_replies_to, unless_refused, frames_of, WhatIsSentGoesOut}

all_parts : (test : Frame → Bool) (xs ys : List Frame) → list_all test (xs ++ ys) ≡ true → (list_all test xs ≡ true) × (list_all test ys ≡ true)
all_parts test [] ys all = (refl, all)
all_parts test (x ∷ xs) ys all =
    let parts = and_parts (test x) (list_all test (xs ++ ys)) all in
    let rest = all_parts test xs ys parts.1 in
    (both (test x) (list_all test xs) parts.0 rest.0, rest.1)
  where
    both : (a b : Bool) → a ≡ true → b ≡ true → (a && b) ≡ true
    both true b first second = second
    both false b first second = absurd (let n = first in cc)

all_both : (test : Frame → Bool) (xs ys : List Frame) → list_all test xs ≡ true → list_all test ys ≡ true → list_all test (xs ++ ys) ≡ true
all_both test [] ys first second = second
all_both test (x ∷ xs) ys first second =
    let parts = and_parts (test x) (list_all test xs) first in
    both (test x) (list_all test (xs ++ ys)) parts.0 (all_both test xs ys parts.1 second)
  where
    both : (a b : Bool) → a ≡ true → b ≡ true → (a && b) ≡ true
    both true b one two = two
    both false b one two = absurd (let n = one in cc)

some_step : (b : Bool) (test : Frame → Bool) (f : Waiting → List Frame) (w : Waiting) (ws : List Waiting) → list_all test (f w) ≡ true → list_all test (flat_map f ws) ≡ true → list_all test (flat_map f (cond b (w ∷ ws) ws)) ≡ true
some_step true test f w ws first rest = all_both test (f w) (flat_map f ws) first rest
some_step false test f w ws first rest = rest

some_of : (test : Frame → Bool) (f : Waiting → List Frame) (p : Waiting → Bool) (ws : List Waiting) → list_all test (flat_map f ws) ≡ true → list_all test (flat_map f (filter p ws)) ≡ true
some_of test f p [] all = refl
some_of test f p (w ∷ ws) all =
    let parts = all_parts test (f w) (flat_map f ws) all in
    some_step (p w) test f w (filter p ws) parts.0 (some_of test f p ws parts.1)

abbrev TickSends : (Frame → Bool) → Class3Connection → ℕ → AdapterTable → ℕ → Result Next StepFault → Type 0
TickSends test d count t ms outcome = list_all test (frames_of outcome) ≡ true → list_all test (unless_refused outcome (late_replies_to d.o_t_id count (record { 0 = t.clock.0 + ms }) t.messaging)) ≡ true

advanced_sends : (test : Frame → Bool) (d : Class3Connection) (count : ℕ) (t : AdapterTable) (ms : ℕ) → TickSends test d count t ms (Ok (aged_next (advanced (clocked_table t ms))))
unfolding clocked_table expired_table produced_table
advanced_sends test d count t ms all =
    let clock : Ms = record { 0 = t.clock.0 + ms } in
    let left = without_late_class3_connections clock t.messaging in
    some_of test (late_frames left) (is_requested_by d.o_t_id count) (late_waiting clock left) all

tick_sends : (test : Frame → Bool) (d : Class3Connection) (count : ℕ) (t : AdapterTable) (ms : ℕ) → TickSends test d count t ms (tick t ms)
unfolding tick
tick_sends test d count t ms =
    either (TickSends test d count t ms) (nat_lt longest_tick ms) (Err TickTooLong) _ (λ all. refl)
    (either (TickSends test d count t ms) (nat_lt clock_end (t.clock.0 + ms)) (Err ClockEnd) (Ok (aged_next (advanced (clocked_table t ms)))) (λ all. refl) (advanced_sends test d count t ms))

if_sends : (test : Frame → Bool) (b : Bool) (frames : List Frame) → list_all test frames ≡ true → list_all test (cond b frames []) ≡ true
if_sends test true frames all = all
if_sends test false frames all = refl

pub sent_goes_out : WhatIsSentGoesOut
sent_goes_out test t d count (event.Frame number bytes) all = if_sends test _ (frames_of (adapter_step t (event.Frame number bytes))) all
sent_goes_out test t d count (event.Respond number status bytes) all = if_sends test _ (frames_of (adapter_step t (event.Respond number status bytes))) all
sent_goes_out test t d count (event.Tick ms) all = tick_sends test d count t ms all
sent_goes_out test t d count other all = refl
