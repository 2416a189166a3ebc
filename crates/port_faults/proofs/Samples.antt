-- Words, impairments and holds, worked outside this code. The words of seed 1234567 are those that the authors' program prints.
use Rattle.std.proofs.Common.{◌≡◌, ℕ, List, [], ◌∷◌, Some, None, true, false, refl}
use Rattle.std.specs.Prelude.{position}
use Rattle.cip_types.specs.declared.names.Node.{Node}
use Rattle.port_faults.specs.declared.rates.FaultRates.{FaultRates}
use Rattle.port_faults.specs.Impairments.{impairment_of, word_at}
use Rattle.port_faults.specs.Holds.{HoldValue, given, is_due, taken, wait_of}

-- WORDS

first_word : word_at 1234567 0 ≡ 6457827717110365317
first_word = refl

second_word : word_at 1234567 1 ≡ 3203168211198807973
second_word = refl

fifth_word : word_at 1234567 4 ≡ 16408922859458223821
fifth_word = refl

-- IMPAIRMENTS: the words draw 45, 64, 71 and 10; then 5, 12, 72 and 18; then 63, 70, 57 and 18 (of 21)

abbrev rates_of : ℕ → ℕ → ℕ → ℕ → FaultRates
rates_of lose repeat reorder delay = record { lose = lose; repeat = repeat; reorder = reorder; delay_ms = delay; seed = 1234567 }

lost_and_repeated : impairment_of (rates_of 50 70 0 20) 0 ≡ record { lost = true; repeated = true; overtaken = false; delay_ms = 10 }
lost_and_repeated = refl

neither : impairment_of (rates_of 50 70 0 20) 2 ≡ record { lost = false; repeated = false; overtaken = false; delay_ms = 18 }
neither = refl

never_at_0 : impairment_of (rates_of 0 0 0 0) 1 ≡ record { lost = false; repeated = false; overtaken = false; delay_ms = 0 }
never_at_0 = refl

always_at_100 : impairment_of (rates_of 100 100 100 0) 2 ≡ record { lost = true; repeated = true; overtaken = true; delay_ms = 0 }
always_at_100 = refl

-- HOLDS: of these the first datagram is overtaken by the second one

abbrev peer : Node
peer = record { 0 = 2130706452 }

abbrev one : List ℕ
one = 1 ∷ []

abbrev two : List ℕ
two = 2 ∷ []

abbrev first_hold : HoldValue
first_hold = record { rates = rates_of 0 0 72 0; arrived = 0; waiting = [] }

abbrev second_hold : HoldValue
second_hold = taken first_hold 5 peer one

first_waits : given first_hold one ≡ None
first_waits = refl

first_is_held : second_hold.waiting ≡ record { peer = peer; bytes = one; due_ms = 1005; behind = 2 } ∷ []
first_is_held = refl

not_due_alone : position (is_due 6 second_hold.arrived) second_hold.waiting ≡ None
not_due_alone = refl

a_long_wait : wait_of 6 second_hold.arrived 5000 second_hold.waiting ≡ 999
a_long_wait = refl

second_goes_on : given second_hold two ≡ Some two
second_goes_on = refl

first_is_due : position (is_due 6 (taken second_hold 6 peer two).arrived) (taken second_hold 6 peer two).waiting ≡ Some 0
first_is_due = refl

-- a repeated datagram goes on, and its copy is due at once
abbrev repeated : HoldValue
repeated = taken (record { rates = rates_of 0 65 0 0; arrived = 0; waiting = [] }) 5 peer one

copy_waits : repeated.waiting ≡ record { peer = peer; bytes = one; due_ms = 5; behind = 18446744073709551615 } ∷ []
copy_waits = refl

copy_is_due : position (is_due 5 repeated.arrived) repeated.waiting ≡ Some 0
copy_is_due = refl
