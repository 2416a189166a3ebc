-- Delays, words and inquiries that wait, worked outside this code. The words of seed 1234567 are those that the authors' program
-- prints: 6457827717110365317, then 3203168211198807973.
use Rattle.std.proofs.Common.{◌≡◌, ℕ, ◌≤◌, ◌++◌, List, [], ◌∷◌, replicate, Some, None, refl, arith}
use Rattle.std.proofs.Math.Nat.{mod-eq_of_lt}
use Rattle.std.specs.Prelude.{length, position}
use Rattle.std.specs.declared.net.socket_addr.SocketAddr.TheVariants.{V4}
use Rattle.station_port.specs.declared.inquiries.asking.Asker.{Asker}
use Rattle.station_port.specs.declared.inquiries.asking.InquirySocket.TheVariants.{Own, Everybody, Network}
use Rattle.station_port.specs.declared.inquiries.budget.InquiryBudget.{InquiryBudget}
use Rattle.station_port.specs.declared.inquiries.hold.HeldInquiry.{HeldInquiry}
use Rattle.station_port.specs.Inquiries.Delays.{drawn_delay, longest_delay}
use Rattle.station_port.specs.Inquiries.Gates.{budget_of, given_at_once, held_of}
use Rattle.station_port.specs.Inquiries.Holds.{InquiriesHeld, held_after, inquiry_wait, is_inquiry_due}

-- THE LONGEST DELAY, by the first two bytes of the sender context

-- a ListIdentity request with these two bytes
abbrev request : ℕ → ℕ → List ℕ
request low high = 0x63 ∷ replicate 11 0 ++ low ∷ high ∷ replicate 10 7

its_length : length (request 0 0) ≡ 24
its_length = refl

none_is_2000 : longest_delay (request 0 0) ≡ 2000
none_is_2000 = refl

one_is_500 : longest_delay (request 1 0) ≡ 500
one_is_500 = refl

below_500_is_500 : longest_delay (request 0xF3 1) ≡ 500
below_500_is_500 = refl

from_500_on_itself : longest_delay (request 0xF4 1) ≡ 500
from_500_on_itself = refl

little_endian : longest_delay (request 0xF5 1) ≡ 501
little_endian = refl

the_high_byte_alone : longest_delay (request 0 4) ≡ 1024
the_high_byte_alone = refl

up_to_2000_itself : longest_delay (request 0xCF 7) ≡ 1999
up_to_2000_itself = refl

from_2000_on_2000 : longest_delay (request 0xD1 7) ≡ 2000
from_2000_on_2000 = refl

a_minute_is_2000 : longest_delay (request 0xFF 0xFF) ≡ 2000
a_minute_is_2000 = refl

-- one that ends before them names none
too_short : longest_delay (replicate 13 9) ≡ 2000
too_short = refl

long_enough : longest_delay (replicate 14 3) ≡ 771
long_enough = refl

-- THE DRAWN DELAY

no_delay : drawn_delay 501 500 ≡ 0
no_delay = refl

the_longest : drawn_delay 1001 500 ≡ 500
the_longest = refl

of_the_first_word : drawn_delay 6457827717110365317 500 ≡ 297
of_the_first_word = refl

of_the_second_word : drawn_delay 3203168211198807973 2000 ≡ 1441
of_the_second_word = refl

-- each delay up to the longest is drawn: by the word of its number
each_is_drawn : (delay longest : ℕ) → delay ≤ longest → drawn_delay delay longest ≡ delay
each_is_drawn delay longest fits = mod-eq_of_lt (omega arith)

-- INQUIRIES THAT WAIT

abbrev first_hold : InquiriesHeld
first_hold = record { words = 1234567; waiting = [] }

-- a peer of an address, at a port
abbrev peer : ℕ → ℕ → Asker
peer address port = record { node = record { 0 = address }; at = V4 (record { ip = record { octets = 10 ∷ 0 ∷ 0 ∷ address ∷ [] }; port = port }) }

-- one within 500 ms of a peer, and one within 2,000 ms of another one
abbrev both : InquiriesHeld
both = held_after (held_after first_hold 1000 (peer 1 5000) (request 1 0)) 1010 (peer 2 5000) (request 0 0)

both_wait : both.waiting ≡
    record { asker = peer 1 5000; bytes = request 1 0; due_ms = 1297 } ∷ record { asker = peer 2 5000; bytes = request 0 0; due_ms = 2451 } ∷ []
both_wait = refl

not_due_before : position (is_inquiry_due 1296) both.waiting ≡ None
not_due_before = refl

due_at_its_time : position (is_inquiry_due 1297) both.waiting ≡ Some 0
due_at_its_time = refl

the_wait_ends_with_the_first : inquiry_wait 1010 5000 both.waiting ≡ 287
the_wait_ends_with_the_first = refl

at_most_the_length_given : inquiry_wait 1010 286 both.waiting ≡ 286
at_most_the_length_given = refl

no_wait_when_due : inquiry_wait 1298 5000 both.waiting ≡ 0
no_wait_when_due = refl

-- a newer one of the same peer takes the place of the older one, and is not due later than that: 1010 + 1441 is behind 1297
inquired_again : (held_after (held_after first_hold 1000 (peer 1 5000) (request 1 0)) 1010 (peer 1 5000) (request 0 0)).waiting ≡
    record { asker = peer 1 5000; bytes = request 0 0; due_ms = 1297 } ∷ []
inquired_again = refl

-- .. but due earlier, if it is: the second word draws 3203168211198807973 % 501, which is 358
inquired_again_sooner : (held_after (held_after first_hold 1000 (peer 1 5000) (request 0 0)) 1010 (peer 1 5000) (request 1 0)).waiting ≡
    record { asker = peer 1 5000; bytes = request 1 0; due_ms = 1360 } ∷ []
inquired_again_sooner = refl

-- another port of the address is another peer
another_port : length (held_after (held_after first_hold 1000 (peer 1 5000) (request 1 0)) 1010 (peer 1 5001) (request 0 0)).waiting ≡ 2
another_port = refl

-- four of one address wait, and a fifth port takes the place of the first
abbrev waits : ℕ → HeldInquiry
waits port = record { asker = peer 1 port; bytes = request 0 0; due_ms = 1300 }

abbrev four : InquiriesHeld
four = record { words = 1234567; waiting = waits 1 ∷ waits 2 ∷ waits 3 ∷ waits 4 ∷ [] }

a_fifth_port : (held_after four 1200 (peer 1 5) (request 1 0)).waiting ≡ waits 2 ∷ waits 3 ∷ waits 4 ∷ record { asker = peer 1 5; bytes = request 1 0; due_ms = 1300 } ∷ []
a_fifth_port = refl

one_of_them_again : (held_after four 1200 (peer 1 3) (request 1 0)).waiting ≡ waits 1 ∷ waits 2 ∷ waits 4 ∷ record { asker = peer 1 3; bytes = request 1 0; due_ms = 1300 } ∷ []
one_of_them_again = refl

another_address_beside_them : length (held_after four 1200 (peer 2 1) (request 1 0)).waiting ≡ 5
another_address_beside_them = refl

-- a 65th is lost, and draws nothing
abbrev full : InquiriesHeld
full = record { words = 1234567; waiting = replicate 64 (waits 1) }

one_too_many : held_after full 1000 (peer 2 1) (request 0 0) ≡ full
one_too_many = refl

-- AT ONCE, OR LATER

abbrev unused : InquiryBudget
unused = record { second = 0; given = 0 }

abbrev spent : InquiryBudget
spent = record { second = 1; given = 32 }

to_its_own_address : given_at_once Own unused 1000 (request 0 0) ≡ Some (request 0 0)
to_its_own_address = refl

it_does_not_wait : (asker : Asker) → held_of Own first_hold 1000 asker (request 0 0) ≡ first_hold
it_does_not_wait asker = refl

to_everybody : given_at_once Everybody unused 1000 (request 0 0) ≡ None
to_everybody = refl

to_the_network : given_at_once Network unused 1000 (request 0 0) ≡ None
to_the_network = refl

they_wait : (asker : Asker) → held_of Network first_hold 1000 asker (request 1 0) ≡ held_after first_hold 1000 asker (request 1 0)
they_wait asker = refl

they_are_not_counted_yet : budget_of Everybody spent 1000 ≡ spent
they_are_not_counted_yet = refl

one_too_many_in_a_second : given_at_once Own spent 1999 (request 0 0) ≡ None
one_too_many_in_a_second = refl

the_next_second : budget_of Own spent 2000 ≡ record { second = 2; given = 1 }
the_next_second = refl
