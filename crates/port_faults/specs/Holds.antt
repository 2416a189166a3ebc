-- Datagrams that wait at a port with faults. Times are in milliseconds.
use Rattle.std.specs.Prelude.{◌≡◌, ℕ, ◌+◌, ◌-◌, ◌^◌, ◌||◌, ◌&&◌, not, nat_le, nat_lt, min, if◌then◌else◌, Bool, true, false, List, [], ◌∷◌, ◌++◌, length, option_map, option_to_list, position, remove, slice_get, Option, Some, None}
use Rattle.cip_types.specs.declared.names.Node.{Node}
use Rattle.port_faults.specs.declared.hold.HeldDatagram.{HeldDatagram}
use Rattle.port_faults.specs.declared.rates.DatagramImpairment.{DatagramImpairment}
use Rattle.port_faults.specs.declared.rates.FaultRates.{FaultRates}
use Rattle.port_faults.specs.Impairments.{impairment_of}

-- the rates, how many datagrams have arrived, and those that wait, in the order in which they came
pub record HoldValue : Type 0 where
  pub rates : FaultRates
  pub arrived : ℕ
  pub waiting : List HeldDatagram

-- THE NEXT DATAGRAM

-- at most 64 wait, so two more can
abbrev pub has_room : List HeldDatagram → Bool
has_room waiting = nat_le (length waiting) 62

-- a datagram waits by its impairment
abbrev pub is_late : DatagramImpairment → Bool
is_late impairment = impairment.overtaken || nat_lt 0 impairment.delay_ms

-- within 64 bits
abbrev pub fit : ℕ → ℕ
fit n = min n (2 ^ 64 - 1)

-- it waits until this time; for a datagram that is to overtake it at most 1,000 ms
abbrev pub due_of : DatagramImpairment → ℕ → ℕ
due_of impairment now = if impairment.overtaken then fit (now + 1000) else fit (now + impairment.delay_ms)

-- .. or until so many have arrived, where so many came before it
abbrev pub behind_of : DatagramImpairment → ℕ → ℕ
behind_of impairment arrived = if impairment.overtaken then fit (arrived + 2) else 2 ^ 64 - 1

abbrev pub copied_if : Bool → List ℕ → Option (List ℕ)
copied_if requested bytes = if requested then Some bytes else None

-- the second copy, which is due at once
abbrev pub copy_at : Node → ℕ → List ℕ → HeldDatagram
copy_at peer now bytes = record { peer = peer; bytes = bytes; due_ms = now; behind = 2 ^ 64 - 1 }

-- what waits of a datagram and its copy
abbrev pub kept_of : Bool → Bool → HeldDatagram → Option HeldDatagram → List HeldDatagram
kept_of arrives late held copy = if arrives then (if late then held ∷ option_to_list copy else option_to_list copy) else []

-- what goes on at once
abbrev pub given_if : Bool → Bool → List ℕ → Option (List ℕ)
given_if arrives late bytes = if arrives && not late then Some bytes else None

-- what becomes of the next datagram
abbrev pub next_impairment : HoldValue → DatagramImpairment
next_impairment hold = impairment_of hold.rates hold.arrived

-- Of the next datagram: its bytes, if it goes on at once. Where there is no room it is lost or goes on.
abbrev pub given : HoldValue → List ℕ → Option (List ℕ)
given hold bytes = given_if (not (next_impairment hold).lost) (has_room hold.waiting && is_late (next_impairment hold)) bytes

abbrev pub kept_by : DatagramImpairment → ℕ → ℕ → Node → List ℕ → List HeldDatagram
kept_by impairment arrived now peer bytes = kept_of (not impairment.lost) (is_late impairment) (record { peer = peer; bytes = bytes; due_ms = due_of impairment now; behind = behind_of impairment arrived }) (option_map (copy_at peer now) (copied_if (impairment.repeated && not impairment.lost) bytes))

-- the hold after it
abbrev pub waiting_after : Bool → HoldValue → ℕ → Node → List ℕ → List HeldDatagram
waiting_after false hold now peer bytes = hold.waiting
waiting_after true hold now peer bytes = hold.waiting ++ kept_by (next_impairment hold) hold.arrived now peer bytes

abbrev pub taken : HoldValue → ℕ → Node → List ℕ → HoldValue
taken hold now peer bytes = record hold { arrived = fit (hold.arrived + 1); waiting = waiting_after (has_room hold.waiting) hold now peer bytes }

-- DATAGRAMS THAT ARE DUE

abbrev pub is_due : ℕ → ℕ → HeldDatagram → Bool
is_due now arrived held = nat_le held.due_ms now || nat_le held.behind arrived

-- the first one that is due goes on, and the others stay
pub record GivesDue (now : ℕ) (old : HoldValue) (first : HeldDatagram) (new : HoldValue) : Type 0 where
  pub place : ℕ
  pub is : position (is_due now old.arrived) old.waiting ≡ Some place
  pub first_is : slice_get old.waiting place ≡ Some first
  pub rest : new ≡ record old { waiting = remove old.waiting place }

-- the time until one is due, if no other one arrives
abbrev pub time_to : ℕ → ℕ → HeldDatagram → ℕ
time_to now arrived held = if nat_le held.behind arrived then 0 else held.due_ms - now

-- .. until the first of them is, at most so long
abbrev pub wait_of : ℕ → ℕ → ℕ → List HeldDatagram → ℕ
wait_of now arrived most [] = most
wait_of now arrived most (held ∷ waiting) = wait_of now arrived (min most (time_to now arrived held)) waiting
