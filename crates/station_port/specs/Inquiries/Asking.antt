-- Inquiries over UDP: which of them a device is given, and where its reply goes. Times are in milliseconds.
use Rattle.std.specs.Prelude.{ℕ, ◌+◌, ◌/◌, ◌==◌, nat_lt, Bool, true, false, if◌then◌else◌, Option, Some, None}
use Rattle.cip_types.specs.declared.names.Node.{Node}
use Rattle.station_port.specs.declared.inquiries.asking.Asker.{Asker}
use Rattle.station_port.specs.declared.inquiries.asking.InquirySocket.{InquirySocket}
use Rattle.station_port.specs.declared.inquiries.asking.InquirySocket.TheVariants.{Own, Everybody, Network}
use Rattle.station_port.specs.declared.inquiries.budget.InquiryBudget.{InquiryBudget}

-- what came by a socket of a broadcast address came by broadcast. A socket of the station's own address receives no broadcast,
-- unless that is 0.0.0.0: then nothing tells its broadcasts apart
abbrev pub is_broadcast : InquirySocket → Bool
is_broadcast Own = false
is_broadcast Everybody = true
is_broadcast Network = true

-- the bytes of an encapsulation header, which an inquiry is alone
abbrev pub has_length : ℕ → Bool
has_length count = count == 24

-- a device is given at most so many in each second
abbrev pub most_in_a_second : ℕ
most_in_a_second = 32

-- how many it was given in a second
abbrev pub given_in : InquiryBudget → ℕ → ℕ
given_in budget second = if budget.second == second then budget.given else 0

abbrev pub admits : InquiryBudget → ℕ → Bool
admits budget now = nat_lt (given_in budget (now / 1000)) most_in_a_second

-- the budget after another inquiry
abbrev pub budget_after : InquiryBudget → ℕ → InquiryBudget
budget_after budget now = record {
  second = now / 1000;
  given = if admits budget now then given_in budget (now / 1000) + 1 else given_in budget (now / 1000);
}

-- the reply to a peer goes to the last asker, if that is this peer
abbrev pub asker_of : Option Asker → Node → Option Asker
asker_of None peer = None
asker_of (Some asker) peer = if asker.node.0 == peer.0 then Some asker else None
