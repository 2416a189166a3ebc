-- What a station's port does with the inquiries that arrive. Times are in milliseconds.
use Rattle.std.specs.Prelude.{◌≡◌, ℕ, if◌then◌else◌, List, Option, Some, None}
use Rattle.station_port.specs.declared.inquiries.asking.Asker.{Asker}
use Rattle.station_port.specs.declared.inquiries.asking.InquirySocket.{InquirySocket}
use Rattle.station_port.specs.declared.inquiries.budget.InquiryBudget.{InquiryBudget}
use Rattle.station_port.specs.declared.inquiries.hold.HeldInquiry.{HeldInquiry}
use Rattle.station_port.specs.Inquiries.Asking.{admits, budget_after, is_broadcast}
use Rattle.station_port.specs.Inquiries.Holds.{GivesInquiry, InquiriesHeld, held_after}

-- AN INQUIRY ARRIVES

-- none that came by broadcast goes on at once; any other does, if the device may be given another one
abbrev pub given_at_once : InquirySocket → InquiryBudget → ℕ → List ℕ → Option (List ℕ)
given_at_once socket budget now request = if is_broadcast socket then None else (if admits budget now then Some request else None)

-- one that came by broadcast waits
abbrev pub held_of : InquirySocket → InquiriesHeld → ℕ → Asker → List ℕ → InquiriesHeld
held_of socket hold now asker request = if is_broadcast socket then held_after hold now asker request else hold

-- and is counted when the device is given it
abbrev pub budget_of : InquirySocket → InquiryBudget → ℕ → InquiryBudget
budget_of socket budget now = if is_broadcast socket then budget else budget_after budget now

-- where the inquiry came from that the device was given last
abbrev pub asker_after : InquirySocket → InquiryBudget → ℕ → Asker → Option Asker → Option Asker
asker_after socket budget now asker last = if is_broadcast socket then last else (if admits budget now then Some asker else last)

-- AN INQUIRY IS DUE

-- the first one that is due waits no longer: it is given, if the device may be given another one
pub record GivesDue (now : ℕ) (budget : InquiryBudget) (old : InquiriesHeld) (given : Option HeldInquiry) (new : InquiriesHeld) : Type 0 where
  pub first : HeldInquiry
  pub due : GivesInquiry now old first new
  pub is : given ≡ (if admits budget now then Some first else None)
