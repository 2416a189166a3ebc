-- What the answer to a datagram reports, and which slot the datagram is for.
use Rattle.std.specs.Prelude.{ℕ, Bool, true, false, Option, Some, None}
use Rattle.cip_events.specs.declared.event.Delivery.{Delivery}
use Rattle.cip_events.specs.declared.event.Delivery.TheVariants as delivery
use Rattle.cip_events.specs.declared.event.Verdict.{Verdict}
use Rattle.cip_events.specs.declared.event.Verdict.TheVariants.{Done, BadFrame, Ignored, Value, Replied, Delivered, Asked}
use Rattle.cip_events.specs.Answers.{is_accepted}
use Rattle.scanner_table.specs.Slots.{IndexedSlot, is_numbered}

abbrev pub is_applied : Delivery → Bool
is_applied delivery.Applied = true
is_applied delivery.Idle = false
is_applied delivery.Heartbeat = false
is_applied delivery.Duplicate = false
is_applied delivery.Old = false
is_applied delivery.UnknownId = false
is_applied delivery.WrongSize = false
is_applied delivery.Malformed = false

-- the answer reports that the data of a datagram were applied
abbrev pub reports_applied : Verdict → Bool
reports_applied Done = false
reports_applied BadFrame = false
reports_applied Ignored = false
reports_applied (Value bytes) = false
reports_applied (Replied number status additional content) = false
reports_applied (Asked number service class instance attribute content) = false
reports_applied (Delivered delivery) = is_applied delivery

-- the answer reports that a datagram was accepted
abbrev pub reports_accepted : Verdict → Bool
reports_accepted Done = false
reports_accepted BadFrame = false
reports_accepted Ignored = false
reports_accepted (Value bytes) = false
reports_accepted (Replied number status additional content) = false
reports_accepted (Asked number service class instance attribute content) = false
reports_accepted (Delivered delivery) = is_accepted delivery

-- the slot that the lookup found, if any, has this number
abbrev pub is_slots : ℕ → Option IndexedSlot → Bool
is_slots number None = false
is_slots number (Some indexed) = is_numbered number indexed
