-- The numbers that C reads, and what they say.
use Rattle.std.specs.Prelude.{ℕ, ◌==◌, if◌then◌else◌}
use Rattle.cip_events.specs.declared.event.StepFault.TheVariants as fault
use Rattle.eip_c.specs.declared.status.CallStatus.{CallStatus}
use Rattle.eip_c.specs.declared.status.CallStatus.TheVariants.{Done, Fault, NoRoom, NoAnswer, BadLine, BadProfile, NoInquiry, LongName, Unknown}

-- the status of a number; 9 is given to none
abbrev pub status_of : ℕ → CallStatus
status_of n =
    if n == 0 then Done
    else if n == 1 then Fault fault.OutOfMemory
    else if n == 2 then Fault fault.TickTooLong
    else if n == 3 then Fault fault.ClockEnd
    else if n == 4 then Fault fault.NoSuchPoint
    else if n == 5 then Fault fault.WrongLength
    else if n == 6 then Fault fault.NoSuchSlot
    else if n == 7 then Fault fault.NotAllowedNow
    else if n == 8 then NoRoom
    else if n == 10 then NoAnswer
    else if n == 11 then BadLine
    else if n == 12 then BadProfile
    else if n == 13 then NoInquiry
    else if n == 14 then LongName
    else Unknown
