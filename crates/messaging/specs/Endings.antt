-- The ends of class 3 connections in their order, without what the order does not need.
use Rattle.std.specs.Prelude.{◌==◌, ◌&&◌, ◌||◌, nat_lt, Bool}
use Rattle.cip_types.specs.declared.names.Triad.{Triad}
use Rattle.messaging.specs.declared.class3.Class3Connection.{Class3Connection}
use Rattle.messaging.specs.declared.late.Class3End.{Class3End}

abbrev pub ending_of : Class3Connection → Class3End
ending_of d = record { triad = d.triad; deadline = d.deadline; opening = d.opening }

abbrev pub ending_triad : Class3End → Triad
ending_triad ending = ending.triad

-- by deadlines, and then in the order of openings
abbrev pub by_ending : Class3End → Class3End → Bool
by_ending ending other =
    nat_lt ending.deadline.0 other.deadline.0 || (ending.deadline.0 == other.deadline.0 && nat_lt ending.opening other.opening)
