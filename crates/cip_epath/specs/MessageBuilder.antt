-- The states of a walk over the path of a class 3 connection, and the next state by a segment. No public clause
-- cites this module.
use Rattle.std.specs.Prelude.{ℕ, ◌==◌, if◌then◌else◌, Option, Some, None, Result, Ok, Err}
use Rattle.std.specs.Option.{option_map}
use Rattle.cip_epath.specs.declared.message_path.MessageBuilder.{MessageBuilder}
use Rattle.cip_epath.specs.declared.message_path.MessageBuilder.TheVariants as builder
use Rattle.cip_epath.specs.declared.segment.LogicalType.TheVariants.{Class, Instance}
use Rattle.cip_epath.specs.declared.fault.PathFault.{PathFault}
use Rattle.cip_epath.specs.declared.fault.PathFault.TheVariants as fault
use Rattle.cip_epath.specs.ElectronicKey.{KeyFields, view_key}
use Rattle.cip_epath.specs.Segment.{SegmentValue, logical, key}

-- the segments that the path begins with, or one that is misplaced or of another object
pub data MessageBuilderValue : Type 0 where
  start : MessageBuilderValue
  keyed : KeyFields → MessageBuilderValue
  classed : Option KeyFields → MessageBuilderValue
  whole : Option KeyFields → MessageBuilderValue
  misplaced : MessageBuilderValue

-- the contents of a state of the program
abbrev pub view_message_builder : MessageBuilder → MessageBuilderValue
view_message_builder builder.Start = start
view_message_builder (builder.Keyed k) = keyed (view_key k)
view_message_builder (builder.Classed k) = classed (option_map view_key k)
view_message_builder (builder.Whole k) = whole (option_map view_key k)
view_message_builder builder.Misplaced = misplaced

-- the state after a class, behind an optional key
abbrev pub after_class : Option KeyFields → ℕ → MessageBuilderValue
after_class k class = if class == 2 then classed k else misplaced

-- the state after an instance of the message router's class
abbrev pub after_instance : Option KeyFields → ℕ → MessageBuilderValue
after_instance k instance = if instance == 1 then whole k else misplaced

-- the state after one more segment
abbrev pub next_message : SegmentValue → MessageBuilderValue → MessageBuilderValue
next_message (key k) start = keyed k
next_message (logical Class class) start = after_class None class
next_message (logical Class class) (keyed k) = after_class (Some k) class
next_message (logical Instance instance) (classed k) = after_instance k instance
next_message _ _ = misplaced

-- the key of a last state
abbrev pub message_of : MessageBuilderValue → Result (Option KeyFields) PathFault
message_of (whole k) = Ok k
message_of _ = Err fault.Shape
