-- The states of a walk over a path, and the next state by a segment. No public clause cites this module.
use Rattle.std.specs.Prelude.{ℕ, List, Option, Some, None, Result, Ok, Err}
use Rattle.std.specs.Option.{option_map}
use Rattle.cip_epath.specs.declared.builder.PathBuilder.{PathBuilder}
use Rattle.cip_epath.specs.declared.builder.PathBuilder.TheVariants as builder
use Rattle.cip_epath.specs.declared.builder.Inhibits.{Inhibits}
use Rattle.cip_epath.specs.declared.builder.Inhibits.TheVariants as count
use Rattle.cip_epath.specs.declared.builder.PathHead.{PathHead}
use Rattle.cip_epath.specs.declared.builder.TargetBuilder.{TargetBuilder}
use Rattle.cip_epath.specs.declared.builder.TargetBuilder.TheVariants as target
use Rattle.cip_epath.specs.declared.path.Target.{Target}
use Rattle.cip_epath.specs.declared.segment.LogicalType.TheVariants.{Class, Instance, Attribute}
use Rattle.cip_epath.specs.declared.fault.PathFault.{PathFault}
use Rattle.cip_epath.specs.declared.fault.PathFault.TheVariants as fault
use Rattle.cip_epath.specs.ElectronicKey.{KeyFields, view_key}
use Rattle.cip_epath.specs.Segment.{SegmentValue, logical}
use Rattle.cip_epath.specs.Path.{PathFields, Role, key_role, class_role, point_role, data_role}

-- the front of a path: an optional key, and the class
pub record PathHeadFields : Type 0 where
  pub key : Option KeyFields
  pub class : ℕ

-- the contents of a front of the program
abbrev pub view_path_head : PathHead → PathHeadFields
view_path_head h = record { key = option_map view_key h.key; class = h.class }

-- the segments that a path begins with, or one that is misplaced
pub data PathBuilderValue : Type 0 where
  start : PathBuilderValue
  keyed : KeyFields → PathBuilderValue
  classed : PathHeadFields → PathBuilderValue
  one : PathHeadFields → ℕ → PathBuilderValue
  two : PathHeadFields → ℕ → ℕ → PathBuilderValue
  three : PathHeadFields → ℕ → ℕ → ℕ → PathBuilderValue
  whole : PathHeadFields → Option ℕ → ℕ → ℕ → List ℕ → PathBuilderValue
  misplaced : PathBuilderValue

-- the contents of a state of the program
abbrev pub view_path_builder : PathBuilder → PathBuilderValue
view_path_builder builder.Start = start
view_path_builder (builder.Keyed k) = keyed (view_key k)
view_path_builder (builder.Classed h) = classed (view_path_head h)
view_path_builder (builder.One h a) = one (view_path_head h) a
view_path_builder (builder.Two h a b) = two (view_path_head h) a b
view_path_builder (builder.Three h a b c) = three (view_path_head h) a b c
view_path_builder (builder.Whole h config consumed produced lent) = whole (view_path_head h) config consumed produced lent.now
view_path_builder builder.Misplaced = misplaced

-- the state after one more role
abbrev pub next : Role → PathBuilderValue → PathBuilderValue
next (key_role k) start = keyed k
next (class_role c) start = classed (record { key = None; class = c })
next (class_role c) (keyed k) = classed (record { key = Some k; class = c })
next (point_role a) (classed h) = one h a
next (point_role b) (one h a) = two h a b
next (point_role c) (two h a b) = three h a b c
next (data_role d) (two h a b) = whole h None a b d
next (data_role d) (three h a b c) = whole h (Some a) b c d
next _ _ = misplaced

-- the state after one more segment, by its role
abbrev pub next_if : Option Role → PathBuilderValue → PathBuilderValue
next_if None d = d
next_if (Some r) d = next r d

-- the count of inhibit segments after one more segment, by its time
abbrev pub next_count : Option ℕ → Inhibits → Inhibits
next_count None n = n
next_count (Some ms) count.Nothing = count.One ms
next_count (Some ms) (count.One other) = count.Several
next_count (Some ms) count.Several = count.Several

-- the path of a last state
abbrev pub path_with : Option ℕ → PathBuilderValue → Result PathFields PathFault
path_with ms (two h consumed produced) =
    Ok (record { key = h.key; inhibit = ms; class = h.class; config = None; consumed = consumed; produced = produced; segment = None })
path_with ms (three h config consumed produced) =
    Ok (record { key = h.key; inhibit = ms; class = h.class; config = Some config; consumed = consumed; produced = produced; segment = None })
path_with ms (whole h config consumed produced content) =
    Ok (record { key = h.key; inhibit = ms; class = h.class; config = config; consumed = consumed; produced = produced; segment = Some content })
path_with ms _ = Err fault.Shape

-- the path of a last state and its inhibit segments
abbrev pub path_of : Inhibits → PathBuilderValue → Result PathFields PathFault
path_of count.Nothing d = path_with None d
path_of (count.One ms) d = path_with (Some ms) d
path_of count.Several d = Err fault.Shape

-- ---- a request's target

-- the state after one more segment
abbrev pub next_target : SegmentValue → TargetBuilder → TargetBuilder
next_target (logical Class c) target.Start = target.Classed c
next_target (logical Instance i) (target.Classed c) = target.Instanced c i
next_target (logical Attribute a) (target.Instanced c i) = target.Whole c i a
next_target _ _ = target.Misplaced

-- the target of a last state
abbrev pub target_of : TargetBuilder → Result Target PathFault
target_of (target.Instanced c i) = Ok (record { class = c; instance = i; attribute = None })
target_of (target.Whole c i a) = Ok (record { class = c; instance = i; attribute = Some a })
target_of _ = Err fault.Shape
