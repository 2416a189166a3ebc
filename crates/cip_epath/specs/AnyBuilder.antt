-- The states of a walk over a path in any form, and the next state by a role. No public clause cites this module.
use Rattle.std.specs.Prelude.{ℕ, ◌==◌, if◌then◌else◌, Option, Some, None, Result, Err}
use Rattle.cip_epath.specs.declared.any_path.AnyBuilder.{AnyBuilder}
use Rattle.cip_epath.specs.declared.any_path.AnyBuilder.TheVariants as builder
use Rattle.cip_epath.specs.declared.builder.Inhibits.{Inhibits}
use Rattle.cip_epath.specs.declared.fault.PathFault.{PathFault}
use Rattle.cip_epath.specs.declared.fault.PathFault.TheVariants as fault
use Rattle.cip_epath.specs.Path.{PathFields, Role, class_role, point_role}
use Rattle.cip_epath.specs.PathBuilder.{PathHeadFields, PathBuilderValue, one, two, three, misplaced, view_path_head, view_path_builder, next, path_of}

-- a path in the compressed form so far, or one whose class was said again behind its first or its second point
pub data AnyBuilderValue : Type 0 where
  plain : PathBuilderValue → AnyBuilderValue
  one_again : PathHeadFields → ℕ → AnyBuilderValue
  two_again : PathHeadFields → ℕ → ℕ → AnyBuilderValue

-- the contents of a state of the program
abbrev pub view_any_builder : AnyBuilder → AnyBuilderValue
view_any_builder (builder.Plain d) = plain (view_path_builder d)
view_any_builder (builder.OneAgain h a) = one_again (view_path_head h) a
view_any_builder (builder.TwoAgain h a b) = two_again (view_path_head h) a b

-- the state after a class
abbrev pub after_class : ℕ → PathBuilderValue → AnyBuilderValue
after_class class (one h a) = if class == h.class then one_again h a else plain misplaced
after_class class (two h a b) = if class == h.class then two_again h a b else plain misplaced
after_class class d = plain (next (class_role class) d)

-- the state after one more role
abbrev pub next_any : Role → AnyBuilderValue → AnyBuilderValue
next_any (class_role class) (plain d) = after_class class d
next_any role (plain d) = plain (next role d)
next_any (point_role b) (one_again h a) = plain (two h a b)
next_any (point_role c) (two_again h a b) = plain (three h a b c)
next_any _ _ = plain misplaced

-- the state after one more segment, by its role
abbrev pub next_any_if : Option Role → AnyBuilderValue → AnyBuilderValue
next_any_if None d = d
next_any_if (Some r) d = next_any r d

-- the path of a last state and its inhibit segments
abbrev pub any_path_of : Inhibits → AnyBuilderValue → Result PathFields PathFault
any_path_of n (plain d) = path_of n d
any_path_of n _ = Err fault.Shape
