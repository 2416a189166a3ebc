-- The kinds of connections (Volume 1, chapter 3, application connection types).
use Rattle.std.specs.Prelude.{Bool, true, false}
use Rattle.cip_productions.specs.declared.kind.Kind.{Kind}
use Rattle.cip_productions.specs.declared.kind.Kind.TheVariants.{ExclusiveOwner, InputOnly, ListenOnly}

abbrev pub is_owner : Kind → Bool
is_owner ExclusiveOwner = true
is_owner InputOnly = false
is_owner ListenOnly = false

abbrev pub is_listener : Kind → Bool
is_listener ExclusiveOwner = false
is_listener InputOnly = false
is_listener ListenOnly = true

abbrev pub same_kind : Kind → Kind → Bool
same_kind ExclusiveOwner ExclusiveOwner = true
same_kind InputOnly InputOnly = true
same_kind ListenOnly ListenOnly = true
same_kind a b = false
