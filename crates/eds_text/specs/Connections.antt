-- The connections that an adapter admits (Volume 1, chapter 3, application connection types).
use Rattle.std.specs.Prelude.{ℕ, Bool, if◌then◌else◌, List, [], ◌++◌, map, flat_map}
use Rattle.adapter_table.specs.declared.maker_limits.MakerLimits.{MakerLimits}
use Rattle.adapter_table.specs.declared.profile.OutputPoint.{OutputPoint}
use Rattle.adapter_table.specs.declared.profile.InputPoint.{InputPoint}
use Rattle.adapter_table.specs.declared.profile.Profile.{Profile}
use Rattle.cip_productions.specs.declared.kind.Kind.{Kind}
use Rattle.cip_productions.specs.declared.kind.Kind.TheVariants.{ExclusiveOwner, InputOnly, ListenOnly}
use Rattle.eds_text.specs.declared.connections.SheetConnection.{SheetConnection}
use Rattle.eds_text.specs.Offer.{has_place, offers_changes}

-- the exclusive owner of an output that consumes an input
abbrev pub owner_of : Bool → OutputPoint → InputPoint → SheetConnection
owner_of changes output input = record { kind = ExclusiveOwner; changes = changes; consumed = output.instance; o_t_len = output.len; produced = input.instance; t_o_len = input.len }

-- with each input
abbrev pub owners_of : Bool → List InputPoint → OutputPoint → List SheetConnection
owners_of changes inputs output = map (owner_of changes output) inputs

-- a connection to a heartbeat that consumes an input
abbrev pub reader_of : Bool → Kind → ℕ → InputPoint → SheetConnection
reader_of changes kind heartbeat input = record { kind = kind; changes = changes; consumed = heartbeat; o_t_len = 0; produced = input.instance; t_o_len = input.len }

-- the connections of a kind, if one can be established at all
abbrev pub offered : MakerLimits → Kind → List SheetConnection → List SheetConnection
offered limits kind cs = if has_place limits kind then cs else []

-- each pair of points by each kind that has places
abbrev pub connections_of : Profile → List SheetConnection
connections_of profile =
    offered profile.limits ExclusiveOwner (flat_map (owners_of (offers_changes profile.limits) profile.inputs) profile.outputs)
    ++ (offered profile.limits InputOnly (map (reader_of (offers_changes profile.limits) InputOnly profile.input_only) profile.inputs)
    ++ offered profile.limits ListenOnly (map (reader_of (offers_changes profile.limits) ListenOnly profile.listen_only) profile.inputs))
