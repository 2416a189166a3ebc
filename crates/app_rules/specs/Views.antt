-- The program's values with references, as the definitions see them.
use Rattle.std.specs.Prelude.{List}
use Rattle.std.specs.Option.{option_map}
use Rattle.cip_types.specs.declared.names.Triad.{Triad}
use Rattle.cip_epath.specs.Path.{view_path}
use Rattle.adapter_table.specs.Connections.{Row}
use Rattle.adapter_table.specs.Checks as checks
use Rattle.adapter_table.specs.Class3Opening as opening
use Rattle.app_rules.specs.declared.view.View.{View}
use Rattle.app_rules.specs.declared.view.Class3View.{Class3View}
use Rattle.app_rules.specs.declared.questions.NamedPoints.{NamedPoints}

-- the state that the checks of a request of the triad read, from the list of the connections
abbrev pub seen : {C : Type 0} → (C → List Row) → View C → Triad → checks.View
seen rows view triad = checks.view_at view.profile.now (option_map (λ lent. lent.now) view.config) (rows view.connections.now) view.ids_left view.talks triad

abbrev pub view_named_points : NamedPoints → checks.Points
view_named_points points = record { path = view_path points.path; consumer = points.consumer; input = points.input; group = points.group }

-- the state that the checks of a class 3 connection read
abbrev pub seen_class3_connections : Class3View → opening.Class3View
seen_class3_connections view = record {
  profile = view.profile.now;
  in_use = view.in_use;
  ids_left = view.ids_left;
  count = view.count;
  node_count = view.node_count;
  opened_enough = view.opened_enough;
}
