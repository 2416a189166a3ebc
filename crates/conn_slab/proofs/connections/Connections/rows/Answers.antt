use Rattle.std.proofs.Common.{◌∙◌, ap, map}
use Rattle.std.proofs.lemmas.List.{length-map}
use Rattle.std.specs.List.{filter_map}
use Rattle.slab.specs.Slab.{get}
use Rattle.conn_slab.specs.Records.{row_of}
use Rattle.conn_slab.proofs.Walk.{values_items, all_lead}
use Rattle.conn_slab.proofs.connections.Connections.rows.Goals as goal

pub invariant_of-result : goal.invariant_of-result
invariant_of-result c = rw c.values.ensures.rest (all_lead c.self.inside.records c.self.inside.by_triad.entries c.self.inside.by_source.entries c.self.inside.pool c.self.invariant)

pub returns-clause-rows : goal.returns-clause-rows
returns-clause-rows c = ap (map (row_of c.self.inside.pool)) (ap (filter_map (get c.self.inside.records)) c.values.ensures.rest ∙ values_items c.self.inside.records c.self.inside.by_triad.entries) ∙ c.self.view_is

pub returns-clause-few : goal.returns-clause-few
returns-clause-few c = rw (ap (filter_map (get c.self.inside.records)) c.values.ensures.rest ∙ values_items c.self.inside.records c.self.inside.by_triad.entries, length-map) c.self.invariant.few
