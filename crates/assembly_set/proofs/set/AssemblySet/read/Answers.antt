use Rattle.std.proofs.Common.{List, ℕ, length, ◌∙◌, ap}
use Rattle.std.specs.Option.{option_map}
use Rattle.adapter_table.specs.declared.table.PointValue.{PointValue}
use Rattle.adapter_table.specs.Points.{bytes_at}
use Rattle.assembly_set.specs.Assemblies.{Assemblies}
use Rattle.adapter_table.specs.Shapes.{len_of}
use Rattle.adapter_table.specs.Fitting.{length_is}
use Rattle.assembly_set.proofs.Shaping.{lent_length, lent_short}
use Rattle.assembly_set.specs.declared.fault.PointFault.TheVariants.{NoSuchPoint}
use Rattle.assembly_set.proofs.set.AssemblySet.read.Goals as goal

pub returns-clause-length : goal.returns-clause-length
returns-clause-length c =
    let fields = c.self.inside in
    rw (← c.ok_or.ensures.ok_part)
    (lent_length c.find_value.result
    ∙ ap (option_map (λ (bytes : List ℕ). length bytes)) (c.find_value.ensures ∙ ap (λ (values : List PointValue). bytes_at values c.args.point) c.deref.ensures.value)
    ∙ length_is fields.profile fields.values.items c.args.point c.self.invariant
    ∙ ap (λ (set : Assemblies). len_of set.profile c.args.point) c.self.view_is)

pub returns-clause-short : goal.returns-clause-short
returns-clause-short c =
    let fields = c.self.inside in
    lent_short fields.profile fields.values.items c.deref.result.now c.args.point c.find_value.result NoSuchPoint c.ok_or.result c.self.invariant c.deref.ensures.value c.find_value.ensures c.ok_or.ensures.value
